-- Each state of the tree but the first is the target of another one.
use Rattle.std.proofs.Common.{◌≡◌, ◌<◌, ◌≤◌, ℕ, zero, suc, ◌+◌, List, [], ◌∷◌, ◌++◌, length, refl, ap, sym, inl, inr}
use Rattle.std.proofs.Common.{subst, arith}
use Rattle.std.specs.Prelude.{flat_map, option_to_list}
use Rattle.std.proofs.lemmas.Grind.{flat_map-append}
use Rattle.std.proofs.lemmas.List.{length-append}
use Rattle.mp_term.specs.Listing.{In}
use Rattle.mp_term.proofs.SearchLaws.{in-left, in-right}
use Rattle.mp_term.proofs.TestLaws.{below_or_not}
use Rattle.mp_pattern.specs.NetTokens.{NetToken}
use Rattle.mp_walk.specs.Instrs.{Instr, targets}
use Rattle.mp_many.specs.Prefixes.{heads}
use Rattle.mp_many.specs.Laid.{Numbered, bare, left_after, ended, target, each_laid, laid}

-- each number behind the first one is a target
abbrev pub AreTargets : ℕ → List Instr → Type 0
AreTargets n is = (m : ℕ) → n < m → m < n + length is → In m (flat_map targets is)

target-in : {X : Type 0} (n : ℕ) (xs : List X) → 1 ≤ length xs → In n (option_to_list (target n xs))
target-in n [] h = absurd (omega (arith, h))
target-in n (x ∷ xs) h = inl refl

-- a state, those below it and those that come behind them
row-targets : (row : Instr) (states rest : List Instr) (n : ℕ) (ks : List NetToken) → row.down ≡ target (suc n) states
    → row.over ≡ target (suc n + length states) ks → (ks ≡ [] → rest ≡ []) → AreTargets (suc n) states
    → AreTargets (suc n + length states) rest → AreTargets n (row ∷ (states ++ rest))
row-targets row states rest n ks down over none inside beside m low high =
    elim (below_or_not m (suc n + length states)) [
      | inl h ↦ elim (below_or_not (suc n) m) [
        | inl k ↦ behind (in-left m (flat_map targets states) (flat_map targets rest) (inside m k h))
        | inr k ↦
            let e : suc n ≡ m = omega (arith, k, low) in
            own (in-left m (option_to_list row.down) (option_to_list row.over)
            (subst (λ o. In m (option_to_list o)) (sym down)
            (subst (λ z. In z (option_to_list (target (suc n) states))) e
            (target-in (suc n) states (omega (arith, h, e))))))
      ]
      | inr h ↦ elim (below_or_not (suc n + length states) m) [
        | inl k ↦ behind (in-right m (flat_map targets states) (flat_map targets rest)
            (beside m k (omega (arith, high, length-append states rest))))
        | inr k ↦
            let e : suc n + length states ≡ m = omega (arith, k, h) in
            own (in-right m (option_to_list row.down) (option_to_list row.over)
            (subst (λ o. In m (option_to_list o)) (sym over)
            (subst (λ z. In z (option_to_list (target (suc n + length states) ks))) e
            (target-in (suc n + length states) ks
            (some ks none (omega (arith, high, length-append states rest, e)))))))
      ]
    ]
  where
    own : In m (targets row) → In m (targets row ++ flat_map targets (states ++ rest))
    own i = in-left m (targets row) (flat_map targets (states ++ rest)) i

    behind : In m (flat_map targets states ++ flat_map targets rest)
        → In m (targets row ++ flat_map targets (states ++ rest))
    behind i = in-right m (targets row) (flat_map targets (states ++ rest))
        (subst (In m) (sym (flat_map-append targets states rest)) i)

    some : (js : List NetToken) → (js ≡ [] → rest ≡ []) → 1 ≤ length rest → 1 ≤ length js
    some [] f h = absurd (let e : length rest ≡ 0 = ap (λ l. length l) (f refl) in omega (arith, e, h))
    some (j ∷ js) f h = omega arith

each-targets : (below : List Numbered → ℕ → List Instr) → ((ls : List Numbered) (n : ℕ) → AreTargets n (below ls n))
    → (ls : List Numbered) (ks : List NetToken) (n : ℕ) → AreTargets n (each_laid below ls ks n)
each-targets below ih ls [] n = λ m low high. absurd (omega (arith, low, high))
each-targets below ih ls (k ∷ ks) n =
    let left = left_after k ls in
    let states = below left (suc n) in
    row-targets (record {
      token = k;
      down = target (suc n) states;
      over = target (suc n + length states) ks;
      accepts = flat_map ended left;
    }) states (each_laid below ls ks (suc n + length states)) n ks refl refl
    (λ e. ap (λ js. each_laid below ls js (suc n + length states)) e) (ih left (suc n))
    (each-targets below ih ls ks (suc n + length states))

-- the states of the prefixes of lists
pub laid-targets : (d : ℕ) (ls : List Numbered) (n : ℕ) → AreTargets n (laid d ls n)
laid-targets zero ls n = λ m low high. absurd (omega (arith, low, high))
laid-targets (suc d) ls n = each-targets (laid d) (laid-targets d) ls (heads (bare ls)) n
