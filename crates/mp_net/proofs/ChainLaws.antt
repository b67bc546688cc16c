-- The net of one rule is a net.
use Rattle.std.proofs.Common.{◌≡◌, ◌≤◌, ◌<◌, ℕ, zero, suc, ◌+◌, List, [], ◌∷◌, ◌++◌, Bool, true, false, ◌||◌, refl, ap}
use Rattle.std.proofs.Common.{sym, ◌∙◌, subst, length, drop, map, arith}
use Rattle.std.specs.Prelude.{Some, None, if◌then◌else◌, slice_get, option_map}
use Rattle.std.specs.List.{filter_map, cons_option, AllByRecursion}
use Rattle.std.specs.List.Sorted.{IsStrictlySortedBy}
use Rattle.std.proofs.lemmas.List.{length-map}
use Rattle.mp_net.specs.declared.build.Net.{Net}
use Rattle.mp_net.specs.declared.mark.Mark as code
use Rattle.mp_net.specs.View.{turn_of}
use Rattle.mp_net.specs.Turned.{AreAscending}
use Rattle.mp_net.specs.Net.{Mark, named, entered, anything, same_mark, Open, below, behind, Turn}
use Rattle.mp_net.specs.Net.{nowhere, Leads, IsNet}
use Rattle.mp_net.specs.NetOf.{asking_turn, ended, accepted, IsState, IsNetOf}
use Rattle.mp_net.specs.Chain.{single, chain_rules, asking_turns, chain_turns}
use Rattle.mp_net.proofs.ItemLaws.{held-drop, drop-next}
use Rattle.mp_net.specs.declared.limits.TheConstants.{MAX_STATES}

-- a rule that asks for a head next
edge-leads : (rules : List (List Open)) (q r : ℕ) (g : Mark) (m : List Mark)
    → ((h : Mark) → below h (g ∷ m) ≡ if same_mark g h then Some m else None) → behind (g ∷ m) ≡ None
    → slice_get rules q ≡ Some (single r m)
    → Leads rules (single r (g ∷ m)) (record { edges = (g, q) ∷ []; other = None })
edge-leads rules q r g m b e held = record {
  asked = λ h n. asked_by (same_mark g h) n;
  down = λ h k n. down_by (same_mark g h) k n
      ∙ ap (λ o. Some (cons_option (option_map (λ l. record { rule = r; rest = l }) o) [])) (sym (b h));
  over = ap (λ o. cons_option (option_map (λ l. record { rule = r; rest = l }) o) []) e;
}
  where
    asked_by : (b : Bool) → (if b then Some q else None) ≡ None → (b || false) ≡ false
    asked_by true n = cc
    asked_by false n = refl

    down_by : (b : Bool) (k : ℕ) → (if b then Some q else None) ≡ Some k
        → slice_get rules k
        ≡ Some (cons_option (option_map (λ l. record { rule = r; rest = l }) (if b then Some m else None)) [])
    down_by true k n = let s : q ≡ k = cc in subst (λ j. slice_get rules j ≡ Some (single r m)) s held
    down_by false k n = cc

-- a rule that asks nothing of the next place
over-leads : (rules : List (List Open)) (q r : ℕ) (m : List Mark) → slice_get rules q ≡ Some (single r m)
    → Leads rules (single r (anything ∷ m)) (record { edges = []; other = Some q })
over-leads rules q r m held = record { asked = λ h n. refl; down = λ h k n. cc; over = held }

asking-leads : (rules : List (List Open)) (q r : ℕ) (g : Mark) (m : List Mark) → slice_get rules q ≡ Some (single r m)
    → Leads rules (single r (g ∷ m)) (asking_turn g q)
asking-leads rules q r (named n) m held = edge-leads rules q r (named n) m (λ h. refl) refl held
asking-leads rules q r (entered f k) m held = edge-leads rules q r (entered f k) m (λ h. refl) refl held
asking-leads rules q r anything m held = over-leads rules q r m held

-- a rule that asks nothing more
end-leads : (rules : List (List Open)) (r : ℕ) → Leads rules (single r []) nowhere
end-leads rules r = record { asked = λ h n. refl; down = λ h k n. cc; over = refl }

first-chain : (r : ℕ) (m : List Mark) → slice_get (chain_rules r m) 0 ≡ Some (single r m)
first-chain r [] = refl
first-chain r (g ∷ m) = refl

drop-chain : (rules : List (List Open)) (q r : ℕ) (m : List Mark) → drop q rules ≡ chain_rules r m
    → slice_get rules q ≡ Some (single r m)
drop-chain rules q r [] e = held-drop rules q (single r []) [] e
drop-chain rules q r (g ∷ m) e = held-drop rules q (single r (g ∷ m)) (chain_rules r m) e

chain-lead : (rules : List (List Open)) (q r : ℕ) (m : List Mark) → drop q rules ≡ chain_rules r m
    → (k : ℕ) (t : Turn) (os : List Open) → slice_get (chain_turns q m) k ≡ Some t
    → slice_get (chain_rules r m) k ≡ Some os → Leads rules os t
chain-lead rules q r [] e zero t os a b =
    let s : nowhere ≡ t = let w : Some nowhere ≡ Some t = a in cc in
    let o : single r [] ≡ os = let w : Some (single r []) ≡ Some os = b in cc in
    subst (λ u. Leads rules u t) o (subst (λ u. Leads rules (single r []) u) s (end-leads rules r))
chain-lead rules q r [] e (suc k) t os a b = cc
chain-lead rules q r (g ∷ m) e zero t os a b =
    let s : asking_turn g (suc q) ≡ t = let w : Some (asking_turn g (suc q)) ≡ Some t = a in cc in
    let o : single r (g ∷ m) ≡ os = let w : Some (single r (g ∷ m)) ≡ Some os = b in cc in
    let next = drop-chain rules (suc q) r m (drop-next rules q (single r (g ∷ m)) (chain_rules r m) e) in
    subst (λ u. Leads rules u t) o
    (subst (λ u. Leads rules (single r (g ∷ m)) u) s (asking-leads rules (suc q) r g m next))
chain-lead rules q r (g ∷ m) e (suc k) t os a b =
    chain-lead rules (suc q) r m (drop-next rules q (single r (g ∷ m)) (chain_rules r m) e) k t os a b

length-chain : (q r : ℕ) (m : List Mark) → length (chain_turns q m) ≡ length (chain_rules r m)
length-chain q r [] = refl
length-chain q r (g ∷ m) = ap (λ n. suc n) (length-chain (suc q) r m)

pub chain-net : (r : ℕ) (m : List Mark) → IsNet (chain_rules r m) (chain_turns 0 m)
chain-net r m = record {
  all = length-chain 0 r m;
  lead = λ q t os a b. chain-lead (chain_rules r m) 0 r m refl q t os a b;
}

-- the turns of the marks, and the one behind them
pub asking-chain : (q : ℕ) (m : List Mark) → asking_turns q m ++ nowhere ∷ [] ≡ chain_turns q m
asking-chain q [] = refl
asking-chain q (g ∷ m) = ap (λ ts. asking_turn g (suc q) ∷ ts) (asking-chain (suc q) m)

-- so many empty lists
abbrev pub nones : List Mark → List (List ℕ)
nones m = map (λ g. []) m

-- the rule is accepted in the last state alone
pub chain-accepted : (r : ℕ) (m : List Mark) → map (filter_map ended) (chain_rules r m) ≡ nones m ++ (r ∷ []) ∷ []
chain-accepted r [] = refl
chain-accepted r (g ∷ m) = ap (λ ns. [] ∷ ns) (chain-accepted r m)

-- a state for each mark, and one more
pub length-turns : (q : ℕ) (m : List Mark) → length (chain_turns q m) ≡ length m + 1
length-turns q [] = refl
length-turns q (g ∷ m) = let e = length-turns (suc q) m in omega (arith, e)

-- no head or one ascends
pub few-ascending : (hs : List code.Mark) → length hs ≤ 1 → AreAscending hs
unfolding IsStrictlySortedBy
few-ascending [] h = tt
few-ascending (k ∷ []) h = (tt, tt)
few-ascending (k ∷ (j ∷ hs)) h = absurd (omega (arith, h))

-- states that lead so and accept so are the net of the rule
pub chain-net_of : (r : ℕ) (m : List Mark) (n : Net) → map turn_of n.states.items ≡ chain_turns 0 m
    → map accepted n.states.items ≡ nones m ++ (r ∷ []) ∷ [] → length m < MAX_STATES
    → AllByRecursion IsState n.states.items → IsNetOf (single r m) n
chain-net_of r m n turns takes few states =
    let count = sym (length-map n.states.items turn_of) ∙ ap length turns ∙ length-turns 0 m in
    record {
      rules = chain_rules r m;
      net = subst (IsNet (chain_rules r m)) (sym turns) (chain-net r m);
      start = first-chain r m;
      accepted = takes ∙ sym (chain-accepted r m);
      few = omega (arith, count, few);
      states = states;
    }
