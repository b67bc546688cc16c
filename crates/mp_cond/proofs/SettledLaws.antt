-- The values of settled operands.
use Rattle.std.proofs.Common.{◌≡◌, ℕ, suc, ◌+◌, true, false, List, [], ◌∷◌, ◌++◌, refl, ap, sym, ◌∙◌, arith}
use Rattle.std.specs.Prelude.{Option, Some, None, option_map, position, if◌then◌else◌}
use Rattle.std.specs.List.{AllByRecursion, list_all}
use Rattle.std.proofs.lemmas.Bool.{and_parts}
use Rattle.std.proofs.lemmas.Option.{get_or_from_slice_get}
use Rattle.mp_term.specs.Tree.{Tree, symbol}
use Rattle.mp_term.proofs.SignatureLaws.{position-first, position-behind}
use Rattle.mp_term.proofs.ListLaws.{some-same}
use Rattle.mp_pattern.specs.CondTree.{Operand}
use Rattle.mp_pattern.specs.Plan.{Variable}
use Rattle.mp_pattern.specs.Value.{Subst, same_name, value_of}
use Rattle.mp_pattern.proofs.NameLaws.{same_name-swap}
use Rattle.mp_table.specs.Table.{Table, IsTable, term_at, rank_of}
use Rattle.mp_table.specs.declared.rank.Rank.{Rank}
use Rattle.mp_table.proofs.RankLaws.{slice_get-rank_of}
use Rattle.mp_subst.specs.Bound.{Bound, value_in}
use Rattle.mp_subst.specs.Trail.{TrailEntry, Trail, last_value, GoesWith, bindings_from, subst_in}
use Rattle.mp_cond.specs.declared.ranks.Ranks.{Ranks}
use Rattle.mp_cond.specs.Verdict.{is_settled, IsHeld}
use Rattle.mp_cond.specs.Ranked.{bound_at, subst_of, IsOperandIn}

-- the position behind the first item
record Moved (o : Option ℕ) (n : ℕ) : Type 0 where
  pub place : ℕ
  pub is : o ≡ Some place
  pub next : n ≡ place + 1

moved : (o : Option ℕ) (n : ℕ) → option_map (λ i. i + 1) o ≡ Some n → Moved o n
moved None n e = cc
moved (Some m) n e = record { place = m; is = refl; next = cc }

module _ (t : Table) (es : List TrailEntry) (x : List ℕ) where
  -- the variable y with the value that it has, if it has one, before other bindings
  abbrev pub with_value : Variable → Subst → Option Bound → Subst
  with_value y s o = elim o [ None ↦ [] | Some d ↦ record { name = y.name; value = value_in t d } ∷ [] ] ++ s

  first_value : (y : Variable) (s : Subst) (o : Option Bound) (b : Bound) → same_name x y.name ≡ true → o ≡ Some b
      → value_of (with_value y s o) x ≡ Some (value_in t b)
  first_value y s o b q e =
      ap (λ p. value_of (with_value y s p) x) e
      ∙ ap (λ v. if v then Some (value_in t b) else value_of s x) (same_name-swap y.name x ∙ q)

  pub later_value : (y : Variable) (s : Subst) (o : Option Bound) → same_name x y.name ≡ false
      → value_of (with_value y s o) x ≡ value_of s x
  later_value y s None q = refl
  later_value y s (Some d) q =
      ap (λ v. if v then Some (value_in t d) else value_of s x) (same_name-swap y.name x ∙ q)

  -- the value of the first variable of that name, where it is bound
  pub value_of-bindings : (xs : List Variable) (k n : ℕ) (b : Bound) → position (λ v. same_name x v.name) xs ≡ Some n
      → last_value es (k + n) ≡ Some b → value_of (bindings_from t es k xs) x ≡ Some (value_in t b)
  value_of-bindings [] k n b p l = cc
  value_of-bindings (y ∷ ys) k n b p l =
      elim (same_name x y.name) as (λ v. same_name x y.name ≡ v
      → value_of (bindings_from t es k (y ∷ ys)) x ≡ Some (value_in t b)) [
        | true ↦ λ q.
            let first : 0 ≡ n = some-same 0 n (sym (position-first (λ v. same_name x v.name) y ys q) ∙ p) in
            let here : k ≡ k + n = omega (arith, first) in
            first_value y (bindings_from t es (suc k) ys) (last_value es k) b q (ap (last_value es) here ∙ l)
        | false ↦ λ q.
            let m = moved _ n (sym (position-behind (λ v. same_name x v.name) y ys q) ∙ p) in
            let after : suc k + m.place ≡ k + n = omega (arith, m.next) in
            later_value y (bindings_from t es (suc k) ys) (last_value es k) q
            ∙ value_of-bindings ys (suc k) m.place b m.is (ap (last_value es) after ∙ l)
      ] refl

-- a bound variable's value
pub value_of-bound_at : (t : Table) (trail : Trail) (xs : List Variable) (x : List ℕ) (n : ℕ) (b : Bound)
    → position (λ y. same_name x y.name) xs ≡ Some n → last_value trail.stack n ≡ Some b
    → value_of (subst_in t xs trail) x ≡ Some (value_in t b)
value_of-bound_at t trail xs x n b p e =
    let start : 0 + n ≡ n = omega arith in
    value_of-bindings t trail.stack x xs 0 n b p (ap (last_value trail.stack) start ∙ e)

pub value_of-bound : (v : Ranks) (x : List ℕ) (o : Option ℕ) (b : Bound)
    → position (λ y. same_name x y.name) v.plan.now.variables ≡ o → bound_at v.trail.now o ≡ Some b
    → value_of (subst_of v) x ≡ Some (value_in v.table.now b)
value_of-bound v x None b p e = cc
value_of-bound v x (Some n) b p e = value_of-bound_at v.table.now v.trail.now v.plan.now.variables x n b p e

-- a term that the table holds
pub term_at-found : (t : Table) (u : Tree) (r : Rank) → rank_of t u ≡ Some r.0 → u ≡ term_at t r
term_at-found t u r e = sym (get_or_from_slice_get t.terms r.0 u (symbol []) (slice_get-rank_of t u r.0 e))

-- the operands of a condition can be asked for
pub are_operands_in : (v : Ranks) → IsTable v.table.now → GoesWith v.table.now v.trail.now → (xs : List Operand)
    → AllByRecursion (IsHeld v.table.now) xs → list_all (is_settled v.plan.now v.trail.now) xs ≡ true
    → AllByRecursion (IsOperandIn v) xs
are_operands_in v is goes [] h e = tt
are_operands_in v is goes (x ∷ xs) h e =
    let parts = and_parts _ _ e in (
      record { table = is; trail = goes; held = h.0; settled = parts.0 },
      are_operands_in v is goes xs h.1 parts.1,
    )
