-- Where each variable of a plan has a value of its form, each condition over the plan's variables is settled.
use Rattle.std.proofs.Common.{◌≡◌, ℕ, suc, ◌+◌, true, false, ◌||◌, List, [], ◌∷◌, map, refl, ap, sym, ◌∙◌}
use Rattle.std.proofs.Common.{arith}
use Rattle.std.specs.Prelude.{Option, Some, None, option_map, position, slice_get, ◌&&◌}
use Rattle.std.specs.List.{AllByRecursion, list_all}
use Rattle.mp_pattern.specs.CondTree.{Operand, var, ground, Cond}
use Rattle.mp_pattern.specs.Firsts.{is_known}
use Rattle.mp_pattern.specs.Operands.{operands, IsOperandOver, IsConditionOver}
use Rattle.mp_pattern.specs.Plan.{Variable, Plan}
use Rattle.mp_pattern.specs.Value.{Form, one_form, seq_form, bag_form, form_of, same_name, value_of}
use Rattle.mp_pattern.proofs.NameLaws.{same_name-is}
use Rattle.mp_table.specs.Table.{Table}
use Rattle.mp_subst.specs.Bound.{Bound, value_in}
use Rattle.mp_subst.specs.Trail.{TrailEntry, Trail, last_value, bindings_from, subst_in}
use Rattle.mp_cond.specs.Verdict.{same_form, is_in_form, is_bound_in_form, is_settled, are_settled}
use Rattle.mp_cond.specs.Complete.{AreFirst, IsComplete}
use Rattle.mp_cond.proofs.ExtensionLaws.{form_of-value_in}
use Rattle.mp_cond.proofs.SettledLaws.{with_value, later_value, value_of-bound_at}
use Rattle.mp_term.proofs.ListLaws.{some-same, all-get}

-- the place of a known name
record Found (xs : List Variable) (y : List ℕ) : Type 0 where
  pub number : ℕ
  pub variable : Variable
  pub there : slice_get xs number ≡ Some variable
  pub name : variable.name ≡ y

found : (xs : List Variable) (y : List ℕ) → is_known same_name (map (λ v. v.name) xs) y ≡ true → Found xs y
found [] y h = cc
found (x ∷ xs) y h =
    elim (same_name x.name y) as (λ b. same_name x.name y ≡ b
    → (b || is_known same_name (map (λ v. v.name) xs) y) ≡ true → Found (x ∷ xs) y) [
      | true ↦ λ e k. record { number = 0; variable = x; there = refl; name = same_name-is x.name y e }
      | false ↦ λ e k.
          let f = found xs y k in
          record { number = suc f.number; variable = f.variable; there = f.there; name = f.name }
    ] refl h

form-same : (f g : Form) → Some f ≡ Some g → f ≡ g
form-same f g e = cc

-- a name whose variables are unbound has no value
value_of-unbound : (t : Table) (es : List TrailEntry) (y : List ℕ) (xs : List Variable) (k : ℕ)
    → ((i : ℕ) (x : Variable) → slice_get xs i ≡ Some x → same_name y x.name ≡ true → last_value es (k + i) ≡ None)
    → value_of (bindings_from t es k xs) y ≡ None
value_of-unbound t es y [] k h = refl
value_of-unbound t es y (x ∷ xs) k h =
    let rest : value_of (bindings_from t es (suc k) xs) y ≡ None =
    value_of-unbound t es y xs (suc k) (λ i z at same.
    let next : suc k + i ≡ k + suc i = omega arith in
    ap (last_value es) next ∙ h (suc i) z at same) in
    elim (same_name y x.name) as (λ b. same_name y x.name ≡ b
    → value_of (bindings_from t es k (x ∷ xs)) y ≡ None) [
      | true ↦ λ e.
          let start : k ≡ k + 0 = omega arith in
          ap (λ o. value_of (with_value t es y x (bindings_from t es (suc k) xs) o) y)
          (ap (last_value es) start ∙ h 0 x refl e) ∙ rest
      | false ↦ λ e. later_value t es y x (bindings_from t es (suc k) xs) (last_value es k) e ∙ rest
    ] refl

pub same_form-itself : (f : Form) → same_form f f ≡ true
same_form-itself one_form = refl
same_form-itself seq_form = refl
same_form-itself bag_form = refl

module _ (t : Table) (p : Plan) (trail : Trail) (firsts : AreFirst p.variables) (complete : IsComplete t p trail) where
  -- another variable of the name is the same one
  only : (n : ℕ) (x : Variable) → slice_get p.variables n ≡ Some x → (i : ℕ) (z : Variable)
      → slice_get p.variables i ≡ Some z → same_name x.name z.name ≡ true → n ≡ i
  only n x at i z here same =
      some-same n i (sym (firsts n x at)
      ∙ ap (λ y. position (λ v. same_name y v.name) p.variables) (same_name-is x.name z.name same)
      ∙ firsts i z here)

  settled_at : (n : ℕ) (x : Variable) → slice_get p.variables n ≡ Some x → is_bound_in_form p trail (Some n) ≡ true
  settled_at n x at = by_bound (last_value trail.stack n) refl
    where
      form : option_map form_of (value_of (subst_in t p.variables trail) x.name) ≡ Some x.form
      form = all-get (λ v. option_map form_of (value_of (subst_in t p.variables trail) v.name) ≡ Some v.form)
          p.variables n x complete at

      by_bound : (o : Option Bound) → last_value trail.stack n ≡ o → is_bound_in_form p trail (Some n) ≡ true
      by_bound None e =
          let unbound : value_of (subst_in t p.variables trail) x.name ≡ None =
          value_of-unbound t trail.stack x.name p.variables 0 (λ i z here same.
          let start : 0 + i ≡ n = omega (arith, only n x at i z here same) in ap (last_value trail.stack) start ∙ e) in
          let wrong : None ≡ Some x.form = sym (ap (option_map form_of) unbound) ∙ form in cc
      by_bound (Some b) e =
          let value : Some (form_of (value_in t b)) ≡ Some x.form =
          sym (ap (option_map form_of) (value_of-bound_at t trail p.variables x.name n b (firsts n x at) e))
          ∙ form in
          let same : b.form ≡ x.form = sym (form_of-value_in t b) ∙ form-same _ _ value in
          ap (λ o. is_in_form (option_map (λ v. v.form) o) (last_value trail.stack n)) at
          ∙ ap (is_in_form (Some x.form)) e
          ∙ ap (same_form x.form) same ∙ same_form-itself x.form

  settled-over : (a : Operand) → IsOperandOver (map (λ v. v.name) p.variables) a → is_settled p trail a ≡ true
  settled-over (ground u) h = refl
  settled-over (var y) h =
      let f = found p.variables y h in
      ap (λ z. is_bound_in_form p trail (position (λ v. same_name z v.name) p.variables)) (sym f.name)
      ∙ ap (is_bound_in_form p trail) (firsts f.number f.variable f.there)
      ∙ settled_at f.number f.variable f.there

  all_settled-over : (xs : List Operand) → AllByRecursion (IsOperandOver (map (λ v. v.name) p.variables)) xs
      → list_all (is_settled p trail) xs ≡ true
  all_settled-over [] h = refl
  all_settled-over (a ∷ xs) h = (λ i. settled-over a h.0 i && all_settled-over xs h.1 i)

  -- so is a condition over the variables
  pub settled-complete : (c : Cond) → IsConditionOver (map (λ v. v.name) p.variables) c → are_settled p trail c ≡ true
  settled-complete c h = all_settled-over (operands c) h
