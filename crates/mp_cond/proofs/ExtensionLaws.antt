-- A condition whose variables are bound in their forms holds of each extension of a trail alike.
use Rattle.std.proofs.Common.{◌≡◌, ℕ, true, List, [], ◌∷◌, refl, ap, sym, ◌∙◌, subst}
use Rattle.std.specs.Prelude.{Option, Some, None, IsSomeAnd, option_map, position, slice_get}
use Rattle.std.specs.List.{AllByRecursion, list_all}
use Rattle.std.specs.Ordering.{is_eq}
use Rattle.std.proofs.lemmas.Bool.{and_parts}
use Rattle.std.proofs.lemmas.List.Quantifiers.{position-Some}
use Rattle.std.proofs.lemmas.Option.{get_or_from_slice_get}
use Rattle.mp_term.specs.Signature.{Sig}
use Rattle.mp_term.specs.Order.{tree_cmp}
use Rattle.mp_pattern.specs.CondTree.{Operand, var, ground, Cond}
use Rattle.mp_pattern.specs.Operands.{operands}
use Rattle.mp_pattern.specs.Plan.{Variable, Plan}
use Rattle.mp_pattern.specs.Value.{Value, one, seq, bag, Form, one_form, seq_form, bag_form, form_of, Subst, value_of}
use Rattle.mp_pattern.specs.Value.{same_name, merge}
use Rattle.mp_pattern.specs.Holds.{holds}
use Rattle.mp_pattern.proofs.NameLaws.{same_name-is}
use Rattle.mp_table.specs.Table.{Table}
use Rattle.mp_subst.specs.Bound.{Bound, value_in}
use Rattle.mp_subst.specs.Trail.{Trail, last_value, subst_in}
use Rattle.mp_subst.proofs.TrailLaws.{some_same}
use Rattle.mp_cond.specs.Verdict.{same_form, is_in_form, is_bound_in_form, is_settled, are_settled}
use Rattle.mp_cond.specs.Extension.{Extends}
use Rattle.mp_cond.proofs.AgreeLaws.{Agrees, holds-agree}
use Rattle.mp_cond.proofs.SettledLaws.{value_of-bound_at}

same_form-is : (f g : Form) → same_form f g ≡ true → f ≡ g
same_form-is one_form one_form e = refl
same_form-is one_form seq_form e = cc
same_form-is one_form bag_form e = cc
same_form-is seq_form one_form e = cc
same_form-is seq_form seq_form e = refl
same_form-is seq_form bag_form e = cc
same_form-is bag_form one_form e = cc
same_form-is bag_form seq_form e = cc
same_form-is bag_form bag_form e = refl

pub form_of-value_in : (t : Table) (b : Bound) → form_of (value_in t b) ≡ b.form
form_of-value_in t b = by_form b.form b.wrap
  where
    by_form : (f : Form) (w : Option ℕ) → form_of (value_in t (record { form = f; wrap = w; ranks = b.ranks })) ≡ f
    by_form one_form None = refl
    by_form one_form (Some g) = refl
    by_form seq_form w = refl
    by_form bag_form w = refl

some-same : (v w : Value) → Some v ≡ Some w → v ≡ w
some-same v w e = cc

-- a value that merges into one of its own form is that one
merge-form : (v w : Value) → form_of v ≡ form_of w → merge v w ≡ Some w → v ≡ w
merge-form (one t) (one u) f e = some_same (is_eq (tree_cmp t u)) (one t) (one u) e
merge-form (one t) (seq us) f e = cc
merge-form (one t) (bag us) f e = cc
merge-form (seq ts) (one u) f e = cc
merge-form (seq ts) (seq us) f e = some_same _ (seq ts) (seq us) e
merge-form (seq ts) (bag us) f e = cc
merge-form (bag ts) (one u) f e = cc
merge-form (bag ts) (seq us) f e = cc
merge-form (bag ts) (bag us) f e = some_same _ (bag ts) (bag us) e

-- where a settled variable stands, and what it is bound to
record Place (p : Plan) (trail : Trail) (o : Option ℕ) : Type 0 where
  pub number : ℕ
  pub variable : Variable
  pub bound : Bound
  pub at : o ≡ Some number
  pub there : slice_get p.variables number ≡ Some variable
  pub last : last_value trail.stack number ≡ Some bound
  pub form : variable.form ≡ bound.form

place : (p : Plan) (trail : Trail) (o : Option ℕ) → is_bound_in_form p trail o ≡ true → Place p trail o
place p trail None h = cc
place p trail (Some n) h = by_variable (slice_get p.variables n) refl (last_value trail.stack n) refl h
  where
    by_variable : (x : Option Variable) → slice_get p.variables n ≡ x → (b : Option Bound)
        → last_value trail.stack n ≡ b → is_in_form (option_map (λ y. y.form) x) b ≡ true → Place p trail (Some n)
    by_variable None q b l e = cc
    by_variable (Some x) q None l e = cc
    by_variable (Some x) q (Some b) l e = record {
      number = n;
      variable = x;
      bound = b;
      at = refl;
      there = q;
      last = l;
      form = same_form-is x.form b.form e;
    }

module _ (t : Table) (p : Plan) (trail : Trail) (s : Subst) (extends : Extends t p trail s) where
  -- the value that the trail has bound it to is the one that it has in s
  same_value : (x : List ℕ) (q : Place p trail (position (λ v. same_name x v.name) p.variables))
      → value_of s x ≡ Some (value_in t q.bound)
  same_value x q = go (value_of s q.variable.name) refl (extends q.number q.variable q.bound q.there q.last)
    where
      name : q.variable.name ≡ x
      name =
          let found = position-Some (λ v. same_name x v.name) p.variables q.number q.variable q.at in
          sym (same_name-is x q.variable.name (subst (λ y. same_name x y.name ≡ true)
          (get_or_from_slice_get p.variables q.number q.variable q.variable q.there) found.1))

      go : (o : Option Value) → value_of s q.variable.name ≡ o
          → IsSomeAnd o (λ v. (form_of v ≡ q.variable.form) × (merge (value_in t q.bound) v ≡ Some v))
          → value_of s x ≡ Some (value_in t q.bound)
      go None e h = absurd h
      go (Some v) e h =
          ap (value_of s) (sym name) ∙ e
          ∙ ap Some (sym (merge-form (value_in t q.bound) v
          (form_of-value_in t q.bound ∙ sym q.form ∙ sym h.0) h.1))

  agrees : (a : Operand) → is_settled p trail a ≡ true → Agrees s (subst_in t p.variables trail) a
  agrees (ground u) h = refl
  agrees (var x) h =
      let q = place p trail (position (λ v. same_name x v.name) p.variables) h in
      same_value x q ∙ sym (value_of-bound_at t trail p.variables x q.number q.bound q.at q.last)

  all_agree : (xs : List Operand) → list_all (is_settled p trail) xs ≡ true
      → AllByRecursion (Agrees s (subst_in t p.variables trail)) xs
  all_agree [] h = tt
  all_agree (a ∷ xs) h = let parts = and_parts _ _ h in (agrees a parts.0, all_agree xs parts.1)

  -- the condition holds of s where it holds of what the trail has bound
  pub holds-extension : (sig : Sig) (c : Cond) → are_settled p trail c ≡ true
      → holds sig s c ≡ holds sig (subst_in t p.variables trail) c
  holds-extension sig c h = holds-agree s (subst_in t p.variables trail) sig c (all_agree (operands c) h)
