-- Edits without a fault give one term.
use Rattle.std.proofs.Common.{◌≡◌, ◌∙◌, refl, ap, sym, ℕ, Bool, true, false, not, arith, eqb-true}
use Rattle.std.proofs.Common.{List, [], ◌∷◌, ◌++◌, length, map, ◌≤◌}
use Rattle.std.specs.Prelude.{Option, Some, None, is_some, option_map, position, find, bytes_eq, nat_eq, unwrap_or}
use Rattle.std.specs.Prelude.{cond}
use Rattle.std.specs.Option.{option_or}
use Rattle.std.specs.List.{list_any}
use Rattle.std.proofs.lemmas.Bool.{not-false}
use Rattle.std.proofs.lemmas.Slice.Eq.{bytes_eq-Decides}
use Rattle.mp_term.specs.declared.edit.Edit.{Edit}
use Rattle.mp_term.specs.declared.edit_fault.EditFault.{EditFault}
use Rattle.mp_term.specs.declared.edit_fault.EditFault.TheVariants.{BadPosition, Arity}
use Rattle.mp_term.specs.Tree.{Tree}
use Rattle.mp_term.specs.Signature.{Sig}
use Rattle.mp_term.specs.Edited.{edited_below, edited}
use Rattle.mp_term.specs.EditFault.{overlap_after, size_fault, is_astray, breaks, edit_fault}
use Rattle.mp_term.proofs.EditFaultLaws.{or-left, or-right}
use Rattle.mp_term.proofs.SignatureLaws.{is_some-position}

-- neither of two options is there
pub neither : {X : Type 0} (o p : Option X) → option_or o p ≡ None → (o ≡ None) × (p ≡ None)
neither None p h = (refl, h)
neither (Some x) p h = cc

unmapped : (f : ℕ → EditFault) (o : Option ℕ) → option_map f o ≡ None → o ≡ None
unmapped f None h = refl
unmapped f (Some i) h = cc

module _ (sig : Sig) (t : Tree) where
  -- without a fault no edit breaks a number of arguments
  pub none-breaks : (es : List Edit) → edit_fault sig t es ≡ None → list_any (breaks sig t es) es ≡ false
  none-breaks es h =
      let rest = neither (option_map BadPosition (position (is_astray t) es)) _ h in
      let behind = neither (overlap_after [] es) _ rest.1 in
      let last = neither (option_map Arity (position (breaks sig t es) es)) (size_fault (edited es t)) behind.1 in
      sym (is_some-position (breaks sig t es) es) ∙ ap is_some (unmapped Arity (position (breaks sig t es) es) last.0)

  -- an edit at the root that breaks nothing has one term
  root-single : (es : List Edit) (e : Edit) → bytes_eq e.position [] ≡ true → breaks sig t es e ≡ false
      → length e.terms ≡ 1
  root-single es e here fine =
      let root : e.position ≡ [] = (bytes_eq-Decides e.position []).0 here in
      let none : nat_eq (length e.position) 0 ≡ true = ap (λ p. nat_eq (length p) 0) root in
      let one : not (nat_eq (length e.terms) 1) ≡ false = rw none at fine in
      eqb-true (length e.terms) 1 (not-false (nat_eq (length e.terms) 1) one)

  found_at : (es : List Edit) (e : Edit) (rest : List Edit) (b : Bool) → bytes_eq e.position [] ≡ b
      → breaks sig t es e ≡ false
      → length (unwrap_or (option_map (λ d. d.terms) (find (λ d. bytes_eq d.position []) rest))
      (edited_below es [] t ∷ [])) ≡ 1
      → length (unwrap_or (option_map (λ d. d.terms) (cond b (Some e) (find (λ d. bytes_eq d.position []) rest)))
      (edited_below es [] t ∷ [])) ≡ 1
  found_at es e rest true here fine h = root-single es e here fine
  found_at es e rest false here fine h = h

  single : (es rest : List Edit) → list_any (breaks sig t es) rest ≡ false
      → length (unwrap_or (option_map (λ d. d.terms) (find (λ d. bytes_eq d.position []) rest))
      (edited_below es [] t ∷ [])) ≡ 1
  single es [] h = refl
  single es (e ∷ rest) h =
      found_at es e rest (bytes_eq e.position []) refl
      (or-left (breaks sig t es e) (list_any (breaks sig t es) rest) h)
      (single es rest (or-right (breaks sig t es e) (list_any (breaks sig t es) rest) h))

  -- edits without a fault give one term
  pub edited-single : (es : List Edit) → edit_fault sig t es ≡ None → length (edited es t) ≡ 1
  edited-single es h = single es es (none-breaks es h)

longer : {X Y : Type 0} (f : X → Y) (front : List X) (x : X) → 1 ≤ length (map f (front ++ x ∷ []))
longer f [] x = omega arith
longer f (y ∷ front) x = omega arith

-- the last item of a list of one
pub popped-single : {X Y : Type 0} (f : X → Y) (ys : List Y) (xs front : List X) (x : X) → length ys ≡ 1 → ys ≡ map f xs
    → xs ≡ front ++ x ∷ [] → ys ≡ f x ∷ []
popped-single f ys xs [] x one all is = all ∙ ap (map f) is
popped-single f ys xs (y ∷ front) x one all is =
    absurd (omega (arith, one, ap length (all ∙ ap (map f) is), longer f front x))
