-- Takes that are solved over a substitution which takes of the same uses gave: they give it again.
use Rattle.std.proofs.Common.{◌≡◌, ℕ, List, [], ◌∷◌, ◌++◌, map, Bool, true, false, refl, ap, sym, ◌∙◌, subst}
use Rattle.std.specs.Prelude.{Some, None, ◌||◌, if◌then◌else◌}
use Rattle.std.specs.List.{AllByRecursion}
use Rattle.mp_term.specs.Signature.{Sig}
use Rattle.mp_pattern.specs.PatternTree.{Pattern}
use Rattle.mp_pattern.specs.Value.{Form, one_form, seq_form, bag_form, Subst, value_of, same_name}
use Rattle.mp_pattern.specs.Firsts.{is_known, add_new, firsts_after}
use Rattle.mp_pattern.specs.Variables.{uses, variables, form_among, variable_form, IsSubstOf}
use Rattle.mp_pattern.proofs.NameLaws.{same_name-itself}
use Rattle.mp_pattern.proofs.UsedNameLaws.{is_known-more}
use Rattle.mp_theory.specs.Solve.{Taken, solve}
use Rattle.mp_theory.proofs.Merging.{Extends}
use Rattle.mp_theory.proofs.SolveLaws.{Obeys, solve-complete}
use Rattle.mp_theory.proofs.FirstsLaws.{Distinct, distinct-firsts}
use Rattle.mp_theory.proofs.Solving.{names, join, held_form, GivesFinal, IsFound, found-itself, extends-from_found}
use Rattle.mp_theory.proofs.Solving.{forms-from_found, agreeing_same, names-from_solve, forms-from_solve}
use Rattle.mp_theory.proofs.Solving.{found-from_solve, solve-names, solve-forms, solve-final, solve-sound, solved-by}
use Rattle.mp_theory.proofs.Solving.{solution}

-- firsts that are taken again add nothing
module _ {X : Type 0} (same : X → X → Bool) (itself : (x : X) → same x x ≡ true) where
  known-last : (ys : List X) (x : X) → is_known same (ys ++ x ∷ []) x ≡ true
  known-last [] x = ap (λ b. b || false) (itself x)
  known-last (y ∷ ys) x = elim (same y x) as (λ b. (b || is_known same (ys ++ x ∷ []) x) ≡ true)
      [ true ↦ refl | false ↦ known-last ys x ]

  known-added : (ys : List X) (x : X) → is_known same (add_new same ys x) x ≡ true
  known-added ys x =
      elim (is_known same ys x) as
      (λ b. is_known same ys x ≡ b → is_known same (if b then ys else ys ++ (x ∷ [])) x ≡ true)
      [ true ↦ λ e. e | false ↦ λ e. known-last ys x ] refl

  known-kept : (ys : List X) (y x : X) → is_known same ys x ≡ true → is_known same (add_new same ys y) x ≡ true
  known-kept ys y x h = elim (is_known same ys y) as (λ b. is_known same (if b then ys else ys ++ (y ∷ [])) x ≡ true)
      [ true ↦ h | false ↦ is_known-more same ys (y ∷ []) x h ]

  known-firsts : (ys xs : List X) (x : X) → is_known same ys x ≡ true
      → is_known same (firsts_after same ys xs) x ≡ true
  known-firsts ys [] x h = h
  known-firsts ys (y ∷ xs) x h = known-firsts (add_new same ys y) xs x (known-kept ys y x h)

  all-known : (ys xs : List X) → AllByRecursion (λ x. is_known same (firsts_after same ys xs) x ≡ true) xs
  all-known ys [] = tt
  all-known ys (x ∷ xs) =
      (known-firsts (add_new same ys x) xs x (known-added ys x), all-known (add_new same ys x) xs)

  known-stay : (ys xs : List X) → AllByRecursion (λ x. is_known same ys x ≡ true) xs → firsts_after same ys xs ≡ ys
  known-stay ys [] h = refl
  known-stay ys (x ∷ xs) h = ap (λ zs. firsts_after same zs xs) (ap (λ b. if b then ys else ys ++ (x ∷ [])) h.0)
      ∙ known-stay ys xs h.1

  firsts-again : (ys xs : List X) → firsts_after same (firsts_after same ys xs) xs ≡ firsts_after same ys xs
  firsts-again ys xs = known-stay (firsts_after same ys xs) xs (all-known ys xs)

join_itself : (a : Form) → join a a ≡ a
join_itself one_form = refl
join_itself seq_form = refl
join_itself bag_form = refl

-- a second list of takes of the same uses, over the substitution that solves the first
module _ (sig : Sig) (p : Pattern) (us ts : List Taken) (first_uses : map (λ t. t.by) us ≡ uses None p)
    (same_uses : map (λ t. t.by) ts ≡ uses None p) (s : Subst) (solved : solve sig [] us ≡ Some s)
    (fine : AllByRecursion (GivesFinal sig) us) (fine_too : AllByRecursion (GivesFinal sig) ts) where
  abbrev F : List ℕ → Form
  F = variable_form sig p

  of_pattern : IsSubstOf sig p s
  of_pattern = (solution sig p us first_uses s fine solved).0

  -- what is solved over it has the same names and forms
  again-names : (r : Subst) → solve sig s ts ≡ Some r → names r ≡ variables p
  again-names r k =
      solve-names sig s ts r k
      ∙ ap (λ m. firsts_after same_name m (map (λ u. u.name) (map (λ t. t.by) ts)))
      (names-from_solve sig p us first_uses s solved)
      ∙ ap (λ vs. firsts_after same_name (variables p) (map (λ u. u.name) vs)) same_uses
      ∙ firsts-again same_name same_name-itself [] (map (λ u. u.name) (uses None p))

  again-forms : (r : Subst) → solve sig s ts ≡ Some r → (y : List ℕ) → held_form (value_of r y) ≡ F y
  again-forms r k y =
      solve-forms sig s ts r k y
      ∙ ap (λ a. join a (form_among sig (map (λ t. t.by) ts) y)) (forms-from_solve sig p us first_uses s solved y)
      ∙ ap (λ vs. join (F y) (form_among sig vs y)) same_uses
      ∙ join_itself (F y)

  again-distinct : (r : Subst) → solve sig s ts ≡ Some r → Distinct same_name (names r)
  again-distinct r k = subst (Distinct same_name) (sym (again-names r k))
      (distinct-firsts same_name [] (map (λ u. u.name) (uses None p)) tt)

  again-found : (r : Subst) → solve sig s ts ≡ Some r → AllByRecursion (IsFound r) r
  again-found r k = found-itself r (again-distinct r k)

  again-sound : (r : Subst) → solve sig s ts ≡ Some r → Extends s r × AllByRecursion (Obeys sig r) ts
  again-sound r k = solve-sound sig s r ts r k (solve-final sig [] us s solved tt fine) fine_too
      (extends-from_found r r (again-found r k))

  -- it is that substitution again
  pub again-same : (r : Subst) → solve sig s ts ≡ Some r → s ≡ r
  again-same r k =
      agreeing_same F s r (names-from_solve sig p us first_uses s solved ∙ sym (again-names r k)) (again-distinct r k)
      (again-sound r k).0
      (forms-from_found F s s (found-from_solve sig p us first_uses s solved)
      (forms-from_solve sig p us first_uses s solved))
      (forms-from_found F r r (again-found r k) (again-forms r k))

  -- and the takes give it from nothing, too
  pub again-solves : (r : Subst) → solve sig s ts ≡ Some r → solve sig [] ts ≡ Some s
  again-solves r k = solved-by sig p ts same_uses s of_pattern
      (subst (λ x. AllByRecursion (Obeys sig x) ts) (sym (again-same r k)) (again-sound r k).1)

  -- takes that give it from nothing are solved over it, too
  pub solves-again : solve sig [] ts ≡ Some s → solve sig s ts ≡ Some s
  solves-again h =
      let o = (solution sig p ts same_uses s fine_too h).1 in
      let c = solve-complete sig s s ts
      (extends-from_found s s (found-from_solve sig p us first_uses s solved)) o in
      c.is ∙ ap Some (sym (again-same c.after c.is))
