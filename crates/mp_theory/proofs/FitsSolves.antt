-- A table fits with s exactly where it has the shape and s solves its takes.
use Rattle.std.proofs.Common.{◌≡◌, ℕ, List, [], ◌∷◌, map, true, false, refl, ap, ◌∙◌, inl, inr, subst}
use Rattle.std.specs.Prelude.{Some, None, if◌then◌else◌}
use Rattle.std.specs.List.{AllByRecursion}
use Rattle.std.proofs.lemmas.Bool.{and_parts}
use Rattle.mp_term.specs.Order.{tree_cmp}
use Rattle.mp_term.specs.Tree.{Tree}
use Rattle.mp_term.specs.Signature.{Sig}
use Rattle.mp_term.specs.Normal.{IsNormal}
use Rattle.mp_term.proofs.ListLaws.{all-append}
use Rattle.mp_pattern.specs.PatternTree.{is_sequence, Pattern, symbol_pattern, app_pattern, wild_pattern}
use Rattle.mp_pattern.specs.Value.{Value, seq_form, form_of, one, seq, bag, IsFinal, Subst, value_of, same_name}
use Rattle.mp_pattern.specs.Variables.{Use, uses, comm_above, form_among, variable_form, IsSubstOf}
use Rattle.mp_pattern.specs.Fits.{Table, Fits, ByValue}
use Rattle.mp_pattern.specs.Holds.{is_bag}
use Rattle.mp_pattern.proofs.NameLaws.{same_name-is, same_name-itself}
use Rattle.mp_theory.specs.Solve.{Taken, solve}
use Rattle.mp_theory.specs.Frames.{Next, ended, refused, child, settle, start}
use Rattle.mp_theory.proofs.Agenda.{run-takes, takes-run}
use Rattle.mp_term.specs.Search.{In, Accepts}
use Rattle.mp_term.specs.Pieces.{is_piece}
use Rattle.mp_theory.specs.Machine.{is_ended, onward, said, takes, reads, choices, HasShape}
use Rattle.mp_theory.proofs.SolveLaws.{Obeys}
use Rattle.mp_theory.proofs.Wildcards.{final-passes, given-final}
use Rattle.mp_theory.proofs.Walk.{choices-exact, IsFineAt, fine-onward, fine-settle, fine-piece, fine-single, AllTold}
use Rattle.mp_theory.proofs.Walk.{run_at, at_run, accepted, valued}
use Rattle.mp_theory.proofs.Tables.{shape-accounts}
use Rattle.mp_theory.proofs.Solving.{join, join_seq, use_form, form_among-cons, GivesFinal, solved-by, solution}

-- what holds of the bindings holds of the value of a variable
pub at_value : (R : List ℕ → Value → Type 0) (s : Subst) (x : List ℕ) (v : Value)
    → AllByRecursion (λ b. R b.name b.value) s → value_of s x ≡ Some v → R x v
at_value R [] x v h e = cc
at_value R (b ∷ s) x v h e =
    elim (same_name b.name x) as (λ c. same_name b.name x ≡ c → (if c then Some b.value else value_of s x) ≡ Some v
    → R x v) [
      | true ↦ λ q p. let i : b.value ≡ v = cc in subst (λ y. R y v) (same_name-is b.name x q) (subst (R b.name) i h.0)
      | false ↦ λ q p. at_value R s x v h.1 p
    ] refl e

module _ (sig : Sig) where
  -- a use of a sequence wildcard under an operation that isn't commutative makes the form a tuple
  tuple_among : (u : Use) (us : List Use) → In u us → is_sequence u.wildcard ≡ true → comm_above sig u.under ≡ false
      → form_among sig us u.name ≡ seq_form
  tuple_among u [] i q c = absurd i
  tuple_among u (v ∷ us) (inl e) q c =
      let same : same_name u.name v.name ≡ true =
      subst (λ w. same_name u.name w.name ≡ true) e (same_name-itself u.name) in
      let form : use_form (is_sequence v.wildcard) (comm_above sig v.under) ≡ seq_form =
      subst (λ w. use_form (is_sequence w.wildcard) (comm_above sig w.under) ≡ seq_form) e (rw (q, c) refl) in
      form_among-cons sig v us u.name ∙ rw (same, form) refl
  tuple_among u (v ∷ us) (inr i) q c =
      form_among-cons sig v us u.name
      ∙ elim (same_name u.name v.name) as (λ b.
      (if b then join (use_form (is_sequence v.wildcard) (comm_above sig v.under))
      (form_among sig us u.name) else form_among sig us u.name) ≡ seq_form) [
        | true ↦ ap (join (use_form (is_sequence v.wildcard) (comm_above sig v.under))) (tuple_among u us i q c)
            ∙ join_seq (use_form (is_sequence v.wildcard) (comm_above sig v.under))
        | false ↦ tuple_among u us i q c
      ]

  -- a tuple is no multiset
  tuple_no_bag : (v : Value) → form_of v ≡ seq_form → is_bag (Some v) ≡ false
  tuple_no_bag (one t) e = refl
  tuple_no_bag (seq ts) e = refl
  tuple_no_bag (bag ts) e = cc

  -- s obeys takes that are told, where they are by uses of the pattern: the values have the forms that the wildcards
  -- ask for
  pub obeyed : (p : Pattern) (s : Subst) → IsSubstOf sig p s → (ts : List Taken)
      → ((u : Use) → In u (map (λ t. t.by) ts) → In u (uses None p)) → AllTold sig s ts
      → AllByRecursion (Obeys sig s) ts
  obeyed p s h [] m k = tt
  obeyed p s h (t ∷ ts) m k =
      let form = at_value (λ x v. form_of v ≡ variable_form sig p x) s t.by.name k.0.value h.forms k.0.held in
      let refines =
      k.0.gives.refines
      (λ q c. tuple_no_bag k.0.value (form ∙ tuple_among t.by (uses None p) (m t.by (inl refl)) q c)) in (
        record { value = k.0.gives.value; is = k.0.gives.is; final = k.0.value; held = k.0.held; refines = refines },
        obeyed p s h ts (λ u i. m u (inr i)) k.1,
      )

  -- before the first node what is left is fine
  pub fine-start : (p : Pattern) (t : Tree) → IsNormal sig t → IsFineAt sig (settle (start p t))
  fine-start p t n = fine-settle sig (start p t) (fine-single sig None t (final-passes sig t n), tt)

  -- the takes of a walk over fine terms give final values
  pub takes-final : (n : Next) (T : Table) → IsFineAt sig n → Accepts (choices sig) onward is_ended n T
      → AllByRecursion (GivesFinal sig) (takes n T)
  takes-final n [] h a = tt
  takes-final ended (e ∷ T) h a = absurd a.0
  takes-final refused (e ∷ T) h a = absurd a.0
  takes-final (child p f fs) (e ∷ T) h a =
      let c = (choices-exact sig p f fs e.terms e.collapsed).0 a.0 in
      all-append (GivesFinal sig) (said (child p f fs) e) (takes (onward (child p f fs) e) T) (said-final p c.0 c.1)
      (takes-final (onward (child p f fs) e) T (fine-onward sig p f fs e.terms e.collapsed h c.0 c.1) a.1)
    where
      said-final : (p : Pattern) → is_piece tree_cmp (comm_above sig f.under) e.terms f.left ≡ true
          → reads sig p f.under e ≡ true → AllByRecursion (GivesFinal sig) (said (child p f fs) e)
      said-final (symbol_pattern n) i r = tt
      said-final (app_pattern g ps) i r = tt
      said-final (wild_pattern w None) i r = tt
      said-final (wild_pattern w (Some x)) i r = (
        λ g q. given-final sig f.under w x e.terms g q (and_parts _ _ (and_parts _ _ r).1).1
            (fine-piece sig f.under e.terms f.left i h.0),
        tt,
      )

  -- a table that fits with s has the shape, and s solves its takes
  pub fits-solves : (p : Pattern) (t : Tree) (s : Subst) (T : Table) → IsNormal sig t → Fits sig p t s T
      → HasShape sig p t T × (solve sig [] (takes (settle (start p t)) T) ≡ Some s)
  fits-solves p t s T n h =
      let a = accepted sig s (λ x v e. at_value (λ y w. IsFinal sig w) s x v h.subst_of.final e) (settle (start p t)) T
      (fine-start p t n)
      (run_at sig (ByValue sig s) (start p t) T (run-takes sig (ByValue sig s) p t T h.takes)) in
      let uses_of = (shape-accounts sig p t T a.0).1 in (
        a.0,
        solved-by sig p (takes (settle (start p t)) T) uses_of s h.subst_of
            (obeyed p s h.subst_of (takes (settle (start p t)) T) (λ u i. subst (In u) uses_of i) a.1),
      )

  -- and back
  pub solves-fits : (p : Pattern) (t : Tree) (s : Subst) (T : Table) → IsNormal sig t → HasShape sig p t T
      → solve sig [] (takes (settle (start p t)) T) ≡ Some s → Fits sig p t s T
  solves-fits p t s T n a e =
      let fine = fine-start p t n in
      let k = solution sig p (takes (settle (start p t)) T) (shape-accounts sig p t T a).1 s
      (takes-final (settle (start p t)) T fine a) e in
      record {
        subst_of = k.0;
        takes = takes-run sig (ByValue sig s) p t T
            (at_run sig (ByValue sig s) (start p t) T (valued sig s (settle (start p t)) T fine a k.1));
      }
