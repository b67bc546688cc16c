-- The check of a take table, entry by entry, and that it tells which tables fit.
use Rattle.std.proofs.Common.{◌≡◌, Bool, true, false, [], ◌∷◌, refl, ap, sym, ◌∙◌}
use Rattle.std.specs.Prelude.{◌↔◌, ◌&&◌, Option, Some, None, is_some, option_and_then, if◌then◌else◌}
use Rattle.std.proofs.Math.Bool.{and-false}
use Rattle.mp_term.specs.Signature.{Sig}
use Rattle.mp_term.specs.Tree.{Tree}
use Rattle.mp_term.specs.Normal.{IsNormal}
use Rattle.mp_pattern.specs.PatternTree.{Pattern}
use Rattle.mp_pattern.specs.Value.{Subst}
use Rattle.mp_pattern.specs.Fits.{Entry, Table, Fits}
use Rattle.mp_theory.specs.Frames.{Next, settle, start}
use Rattle.mp_theory.specs.Machine.{onward, said, takes}
use Rattle.mp_theory.specs.Solve.{solve}
use Rattle.mp_theory.specs.Trail.{has_shape}
use Rattle.mp_theory.proofs.TrailLaws.{solve-append, fits-fitted}
use Rattle.mp_one.specs.Check.{goes_on}

module _ (sig : Sig) where
  -- what the entry says isn't solved
  pub goes_on-clash : (n : Next) (e : Entry) (T : Table) (s : Subst) → solve sig s (said n e) ≡ None
      → false ≡ goes_on sig n s (e ∷ T)
  goes_on-clash n e T s h =
      let none : solve sig s (takes n (e ∷ T)) ≡ None = solve-append sig s (said n e) (takes (onward n e) T)
      ∙ ap (option_and_then (λ r. solve sig r (takes (onward n e) T))) h in
      sym (ap (λ o. has_shape sig n (e ∷ T) && is_some o) none ∙ and-false (has_shape sig n (e ∷ T)))

  -- from the start on a table goes on exactly where some substitution fits with it
  pub goes_on-fits : (p : Pattern) (t : Tree) (T : Table) → IsNormal sig t
      → (goes_on sig (settle (start p t)) [] T ≡ true) ↔ ((s : Subst) × Fits sig p t s T)
  goes_on-fits p t T n =
      let o : Option Subst = solve sig [] (takes (settle (start p t)) T) in (
        λ h. let k = found (has_shape sig (settle (start p t)) T) o h in
            (k.0, (fits-fitted sig p t k.0 T n).1 k.1),
        λ h.
            solved (has_shape sig (settle (start p t)) T) o h.0 ((fits-fitted sig p t h.0 T n).0 h.1),
      )
    where
      found : (b : Bool) (o : Option Subst) → (b && is_some o) ≡ true → (s : Subst) × ((if b then o else None) ≡ Some s)
      found false o h = cc
      found true None h = cc
      found true (Some s) h = (s, refl)

      solved : (b : Bool) (o : Option Subst) (s : Subst) → (if b then o else None) ≡ Some s → (b && is_some o) ≡ true
      solved false o s h = cc
      solved true o s h = ap is_some h
