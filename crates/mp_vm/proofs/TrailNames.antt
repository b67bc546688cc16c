-- The values of a walk's trail, called by names that are given, are those of the substitution of its item.
use Rattle.std.proofs.Common.{◌≡◌, ◌∙◌, ℕ, ◌≤◌, List, length, ap, subst, sym}
use Rattle.std.specs.Prelude.{Option, Some, None, IfSome}
use Rattle.mp_term.specs.Normal.{IsNormal}
use Rattle.mp_term.specs.Signature.{Sig}
use Rattle.mp_term.specs.Tree.{Tree}
use Rattle.mp_pattern.specs.declared.limits.TheConstants.{MAX_VARIABLES}
use Rattle.mp_pattern.specs.Fits.{Table}
use Rattle.mp_pattern.specs.Value.{Subst}
use Rattle.mp_table.specs.Table as tables
use Rattle.mp_subst.specs.Trail.{Trail, subst_in}
use Rattle.mp_walk.specs.Instrs.{Instr}
use Rattle.mp_walk.specs.NamedItems.{called, IsItemTrail}
use Rattle.mp_walk.proofs.NamedLaws.{IsNamedSubst, trail-named}

-- the values of the trail of a walk's item are those of its substitution, by the walk's signature, code and terms
pub item-trail_named : (item : Option (ℕ × Table)) (t : Tree) (g h : Sig) (cs ds : List Instr) (us vs : tables.Table)
    (trail : Trail) (names : List (List ℕ)) → g ≡ h → cs ≡ ds → us ≡ vs → length names ≤ MAX_VARIABLES → IsNormal h t
    → IfSome item (IsItemTrail g cs t us trail)
    → IfSome item (IsNamedSubst h ds t names (subst_in vs (called names) trail))
item-trail_named None t g h cs ds us vs trail names sig code terms few normal k = tt
item-trail_named (Some i) t g h cs ds us vs trail names sig code terms few normal k =
    trail-named h ds t vs trail names i few normal
    (subst (λ x. IsItemTrail x ds t vs trail i) sig
    (subst (λ x. IsItemTrail g x t vs trail i) code
    (subst (λ x. IsItemTrail g cs t x trail i) terms k)))

-- so it is with the substitution that is made of them, called by names that are the same
pub item-subst_named : (item : Option (ℕ × Table)) (t : Tree) (g h : Sig) (cs ds : List Instr) (us vs : tables.Table)
    (trail : Trail) (ns ms : List (List ℕ)) (u : Subst) → g ≡ h → cs ≡ ds → us ≡ vs → ns ≡ ms
    → length ms ≤ MAX_VARIABLES → IsNormal h t → IfSome item (IsItemTrail g cs t us trail)
    → u ≡ subst_in vs (called ns) trail → IfSome item (IsNamedSubst h ds t ms u)
item-subst_named item t g h cs ds us vs trail ns ms u sig code terms names few normal k made =
    subst (λ v. IfSome item (IsNamedSubst h ds t ms v))
    (sym (made ∙ ap (λ xs. subst_in vs (called xs) trail) names))
    (item-trail_named item t g h cs ds us vs trail ms sig code terms few normal k)
