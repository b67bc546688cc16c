-- `well_formed` at an application whose arguments are a list, and at two lists together.
use Rattle.std.proofs.Common.{◌≡◌, ℕ, List, [], ◌∷◌, ◌++◌, length, ◌&&◌, true, false, refl, ap, sym, ◌∙◌}
use Rattle.std.proofs.Math.Bool.{and_assoc}
use Rattle.std.specs.Prelude.{slice_get}
use Rattle.mp_term.specs.Tree.{Tree, app, trees}
use Rattle.mp_term.specs.Signature.{Sig, holds_of, allows, well_formed, all_well_formed}
use Rattle.mp_term.specs.TreeLists.{tree_list-trees}

pub well_formed-refused : (s : Sig) (f : ℕ) (ts : List Tree) → holds_of (allows (length ts)) (slice_get s.ops f) ≡ false
    → false ≡ well_formed s (app f (trees ts))
well_formed-refused s f ts e = rw (tree_list-trees ts, e) refl

pub well_formed-allowed : (s : Sig) (f : ℕ) (ts : List Tree) → holds_of (allows (length ts)) (slice_get s.ops f) ≡ true
    → all_well_formed s (trees ts) ≡ well_formed s (app f (trees ts))
well_formed-allowed s f ts e = rw (tree_list-trees ts, e) refl

pub well_formed-append : (s : Sig) (ts us : List Tree) → all_well_formed s (trees (ts ++ us))
    ≡ (all_well_formed s (trees ts) && all_well_formed s (trees us))
well_formed-append s [] us = refl
well_formed-append s (t ∷ ts) us = ap (λ b. well_formed s t && b) (well_formed-append s ts us)
    ∙ sym (and_assoc (well_formed s t) (all_well_formed s (trees ts)) (all_well_formed s (trees us)))
