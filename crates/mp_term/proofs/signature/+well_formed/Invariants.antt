use Rattle.std.proofs.Common.{◌≡◌, map, drop}
use Rattle.mp_term.specs.Tree.{trees}
use Rattle.mp_term.specs.View.{tree}
use Rattle.mp_term.specs.Signature.{well_formed, all_well_formed}
use Rattle.mp_term.proofs.signature.+well_formed.Given as goal

abbrev pub invariant-loop-arg : goal.invariant-loop-arg
invariant-loop-arg l = all_well_formed l.sig (trees (map tree (drop l.arg-index l.arg-items)))
    ≡ well_formed l.sig (tree l.term)
