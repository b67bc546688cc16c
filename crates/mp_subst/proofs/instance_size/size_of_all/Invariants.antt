use Rattle.std.proofs.Common.{◌≡◌, ◌++◌, List, map, drop}
use Rattle.mp_term.specs.Tree.{Tree}
use Rattle.mp_term.specs.View.{tree}
use Rattle.mp_term.specs.Excess.{IsSizeOf}
use Rattle.mp_subst.proofs.instance_size.size_of_all.Given as goal

abbrev pub invariant-loop-term : goal.invariant-loop-term
invariant-loop-term l = (front : List Tree) × IsSizeOf l.all front
    × (front ++ map tree (drop l.term-index l.terms) ≡ map tree l.terms)
