use Rattle.std.proofs.Common.{◌≡◌, ◌≤◌, ◌-◌, List, ◌++◌, length, map, drop}
use Rattle.mp_term.specs.Tree.{Tree, trees}
use Rattle.mp_term.specs.View.{tree}
use Rattle.mp_term.specs.Edited.{edited_args}
use Rattle.mp_term.specs.Excess.{IsSizeOf}
use Rattle.mp_term.proofs.edited.+size_after.Given as goal

abbrev pub invariant-size_of_args-loop-next : goal.invariant-size_of_args-loop-next
invariant-size_of_args-loop-next l = record {
  within : l.index ≤ length l.terms;
  sized : (done : List Tree) × IsSizeOf l.all done
      × (done ++ edited_args l.edits l.position l.index (trees (map tree (drop l.index l.terms)))
      ≡ edited_args l.edits l.position 0 (trees (map tree l.terms)));
}

abbrev pub decreases-size_of_args-loop-next : goal.decreases-size_of_args-loop-next
decreases-size_of_args-loop-next l = length l.terms - l.index
