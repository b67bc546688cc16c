use Rattle.std.proofs.Common.{◌≡◌, ◌≤◌, ◌-◌, ◌++◌, length, map, drop}
use Rattle.mp_term.specs.Tree.{trees}
use Rattle.mp_term.specs.View.{tree}
use Rattle.mp_term.specs.Edited.{edited_args}
use Rattle.mp_term.proofs.replace.+push_edited.Given as goal

abbrev pub invariant-edited_terms-loop-next : goal.invariant-edited_terms-loop-next
invariant-edited_terms-loop-next l = record {
  within : l.index ≤ length l.terms;
  rest : l.edited ++ edited_args l.edits l.position l.index (trees (map tree (drop l.index l.terms)))
      ≡ edited_args l.edits l.position 0 (trees (map tree l.terms));
}

abbrev pub decreases-edited_terms-loop-next : goal.decreases-edited_terms-loop-next
decreases-edited_terms-loop-next l = length l.terms - l.index
