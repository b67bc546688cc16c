use Rattle.std.proofs.Common.{◌≡◌, ◌-◌, ◌≤◌, map}
use Rattle.mp_term.specs.View.{tree}
use Rattle.mp_rewrite.specs.Computed.{rewriting, rewriting_from}
use Rattle.mp_pattern.specs.Planned.{planned_rule}
use Rattle.mp_rewrite.specs.Turn.{IsHere}
use Rattle.mp_rewrite.proofs.turns.rewritten.Given as goal

-- what is left to do from the term so far leads to the end of the whole
abbrev pub invariant-loop-turns : goal.invariant-loop-turns
invariant-loop-turns l = record {
  few : l.turns ≤ l.max;
  here : IsHere l.sig (map planned_rule l.rules) l.here;
  left : rewriting_from l.sig (map planned_rule l.rules) (l.max - l.turns) l.turns (tree l.here.term)
      ≡ rewriting l.sig (map planned_rule l.rules) l.max (tree l.fn.term);
}

abbrev pub decreases-loop-turns : goal.decreases-loop-turns
decreases-loop-turns l = l.max - l.turns
