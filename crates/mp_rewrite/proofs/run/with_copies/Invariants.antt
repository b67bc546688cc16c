use Rattle.std.proofs.Common.{◌≡◌, ◌++◌, map, drop}
use Rattle.mp_term.specs.View.{tree}
use Rattle.mp_rewrite.proofs.run.with_copies.Given as goal

abbrev pub invariant-loop-term : goal.invariant-loop-term
invariant-loop-term l = l.all ++ map tree (drop l.term-index l.more) ≡ l.fn.terms ++ map tree l.more
