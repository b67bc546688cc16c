use Rattle.std.proofs.Common.{◌≡◌, ◌++◌}
use Rattle.std.specs.Prelude.{replicate}
use Rattle.mp_term.specs.Tree.{symbol}
use Rattle.mp_rewrite.proofs.run.with_symbols.Given as goal

abbrev pub invariant-loop : goal.invariant-loop
invariant-loop l = l.all ≡ l.fn.terms ++ replicate l.counter (symbol l.name)
