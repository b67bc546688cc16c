use Rattle.std.proofs.Common.{take}
use Rattle.std.specs.List.{AllByRecursion}
use Rattle.mp_io.specs.Writing.{Puts}
use Rattle.mp_token.specs.Entry.{IsRank}
use Rattle.mp_token.specs.TokenText.{ranks_text}
use Rattle.mp_token.proofs.printer.put_ranks.Given as goal

-- the ranks so far were put
abbrev pub invariant-loop-index : goal.invariant-loop-index
invariant-loop-index g l = record {
  puts : Puts g.K.Sink l.fn.out l.out (ranks_text (take l.index l.ranks));
  fit : AllByRecursion IsRank (take l.index l.ranks);
}
