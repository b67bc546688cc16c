use Rattle.std.proofs.Common.{take}
use Rattle.std.specs.List.{AllByRecursion}
use Rattle.mp_io.specs.Writing.{Puts}
use Rattle.mp_token.specs.Entry.{IsEntry}
use Rattle.mp_token.specs.TokenText.{front_text}
use Rattle.mp_token.proofs.printer.put_token.Given as goal

-- the names and the entries so far were put
abbrev pub invariant-loop-index : goal.invariant-loop-index
invariant-loop-index g l = record {
  puts : Puts g.K.Sink l.fn.out l.out (front_text l.token.subject l.token.rule (take l.index l.token.entries));
  fit : AllByRecursion IsEntry (take l.index l.token.entries);
}
