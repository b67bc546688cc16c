use Rattle.std.proofs.Common.{map, take}
use Rattle.mp_io.specs.Writing.{Puts}
use Rattle.mp_search.specs.Levels.{take_of}
use Rattle.mp_token.specs.TokenText.{front_text}
use Rattle.mp_cursor.proofs.entries.put_takes_text.Given as goal

-- the names and the entries of the nodes so far were put
abbrev pub invariant-loop-index : goal.invariant-loop-index
invariant-loop-index g l =
    Puts g.K.Sink l.fn.out l.out (front_text l.subject l.rule (map take_of (take l.index l.levels)))
