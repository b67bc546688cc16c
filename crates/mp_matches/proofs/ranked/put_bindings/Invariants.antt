use Rattle.std.proofs.Common.{◌≡◌, map, take, length}
use Rattle.std.specs.Prelude.{codes}
use Rattle.mp_io.specs.Writing.{Puts}
use Rattle.mp_io.specs.Printing.{gap_text}
use Rattle.mp_print.specs.Printing.{binding_text, separated}
use Rattle.mp_matches.proofs.ranked.put_bindings.Given as goal

-- the bindings so far were put, with what stands between them
abbrev pub invariant-loop-index : goal.invariant-loop-index
invariant-loop-index g l =
    let before = take l.index l.pair.pair.1 in
    record {
      put : Puts g.K.Sink l.fn.out l.out (separated (codes ", ") (map (binding_text l.texts.sig) before));
      gap : l.gap ≡ gap_text (codes ", ") (length before);
    }
