use Rattle.std.proofs.Common.{◌≡◌, map, take, length}
use Rattle.std.specs.Prelude.{codes}
use Rattle.mp_io.specs.Writing.{Puts}
use Rattle.mp_io.specs.Printing.{gap_text}
use Rattle.mp_subst.specs.Trail.{bindings_from}
use Rattle.mp_print.specs.Printing.{binding_text, separated}
use Rattle.mp_print.proofs.trail_printer.put_variables.Given as goal

-- the variables so far that are bound were put, with what stands between them
abbrev pub invariant-loop-var : goal.invariant-loop-var
invariant-loop-var g l =
    let before = bindings_from l.table l.trail.stack 0 (take l.var l.plan.variables) in
    record {
      put : Puts g.K.Sink l.fn.out l.out (separated (codes ", ") (map (binding_text l.sig) before));
      gap : l.gap ≡ gap_text (codes ", ") (length before);
    }
