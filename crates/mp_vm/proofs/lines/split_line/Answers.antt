use Rattle.std.proofs.Common.{◌+◌, add-one}
use Rattle.std.proofs.lemmas.List.{take_rest}
use Rattle.mp_vm.proofs.LineEnds.{line-first, lines-nowhere}
use Rattle.mp_vm.proofs.lines.split_line.Goals as goal

pub returns-in-Some : goal.returns-in-Some
returns-in-Some c =
    let bytes = c.args.bytes.now in
    let end = c.in-Some.end in
    rw (take_rest bytes (end + 1), add-one end) (line-first bytes end c.in-Some.ensures.0 c.in-Some.ensures.1)

pub returns-in-None : goal.returns-in-None
returns-in-None c = lines-nowhere c.args.bytes.now c.in-None.ensures
