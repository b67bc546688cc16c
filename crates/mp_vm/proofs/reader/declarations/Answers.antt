use Rattle.std.proofs.Common.{◌++◌, take, ap, ◌∙◌, subst}
use Rattle.std.specs.Borrow.{Bor}
use Rattle.mp_io.specs.Devices.{Text}
use Rattle.mp_program.specs.FormText.{lines_of}
use Rattle.mp_vm.specs.FirstLine.{IsFirstLine}
use Rattle.mp_vm.proofs.ProgramReading.{first-of, lines_of-declared}
use Rattle.mp_vm.proofs.reader.declarations.Goals as goal

pub returns-then-count-rest-clause-lines : goal.returns-then-count-rest-clause-lines
returns-then-count-rest-clause-lines c = λ first declared others e ended n.
    let found = first-of (λ (l : Bor Text). l.now) c.next.result c.new-lines.result c.next.new.self first
    (declared ++ others) c.next.ensures.first (ap lines_of c.new-lines.ensures ∙ e) in
    let line = subst (λ b. IsFirstLine b found.0 c.next.new.self) c.new-lines.ensures found.1 in
    ap (λ t. lines_of (take c.args.count t)) c.rest-rest.ensures
    ∙ lines_of-declared c.args.bytes.now c.next.new.self found.0 first declared others line e ended c.args.count n
