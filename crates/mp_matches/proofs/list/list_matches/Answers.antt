use Rattle.std.proofs.Common.{◌∙◌, ap, map, subst, sym, Bor}
use Rattle.std.specs.Prelude.{Option, option_map}
use Rattle.mp_io.specs.Devices.{Text}
use Rattle.mp_io.specs.Moments.{sunk}
use Rattle.mp_pattern.specs.Planned.{planned_rule}
use Rattle.mp_text.specs.File.{file_tree, subject_tree}
use Rattle.mp_matches.specs.Computed.{listed}
use Rattle.mp_matches.specs.Left.{left_of}
use Rattle.mp_matches.specs.Printed.{Lists}
use Rattle.mp_matches.proofs.AnswerLaws.{lists-all}
use Rattle.mp_matches.proofs.list.list_matches.Goals as goal

pub returns : goal.returns
returns g c =
    let file = file_tree c.args.file.now in
    let out = sunk g.O.Sink c.args.out.now c.print_subjects.new.out in
    subst (λ (r : Option (Bor Text)). Lists (listed file (option_map (λ t. t.now) r) c.args.limit) out c.answer.result)
    (sym c.in-None.is)
    (lists-all file c.args.limit (map planned_rule c.deref-in-None.result.now)
    (map subject_tree c.as_slice-subjects.result.now) (left_of c.new-left.result) (left_of c.print_subjects.new.left)
    out (ap (map planned_rule) c.deref-in-None.ensures.value ∙ c.in-Ok.ensures.rules ∙ c.as_slice.ensures)
    c.as_slice-subjects.ensures c.new-left.ensures.left c.print_subjects.result c.answer.result c.answer.ensures.lists
    c.print_subjects.ensures.prints)
