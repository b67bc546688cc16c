use Rattle.std.proofs.Common.{◌≡◌, ◌∙◌, ap, map, subst, sym}
use Rattle.mp_text.specs.File.{file_tree}
use Rattle.mp_matches.specs.PairsListed.{IsPairsListed, named}
use Rattle.mp_program.specs.ProgramView.{program_view}
use Rattle.mp_vm.specs.ProgramList.{IsProgramList}
use Rattle.mp_command.specs.Outcome.{program_names}
use Rattle.mp_command.proofs.accepted.print_accepted.Goals as goal

pub returns-in-Ok : goal.returns-in-Ok
returns-in-Ok g c = λ text h.
    let file = file_tree c.args.file.now in
    let p = program_view c.args.program.now in
    let names : named c.deref.result.now ≡ program_names p =
    ap named c.deref.ensures.value ∙ c.in-Ok.ensures ∙ ap (map (λ r. r.name)) c.as_slice.ensures in
    c.print_named.ensures text
    (subst (λ ns. IsPairsListed file ns (IsProgramList file.sig p) c.args.limit text) (sym names) h)
