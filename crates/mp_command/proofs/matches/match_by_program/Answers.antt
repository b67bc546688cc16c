use Rattle.mp_gen.specs.Printable.{ArePrintable}
use Rattle.mp_text.specs.File.{file_tree}
use Rattle.mp_command.proofs.Acted.{generated-listed}
use Rattle.mp_gen.proofs.Validity.{read-rules}
use Rattle.mp_command.proofs.AcceptedRules.{generated-lists}
use Rattle.mp_command.proofs.Matched.{all_text}
use Rattle.mp_command.proofs.matches.match_by_program.Goals as goal

pub print_rules_accepted-requires-clause-printable : goal.print_rules_accepted-requires-clause-printable
print_rules_accepted-requires-clause-printable g c =
    let file = file_tree c.args.file.now in
    let told = c.members_and_conditions_of_files_are_spelled.ensures in
    let (bytes, read) = c.requires.read in
    record {
      spelled = c.signatures_of_files_are_spelled.ensures bytes file read;
      members = told.members bytes file read;
      shallow = told.shallow bytes file read;
    }

pub returns : goal.returns
returns g c =
    let file = file_tree c.args.file.now in
    let told = c.members_and_conditions_of_files_are_spelled.ensures in
    let (bytes, is) = c.requires.read in
    let printable : ArePrintable file.sig file.rules = record {
      spelled = c.signatures_of_files_are_spelled.ensures bytes file is;
      members = told.members bytes file is;
      shallow = told.shallow bytes file is;
    } in
    let sound = c.requires.file.rules in
    let conditions =
    c.a_generated_program_is_valid.ensures.conditions file.sig file.rules sound printable in
    let read = read-rules file.sig file.rules conditions in
    c.print_rules_accepted.ensures (all_text file c.requires.file c.args.limit)
    (generated-listed file c.requires.file c.args.limit (λ t normal.
    generated-lists file.sig file.rules sound read t normal
    (λ is. c.a_generated_program_has_the_items_of_the_rules.ensures.items file.sig file.rules t is sound normal)))
