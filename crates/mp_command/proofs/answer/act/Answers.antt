use Rattle.std.proofs.Common.{subst, sym}
use Rattle.mp_io.specs.Moments.{sunk}
use Rattle.mp_text.specs.File.{file_tree}
use Rattle.mp_words.specs.Requests.{asked}
use Rattle.mp_words.specs.declared.request.Action.TheVariants as action
use Rattle.mp_command.specs.Answers.{Acts, ActsAs}
use Rattle.mp_command.specs.Computed.{matches_by, over_templates, rewritten}
use Rattle.mp_command.specs.Outcome.{IsDone, edits_made, first_without_template, printed_program, program_or_rules}
use Rattle.mp_command.specs.Outcome.{shown}
use Rattle.mp_command.specs.Programs.{given}
use Rattle.mp_command.proofs.Acted.{done-exact}
use Rattle.mp_command.proofs.Matched.{matches_by-exact}
use Rattle.mp_command.proofs.Rewrites.{over_templates-exact}
use Rattle.mp_command.proofs.answer.act.Goals as goal

pub returns-in-Match : goal.returns-in-Match
returns-in-Match g c =
    let request = asked c.args.request in
    let file = file_tree c.args.file.now in
    done-exact request file (given c.args.program) (sunk g.O.Sink c.args.out.now c.match_file.new.out)
    c.match_file.result action.Match c.in-Match.is (matches_by request.engine request file)
    (λ o. matches_by-exact request.engine request file o c.requires.file) c.match_file.ensures

pub returns-in-Show : goal.returns-in-Show
returns-in-Show g c =
    let file = file_tree c.args.file.now in
    done-exact (asked c.args.request) file (given c.args.program)
    (sunk g.O.Sink c.args.out.now c.show_file.new.out) c.show_file.result action.Show c.in-Show.is (shown file)
    (λ o. (λ e. e, λ e. e)) c.show_file.ensures

pub returns-in-Rewrite : goal.returns-in-Rewrite
returns-in-Rewrite g c =
    let request = asked c.args.request in
    let file = file_tree c.args.file.now in
    let out = sunk g.O.Sink c.args.out.now c.rewrite_file.new.out in
    done-exact request file (given c.args.program) out c.rewrite_file.result action.Rewrite c.in-Rewrite.is
    (over_templates (rewritten file.sig request.max file.rules file.subjects) (first_without_template file.rules))
    (λ o. over_templates-exact request.max file o c.requires.file)
    (subst (λ max. Acts (over_templates (rewritten file.sig max file.rules file.subjects)
    (first_without_template file.rules)) out c.rewrite_file.result) c.from.ensures c.rewrite_file.ensures)

pub returns-in-Edit : goal.returns-in-Edit
returns-in-Edit g c =
    let file = file_tree c.args.file.now in
    done-exact (asked c.args.request) file (given c.args.program)
    (sunk g.O.Sink c.args.out.now c.edit_file.new.out) c.edit_file.result action.Edit c.in-Edit.is
    (edits_made file.sig file.subjects file.edits) (λ o. (λ e. e, λ e. e)) c.edit_file.ensures

pub returns-in-Compile : goal.returns-in-Compile
returns-in-Compile g c =
    let file = file_tree c.args.file.now in
    let program = given c.args.program in
    done-exact (asked c.args.request) file program (sunk g.O.Sink c.args.out.now c.compile_file.new.out)
    c.compile_file.result action.Compile c.in-Compile.is (printed_program file.sig (program_or_rules file program))
    (λ o. (λ e. e, λ e. e)) c.compile_file.ensures

pub returns-in-Run : goal.returns-in-Run
returns-in-Run g c =
    subst (λ a. ActsAs (IsDone (asked c.args.request) (file_tree c.args.file.now) (given c.args.program) a)
    (sunk g.O.Sink c.args.out.now c.run_file.new.out) c.run_file.result) (sym c.in-Run.is) c.run_file.ensures
