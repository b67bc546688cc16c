use Rattle.std.proofs.Common.{List, [], map, Result, Ok, Err, sym, subst, ◌∙◌}
use Rattle.std.specs.Result.{result_and}
use Rattle.mp_parser.specs.View.{statement_tree}
use Rattle.mp_build.specs.declared.fault.TextFault.{TextFault}
use Rattle.mp_build.specs.declared.fault.TextError.{TextError}
use Rattle.mp_build.specs.Answers.{Gives}
use Rattle.mp_build.specs.Build.{sig_of}
use Rattle.mp_build.specs.Checks.{faults_by, declaration_faults}
use Rattle.mp_build.proofs.Fails.{gives-behind}
use Rattle.mp_text.specs.Draft.{IsDraftOf}
use Rattle.mp_text.specs.FileChecks.{statement_faults}
use Rattle.mp_text.proofs.Draft.{draft_sig}
use Rattle.mp_text.proofs.reader.draft_of.Goals as goal

-- what was made is given where nothing fails
gives-and : {T : Type 0} (r : Result (Unit {0}) TextError) (v : T) (fs : List TextFault) (P : T → Type 0)
    → Gives r fs (λ _. P v) → Gives (result_and r (Ok v)) fs P
gives-and (Ok done) v fs P g = g
gives-and (Err e) v fs P g = g

pub add_statements-requires : goal.add_statements-requires
add_statements-requires c =
    let draft = c.empty_draft-draft.result in
    subst (λ sig. IsDraftOf sig [] draft) (sym (draft_sig _ [] draft c.empty_draft-draft.ensures))
    c.empty_draft-draft.ensures

pub returns : goal.returns
returns c =
    let ss = map statement_tree c.args.statements.now in
    let others = faults_by (statement_faults (sig_of ss)) [] ss in
    let draft = c.add_statements.new.draft in
    let sig = draft_sig _ [] c.empty_draft-draft.result c.empty_draft-draft.ensures ∙ c.in_ok-sig.ensures.1 in
    rw c.and.ensures
    (gives-behind (result_and c.add_statements.result (Ok draft)) (declaration_faults ss) others
    (λ d. IsDraftOf (sig_of ss) ss d) c.in_ok-sig.ensures.0
    (gives-and c.add_statements.result draft others (λ d. IsDraftOf (sig_of ss) ss d)
    (rw sig at c.add_statements.ensures)))
