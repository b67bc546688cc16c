use Rattle.std.proofs.Common.{[], ◌∷◌, sym, ap, ◌∙◌}
use Rattle.mp_pattern.specs.CondView.{cond_tree}
use Rattle.mp_pattern.specs.Firsts.{firsts_after}
use Rattle.mp_program.specs.Form.{spelled}
use Rattle.mp_program.specs.ProgramOf.{renamed_cond, same_cond, cond_place, spelled_test, test_number}
use Rattle.mp_program.specs.RuleView.{rule_test}
use Rattle.mp_program.proofs.TestLaws.{test_number-spelled}
use Rattle.mp_program.proofs.numbered.test_of.Goals as goal

pub returns-in-Untested-clause-number : goal.returns-in-Untested-clause-number
returns-in-Untested-clause-number c =
    sym (ap (λ t. test_number c.args.sig.now c.args.tests.now c.args.vars.now (rule_test t)) c.in-Untested.is)

pub returns-in-Untested-clause-tests : goal.returns-in-Untested-clause-tests
returns-in-Untested-clause-tests c =
    let sig = c.args.sig.now in
    sym (ap (λ t. firsts_after (same_cond sig) c.args.tests.now (spelled_test c.args.vars.now (rule_test t)))
    c.in-Untested.is)

pub returns-in-Tested-clause-number : goal.returns-in-Tested-clause-number
returns-in-Tested-clause-number c =
    sym (ap (λ t. test_number c.args.sig.now c.args.tests.now c.args.vars.now (rule_test t)) c.in-Tested.is)

pub returns-in-Tested-clause-tests : goal.returns-in-Tested-clause-tests
returns-in-Tested-clause-tests c =
    let sig = c.args.sig.now in
    sym (ap (λ t. firsts_after (same_cond sig) c.args.tests.now (spelled_test c.args.vars.now (rule_test t)))
    c.in-Tested.is)

pub returns-in_ok-place-in-Spelled-clause-number : goal.returns-in_ok-place-in-Spelled-clause-number
returns-in_ok-place-in-Spelled-clause-number c =
    let sig = c.args.sig.now in
    let vars = c.args.vars.now in
    let test = rule_test c.args.test.now in
    let x = cond_tree c.in_ok-renamed_cond-in-Spelled.field-0 in
    let placed = c.in_ok-place-in-Spelled.ensures in
    test_number-spelled sig vars test (cond_tree c.get.result.now) x
    (firsts_after (same_cond sig) c.args.tests.now (x ∷ [])) c.in_ok-place-in-Spelled.place
    (ap rule_test c.in-Spelled.is ∙ ap spelled (sym c.get.ensures))
    (placed.place ∙ ap (λ l. cond_place sig l x) placed.tests) c.in_ok-renamed_cond-in-Spelled.ensures
    ∙ ap (λ l. test_number sig l vars test) (sym placed.tests)

pub returns-in_ok-place-in-Spelled-clause-tests : goal.returns-in_ok-place-in-Spelled-clause-tests
returns-in_ok-place-in-Spelled-clause-tests c =
    let sig = c.args.sig.now in
    c.in_ok-place-in-Spelled.ensures.tests
    ∙ ap (λ x. firsts_after (same_cond sig) c.args.tests.now (x ∷ []))
    (c.in_ok-renamed_cond-in-Spelled.ensures ∙ ap (renamed_cond c.args.vars.now) c.get.ensures)
    ∙ sym (ap (λ t. firsts_after (same_cond sig) c.args.tests.now (spelled_test c.args.vars.now (rule_test t)))
    c.in-Spelled.is)
