use Rattle.std.proofs.Common.{◌+◌, ◌++◌, length, map, refl, ap, sym, ◌∙◌, arith}
use Rattle.std.specs.Prelude.{Ok, Err}
use Rattle.std.proofs.lemmas.List.{length-map}
use Rattle.mp_pattern.specs.CondView.{cond_tree}
use Rattle.mp_program.specs.FormFaults.{faults_of_declarations, faults_of_tests, faults_of_rules, faults_of_unused}
use Rattle.mp_program.specs.RuleView.{rule_line_view}
use Rattle.mp_line.specs.declared.names.TheConstants.{MAX_KEPT}
use Rattle.mp_vm.specs.FormRead.{first_line}
use Rattle.mp_vm.proofs.CheckedLaws.{checks-behind, checks-passed}
use Rattle.mp_vm.proofs.ProgramReading.{form-few, others, form-split, declared-count, declarations-checked}
use Rattle.mp_vm.proofs.ProgramReading.{tests-checked, rules-checked}
use Rattle.mp_vm.proofs.reader.check_lines.Goals as goal

pub overflow_add-first_test : goal.overflow_add-first_test
overflow_add-first_test c =
    let r = c.requires.read in
    let few = form-few c.args.sig.now MAX_KEPT c.args.bytes.now c.args.draft.now r.form r.is_form
    (r.each r.form r.is_form) in
    omega (arith, few, c.requires.few)

pub returns-in_err-check_declarations : goal.returns-in_err-check_declarations
returns-in_err-check_declarations c = λ f is.
    let sig = c.args.sig.now in
    let bytes = c.args.bytes.now in
    let d = c.args.draft.now in
    let own = c.requires.read.each f is in
    let lines = c.declarations.ensures.lines (first_line f.format) (f.ops ++ f.kinds)
    (others sig MAX_KEPT bytes d f is own) (form-split sig MAX_KEPT bytes d f is own) is.ended
    (declared-count sig MAX_KEPT bytes d f is own) in
    checks-passed (Unit {0}) (faults_of_declarations sig f)
    (faults_of_tests sig f ++ (faults_of_rules sig f ++ faults_of_unused sig f))
    c.in_err-check_declarations.field-0.0 c.from_residual.result c.from_residual.ensures.1
    (declarations-checked sig MAX_KEPT bytes d f is own {T = Unit {0}} c.declarations.result.now
    (Err c.in_err-check_declarations.field-0.0) lines c.in_err-check_declarations.ensures)

pub check_tests-requires : goal.check_tests-requires
check_tests-requires c =
    let r = c.requires.read in
    let few = form-few c.args.sig.now MAX_KEPT c.args.bytes.now c.args.draft.now r.form r.is_form
    (r.each r.form r.is_form) in
    let n = ap length c.as_slice.ensures in
    let m = length-map c.as_slice.result.now cond_tree in
    record { few = omega (arith, few, c.requires.few, n, m) }

pub returns-in_err-check_tests : goal.returns-in_err-check_tests
returns-in_err-check_tests c = λ f is.
    let sig = c.args.sig.now in
    let bytes = c.args.bytes.now in
    let d = c.args.draft.now in
    let own = c.requires.read.each f is in
    let lines = c.declarations.ensures.lines (first_line f.format) (f.ops ++ f.kinds)
    (others sig MAX_KEPT bytes d f is own) (form-split sig MAX_KEPT bytes d f is own) is.ended
    (declared-count sig MAX_KEPT bytes d f is own) in
    checks-behind (faults_of_declarations sig f)
    (faults_of_tests sig f ++ (faults_of_rules sig f ++ faults_of_unused sig f))
    c.from_residual-in_err-check_tests.result
    (declarations-checked sig MAX_KEPT bytes d f is own {T = Unit {0}} c.declarations.result.now
    (Ok c.in_ok-check_declarations.field-0) lines c.in_ok-check_declarations.ensures)
    (checks-passed (Unit {0}) (faults_of_tests sig f) (faults_of_rules sig f ++ faults_of_unused sig f)
    c.in_err-check_tests.field-0.0 c.from_residual-in_err-check_tests.result
    c.from_residual-in_err-check_tests.ensures.1
    (tests-checked sig MAX_KEPT bytes d f is own {T = Unit {0}} (map cond_tree c.as_slice.result.now)
    (d.declarations + 2)
    (Err c.in_err-check_tests.field-0.0) c.as_slice.ensures refl c.in_err-check_tests.ensures))

pub check_rules-requires : goal.check_rules-requires
check_rules-requires c =
    let r = c.requires.read in
    let few = form-few c.args.sig.now MAX_KEPT c.args.bytes.now c.args.draft.now r.form r.is_form
    (r.each r.form r.is_form) in
    let n = ap length c.deref.ensures.value in
    record { few = omega (arith, few, c.requires.few, n, c.len.ensures) }

pub returns : goal.returns
returns c = λ f is.
    let sig = c.args.sig.now in
    let bytes = c.args.bytes.now in
    let d = c.args.draft.now in
    let own = c.requires.read.each f is in
    let lines = c.declarations.ensures.lines (first_line f.format) (f.ops ++ f.kinds)
    (others sig MAX_KEPT bytes d f is own) (form-split sig MAX_KEPT bytes d f is own) is.ended
    (declared-count sig MAX_KEPT bytes d f is own) in
    checks-behind (faults_of_declarations sig f)
    (faults_of_tests sig f ++ (faults_of_rules sig f ++ faults_of_unused sig f)) c.check_rules.result
    (declarations-checked sig MAX_KEPT bytes d f is own {T = Unit {0}} c.declarations.result.now
    (Ok c.in_ok-check_declarations.field-0) lines c.in_ok-check_declarations.ensures)
    (checks-behind (faults_of_tests sig f) (faults_of_rules sig f ++ faults_of_unused sig f) c.check_rules.result
    (tests-checked sig MAX_KEPT bytes d f is own {T = Unit {0}} (map cond_tree c.as_slice.result.now)
    (d.declarations + 2)
    (Ok c.in_ok-check_tests.field-0) c.as_slice.ensures refl c.in_ok-check_tests.ensures)
    (rules-checked sig MAX_KEPT bytes d f is own c.len.result (d.declarations + 2) c.check_rules.result c.len.ensures
    refl (c.check_rules.ensures f.rules f.tests
    (ap (map rule_line_view) c.deref.ensures.value ∙ own.rules) (sym (c.len.ensures ∙ ap length own.tests)))))
