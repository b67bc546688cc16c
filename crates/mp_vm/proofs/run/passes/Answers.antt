use Rattle.std.proofs.Common.{◌≤◌, length, ap, sym, subst, ◌∙◌, arith}
use Rattle.std.specs.Prelude.{IfSome, option_map}
use Rattle.mp_pattern.specs.declared.limits.TheConstants.{MAX_VARIABLES}
use Rattle.mp_pattern.specs.CondView.{cond_tree}
use Rattle.mp_subst.specs.Trail.{GoesWith}
use Rattle.mp_subst.specs.View.{subst_of}
use Rattle.mp_walk.specs.Walkable.{numbered_names}
use Rattle.mp_table.specs.Table.{subject_of}
use Rattle.mp_program.specs.ProgramView.{program_view, rule_view}
use Rattle.mp_vm.specs.ProgramList.{IsTestedBy}
use Rattle.mp_walk.proofs.NumberedNames.{length-numbered_names}
use Rattle.mp_vm.proofs.RunLaws.{item-few, item-ready, item-tested}
use Rattle.mp_vm.proofs.TrailNames.{item-subst_named}
use Rattle.mp_vm.proofs.run.passes.Goals as goal

pub overflow_cast-len : goal.overflow_cast-len
overflow_cast-len c =
    let p = program_view c.args.program.now in
    let r = rule_view c.args.rule.now in
    let few : length r.vars ≤ MAX_VARIABLES =
    item-few c.args.sig.now p c.requires.runnable (subject_of c.args.walk.now.table) c.requires.few
    c.args.walk.now.item c.requires.item r c.requires.some c.requires.accepts in
    omega (arith, few, c.len.ensures)

pub named_values-requires-clause-goes : goal.named_values-requires-clause-goes
named_values-requires-clause-goes c =
    subst (λ t. GoesWith t c.trail.result.now) c.requires.table c.trail.ensures.goes

pub named_values-requires-clause-few : goal.named_values-requires-clause-few
named_values-requires-clause-few c =
    let p = program_view c.args.program.now in
    let r = rule_view c.args.rule.now in
    let few : length r.vars ≤ MAX_VARIABLES =
    item-few c.args.sig.now p c.requires.runnable (subject_of c.args.walk.now.table) c.requires.few
    c.args.walk.now.item c.requires.item r c.requires.some c.requires.accepts in
    omega (arith, few, c.len.ensures, ap length c.in_ok-names.ensures, length-numbered_names c.len.result)

pub holds-requires : goal.holds-requires
holds-requires c =
    let sig = c.args.sig.now in
    let p = program_view c.args.program.now in
    let r = rule_view c.args.rule.now in
    let w = c.args.walk.now in
    let t = subject_of w.table in
    let u = subst_of c.in_ok-subst.subst in
    item-ready sig p c.requires.runnable t c.requires.few w.item c.requires.item r (cond_tree c.in-Some.test.now) u
    c.requires.some c.requires.accepts
    (sym c.test_of.ensures ∙ ap (option_map (λ d. cond_tree d.now)) c.in-Some.is)
    (item-subst_named w.item t w.sig sig w.code p.code w.table c.args.table.now c.trail.result.now c.in_ok-names.names
    (numbered_names (length r.vars)) u c.requires.sig c.requires.code c.requires.table
    (c.in_ok-names.ensures ∙ ap numbered_names c.len.ensures)
    (subst (λ n. n ≤ MAX_VARIABLES) (sym (length-numbered_names (length r.vars)))
    (item-few sig p c.requires.runnable t c.requires.few w.item c.requires.item r c.requires.some c.requires.accepts))
    c.requires.normal c.trail.ensures.fits c.in_ok-subst.ensures)

pub returns : goal.returns
returns c =
    let sig = c.args.sig.now in
    let p = program_view c.args.program.now in
    let r = rule_view c.args.rule.now in
    let w = c.args.walk.now in
    let t = subject_of w.table in
    let u = subst_of c.in_ok-subst.subst in
    subst (λ b. IfSome w.item (λ i. IsTestedBy sig p t r i b)) (sym c.holds.ensures)
    (item-tested sig p c.requires.runnable t c.requires.few w.item c.requires.item r (cond_tree c.in-Some.test.now) u
    c.requires.accepts
    (sym c.test_of.ensures ∙ ap (option_map (λ d. cond_tree d.now)) c.in-Some.is)
    (item-subst_named w.item t w.sig sig w.code p.code w.table c.args.table.now c.trail.result.now c.in_ok-names.names
    (numbered_names (length r.vars)) u c.requires.sig c.requires.code c.requires.table
    (c.in_ok-names.ensures ∙ ap numbered_names c.len.ensures)
    (subst (λ n. n ≤ MAX_VARIABLES) (sym (length-numbered_names (length r.vars)))
    (item-few sig p c.requires.runnable t c.requires.few w.item c.requires.item r c.requires.some c.requires.accepts))
    c.requires.normal c.trail.ensures.fits c.in_ok-subst.ensures))
