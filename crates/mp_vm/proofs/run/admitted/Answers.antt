use Rattle.std.proofs.Common.{ap, sym, subst, ◌∙◌}
use Rattle.std.specs.Prelude.{Some, IfSome, option_map}
use Rattle.mp_subst.specs.Trail.{GoesWith, subst_in}
use Rattle.mp_walk.specs.NamedItems.{called}
use Rattle.mp_table.specs.Table.{subject_of}
use Rattle.mp_program.specs.ProgramView.{program_view, rule_view}
use Rattle.mp_vm.specs.ProgramList.{IsPairOf}
use Rattle.mp_vm.proofs.RunLaws.{item-few, item-there, item-accepted, item-none, item-some}
use Rattle.mp_vm.proofs.TrailNames.{item-trail_named}
use Rattle.mp_vm.proofs.run.admitted.Goals as goal

pub unreachable-requires : goal.unreachable-requires
unreachable-requires c =
    item-there c.args.sig.now (program_view c.args.program.now) c.requires.runnable
    (subject_of c.args.walk.now.table) c.requires.few c.args.walk.now.item c.requires.item c.args.number
    c.requires.some c.requires.accepts
    (c.get.ensures ∙ ap (option_map (λ r. rule_view r.now)) c.in_default.is)

pub new-requires-clause-goes : goal.new-requires-clause-goes
new-requires-clause-goes c = subst (λ t. GoesWith t c.trail.result.now) c.requires.table c.trail.ensures.goes

pub new-requires-clause-few : goal.new-requires-clause-few
new-requires-clause-few c =
    let sig = c.args.sig.now in
    let p = program_view c.args.program.now in
    let r = rule_view c.in-Some.rule.now in
    let t = subject_of c.args.walk.now.table in
    let item = c.args.walk.now.item in
    item-few sig p c.requires.runnable t c.requires.few item c.requires.item r c.requires.some
    (item-accepted sig p c.requires.runnable t c.requires.few item c.requires.item c.args.number r
    (c.get.ensures ∙ ap (option_map (λ q. rule_view q.now)) c.in-Some.is) c.requires.accepts)

pub returns-then-not-branch-clause-pair : goal.returns-then-not-branch-clause-pair
returns-then-not-branch-clause-pair c =
    item-none c.args.sig.now (program_view c.args.program.now) c.requires.runnable
    (subject_of c.args.walk.now.table) c.requires.few c.args.walk.now.item c.requires.item c.args.number
    (rule_view c.in-Some.rule.now) c.in_ok-passes.field-0
    (c.get.ensures ∙ ap (option_map (λ q. rule_view q.now)) c.in-Some.is) c.requires.accepts c.in_ok-passes.ensures
    c.if-not-branch.true

pub returns-clause-pair : goal.returns-clause-pair
returns-clause-pair c =
    let sig = c.args.sig.now in
    let p = program_view c.args.program.now in
    let r = rule_view c.in-Some.rule.now in
    let w = c.args.walk.now in
    let t = subject_of w.table in
    let trail = c.trail.result.now in
    let terms = c.args.table.now in
    let held = c.get.ensures ∙ ap (option_map (λ q. rule_view q.now)) c.in-Some.is in
    let few = item-few sig p c.requires.runnable t c.requires.few w.item c.requires.item r c.requires.some
    (item-accepted sig p c.requires.runnable t c.requires.few w.item c.requires.item c.args.number r held
    c.requires.accepts) in
    subst (λ q. IfSome w.item (λ i. IsPairOf sig p t i c.args.number (Some q))) (sym c.in_ok-pair.ensures.pair)
    (item-some sig p c.requires.runnable t c.requires.few w.item c.requires.item c.args.number r c.in_ok-passes.field-0
    (subst_in terms (called r.vars) trail) held c.requires.accepts c.in_ok-passes.ensures c.if-not-branch.false
    (item-trail_named w.item t w.sig sig w.code p.code w.table terms trail r.vars c.requires.sig c.requires.code
    c.requires.table few c.requires.normal c.trail.ensures.fits))
