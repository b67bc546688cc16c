use Rattle.std.proofs.Common.{◌≡◌, ◌∙◌, ap, subst, sym}
use Rattle.std.specs.Prelude.{Some, IfSome, option_map, slice_get}
use Rattle.mp_pattern.specs.Admission.{meets}
use Rattle.mp_pattern.specs.Fits.{Fits}
use Rattle.mp_pattern.specs.RuleView.{rule_tree}
use Rattle.mp_table.specs.Table.{subject_of}
use Rattle.mp_many.proofs.FoundLaws.{none-item, ready-item, same-number, some-item}
use Rattle.mp_many.proofs.all.admitted.Goals as goal

pub meets-requires : goal.meets-requires
meets-requires c =
    let m = c.args.many.now in
    let t = subject_of c.args.walk.now.table in
    let s = c.in_ok-pair.pair.pair.1 in
    let item = c.args.walk.now.item in
    let number = c.rule.result in
    let held : slice_get m.rules number ≡ Some (rule_tree c.in-Some.rule.now) =
    ap (λ rs. slice_get rs number) (sym c.rules.ensures.rules) ∙ c.get.ensures
    ∙ ap (option_map (λ r. rule_tree r.now)) c.in-Some.is in
    let fits = subst (λ n. IfSome item (λ i. IfSome (slice_get n.rules i.0) (λ r. Fits n.sig r.pattern t s i.1)))
    c.requires.over c.in_ok-pair.ensures.fits in
    ready-item m t c.rules.ensures.sound c.requires.normal c.requires.few number c.in-Some.rule.now held s
    item c.requires.some (c.rule.ensures, fits)

pub returns-then-branch-clause-pair : goal.returns-then-branch-clause-pair
returns-then-branch-clause-pair c =
    let m = c.args.many.now in
    let t = subject_of c.args.walk.now.table in
    let s = c.in_ok-pair.pair.pair.1 in
    let item = c.args.walk.now.item in
    let number = c.in_ok-pair.pair.pair.0 in
    let same = same-number item c.rule.result number c.requires.some c.rule.ensures c.in_ok-pair.ensures.rule in
    let rule = rule_tree c.in-Some.rule.now in
    let held : slice_get m.rules number ≡ Some rule =
    ap (slice_get m.rules) (sym same) ∙ ap (λ rs. slice_get rs c.rule.result) (sym c.rules.ensures.rules)
    ∙ c.get.ensures
    ∙ ap (option_map (λ r. rule_tree r.now)) c.in-Some.is in
    let fits = subst (λ n. IfSome item (λ i. IfSome (slice_get n.rules i.0) (λ r. Fits n.sig r.pattern t s i.1)))
    c.requires.over c.in_ok-pair.ensures.fits in
    let holds = c.in_ok-meets.ensures ∙ ap (λ g. meets g rule.condition s) c.sig.ensures in
    some-item m t c.rules.ensures.sound c.requires.normal c.requires.few number c.in-Some.rule.now held s
    item c.requires.some (c.in_ok-pair.ensures.rule, fits) (sym holds ∙ c.if-branch.true)

pub returns-clause-pair : goal.returns-clause-pair
returns-clause-pair c =
    let m = c.args.many.now in
    let t = subject_of c.args.walk.now.table in
    let s = c.in_ok-pair.pair.pair.1 in
    let item = c.args.walk.now.item in
    let number = c.rule.result in
    let rule = rule_tree c.in-Some.rule.now in
    let held : slice_get m.rules number ≡ Some rule =
    ap (λ rs. slice_get rs number) (sym c.rules.ensures.rules) ∙ c.get.ensures
    ∙ ap (option_map (λ r. rule_tree r.now)) c.in-Some.is in
    let fits = subst (λ n. IfSome item (λ i. IfSome (slice_get n.rules i.0) (λ r. Fits n.sig r.pattern t s i.1)))
    c.requires.over c.in_ok-pair.ensures.fits in
    let holds = c.in_ok-meets.ensures ∙ ap (λ g. meets g rule.condition s) c.sig.ensures in
    none-item m t c.rules.ensures.sound c.requires.normal c.requires.few number c.in-Some.rule.now held s
    item c.requires.some (c.rule.ensures, fits) (sym holds ∙ c.if-branch.false)
