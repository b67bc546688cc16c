use Rattle.std.proofs.Common.{◌≡◌, ◌∙◌, [], sym, ap, true, false}
use Rattle.std.specs.Prelude.{Some}
use Rattle.mp_pattern.specs.RuleView.{rule_tree}
use Rattle.mp_pattern.specs.View.{pattern_tree}
use Rattle.mp_pattern.proofs.SoundRules.{HasConditionOver-HasSoundCondition}
use Rattle.mp_subst.specs.View.{subst_of}
use Rattle.mp_theory.specs.Filled.{filled}
use Rattle.mp_table.specs.Table.{subject_of}
use Rattle.mp_net.specs.Walk.{taken_subst}
use Rattle.mp_net.proofs.FilledLaws.{none-of, some-of, tested-none, tested-some}
use Rattle.mp_net.proofs.PairsLaws.{names-filled, ready-condition}
use Rattle.mp_net.proofs.pairs.tested.Goals as goal

pub returns-in_default : goal.returns-in_default
returns-in_default c =
    let sig = c.args.sig.now in
    let tb = c.args.table.now in
    let p = pattern_tree c.args.rule.now.pattern in
    let t = subject_of tb in
    let missed = none-of c.in_ok-follow.field-0 c.in_default.is c.in_ok-follow.ensures.missed in
    tested-none sig t (rule_tree c.args.rule.now) c.requires.syntactic
    (ap (λ xs. filled sig p t (taken_subst tb xs)) (sym c.new-taken.ensures.items) ∙ missed t [] c.requires.read)

pub meets-requires : goal.meets-requires
meets-requires c =
    let sig = c.args.sig.now in
    let tb = c.args.table.now in
    let p = pattern_tree c.args.rule.now.pattern in
    let t = subject_of tb in
    let s = subst_of c.in_ok-subst.subst in
    let found = some-of _ c.in_ok-follow.field-0 c.in-Some.field-0 c.in-Some.is c.in_ok-follow.ensures.found in
    let all : filled sig p t [] ≡ Some s =
    ap (λ xs. filled sig p t (taken_subst tb xs)) (sym c.new-taken.ensures.items) ∙ (found t [] c.requires.read).0
    ∙ ap Some (sym (c.in_ok-subst.ensures.subst ∙ ap (taken_subst tb) c.deref.ensures.value)) in
    ready-condition sig p s c.args.rule.now.condition (names-filled sig p t s c.requires.syntactic c.requires.shape all)
    c.in_ok-subst.ensures.countable
    (HasConditionOver-HasSoundCondition sig p (rule_tree c.args.rule.now).condition c.requires.sound.condition)

pub returns-then-meets : goal.returns-then-meets
returns-then-meets c =
    let sig = c.args.sig.now in
    let tb = c.args.table.now in
    let p = pattern_tree c.args.rule.now.pattern in
    let t = subject_of tb in
    let s = subst_of c.in_ok-subst.subst in
    let found = some-of _ c.in_ok-follow.field-0 c.in-Some.field-0 c.in-Some.is c.in_ok-follow.ensures.found in
    let all : filled sig p t [] ≡ Some s =
    ap (λ xs. filled sig p t (taken_subst tb xs)) (sym c.new-taken.ensures.items) ∙ (found t [] c.requires.read).0
    ∙ ap Some (sym (c.in_ok-subst.ensures.subst ∙ ap (taken_subst tb) c.deref.ensures.value)) in
    tested-some sig t (rule_tree c.args.rule.now) c.requires.syntactic s true all
    (sym c.meets.ensures ∙ c.if-meets.true)

pub returns : goal.returns
returns c =
    let sig = c.args.sig.now in
    let tb = c.args.table.now in
    let p = pattern_tree c.args.rule.now.pattern in
    let t = subject_of tb in
    let s = subst_of c.in_ok-subst.subst in
    let found = some-of _ c.in_ok-follow.field-0 c.in-Some.field-0 c.in-Some.is c.in_ok-follow.ensures.found in
    let all : filled sig p t [] ≡ Some s =
    ap (λ xs. filled sig p t (taken_subst tb xs)) (sym c.new-taken.ensures.items) ∙ (found t [] c.requires.read).0
    ∙ ap Some (sym (c.in_ok-subst.ensures.subst ∙ ap (taken_subst tb) c.deref.ensures.value)) in
    tested-some sig t (rule_tree c.args.rule.now) c.requires.syntactic s false all
    (sym c.meets.ensures ∙ c.if-meets.false)
