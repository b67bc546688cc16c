use Rattle.std.proofs.Common.{◌≡◌, true, refl, ap, sym, subst}
use Rattle.std.specs.Prelude.{option_map}
use Rattle.mp_term.specs.Search.{In}
use Rattle.mp_pattern.specs.CondView.{cond_tree}
use Rattle.mp_pattern.specs.Instance.{is_fully_named}
use Rattle.mp_pattern.specs.Operands.{HasConditionOver}
use Rattle.mp_pattern.specs.Plan.{Plan}
use Rattle.mp_pattern.specs.RuleView.{rule_tree}
use Rattle.mp_pattern.specs.Variables.{variables}
use Rattle.mp_pattern.specs.View.{pattern_tree}
use Rattle.mp_theory.specs.NoOptional.{HasNoOptional}
use Rattle.mp_cursor.specs.declared.matched.Matched.{Matched}
use Rattle.mp_cursor.specs.Listing.{StandForNone}
use Rattle.mp_cursor.specs.Matched.{IsDecidable}
use Rattle.mp_cursor.specs.Parts.{item_of, levels_table}
use Rattle.mp_cursor.proofs.BeginLaws.{is-matched, can-decide, condition-held}
use Rattle.mp_cursor.proofs.CursorLaws.{items-sought, names-apart, names-same}
use Rattle.mp_cursor.proofs.cursor.Cursor.resume.Goals as goal

pub returns-then-ne : goal.returns-then-ne
returns-then-ne c = λ e.
    absurd (names-apart c.args.token.now.rule c.args.rule.now.name c.ne.result c.ne.ensures c.if-ne.true e)

pub stand_at-requires-clause-matched : goal.stand_at-requires-clause-matched
stand_at-requires-clause-matched c =
    let m : Matched = record { sig = c.args.sig; plan = c.args.plan; table = c.args.table } in
    is-matched m (rule_tree c.args.rule.now) (ap (λ (p : Plan). p.pattern) c.requires.plan) c.requires.plan
    c.parts_over-parts.ensures.table c.requires.normal c.requires.constants

pub stand_at-requires-clause-decidable : goal.stand_at-requires-clause-decidable
stand_at-requires-clause-decidable c =
    let m : Matched = record { sig = c.args.sig; plan = c.args.plan; table = c.args.table } in
    let r = c.args.rule.now in
    subst (IsDecidable m) (sym c.condition_of-condition.ensures)
    (can-decide m (rule_tree r).condition
    (subst (λ p. HasConditionOver (variables p) (rule_tree r).condition)
    (sym (ap (λ (p : Plan). p.pattern) c.requires.plan)) c.requires.condition)
    (condition-held c.args.table.now (rule_tree r) c.requires.constants))

pub returns-then-not-stand_at : goal.returns-then-not-stand_at
returns-then-not-stand_at c = λ e.
    let m : Matched = record { sig = c.args.sig; plan = c.args.plan; table = c.args.table } in
    let r = c.args.rule.now in
    let own : c.args.plan.now.pattern ≡ pattern_tree r.pattern = ap (λ (p : Plan). p.pattern) c.requires.plan in
    let h = is-matched m (rule_tree r) own c.requires.plan c.parts_over-parts.ensures.table c.requires.normal
    c.requires.constants in
    subst (StandForNone c.args.table.now c.args.token.now.entries)
    (sym (items-sought m h r (option_map (λ k. cond_tree k.now) c.condition_of-condition.result) own
    c.condition_of-condition.ensures (levels_table m c.parts_over-parts.result)))
    c.if-not-stand_at.ensures.found

pub invariant_of-result : goal.invariant_of-result
invariant_of-result c =
    let m : Matched = record { sig = c.args.sig; plan = c.args.plan; table = c.args.table } in
    let r = c.args.rule.now in
    let own : c.args.plan.now.pattern ≡ pattern_tree r.pattern = ap (λ (p : Plan). p.pattern) c.requires.plan in
    let h = is-matched m (rule_tree r) own c.requires.plan c.parts_over-parts.ensures.table c.requires.normal
    c.requires.constants in
    record {
      matched = h;
      pattern = own;
      condition = can-decide m (rule_tree r).condition
          (subst (λ p. HasConditionOver (variables p) (rule_tree r).condition) (sym own) c.requires.condition)
          (condition-held c.args.table.now (rule_tree r) c.requires.constants);
      over = c.stand_at.ensures.over;
      decides = λ b. subst (λ p. (is_fully_named p ≡ true) × HasNoOptional p) c.pattern.ensures
          (c.decides_table-decides_table.ensures.0 b);
      standing = subst (In (item_of m c.stand_at.new.self))
          (sym (items-sought m h r (option_map (λ k. cond_tree k.now) c.condition_of-condition.result) own
          c.condition_of-condition.ensures (levels_table m c.parts_over-parts.result)))
          c.if-not-stand_at.ensures.found.0;
    }

pub returns : goal.returns
returns c =
    let m : Matched = record { sig = c.args.sig; plan = c.args.plan; table = c.args.table } in
    let r = c.args.rule.now in
    let own : c.args.plan.now.pattern ≡ pattern_tree r.pattern = ap (λ (p : Plan). p.pattern) c.requires.plan in
    let h = is-matched m (rule_tree r) own c.requires.plan c.parts_over-parts.ensures.table c.requires.normal
    c.requires.constants in (
      names-same c.args.token.now.rule r.name c.ne.result c.ne.ensures c.if-ne.false,
      (refl, refl, refl),
      record {
        at = item_of m c.stand_at.new.self;
        member = subst (In (item_of m c.stand_at.new.self))
            (sym (items-sought m h r (option_map (λ k. cond_tree k.now) c.condition_of-condition.result) own
            c.condition_of-condition.ensures (levels_table m c.parts_over-parts.result)))
            c.if-not-stand_at.ensures.found.0;
        table = c.if-not-stand_at.ensures.found.1;
        item = refl;
        to_come = refl;
      },
    )
