use Rattle.std.proofs.Common.{◌≡◌, true, ap, sym, subst}
use Rattle.mp_pattern.specs.Instance.{is_fully_named}
use Rattle.mp_pattern.specs.Lists.{IsOneList}
use Rattle.mp_pattern.specs.Operands.{HasConditionOver}
use Rattle.mp_pattern.specs.Plan.{Plan}
use Rattle.mp_pattern.specs.RuleView.{rule_tree}
use Rattle.mp_pattern.specs.Variables.{variables}
use Rattle.mp_pattern.specs.View.{pattern_tree}
use Rattle.mp_theory.specs.NoOptional.{HasNoOptional}
use Rattle.mp_theory.proofs.OneListLaws.{one_list-is, item_list-are, item_substs-item_list}
use Rattle.mp_search.proofs.TableLaws.{subject-normal}
use Rattle.mp_cursor.specs.declared.matched.Matched.{Matched}
use Rattle.mp_table.specs.Table.{subject_of}
use Rattle.mp_cursor.proofs.BeginLaws.{is-matched, can-decide, condition-held}
use Rattle.mp_cursor.proofs.cursor.Cursor.begin.Goals as goal

pub invariant_of-result : goal.invariant_of-result
invariant_of-result c =
    let m : Matched = record { sig = c.args.sig; plan = c.args.plan; table = c.args.table } in
    let r = rule_tree c.args.rule.now in
    let own : c.args.plan.now.pattern ≡ pattern_tree c.args.rule.now.pattern = ap (λ (p : Plan). p.pattern)
    c.requires.plan in
    record {
      matched = is-matched m r own c.requires.plan c.parts_over.ensures.table c.requires.normal c.requires.constants;
      pattern = own;
      condition = can-decide m r.condition
          (subst (λ p. HasConditionOver (variables p) r.condition) (sym own) c.requires.condition)
          (condition-held c.args.table.now r c.requires.constants);
      over = c.parts_over.ensures.over;
      decides = λ h. subst (λ p. (is_fully_named p ≡ true) × HasNoOptional p) c.pattern.ensures
          (c.decides_table.ensures.0 h);
      standing = tt;
    }

pub returns-clause-items : goal.returns-clause-items
returns-clause-items c = item_list-are c.args.sig.now (rule_tree c.args.rule.now) (subject_of c.args.table.now)
    (subject-normal c.args.sig.now c.args.table.now c.parts_over.ensures.table c.requires.normal)

pub returns-clause-exact : goal.returns-clause-exact
returns-clause-exact c =
    let r = rule_tree c.args.rule.now in
    let t = subject_of c.args.table.now in
    let n = subject-normal c.args.sig.now c.args.table.now c.parts_over.ensures.table c.requires.normal in
    subst (IsOneList c.args.sig.now r t) (sym (item_substs-item_list c.args.sig.now r t n))
    (one_list-is c.args.sig.now r t n)
