use Rattle.std.proofs.Common.{◌≤◌, ◌+◌, length, drop, map, sym, subst, arith}
use Rattle.std.specs.List.{AllByRecursion}
use Rattle.std.proofs.lemmas.List.{length-drop, length-map}
use Rattle.mp_term.proofs.ListLaws.{all-map}
use Rattle.mp_pattern.specs.RuleView.{rule_tree}
use Rattle.mp_pattern.specs.Size.{pattern_nodes}
use Rattle.mp_pattern.specs.declared.limits.TheConstants.{MAX_PATTERN_NODES}
use Rattle.mp_net.specs.Net.{marks}
use Rattle.mp_net.specs.NetOf.{AreNets, IsGroup}
use Rattle.mp_net.specs.Short.{IsShort}
use Rattle.mp_net.specs.Items.{tables}
use Rattle.mp_net.specs.View.{mark_of}
use Rattle.mp_net.proofs.ShortLaws.{narrow-marks}
use Rattle.mp_net.proofs.NetsLaws.{AreFront, front-more, front-all, length-marks}
use Rattle.mp_net.specs.declared.limits.TheConstants.{MAX_STATES}
use Rattle.mp_net.proofs.nets.nets_of.Goals as goal

pub largest_group-requires-clause-short : goal.largest_group-requires-clause-short
largest_group-requires-clause-short c =
    let all = map rule_tree c.args.rules.now in
    let short = all-map (λ r. pattern_nodes r.pattern ≤ MAX_PATTERN_NODES) (IsShort MAX_STATES) (λ r. marks r.pattern)
    (λ r h. (omega (arith, h, length-marks r.pattern), narrow-marks r.pattern (omega (arith, h)))) all
    c.requires.short in
    subst (λ ms. AllByRecursion (IsShort MAX_STATES) (tables ms)) (sym c.deref.ensures.value)
    (subst (AllByRecursion (IsShort MAX_STATES)) (sym c.in_ok-marks.ensures) short)

pub loop-first-preserved : goal.loop-first-preserved
loop-first-preserved c =
    let ms = tables c.in_ok-marks.marks.items in
    let first = c.loop-first.first in
    let count = c.in_ok-group.group.count in
    let n = c.in_ok-group.group.net in
    let before = c.loop-first.nets.items in
    let group : IsGroup first (drop first ms) count n =
    subst (λ vs. IsGroup first (drop first (tables vs)) count n) c.deref.ensures.value c.in_ok-group.ensures in
    let within = group.within in
    record {
      front = subst (AreFront (first + count) ms) (sym c.in_ok-push.ensures.items)
          (front-more ms first count n before c.loop-first.invariant.front group);
      within = omega (
        arith,
        within,
        c.loop-first-test.true,
        length-drop first ms,
        length-map c.in_ok-marks.marks.items (λ v. map mark_of v.items),
      );
    }

pub returns : goal.returns
returns c =
    let ms = tables c.in_ok-marks.marks.items in
    let first = c.loop-first.first in
    let ns = c.loop-first.nets.items in
    let all : length ms ≤ first = omega (arith, length-map c.in_ok-marks.marks.items (λ v. map mark_of v.items)) in
    subst (λ us. AreNets 0 us ns) c.in_ok-marks.ensures (front-all ms first ns c.loop-first.invariant.front all)
