use Rattle.std.proofs.Common.{◌-◌, [], ◌∷◌, length, map, sym, ap, subst, arith}
use Rattle.std.specs.Prelude.{IfSome}
use Rattle.std.proofs.lemmas.List.{length-map}
use Rattle.mp_net.specs.Items.{tables, opens}
use Rattle.mp_net.specs.View.{mark_of}
use Rattle.mp_net.specs.Short.{IsShort, AreShort}
use Rattle.mp_net.specs.NetOf.{IsNetOf}
use Rattle.mp_net.proofs.ShortLaws.{starts-short}
use Rattle.mp_net.proofs.GroupLaws.{tables-held, one-group, more-group, below-fails}
use Rattle.mp_net.specs.declared.limits.TheConstants.{MAX_STATES}
use Rattle.mp_net.proofs.group.largest_group.Goals as goal
use Rattle.mp_term.proofs.ListLaws.{all-get}

pub chain-requires : goal.chain-requires
chain-requires c =
    let marks = c.args.marks.now in
    let first = c.args.first in
    let v = c.index-marks-first.result in
    let held = tables-held marks first v c.requires.within c.index-marks-first.is in
    let few = (all-get (IsShort MAX_STATES) (tables marks) first (map mark_of v.items) c.requires.short held).0 in
    record { few = omega (arith, few, length-map v.items mark_of, ap length c.deref.ensures.value) }

pub build_net-requires : goal.build_net-requires
build_net-requires c =
    let ms = tables c.args.marks.now in
    subst (λ is. AreShort MAX_STATES (opens ms is)) (sym c.in_ok-starts.ensures)
    (starts-short ms c.args.first c.next_count-count.result c.requires.short)

pub loop-group-init : goal.loop-group-init
loop-group-init c =
    let marks = c.args.marks.now in
    let first = c.args.first in
    let v = c.index-marks-first.result in
    let held = tables-held marks first v c.requires.within c.index-marks-first.is in
    record {
      group = one-group (tables marks) first (map mark_of v.items) c.in_ok-chain.field-0 held
          (subst (λ ms. IsNetOf (record { rule = first; rest = map mark_of ms } ∷ []) c.in_ok-chain.field-0)
          c.deref.ensures.value c.in_ok-chain.ensures);
      fails = tt;
    }

pub loop-group-preserved : goal.loop-group-preserved
loop-group-preserved c =
    let ms = tables c.args.marks.now in
    let first = c.args.first in
    let count = c.next_count-count.result in
    let n = c.in-Some.net in
    let found : IsNetOf (opens ms c.in_ok-starts.field-0.items) n =
    subst (λ o. IfSome o (IsNetOf (opens ms c.in_ok-starts.field-0.items))) c.in-Some.is
    c.in_ok-build_net.ensures in
    record {
      group = more-group ms first count n (omega arith)
          (omega (arith, c.next_count-count.ensures.most, length-map c.args.marks.now (λ v. map mark_of v.items)))
          (subst (λ is. IsNetOf (opens ms is) n) c.in_ok-starts.ensures found);
      fails = below-fails c.loop-group.fails c.loop-group.group.count count (length c.args.marks.now - first)
          c.loop-group.invariant.fails c.next_count-count.ensures.below;
    }
