use Rattle.std.proofs.Common.{◌≡◌, ◌<◌, ◌+◌, ◌-◌, length, take, sym, ap, ◌∙◌, subst, arith}
use Rattle.std.proofs.lemmas.List.{length-set}
use Rattle.mp_subst.specs.TrailView.{AreLast, AreEarlier}
use Rattle.mp_subst.proofs.LastLaws.{are_last-back}
use Rattle.mp_subst.proofs.trail.take_back.Goals as goal

pub loop-left-preserved : goal.loop-left-preserved
loop-left-preserved c =
    let es = c.args.entries.now in
    let ns = c.loop-left.last in
    let left = c.loop-left.left in
    let i = c.loop-left.invariant in
    let back : left - 1 + 1 ≡ left = omega (arith, c.loop-left-test.true) in
    let below : left - 1 < length es = omega (arith, c.loop-left-test.true, i.within) in
    let last : AreLast ns (take (left - 1 + 1) es) = subst (λ n. AreLast ns (take n es)) (sym back) i.last in
    let earlier : AreEarlier (length ns) es = subst (λ n. AreEarlier n es) (sym i.count) c.requires.earlier in
    record {
      from = omega (arith, c.loop-left-test.true);
      within = omega (arith, i.within);
      last = subst (λ ms. AreLast ms (take (left - 1) es)) (sym c.set_number.ensures.after)
          (are_last-back ns es (left - 1) _ below last earlier);
      count = ap length c.set_number.ensures.after ∙ length-set ns _ _ ∙ i.count;
    }
