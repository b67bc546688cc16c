use Rattle.std.proofs.Common.{◌≡◌, [], length, sym, ap, subst, replicate, arith}
use Rattle.mp_subst.specs.TrailView.{Laid, HasRoom, AreLast, AreEarlier}
use Rattle.mp_subst.proofs.LastLaws.{are_last-none, are_earlier-none}
use Rattle.mp_subst.proofs.trail.Trail.new.Goals as goal

pub invariant_of-result : goal.invariant_of-result
invariant_of-result c =
    let none : c.in_ok-entries.entries.items ≡ [] = c.in_ok-entries.ensures.items in
    let room = c.args.room in
    record {
      laid = subst (λ es. Laid es 0) (sym none) tt;
      used = omega arith;
      entries_room = omega (arith, ap length none);
      ranks_room = omega arith;
      entries_capacity = omega (arith, c.in_ok-entries.ensures.capacity);
      ranks_capacity = omega (arith, c.in_ok-ranks.ensures.capacity);
      rooms = subst (λ es. HasRoom 0 es room) (sym none) tt;
      last = subst (AreLast (replicate 8 0)) (sym none) (are_last-none 8);
      earlier = subst (AreEarlier 8) (sym none) (are_earlier-none 8);
    }
