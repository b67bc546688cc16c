use Rattle.std.proofs.Common.{◌≡◌, ◌-◌, ◌∷◌, List, drop}
use Rattle.mp_subst.specs.Trail.{cut, length_at}
use Rattle.mp_ac.specs.Store.{IsStoreOf}
use Rattle.mp_walk.specs.Below.{IsAbove, IsAtWay, IsSearch, left_steps, term_of, unboxed}
use Rattle.mp_walk.specs.TokenMachine.{Open}
use Rattle.mp_ac.specs.Numbered.{numbered_subst}
use Rattle.mp_walk.proofs.comm.step_below.Given as goal

abbrev pub invariant-loop-alloc : goal.invariant-loop-alloc
invariant-loop-alloc l = record {
  same : (f : Open) (gs : List Open) → f.left ≡ term_of l.below ∷ drop 1 f.left
      → left_steps l.below f gs l.next (unboxed l.search)
      (numbered_subst l.below.table.now (cut (length_at l.mark) l.initial.trail).stack)
      ≡ left_steps l.below f gs l.initial.next (unboxed l.initial.search)
      (numbered_subst l.below.table.now (cut (length_at l.mark) l.initial.trail).stack);
  search : IsSearch l.below (cut (length_at l.mark) l.initial.trail) (unboxed l.search);
  way : IsAtWay l.next (unboxed l.search);
  above : IsAbove l.below (length_at l.mark) (cut (length_at l.mark) l.initial.trail) l.trail;
  store : IsStoreOf l.below.table.now l.below.plans.now l.store;
}

abbrev pub decreases-loop-alloc : goal.decreases-loop-alloc
decreases-loop-alloc l = 2 - l.next
