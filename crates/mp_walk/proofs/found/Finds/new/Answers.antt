use Rattle.std.proofs.Common.{subst, sym}
use Rattle.std.specs.List.Sorted.{IsStrictlySortedBy}
use Rattle.mp_walk.specs.Found.{found_cmp}
use Rattle.mp_walk.specs.Ranked.{pairs_of, AreOver}
use Rattle.mp_walk.proofs.FoundRuns.{ascends-none}
use Rattle.mp_walk.proofs.found.Finds.new.Goals as goal

pub invariant_of-result : goal.invariant_of-result
invariant_of-result c = (
  λ b. subst (λ rs. IsStrictlySortedBy found_cmp (pairs_of rs)) (sym c.new.ensures.items) ascends-none,
  subst (AreOver c.args.table.now) (sym c.new.ensures.items) tt,
)
