use Rattle.mp_vm.proofs.WayLaws.{way_at-replicate}
use Rattle.mp_vm.proofs.ways.Ways.new.Goals as goal

pub returns-clause-none : goal.returns-clause-none
returns-clause-none c = λ n.
    rw (c.in_ok-ways.ensures.items_if_clones_equal (λ y e. e)) (way_at-replicate c.args.count n)
