use Rattle.std.proofs.Common.{◌≤◌, length, ap, arith}
use Rattle.mp_net.proofs.ChainLaws.{few-ascending}
use Rattle.mp_net.proofs.chain.accepting.Goals as goal

pub returns-clause-state : goal.returns-clause-state
returns-clause-state c =
    let none : length c.new.result.items ≤ 1 = omega (arith, ap length c.new.ensures.items) in
    record { ascending = few-ascending c.new.result.items none; few = omega arith }
