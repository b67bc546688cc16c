use Rattle.std.proofs.Common.{length, ap, arith}
use Rattle.std.proofs.lemmas.List.{length-map}
use Rattle.mp_net.specs.Net.{marks}
use Rattle.mp_net.specs.Nets.{rule_marks}
use Rattle.mp_net.proofs.NetsLaws.{length-nets}
use Rattle.mp_net.proofs.nets.Nets.groups.Goals as goal

pub overflow_cast-result : goal.overflow_cast-result
overflow_cast-result c =
    let n = c.self.inside in
    let few = length-nets 0 (rule_marks n.rules.now) n.nets.items c.self.invariant.nets in
    omega (arith, few, length-map n.rules.now (λ r. marks r.pattern), c.self.invariant.sound.few)

pub returns-clause-few : goal.returns-clause-few
returns-clause-few c =
    let n = c.self.inside in
    let few = length-nets 0 (rule_marks n.rules.now) n.nets.items c.self.invariant.nets in
    omega (arith, few, length-map n.rules.now (λ r. marks r.pattern), ap (λ m. length m.rules) c.self.view_is)
