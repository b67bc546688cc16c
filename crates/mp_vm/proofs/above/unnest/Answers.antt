use Rattle.std.proofs.Common.{map, reverse, sym, ap, ◌∙◌, arith}
use Rattle.mp_pattern.specs.NetTokenView.{net_token}
use Rattle.mp_vm.specs.Known.{open_before}
use Rattle.mp_vm.proofs.AboveLaws.{popped}
use Rattle.mp_vm.proofs.above.unnest.Goals as goal

pub returns-in-Enter : goal.returns-in-Enter
returns-in-Enter c =
    let os = c.args.open.now.items in
    popped (λ f. f.0) os c.pop.new.self.items _ _ c.pop.result c.pop.ensures.items c.pop.ensures.cases
    (omega (arith, c.pop.new.self.ok.0))
    ∙ sym (ap (λ t. open_before (reverse (map (λ f. f.0) os)) (net_token t)) c.in-Enter.is)
