use Rattle.std.proofs.Common.{◌∙◌}
use Rattle.std.proofs.lemmas.Result.{IfOk-weaker}
use Rattle.mp_pattern.specs.NetTokenView.{net_token}
use Rattle.mp_vm.specs.Known.{opened}
use Rattle.mp_vm.proofs.PathRules.{open-more}
use Rattle.mp_vm.proofs.above.Above.nest.Goals as goal

pub returns-clause-opens : goal.returns-clause-opens
returns-clause-opens c = λ ks h. IfOk-weaker c.nest.result _ _
    (λ b e. open-more _ ks (opened c.args.self.now) (net_token c.args.token.now) h ∙ e) c.nest.ensures
