use Rattle.std.proofs.Common.{◌∙◌, length, ap}
use Rattle.mp_many.specs.Prefixes.{prefixes}
use Rattle.mp_many.proofs.WalkableLaws.{length-tree}
use Rattle.mp_many.proofs.many.Many.states.Goals as goal

pub returns : goal.returns
returns c =
    let m = c.self.inside in
    c.len.ensures ∙ ap length c.self.invariant.tree ∙ length-tree m.sig.now m.rules.now
    ∙ ap (λ v. length (prefixes v.sig v.rules)) c.self.view_is
