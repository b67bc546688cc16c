use Rattle.std.proofs.Common.{◌∙◌, sym}
use Rattle.mp_pattern.specs.CondView.{cond_tree}
use Rattle.mp_pattern.specs.Operands.{operands}
use Rattle.mp_cond.proofs.SettledLaws.{are_operands_in}
use Rattle.mp_cond.proofs.deciding.decide.Goals as goal

pub holds_of-requires : goal.holds_of-requires
holds_of-requires c =
    are_operands_in _ c.len.ensures.valid c.requires.trail (operands (cond_tree c.args.cond.now)) c.requires.held
    (sym c.are_settled.ensures ∙ c.if-not-are_settled.false)
