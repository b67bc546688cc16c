use Rattle.std.proofs.Common.{subst, sym}
use Rattle.std.specs.List.{AllByRecursion}
use Rattle.mp_walk.specs.Instrs.{Instr}
use Rattle.mp_walk.specs.SoundTokens.{IsSoundToken}
use Rattle.mp_walk.proofs.CodeLaws.{tokens-sound}
use Rattle.mp_walk.proofs.code.Code.new.Goals as goal

pub plans_of-requires : goal.plans_of-requires
plans_of-requires c =
    subst (AllByRecursion (λ (i : Instr). IsSoundToken c.args.sig.now i.token)) (sym c.as_slice.ensures)
    (tokens-sound c.args.sig.now c.args.instrs c.requires)
