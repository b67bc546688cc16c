use Rattle.std.proofs.Common.{◌∙◌, subst, sym}
use Rattle.mp_walk.specs.CodeConstants.{AreCodeConstants}
use Rattle.mp_walk.specs.Walkable.{IsWalkable}
use Rattle.mp_program.specs.ProgramView.{program_view}
use Rattle.mp_vm.proofs.RunnableLaws.{valid-runnable}
use Rattle.mp_vm.proofs.runner.Runner.new.Goals as goal

pub new-requires : goal.new-requires
new-requires c =
    subst (IsWalkable c.args.sig.now) (sym c.in_ok-copy.ensures)
    (valid-runnable c.args.sig.now (program_view c.args.program.now) c.requires).walkable

pub invariant_of-result : goal.invariant_of-result
invariant_of-result c =
    let sig = c.args.sig.now in
    let runnable = valid-runnable sig (program_view c.args.program.now) c.requires in
    let code = c.in_ok-code.ensures.instrs ∙ c.in_ok-copy.ensures in
    record {
      runnable = runnable;
      instrs = code;
      code = c.in_ok-code.ensures.planned;
      constants = subst (λ is. AreCodeConstants sig is c.in_ok-constants.constants) code
          (c.in_ok-constants.ensures sig (subst (IsWalkable sig) (sym code) runnable.walkable));
    }
