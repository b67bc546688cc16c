-- What the answers of the rewriting calls say.
use Rattle.std.specs.Prelude.{◌≡◌, ℕ, List, Option, Some, None, Result, Ok, Err, if◌then◌else◌}
use Rattle.mp_term.specs.declared.size.Excess.TheVariants as size
use Rattle.mp_term.specs.Tree.{Tree}
use Rattle.mp_term.specs.View.{tree}
use Rattle.mp_term.specs.declared.term.Term.{Term}
use Rattle.mp_term.specs.Signature.{Sig}
use Rattle.mp_pattern.specs.Admission.{Rule}
use Rattle.mp_pattern.specs.Step.{stepped}
use Rattle.mp_pattern.specs.Step as step
use Rattle.mp_rewrite.specs.Step.{IsDead, IsStep}
use Rattle.mp_rewrite.specs.Rewriting.{Rewriting, done, more, exceeded, IsRewriting}
use Rattle.mp_rewrite.specs.declared.fault.RewriteFault.{RewriteFault}
use Rattle.mp_rewrite.specs.declared.fault.RewriteFault.TheVariants.{TooLarge, TooDeep, Memory}
use Rattle.mp_rewrite.specs.declared.rewrite.Rewritten.{Rewritten}

-- the term after rewriting, with whether more steps could be made, as plain data
abbrev pub rewriting_of : Rewritten → Rewriting
rewriting_of r = if r.more then more (tree r.term) r.turns else done (tree r.term) r.turns

module _ (sig : Sig) (rules : List Rule) where
  -- what a step answers: the term after it, or nothing where no position is live, or by how much it exceeds a size,
  -- with no step made before; memory may run out
  abbrev pub IsStepAnswer : Tree → Result (Option Term) RewriteFault → Type 0
  IsStepAnswer t (Ok (Some u)) = IsStep sig rules t (stepped (tree u))
  IsStepAnswer t (Ok None) = IsDead sig rules t
  IsStepAnswer t (Err (TooLarge nodes turns)) = IsStep sig rules t (step.exceeded (size.TooLarge nodes)) × (turns ≡ 0)
  IsStepAnswer t (Err (TooDeep depth turns)) = IsStep sig rules t (step.exceeded (size.TooDeep depth)) × (turns ≡ 0)
  IsStepAnswer t (Err Memory) = Unit {0}

  -- what rewriting answers, likewise
  abbrev pub IsRewritingAnswer : ℕ → Tree → Result Rewritten RewriteFault → Type 0
  IsRewritingAnswer limit t (Ok r) = IsRewriting sig rules limit t (rewriting_of r)
  IsRewritingAnswer limit t (Err (TooLarge nodes turns)) =
      IsRewriting sig rules limit t (exceeded (size.TooLarge nodes) turns)
  IsRewritingAnswer limit t (Err (TooDeep depth turns)) =
      IsRewriting sig rules limit t (exceeded (size.TooDeep depth) turns)
  IsRewritingAnswer limit t (Err Memory) = Unit {0}
