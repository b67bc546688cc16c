-- What the answers of the rewriting calls say by the functions of `Computed.antt`.
use Rattle.std.specs.Prelude.{◌≡◌, Option, Some, None, Result, Ok, Err}
use Rattle.mp_term.specs.declared.size.Excess.TheVariants as size
use Rattle.mp_term.specs.View.{tree}
use Rattle.mp_term.specs.declared.term.Term.{Term}
use Rattle.mp_pattern.specs.Step.{Stepped, stepped}
use Rattle.mp_pattern.specs.Step as step
use Rattle.mp_rewrite.specs.Rewriting.{Rewriting, exceeded}
use Rattle.mp_rewrite.specs.Answers.{rewriting_of}
use Rattle.mp_rewrite.specs.declared.fault.RewriteFault.{RewriteFault}
use Rattle.mp_rewrite.specs.declared.fault.RewriteFault.TheVariants.{TooLarge, TooDeep, Memory}
use Rattle.mp_rewrite.specs.declared.rewrite.Rewritten.{Rewritten}

-- what a step answers is the next step, with no step made before; memory may run out
abbrev pub IsComputedStep : Option Stepped → Result (Option Term) RewriteFault → Type 0
IsComputedStep o (Ok (Some u)) = o ≡ Some (stepped (tree u))
IsComputedStep o (Ok None) = o ≡ None
IsComputedStep o (Err (TooLarge nodes turns)) = (o ≡ Some (step.exceeded (size.TooLarge nodes))) × (turns ≡ 0)
IsComputedStep o (Err (TooDeep depth turns)) = (o ≡ Some (step.exceeded (size.TooDeep depth))) × (turns ≡ 0)
IsComputedStep o (Err Memory) = Unit {0}

-- what rewriting answers is how it ends, likewise
abbrev pub IsComputedRewriting : Rewriting → Result Rewritten RewriteFault → Type 0
IsComputedRewriting w (Ok r) = w ≡ rewriting_of r
IsComputedRewriting w (Err (TooLarge nodes turns)) = w ≡ exceeded (size.TooLarge nodes) turns
IsComputedRewriting w (Err (TooDeep depth turns)) = w ≡ exceeded (size.TooDeep depth) turns
IsComputedRewriting w (Err Memory) = Unit {0}
