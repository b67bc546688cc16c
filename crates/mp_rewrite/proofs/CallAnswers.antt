-- What the calls answer by the functions is what they answer.
use Rattle.std.proofs.Common.{◌≡◌, ℕ, suc, ◌+◌, ◌-◌, ◌<◌, ◌≤◌, Bool, List}
use Rattle.std.proofs.Common.{refl, sym, ap, ◌∙◌, subst, arith}
use Rattle.std.proofs.Common.{add-one}
use Rattle.std.specs.Prelude.{Option, Some, None, Result, Ok, Err}
use Rattle.std.specs.Prelude.{is_some, if◌then◌else◌}
use Rattle.mp_term.specs.declared.term.Term.{Term}
use Rattle.mp_term.specs.declared.size.Excess.TheVariants as size
use Rattle.mp_term.specs.Tree.{Tree}
use Rattle.mp_term.specs.Signature.{Sig, IsSignature}
use Rattle.mp_pattern.specs.Admission.{Rule}
use Rattle.mp_pattern.specs.Step.{Stepped, stepped}
use Rattle.mp_pattern.specs.Step as step
use Rattle.mp_rewrite.specs.Rewriting.{Rewriting, done, more, exceeded}
use Rattle.mp_rewrite.specs.Rewritable.{AreRewriteRules, IsRewritable}
use Rattle.mp_rewrite.specs.Answers.{IsStepAnswer, IsRewritingAnswer}
use Rattle.mp_rewrite.specs.ComputedAnswers.{IsComputedStep, IsComputedRewriting}
use Rattle.mp_rewrite.specs.Computed.{next_step, rewriting_from, rewriting}
use Rattle.mp_rewrite.specs.declared.rewrite.Rewritten.{Rewritten}
use Rattle.mp_rewrite.specs.declared.stop.Stop.{Stop}
use Rattle.mp_rewrite.specs.declared.stop.Stop.TheVariants as stop
use Rattle.mp_rewrite.specs.Faults.{fault_after}
use Rattle.mp_rewrite.specs.Turn.{IsStopped}
use Rattle.mp_rewrite.specs.declared.fault.RewriteFault.{RewriteFault}
use Rattle.mp_rewrite.specs.declared.fault.RewriteFault.TheVariants.{TooLarge, TooDeep, Memory}
use Rattle.mp_rewrite.proofs.Steps.{IsStep-next_step, IsDead-next_step, IsRewriting-rewriting}

-- ---- the loop

module _ (sig : Sig) (rules : List Rule) where
  -- the end at the limit
  abbrev pub after_limit : ℕ → Tree → Option Stepped → Rewriting
  after_limit n t o = elim o [ None ↦ done t n | Some r ↦ more t n ]

  -- what goes on after a step
  abbrev pub after_step : ℕ → ℕ → Tree → Option Stepped → Rewriting
  after_step left n t o = elim o [
    | None ↦ done t n
    | Some r ↦ elim r [ stepped u ↦ rewriting_from sig rules left (suc n) u | step.exceeded e ↦ exceeded e n ]
  ]

more-left : (limit turns : ℕ) → turns < limit → limit - turns ≡ suc (limit - suc turns)
more-left limit turns below = omega arith

limit-ended : (limit : ℕ) (t : Tree) (r : Option Stepped)
    → (elim r [ None ↦ done t limit | Some x ↦ more t limit ]) ≡ (if is_some r then more t limit else done t limit)
limit-ended limit t None = refl
limit-ended limit t (Some x) = refl

-- ---- the answers

module _ (sig : Sig) (rules : List Rule) (signature : IsSignature sig) (sound : AreRewriteRules sig rules)
    (t : Tree) (rewritable : IsRewritable sig t) where
  -- the answer of a step
  pub IsStepAnswer-computed : (r : Result (Option Term) RewriteFault) → IsComputedStep (next_step sig rules t) r
      → IsStepAnswer sig rules t r
  IsStepAnswer-computed (Ok (Some u)) h = (IsStep-next_step sig rules signature sound t rewritable _).1 h
  IsStepAnswer-computed (Ok None) h = (IsDead-next_step sig rules signature sound t rewritable).1 h
  IsStepAnswer-computed (Err (TooLarge nodes turns)) h =
      ((IsStep-next_step sig rules signature sound t rewritable _).1 h.0, h.1)
  IsStepAnswer-computed (Err (TooDeep depth turns)) h =
      ((IsStep-next_step sig rules signature sound t rewritable _).1 h.0, h.1)
  IsStepAnswer-computed (Err Memory) h = tt

  -- the answer of rewriting
  pub IsRewritingAnswer-computed : (limit : ℕ) (r : Result Rewritten RewriteFault)
      → IsComputedRewriting (rewriting sig rules limit t) r → IsRewritingAnswer sig rules limit t r
  IsRewritingAnswer-computed limit (Ok r) h = (IsRewriting-rewriting sig rules signature sound limit t rewritable _).1 h
  IsRewritingAnswer-computed limit (Err (TooLarge nodes turns)) h =
      (IsRewriting-rewriting sig rules signature sound limit t rewritable _).1 h
  IsRewritingAnswer-computed limit (Err (TooDeep depth turns)) h =
      (IsRewriting-rewriting sig rules signature sound limit t rewritable _).1 h
  IsRewritingAnswer-computed limit (Err Memory) h = tt

-- ---- one step

-- the fault of a step that isn't made
pub IsComputedStep-stop : (o : Option Stepped) (e : Stop) → IsStopped o e → IsComputedStep o (Err (fault_after e 0))
IsComputedStep-stop o (stop.Exceeded (size.TooLarge nodes)) h = (h, refl)
IsComputedStep-stop o (stop.Exceeded (size.TooDeep depth)) h = (h, refl)
IsComputedStep-stop o stop.Memory h = tt

-- ---- steps of the loop

-- rewriting that stops at a step which isn't made
pub stopped : (sig : Sig) (rules : List Rule) (limit turns : ℕ) (t : Tree) (w : Rewriting) (e : Stop) → turns < limit
    → rewriting_from sig rules (limit - turns) turns t ≡ w → IsStopped (next_step sig rules t) e
    → IsComputedRewriting w (Err (fault_after e turns))
stopped sig rules limit turns t w (stop.Exceeded (size.TooLarge nodes)) below left h =
    sym left ∙ ap (λ k. rewriting_from sig rules k turns t) (more-left limit turns below)
    ∙ ap (after_step sig rules (limit - suc turns) turns t) h
stopped sig rules limit turns t w (stop.Exceeded (size.TooDeep depth)) below left h =
    sym left ∙ ap (λ k. rewriting_from sig rules k turns t) (more-left limit turns below)
    ∙ ap (after_step sig rules (limit - suc turns) turns t) h
stopped sig rules limit turns t w stop.Memory below left h = tt

-- rewriting that goes on from the term after a step
pub went_on : (sig : Sig) (rules : List Rule) (limit turns : ℕ) (t u : Tree) (w : Rewriting) → turns < limit
    → rewriting_from sig rules (limit - turns) turns t ≡ w → next_step sig rules t ≡ Some (stepped u)
    → rewriting_from sig rules (limit - (turns + 1)) (turns + 1) u ≡ w
went_on sig rules limit turns t u w below left h =
    let next : rewriting_from sig rules (limit - suc turns) (suc turns) u ≡ w =
    ap (after_step sig rules (limit - suc turns) turns t) (sym h)
    ∙ ap (λ k. rewriting_from sig rules k turns t) (sym (more-left limit turns below)) ∙ left in
    subst (λ k. rewriting_from sig rules (limit - k) k u ≡ w) (sym (add-one turns)) next

-- rewriting that comes to a term without a step
pub ended : (sig : Sig) (rules : List Rule) (limit turns : ℕ) (t u : Tree) (w : Rewriting) → turns < limit
    → rewriting_from sig rules (limit - turns) turns t ≡ w → next_step sig rules t ≡ None → u ≡ t → w ≡ done u turns
ended sig rules limit turns t u w below left h e =
    sym left ∙ ap (λ k. rewriting_from sig rules k turns t) (more-left limit turns below)
    ∙ ap (after_step sig rules (limit - suc turns) turns t) h ∙ ap (λ v. done v turns) (sym e)

-- rewriting that has come to its limit
pub at_limit : (sig : Sig) (rules : List Rule) (limit turns : ℕ) (t : Tree) (w : Rewriting) (r : Option Stepped)
    (b : Bool)
    → limit ≤ turns → turns ≤ limit → rewriting_from sig rules (limit - turns) turns t ≡ w → next_step sig rules t ≡ r
    → b ≡ is_some r → w ≡ (if b then more t limit else done t limit)
at_limit sig rules limit turns t w r b least most left h e =
    let none : limit - turns ≡ 0 = omega arith in
    let same : turns ≡ limit = omega arith in
    let ended : rewriting_from sig rules (limit - turns) turns t ≡ rewriting_from sig rules 0 limit t =
    ap (λ k. rewriting_from sig rules k turns t) none ∙ ap (λ n. rewriting_from sig rules 0 n t) same in
    sym left ∙ ended ∙ ap (after_limit sig rules limit t) h ∙ limit-ended limit t r
    ∙ ap (λ b. if b then more t limit else done t limit) (sym e)
