-- Steps that are made in place.
use Rattle.std.proofs.Common.{◌≡◌, ◌∙◌, ap, sym, refl, subst, ℕ, zero, suc, ◌+◌, ◌≤◌}
use Rattle.std.proofs.Common.{max, Bool, true, false, List, [], ◌∷◌}
use Rattle.std.proofs.Common.{length, map, arith}
use Rattle.std.specs.Prelude.{Option, Some, None, Result, Ok, Err}
use Rattle.std.specs.Prelude.{nat_lt, if◌then◌else◌, slice_get, option_and_then}
use Rattle.std.specs.Option.{option_or}
use Rattle.std.specs.Result.{IsErrAnd}
use Rattle.std.proofs.lemmas.Bool.Decides.{nat_tests}
use Rattle.mp_term.specs.declared.size.Excess.{Excess}
use Rattle.mp_term.specs.declared.size.Excess.TheVariants.{TooLarge, TooDeep}
use Rattle.mp_term.specs.declared.limits.TheConstants.{MAX_TERM_NODES, MAX_DEPTH}
use Rattle.mp_term.specs.Tree.{Tree, symbol, app, Trees, no_trees, more_trees, tree_list}
use Rattle.mp_term.specs.Size.{node_count, node_counts, depth, greatest_depth}
use Rattle.mp_term.specs.Excess.{excess}
use Rattle.mp_term.specs.Positions.{subterm}
use Rattle.mp_term.specs.Signature.{Sig}
use Rattle.mp_term.specs.Normal.{normal}
use Rattle.mp_term.specs.Replaced.{replaced}
use Rattle.mp_term.proofs.ReplacedLaws.{edited-one}
use Rattle.mp_pattern.specs.TemplateTree.{Template}
use Rattle.mp_pattern.specs.Instance.{IsInstance}
use Rattle.mp_subst.specs.declared.apply_fault.ApplyFault.{ApplyFault}
use Rattle.mp_subst.specs.declared.apply_fault.ApplyFault.TheVariants as apply
use Rattle.mp_subst.specs.Applied.{IsExceeded}
use Rattle.mp_pattern.specs.Step.{Stepped, stepped, exceeded, put_in, step_excess, IsStepTo}
use Rattle.mp_rewrite.specs.declared.in_place.Marked.{Marked}
use Rattle.mp_rewrite.specs.declared.stop.Stop.{Stop}
use Rattle.mp_rewrite.specs.declared.stop.Stop.TheVariants.{Exceeded, Memory}
use Rattle.mp_term.specs.View.{tree}
use Rattle.mp_rewrite.specs.Faults.{stop_of}
use Rattle.mp_rewrite.specs.Turn.{IsPutIn, IsMade, IsStopped}
use Rattle.mp_rewrite.specs.Computed.{Redex, step_at}
use Rattle.mp_rewrite.proofs.Steps.{IsStepBy-step_at}

-- an answer that is this error
pub of-err : {T E : Type 0} (P : Result T E → Type 0) (r : Result T E) (e : E) → IsErrAnd r (λ x. x ≡ e) → P (Err e)
    → P r
of-err P (Err x) e is h = subst (λ y. P (Err y)) (sym is) h
of-err P (Ok u) e is h = absurd is

-- ---- sizes

fits : (n k : ℕ) (b c : Bool) (m d : ℕ) → nat_lt MAX_TERM_NODES n ≡ b → nat_lt MAX_DEPTH k ≡ c → n ≤ MAX_TERM_NODES
    → k ≤ MAX_DEPTH → (if b then Some (TooLarge m) else (if c then Some (TooDeep d) else None)) ≡ None
fits n k true c m d e f h g = absurd (grind (arith, nat_tests, e, h))
fits n k false true m d e f h g = absurd (grind (arith, nat_tests, f, g))
fits n k false false m d e f h g = refl

pub excess-none : (t : Tree) (n d : ℕ) → n ≡ node_count t → n ≤ MAX_TERM_NODES → d ≤ MAX_DEPTH
    → depth t ≤ max MAX_DEPTH d → None ≡ excess (t ∷ [])
excess-none t n d e h g high =
    sym (fits (node_count t + 0) (max (depth t) 0) (nat_lt MAX_TERM_NODES (node_count t + 0))
    (nat_lt MAX_DEPTH (max (depth t) 0)) _ _ refl refl (omega (arith, e, h)) (omega (arith, g, high)))

-- a subterm has no more nodes than the term, and reaches no deeper
mutual
  pub nodes-subterm : (p : List ℕ) (t v : Tree) → subterm t p ≡ Some v → node_count v ≤ node_count t
  nodes-subterm [] t v e = let same : t ≡ v = cc in omega (arith, ap node_count same)
  nodes-subterm (i ∷ p) (symbol n) v e = cc
  nodes-subterm (i ∷ p) (app f ts) v e = omega (arith, nodes-below i p ts v e)

  nodes-below : (i : ℕ) (p : List ℕ) (ts : Trees) (v : Tree)
      → option_and_then (λ t. subterm t p) (slice_get (tree_list ts) i) ≡ Some v → node_count v ≤ node_counts ts
  nodes-below i p no_trees v e = cc
  nodes-below zero p (more_trees t ts) v e = omega (arith, nodes-subterm p t v e)
  nodes-below (suc i) p (more_trees t ts) v e = omega (arith, nodes-below i p ts v e)

mutual
  pub length-subterm : (p : List ℕ) (t v : Tree) → subterm t p ≡ Some v → length p ≤ depth t
  length-subterm [] t v e = omega arith
  length-subterm (i ∷ p) (symbol n) v e = cc
  length-subterm (i ∷ p) (app f ts) v e = omega (arith, length-below i p ts v e)

  length-below : (i : ℕ) (p : List ℕ) (ts : Trees) (v : Tree)
      → option_and_then (λ t. subterm t p) (slice_get (tree_list ts) i) ≡ Some v → length p ≤ greatest_depth ts
  length-below i p no_trees v e = cc
  length-below zero p (more_trees t ts) v e = omega (arith, length-subterm p t v e)
  length-below (suc i) p (more_trees t ts) v e = omega (arith, length-below i p ts v e)

-- ---- the step that is made

module _ (sig : Sig) (t : Tree) (r : Redex) (x : Template) (spliced : Tree)
    (has : r.match.rule.template ≡ Some x) (instance : IsInstance x r.match.subst spliced) where
  made : (result : Stepped) → IsStepTo sig t r.position spliced result → step_at sig t r ≡ Some result
  made result step = (IsStepBy-step_at sig t r result).0 (record {
    template = x;
    has_template = has;
    spliced = spliced;
    instance = instance;
    step = step;
  })

  whole-excess : (o : Option Excess) → excess (spliced ∷ []) ≡ None
      → excess (replaced r.position (normal sig spliced) t ∷ []) ≡ o → step_excess sig t r.position spliced ≡ o
  whole-excess o fits h =
      ap (λ p. option_or p (excess (put_in sig t r.position spliced))) fits
      ∙ ap excess (edited-one r.position (normal sig spliced) t) ∙ h

  -- the instance is too large or too deep
  pub step-refused : (f : ApplyFault) → IsExceeded x r.match.subst f → IsStopped (step_at sig t r) (stop_of f)
  step-refused (apply.TooLarge nodes) h =
      made (exceeded (TooLarge nodes))
      (ap (λ p. option_or p (excess (put_in sig t r.position spliced))) (h spliced instance))
  step-refused (apply.TooDeep depth) h =
      made (exceeded (TooDeep depth))
      (ap (λ p. option_or p (excess (put_in sig t r.position spliced))) (h spliced instance))
  step-refused apply.Memory h = tt

  -- the term with its normal form put in is
  pub step-exceeded : (e : Excess) → excess (spliced ∷ []) ≡ None
      → excess (replaced r.position (normal sig spliced) t ∷ []) ≡ Some e → step_at sig t r ≡ Some (exceeded e)
  step-exceeded e fits h = made (exceeded e) (whole-excess (Some e) fits h)

  -- neither is, and so the step is made
  pub step-made : (u : Tree) → excess (spliced ∷ []) ≡ None
      → excess (replaced r.position (normal sig spliced) t ∷ []) ≡ None
      → u ≡ normal sig (replaced r.position (normal sig spliced) t) → step_at sig t r ≡ Some (stepped u)
  step-made u fits h same =
      made (stepped u) (
        whole-excess None fits h,
        ap (map (normal sig)) (edited-one r.position (normal sig spliced) t) ∙ ap (λ v. v ∷ []) (sym same),
      )

  -- and so the answer is that of putting in
  pub step-put_in : (result : Result Marked Stop) → excess (spliced ∷ []) ≡ None
      → IsPutIn sig (replaced r.position (normal sig spliced) t) result → IsMade (step_at sig t r) result
  step-put_in (Ok m) fits h = step-made (tree m.term) fits h.0 h.1
  step-put_in (Err (Exceeded e)) fits h = step-exceeded e fits h
  step-put_in (Err Memory) fits h = tt
