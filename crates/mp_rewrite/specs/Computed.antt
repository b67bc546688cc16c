-- The next step of a term, and its rewriting, as functions.
use Rattle.std.specs.Prelude.{ℕ, zero, suc, List, [], ◌∷◌, map, Option, Some, None, option_map, slice_get}
use Rattle.std.specs.Option.{option_or, option_and_then}
use Rattle.mp_term.specs.Tree.{Tree, symbol, app, Trees, no_trees, more_trees}
use Rattle.mp_term.specs.Signature.{Sig}
use Rattle.mp_term.specs.Normal.{normal}
use Rattle.mp_pattern.specs.TemplateTree.{Template, variable_template}
use Rattle.mp_pattern.specs.Value.{Value, one, Subst, value_of}
use Rattle.mp_pattern.specs.Instance.{instances}
use Rattle.mp_pattern.specs.Admission.{Rule}
use Rattle.mp_pattern.specs.Step.{Stepped, stepped, exceeded, put_in, step_excess}
use Rattle.mp_theory.specs.OneList.{one_list}
use Rattle.mp_rewrite.specs.Rewriting as ending
use Rattle.mp_rewrite.specs.Rewriting.{Rewriting, done, more}

-- a rule, and a substitution that it admits
pub record Match : Type 0 where
  pub rule : Rule
  pub subst : Subst

-- a position, with the first match of rules on the subterm there
pub record Redex : Type 0 where
  pub position : List ℕ
  pub «match» : Match

-- the redex of an argument, as one of the application around it
abbrev pub at_argument : ℕ → Redex → Redex
at_argument i r = record r { position = i ∷ r.position }

-- the one tree of a list, where it has one
abbrev pub only : List Tree → Option Tree
only (t ∷ []) = Some t
only _ = None

-- the term of a value that is one term
abbrev pub one_term : Option Value → Option Tree
one_term (Some (one t)) = Some t
one_term _ = None

-- the instance of a template, where it has one
abbrev pub instance_of : Template → Subst → Option Tree
instance_of (variable_template x) s = one_term (value_of s x)
instance_of x s = only (instances s x)

module _ (sig : Sig) where
  -- the step that puts the spliced instance at the position
  abbrev pub step_to : Tree → List ℕ → Tree → Option Stepped
  step_to t position spliced = elim (step_excess sig t position spliced) [
    | Some e ↦ Some (exceeded e)
    | None ↦ option_map stepped (only (map (normal sig) (put_in sig t position spliced)))
  ]

  -- the step that is made at the redex
  abbrev pub step_at : Tree → Redex → Option Stepped
  step_at t r =
      option_and_then (λ x. option_and_then (step_to t r.position) (instance_of x r.match.subst)) r.match.rule.template

  -- the first substitution that the rule admits on the term
  abbrev pub rule_match : Rule → Tree → Option Match
  rule_match r t = option_map (λ s. record { rule = r; subst = s }) (slice_get (one_list sig r t) 0)

  -- the least rule that admits something on the term, and the first substitution of its one-list there
  abbrev pub first_match : List Rule → Tree → Option Match
  first_match [] t = None
  first_match (r ∷ rs) t = option_or (rule_match r t) (first_match rs t)

  module _ (rules : List Rule) where
    -- the redex at the root
    abbrev pub root_redex : Tree → Option Redex
    root_redex t = option_map (λ m. record { position = []; «match» = m }) (first_match rules t)

    abbrev mutual
      -- the first redex of a term in preorder
      pub first_redex : Tree → Option Redex
      first_redex (symbol n) = root_redex (symbol n)
      first_redex (app f ts) = option_or (root_redex (app f ts)) (first_below 0 ts)

      -- that of the arguments from index i on
      pub first_below : ℕ → Trees → Option Redex
      first_below i no_trees = None
      first_below i (more_trees t ts) = option_or (option_map (at_argument i) (first_redex t)) (first_below (suc i) ts)

    -- the next step, where a position is live
    abbrev pub next_step : Tree → Option Stepped
    next_step t = option_and_then (step_at t) (first_redex t)

    -- how rewriting goes on from t, which was reached by n steps, where at most `left` more are made
    abbrev pub rewriting_from : ℕ → ℕ → Tree → Rewriting
    rewriting_from zero n t = elim (next_step t) [ None ↦ done t n | Some r ↦ more t n ]
    rewriting_from (suc left) n t = elim (next_step t) [
      | None ↦ done t n
      | Some r ↦ elim r [ stepped u ↦ rewriting_from left (suc n) u | exceeded e ↦ ending.exceeded e n ]
    ]

    -- the rewriting of t with at most `limit` steps
    abbrev pub rewriting : ℕ → Tree → Rewriting
    rewriting limit t = rewriting_from limit 0 t
