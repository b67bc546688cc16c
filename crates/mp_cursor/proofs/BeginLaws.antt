-- What a table that holds a rule's constants holds of its pattern and of its condition.
use Rattle.std.proofs.Common.{◌≡◌, List, [], ◌∷◌, subst, sym}
use Rattle.std.specs.Prelude.{Option, Some, None, IsSome, flat_map}
use Rattle.std.specs.List.{AllByRecursion}
use Rattle.mp_pattern.specs.Admission.{Rule}
use Rattle.mp_pattern.specs.CondTree.{Operand, var, ground, Cond}
use Rattle.mp_pattern.specs.Constants.{pattern_constants, condition_constants, ground_term}
use Rattle.mp_pattern.specs.Constants.{rule_constants}
use Rattle.mp_pattern.specs.Operands.{operands, HasConditionOver}
use Rattle.mp_pattern.specs.Variables.{variables}
use Rattle.mp_cond.specs.Verdict.{IsHeld}
use Rattle.mp_term.specs.Normal.{IsNormal}
use Rattle.mp_term.proofs.ListLaws.{all-split}
use Rattle.mp_pattern.specs.Plan.{IsPlanOf}
use Rattle.mp_table.specs.Table.{Table, IsTable, rank_of}
use Rattle.mp_search.proofs.GroundsHeld.{grounds-held}
use Rattle.mp_cursor.specs.declared.matched.Matched.{Matched}
use Rattle.mp_cursor.specs.Matched.{IsMatched, IsDecidable}

module _ (t : Table) where
  operands-held : (os : List Operand) → AllByRecursion (λ u. IsSome (rank_of t u)) (flat_map ground_term os)
      → AllByRecursion (IsHeld t) os
  operands-held [] h = tt
  operands-held (var x ∷ os) h = (tt, operands-held os h)
  operands-held (ground u ∷ os) h = (h.0, operands-held os h.1)

-- so the condition can be decided
pub can-decide : (m : Matched) (c : Option Cond) → HasConditionOver (variables m.plan.now.pattern) c
    → AllByRecursion (λ u. IsSome (rank_of m.table.now u)) (condition_constants c) → IsDecidable m c
can-decide m None o h = tt
can-decide m (Some c) o h = (o, operands-held m.table.now (operands c) h)

pub pattern-held : (t : Table) (r : Rule) → AllByRecursion (λ u. IsSome (rank_of t u)) (rule_constants r)
    → AllByRecursion (λ u. IsSome (rank_of t u)) (pattern_constants r.pattern)
pattern-held t r h =
    (all-split (λ u. IsSome (rank_of t u)) (pattern_constants r.pattern) (condition_constants r.condition) h).0

pub condition-held : (t : Table) (r : Rule) → AllByRecursion (λ u. IsSome (rank_of t u)) (rule_constants r)
    → AllByRecursion (λ u. IsSome (rank_of t u)) (condition_constants r.condition)
condition-held t r h =
    (all-split (λ u. IsSome (rank_of t u)) (pattern_constants r.pattern) (condition_constants r.condition) h).1

-- a plan over a table that holds the rule's constants
pub is-matched : (m : Matched) (r : Rule) → m.plan.now.pattern ≡ r.pattern → IsPlanOf m.sig.now r.pattern m.plan.now
    → IsTable m.table.now → AllByRecursion (IsNormal m.sig.now) m.table.now.terms
    → AllByRecursion (λ u. IsSome (rank_of m.table.now u)) (rule_constants r) → IsMatched m
is-matched m r e p t n c = record {
  plan = subst (λ q. IsPlanOf m.sig.now q m.plan.now) (sym e) p;
  table = t;
  normal = n;
  holds = grounds-held m.table.now m.plan.now.pattern
      (subst (λ q. AllByRecursion (λ u. IsSome (rank_of m.table.now u)) (pattern_constants q)) (sym e)
      (pattern-held m.table.now r c));
}
