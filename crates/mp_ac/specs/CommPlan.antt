-- Commutative patterns whose variables are named by their numbers in a trail, and their plans.
use Rattle.std.specs.Prelude.{◌≡◌, ◌<◌, ℕ, List, map, Option, None, Some}
use Rattle.std.specs.List.{AllByRecursion}
use Rattle.mp_term.specs.Listing.{In}
use Rattle.mp_term.specs.Signature.{Sig}
use Rattle.mp_pattern.specs.declared.limits.TheConstants.{MAX_VARIABLES}
use Rattle.mp_pattern.specs.NetTokens.{numbered}
use Rattle.mp_pattern.specs.PatternTree.{Pattern, symbol_pattern, app_pattern, wild_pattern, Patterns}
use Rattle.mp_pattern.specs.Plan.{IsPlanOf}
use Rattle.mp_pattern.specs.PlanFault.{plan_fault}
use Rattle.mp_pattern.specs.Size.{all_pattern_nodes}
use Rattle.mp_pattern.specs.Variables.{variables}
use Rattle.mp_ac.specs.declared.comm_plan.CommPlan.{CommPlan}

-- the operation of an application
abbrev pub root_op : Pattern → Option ℕ
root_op (app_pattern g ps) = Some g
root_op (symbol_pattern n) = None
root_op (wild_pattern w x) = None

-- how many nodes there are below the root
abbrev pub nodes_below : Pattern → ℕ
nodes_below (app_pattern g ps) = all_pattern_nodes ps
nodes_below (symbol_pattern n) = 0
nodes_below (wild_pattern w x) = 0

-- it is an application
pub record IsApplication (p : Pattern) : Type 0 where
  pub op : ℕ
  pub children : Patterns
  pub is : p ≡ app_pattern op children

-- the name is that of a number within the limit
pub record IsNumbered (x : List ℕ) : Type 0 where
  pub number : ℕ
  pub name : x ≡ numbered number
  pub few : number < MAX_VARIABLES

-- the pattern is an application that has a plan, and its variables have the names of numbers
pub record IsNumberedPattern (p : Pattern) : Type 0 where
  pub application : IsApplication p
  pub planned : plan_fault p ≡ None
  pub names : (x : List ℕ) → In x (variables p) → IsNumbered x

-- the variables of the plan are named by their numbers in the trail, which are within the limit
pub record IsNumberedPlan (c : CommPlan) : Type 0 where
  pub names : map numbered c.vars.items ≡ variables c.plan.pattern
  pub few : AllByRecursion (λ v. v < MAX_VARIABLES) c.vars.items

-- the plan is that of the pattern, and each variable has the number in the trail by which it is named
pub record IsCommPlanOf (sig : Sig) (p : Pattern) (c : CommPlan) : Type 0 where
  pub application : IsApplication p
  pub plan : IsPlanOf sig p c.plan
  pub names : map numbered c.vars.items ≡ variables p
  pub few : AllByRecursion (λ v. v < MAX_VARIABLES) c.vars.items
