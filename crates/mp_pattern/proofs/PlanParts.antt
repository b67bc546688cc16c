-- What a pattern has that has a plan.
use Rattle.std.proofs.Common.{◌≡◌, ◌≤◌, Bool, true, false, length, refl, arith}
use Rattle.std.specs.Prelude.{Option, Some, None, nat_lt, option_map}
use Rattle.std.proofs.lemmas.Bool.Decides.{nat_tests}
use Rattle.mp_pattern.specs.declared.limits.TheConstants.{MAX_PATTERN_NODES, MAX_VARIABLES}
use Rattle.mp_pattern.specs.Clash.{first_clash}
use Rattle.mp_pattern.specs.Normal.{is_loose}
use Rattle.mp_pattern.specs.PatternTree.{Pattern}
use Rattle.mp_pattern.specs.PlanFault.{plan_fault}
use Rattle.mp_pattern.specs.Size.{pattern_nodes}
use Rattle.mp_pattern.specs.Variables.{variables}

-- what is mapped to nothing was nothing
pub nothing-mapped : {A B : Type 0} (f : A → B) (o : Option A) → option_map f o ≡ None → o ≡ None
nothing-mapped f None e = refl
nothing-mapped f (Some x) e = cc

-- what a pattern has that has a plan
pub record HasPlan (p : Pattern) : Type 0 where
  pub firm : is_loose p ≡ false
  pub few_nodes : pattern_nodes p ≤ MAX_PATTERN_NODES
  pub few_variables : length (variables p) ≤ MAX_VARIABLES
  pub no_clash : first_clash p ≡ None

pub plan_fault-parts : (p : Pattern) → plan_fault p ≡ None → HasPlan p
plan_fault-parts p h = by_tests (is_loose p) (nat_lt MAX_PATTERN_NODES (pattern_nodes p))
    (nat_lt MAX_VARIABLES (length (variables p))) refl refl refl h
  where
    by_tests : (a b c : Bool) → is_loose p ≡ a → nat_lt MAX_PATTERN_NODES (pattern_nodes p) ≡ b
        → nat_lt MAX_VARIABLES (length (variables p)) ≡ c → plan_fault p ≡ None → HasPlan p
    by_tests true b c i j k h = (let w = rw i at h in cc)
    by_tests false true c i j k h = (let w = rw (i, j) at h in cc)
    by_tests false false true i j k h = (let w = rw (i, j, k) at h in cc)
    by_tests false false false i j k h = record {
      firm = i;
      few_nodes = grind (arith, nat_tests, j);
      few_variables = grind (arith, nat_tests, k);
      no_clash = nothing-mapped _ (first_clash p) (rw (i, j, k) at h);
    }

pub parts-plan_fault : (p : Pattern) → HasPlan p → plan_fault p ≡ None
parts-plan_fault p h =
    let nodes : nat_lt MAX_PATTERN_NODES (pattern_nodes p) ≡ false = grind (arith, nat_tests, h.few_nodes) in
    let names : nat_lt MAX_VARIABLES (length (variables p)) ≡ false = grind (arith, nat_tests, h.few_variables) in
    rw (h.firm, nodes, names, h.no_clash) refl
