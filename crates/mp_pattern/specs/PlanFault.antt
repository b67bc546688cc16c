-- Why a pattern has no plan.
use Rattle.std.specs.Prelude.{◌≡◌, ◌⊎◌, false, ◌≤◌, ◌-◌, ◌^◌, length, min, nat_lt, Option, Some, None, option_map}
use Rattle.std.specs.Prelude.{Result, Ok, Err, if◌then◌else◌}
use Rattle.mp_pattern.specs.declared.compile.PlanFault.{PlanFault}
use Rattle.mp_pattern.specs.declared.compile.PlanFault.TheVariants.{LooseSequence, TooManyNodes, TooManyVars, KindClash}
use Rattle.mp_pattern.specs.declared.compile.PlanFault.TheVariants.{Memory}
use Rattle.mp_pattern.specs.declared.limits.TheConstants.{MAX_PATTERN_NODES, MAX_VARIABLES}
use Rattle.mp_pattern.specs.PatternTree.{Pattern}
use Rattle.mp_pattern.specs.Size.{pattern_nodes}
use Rattle.mp_pattern.specs.Normal.{is_loose}
use Rattle.mp_pattern.specs.Variables.{variables}
use Rattle.mp_term.specs.Signature.{Sig}
use Rattle.mp_pattern.specs.Clash.{first_clash}
use Rattle.mp_pattern.specs.Plan.{Plan, IsPlanOf}

-- the first of the four faults that the pattern has
abbrev pub plan_fault : Pattern → Option PlanFault
plan_fault p =
    if is_loose p then Some LooseSequence
    else if nat_lt MAX_PATTERN_NODES (pattern_nodes p) then Some (TooManyNodes (min (pattern_nodes p) (2 ^ 32 - 1)))
    else if nat_lt MAX_VARIABLES (length (variables p)) then Some (TooManyVars (length (variables p)))
    else option_map KindClash (first_clash p)

-- a plan of a pattern that has no fault, or the first fault that the pattern has; where only its variables and
-- wildcards are left to look at, there may be no memory
abbrev pub IsCompiled : Sig → Pattern → Result Plan PlanFault → Type 0
IsCompiled sig p (Ok plan) = (plan_fault p ≡ None) × IsPlanOf sig p plan
IsCompiled sig p (Err Memory) = (is_loose p ≡ false) × (pattern_nodes p ≤ MAX_PATTERN_NODES)
IsCompiled sig p (Err e) = plan_fault p ≡ Some e

-- there was no memory, or the fact holds
abbrev pub OrMemory : {X : Type 0} → Result X PlanFault → Type 0 → Type 0
OrMemory r P = (r ≡ Err Memory) ⊎ P
