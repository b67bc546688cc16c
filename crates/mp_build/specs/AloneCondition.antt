-- Which bytes are which condition alone, and which fault others have.
use Rattle.std.specs.Prelude.{◌≡◌, ℕ, List, ◌∷◌, ◌++◌}
use Rattle.mp_term.specs.Signature.{Sig}
use Rattle.mp_pattern.specs.CondTree as cond
use Rattle.mp_parser.specs.declared.place.Place.{Place}
use Rattle.mp_parser.specs.Tokens.{Placed, Tokens, first_place}
use Rattle.mp_parser.specs.Syntax.{Condition, IsConditionOf}
use Rattle.mp_syntax.specs.Begins.{OfCondition}
use Rattle.mp_build.specs.declared.fault.TextKind.TheVariants.{TooMany}
use Rattle.mp_build.specs.declared.fault.TextFault.{TextFault}
use Rattle.mp_build.specs.Checks.{fault_if}
use Rattle.mp_build.specs.Scope.{Scope}
use Rattle.mp_build.specs.Conditions.{cond_of}
use Rattle.mp_build.specs.ConditionChecks.{is_large_condition, condition_faults}
use Rattle.mp_build.specs.Alone.{IsValueOf, IsFaultBy}

-- a condition that begins at a place
pub record PlacedCondition : Type 0 where
  pub start : Place
  pub condition : Condition

-- the first token of the bytes stands at this place
abbrev pub StartsAt : List ℕ → Place → Type 0
StartsAt bytes start = (t : Placed) × (ts : List Placed) × Tokens bytes first_place (t ∷ ts) × (t.place ≡ start)

-- the bytes are this condition, whose first token stands at this place
abbrev pub IsPlacedConditionOf : List ℕ → PlacedCondition → Type 0
IsPlacedConditionOf bytes p = IsConditionOf bytes p.condition × StartsAt bytes p.start

-- the faults of a condition alone: it is too large, at its first token; and its faults by token
abbrev pub condition_alone_faults : Sig → Scope → PlacedCondition → List TextFault
condition_alone_faults sig scope p = fault_if (is_large_condition p.condition) TooMany p.start
    ++ condition_faults sig scope p.condition

-- what a condition stands for
abbrev pub placed_cond_of : Sig → PlacedCondition → cond.Cond
placed_cond_of sig p = cond_of sig p.condition

-- the bytes are this condition over the variables that may be named
abbrev pub IsCondOf : Sig → Scope → List ℕ → cond.Cond → Type 0
IsCondOf sig scope = IsValueOf IsPlacedConditionOf (condition_alone_faults sig scope) (placed_cond_of sig)

-- the bytes are no condition, for this fault
abbrev pub IsCondFaultOf : Sig → Scope → List ℕ → TextFault → Type 0
IsCondFaultOf sig scope = IsFaultBy OfCondition IsPlacedConditionOf (condition_alone_faults sig scope)
