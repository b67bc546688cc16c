-- Children of which the substitution so far tells what they take, so that a search goes on in one way at most.
use Rattle.std.specs.Prelude.{◌≡◌, ⊤, ◌⊎◌, List, Some, true, false}
use Rattle.mp_term.specs.Search.{In}
use Rattle.mp_term.specs.Signature.{Sig, is_one}
use Rattle.mp_pattern.specs.PatternTree.{Pattern, symbol_pattern, app_pattern, wild_pattern}
use Rattle.mp_pattern.specs.PatternTree.{Patterns, no_patterns, more_patterns}
use Rattle.mp_pattern.specs.Value.{Subst, Value}
use Rattle.mp_theory.specs.MayMatch.{is_plain}
use Rattle.mp_theory.specs.OneList.{Item}
use Rattle.mp_search.specs.Made.{HasValue}
use Rattle.mp_search.specs.Parts.{IsWild}

-- the child is a symbol, or a wildcard whose variable has a value, and that isn't optional
abbrev pub IsTold : Subst → Pattern → Type 0
IsTold s (symbol_pattern n) = ⊤
IsTold s p = IsWild p × ((v : Value) × HasValue p s v)

-- so is each child
abbrev pub AreTold : Subst → Patterns → Type 0
AreTold s no_patterns = ⊤
AreTold s (more_patterns p ps) = IsTold s p × AreTold s ps

-- the child is an application that can't be collapsed to children that are so and take their terms in order, one each
abbrev pub IsToldWithin : Sig → Subst → Pattern → Type 0
IsToldWithin sig s (app_pattern g ps) =
    (is_one sig g ≡ false) × (is_plain sig (Some g) ps ≡ true) × AreTold s ps
IsToldWithin sig s p = ⊥

-- the child is a wildcard
abbrev pub IsAnyWild : Pattern → Type 0
IsAnyWild (wild_pattern w x) = ⊤
IsAnyWild p = ⊥

-- each child is such an application, but the last one may be a wildcard
abbrev pub HaveOneWay : Sig → Subst → Patterns → Type 0
HaveOneWay sig s no_patterns = ⊤
HaveOneWay sig s (more_patterns p ps) =
    (IsAnyWild p × (ps ≡ no_patterns)) ⊎ (IsToldWithin sig s p × HaveOneWay sig s ps)

-- all items have the same table
abbrev pub HaveOneTable : List Item → Type 0
HaveOneTable is = (i j : Item) → In i is → In j is → i.0 ≡ j.0
