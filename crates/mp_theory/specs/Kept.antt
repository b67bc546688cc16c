-- What becomes of the values of a substitution while a search goes on.
use Rattle.std.specs.Prelude.{◌≡◌, ℕ, List, Some}
use Rattle.mp_term.specs.Order.{tree_cmp}
use Rattle.mp_term.specs.Sorting.{sorted}
use Rattle.mp_pattern.specs.Value.{Value, one, seq, bag, Subst, value_of}

-- the value stays, but that a multiset may become a tuple with its terms
abbrev pub IsKept : Value → Value → Type 0
IsKept (one t) (one u) = t ≡ u
IsKept (seq ts) (seq us) = ts ≡ us
IsKept (bag ts) (bag us) = ts ≡ us
IsKept (bag ts) (seq us) = sorted tree_cmp ts ≡ sorted tree_cmp us
IsKept _ _ = ⊥

-- so it is with each value of s in r
abbrev pub Keeps : Subst → Subst → Type 0
Keeps s r = (x : List ℕ) (v : Value) → value_of s x ≡ Some v → (u : Value) × (value_of r x ≡ Some u) × IsKept v u
