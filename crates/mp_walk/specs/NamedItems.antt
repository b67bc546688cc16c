-- The values of an item of a walk, its variables called by names that are given.
use Rattle.std.specs.Prelude.{◌≤◌, ℕ, List, [], ◌∷◌, length, map}
use Rattle.mp_term.specs.Listing.{In}
use Rattle.mp_term.specs.Tree.{Tree}
use Rattle.mp_term.specs.Signature.{Sig}
use Rattle.mp_pattern.specs.Fits.{Table, Fits}
use Rattle.mp_pattern.specs.declared.limits.TheConstants.{MAX_VARIABLES}
use Rattle.mp_pattern.specs.NetTokens.{tokens_of}
use Rattle.mp_pattern.specs.PatternTree.{Pattern}
use Rattle.mp_pattern.specs.Plan.{Variable}
use Rattle.mp_pattern.specs.Value.{Subst, one_form}
use Rattle.mp_pattern.specs.Variables.{variables}
use Rattle.mp_table.specs.Table as tables
use Rattle.mp_subst.specs.Trail.{Trail, subst_in}
use Rattle.mp_walk.specs.CodeForest.{code_forest}
use Rattle.mp_walk.specs.Forests.{lists}
use Rattle.mp_walk.specs.Instrs.{Instr}

-- the values of a substitution in order, called by the names
abbrev pub with_names : List (List ℕ) → Subst → Subst
with_names (x ∷ xs) (b ∷ s) = record { name = x; value = b.value } ∷ with_names xs s
with_names _ _ = []

-- variables of the names, whatever their form
abbrev pub called : List (List ℕ) → List Variable
called xs = map (λ x. record { name = x; form = one_form }) xs

-- the values of a trail over a table of terms, called by the variables of a pattern whose tokens lead to the
-- instruction, are a substitution with which the table of an item fits the pattern
abbrev pub IsItemTrail : Sig → List Instr → Tree → tables.Table → Trail → (ℕ × Table) → Type 0
IsItemTrail sig code t terms trail i = (q : Pattern) → length (variables q) ≤ MAX_VARIABLES
    → In (i.0, tokens_of sig q) (lists (code_forest code))
    → Fits sig q t (subst_in terms (called (variables q)) trail) i.1
