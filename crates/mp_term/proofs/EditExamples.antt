-- Computed examples of edits.
use Rattle.std.proofs.Common.{◌≡◌, ℕ, List, [], ◌∷◌, map, refl}
use Rattle.std.specs.Prelude.{Some, None}
use Rattle.mp_term.specs.declared.edit.Edit.{Edit}
use Rattle.mp_term.specs.declared.edit_fault.EditFault.TheVariants.{BadPosition, Overlap, Arity}
use Rattle.mp_term.specs.Tree.{Tree}
use Rattle.mp_term.specs.Normal.{normal}
use Rattle.mp_term.specs.Edited.{edited}
use Rattle.mp_term.specs.EditFault.{edit_fault}
use Rattle.mp_term.proofs.Examples.{example, plus, pair, a, b, c}

abbrev edit : List ℕ → List Tree → Edit
edit p ts = record { position = p; terms = ts }

-- pair((a + b), c)
abbrev subject : Tree
subject = pair (plus (a ∷ b ∷ [])) c

-- both edits speak of the subject as it was: 0.0 -> [], 0.1 -> [c, a]
all_at_once : edited (edit (0 ∷ 0 ∷ []) [] ∷ edit (0 ∷ 1 ∷ []) (c ∷ a ∷ []) ∷ []) subject
    ≡ pair (plus (c ∷ a ∷ [])) c ∷ []
all_at_once = refl

normalised_after : map (normal example) (edited (edit (0 ∷ 1 ∷ []) (plus (c ∷ a ∷ []) ∷ []) ∷ []) subject)
    ≡ pair (plus (a ∷ a ∷ c ∷ [])) c ∷ []
normalised_after = refl

at_the_root : edited (edit [] (b ∷ []) ∷ []) subject ≡ b ∷ []
at_the_root = refl

no_edits : edit_fault example subject [] ≡ None
no_edits = refl

in_order : edit_fault example subject (edit (0 ∷ 0 ∷ []) [] ∷ edit (1 ∷ []) (b ∷ []) ∷ []) ≡ None
in_order = refl

-- a symbol has no arguments
first_bad_position : edit_fault example subject
    (edit (0 ∷ []) (a ∷ []) ∷ edit (1 ∷ 0 ∷ []) (a ∷ []) ∷ edit (2 ∷ []) (a ∷ []) ∷ []) ≡ Some (BadPosition 1)
first_bad_position = refl

-- a bad position comes before an overlap
bad_position_first : edit_fault example subject
    (edit (0 ∷ []) (a ∷ []) ∷ edit (0 ∷ []) (a ∷ []) ∷ edit (2 ∷ []) (a ∷ []) ∷ []) ≡ Some (BadPosition 2)
bad_position_first = refl

equal_positions : edit_fault example subject (edit (1 ∷ []) (a ∷ []) ∷ edit (1 ∷ []) (b ∷ []) ∷ []) ≡ Some (Overlap 0 1)
equal_positions = refl

-- the least second edit, also where a later one overlaps an earlier first
least_second : edit_fault example subject
    (edit (0 ∷ 0 ∷ []) (a ∷ []) ∷ edit (1 ∷ []) (a ∷ []) ∷ edit (1 ∷ []) (b ∷ []) ∷ edit (0 ∷ []) (b ∷ []) ∷ [])
    ≡ Some (Overlap 1 2)
least_second = refl

-- the root is above all
least_first : edit_fault example subject
    (edit (0 ∷ 0 ∷ []) (a ∷ []) ∷ edit (1 ∷ []) (a ∷ []) ∷ edit [] (b ∷ []) ∷ []) ≡ Some (Overlap 0 2)
least_first = refl

-- pair has two arguments
breaks_a_count : edit_fault example subject (edit (0 ∷ 1 ∷ []) [] ∷ edit (1 ∷ []) [] ∷ []) ≡ Some (Arity 1)
breaks_a_count = refl

-- what one edit takes away, another may add
counts_together : edit_fault example subject (edit (0 ∷ []) [] ∷ edit (1 ∷ []) (a ∷ b ∷ []) ∷ []) ≡ None
counts_together = refl

-- plus has one argument at least; both edits break it
both_break : edit_fault example subject (edit (0 ∷ 1 ∷ []) [] ∷ edit (0 ∷ 0 ∷ []) [] ∷ []) ≡ Some (Arity 0)
both_break = refl

two_terms_at_the_root : edit_fault example subject (edit [] (a ∷ b ∷ []) ∷ []) ≡ Some (Arity 0)
two_terms_at_the_root = refl
