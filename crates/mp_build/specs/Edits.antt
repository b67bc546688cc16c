-- Edits: which one a change stands for, and the faults of changes.
use Rattle.std.specs.Prelude.{ℕ, ◌+◌, Bool, ◌||◌, min, List, [], ◌∷◌, length, map, flat_map, nat_lt}
use Rattle.std.specs.Prelude.{Option, Some, None, option_map, option_to_list, slice_get}
use Rattle.std.specs.List.{list_any}
use Rattle.mp_term.specs.declared.edit.Edit.{Edit}
use Rattle.mp_term.specs.declared.edit_fault.EditFault.{EditFault}
use Rattle.mp_term.specs.declared.edit_fault.EditFault.TheVariants as edit_faults
use Rattle.mp_term.specs.declared.limits.TheConstants.{MAX_EDITS}
use Rattle.mp_term.specs.Signature.{Sig}
use Rattle.mp_term.specs.Normal.{normal}
use Rattle.mp_pattern.specs.declared.limits.TheConstants.{MAX_INDEX}
use Rattle.mp_parser.specs.declared.place.Place.{Place}
use Rattle.mp_parser.specs.Syntax.{Spot, Tree, tree_list, Position, Root, Path, Replacement, Single, Listed, Change}
use Rattle.mp_build.specs.declared.fault.TextKind.{TextKind}
use Rattle.mp_build.specs.declared.fault.TextKind.TheVariants.{Arity, BadPosition, Overlap}
use Rattle.mp_build.specs.declared.fault.TextFault.{TextFault}
use Rattle.mp_build.specs.Names.{number_of}
use Rattle.mp_build.specs.Build.{term_of}
use Rattle.mp_build.specs.Checks.{fault_at, is_large_term, term_faults}

-- ---- edits

-- the index that digits write; MAX_INDEX + 1 stands for each above MAX_INDEX, which no argument has
abbrev pub index_of : Spot → ℕ
index_of digits = min (number_of digits.text) (MAX_INDEX + 1)

-- the indexes of a position
abbrev pub indexes : Position → List ℕ
indexes (Root place) = []
indexes (Path first others) = index_of first ∷ map index_of others

-- where a position begins
abbrev pub position_place : Position → Place
position_place (Root place) = place
position_place (Path first others) = first.place

-- the expressions of the new terms
abbrev pub new_exprs : Replacement → List Tree
new_exprs (Single t) = t ∷ []
new_exprs (Listed ts) = tree_list ts

-- the edit that a change stands for, its new terms in normal form
abbrev pub edit_of : Sig → Change → Edit
edit_of sig c = record {
  position = indexes c.position;
  terms = map (λ t. normal sig (term_of sig t)) (new_exprs c.terms);
}

-- ---- faults

-- there are more than MAX_EDITS changes, or a new term is larger than a term may be
abbrev pub is_large_edit : List Change → Bool
is_large_edit cs = nat_lt MAX_EDITS (length cs) || list_any (λ c. list_any is_large_term (new_exprs c.terms)) cs

-- a fault at the position of the change with this index
abbrev pub change_fault : TextKind → List Change → ℕ → List TextFault
change_fault kind cs i = option_to_list (option_map (λ c. fault_at kind (position_place c.position)) (slice_get cs i))

-- What hinders the edits of the subject, at the position of an edit; of two that overlap it is the second. How large
-- the result gets isn't looked at.
abbrev pub made_faults : List Change → Option EditFault → List TextFault
made_faults cs (Some (edit_faults.BadPosition i)) = change_fault BadPosition cs i
made_faults cs (Some (edit_faults.Overlap i j)) = change_fault Overlap cs j
made_faults cs (Some (edit_faults.Arity i)) = change_fault Arity cs i
made_faults cs (Some (edit_faults.TooLarge n)) = []
made_faults cs (Some (edit_faults.TooDeep n)) = []
made_faults cs (Some edit_faults.Memory) = []
made_faults cs None = []

module _ (sig : Sig) where
  -- the faults of the new terms of a change, by token
  abbrev pub new_term_faults : Change → List TextFault
  new_term_faults c = flat_map (term_faults sig) (new_exprs c.terms)
