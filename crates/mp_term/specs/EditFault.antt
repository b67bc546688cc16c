-- Why edits of a tree can't be made.
use Rattle.std.specs.Prelude.{ℕ, Bool, true, not, ◌||◌, ◌-◌, List, [], ◌∷◌, ◌++◌, length, take}
use Rattle.std.specs.Prelude.{nat_eq, Option, None, is_none, option_map, slice_get, position, if◌then◌else◌}
use Rattle.std.specs.Option.{option_or, option_map_or}
use Rattle.std.specs.List.{starts_with}
use Rattle.mp_term.specs.declared.edit.Edit.{Edit}
use Rattle.mp_term.specs.declared.edit_fault.EditFault.{EditFault}
use Rattle.mp_term.specs.declared.edit_fault.EditFault.TheVariants.{BadPosition, Overlap, Arity, TooLarge, TooDeep}
use Rattle.mp_term.specs.declared.size.Excess.{Excess}
use Rattle.mp_term.specs.declared.size.Excess.TheVariants as excesses
use Rattle.mp_term.specs.Tree.{Tree, symbol, app, tree_list}
use Rattle.mp_term.specs.Excess.{excess}
use Rattle.mp_term.specs.Positions.{subterm}
use Rattle.mp_term.specs.Signature.{Sig, holds_of, allows}
use Rattle.mp_term.specs.Edited.{edited_below, edited}

-- one position is a prefix of the other, or they are equal
abbrev pub overlap : List ℕ → List ℕ → Bool
overlap p q = starts_with nat_eq p q || starts_with nat_eq q p

-- the first edit that overlaps one before it, and the first of those, where `before` stand in front of all
abbrev pub overlap_after : List Edit → List Edit → Option EditFault
overlap_after before [] = None
overlap_after before (e ∷ es) =
    option_or (option_map (λ i. Overlap i (length before)) (position (λ d. overlap d.position e.position) before))
    (overlap_after (before ++ e ∷ []) es)

-- the position above
abbrev pub above : List ℕ → List ℕ
above p = take (length p - 1) p

-- the fault of terms that are too large or too deep
abbrev pub fault_of : Excess → EditFault
fault_of (excesses.TooLarge nodes) = TooLarge nodes
fault_of (excesses.TooDeep depth) = TooDeep depth

-- more nodes or a greater depth than the limits allow
abbrev pub size_fault : List Tree → Option EditFault
size_fault ts = option_map fault_of (excess ts)

-- the position of the edit names no subterm
abbrev pub is_astray : Tree → Edit → Bool
is_astray t e = is_none (subterm t e.position)

module _ (sig : Sig) (t : Tree) where
  -- an application has a number of arguments that its operation allows
  abbrev pub is_allowed : Tree → Bool
  is_allowed (symbol n) = true
  is_allowed (app f ts) = holds_of (allows (length (tree_list ts))) (slice_get sig.ops f)

  -- After all edits the application above the edit has a number of arguments that isn't allowed. At the root it is the
  -- edit itself, which has to give one term.
  abbrev pub breaks : List Edit → Edit → Bool
  breaks es e =
      if nat_eq (length e.position) 0 then not (nat_eq (length e.terms) 1)
      else not (option_map_or (λ u. is_allowed (edited_below es (above e.position) u))
      (subterm t (above e.position)) true)

  -- the first fault of the edits: a position that names no subterm, two that overlap, a number of arguments that isn't
  -- allowed, and the size of what comes out before it is normalised
  abbrev pub edit_fault : List Edit → Option EditFault
  edit_fault es =
      option_or (option_map BadPosition (position (is_astray t) es))
      (option_or (overlap_after [] es)
      (option_or (option_map Arity (position (breaks es) es)) (size_fault (edited es t))))
