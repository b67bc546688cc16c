-- What contracts see of the operations that a walk has open.
use Rattle.std.specs.Prelude.{◌≡◌, ◌<◌, ⊤, ℕ, false, List, [], ◌∷◌, ◌++◌, Option, Some, None}
use Rattle.std.specs.Prelude.{slice_get, slice_index_or}
use Rattle.mp_term.specs.Signature.{Sig}
use Rattle.mp_pattern.specs.Variables.{comm_above}
use Rattle.mp_table.specs.Table.{Table, HasRanks, terms_at}
use Rattle.mp_search.specs.Frames.{above}
use Rattle.mp_walk.specs.declared.frame.Frame.{Frame}
use Rattle.mp_walk.specs.TokenMachine.{Open}

-- the table has the terms that are left
abbrev pub IsFrame : Table → Frame → Type 0
IsFrame t f = HasRanks t f.left.now

-- the open operation of a frame
abbrev pub open_of : Table → Frame → Open
open_of t f = record {
  under = above f.under;
  left = terms_at t f.left.now;
  owes = f.owes;
  collapsed = f.collapsed;
}

-- the open operations from the one at a place outward, where these are known of each place
abbrev pub opens_at : List (List Open) → Option ℕ → List Open
opens_at oss None = []
opens_at oss (Some i) = slice_index_or oss i []

-- those from each of the frames outward, where oss are those of the places before them
abbrev pub opens_from : Table → List (List Open) → List Frame → List (List Open)
opens_from t oss [] = oss
opens_from t oss (f ∷ fs) = opens_from t (oss ++ (open_of t f ∷ opens_at oss f.outer) ∷ []) fs

-- the open operations from the one at a place outward
abbrev pub opens : Table → List Frame → Option ℕ → List Open
opens t fs i = opens_at (opens_from t [] fs) i

-- the place is below so many, if it is one
abbrev pub IsPlaceBelow : ℕ → Option ℕ → Type 0
IsPlaceBelow n None = ⊤
IsPlaceBelow n (Some i) = i < n

-- what holds of a frame at a place: the operation isn't commutative, and the one around it is at a place below
pub record IsFrameAt (sig : Sig) (t : Table) (i : ℕ) (f : Frame) : Type 0 where
  pub frame : IsFrame t f
  pub ordered : comm_above sig (above f.under) ≡ false
  pub outer : IsPlaceBelow i f.outer

-- so it is with each frame
abbrev pub AreFrames : Sig → Table → List Frame → Type 0
AreFrames sig t fs = (i : ℕ) (f : Frame) → slice_get fs i ≡ Some f → IsFrameAt sig t i f
