-- How a trail is kept: the ranks of its values in one list.
use Rattle.std.specs.Prelude.{◌≤◌, ◌+◌, ⊤, ℕ, suc, List, [], ◌∷◌, map, length, slice_range, vec_capacity, Option}
use Rattle.std.specs.Prelude.{◌≡◌, ◌<◌, Some, None, if◌then◌else◌, nat_eq, take, slice_get, slice_index_or}
use Rattle.mp_table.specs.declared.rank.Rank.{Rank}
use Rattle.mp_subst.specs.declared.trail.Entry.{Entry}
use Rattle.mp_subst.specs.declared.trail.Trail.TheInside.{Inside}
use Rattle.mp_subst.specs.Bound.{Bound, bound_from}
use Rattle.mp_subst.specs.Trail as plain

-- the value of an entry, whose ranks stand in a list
abbrev pub entry_value : List Rank → Entry → Bound
entry_value rs e = bound_from e.form e.wrap (slice_range rs e.start e.end)

-- an entry with its value
abbrev pub trail_entry : List Rank → Entry → plain.TrailEntry
trail_entry rs e = record { var = e.var; value = entry_value rs e; spare = e.spare }

abbrev pub stack_of : List Rank → List Entry → List plain.TrailEntry
stack_of rs es = map (trail_entry rs) es

-- the record that a trail is read as
abbrev pub trail_view : Inside → plain.Trail
trail_view t = record {
  vars = t.vars;
  room = t.room;
  spare = t.spare;
  stack = stack_of t.ranks.items t.entries.items;
}

-- the place of the last entry of a variable
abbrev pub last_place : List Entry → ℕ → Option ℕ
last_place [] x = None
last_place (e ∷ es) x = elim (last_place es x) [
  | None ↦ if nat_eq e.var x then Some 0 else None
  | Some i ↦ Some (i + 1)
]

-- the number of the last entry of a variable, its place and one more, and 0 if there is none
abbrev pub last_number : List Entry → ℕ → ℕ
last_number es x = elim (last_place es x) [ None ↦ 0 | Some i ↦ i + 1 ]

-- they are those of the first variables
abbrev pub AreLast : List ℕ → List Entry → Type 0
AreLast ns es = (x : ℕ) → x < length ns → slice_index_or ns x 0 ≡ last_number es x

-- each entry of the first n variables has the number of the variable's last entry before it
abbrev pub AreEarlier : ℕ → List Entry → Type 0
AreEarlier n es = (i : ℕ) (e : Entry) → slice_get es i ≡ Some e → e.var < n → e.earlier ≡ last_number (take i es) e.var

-- the ranks of an entry stand among the first n
abbrev pub IsWithin : ℕ → Entry → Type 0
IsWithin n e = (e.start ≤ e.end) × (e.end ≤ n)

-- how many ranks there are before the first entry, and n if there is none
abbrev pub first_before : List Entry → ℕ → ℕ
first_before [] n = n
first_before (e ∷ es) n = e.before

-- the numbers of ranks before the entries rise up to n, and the ranks of each stand among those before the next one
abbrev pub Laid : List Entry → ℕ → Type 0
Laid [] n = ⊤
Laid (e ∷ es) n = (e.before ≤ first_before es n) × IsWithin (first_before es n) e × Laid es n

-- the spare room of each entry was left beside the entries and the ranks before it; i entries come before the first
abbrev pub HasRoom : ℕ → List Entry → ℕ → Type 0
HasRoom i [] room = ⊤
HasRoom i (e ∷ es) room = (i + e.spare ≤ room) × (e.before + e.spare ≤ room) × HasRoom (suc i) es room

-- what holds of each trail
pub record IsLaid (t : Inside) : Type 0 where
  pub laid : Laid t.entries.items t.used
  pub used : t.used ≤ length t.ranks.items
  pub entries_room : length t.entries.items + t.spare ≤ t.room
  pub ranks_room : t.used + t.spare ≤ t.room
  pub entries_capacity : t.room ≤ vec_capacity t.entries
  pub ranks_capacity : t.room ≤ vec_capacity t.ranks
  pub rooms : HasRoom 0 t.entries.items t.room
  pub last : AreLast t.last t.entries.items
  pub earlier : AreEarlier (length t.last) t.entries.items
