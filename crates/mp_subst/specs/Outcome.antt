-- What comes of binding a variable to a value too.
use Rattle.std.specs.Prelude.{◌≡◌, ◌≤◌, ◌<◌, ◌+◌, ⊤, ℕ, List, length, slice_get, Some, None}
use Rattle.std.specs.Prelude.{Bool, IsTrue, IsFalse}
use Rattle.std.specs.List.{AllByRecursion}
use Rattle.mp_term.specs.Signature.{Sig}
use Rattle.mp_pattern.specs.Value.{Value, IsFinal}
use Rattle.mp_table.specs.Table.{Table, IsTable}
use Rattle.mp_subst.specs.Bound.{Bound, value_in, IsBoundIn}
use Rattle.mp_subst.specs.Trail.{TrailEntry, Trail, cut, with_entry, GoesWith, AreFinal, joined, IsBind}
use Rattle.mp_subst.specs.declared.binding.Outcome.{Outcome}
use Rattle.mp_subst.specs.declared.binding.Outcome.TheVariants.{New, Old, Neither}

-- an entry that is named is one of n
abbrev pub IsPlace : ℕ → Outcome → Type 0
IsPlace n New = ⊤
IsPlace n (Old i) = i < n
IsPlace n Neither = ⊤

-- the variable then stands for the new value w, for that of the entry that is named, or for nothing
abbrev pub IsOutcome : Table → List TrailEntry → ℕ → Bound → Outcome → Type 0
IsOutcome t es x w New = joined t es x (value_in t w) ≡ Some (value_in t w)
IsOutcome t es x w (Old i) =
    (e : TrailEntry) → slice_get es i ≡ Some e → joined t es x (value_in t w) ≡ Some (value_in t e.value)
IsOutcome t es x w Neither = joined t es x (value_in t w) ≡ None

-- a table of whose values those of the entries and w are
pub record Suits (t : Table) (es : List TrailEntry) (w : Bound) : Type 0 where
  pub table : IsTable t
  pub values : AllByRecursion (λ e. IsBoundIn t e.value) es
  pub new : IsBoundIn t w

-- it is the outcome in each such table
abbrev pub AllOutcomes : List TrailEntry → ℕ → Bound → Outcome → Type 0
AllOutcomes es x w o = (t : Table) → Suits t es w → IsOutcome t es x w o

-- one entry was put on the stack, for no more than w takes, and its value is the joined one in each such table
pub record IsPut (old new : Trail) (x : ℕ) (w : Bound) : Type 0 where
  pub bound : Bound
  pub cost : ℕ
  pub trail : new ≡ with_entry old x bound cost
  pub few : cost ≤ length w.ranks + 1
  pub value : (t : Table) → Suits t old.stack w
      → IsBoundIn t bound × (joined t old.stack x (value_in t w) ≡ Some (value_in t bound))

-- nothing was put on the stack, and the values don't merge in any such table
pub record IsClash (old new : Trail) (x : ℕ) (w : Bound) : Type 0 where
  pub trail : new ≡ old
  pub value : (t : Table) → Suits t old.stack w → joined t old.stack x (value_in t w) ≡ None

-- what is told of binding a variable to the value w, which takes at most that much of the room, by the answer
pub record IsBinding (table : Table) (old new : Trail) (x : ℕ) (w : Value) (most : ℕ) (answer : Bool) : Type 0 where
  pub bound : IsTrue answer → IsBind table old new x w
  pub clash : IsFalse answer → joined table old.stack x w ≡ None
  pub refused : IsFalse answer → new ≡ old
  pub goes_with : GoesWith table new
  pub vars : new.vars ≡ old.vars
  pub room : new.room ≡ old.room
  pub spare : old.spare ≤ new.spare + most
  pub undone : cut (length old.stack) new ≡ old
  pub are_final : (sig : Sig) → AreFinal sig table old.stack → IsFinal sig w → AreFinal sig table new.stack
