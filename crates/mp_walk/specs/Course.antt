-- The course of a walk: the tokens that it has read, one after the other, and what is still to come of each.
use Rattle.std.specs.Prelude.{◌≡◌, ◌≤◌, ◌<◌, ⊤, ℕ, Bool, true, false, ◌+◌, ◌-◌, length, List, [], ◌∷◌, ◌++◌, map}
use Rattle.std.specs.Prelude.{flat_map, Option, Some, None}
use Rattle.mp_term.specs.Signature.{Sig}
use Rattle.mp_pattern.specs.Fits.{Entry, Table}
use Rattle.mp_pattern.specs.NetTokens.{NetToken, sym_token, enter_token, leave_token, wild_token, comm_token}
use Rattle.mp_pattern.specs.Value.{Subst}
use Rattle.mp_pattern.specs.PatternTree.{Pattern, symbol_pattern, app_pattern, no_patterns}
use Rattle.mp_theory.specs.OneList.{Item}
use Rattle.mp_ac.specs.CommItems.{SameValues}
use Rattle.mp_walk.specs.CodeForest.{leaf, forest_of}
use Rattle.mp_walk.specs.Forests.{put_out, walk}
use Rattle.mp_walk.specs.Instrs.{Instr, instr_at}
use Rattle.mp_walk.specs.TokenMachine.{Open, State, rest_of_open, opened, numbered_wildcard, token_steps, token_ends}
use Rattle.mp_walk.specs.Ways.{Step, front_entry, first_entry, item_step, ways_from}

-- a token that is read: the number of its instruction, the state before it, the way that is to be tried next; and of a
-- commutative application the table of the entries below it, and the items that come after that
pub record Read : Type 0 where
  pub instr : ℕ
  pub state : State
  pub next : ℕ
  pub below : Table
  pub ahead : List Item

-- the tokens that are read, the state after them, and the instruction that is to be tried there, where one is
pub record Course : Type 0 where
  pub reads : List Read
  pub present : State
  pub target : Option ℕ

-- the same operations are open, and each variable has the same value
pub record Alike (r s : State) : Type 0 where
  pub open_ones : r.open_ones ≡ s.open_ones
  pub trail : SameValues r.trail s.trail

-- a token is that of a commutative application
abbrev pub is_comm_token : NetToken → Bool
is_comm_token (comm_token p) = true
is_comm_token k = false

-- the pattern of the token of a commutative application
abbrev pub pattern_in : NetToken → Pattern
pattern_in (comm_token p) = p
pattern_in k = symbol_pattern []

-- the entries that a token puts out by a way
abbrev pub entries_by : NetToken → Open → ℕ → Table → List Entry
entries_by (sym_token n) f way T = front_entry f.left 1 ∷ []
entries_by (leave_token g) f way T = []
entries_by (enter_token g) f way T = first_entry f.left way ∷ []
entries_by (wild_token w x) f way T = front_entry f.left way ∷ []
entries_by (comm_token p) f way T = first_entry f.left way ∷ T

-- the operations that are open once a token has read on by a way
abbrev pub opens_by : NetToken → Open → List Open → ℕ → List Open
opens_by (sym_token n) f fs way = rest_of_open (symbol_pattern n) (front_entry f.left 1) f ∷ fs
opens_by (leave_token g) f fs way = fs
opens_by (enter_token g) f fs way =
    opened g (first_entry f.left way) ∷ rest_of_open (app_pattern g no_patterns) (first_entry f.left way) f ∷ fs
opens_by (wild_token w x) f fs way = rest_of_open (numbered_wildcard w x) (front_entry f.left way) f ∷ fs
opens_by (comm_token p) f fs way = rest_of_open p (first_entry f.left way) f ∷ fs

-- the open operation once a token has taken its terms from it
abbrev pub rest_by : NetToken → Open → ℕ → Open
rest_by (sym_token n) f way = rest_of_open (symbol_pattern n) (front_entry f.left 1) f
rest_by (leave_token g) f way = f
rest_by (enter_token g) f way = rest_of_open (app_pattern g no_patterns) (first_entry f.left way) f
rest_by (wild_token w x) f way = rest_of_open (numbered_wildcard w x) (front_entry f.left way) f
rest_by (comm_token p) f way = rest_of_open p (first_entry f.left way) f

-- what a way needs to be one
abbrev pub IsWayValid : NetToken → Open → ℕ → Type 0
IsWayValid (sym_token n) f way = 1 ≤ length f.left
IsWayValid (leave_token g) f way = ⊤
IsWayValid (enter_token g) f way = (1 ≤ length f.left) × (way < 2)
IsWayValid (wild_token w x) f way = way ≤ length f.left
IsWayValid (comm_token p) f way = (1 ≤ length f.left) × (way < 2)

-- what a way takes of the room of the trail at most
abbrev pub way_cost : NetToken → ℕ → ℕ
way_cost (wild_token w x) way = way + 3
way_cost k way = 0

abbrev pub opens_after : NetToken → List Open → ℕ → List Open
opens_after k [] way = []
opens_after k (f ∷ fs) way = opens_by k f fs way

-- a token before its first way
abbrev pub unread : ℕ → State → Read
unread n s = record { instr = n; state = s; next = 0; below = []; ahead = [] }

module _ (sig : Sig) where
  -- the steps of a token that are still to come, in an open operation
  abbrev pub steps_in_left : NetToken → Read → Open → List Open → List Step
  steps_in_left k l f fs =
      map (item_step f fs (pattern_in k) (first_entry f.left (l.next - 1))) l.ahead
      ++ ways_from sig f fs l.state.trail k l.next

  abbrev pub steps_left : NetToken → Read → List Step
  steps_left k l = elim l.state.open_ones [ [] ↦ [] | f ∷ fs ↦ steps_in_left k l f fs ]

  -- no step is left of a token, and nothing stands beside it
  abbrev pub IsEnded : List Instr → Read → Type 0
  IsEnded code l = (i : Instr) → instr_at code l.instr ≡ Some i → (i.over ≡ None) × (steps_left i.token l ≡ [])

-- the entries that an instruction put out by the way before the next one
abbrev pub entries_in : NetToken → Read → List Entry
entries_in k l = elim l.state.open_ones [ [] ↦ [] | f ∷ fs ↦ entries_by k f (l.next - 1) l.below ]

module _ (code : List Instr) where
  -- the entries that a token put out
  abbrev pub read_entries : Read → List Entry
  read_entries l = elim (instr_at code l.instr) [ None ↦ [] | Some i ↦ entries_in i.token l ]

  -- those of the tokens that are read
  abbrev pub table_read : List Read → Table
  table_read ls = flat_map read_entries ls

module _ (sig : Sig) (code : List Instr) where
  -- what a walk puts out from a target on
  abbrev pub walk_from : Option ℕ → State → Table → List (ℕ × Table)
  walk_from target s before = walk (token_steps sig) token_ends (forest_of code target) s before

  -- what comes of a step of an instruction
  abbrev pub after_step : ℕ → Instr → Table → Step → List (ℕ × Table)
  after_step n i before r =
      put_out (token_steps sig) token_ends (leaf n i.accepts) r.1 (before ++ r.0)
      ++ walk_from i.down r.1 (before ++ r.0)

  -- what is still to come of the steps of an instruction, and of what stands beside it
  abbrev pub of_read : Table → Read → Instr → List (ℕ × Table)
  of_read before l i =
      flat_map (after_step l.instr i before) (steps_left sig i.token l) ++ walk_from i.over l.state before

  abbrev pub read_to_come : Table → Read → List (ℕ × Table)
  read_to_come before l = elim (instr_at code l.instr) [ None ↦ [] | Some i ↦ of_read before l i ]

  -- what is still to come of the tokens, the last one first
  abbrev pub reads_to_come : Table → List Read → List (ℕ × Table)
  reads_to_come before [] = []
  reads_to_come before (l ∷ ls) = reads_to_come (before ++ read_entries code l) ls ++ read_to_come before l

  -- what is still to come: of the instruction that is to be tried, and then of the tokens that are read
  abbrev pub to_come_in : Course → List (ℕ × Table)
  to_come_in c = walk_from c.target c.present (table_read code c.reads) ++ reads_to_come [] c.reads

-- a step of the token is taken: the first of those that were left; it puts out the entries of the level, and leads to
-- these open operations, and to a trail with the values of this one
pub record IsStepTaken (sig : Sig) (k : NetToken) (old new : Read) (u : Subst) : Type 0 where
  pub step : Step
  pub left : steps_left sig k old ≡ step ∷ steps_left sig k new
  pub entries : step.0 ≡ entries_in k new
  pub opens : step.1.open_ones ≡ opens_after k old.state.open_ones (new.next - 1)
  pub trail : SameValues step.1.trail u
