-- What the levels of a walk stand for, and what holds of them.
use Rattle.std.specs.Prelude.{◌≡◌, ◌≤◌, ◌+◌, ◌*◌, ⊤, ℕ, List, [], ◌∷◌, length, Option, Some, None, IsSome}
use Rattle.std.specs.Prelude.{IfSome}
use Rattle.mp_term.specs.Size.{all_nodes, node_count}
use Rattle.mp_term.specs.Tree.{Tree}
use Rattle.mp_table.specs.Table.{Table}
use Rattle.mp_subst.specs.Trail.{Trail, length_at, cut}
use Rattle.mp_ac.specs.declared.search.CommSearch.{CommSearch}
use Rattle.mp_ac.specs.CommPlan.{nodes_below}
use Rattle.mp_ac.specs.Search.{IsOver, cost_of, mark_of, table_of}
use Rattle.mp_pattern.specs.NetTokens.{NetToken, comm_token}
use Rattle.mp_walk.specs.Below.{below_table, below_ahead, unboxed, IsAtWay}
use Rattle.mp_walk.specs.declared.frame.Frame.{Frame}
use Rattle.mp_walk.specs.declared.level.Level.{Level}
use Rattle.mp_walk.specs.declared.setting.Setting.{Setting}
use Rattle.mp_walk.specs.Course.{Read, way_cost}
use Rattle.mp_walk.specs.Instrs.{Instr, instr_at}
use Rattle.mp_walk.specs.OpenOnes.{opens, IsPlaceBelow}
use Rattle.mp_walk.specs.Rooms.{target_room}
use Rattle.mp_walk.specs.TokenMachine.{Open, State}
use Rattle.mp_ac.specs.Numbered.{numbered_subst}

-- the search of a level
abbrev pub search_of : Level → Option CommSearch
search_of l = unboxed l.search

-- the state where the open operations are those from a place outward
abbrev pub state_of : Table → List Frame → Option ℕ → Trail → State
state_of t fs o u = record { open_ones = opens t fs o; trail = numbered_subst t u.stack }

-- the trail before the token of a level
abbrev pub trail_before : Trail → Level → Trail
trail_before u l = cut (length_at l.mark) u

-- the token that a level has read
abbrev pub read_of : Table → List Frame → Trail → Level → Read
read_of t fs u l = record {
  instr = l.instr;
  state = state_of t fs l.place (trail_before u l);
  next = l.next;
  below = below_table (search_of l);
  ahead = below_ahead (search_of l) (numbered_subst t (trail_before u l).stack);
}

-- the nodes of the terms that are left to the open operations
abbrev pub opens_load : List Open → ℕ
opens_load [] = 0
opens_load (f ∷ fs) = all_nodes f.left + opens_load fs

-- the trail has room for the terms that are left, and so much more
abbrev pub HasRoom : ℕ → List Open → Trail → Type 0
HasRoom most os u = opens_load os + most + 3 ≤ u.spare

-- how much of the trail's room a search below a token takes at most: the nodes of the term that stands first, and three
-- for each node below
abbrev pub search_cost : NetToken → List Tree → ℕ
search_cost (comm_token p) (t ∷ ts) = node_count t + 3 * nodes_below p
search_cost k ts = 0

-- what is left to the innermost open operation
abbrev pub innermost_left : List Open → List Tree
innermost_left [] = []
innermost_left (f ∷ fs) = f.left

-- what a step of a token takes of it at most
abbrev pub step_cost : NetToken → List Open → ℕ → ℕ
step_cost k os way = way_cost k way + search_cost k (innermost_left os)

-- a search goes by the trail, which is that of its begin, and takes so much of its room at most
pub record IsSearching (t : Table) (most : ℕ) (u : Trail) (c : CommSearch) : Type 0 where
  pub over : IsOver c u
  pub mark : mark_of c ≡ length u.stack
  pub table : table_of c ≡ t
  pub cost : cost_of c ≤ most

-- only below a commutative application of a term there is a search
abbrev pub HasSearchIn : Table → NetToken → List Tree → Trail → Option CommSearch → Type 0
HasSearchIn t (comm_token p) (x ∷ xs) u o = IfSome o (IsSearching t (node_count x + 3 * nodes_below p) u)
HasSearchIn t k xs u o = o ≡ None

abbrev pub HasSearch : Table → NetToken → List Open → Trail → Option CommSearch → Type 0
HasSearch t k os u o = HasSearchIn t k (innermost_left os) u o

-- how many places there were before the first level, and how long the trail was
abbrev pub first_frames : List Level → ℕ → ℕ
first_frames [] n = n
first_frames (l ∷ ls) n = l.frames

abbrev pub first_mark : List Level → ℕ → ℕ
first_mark [] n = n
first_mark (l ∷ ls) n = length_at l.mark

module _ (x : Setting) (fs : List Frame) (u : Trail) where
  -- what holds of a level: its instruction is there; the places and the entries that it counts are there, and there was
  -- room
  pub record IsLevel (l : Level) : Type 0 where
    pub instr : IsSome (instr_at x.code.now.instrs l.instr)
    pub place : IsPlaceBelow l.frames l.place
    pub room : HasRoom (target_room x.code.now.instrs (Some l.instr)) (opens x.table.now fs l.place) (trail_before u l)
    pub searched : (i : Instr) → instr_at x.code.now.instrs l.instr ≡ Some i
        → HasSearch x.table.now i.token (opens x.table.now fs l.place) (trail_before u l) (search_of l)
    pub way : IsAtWay l.next (search_of l)

  -- what holds of levels: the numbers of places and the lengths of the trail rise
  abbrev pub AreLevels : List Level → ℕ → ℕ → Type 0
  AreLevels [] places marks = ⊤
  AreLevels (l ∷ ls) places marks =
      IsLevel l × (l.frames ≤ first_frames ls places) × (length_at l.mark ≤ first_mark ls marks)
      × AreLevels ls places marks

-- two levels are those of one token at one place
pub record AreOfOneToken (old new : Level) : Type 0 where
  pub instr : new.instr ≡ old.instr
  pub place : new.place ≡ old.place
  pub frames : new.frames ≡ old.frames
  pub mark : new.mark ≡ old.mark
