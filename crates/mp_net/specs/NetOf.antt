-- The nets of rules.
use Rattle.std.specs.Prelude.{◌≡◌, ◌≤◌, ℕ, suc, ◌+◌, List, [], ◌∷◌, map, length, take, drop, slice_get, Option, Some}
use Rattle.std.specs.Prelude.{None}
use Rattle.std.specs.List.{filter_map, AllByRecursion}
use Rattle.mp_net.specs.Net as net
use Rattle.mp_net.specs.Turned.{AreAscending}
use Rattle.mp_net.specs.View.{turn_of}
use Rattle.mp_net.specs.declared.state.State.{State}
use Rattle.mp_net.specs.declared.build.Net.{Net}
use Rattle.mp_net.specs.declared.limits.TheConstants.{MAX_STATES}

-- the number of a rule that asks nothing more
abbrev pub ended : net.Open → Option ℕ
ended o = elim o.rest [ [] ↦ Some o.rule | g ∷ m ↦ None ]

-- the numbers of the rules that are accepted in a state
abbrev pub accepted : State → List ℕ
accepted s = s.accepted.items

-- the heads of a state ascend, and the states below them are among the first `MAX_STATES`
pub record IsState (s : State) : Type 0 where
  pub ascending : AreAscending s.heads.items
  pub few : s.first + length s.heads.items ≤ MAX_STATES

-- the net begins with these rules, accepts those that ask nothing more, and has at most `MAX_STATES` states
pub record IsNetOf (os : List net.Open) (n : Net) : Type 0 where
  pub rules : List (List net.Open)
  pub net : net.IsNet rules (map turn_of n.states.items)
  pub start : slice_get rules 0 ≡ Some os
  pub accepted : map accepted n.states.items ≡ map (filter_map ended) rules
  pub few : length n.states.items ≤ MAX_STATES
  pub states : AllByRecursion IsState n.states.items

-- where a state leads that has one rule, which asks that next
abbrev pub asking_turn : net.Mark → ℕ → net.Turn
asking_turn net.anything q = record { edges = []; other = Some q }
asking_turn h q = record { edges = (h, q) ∷ []; other = None }

-- rules by their marks, numbered from i: each asks for its whole pattern
abbrev pub opening : ℕ → List (List net.Mark) → List net.Open
opening i [] = []
opening i (m ∷ ms) = record { rule = i; rest = m } ∷ opening (suc i) ms

-- a net of the first rules, at least one, of those that are numbered from i
pub record IsGroup (i : ℕ) (ms : List (List net.Mark)) (count : ℕ) (n : Net) : Type 0 where
  pub some : 1 ≤ count
  pub within : count ≤ length ms
  pub net : IsNetOf (opening i (take count ms)) n

-- the nets of the rules that are numbered from i, group by group
abbrev pub AreNets : ℕ → List (List net.Mark) → List Net → Type 0
AreNets i ms [] = ms ≡ []
AreNets i ms (n ∷ ns) = (count : ℕ) × IsGroup i ms count n × AreNets (i + count) (drop count ms) ns

-- the net is one of some rules
abbrev pub IsNet : Net → Type 0
IsNet n = (os : List net.Open) × IsNetOf os n
