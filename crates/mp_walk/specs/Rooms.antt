-- How much of a trail's room the tokens of a table of instructions take.
use Rattle.std.specs.Prelude.{ℕ, ◌+◌, ◌-◌, ◌*◌, max, List, Option, Some, None, slice_index_or}
use Rattle.mp_pattern.specs.NetTokens.{NetToken, wild_token, comm_token}
use Rattle.mp_ac.specs.CommPlan.{nodes_below}
use Rattle.mp_walk.specs.CodeForest.{forest_of}
use Rattle.mp_walk.specs.Forests.{Forest, node, none, beside}
use Rattle.mp_walk.specs.Instrs.{Instr}

-- a token takes so much at most beside the terms that it takes: three for a wildcard, and three for each node below a
-- commutative application
abbrev pub token_room : NetToken → ℕ
token_room (wild_token w x) = 3
token_room (comm_token p) = 3 * nodes_below p
token_room k = 0

-- so much the tokens along a way of a forest take at most
abbrev pub forest_room : Forest NetToken → ℕ
forest_room none = 0
forest_room (beside (node k ns below) fs) = max (token_room k + forest_room below) (forest_room fs)

-- and so much what comes from a target on takes
abbrev pub target_room : List Instr → Option ℕ → ℕ
target_room code target = forest_room (forest_of code target)

-- that of a target, where those of all instructions are given
abbrev pub room_at : List ℕ → Option ℕ → ℕ
room_at rooms None = 0
room_at rooms (Some n) = slice_index_or rooms (n - 1) 0
