-- The forest of a table of instructions.
use Rattle.std.specs.Prelude.{ℕ, zero, suc, List, [], ◌∷◌, length, Option, Some, None}
use Rattle.mp_pattern.specs.NetTokens.{NetToken}
use Rattle.mp_walk.specs.Instrs.{Instr, instr_at}
use Rattle.mp_walk.specs.Forests.{Forest, node, none, beside}

-- an instruction that accepts rules puts out its own number
abbrev pub leaf : ℕ → List ℕ → List ℕ
leaf n [] = []
leaf n (r ∷ rs) = n ∷ []

-- the forest of a target, of at most d instructions along each way
abbrev pub forest_within : ℕ → List Instr → Option ℕ → Forest NetToken
forest_within zero code t = none
forest_within (suc d) code None = none
forest_within (suc d) code (Some n) = elim (instr_at code n) [
  | None ↦ none
  | Some i ↦ beside (node i.token (leaf n i.accepts) (forest_within d code i.down)) (forest_within d code i.over)
]

-- the forest of a target: where all targets are greater than the numbers of their instructions, no way is longer than
-- the table
abbrev pub forest_of : List Instr → Option ℕ → Forest NetToken
forest_of code t = forest_within (length code) code t

-- the whole forest: a table begins with its first instruction
abbrev pub code_forest : List Instr → Forest NetToken
code_forest code = forest_of code (Some 1)
