-- Where the instructions of a program lead, and by which paths.
use Rattle.std.specs.Prelude.{ℕ, List, [], ◌∷◌, ◌++◌, map, filter, flat_map, Option, nat_eq}
use Rattle.std.specs.Prelude.{option_to_list}
use Rattle.mp_walk.specs.Instrs.{Instr}
use Rattle.mp_walk.specs.Walkable.{Path}

-- a way to the instruction of the number, in whose path so much stands before its own token
pub record Lead : Type 0 where
  pub to : ℕ
  pub before : Path

-- the way that a target is, if it is one
abbrev pub lead : Path → Option ℕ → List Lead
lead before target = map (λ n. record { to = n; before = before }) (option_to_list target)

-- the ways of an instruction: down makes its path longer by its token, and over leaves the token out
abbrev pub leads : Path → Instr → List Lead
leads before i = lead (before ++ i.token ∷ []) i.down ++ lead before i.over

-- what stands before the token of instruction n, by each way to it
abbrev pub befores : List Lead → ℕ → List Path
befores ls n = map (λ l. l.before) (filter (λ l. nat_eq l.to n) ls)

-- the ways to come behind instruction n, where ls are those before it
abbrev pub leads_after : List Lead → ℕ → Instr → List Lead
leads_after ls n i = ls ++ flat_map (λ before. leads before i) (befores ls n)
