-- The net of one rule: a state for each of its marks, and one behind them.
use Rattle.std.specs.Prelude.{ℕ, suc, List, [], ◌∷◌}
use Rattle.mp_net.specs.Net.{Mark, Open, Turn, nowhere}
use Rattle.mp_net.specs.NetOf.{asking_turn}

-- a rule alone
abbrev pub single : ℕ → List Mark → List Open
single r m = record { rule = r; rest = m } ∷ []

-- the rules of the states
abbrev pub chain_rules : ℕ → List Mark → List (List Open)
chain_rules r [] = single r [] ∷ []
chain_rules r (g ∷ m) = single r (g ∷ m) ∷ chain_rules r m

-- where the states of the marks lead, the first of which has the number q
abbrev pub asking_turns : ℕ → List Mark → List Turn
asking_turns q [] = []
asking_turns q (g ∷ m) = asking_turn g (suc q) ∷ asking_turns (suc q) m

-- where all states lead
abbrev pub chain_turns : ℕ → List Mark → List Turn
chain_turns q [] = nowhere ∷ []
chain_turns q (g ∷ m) = asking_turn g (suc q) ∷ chain_turns (suc q) m
