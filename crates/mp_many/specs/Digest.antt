-- A number of a token, by which different tokens are mostly told apart at once: equal tokens have the same one.
use Rattle.std.specs.Prelude.{ℕ, ◌+◌, ◌*◌, ◌^◌, ◌%◌, List, [], ◌∷◌}
use Rattle.mp_pattern.specs.NetTokens.{NetToken, sym_token, enter_token, leave_token, wild_token, comm_token}
use Rattle.mp_pattern.specs.PatternTree.{Pattern, symbol_pattern, app_pattern, wild_pattern, Patterns}
use Rattle.mp_pattern.specs.PatternTree.{no_patterns, more_patterns}

-- a number with another mixed in
abbrev pub mixed : ℕ → ℕ → ℕ
mixed seed n = ((seed * 31) % 2 ^ 64 + n) % 2 ^ 64

-- a number with all those of a list mixed in
abbrev pub mixed_all : ℕ → List ℕ → ℕ
mixed_all seed [] = seed
mixed_all seed (n ∷ ns) = mixed_all (mixed seed n) ns

abbrev mutual
  -- a number with the symbols and the operations of a pattern mixed in
  pub pattern_digest : ℕ → Pattern → ℕ
  pattern_digest seed (symbol_pattern n) = mixed_all (mixed seed 1) n
  pattern_digest seed (app_pattern f ps) = all_digest (mixed (mixed seed 2) f) ps
  pattern_digest seed (wild_pattern w x) = mixed seed 3

  -- with those of all patterns of a list
  pub all_digest : ℕ → Patterns → ℕ
  all_digest seed no_patterns = seed
  all_digest seed (more_patterns p ps) = all_digest (pattern_digest seed p) ps

-- the number of a token
abbrev pub token_digest : NetToken → ℕ
token_digest (sym_token n) = mixed_all 1 n
token_digest (enter_token f) = mixed 2 f
token_digest (leave_token f) = mixed 3 f
token_digest (wild_token w x) = 4
token_digest (comm_token p) = pattern_digest 5 p
