-- What the tokens are read as that stand in the patterns of rules.
use Rattle.mp_pattern.specs.NetTokens as plain
use Rattle.mp_pattern.specs.NetTokens.{renamed}
use Rattle.mp_pattern.specs.View.{pattern_tree, wildcard}
use Rattle.mp_many.specs.declared.token.Token.{Token}
use Rattle.mp_many.specs.declared.token.Token.TheVariants.{Sym, Enter, Leave, Wild, Comm}

-- a token by its name, its operation or its wildcard, and that of a commutative application with the pattern's
-- variables by their numbers
abbrev pub read_token : Token → plain.NetToken
read_token (Sym n) = plain.sym_token n.now
read_token (Enter f) = plain.enter_token f.0
read_token (Leave f) = plain.leave_token f.0
read_token (Wild w x) = plain.wild_token (wildcard w.now) x
read_token (Comm p xs) = plain.comm_token (renamed xs.now (pattern_tree p.now))
