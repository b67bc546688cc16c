-- The plain token that a net token is read as.
use Rattle.mp_pattern.specs.NetTokens as plain
use Rattle.mp_pattern.specs.PatternTree.{dot, kind, plus, star, optional, counted}
use Rattle.mp_pattern.specs.declared.net_token.NetToken.{NetToken}
use Rattle.mp_pattern.specs.declared.net_token.NetToken.TheVariants.{Sym, Enter, Leave, Dot, Kind, Plus, Star, Opt}
use Rattle.mp_pattern.specs.declared.net_token.NetToken.TheVariants.{Counted, Comm}
use Rattle.mp_term.specs.View.{tree}
use Rattle.mp_pattern.specs.View.{pattern_tree}

-- a token with the numbers of its operation and of its kind, and the trees of its default and of its pattern
abbrev pub net_token : NetToken → plain.NetToken
net_token (Sym n) = plain.sym_token n
net_token (Enter f) = plain.enter_token f.0
net_token (Leave f) = plain.leave_token f.0
net_token (Dot x) = plain.wild_token dot x
net_token (Kind k x) = plain.wild_token (kind k.0) x
net_token (Plus x) = plain.wild_token plus x
net_token (Star x) = plain.wild_token star x
net_token (Opt x t) = plain.wild_token (optional (tree t)) x
net_token (Counted n fixed x) = plain.wild_token (counted n fixed) x
net_token (Comm p) = plain.comm_token (pattern_tree p)
