-- What tokens are read as that are kept in little room.
use Rattle.std.specs.Prelude.{◌<◌, ⊤, ℕ, List, length, map, slice_index_or}
use Rattle.std.specs.List.{AllByRecursion}
use Rattle.mp_pattern.specs.NetTokens.{NetToken, enter_token, leave_token}
use Rattle.mp_many.specs.declared.token.Token.{Token}
use Rattle.mp_many.specs.declared.tokens.Kept.{Kept}
use Rattle.mp_many.specs.declared.tokens.Kept.TheVariants.{Enter, Leave, Held}
use Rattle.mp_many.specs.declared.tokens.Tokens.TheInside as tokens
use Rattle.mp_many.specs.TokenView.{read_token}

-- a token that is kept, where these are held
abbrev pub read_kept : List NetToken → Kept → NetToken
read_kept held (Enter f) = enter_token f.0
read_kept held (Leave f) = leave_token f.0
read_kept held (Held n) = slice_index_or held n (leave_token 0)

-- its token is held, where so many are
abbrev pub IsHeld : ℕ → Kept → Type 0
IsHeld count (Enter f) = ⊤
IsHeld count (Leave f) = ⊤
IsHeld count (Held n) = n < count

-- the tokens that are kept, where these are held
abbrev pub kept_tokens : List Token → List Kept → List NetToken
kept_tokens held kept = map (read_kept (map read_token held)) kept

-- those of a list
abbrev pub tokens_view : tokens.Inside → List NetToken
tokens_view t = kept_tokens t.held.items t.kept.items

-- each of them is held
abbrev pub AreKept : tokens.Inside → Type 0
AreKept t = AllByRecursion (IsHeld (length t.held.items)) t.kept.items
