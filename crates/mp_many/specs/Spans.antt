-- What lists of tokens are read as that stand one behind the other.
use Rattle.std.specs.Prelude.{◌≡◌, ◌≤◌, ◌<◌, ◌-◌, ◌^◌, ℕ, List, length, map, take, drop}
use Rattle.std.specs.List.{AllByRecursion}
use Rattle.mp_pattern.specs.NetTokens.{NetToken}
use Rattle.mp_many.specs.declared.lists.Span.{Span}
use Rattle.mp_many.specs.declared.lists.TokenLists.TheInside.{Inside}
use Rattle.mp_many.specs.Prefixes.{token_count}

-- the tokens of a list, among those of all lists
abbrev pub list_in : List NetToken → Span → List NetToken
list_in ts s = take (s.end - s.start) (drop s.start ts)

-- the lists
abbrev pub lists_view : Inside → List (List NetToken)
lists_view l = map (list_in l.tokens) l.spans.items

-- they are there where so many tokens are, and their places can be held
abbrev pub IsSpan : ℕ → Span → Type 0
IsSpan count s = (s.start ≤ s.end) × ((s.end ≤ count) × (s.end < 2 ^ 64))

-- each list is there, and there are no other tokens than theirs
pub record AreSpans (l : Inside) : Type 0 where
  pub within : AllByRecursion (IsSpan (length l.tokens)) l.spans.items
  pub whole : length l.tokens ≡ token_count (lists_view l)
