-- The plain trees that contracts see in place of patterns.
use Rattle.std.specs.Prelude.{ℕ, nat_eq, nat_le, Bool, true, false, ◌||◌, List, [], ◌∷◌, Option, Some, None}
use Rattle.std.specs.Prelude.{if◌then◌else◌}
use Rattle.mp_term.specs.Tree.{Tree}

-- what a wildcard takes: one argument; one symbol of the kind; one argument or more; any number of them; one argument,
-- or none and then its variable has the default; as many arguments as its count where that is fixed, and so many or
-- more where it isn't
pub data Wildcard : Type 0 where
  dot : Wildcard
  kind : ℕ → Wildcard
  plus : Wildcard
  star : Wildcard
  optional : Tree → Wildcard
  counted : ℕ → Bool → Wildcard

-- a number meets a count: it is the count where that is fixed, and at least the count where it is open
abbrev pub meets_count : ℕ → Bool → ℕ → Bool
meets_count count fixed n = if fixed then nat_eq n count else nat_le count n

-- its variable stands for a list of terms: a plus, star or counted wildcard
abbrev pub is_sequence : Wildcard → Bool
is_sequence plus = true
is_sequence star = true
is_sequence (counted n fixed) = true
is_sequence _ = false

-- how many arguments it takes at least
abbrev pub least : Wildcard → ℕ
least star = 0
least (optional t) = 0
least (counted n fixed) = n
least _ = 1

-- how many it takes at most, if there is a bound; under an associative operation one term may stand for several
-- arguments
abbrev pub most : Bool → Wildcard → Option ℕ
most assoc dot = if assoc then None else Some 1
most assoc (kind k) = Some 1
most assoc plus = None
most assoc star = None
most assoc (optional t) = if assoc then None else Some 1
most assoc (counted n fixed) = if fixed then Some n else None

-- it may take no argument, or as a sequence several
abbrev pub is_loose : Wildcard → Bool
is_loose w = is_sequence w || nat_eq (least w) 0

mutual
  -- a symbol, an operation's number with its arguments, or a wildcard with its variable
  pub data Pattern : Type 0 where
    symbol_pattern : List ℕ → Pattern
    app_pattern : ℕ → Patterns → Pattern
    wild_pattern : Wildcard → Option (List ℕ) → Pattern

  -- a list of patterns, which stands here since a type can't hold itself inside `List`
  pub data Patterns : Type 0 where
    no_patterns : Patterns
    more_patterns : Pattern → Patterns → Patterns

-- the same as a `List`
abbrev pub pattern_list : Patterns → List Pattern
pattern_list no_patterns = []
pattern_list (more_patterns p ps) = p ∷ pattern_list ps

-- and back
abbrev pub patterns : List Pattern → Patterns
patterns [] = no_patterns
patterns (p ∷ ps) = more_patterns p (patterns ps)
