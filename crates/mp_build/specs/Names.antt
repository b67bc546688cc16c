-- The names and numbers that the statements of a file give.
use Rattle.std.specs.Prelude.{ℕ, ◌+◌, ◌-◌, ◌*◌, Bool, false, List, [], ◌∷◌}
use Rattle.std.specs.Str.{bytes_eq}
use Rattle.mp_pattern.specs.Firsts.{is_known}
use Rattle.mp_parser.specs.Syntax.{Statement, OpOf, KindOf, RuleOf, SubjectOf, EditOf}

-- the name is one of these
abbrev pub is_among : List ℕ → List (List ℕ) → Bool
is_among name names = is_known bytes_eq names name

-- the names of the rules, in order
abbrev pub rule_names : List Statement → List (List ℕ)
rule_names [] = []
rule_names (OpOf name least more flags ∷ ss) = rule_names ss
rule_names (KindOf name members ∷ ss) = rule_names ss
rule_names (RuleOf name p x c ∷ ss) = name.text ∷ rule_names ss
rule_names (SubjectOf name t ∷ ss) = rule_names ss
rule_names (EditOf subject changes ∷ ss) = rule_names ss

-- the names of the subjects, in order
abbrev pub subject_names : List Statement → List (List ℕ)
subject_names [] = []
subject_names (OpOf name least more flags ∷ ss) = subject_names ss
subject_names (KindOf name members ∷ ss) = subject_names ss
subject_names (RuleOf name p x c ∷ ss) = subject_names ss
subject_names (SubjectOf name t ∷ ss) = name.text ∷ subject_names ss
subject_names (EditOf subject changes ∷ ss) = subject_names ss

-- the number that further decimal digits make of a number
abbrev pub number_after : ℕ → List ℕ → ℕ
number_after n [] = n
number_after n (digit ∷ digits) = number_after (10 * n + (digit - 48)) digits

-- the number that is written in decimal digits
abbrev pub number_of : List ℕ → ℕ
number_of = number_after 0

-- the name, where there is one
abbrev pub named : List ℕ → List (List ℕ)
named [] = []
named (byte ∷ bytes) = (byte ∷ bytes) ∷ []

-- the names are those of one variable; a wildcard without a name has none
abbrev pub is_same_variable : List ℕ → List ℕ → Bool
is_same_variable [] y = false
is_same_variable (byte ∷ bytes) y = bytes_eq (byte ∷ bytes) y
