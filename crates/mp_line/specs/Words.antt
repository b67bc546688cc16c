-- How a text is split at a byte.
use Rattle.std.specs.Prelude.{◌≡◌, ◌⊎◌, ◌<◌, ℕ, Bool, true, false, ◌||◌, [], ◌∷◌, ◌++◌, nat_eq, bytes_eq, length, take}
use Rattle.std.specs.Prelude.{slice_index, codes}
use Rattle.std.specs.List.{list_any, list_all}
use Rattle.std.specs.Char.{is_ascii_digit}
use Rattle.mp_io.specs.Devices.{Text}
use Rattle.mp_term.specs.Names.{is_name_byte}

-- the byte isn't in the text
abbrev pub IsWithout : ℕ → Text → Type 0
IsWithout byte text = list_any (λ c. nat_eq c byte) text ≡ false

-- the place of the last such byte
pub record IsLastPlace (byte : ℕ) (text : Text) (i : ℕ) : Type 0 where
  pub within : i < length text
  pub here : slice_index text i ≡ byte
  pub behind : (k : ℕ) → i < k → k < length text → nat_eq (slice_index text k) byte ≡ false

-- the byte stands between the two parts, and not in the first
pub record IsSplitAtFirst (byte : ℕ) (text front behind : Text) : Type 0 where
  pub parts : text ≡ front ++ byte ∷ behind
  pub first : IsWithout byte front

-- and not in the second
pub record IsSplitAtLast (byte : ℕ) (text front behind : Text) : Type 0 where
  pub parts : text ≡ front ++ byte ∷ behind
  pub last : IsWithout byte behind

-- the text ends with the end, such a byte and a word without one
pub record IsSplitBehind (end : Text) (byte : ℕ) (text front word : Text) : Type 0 where
  pub parts : text ≡ front ++ (end ++ byte ∷ word)
  pub last : IsWithout byte word

-- nothing stands behind a word, or another blank
abbrev pub IsWordEnd : Text → Type 0
IsWordEnd behind = (behind ≡ []) ⊎ ((rest : Text) × (behind ≡ 32 ∷ rest))

-- the text begins with the word, which has no blank, and stops there or goes on with a blank
pub record IsFirstWord (text word behind : Text) : Type 0 where
  pub parts : text ≡ word ++ behind
  pub bare : IsWithout 32 word
  pub ends : IsWordEnd behind

-- the text begins with a blank, and what stands behind it begins with the word
pub record IsBlankWord (text word behind : Text) : Type 0 where
  pub rest : Text
  pub blank : text ≡ 32 ∷ rest
  pub first : IsFirstWord rest word behind

-- a digit or a blank
abbrev pub is_digit_or_blank : ℕ → Bool
is_digit_or_blank c = is_ascii_digit c || nat_eq c 32

-- the text ends with digits and blanks, and no such byte stands before them
pub record IsBeforeNumbers (text front digits : Text) : Type 0 where
  pub parts : text ≡ front ++ digits
  pub only : list_all is_digit_or_blank digits ≡ true
  pub last : (before : Text) (c : ℕ) → front ≡ before ++ c ∷ [] → is_digit_or_blank c ≡ false

-- a digit comes first
abbrev pub begins_with_digit : Text → Bool
begins_with_digit [] = false
begins_with_digit (c ∷ cs) = is_ascii_digit c

-- a letter, a digit or a blank
abbrev pub is_letter_or_blank : ℕ → Bool
is_letter_or_blank c = is_name_byte c || nat_eq c 32

-- the text begins with letters, digits and blanks, and stops there or goes on with another byte
pub record IsFrontOfWords (text words behind : Text) : Type 0 where
  pub parts : text ≡ words ++ behind
  pub all : list_all is_letter_or_blank words ≡ true
  pub ends : (behind ≡ []) ⊎ ((c : ℕ) × (rest : Text) × (behind ≡ c ∷ rest) × (is_letter_or_blank c ≡ false))

-- ` if ` stands somewhere in the text
abbrev pub has_if : Text → Bool
has_if [] = false
has_if (c ∷ cs) = bytes_eq (take 4 (c ∷ cs)) (codes " if ") || has_if cs

-- ` if ` stands between the two parts, and nowhere behind that
pub record IsSplitAtIf (text front behind : Text) : Type 0 where
  pub parts : text ≡ front ++ (codes " if " ++ behind)
  pub last : has_if (codes "if " ++ behind) ≡ false
