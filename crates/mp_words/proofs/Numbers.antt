-- Where `parse` refuses digits, they write a number above the range.
use Rattle.std.proofs.Common.{◌≡◌, ℕ, ◌<◌, ◌^◌, ◌==◌, ◌&&◌, Bool, true, false, not, List, length, refl, arith, rules}
use Rattle.std.proofs.Common.{Some, None, Err, nat_le, if◌then◌else◌}
use Rattle.std.proofs.lemmas.Bool.Decides.{nat_tests}
use Rattle.std.proofs.lemmas.Str.Parse.{IsDigitsTest, IsNumeralModel, numerals_by_value, parse_digits}
use Rattle.std.specs.List.{list_all}
use Rattle.std.specs.Str.Parse.{IsNumeral, digits_value, without_leading_plus}
use Rattle.std.proofs.lemmas.Bool.{and_parts}
use Rattle.mp_term.specs.Signature.{is_digit, is_number}
use Rattle.mp_words.specs.Words.{number_in}

-- the test of digits, as std's lemmas on `parse` want it
digits : IsNumeralModel (λ ds. list_all is_digit ds ≡ true) (digits_value 10)
digits = numerals_by_value _ tells
  where
    tells : IsDigitsTest (λ ds. list_all is_digit ds ≡ true)
    tells = search rules

-- a number is none where the last of four tests fails
absent : (a b c d : Bool) (n : ℕ) → d ≡ false → None ≡ (if a && (b && (c && d)) then Some n else None)
absent false b c d n e = refl
absent true false c d n e = refl
absent true true false d n e = refl
absent true true true d n e = rw e refl

pub number_in-refused : (least most : ℕ) (text : List ℕ) → is_number text ≡ true
    → (IsNumeral 10 (without_leading_plus text) × (digits_value 10 (without_leading_plus text) < 2 ^ 32) → ⊥)
    → most < 2 ^ 32 → None ≡ number_in least most text
number_in-refused least most text is refused fits =
    let tests = and_parts (not (length text == 0)) (list_all is_digit text) is in
    let some : 0 < length text = let h = tests.0 in grind (arith, nat_tests) in
    let large : digits_value 10 text < 2 ^ 32 → ⊥ = λ below.
    parse_digits digits {E = ℕ} 32 text (Err 0) refused tests.1 (some, below) in
    let above : most < digits_value 10 text = omega arith in
    let fails : nat_le (digits_value 10 text) most ≡ false = grind (arith, nat_tests) in
    absent (is_number text) (nat_le (length text) 10) (nat_le least (digits_value 10 text)) _ _ fails
