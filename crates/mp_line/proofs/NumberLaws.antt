-- Numbers in decimal: what they write, and that no two have one text.
use Rattle.std.proofs.Common.{◌≡◌, ◌≢◌, ◌<◌, ◌≤◌, ◌+◌, ◌-◌, ◌*◌, ◌/◌, ◌%◌, ◌^◌, ℕ, Bool, true, false, [], ◌∷◌}
use Rattle.std.proofs.Common.{◌++◌, Option, Some, None, inl, inr, refl, sym, ap, subst, ◌∙◌, arith}
use Rattle.std.specs.Prelude.{nat_eq, nat_le, decimal, codes, length, not, get_or, ◌||◌, ◌&&◌}
use Rattle.std.specs.Char.{is_ascii_digit}
use Rattle.std.specs.List.{list_any, list_all}
use Rattle.std.specs.Int.{IsInRange}
use Rattle.std.proofs.lemmas.Bool.{and_parts, eqb-true, eq-eqb, ne_eqb, leb-true, le-leb, cases_lt}
use Rattle.std.proofs.lemmas.Fmt.{decimal_by_steps, decimal_digit, first_decimal, decimal-digits_value}
use Rattle.std.proofs.lemmas.Fmt.{length-decimal-le}
use Rattle.std.proofs.lemmas.Grind.{pow_more}
use Rattle.std.proofs.lemmas.List.Folds.{list_all-append}
use Rattle.std.proofs.lemmas.Str.Parse.{IsDigitsTest, FoldsDigits, numerals_by_fold}
use Rattle.mp_io.specs.Devices.{Text}
use Rattle.mp_build.specs.Names.{number_after, number_of}
use Rattle.mp_build.proofs.Faultless.{some-behind}
use Rattle.mp_build.proofs.Numbers.{is_ascii_digit-digit, number_after-append}
use Rattle.mp_program.specs.Reading.{is_numeral}
use Rattle.mp_program.specs.RightForm.{IsShort}
use Rattle.mp_line.specs.Finds.{IsOnly}
use Rattle.mp_line.specs.LineTexts.{IsNumberText, IsTargetText}
use Rattle.mp_line.specs.Words.{IsWithout, IsSplitAtFirst}
use Rattle.mp_line.proofs.WordLaws.{first-only, with-none}

-- ---- digits

-- one digit more of a number of so many
pub number-below : (n digit i : ℕ) → is_ascii_digit digit ≡ true → n < 10 ^ i → 10 * n + (digit - 48) < 10 ^ (i + 1)
number-below n digit i is small =
    let h = and_parts (nat_le 48 digit) (nat_le digit 57) is in
    omega (arith, leb-true digit 57 h.1, pow_more 10 i, small)

-- the bytes behind a digit are digits where all are
pub first-digit : (digit : ℕ) (digits rest : Text) → digits ≡ digit ∷ rest → is_ascii_digit digit ≡ true
    → list_all is_ascii_digit rest ≡ list_all is_ascii_digit digits
first-digit digit digits rest e h =
    sym (ap (list_all is_ascii_digit) e ∙ ap (λ v. v && list_all is_ascii_digit rest) h)

-- ---- the text of a number

-- the text of a number
pub record IsDecimal (n : ℕ) (digits : Text) : Type 0 where
  pub value : number_of digits ≡ n
  pub are_digits : list_all is_ascii_digit digits ≡ true
  pub some : digits ≢ []

-- the decimal text of a number
pub decimal-text : (n : ℕ) → n < 2 ^ 64 → IsDecimal n (decimal n)
decimal-text = decimal_by_steps IsDecimal one more
  where
    one : (n : ℕ) → n < 10 → IsDecimal n ((48 + n) ∷ [])
    one n small = record {
      value = omega arith;
      are_digits = rw (is_ascii_digit-digit n small) refl;
      some = λ e. absurd cc;
    }

    more : (n : ℕ) (ds : Text) → 10 ≤ n → IsDecimal (n / 10) ds → IsDecimal n (ds ++ ((48 + n % 10) ∷ []))
    more n ds large w =
        let small : n % 10 < 10 = omega arith in
        let front = w.value in
        let last : 10 * number_of ds + ((48 + n % 10) - 48) ≡ n = omega arith in
        record {
          value = number_after-append 0 ds ((48 + n % 10) ∷ []) ∙ last;
          are_digits = list_all-append is_ascii_digit ds ((48 + n % 10) ∷ [])
              ∙ rw (w.are_digits, is_ascii_digit-digit (n % 10) small) refl;
          some = λ e. absurd (some-behind ds (48 + n % 10) e);
        }

-- a byte that is no digit isn't among digits
pub without-digits : (b : ℕ) (ds : Text) → is_ascii_digit b ≡ false → list_all is_ascii_digit ds ≡ true → IsWithout b ds
without-digits b [] other h = refl
without-digits b (d ∷ ds) other h = go (is_ascii_digit d) refl h (λ rest. without-digits b ds other rest)
  where
    differ : (v : Bool) → nat_eq d b ≡ v → is_ascii_digit d ≡ true → IsWithout b ds
        → (v || list_any (λ c. nat_eq c b) ds) ≡ false
    differ false e is rest = rest
    differ true e is rest =
        (let same = eqb-true d b e in let wrong : true ≡ false = sym is ∙ ap is_ascii_digit same ∙ other in cc)

    go : (v : Bool) → is_ascii_digit d ≡ v → (v && list_all is_ascii_digit ds) ≡ true
        → (list_all is_ascii_digit ds ≡ true → IsWithout b ds) → IsWithout b (d ∷ ds)
    go false is h behind = (let wrong : false ≡ true = h in cc)
    go true is h behind = differ (nat_eq d b) refl is (behind h)

-- nor is it in a number
pub without-decimal : (b n : ℕ) → is_ascii_digit b ≡ false → n < 2 ^ 64 → IsWithout b (decimal n)
without-decimal b n other small = without-digits b (decimal n) other (decimal-text n small).are_digits

-- a number of 32 bits has no blank
pub bare-decimal : (n : ℕ) → IsShort n → IsWithout 32 (decimal n)
bare-decimal n h = (let short : n < 2 ^ 32 = h in without-decimal 32 n refl (omega arith))

-- the number that a text writes
pub number-written : (word : Text) (n : ℕ) → IsNumberText word n → number_of word ≡ n
number-written word n h = ap number_of (sym h.text) ∙ (decimal-text n
    (let small : n < 2 ^ 32 = h.short in omega arith)).value

-- ---- what is found

-- a text that writes too great a number is none of a short one
pub no-number : (word : Text) → 2 ^ 32 ≤ number_of word → (n : ℕ) → IsNumberText word n → ⊥
no-number word great n h =
    let small : n < 2 ^ 32 = h.short in
    let same = number-written word n h in
    omega arith

-- nor is a long text
pub long-number : (word : Text) → 10 < length word → (n : ℕ) → IsNumberText word n → ⊥
long-number word long n h =
    let small : n < 2 ^ 32 = h.short in
    let few = length-decimal-le 10 n (omega arith) (omega arith) (omega arith) in
    omega (arith, ap length h.text, few, long)

-- digits are told by a test
tells : IsDigitsTest (λ ds. list_all is_ascii_digit ds ≡ true)
tells = record { empty = refl; parts = parts; more = more }
  where
    parts : (c : ℕ) (cs : Text) → list_all is_ascii_digit (c ∷ cs) ≡ true
        → IsInRange 48 57 c × (list_all is_ascii_digit cs ≡ true)
    parts c cs e =
        let h = and_parts (is_ascii_digit c) (list_all is_ascii_digit cs) e in
        let k = and_parts (nat_le 48 c) (nat_le c 57) h.0 in
        ((leb-true 48 c k.0, leb-true c 57 k.1), h.1)

    more : (c : ℕ) (cs : Text) → IsInRange 48 57 c → list_all is_ascii_digit cs ≡ true
        → list_all is_ascii_digit (c ∷ cs) ≡ true
    more c cs k e =
        ap (λ v. (v && nat_le c 57) && list_all is_ascii_digit cs) (le-leb 48 c k.0)
        ∙ (ap (λ v. v && list_all is_ascii_digit cs) (le-leb c 57 k.1) ∙ e)

-- the number that digits write
folds : FoldsDigits number_after
folds = record {
  empty = λ n. refl;
  more = λ n c cs k. ap (λ m. number_after m cs) (let e : 10 * n + (c - 48) ≡ n * 10 + (c - 48) = omega arith in e);
}

-- a number in decimal is the text of what it writes
numeral-text : (word : Text) → is_numeral word ≡ true → number_of word < 2 ^ 64 → decimal (number_of word) ≡ word
numeral-text [] e small = (let wrong : false ≡ true = e in cc)
numeral-text (c ∷ cs) e small =
    let h = and_parts (list_all is_ascii_digit (c ∷ cs)) (not (nat_eq c 48) || nat_eq (length cs) 0) e in
    decimal-digits_value (numerals_by_fold (λ ds. list_all is_ascii_digit ds ≡ true) tells number_after folds)
    (c ∷ cs) h.0 (omega arith) (λ z. by_test (nat_eq c 48) refl (eq-eqb c 48 z) h.1) small
  where
    by_test : (v : Bool) → nat_eq c 48 ≡ v → nat_eq c 48 ≡ true → (not v || nat_eq (length cs) 0) ≡ true
        → length (c ∷ cs) ≡ 1
    by_test true same is k = (let none = eqb-true (length cs) 0 k in omega arith)
    by_test false same is k = (let wrong : true ≡ false = sym is ∙ same in cc)

-- the text of a number is one in decimal
decimal-numeral : (n : ℕ) → n < 2 ^ 64 → is_numeral (decimal n) ≡ true
decimal-numeral n small =
    by_value n (decimal n) (decimal-text n small) (λ z. ap decimal z ∙ decimal_digit 0 (omega arith))
    (λ some. first_decimal n some small)
  where
    by_value : (n : ℕ) (ds : Text) → IsDecimal n ds → (n ≡ 0 → ds ≡ 48 ∷ []) → (0 < n → 48 < get_or ds 0 0)
        → is_numeral ds ≡ true
    by_value n [] h zero more = absurd (h.some refl)
    by_value n (c ∷ cs) h zero more =
        rw (h.are_digits) (elim (cases_lt 0 n) [
          | inl some ↦ rw (ne_eqb c 48 (let k = more some in λ e. omega arith)) refl
          | inr none ↦ (let e = zero (omega arith) in cc)
        ])

-- a short number is found where the text is one in decimal
pub is-number : (word : Text) (n : ℕ) → is_numeral word ≡ true → n ≡ number_of word → n < 2 ^ 32
    → IsOnly (IsNumberText word) n
is-number word n numeral same small = record {
  is = record { short = small; text = ap decimal same ∙ numeral-text word numeral (omega arith) };
  only = λ m h. sym (number-written word m h) ∙ sym same;
}

-- and else none is
pub not-number : (word : Text) → is_numeral word ≡ false → (m : ℕ) → IsNumberText word m → ⊥
not-number word other m h =
    let short : m < 2 ^ 32 = h.short in
    let wrong : true ≡ false = sym (decimal-numeral m (omega arith)) ∙ (ap is_numeral h.text ∙ other) in cc

-- `-` is the text of no number
pub dash-only : (word : Text) → word ≡ codes "-" → IsOnly (IsTargetText word) None
dash-only word is = record { is = record { short = tt; text = sym is }; only = go }
  where
    go : (x : Option ℕ) → IsTargetText word x → x ≡ None
    go None v = refl
    go (Some m) v =
        let small : m < 2 ^ 32 = v.short in
        let digits = (decimal-text m (omega arith)).are_digits in
        let wrong : false ≡ true = ap (list_all is_ascii_digit) (sym (v.text ∙ is)) ∙ digits in cc

-- ---- a number at the begin of a line

-- a line that begins with the number is split behind it
pub number-split : (line word rest : Text) (n : ℕ) → IsShort n → IsSplitAtFirst 32 line word rest → (more : Text)
    → line ≡ decimal n ++ (codes " " ++ more) → (word ≡ decimal n) × (rest ≡ more)
number-split line word rest n short split more e =
    first-only 32 line word rest (decimal n) more split (record { parts = e; first = bare-decimal n short })

-- what stands behind it is found
pub behind-number : (line word rest : Text) (n m : ℕ) → IsShort n → IsSplitAtFirst 32 line word rest
    → IsOnly (IsNumberText word) m → m ≡ n → IsOnly (λ more. line ≡ decimal n ++ (codes " " ++ more)) rest
behind-number line word rest n m short split h same = record {
  is = split.parts ∙ ap (λ t. t ++ 32 ∷ rest) (sym h.is.text ∙ ap decimal same);
  only = λ more e. sym (number-split line word rest n short split more e).1;
}

-- a line that begins with another number doesn't begin so
pub other-number : (line word rest : Text) (n m : ℕ) → IsShort n → IsSplitAtFirst 32 line word rest
    → IsOnly (IsNumberText word) m → (m ≡ n → ⊥) → (more : Text) → line ≡ decimal n ++ (codes " " ++ more) → ⊥
other-number line word rest n m short split h other more e =
    other (sym (h.only n (record {
      short = short;
      text = sym (number-split line word rest n short split more e).0;
    })))

-- nor does one that begins with none
pub numberless : (line word rest : Text) (n : ℕ) → IsShort n → IsSplitAtFirst 32 line word rest
    → ((m : ℕ) → IsNumberText word m → ⊥) → (more : Text) → line ≡ decimal n ++ (codes " " ++ more) → ⊥
numberless line word rest n short split none more e =
    none n (record { short = short; text = sym (number-split line word rest n short split more e).0 })

-- nor one without a blank
pub blankless : (line : Text) (n : ℕ) → IsWithout 32 line → (more : Text) → line ≡ decimal n ++ (codes " " ++ more) → ⊥
blankless line n bare more e = with-none 32 (decimal n) more (subst (IsWithout 32) e bare)
