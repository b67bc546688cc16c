-- How the printed text of a condition begins: with letters, digits and blanks without ` if `, and then with another
-- byte.
use Rattle.std.proofs.Common.{◌≡◌, ◌<◌, ◌/◌, ◌%◌, ◌++◌, ℕ, zero, suc, Bool, true, false, [], ◌∷◌}
use Rattle.std.proofs.Common.{take}
use Rattle.std.proofs.Common.{refl, sym, ap, ◌∙◌, arith, rules, append_assoc}
use Rattle.std.specs.Prelude.{codes, decimal, bytes_eq, nat_eq, nat_le, ⊤, ◌&&◌, ◌||◌, if◌then◌else◌}
use Rattle.std.specs.List.{list_all}
use Rattle.std.specs.Char.{is_ascii_digit}
use Rattle.std.specs.Fmt.{digits, digits_onto, digit_glyph}
use Rattle.std.proofs.lemmas.Bool.{and_parts, eqb-true}
use Rattle.std.proofs.lemmas.List.Folds.{list_all-append}
use Rattle.mp_io.specs.Devices.{Text}
use Rattle.mp_term.specs.Signature.{Sig}
use Rattle.mp_pattern.specs.declared.condition.Sense.{Sense}
use Rattle.mp_pattern.specs.declared.condition.Sense.TheVariants.{Lt, Le, Gt, Ge, Eq, Ne}
use Rattle.mp_pattern.specs.CondTree.{Operand, Amount, fixed, count, size, Cond, amounts, same, less, free, of_kind}
use Rattle.mp_pattern.specs.CondTree.{headed}
use Rattle.mp_pattern.specs.CondTree.{negation, all_of, any_of, Conds, no_conds, more_conds}
use Rattle.mp_print.specs.Printing.{preceded}
use Rattle.mp_print.specs.PrintedCond.{part_text, cond_text, part_texts}
use Rattle.mp_line.specs.Words.{is_letter_or_blank, has_if}

-- ---- digits

-- what a digit is written as is a digit
digit-glyph : (n : ℕ) → is_ascii_digit (digit_glyph false (n % 10)) ≡ true
digit-glyph n = (let small : n % 10 < 10 = omega arith in go (n % 10) small)
  where
    go : (d : ℕ) → d < 10 → is_ascii_digit (digit_glyph false d) ≡ true
    go d small = search (rules, small)

-- so is either of two texts of digits
either-digits : (v : Bool) (x y : Text) → list_all is_ascii_digit x ≡ true → list_all is_ascii_digit y ≡ true
    → list_all is_ascii_digit (if v then x else y) ≡ true
either-digits true x y h g = h
either-digits false x y h g = g

-- digits in front of digits are digits
digits-onto : (k n : ℕ) (acc : Text) → list_all is_ascii_digit acc ≡ true
    → list_all is_ascii_digit (digits_onto k 10 false n acc) ≡ true
digits-onto zero n acc h = h
digits-onto (suc k) n acc h =
    let next = digit_glyph false (n % 10) ∷ acc in
    let more : list_all is_ascii_digit next ≡ true = ap (λ v. v && list_all is_ascii_digit acc) (digit-glyph n) ∙ h in
    either-digits (nat_eq (n / 10) 0) next (digits_onto k 10 false (n / 10) next) more (digits-onto k
    (n / 10) next more)

-- the text of any number has digits alone
pub decimal-digits : (n : ℕ) → list_all is_ascii_digit (decimal n) ≡ true
unfolding digits
decimal-digits n = digits-onto 64 n [] refl

-- digits and then a blank have no ` if `, behind a blank or not
digits-if : (ds : Text) → list_all is_ascii_digit ds ≡ true → has_if (ds ++ codes " ") ≡ false
digits-if [] h = refl
digits-if (d ∷ ds) h =
    let p = and_parts (is_ascii_digit d) (list_all is_ascii_digit ds) h in
    ap (λ v. (v && bytes_eq (take 3 (ds ++ codes " ")) (codes "if ")) || has_if (ds ++ codes " "))
    (other d p.0 (nat_eq d 32) refl) ∙ digits-if ds p.1
  where
    other : (c : ℕ) → is_ascii_digit c ≡ true → (v : Bool) → nat_eq c 32 ≡ v → nat_eq c 32 ≡ false
    other c h false e = e
    other c h true e = (let same = eqb-true c 32 e in
        let wrong : true ≡ false = sym h ∙ ap is_ascii_digit same in cc)

-- in a blank, digits and a blank there is no ` if `
blank-digits-if : (ds : Text) → list_all is_ascii_digit ds ≡ true → has_if (32 ∷ (ds ++ codes " ")) ≡ false
blank-digits-if [] h = refl
blank-digits-if (d ∷ ds) h =
    let p = and_parts (is_ascii_digit d) (list_all is_ascii_digit ds) h in
    ap (λ v. (v && bytes_eq (take 2 (ds ++ codes " ")) (codes "f ")) || has_if ((d ∷ ds) ++ codes " "))
    (other d p.0 (nat_eq d 105) refl) ∙ digits-if (d ∷ ds) h
  where
    other : (c : ℕ) → is_ascii_digit c ≡ true → (v : Bool) → nat_eq c 105 ≡ v → nat_eq c 105 ≡ false
    other c h false e = e
    other c h true e = (let same = eqb-true c 105 e in
        let wrong : true ≡ false = sym h ∙ ap is_ascii_digit same in cc)

-- a digit is a letter, a digit or a blank
digit-letter : (c : ℕ) → is_ascii_digit c ≡ true → is_letter_or_blank c ≡ true
digit-letter c h =
    ap (λ v. (v || ((nat_le 65 c && nat_le c 90) || (nat_le 97 c && nat_le c 122))) || nat_eq c 32) h

-- so are digits
digits-letters : (ds : Text) → list_all is_ascii_digit ds ≡ true → list_all is_letter_or_blank ds ≡ true
digits-letters [] h = refl
digits-letters (d ∷ ds) h =
    let p = and_parts (is_ascii_digit d) (list_all is_ascii_digit ds) h in
    ap (λ v. v && list_all is_letter_or_blank ds) (digit-letter d p.0) ∙ digits-letters ds p.1

-- ---- texts that begin so

-- letters, digits and blanks without ` if ` behind `if`, and then another byte
pub record IsOpening (text : Text) : Type 0 where
  pub words : Text
  pub byte : ℕ
  pub rest : Text
  pub parts : text ≡ words ++ byte ∷ rest
  pub letters : list_all is_letter_or_blank words ≡ true
  pub other : is_letter_or_blank byte ≡ false
  pub no_if : has_if (codes "if " ++ words) ≡ false

-- so too behind `not`
record IsAtomOpening (text : Text) : Type 0 where
  plain : IsOpening text
  negated : IsOpening (codes "not " ++ text)

-- an opening stays one where more stands behind it
opening-append : (text more : Text) → IsOpening text → IsOpening (text ++ more)
opening-append text more h = record {
  words = h.words;
  byte = h.byte;
  rest = h.rest ++ more;
  parts = ap (λ t. t ++ more) h.parts ∙ append_assoc h.words (h.byte ∷ h.rest) more;
  letters = h.letters;
  other = h.other;
  no_if = h.no_if;
}

-- a word and a round bracket
word-opening : (word rest : Text) → list_all is_letter_or_blank word ≡ true → has_if (codes "if " ++ word) ≡ false
    → has_if (codes "if not " ++ word) ≡ false → IsAtomOpening (word ++ 40 ∷ rest)
word-opening word rest letters plain negated = record {
  plain = record {
    words = word;
    byte = 40;
    rest = rest;
    parts = refl;
    letters = letters;
    other = refl;
    no_if = plain;
  };
  negated = record {
    words = codes "not " ++ word;
    byte = 40;
    rest = rest;
    parts = refl;
    letters = letters;
    other = refl;
    no_if = negated;
  };
}

-- a number, a blank and a sign
number-opening : (n byte : ℕ) (rest : Text) → is_letter_or_blank byte ≡ false
    → IsAtomOpening (decimal n ++ 32 ∷ byte ∷ rest)
number-opening n byte rest other =
    let ds = decimal n in
    let all = decimal-digits n in
    let letters = list_all-append is_letter_or_blank ds (codes " ")
    ∙ ap (λ v. v && true) (digits-letters ds all) in
    record {
      plain = record {
        words = ds ++ codes " ";
        byte = byte;
        rest = rest;
        parts = sym (append_assoc ds (codes " ") (byte ∷ rest));
        letters = letters;
        other = other;
        no_if = blank-digits-if ds all;
      };
      negated = record {
        words = codes "not " ++ (ds ++ codes " ");
        byte = byte;
        rest = rest;
        parts = ap (λ t. codes "not " ++ t) (sym (append_assoc ds (codes " ") (byte ∷ rest)));
        letters = letters;
        other = other;
        no_if = blank-digits-if ds all;
      };
    }

-- a conjunction isn't empty
abbrev pub IsFilled : Cond → Type 0
IsFilled (all_of no_conds) = ⊥
IsFilled _ = ⊤

-- nor is the condition, or the first part of a disjunction
abbrev pub Opens : Cond → Type 0
Opens (all_of no_conds) = ⊥
Opens (any_of no_conds) = ⊥
Opens (any_of (more_conds c cs)) = IsFilled c
Opens _ = ⊤

module _ (sig : Sig) where
  amounts-opening : (m : Amount) (s : Sense) (n : Amount) → IsAtomOpening (cond_text sig (amounts m s n))
  amounts-opening (fixed k) Lt n = number-opening k 60 _ refl
  amounts-opening (fixed k) Le n = number-opening k 60 _ refl
  amounts-opening (fixed k) Gt n = number-opening k 62 _ refl
  amounts-opening (fixed k) Ge n = number-opening k 62 _ refl
  amounts-opening (fixed k) Eq n = number-opening k 61 _ refl
  amounts-opening (fixed k) Ne n = number-opening k 33 _ refl
  amounts-opening (count a) s n = word-opening (codes "count") _ refl refl refl
  amounts-opening (size a) s n = word-opening (codes "size") _ refl refl refl

  same-opening : (a b : Operand) → IsAtomOpening (cond_text sig (same a b))
  same-opening a b = word-opening (codes "same") _ refl refl refl

  less-opening : (a b : Operand) → IsAtomOpening (cond_text sig (less a b))
  less-opening a b = word-opening (codes "less") _ refl refl refl

  free-opening : (a b : Operand) → IsAtomOpening (cond_text sig (free a b))
  free-opening a b = word-opening (codes "free") _ refl refl refl

  kind-opening : (a : Operand) (k : ℕ) → IsAtomOpening (cond_text sig (of_kind a k))
  kind-opening a k = word-opening (codes "kind") _ refl refl refl

  head-opening : (a : Operand) (f : ℕ) → IsAtomOpening (cond_text sig (headed a f))
  head-opening a f = word-opening (codes "head") _ refl refl refl

  -- a bracket alone, and one behind `not`
  bracket-opening : (c : Cond) → IsOpening (codes "[" ++ (cond_text sig c ++ codes "]"))
  bracket-opening c = record {
    words = [];
    byte = 91;
    rest = cond_text sig c ++ codes "]";
    parts = refl;
    letters = refl;
    other = refl;
    no_if = refl;
  }

  not-bracket-opening : (c : Cond) → IsOpening (codes "not " ++ (codes "[" ++ (cond_text sig c ++ codes "]")))
  not-bracket-opening c = record {
    words = codes "not ";
    byte = 91;
    rest = cond_text sig c ++ codes "]";
    parts = refl;
    letters = refl;
    other = refl;
    no_if = refl;
  }

  negation-opening : (c : Cond) → IsOpening (cond_text sig (negation c))
  negation-opening (amounts m s n) = (amounts-opening m s n).negated
  negation-opening (same a b) = (same-opening a b).negated
  negation-opening (less a b) = (less-opening a b).negated
  negation-opening (free a b) = (free-opening a b).negated
  negation-opening (of_kind a k) = (kind-opening a k).negated
  negation-opening (headed a f) = (head-opening a f).negated
  negation-opening (negation c) = not-bracket-opening (negation c)
  negation-opening (all_of cs) = not-bracket-opening (all_of cs)
  negation-opening (any_of cs) = not-bracket-opening (any_of cs)

  -- a part of a conjunction
  tight-opening : (c : Cond) → IsOpening (part_text 2 c (cond_text sig c))
  tight-opening (amounts m s n) = (amounts-opening m s n).plain
  tight-opening (same a b) = (same-opening a b).plain
  tight-opening (less a b) = (less-opening a b).plain
  tight-opening (free a b) = (free-opening a b).plain
  tight-opening (of_kind a k) = (kind-opening a k).plain
  tight-opening (headed a f) = (head-opening a f).plain
  tight-opening (negation c) = negation-opening c
  tight-opening (all_of cs) = bracket-opening (all_of cs)
  tight-opening (any_of cs) = bracket-opening (any_of cs)

  conjunction-opening : (cs : Conds) → Opens (all_of cs) → IsOpening (cond_text sig (all_of cs))
  conjunction-opening no_conds h = absurd h
  conjunction-opening (more_conds c cs) h =
      opening-append (part_text 2 c (cond_text sig c)) (preceded (codes " and ") (part_texts sig 2 cs))
      (tight-opening c)

  -- a part of a disjunction
  loose-opening : (c : Cond) → IsFilled c → IsOpening (part_text 1 c (cond_text sig c))
  loose-opening (amounts m s n) h = (amounts-opening m s n).plain
  loose-opening (same a b) h = (same-opening a b).plain
  loose-opening (less a b) h = (less-opening a b).plain
  loose-opening (free a b) h = (free-opening a b).plain
  loose-opening (of_kind a k) h = (kind-opening a k).plain
  loose-opening (headed a f) h = (head-opening a f).plain
  loose-opening (negation c) h = negation-opening c
  loose-opening (all_of no_conds) h = absurd h
  loose-opening (all_of (more_conds c cs)) h = conjunction-opening (more_conds c cs) tt
  loose-opening (any_of cs) h = bracket-opening (any_of cs)

  disjunction-opening : (cs : Conds) → Opens (any_of cs) → IsOpening (cond_text sig (any_of cs))
  disjunction-opening no_conds h = absurd h
  disjunction-opening (more_conds c cs) h =
      opening-append (part_text 1 c (cond_text sig c)) (preceded (codes " or ") (part_texts sig 1 cs))
      (loose-opening c h)

  -- the text of a condition
  pub cond-opening : (c : Cond) → Opens c → IsOpening (cond_text sig c)
  cond-opening (amounts m s n) h = (amounts-opening m s n).plain
  cond-opening (same a b) h = (same-opening a b).plain
  cond-opening (less a b) h = (less-opening a b).plain
  cond-opening (free a b) h = (free-opening a b).plain
  cond-opening (of_kind a k) h = (kind-opening a k).plain
  cond-opening (headed a f) h = (head-opening a f).plain
  cond-opening (negation c) h = negation-opening c
  cond-opening (all_of cs) h = conjunction-opening cs h
  cond-opening (any_of cs) h = disjunction-opening cs h
