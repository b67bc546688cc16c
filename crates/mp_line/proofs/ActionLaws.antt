-- A text ends with an action in one way.
use Rattle.std.proofs.Common.{◌≡◌, ◌≢◌, ◌<◌, ◌≤◌, ◌^◌, ◌++◌, ℕ, zero, suc, true, false, List, [], ◌∷◌}
use Rattle.std.proofs.Common.{Option}
use Rattle.std.proofs.Common.{Some, None, length, drop, map, refl, sym, ap, subst, ◌∙◌, arith}
use Rattle.std.proofs.Common.{append_assoc}
use Rattle.std.specs.Prelude.{codes, decimal, not, ◌&&◌, ◌||◌, nat_eq}
use Rattle.std.specs.List.{list_all, AllByRecursion}
use Rattle.std.specs.Char.{is_ascii_digit}
use Rattle.std.proofs.lemmas.Bool.{and_parts, ne_eqb}
use Rattle.std.proofs.lemmas.List.{same_from_push, append-nil}
use Rattle.std.proofs.lemmas.List.Folds.{list_all-append}
use Rattle.mp_io.specs.Devices.{Text}
use Rattle.mp_print.specs.Printing.{preceded}
use Rattle.mp_program.specs.FormText.{action_text}
use Rattle.mp_program.specs.RightForm.{IsShort, IsRightAction, are_ascending}
use Rattle.mp_line.specs.Finds.{IsOnly}
use Rattle.mp_line.specs.LineTexts.{IsNumberText, AreNumbersText, are_accepted, AreAcceptedText}
use Rattle.mp_line.specs.LineTexts.{IsActionText}
use Rattle.mp_line.specs.Words.{is_digit_or_blank, IsBeforeNumbers}
use Rattle.mp_line.proofs.EndLaws.{Ends}
use Rattle.mp_line.proofs.NumberLaws.{decimal-text, bare-decimal}

-- ---- digits and blanks at the end

-- the last byte is no digit and no blank
abbrev Stops : Text → Type 0
Stops front = (before : Text) (c : ℕ) → front ≡ before ++ c ∷ [] → is_digit_or_blank c ≡ false

-- nor is that of what stands behind the first byte
stops-rest : (c : ℕ) (cs : Text) → Stops (c ∷ cs) → Stops cs
stops-rest c cs h before d e = h (c ∷ before) d (ap (λ t. c ∷ t) e)

-- so digits and blanks alone are no such text, unless it is empty
not-stops : (c : ℕ) (cs : Text) → list_all is_digit_or_blank (c ∷ cs) ≡ true → Stops (c ∷ cs) → ⊥
not-stops c [] all h =
    let p = and_parts (is_digit_or_blank c) true all in
    let wrong : true ≡ false = sym p.0 ∙ h [] c refl in cc
not-stops c (d ∷ cs) all h =
    not-stops d cs (and_parts (is_digit_or_blank c) (list_all is_digit_or_blank (d ∷ cs)) all).1 (stops-rest c
    (d ∷ cs) h)

-- of digits and blanks each front is such
all-front : (x y : Text) → list_all is_digit_or_blank (x ++ y) ≡ true → list_all is_digit_or_blank x ≡ true
all-front x y h = (and_parts (list_all is_digit_or_blank x) (list_all is_digit_or_blank y)
    (sym (list_all-append is_digit_or_blank x y) ∙ h)).0

-- two ways to cut a text before the digits and blanks at its end are one
one_split : (f d g e : Text) → f ++ d ≡ g ++ e → list_all is_digit_or_blank d ≡ true
    → list_all is_digit_or_blank e ≡ true → Stops f → Stops g → (f ≡ g) × (d ≡ e)
one_split [] d [] e same p q s t = (refl, same)
one_split [] d (c ∷ g) e same p q s t =
    absurd (not-stops c g (all-front (c ∷ g) e (subst (λ x. list_all is_digit_or_blank x ≡ true) same p)) t)
one_split (c ∷ f) d [] e same p q s t =
    absurd (not-stops c f (all-front (c ∷ f) d (subst (λ x. list_all is_digit_or_blank x ≡ true) (sym same) q)) s)
one_split (c ∷ f) d (b ∷ g) e same p q s t =
    let here : c ≡ b = cc in
    let rest : f ++ d ≡ g ++ e = cc in
    let h = one_split f d g e rest p q (stops-rest c f s) (stops-rest b g t) in
    let front = h.0 in
    (cc, h.1)

-- so one text has one front before these
pub before_numbers-only : (t f d g e : Text) → IsBeforeNumbers t f d → IsBeforeNumbers t g e → (f ≡ g) × (d ≡ e)
before_numbers-only t f d g e h k = one_split f d g e (sym h.parts ∙ k.parts) h.only k.only h.last k.last

-- ---- the numbers of an action

-- a digit is a digit or a blank
digit-or-blank : (c : ℕ) → is_ascii_digit c ≡ true → is_digit_or_blank c ≡ true
digit-or-blank c h = ap (λ v. v || nat_eq c 32) h

-- so are digits
digits-or-blanks : (ds : Text) → list_all is_ascii_digit ds ≡ true → list_all is_digit_or_blank ds ≡ true
digits-or-blanks [] h = refl
digits-or-blanks (d ∷ ds) h =
    let p = and_parts (is_ascii_digit d) (list_all is_ascii_digit ds) h in
    ap (λ v. v && list_all is_digit_or_blank ds) (digit-or-blank d p.0) ∙ digits-or-blanks ds p.1

-- the text of numbers is digits and blanks
numbers-alone : (ns : List ℕ) → AllByRecursion IsShort ns
    → list_all is_digit_or_blank (preceded (codes " ") (map decimal ns)) ≡ true
numbers-alone [] h = refl
numbers-alone (n ∷ ns) h =
    let short : n < 2 ^ 32 = h.0 in
    list_all-append is_digit_or_blank (decimal n) (preceded (codes " ") (map decimal ns))
    ∙ (ap (λ v. v && list_all is_digit_or_blank (preceded (codes " ") (map decimal ns)))
    (digits-or-blanks (decimal n) (decimal-text n (omega arith)).are_digits) ∙ numbers-alone ns h.1)

-- the word of an action
abbrev action_word : Option ℕ → Text
action_word None = codes " accept"
action_word (Some n) = codes " down"

-- its numbers
abbrev action_numbers : Option ℕ → List ℕ → List ℕ
action_numbers None rules = rules
action_numbers (Some n) rules = n ∷ []

-- the text of an action is its word and its numbers
action-spelling : (front : Text) (down : Option ℕ) (rules : List ℕ) → front ++ (codes " " ++ action_text down rules)
    ≡ (front ++ action_word down) ++ preceded (codes " ") (map decimal (action_numbers down rules))
action-spelling front None rules =
    sym (append_assoc front (codes " accept") (preceded (codes " ") (map decimal rules)))
action-spelling front (Some n) rules =
    ap (λ x. front ++ (codes " down " ++ x)) (sym (append-nil (decimal n)))
    ∙ sym (append_assoc front (codes " down") (codes " " ++ (decimal n ++ [])))

-- the word of an action ends with a letter
word-stops : (front : Text) (down : Option ℕ) → Stops (front ++ action_word down)
word-stops front None before c e =
    subst (λ b. is_digit_or_blank b ≡ false)
    (same_from_push (front ++ codes " accep") before 116 c (append_assoc front (codes " accep") (codes "t") ∙ e)).1 refl
word-stops front (Some n) before c e =
    subst (λ b. is_digit_or_blank b ≡ false)
    (same_from_push (front ++ codes " dow") before 110 c (append_assoc front (codes " dow") (codes "n") ∙ e)).1 refl

-- the numbers of an action have 32 bits
shorts : (down : Option ℕ) (rules : List ℕ) → IsRightAction down rules → AllByRecursion IsShort
    (action_numbers down rules)
shorts None rules h = h.2
shorts (Some n) rules h = (h.0, tt)

-- no text ends with both words
pub words-differ : (x y : Text) → x ++ codes " down" ≡ y ++ codes " accept" → ⊥
words-differ x y e =
    let same = same_from_push (x ++ codes " dow") (y ++ codes " accep") 110 116
    (append_assoc x (codes " dow") (codes "n") ∙ (e ∙ sym (append_assoc y (codes " accep") (codes "t")))) in
    omega (arith, same.1)

-- what stands before the numbers of an action
action-split : (text front : Text) (down : Option ℕ) (rules : List ℕ) → IsActionText text front down rules
    → IsBeforeNumbers text (front ++ action_word down) (preceded (codes " ") (map decimal (action_numbers down rules)))
action-split text front down rules h = record {
  parts = sym h.spelled ∙ action-spelling front down rules;
  only = numbers-alone (action_numbers down rules) (shorts down rules h.right);
  last = word-stops front down;
}

module _ (text before digits : Text) (split : IsBeforeNumbers text before digits) where
  -- what stands before the numbers of an action, and they
  pub action-parts : (front : Text) (down : Option ℕ) (rules : List ℕ) → IsActionText text front down rules
      → (before ≡ front ++ action_word down) × AreNumbersText digits (action_numbers down rules)
  action-parts front down rules h =
      let short = shorts down rules h.right in
      let same = before_numbers-only text before digits (front ++ action_word down)
      (preceded (codes " ") (map decimal (action_numbers down rules))) split (action-split text front down rules h) in
      (same.0, record { right = short; spelled = sym same.1 })

  -- the action of its word and its numbers
  action-made : (front : Text) (down : Option ℕ) (rules : List ℕ) → before ≡ front ++ action_word down
      → preceded (codes " ") (map decimal (action_numbers down rules)) ≡ digits → IsRightAction down rules
      → IsActionText text front down rules
  action-made front down rules word spelled right = record {
    right = right;
    spelled = action-spelling front down rules
        ∙ (ap (λ t. t ++ preceded (codes " ") (map decimal (action_numbers down rules))) (sym word)
        ∙ (ap (λ t. before ++ t) spelled ∙ sym split.parts));
  }

  -- without one that leads down, and without the other word, there is no action
  pub no-word : ((p : Text × ℕ) → IsActionText text p.0 (Some p.1) [] → ⊥)
      → ((rest : Text) → before ≡ rest ++ codes " accept" → ⊥) → (p : Text × (Option ℕ × List ℕ))
      → IsActionText text p.0 p.1.0 p.1.1 → ⊥
  no-word down accept p h = go p.0 p.1.0 p.1.1 h
    where
      go : (front : Text) (d : Option ℕ) (rules : List ℕ) → IsActionText text front d rules → ⊥
      go front None rules h = accept front (action-parts front None rules h).0
      go front (Some n) rules h = down (front, n) (record { right = (h.right.0, refl); spelled = h.spelled })

  module _ (token : Text) where
    -- behind `accept` there are rules
    accepted-rules : before ≡ token ++ codes " accept" → (front : Text) (d : Option ℕ) (rules : List ℕ)
        → IsActionText text front d rules → (d ≡ None) × AreAcceptedText digits rules
    accepted-rules is front None rules h =
        (refl, record { right = h.right; spelled = (action-parts front None rules h).1.spelled })
    accepted-rules is front (Some n) rules h =
        absurd (words-differ front token (sym (action-parts front (Some n) rules h).0 ∙ is))

    -- the token of an action is what stands before the word
    accept-token : IsOnly (λ rest. before ≡ rest ++ codes " accept") token → (front : Text) (d : Option ℕ)
        (rules : List ℕ) → IsActionText text front d rules → front ≡ token
    accept-token h front None rules a = h.only front (action-parts front None rules a).0
    accept-token h front (Some n) rules a =
        absurd (words-differ front token (sym (action-parts front (Some n) rules a).0 ∙ h.is))

    module _ (h : IsOnly (λ rest. before ≡ rest ++ codes " accept") token) where
      -- behind `accept` it is found by its rules
      pub accept-found : (rules : List ℕ) → IsOnly (AreAcceptedText digits) rules
          → IsOnly (λ (p : Text × (Option ℕ × List ℕ)). IsActionText text p.0 p.1.0 p.1.1) (token, (None, rules))
      accept-found rules accepts = record {
        is = action-made token None rules h.is accepts.is.spelled accepts.is.right;
        only = λ p a. (
            let d = accepted-rules h.is p.0 p.1.0 p.1.1 a in
            ap (λ t. (t, p.1)) (accept-token h p.0 p.1.0 p.1.1 a)
            ∙ (ap (λ x. (token, (x, p.1.1))) d.0 ∙ ap (λ x. (token, (None, x))) (accepts.only p.1.1 d.1))
            );
      }

      -- without rules there is none
      pub no-accept : ((rules : List ℕ) → AreAcceptedText digits rules → ⊥) → (p : Text × (Option ℕ × List ℕ))
          → IsActionText text p.0 p.1.0 p.1.1 → ⊥
      no-accept none p a = none p.1.1 (accepted-rules h.is p.0 p.1.0 p.1.1 a).1

-- ---- one number

module _ (text : Text) where
  -- the action that leads down
  abbrev pub IsLed : Text × ℕ → Type 0
  IsLed p = IsActionText text p.0 (Some p.1) []

  -- it ends with `down` and its number
  pub led-ends : Ends (codes " down") 32 text IsNumberText (λ front n. IsLed (front, n))
  led-ends = record {
    made = λ front word n split h. record {
      right = (h.short, refl);
      spelled = ap (λ x. front ++ (codes " down" ++ 32 ∷ x)) h.text ∙ sym split.parts;
    };
    parts = λ front n h. (
      decimal n,
      record { parts = sym h.spelled; last = bare-decimal n h.right.0 },
      record { short = h.right.0; text = refl },
    );
  }

  -- and is the only action then
  pub led-through : (token : Text) (n : ℕ) (accepts : List ℕ) → IsOnly IsLed (token, n) → accepts ≡ []
      → IsOnly (λ (p : Text × (Option ℕ × List ℕ)). IsActionText text p.0 p.1.0 p.1.1) (token, (Some n, accepts))
  led-through token n accepts h none = record {
    is = record { right = (h.is.right.0, none); spelled = h.is.spelled };
    only = λ p a. go p.0 p.1.0 p.1.1 a;
  }
    where
      go : (front : Text) (d : Option ℕ) (rules : List ℕ) → IsActionText text front d rules
          → ◌≡◌ {A = Text × (Option ℕ × List ℕ)} (front, (d, rules)) (token, (Some n, accepts))
      go front None rules a = absurd (words-differ token front (action-parts text (token ++ codes " down")
          (preceded (codes " ") (map decimal (n ∷ []))) (action-split text token (Some n) [] h.is)
          front None rules a).0)
      go front (Some m) rules a =
          ap (λ (x : Text × ℕ). (x.0, (Some x.1, rules)))
          (h.only (front, m) (record { right = (a.right.0, refl); spelled = a.spelled }))
          ∙ ap (λ x. (token, (Some n, x))) (a.right.1 ∙ sym none)

-- ---- rules

-- a number that is accepted is behind a blank
pub accepted-numbers : (text : Text) (rules : List ℕ) → AreAcceptedText text rules → AreNumbersText text rules
accepted-numbers text rules h = record { right = h.right.2; spelled = h.spelled }

module _ (text : Text) (ns : List ℕ) (h : IsOnly (AreNumbersText text) ns) where
  -- some ascending numbers are accepted
  pub rules-accepted : are_accepted ns ≡ true → IsOnly (AreAcceptedText text) ns
  rules-accepted test =
      let t = and_parts (not (nat_eq (length ns) 0)) (are_ascending ns) test in
      record {
        is = record { right = (some ns t.0, t.1, h.is.right); spelled = h.is.spelled };
        only = λ rules a. h.only rules (accepted-numbers text rules a);
      }
    where
      some : (ns : List ℕ) → not (nat_eq (length ns) 0) ≡ true → ns ≢ []
      some [] t e = (let wrong : false ≡ true = t in cc)
      some (n ∷ ns) t e = absurd cc

  -- and no others are
  pub no-rules : are_accepted ns ≡ false → (rules : List ℕ) → AreAcceptedText text rules → ⊥
  no-rules test rules a =
      let same : rules ≡ ns = h.only rules (accepted-numbers text rules a) in
      let wrong : true ≡ false = sym (go rules a.right.0 a.right.1) ∙ (ap are_accepted same ∙ test) in cc
    where
      go : (ns : List ℕ) → ns ≢ [] → are_ascending ns ≡ true → are_accepted ns ≡ true
      go [] some up = absurd (some refl)
      go (n ∷ ns) some up =
          ap (λ v. not v && are_ascending (n ∷ ns)) (ne_eqb (length (n ∷ ns)) 0 (λ e. omega arith)) ∙ up

-- ---- ascending numbers

-- one number ascends, and none does
pub ascending-end : (s : List ℕ) (j : ℕ) → length s ≤ suc j → are_ascending (drop j s) ≡ true
ascending-end [] zero h = refl
ascending-end [] (suc j) h = refl
ascending-end (n ∷ []) zero h = refl
ascending-end (n ∷ m ∷ s) zero h = absurd (omega arith)
ascending-end (n ∷ s) (suc j) h = ascending-end s j (omega arith)
