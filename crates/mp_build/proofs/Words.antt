-- A word that isn't long is the spelling of a name, and back, and a sign that isn't long that of a sign.
use Rattle.std.proofs.Common.{◌≡◌, ◌≢◌, ℕ, ◌≤◌, Bool, true, false, ◌&&◌, ◌||◌, List, [], ◌∷◌, length, leb, refl, ◌∙◌}
use Rattle.std.proofs.Common.{sym, arith, rules}
use Rattle.std.specs.List.{list_all}
use Rattle.std.specs.Prelude.{not, codes}
use Rattle.std.proofs.lemmas.Slice.Eq.{bytes_eq-Decides}
use Rattle.std.proofs.lemmas.Bool.{and_from, and_parts, leb-true}
use Rattle.mp_term.specs.Names.{is_name, is_name_byte, is_arrow, is_sign, is_sign_byte}
use Rattle.mp_term.specs.declared.limits.TheConstants.{MAX_NAME_BYTES}
use Rattle.mp_parser.specs.Tokens as tokens
use Rattle.mp_parser.specs.Tokens.{is_word_byte}
use Rattle.mp_parser.specs.Syntax.{IsName, IsInfixSign}
use Rattle.mp_parser.proofs.ListLaws.{all-implied}

-- the three ranges in either grouping
or-grouped : (a b c : Bool) → ((a || b) || c) ≡ (a || (b || c))
or-grouped true b c = refl
or-grouped false b c = refl

-- the first test holds where both do
pub first-of : (a b : Bool) → (a && b) ≡ true → a ≡ true
first-of true b h = refl
first-of false b h = h

-- the second test holds where both do
pub second-of : (a b : Bool) → (a && b) ≡ true → b ≡ true
second-of true b h = h
second-of false b h = cc

-- a byte of words is a byte of names
is_name_byte-word : (b : ℕ) → is_word_byte b ≡ true → is_name_byte b ≡ true
is_name_byte-word b h = sym (or-grouped (leb 48 b && leb b 57) (leb 65 b && leb b 90) (leb 97 b && leb b 122)) ∙ h

-- a list that isn't empty has one item at least
some-item : (word : List ℕ) → word ≢ [] → leb 1 (length word) ≡ true
some-item [] h = absurd (h refl)
some-item (b ∷ bs) h = search rules

-- a word is a name
pub is_name-IsName : (word : List ℕ) → IsName word → is_name word ≡ true
is_name-IsName word h =
    let small : length word ≤ MAX_NAME_BYTES = h.is_short in
    and_from (leb 1 (length word) && leb (length word) MAX_NAME_BYTES) (list_all is_name_byte word)
    (and_from (leb 1 (length word)) (leb (length word) MAX_NAME_BYTES) (some-item word h.is_word.some)
    (search (rules, small))) (all-implied is_word_byte is_name_byte is_name_byte-word word h.is_word.bytes)

-- a byte of names is a byte of words
word-is_name_byte : (b : ℕ) → is_name_byte b ≡ true → is_word_byte b ≡ true
word-is_name_byte b h = or-grouped (leb 48 b && leb b 57) (leb 65 b && leb b 90) (leb 97 b && leb b 122) ∙ h

some-bytes : (word : List ℕ) → leb 1 (length word) ≡ true → word ≢ []
some-bytes [] h e = absurd (omega (arith, leb-true 1 0 h))
some-bytes (b ∷ bs) h e = cc

-- and a name is a word
pub IsName-is_name : (word : List ℕ) → is_name word ≡ true → IsName word
IsName-is_name word h =
    let p = and_parts (leb 1 (length word) && leb (length word) MAX_NAME_BYTES) (list_all is_name_byte word) h in
    let q = and_parts (leb 1 (length word)) (leb (length word) MAX_NAME_BYTES) p.0 in
    record {
      is_word =
          record {
            some = some-bytes word q.0;
            bytes = all-implied is_name_byte is_word_byte word-is_name_byte word p.1;
          };
      is_short = leb-true (length word) MAX_NAME_BYTES q.1;
    }

-- another text than the arrow
not_arrow : (sign : List ℕ) → sign ≢ codes "->" → not (is_arrow sign) ≡ true
not_arrow sign h = go (is_arrow sign) refl
  where
    go : (b : Bool) → is_arrow sign ≡ b → not b ≡ true
    go true e = absurd (h ((bytes_eq-Decides sign (codes "->")).0 e))
    go false e = refl

-- a sign that isn't long is the spelling of one
pub is_sign-IsInfixSign : (sign : List ℕ) → IsInfixSign sign → length sign ≤ 4 → is_sign sign ≡ true
is_sign-IsInfixSign sign h short =
    and_from ((leb 1 (length sign) && leb (length sign) 4) && not (is_arrow sign)) (list_all is_sign_byte sign)
    (and_from (leb 1 (length sign) && leb (length sign) 4) (not (is_arrow sign))
    (and_from (leb 1 (length sign)) (leb (length sign) 4) (some-item sign h.is_sign.some) (search (rules, short)))
    (not_arrow sign h.no_arrow))
    (all-implied tokens.is_sign_byte is_sign_byte (λ _ e. e) sign h.is_sign.bytes)

-- and the spelling of a sign is one
pub IsInfixSign-is_sign : (sign : List ℕ) → is_sign sign ≡ true → IsInfixSign sign
IsInfixSign-is_sign sign h =
    let length_fits = leb 1 (length sign) && leb (length sign) 4 in
    let p = and_parts (length_fits && not (is_arrow sign)) (list_all is_sign_byte sign) h in
    let q = and_parts length_fits (not (is_arrow sign)) p.0 in
    let r = and_parts (leb 1 (length sign)) (leb (length sign) 4) q.0 in
    record {
      is_sign = record {
        some = some-bytes sign r.0;
        bytes = all-implied is_sign_byte tokens.is_sign_byte (λ _ e. e) sign p.1;
      };
      no_arrow = λ e. arrow-not sign e q.1;
    }
  where
    arrow-not : (sign : List ℕ) → sign ≡ codes "->" → not (is_arrow sign) ≡ true → ⊥
    arrow-not sign e k = let arrow = (bytes_eq-Decides sign (codes "->")).1 e in cc
