-- The names at the front of a token's text.
use Rattle.std.proofs.Common.{◌≡◌, ℕ, [], ◌∷◌, ◌++◌, List, true, refl, ap, sym, ◌∙◌, subst}
use Rattle.std.specs.List.{list_all}
use Rattle.std.proofs.lemmas.Bool.{and_parts}
use Rattle.mp_io.specs.Devices.{Text}
use Rattle.mp_term.specs.Names.{is_name, is_name_byte}
use Rattle.mp_term.proofs.NameLaws.{name_bytes}
use Rattle.mp_token.specs.Entry.{Entry}
use Rattle.mp_token.specs.TokenText.{entries_text, front_text}

-- a slash stands in no name
is_name_byte-slash : (b : ℕ) → is_name_byte b ≡ true → 47 ≡ b → ⊥
is_name_byte-slash b h e =
    let wrong : is_name_byte 47 ≡ true = subst (λ c. is_name_byte c ≡ true) (sym e) h in
    cc

-- before a first slash stands one text
before_slash-same : (m n xs ys : Text) → list_all is_name_byte m ≡ true → list_all is_name_byte n ≡ true
    → m ++ 47 ∷ xs ≡ n ++ 47 ∷ ys → (m ≡ n) × (xs ≡ ys)
before_slash-same [] [] xs ys p q e = (refl, cc)
before_slash-same [] (b ∷ n) xs ys p q e =
    let first : 47 ≡ b = cc in
    absurd (is_name_byte-slash b (and_parts (is_name_byte b) (list_all is_name_byte n) q).0 first)
before_slash-same (b ∷ m) [] xs ys p q e =
    let first : 47 ≡ b = cc in
    absurd (is_name_byte-slash b (and_parts (is_name_byte b) (list_all is_name_byte m) p).0 first)
before_slash-same (a ∷ m) (b ∷ n) xs ys p q e =
    let first : a ≡ b = cc in
    let behind : m ++ 47 ∷ xs ≡ n ++ 47 ∷ ys = cc in
    let rest = before_slash-same m n xs ys (and_parts (is_name_byte a) (list_all is_name_byte m) p).1
    (and_parts (is_name_byte b) (list_all is_name_byte n) q).1 behind in
    (ap (λ c. c ∷ m) first ∙ ap (λ l. b ∷ l) rest.0, rest.1)

-- the text of a token decides its names, and the text of its entries
pub front_text-same : (subject rule subject' rule' : Text) (es es' : List Entry) → is_name subject ≡ true
    → is_name rule ≡ true → is_name subject' ≡ true → is_name rule' ≡ true
    → front_text subject rule es ≡ front_text subject' rule' es'
    → (subject ≡ subject') × (rule ≡ rule') × (entries_text es ≡ entries_text es')
front_text-same subject rule subject' rule' es es' p q r s e =
    let first = before_slash-same subject subject' (rule ++ 47 ∷ entries_text es) (rule' ++ 47 ∷ entries_text es')
    (name_bytes subject p) (name_bytes subject' r) e in
    let second = before_slash-same rule rule' (entries_text es) (entries_text es') (name_bytes rule q)
    (name_bytes rule' s) first.1 in
    (first.0, second.0, second.1)
