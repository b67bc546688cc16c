-- Items behind blanks are read of a text in one way.
use Rattle.std.proofs.Common.{Bool, true, false, length}
use Rattle.std.proofs.Common.{◌≡◌, ◌++◌, ℕ, List, [], ◌∷◌, inl, inr, refl, sym, ap, subst, ◌∙◌, append_assoc}
use Rattle.std.specs.Prelude.{codes, map, nat_eq}
use Rattle.std.proofs.lemmas.Bool.{eqb-true}
use Rattle.std.proofs.lemmas.List.{nil_from_length, append-nil}
use Rattle.mp_io.specs.Devices.{Text}
use Rattle.mp_print.specs.Printing.{preceded}
use Rattle.mp_line.specs.Finds.{IsOnly}
use Rattle.mp_line.specs.LineTexts.{AreItemsText}
use Rattle.mp_line.specs.Words.{IsWithout, IsWordEnd, IsFirstWord, IsBlankWord}
use Rattle.mp_line.proofs.WordLaws.{without-first, without-rest}

-- ---- the first word

-- what begins behind a word begins with a blank
end-blank : (c : ℕ) (cs : Text) → IsWordEnd (c ∷ cs) → c ≡ 32
end-blank c cs (inl e) = absurd cc
end-blank c cs (inr h) = (let e = h.1 in cc)

-- two words that end where a blank or nothing follows are one
first_words : (w r x s : Text) → w ++ r ≡ x ++ s → IsWithout 32 w → IsWithout 32 x → IsWordEnd r → IsWordEnd s
    → (w ≡ x) × (r ≡ s)
first_words [] r [] s e v u p q = (refl, e)
first_words [] r (c ∷ x) s e v u p q = absurd (without-first 32 c x u (end-blank c (x ++ s) (subst IsWordEnd e p)))
first_words (c ∷ w) r [] s e v u p q = absurd (without-first 32 c w v (end-blank c (w ++ r) (subst IsWordEnd
    (sym e) q)))
first_words (c ∷ w) r (d ∷ x) s e v u p q =
    let here : c ≡ d = cc in
    let rest : w ++ r ≡ x ++ s = cc in
    let h = first_words w r x s rest (without-rest 32 c w v) (without-rest 32 d x u) p q in
    let front = h.0 in
    (cc, h.1)

-- a text begins with one word
pub first_word-only : (t w r x s : Text) → IsFirstWord t w r → IsFirstWord t x s → (w ≡ x) × (r ≡ s)
first_word-only t w r x s h g = first_words w r x s (sym h.parts ∙ g.parts) h.bare g.bare h.ends g.ends

-- so does one that begins with a blank
pub blank_word-only : (t w r x s : Text) → IsBlankWord t w r → IsBlankWord t x s → (w ≡ x) × (r ≡ s)
blank_word-only t w r x s h g =
    let same : h.rest ≡ g.rest = (let a = h.blank in let b = g.blank in cc) in
    first_word-only g.rest w r x s (subst (λ u. IsFirstWord u w r) same h.first) g.first

-- the word behind the blank is found
pub blank_word-found : (t rest w r : Text) → t ≡ 32 ∷ rest → IsFirstWord rest w r
    → IsOnly (λ (p : Text × Text). IsBlankWord t p.0 p.1) (w, r)
blank_word-found t rest w r e first =
    let here : IsBlankWord t w r = record { rest = rest; blank = e; first = first } in
    record {
      is = here;
      only = λ p h. (
          let same = blank_word-only t p.0 p.1 w r h here in
          ap (λ x. (x, p.1)) same.0 ∙ ap (λ y. (w, y)) same.1
          );
    }

-- ---- what is left of a text

-- a text of some length is not empty
pub not-empty : (t : Text) (b : Bool) → b ≡ nat_eq (length t) 0 → b ≡ false → t ≡ [] → ⊥
not-empty t b e other none =
    let wrong : true ≡ false = sym (e ∙ ap (λ x. nat_eq (length x) 0) none) ∙ other in cc

-- one of no length is
pub is-empty : (t : Text) (b : Bool) → b ≡ nat_eq (length t) 0 → b ≡ true → t ≡ []
is-empty t b e here = nil_from_length t (eqb-true (length t) 0 (sym e ∙ here))

-- ---- items

-- what is read of the front of a text: with what is read of the rest, it is what is read of all of it
pub record IsFrontOf {A : Type 0} (IsItem : A → Type 0) (printed : A → Text) (text rest : Text) (front : List A)
    : Type 0 where
  pub back : (more : List A) → AreItemsText IsItem printed rest more → AreItemsText IsItem printed text (front ++ more)
  pub on : (all : List A) → AreItemsText IsItem printed text all
      → (more : List A) × (all ≡ front ++ more) × AreItemsText IsItem printed rest more

module _ {A : Type 0} (IsItem : A → Type 0) (printed : A → Text) (bare : (a : A) → IsItem a
    → IsWithout 32 (printed a)) where
  -- items stop, or go on with a blank
  pub items-end : (items : List A) → IsWordEnd (preceded (codes " ") (map printed items))
  items-end [] = inl refl
  items-end (a ∷ items) = inr (printed a ++ preceded (codes " ") (map printed items), refl)

  -- the first of some items is the word behind the first blank
  pub items-first : (text word behind : Text) (items : List A) → IsBlankWord text word behind
      → AreItemsText IsItem printed text items
      → (a : A) × (more : List A) × (items ≡ a ∷ more) × IsItem a × (printed a ≡ word)
      × AreItemsText IsItem printed behind more
  items-first text word behind [] h g = absurd (let e = g.spelled in let f = h.blank in cc)
  items-first text word behind (a ∷ more) h g =
      let first : IsBlankWord text (printed a) (preceded (codes " ") (map printed more)) = record {
        rest = printed a ++ preceded (codes " ") (map printed more);
        blank = sym g.spelled;
        first = record { parts = refl; bare = bare a g.right.0; ends = items-end more };
      } in
      let same = blank_word-only text (printed a) (preceded (codes " ") (map printed more)) word behind first h in
      (a, more, refl, g.right.0, same.0, record { right = g.right.1; spelled = same.1 })

  -- nothing is read so far
  pub front-none : (text : Text) → IsFrontOf IsItem printed text text []
  front-none text = record { back = λ more g. g; on = λ all g. (all, refl, g) }

  -- one item more
  pub front-more : (text rest word behind : Text) (front : List A) (a : A) → IsFrontOf IsItem printed text rest front
      → IsBlankWord rest word behind → IsItem a → printed a ≡ word → ((b : A) → IsItem b → printed b ≡ word → b ≡ a)
      → IsFrontOf IsItem printed text behind (front ++ a ∷ [])
  front-more text rest word behind front a h w right same only = record {
    back = λ more g. subst (AreItemsText IsItem printed text) (sym (append_assoc front (a ∷ []) more))
        (h.back (a ∷ more) (record {
          right = (right, g.right);
          spelled = ap (λ x. 32 ∷ (x ++ preceded (codes " ") (map printed more))) same
              ∙ (ap (λ x. 32 ∷ (word ++ x)) g.spelled ∙ (ap (λ x. 32 ∷ x) (sym w.first.parts) ∙ sym w.blank));
        }));
    on = λ all g. (
        let m = h.on all g in
        let f = items-first rest word behind m.0 w m.2 in (
          f.1,
          m.1 ∙ (ap (λ l. front ++ l) (f.2 ∙ ap (λ b. b ∷ f.1) (only f.0 f.3 f.4))
              ∙ sym (append_assoc front (a ∷ []) f.1)),
          f.5,
        )
        );
  }

  -- what stands next is no word behind a blank
  pub front-stuck : (text rest : Text) (front : List A) → IsFrontOf IsItem printed text rest front → (rest ≡ [] → ⊥)
      → ((word behind : Text) → IsBlankWord rest word behind → ⊥) → (all : List A)
      → AreItemsText IsItem printed text all → ⊥
  front-stuck text rest front h some none all g = (let m = h.on all g in go m.0 m.2)
    where
      go : (more : List A) → AreItemsText IsItem printed rest more → ⊥
      go [] s = some (sym s.spelled)
      go (a ∷ more) s = none (printed a) (preceded (codes " ") (map printed more)) (record {
        rest = printed a ++ preceded (codes " ") (map printed more);
        blank = sym s.spelled;
        first = record { parts = refl; bare = bare a s.right.0; ends = items-end more };
      })

  -- the word that stands next is no item
  pub front-other : (text rest word behind : Text) (front : List A) → IsFrontOf IsItem printed text rest front
      → IsBlankWord rest word behind → ((b : A) → IsItem b → printed b ≡ word → ⊥)
      → (all : List A) → AreItemsText IsItem printed text all → ⊥
  front-other text rest word behind front h w none all g =
      let m = h.on all g in
      let f = items-first rest word behind m.0 w m.2 in
      none f.0 f.3 f.4

  -- the whole text is read
  pub front-all : (text rest : Text) (front : List A) → IsFrontOf IsItem printed text rest front → rest ≡ []
      → IsOnly (AreItemsText IsItem printed text) front
  front-all text rest front h end = record {
    is = subst (AreItemsText IsItem printed text) (append-nil front) (h.back []
        (record { right = tt; spelled = sym end }));
    only = λ all g. (let m = h.on all g in m.1 ∙ (ap (λ l. front ++ l) (empty m.0 m.2) ∙ append-nil front));
  }
    where
      empty : (more : List A) → AreItemsText IsItem printed rest more → more ≡ []
      empty [] s = refl
      empty (a ∷ more) s = absurd (let e = s.spelled in cc)
