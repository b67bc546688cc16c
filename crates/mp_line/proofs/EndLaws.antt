-- A text that ends with an end, such a byte and a word is split there in one way.
use Rattle.std.proofs.Common.{◌≡◌, ◌++◌, ℕ, ◌∷◌, sym, ap, subst, ◌∙◌, append_assoc}
use Rattle.mp_io.specs.Devices.{Text}
use Rattle.mp_line.specs.Finds.{IsOnly}
use Rattle.mp_line.specs.Words.{IsWithout, IsSplitAtLast, IsSplitBehind}
use Rattle.mp_line.proofs.WordLaws.{with-none, last-only}

module _ (end : Text) (b : ℕ) (text : Text) where
  -- the end and the word
  abbrev pub IsSplit : Text × Text → Type 0
  IsSplit p = IsSplitBehind end b text p.0 p.1

  -- the word is the last one
  behind-last : (p : Text × Text) → IsSplit p → IsSplitAtLast b text (p.0 ++ end) p.1
  behind-last p h = record { parts = h.parts ∙ sym (append_assoc p.0 end (b ∷ p.1)); last = h.last }

  -- a text without the byte doesn't end so
  pub no-behind : IsWithout b text → (p : Text × Text) → IsSplit p → ⊥
  no-behind bare p h = with-none b (p.0 ++ end) p.1 (subst (IsWithout b) (behind-last p h).parts bare)

  -- the parts of one that ends so
  pub behind-parts : (front word : Text) → IsSplitAtLast b text front word → (p : Text × Text) → IsSplit p
      → (front ≡ p.0 ++ end) × (word ≡ p.1)
  behind-parts front word split p h = last-only b text front word (p.0 ++ end) p.1 split (behind-last p h)

  -- it is found by them
  pub behind-split : (front word rest : Text) → IsSplitAtLast b text front word → IsOnly (λ r. front ≡ r ++ end) rest
      → IsOnly IsSplit (rest, word)
  behind-split front word rest split h = record {
    is = record {
      parts = split.parts ∙ (ap (λ x. x ++ b ∷ word) h.is ∙ append_assoc rest end (b ∷ word));
      last = split.last;
    };
    only = λ p o. (
        let m = behind-parts front word split p o in
        ap (λ x. (x, p.1)) (h.only p.0 m.0) ∙ ap (λ x. (rest, x)) (sym m.1)
        );
  }

-- the text ends with the value where the word stands for it
pub record Ends {A : Type 0} (end : Text) (b : ℕ) (text : Text) (IsWord IsEnd : Text → A → Type 0) : Type 0 where
  pub made : (front word : Text) (a : A) → IsSplit end b text (front, word) → IsWord word a → IsEnd front a
  pub parts : (front : Text) (a : A) → IsEnd front a
      → (word : Text) × IsSplit end b text (front, word) × IsWord word a

module _ {A : Type 0} {end : Text} {b : ℕ} {text : Text} {IsWord IsEnd : Text → A → Type 0}
    (e : Ends end b text IsWord IsEnd) where
  -- a text that isn't split ends with no value
  pub no-end : ((p : Text × Text) → IsSplit end b text p → ⊥) → (p : Text × A) → IsEnd p.0 p.1 → ⊥
  no-end none p h = (let m = e.parts p.0 p.1 h in none (p.0, m.0) m.1)

  -- nor does one whose word stands for none
  pub other-end : (front word : Text) → IsOnly (IsSplit end b text) (front, word) → ((a : A) → IsWord word a → ⊥)
      → (p : Text × A) → IsEnd p.0 p.1 → ⊥
  other-end front word split none p h =
      let m = e.parts p.0 p.1 h in
      none p.1 (subst (λ w. IsWord w p.1) (ap (λ q. q.1) (split.only (p.0, m.0) m.1)) m.2)

  -- the value of the word is found
  pub end-found : (front word : Text) (a : A) → IsOnly (IsSplit end b text) (front, word) → IsOnly (IsWord word) a
      → IsOnly (λ (p : Text × A). IsEnd p.0 p.1) (front, a)
  end-found front word a split h = record {
    is = e.made front word a split.is h.is;
    only = λ p o. (
        let m = e.parts p.0 p.1 o in
        let same = split.only (p.0, m.0) m.1 in
        ap (λ x. (x, p.1)) (ap (λ q. q.0) same)
        ∙ ap (λ x. (front, x)) (h.only p.1 (subst (λ w. IsWord w p.1) (ap (λ q. q.1) same) m.2))
        );
  }
