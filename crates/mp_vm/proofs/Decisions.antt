-- What is decided: a value is given, or there is none.
use Rattle.std.proofs.Common.{◌≡◌, ◌<◌, ◌≤◌, ℕ, zero, suc, Bool, true, false, List, [], ◌∷◌, ◌++◌, map, length, Option}
use Rattle.std.proofs.Common.{Some, None, inl, inr, refl, ap, sym, ◌∙◌, subst, arith, length-append}
use Rattle.std.specs.Prelude.{◌⊎◌, bytes_eq, codes}
use Rattle.std.specs.List.{AllByRecursion}
use Rattle.std.proofs.lemmas.Bool.{cases_lt}
use Rattle.std.proofs.lemmas.Slice.Eq.{bytes_eq-Decides}
use Rattle.mp_io.specs.Devices.{Text}
use Rattle.mp_print.specs.Printing.{preceded}
use Rattle.mp_line.specs.Finds.{Finds}

-- it is so, or it isn't
abbrev pub Decided : Type 0 → Type 0
Decided P = P ⊎ (P → ⊥)

-- ---- facts

pub decided-by : {P Q : Type 0} → (P → Q) → (Q → P) → Decided P → Decided Q
decided-by there back (inl p) = inl (there p)
decided-by there back (inr never) = inr (λ q. never (back q))

pub decided-both : {P Q : Type 0} → Decided P → Decided Q → Decided (P × Q)
decided-both (inl p) (inl q) = inl (p, q)
decided-both (inl p) (inr never) = inr (λ h. never h.1)
decided-both (inr never) d = inr (λ h. never h.0)

pub decided-not : {P : Type 0} → Decided P → Decided (P → ⊥)
decided-not (inl p) = inr (λ never. never p)
decided-not (inr never) = inl never

pub decided-true : (b : Bool) → Decided (b ≡ true)
decided-true true = inl refl
decided-true false = inr (λ e. cc)

pub decided-either : {P Q : Type 0} → Decided P → Decided Q → Decided (P ⊎ Q)
decided-either (inl p) d = inl (inl p)
decided-either (inr never) (inl q) = inl (inr q)
decided-either {P = P} {Q = Q} (inr never) (inr none) = inr none_of
  where
    none_of : P ⊎ Q → ⊥
    none_of (inl p) = never p
    none_of (inr q) = none q

-- ---- numbers and texts

pub decided-less : (m n : ℕ) → Decided (m < n)
decided-less m n = go (cases_lt m n)
  where
    go : (m < n) ⊎ (n ≤ m) → Decided (m < n)
    go (inl less) = inl less
    go (inr most) = inr (λ less. absurd (omega (arith, less, most)))

pub decided-most : (m n : ℕ) → Decided (m ≤ n)
decided-most m n = go (cases_lt n m)
  where
    go : (n < m) ⊎ (m ≤ n) → Decided (m ≤ n)
    go (inl less) = inr (λ most. absurd (omega (arith, less, most)))
    go (inr most) = inl most

pub decided-text : (s t : Text) → Decided (s ≡ t)
decided-text s t = go (bytes_eq s t) refl
  where
    go : (b : Bool) → bytes_eq s t ≡ b → Decided (s ≡ t)
    go true e = inl ((bytes_eq-Decides s t).0 e)
    go false e = inr (λ same. let wrong : false ≡ true = sym e ∙ (bytes_eq-Decides s t).1 same in cc)

-- a list has no item
pub decided-empty : {A : Type 0} (xs : List A) → Decided (xs ≡ [])
decided-empty [] = inl refl
decided-empty (x ∷ xs) = inr (λ e. cc)

pub decided-all : {A : Type 0} (P : A → Type 0) → ((a : A) → Decided (P a)) → (xs : List A)
    → Decided (AllByRecursion P xs)
decided-all P d [] = inl tt
decided-all P d (x ∷ xs) = decided-both (d x) (decided-all P d xs)

-- ---- values

-- what is found is a value, or there is none
pub decided-found : {A : Type 0} (P : A → Type 0) (o : Option A) → Finds (λ a. a) P o → Decided ((a : A) × P a)
decided-found P None h = inr (λ k. h k.0 k.1)
decided-found P (Some a) h = inl (a, h.is)

-- a value of which one more fact holds, where there is one value at most
pub decided-only : {A : Type 0} (P Q : A → Type 0) → ((a b : A) → P a → P b → a ≡ b) → ((a : A) → Decided (Q a))
    → Decided ((a : A) × P a) → Decided ((a : A) × P a × Q a)
decided-only {A = A} P Q one d (inr never) = inr (λ h. never (h.0, h.1))
decided-only {A = A} P Q one d (inl k) = go (d k.0)
  where
    go : Decided (Q k.0) → Decided ((a : A) × P a × Q a)
    go (inl q) = inl (k.0, k.1, q)
    go (inr never) = inr (λ h. never (subst Q (one h.0 k.0 h.1 k.1) h.2))

-- a number below a bound
pub decided-below : (P : ℕ → Type 0) → ((n : ℕ) → Decided (P n)) → (m : ℕ) → Decided ((n : ℕ) × (n < m) × P n)
decided-below P d zero = inr (λ h. let less = h.1 in absurd (omega (arith, less)))
decided-below P d (suc m) = go (decided-below P d m) (d m)
  where
    at : (n : ℕ) → n < suc m → P n → (P m → ⊥) → (n < m) ⊎ (m ≤ n) → n < m
    at n less p never (inl is) = is
    at n less p never (inr most) = absurd (never (subst P (omega (arith, less, most)) p))

    go : Decided ((n : ℕ) × (n < m) × P n) → Decided (P m) → Decided ((n : ℕ) × (n < suc m) × P n)
    go (inl h) d = inl (h.0, (let less = h.1 in omega (arith, less)), h.2)
    go (inr none) (inl p) = inl (m, omega arith, p)
    go (inr none) (inr never) = inr (λ h. none (h.0, at h.0 h.1 h.2 never (cases_lt h.0 m), h.2))

-- ---- parts of a text

-- a text is two parts of which this holds
abbrev pub InParts : (Text → Text → Type 0) → Text → Type 0
InParts P t = (a : Text) × (b : Text) × (t ≡ a ++ b) × P a b

pub decided-parts : (P : Text → Text → Type 0) (t : Text) → ((a b : Text) → t ≡ a ++ b → Decided (P a b))
    → Decided (InParts P t)
decided-parts P [] d = go (d [] [] refl)
  where
    none : (a b : Text) → [] ≡ a ++ b → P a b → P [] []
    none [] b e p = subst (P []) (sym e) p
    none (c ∷ a) b e p = cc

    go : Decided (P [] []) → Decided (InParts P [])
    go (inl p) = inl ([], [], refl, p)
    go (inr never) = inr (λ h. never (none h.0 h.1 h.2 h.3))
decided-parts P (c ∷ t) d =
    go (d [] (c ∷ t) refl) (decided-parts (λ a b. P (c ∷ a) b) t (λ a b e. d (c ∷ a) b (ap (λ l. c ∷ l) e)))
  where
    split : (a b : Text) → c ∷ t ≡ a ++ b → P a b → (P [] (c ∷ t) → ⊥) → InParts (λ a b. P (c ∷ a) b) t
    split [] b e p never = absurd (never (subst (P []) (sym e) p))
    split (x ∷ a) b e p never =
        let head : x ≡ c = cc in
        let tail : t ≡ a ++ b = cc in
        (a, b, tail, subst (λ y. P (y ∷ a) b) head p)

    go : Decided (P [] (c ∷ t)) → Decided (InParts (λ a b. P (c ∷ a) b) t) → Decided (InParts P (c ∷ t))
    go (inl p) d = inl ([], c ∷ t, refl, p)
    go (inr never) (inl h) = inl (c ∷ h.0, h.1, ap (λ l. c ∷ l) h.2, h.3)
    go (inr never) (inr none) = inr (λ h. none (split h.0 h.1 h.2 h.3 never))

-- a text begins with a word, and this holds of the rest
abbrev pub Behind : Text → (Text → Type 0) → Text → Type 0
Behind word P t = (rest : Text) × (t ≡ word ++ rest) × P rest

pub decided-behind : (word : Text) (P : Text → Type 0) (t : Text)
    → ((rest : Text) → t ≡ word ++ rest → Decided (P rest)) → Decided (Behind word P t)
decided-behind word P t d =
    decided-by (λ h. (h.1, h.2 ∙ ap (λ w. w ++ h.1) h.3.0, h.3.1)) (λ h. (word, h.0, h.1, (refl, h.2)))
    (decided-parts (λ a b. (a ≡ word) × P b) t (λ a b e. go a b e (decided-text a word)))
  where
    go : (a b : Text) → t ≡ a ++ b → Decided (a ≡ word) → Decided ((a ≡ word) × P b)
    go a b e (inl same) = decided-by (λ p. (same, p)) (λ h. h.1) (d b (e ∙ ap (λ w. w ++ b) same))
    go a b e (inr never) = inr (λ h. never h.0)

-- a text is the printed text of a value of a sort
abbrev pub Spells : {A : Type 0} → (A → Type 0) → (A → Text) → Text → Type 0
Spells {A = A} Right printed t = (a : A) × Right a × (printed a ≡ t)

pub decided-spell-both : {A B : Type 0} (P : A → Type 0) (first : A → Text) (between : Text) (Q : B → Type 0)
    (second : B → Text) (t : Text) → ((t : Text) → Decided (Spells P first t))
    → ((t : Text) → Decided (Spells Q second t))
    → Decided ((a : A) × (b : B) × P a × Q b × (first a ++ (between ++ second b) ≡ t))
decided-spell-both P first between Q second t p q =
    decided-by
    (λ h. (
      h.3.0.0,
      h.3.1.2.0,
      h.3.0.1,
      h.3.1.2.1,
      ap (λ l. l ++ (between ++ second h.3.1.2.0)) h.3.0.2
          ∙ ap (λ l. h.0 ++ (between ++ l)) h.3.1.2.2 ∙ ap (λ l. h.0 ++ l) (sym h.3.1.1) ∙ sym h.2,
    ))
    (λ h. (first h.0, between ++ second h.1, sym h.4, ((h.0, h.2, refl), (second h.1, refl, (h.1, h.3, refl)))))
    (decided-parts (λ a b. Spells P first a × Behind between (Spells Q second) b) t
    (λ a b e. decided-both (p a) (decided-behind between (Spells Q second) b (λ rest _. q rest))))

-- the text of a value stands behind a word
pub decided-begun : {A : Type 0} (word : Text) (P : A → Type 0) (printed : A → Text) (t : Text)
    → ((t : Text) → Decided (Spells P printed t)) → Decided (Spells P (λ a. word ++ printed a) t)
decided-begun word P printed t p =
    decided-by (λ h. (h.2.0, h.2.1, ap (λ l. word ++ l) h.2.2 ∙ sym h.1))
    (λ h. (printed h.0, sym h.2, (h.0, h.1, refl)))
    (decided-behind word (Spells P printed) t (λ rest _. p rest))

-- or before it
pub decided-ended : {A : Type 0} (word : Text) (P : A → Type 0) (printed : A → Text) (t : Text)
    → ((t : Text) → Decided (Spells P printed t)) → Decided (Spells P (λ a. printed a ++ word) t)
decided-ended word P printed t p =
    decided-by (λ h. (h.3.0.0, h.3.0.1, ap (λ l. l ++ word) h.3.0.2 ∙ ap (λ l. h.0 ++ l) (sym h.3.1) ∙ sym h.2))
    (λ h. (printed h.0, word, sym h.2, ((h.0, h.1, refl), refl)))
    (decided-parts (λ a b. Spells P printed a × (b ≡ word)) t
    (λ a b e. decided-both (p a) (decided-text b word)))

-- ---- items

module _ {A : Type 0} (IsItem : A → Type 0) (printed : A → Text) (one : (t : Text) → Decided (Spells IsItem printed t))
  where
    abbrev pub SpellItems : Text → Type 0
    SpellItems t = (xs : List A) × AllByRecursion IsItem xs × (preceded (codes " ") (map printed xs) ≡ t)

    -- the text of one item, and that of more
    abbrev IsPart : Text → Text → Type 0
    IsPart a b = Spells IsItem printed a × SpellItems b

    within : (n : ℕ) (t : Text) → length t < n → Decided (SpellItems t)
    within zero t less = absurd (omega (arith, less))
    within (suc n) [] less = inl ([], tt, refl)
    within (suc n) (c ∷ t) less =
        decided-by there (λ h. back h.0 h.1 h.2) (decided-behind (codes " ") (InParts IsPart) (c ∷ t)
        (λ rest e. decided-parts IsPart rest (λ a b f. decided-both (one a) (within n b (shorter rest a b e f)))))
      where
        shorter : (rest a b : Text) → c ∷ t ≡ codes " " ++ rest → rest ≡ a ++ b → length b < n
        shorter rest a b e f =
            let m = ap length e in let k = ap length f in omega (arith, m, k, length-append a b, less)

        there : Behind (codes " ") (InParts IsPart) (c ∷ t) → SpellItems (c ∷ t)
        there h =
            let part = h.2.3 in (
              part.0.0 ∷ part.1.0,
              (part.0.1, part.1.1),
              ap (λ l. codes " " ++ (l ++ preceded (codes " ") (map printed part.1.0))) part.0.2
                  ∙ ap (λ l. codes " " ++ (h.2.0 ++ l)) part.1.2 ∙ ap (λ l. codes " " ++ l) (sym h.2.2) ∙ sym h.1,
            )

        back : (xs : List A) → AllByRecursion IsItem xs → preceded (codes " ") (map printed xs) ≡ c ∷ t
            → Behind (codes " ") (InParts IsPart) (c ∷ t)
        back [] all e = cc
        back (x ∷ xs) all e =
            let behind = preceded (codes " ") (map printed xs) in
            (printed x ++ behind, sym e, (printed x, behind, refl, ((x, all.0, refl), (xs, all.1, refl))))

    pub decided-items : (t : Text) → Decided (SpellItems t)
    decided-items t = within (suc (length t)) t (omega arith)
