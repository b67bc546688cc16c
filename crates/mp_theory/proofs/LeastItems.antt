-- Of items that ascend those are first with their substitution that a search over it finds first.
use Rattle.std.proofs.Common.{◌≡◌, List, [], ◌∷◌, ◌++◌, Bool, true, false, refl, ap, sym, ◌∙◌, subst}
use Rattle.std.proofs.Common.{append_assoc}
use Rattle.std.specs.Prelude.{filter, if◌then◌else◌, ◌||◌, ⊤}
use Rattle.std.specs.List.{AllByRecursion}
use Rattle.std.proofs.lemmas.Bool.{or_parts}
use Rattle.mp_term.proofs.ListLaws.{all-append}
use Rattle.mp_pattern.specs.Firsts.{is_known, firsts_after, fresh_after}
use Rattle.mp_theory.proofs.FirstsLaws.{firsts_after-fresh}

module _ {X K : Type 0} (key : X → K) (test : K → K → Bool) (itself : (k : K) → test k k ≡ true)
    (sound : (j k : K) → test j k ≡ true → j ≡ k) (alike : X → X → Bool)
    (alike-itself : (x : X) → alike x x ≡ true) where
  -- they have one key
  abbrev pub same_key : X → X → Bool
  same_key x y = test (key x) (key y)

  -- the first of the list is like the item
  abbrev pub leads : X → List X → Bool
  leads x [] = false
  leads x (y ∷ ys) = alike x y

  -- no item is like one before it
  abbrev pub Apart : List X → Type 0
  Apart [] = ⊤
  Apart (x ∷ xs) = AllByRecursion (λ y. alike y x ≡ false) xs × Apart xs

  -- whether x is the first of those in the list with its key
  abbrev is_first_in : List X → X → Bool
  is_first_in xs x = leads x (filter (same_key x) xs)

  -- the test is symmetric
  test-swap : (j k : K) → test j k ≡ true → test k j ≡ true
  test-swap j k e = subst (λ m. test k m ≡ true) (sym (sound j k e)) (itself k)

  -- an item whose key stood before is unlike the first with its key
  known-apart : (ys zs : List X) (x : X) → is_known same_key ys x ≡ true → AllByRecursion (λ y. alike x y ≡ false) ys
      → is_first_in (ys ++ zs) x ≡ false
  known-apart [] zs x k h = cc
  known-apart (y ∷ ys) zs x k h =
      elim (same_key x y) as (λ b. same_key x y ≡ b
      → leads x (if b then y ∷ filter (same_key x) (ys ++ zs) else filter (same_key x) (ys ++ zs)) ≡ false) [
        | true ↦ λ e. h.0
        | false ↦ λ e.
            known-apart ys zs x
            (elim (same_key y x) as (λ c. same_key y x ≡ c → (c || is_known same_key ys x) ≡ true
            → is_known same_key ys x ≡ true) [
              | true ↦ λ q r. let v : true ≡ false = sym (test-swap (key y) (key x) q) ∙ e in cc
              | false ↦ λ q r. r
            ] refl k)
            h.1
      ] refl

  -- an item whose key is new is the first with its key
  unknown-first : (ys zs : List X) (x : X) → is_known same_key ys x ≡ false → is_first_in (ys ++ (x ∷ zs)) x ≡ true
  unknown-first [] zs x k =
      ap (λ b. leads x (if b then x ∷ filter (same_key x) zs else filter (same_key x) zs)) (itself (key x))
      ∙ alike-itself x
  unknown-first (y ∷ ys) zs x k =
      let n = or_parts (same_key y x) (is_known same_key ys x) k in
      elim (same_key x y) as (λ b. same_key x y ≡ b
      → leads x (if b then y ∷ filter (same_key x) (ys ++ (x ∷ zs)) else filter (same_key x) (ys ++ (x ∷ zs)))
      ≡ true) [
        | true ↦ λ e. let v : true ≡ false = sym (test-swap (key x) (key y) e) ∙ n.0 in cc
        | false ↦ λ e. unknown-first ys zs x n.1
      ] refl

  -- one item more is known
  known-more : (ys : List X) (y x : X) → is_known same_key (ys ++ (y ∷ [])) x ≡ (is_known same_key ys x || same_key y x)
  known-more [] y x = elim (same_key y x) as (λ b. (b || false) ≡ b) [ true ↦ refl | false ↦ refl ]
  known-more (z ∷ ys) y x =
      ap (λ b. same_key z x || b) (known-more ys y x)
      ∙ elim (same_key z x) as (λ b. (b || (is_known same_key ys x || same_key y x))
      ≡ ((b || is_known same_key ys x) || same_key y x)) [ true ↦ refl | false ↦ refl ]

  -- the test of a key
  known_key : List X → K → Bool
  known_key [] m = false
  known_key (z ∷ zs) m = test (key z) m || known_key zs m

  by_key : (zs : List X) (z : X) → is_known same_key zs z ≡ known_key zs (key z)
  unfolding known_key
  by_key [] z = refl
  by_key (w ∷ zs) z = ap (λ b. same_key w z || b) (by_key zs z)

  -- an item whose key is known adds nothing
  known-same : (ys : List X) (y x : X) → is_known same_key ys y ≡ true
      → (is_known same_key ys x || same_key y x) ≡ is_known same_key ys x
  known-same ys y x h =
      elim (same_key y x) as (λ b. same_key y x ≡ b → (is_known same_key ys x || b) ≡ is_known same_key ys x) [
        | true ↦ λ e.
            let k : is_known same_key ys x ≡ true = by_key ys x
            ∙ subst (λ m. known_key ys m ≡ true) (sound (key y) (key x) e) (sym (by_key ys y) ∙ h) in
            ap (λ b. b || true) k ∙ sym k
        | false ↦ λ e. elim (is_known same_key ys x) as (λ b. (b || false) ≡ b) [ true ↦ refl | false ↦ refl ]
      ] refl

  -- what is unlike the items before is unlike one item more
  unlike-more : (ys : List X) (x : X) (xs : List X)
      → AllByRecursion (λ z. AllByRecursion (λ y. alike z y ≡ false) ys) xs
      → AllByRecursion (λ z. alike z x ≡ false) xs
      → AllByRecursion (λ z. AllByRecursion (λ y. alike z y ≡ false) (ys ++ (x ∷ []))) xs
  unlike-more ys x [] h a = tt
  unlike-more ys x (z ∷ xs) h a =
      (all-append (λ y. alike z y ≡ false) ys (x ∷ []) h.0 (a.0, tt), unlike-more ys x xs h.1 a.1)

  -- the items that come after ys and are fresh to ks, which have the keys of ys
  fresh-firsts : (ks ys xs : List X) → ((x : X) → is_known same_key ks x ≡ is_known same_key ys x)
      → AllByRecursion (λ x. AllByRecursion (λ y. alike x y ≡ false) ys) xs → Apart xs
      → fresh_after same_key ks xs ≡ filter (is_first_in (ys ++ xs)) xs
  fresh-firsts ks ys [] k h a = refl
  fresh-firsts ks ys (x ∷ xs) k h a =
      let rest = λ (ls : List X)
      (same : (z : X) → is_known same_key ls z ≡ is_known same_key (ys ++ (x ∷ [])) z).
      fresh-firsts ls (ys ++ (x ∷ [])) xs same (unlike-more ys x xs h.1 a.0) a.1
      ∙ ap (λ zs. filter (is_first_in zs) xs) (append_assoc ys (x ∷ []) xs) in
      elim (is_known same_key ks x) as (λ b. is_known same_key ks x ≡ b
      → (if b then fresh_after same_key ks xs else x ∷ fresh_after same_key (ks ++ (x ∷ [])) xs)
      ≡ filter (is_first_in (ys ++ (x ∷ xs))) (x ∷ xs)) [
        | true ↦ λ e.
            rest ks (λ z. k z ∙ sym (known-same ys x z (sym (k x) ∙ e)) ∙ sym (known-more ys x z))
            ∙ ap (λ b. if b then x ∷ filter (is_first_in (ys ++ (x ∷ xs))) xs else
            filter (is_first_in (ys ++ (x ∷ xs))) xs) (sym (known-apart ys (x ∷ xs) x (sym (k x) ∙ e) h.0))
        | false ↦ λ e.
            ap (λ zs. x ∷ zs)
            (rest (ks ++ (x ∷ []))
            (λ z. known-more ks x z ∙ ap (λ b. b || same_key x z) (k z) ∙ sym (known-more ys x z)))
            ∙ ap (λ b. if b then x ∷ filter (is_first_in (ys ++ (x ∷ xs))) xs else
            filter (is_first_in (ys ++ (x ∷ xs))) xs) (sym (unknown-first ys xs x (sym (k x) ∙ e)))
      ] refl

  none-before : (xs : List X) → AllByRecursion (λ x. AllByRecursion (λ y. alike x y ≡ false) []) xs
  none-before [] = tt
  none-before (x ∷ xs) = (tt, none-before xs)

  -- so the firsts are those that are first with their key
  pub firsts_after-leads : (xs : List X) → Apart xs
      → firsts_after same_key [] xs ≡ filter (λ x. leads x (filter (same_key x) xs)) xs
  firsts_after-leads xs a = firsts_after-fresh same_key [] xs
      ∙ fresh-firsts [] [] xs (λ x. refl) (none-before xs) a
