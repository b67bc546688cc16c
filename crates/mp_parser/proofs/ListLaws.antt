-- Lists: fronts whose elements pass a test, and the tests of elements; options.
use Rattle.std.proofs.Common.{◌≡◌, ◌≤◌, ℕ, zero, suc, ◌+◌, Bool, true, false, cond, List, [], ◌∷◌, ◌++◌, length, take}
use Rattle.std.proofs.Common.{drop, Option, Some, refl, sym, ap, ◌∙◌, arith, inl, inr}
use Rattle.std.specs.Prelude.{◌⊎◌, ◌==◌}
use Rattle.std.specs.List.{prefix_len, list_all, list_any}
use Rattle.std.proofs.lemmas.Bool.{and_parts, and_from, or_cases, eqb-true}
use Rattle.std.proofs.lemmas.List.Folds.{list_all-append}
use Rattle.std.proofs.Math.Seq.{take-append_seam, drop-append_seam}
use Rattle.std.proofs.lemmas.List.{take_at, drop_at, length-append, append_assoc}

-- a front whose elements pass, and then more
pub prefix_len-pass : (p : ℕ → Bool) (a b : List ℕ) → list_all p a ≡ true
    → prefix_len p (a ++ b) ≡ length a + prefix_len p b
prefix_len-pass p [] b h = omega arith
prefix_len-pass p (x ∷ a) b h =
    let e : p x ≡ true = (and_parts (p x) (list_all p a) h).0 in
    rw e (omega (arith, prefix_len-pass p a b (and_parts (p x) (list_all p a) h).1))

-- the front that passes passes
pub list_all-front : (p : ℕ → Bool) (xs : List ℕ) → list_all p (take (prefix_len p xs) xs) ≡ true
list_all-front p [] = refl
list_all-front p (x ∷ xs) = go (p x) refl (list_all-front p xs)
  where
    go : (v : Bool) → p x ≡ v → list_all p (take (prefix_len p xs) xs) ≡ true
        → list_all p (take (cond v (1 + prefix_len p xs) 0) (x ∷ xs)) ≡ true
    go true e h = let one : 1 + prefix_len p xs ≡ suc (prefix_len p xs) = omega arith in rw (one, e) h
    go false e h = refl

-- the first a + b elements are the first a and the first b behind them
pub take-add : (a b : ℕ) (xs : List ℕ) → take (a + b) xs ≡ take a xs ++ take b (drop a xs)
take-add zero b xs = let e : 0 + b ≡ b = omega arith in rw e refl
take-add (suc a) b [] = let e : suc a + b ≡ suc (a + b) = omega arith in rw e (sym (take-nil b))
  where
    take-nil : (b : ℕ) → take {A = ℕ} b [] ≡ []
    take-nil zero = refl
    take-nil (suc b) = refl
take-add (suc a) b (x ∷ xs) = let e : suc a + b ≡ suc (a + b) = omega arith in rw e (ap (λ l. x ∷ l) (take-add a b xs))

-- more elements than the first list has
pub take-past : (a b : List ℕ) (n : ℕ) → take (length a + n) (a ++ b) ≡ a ++ take n b
take-past a b n = take-add (length a) n (a ++ b)
    ∙ (λ i. take_at a b (length a) refl i ++ take n (drop_at a b (length a) refl i))

-- one of these numbers passes a test that they all pass
pub one-passes : (q : ℕ → Bool) (b : ℕ) (ns : List ℕ) → list_any (λ n. b == n) ns ≡ true → list_all q ns ≡ true
    → q b ≡ true
one-passes q b [] h k = absurd cc
one-passes q b (n ∷ ns) h k =
    let parts = and_parts (q n) (list_all q ns) k in
    go (or_cases (b == n) (list_any (λ n. b == n) ns) h) parts.0 (λ e. one-passes q b ns e parts.1)
  where
    go : ((b == n) ≡ true) ⊎ (list_any (λ n. b == n) ns ≡ true) → q n ≡ true
        → (list_any (λ n. b == n) ns ≡ true → q b ≡ true) → q b ≡ true
    go (inl e) f g = ap q (eqb-true b n e) ∙ f
    go (inr e) f g = g e

-- what a test says of each element, another one says too
pub all-implied : (p q : ℕ → Bool) → ((b : ℕ) → p b ≡ true → q b ≡ true) → (bs : List ℕ) → list_all p bs ≡ true
    → list_all q bs ≡ true
all-implied p q f [] h = refl
all-implied p q f (b ∷ bs) h =
    let a = and_parts (p b) (list_all p bs) h in
    and_from (q b) (list_all q bs) (f b a.0) (all-implied p q f bs a.1)

-- two lists whose elements pass, and the second of them
pub all-append : (p : ℕ → Bool) (a b : List ℕ) → list_all p a ≡ true → list_all p b ≡ true → list_all p (a ++ b) ≡ true
all-append p a b h k = list_all-append p a b ∙ and_from (list_all p a) (list_all p b) h k

pub all-behind : (p : ℕ → Bool) (a b : List ℕ) → list_all p (a ++ b) ≡ true → list_all p b ≡ true
all-behind p a b h = (and_parts (list_all p a) (list_all p b) (sym (list_all-append p a b) ∙ h)).1

abbrev pub some : {A : Type 0} → A → Option A
some a = Some a

-- two options with values are the same where these are
pub some-is : {A : Type 0} (a b : A) → some a ≡ some b → a ≡ b
some-is a b e = cc

-- a list behind so many elements, and what lies before it
pub drop-behind : (n : ℕ) {A : Type 0} (whole front list : List A) → n ≡ length front → whole ≡ front ++ list
    → drop n whole ≡ list
drop-behind n whole front list h e = (λ i. drop (h i) (e i)) ∙ drop-append_seam front list

pub take-before : (n : ℕ) {A : Type 0} (whole front list : List A) → n ≡ length front → whole ≡ front ++ list
    → take n whole ≡ front
take-before n whole front list h e = (λ i. take (h i) (e i)) ∙ take-append_seam front list

pub front-le : (n : ℕ) {A : Type 0} (whole front list : List A) → n ≡ length front → whole ≡ front ++ list
    → n ≤ length whole
front-le n whole front list h e = omega (arith, h, ap length e, length-append front list)

-- an element more at the end of the list that lies behind a front
pub push-behind : {A : Type 0} (whole front list : List A) (x : A) → whole ≡ front ++ list
    → whole ++ x ∷ [] ≡ front ++ (list ++ x ∷ [])
push-behind whole front list x e = ap (λ l. l ++ x ∷ []) e ∙ append_assoc front list (x ∷ [])
