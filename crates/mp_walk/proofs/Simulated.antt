-- Steps in another order, from states that are alike, put out the same; and nothing twice, where no step is there
-- twice.
use Rattle.std.proofs.Common.{◌≡◌, List, [], ◌∷◌, ◌++◌, map, length, Bool, true, false, refl, ap, sym, ◌∙◌, inl, inr}
use Rattle.std.proofs.Common.{subst, arith, append_assoc, append-nil}
use Rattle.std.specs.Prelude.{flat_map, if◌then◌else◌}
use Rattle.mp_term.specs.Listing.{In}
use Rattle.mp_term.proofs.SearchLaws.{in-map, in-flat, from_in-flat}
use Rattle.mp_walk.specs.Forests.{runs}
use Rattle.mp_ac.specs.CommItems.{NoneTwice}
use Rattle.mp_walk.proofs.ForestLaws.{none-append}

module _ {S R K O : Type 0} (steps : S → K → List (List O × S)) (ends : S → Bool) (other : R → K → List (List O × R))
    (other_ends : R → Bool) (Alike : S → R → Type 0)
    (ends-same : (s : S) (r : R) → Alike s r → ends s ≡ other_ends r)
    (there : (s : S) (r : R) (k : K) (x : List O × S) → Alike s r → In x (steps s k)
    → (y : List O × R) × In y (other r k) × (x.0 ≡ y.0) × Alike x.1 y.1) where
  -- what is put out by the one is put out by the other
  pub simulated : (ks : List K) (s : S) (r : R) (before T : List O) → Alike s r → In T (runs steps ends ks s before)
      → In T (runs other other_ends ks r before)
  simulated [] s r before T a h = subst (λ b. In T (if b then before ∷ [] else [])) (ends-same s r a) h
  simulated (k ∷ ks) s r before T a h =
      let x = from_in-flat (λ q. runs steps ends ks q.1 (before ++ q.0)) T (steps s k) h in
      let y = there s r k x.0 a x.1 in
      in-flat (λ q. runs other other_ends ks q.1 (before ++ q.0)) y.0 T (other r k) y.1
      (subst (λ o. In T (runs other other_ends ks y.0.1 (before ++ o))) y.2
      (simulated ks x.0.1 y.0.1 (before ++ x.0.0) T y.3 x.2))

-- lists of one length that begin two equal lists are equal
fronts : {O : Type 0} (a b x y : List O) → length a ≡ length b → a ++ x ≡ b ++ y → a ≡ b
fronts [] [] x y l e = refl
fronts [] (c ∷ b) x y l e = absurd (omega arith)
fronts (d ∷ a) [] x y l e = absurd (omega arith)
fronts (d ∷ a) (c ∷ b) x y l e =
    let p : d ≡ c = cc in
    let q : a ++ x ≡ b ++ y = cc in
    ap (λ z. z ∷ a) p ∙ ap (λ z. c ∷ z) (fronts a b x y (omega arith) q)

cancelled : {O : Type 0} (a x y : List O) → a ++ x ≡ a ++ y → x ≡ y
cancelled [] x y e = e
cancelled (d ∷ a) x y e = cancelled a x y (let q : a ++ x ≡ a ++ y = cc in q)

module _ {R K O : Type 0} (steps : R → K → List (List O × R)) (ends : R → Bool) (Sound : R → Type 0)
    (kept : (r : R) (k : K) (x : List O × R) → Sound r → In x (steps r k) → Sound x.1)
    (once : (r : R) (k : K) → Sound r → NoneTwice (map (λ x. x.0) (steps r k)))
    (width : (r : R) (k : K) (x y : List O × R) → Sound r → In x (steps r k) → In y (steps r k)
    → length x.0 ≡ length y.0) where
  -- what is put out begins with what was put out before
  begins : (ks : List K) (r : R) (before T : List O) → In T (runs steps ends ks r before)
      → (rest : List O) × (T ≡ before ++ rest)
  begins [] r before T h = by_end (ends r) h
    where
      by_end : (b : Bool) → In T (if b then before ∷ [] else []) → (rest : List O) × (T ≡ before ++ rest)
      by_end true (inl e) = ([], e ∙ sym (append-nil before))
      by_end true (inr i) = absurd i
      by_end false i = absurd i
  begins (k ∷ ks) r before T h =
      let x = from_in-flat (λ q. runs steps ends ks q.1 (before ++ q.0)) T (steps r k) h in
      let y = begins ks x.0.1 (before ++ x.0.0) T x.2 in
      (x.0.0 ++ y.0, y.1 ∙ append_assoc before x.0.0 y.0)

  parts-once : (ks : List K) (before : List O) (xs : List (List O × R)) → NoneTwice (map (λ x. x.0) xs)
      → ((x y : List O × R) → In x xs → In y xs → length x.0 ≡ length y.0)
      → ((x : List O × R) → In x xs → NoneTwice (runs steps ends ks x.1 (before ++ x.0)))
      → NoneTwice (flat_map (λ q. runs steps ends ks q.1 (before ++ q.0)) xs)
  parts-once ks before [] h w go = tt
  parts-once ks before (x ∷ xs) h w go =
      none-append (runs steps ends ks x.1 (before ++ x.0)) (flat_map (λ q. runs steps ends ks q.1 (before ++ q.0)) xs)
      (go x (inl refl))
      (parts-once ks before xs h.1 (λ y z i j. w y z (inr i) (inr j)) (λ y i. go y (inr i)))
      (λ T i j.
      let y = from_in-flat (λ q. runs steps ends ks q.1 (before ++ q.0)) T xs j in
      let a = begins ks x.1 (before ++ x.0) T i in
      let b = begins ks y.0.1 (before ++ y.0.0) T y.2 in
      let e : before ++ (x.0 ++ a.0) ≡ before ++ (y.0.0 ++ b.0) = sym (append_assoc before x.0 a.0)
      ∙ (sym a.1 ∙ (b.1 ∙ append_assoc before y.0.0 b.0)) in
      let f : x.0 ≡ y.0.0 = fronts x.0 y.0.0 a.0 b.0 (w x y.0 (inl refl) (inr y.1))
      (cancelled before (x.0 ++ a.0) (y.0.0 ++ b.0) e) in
      h.0 (subst (λ o. In o (map (λ q. q.0) xs)) (sym f) (in-map (λ q. q.0) y.0 xs y.1)))

  -- so nothing is put out twice
  pub runs-once : (ks : List K) (r : R) (before : List O) → Sound r → NoneTwice (runs steps ends ks r before)
  runs-once [] r before s = elim (ends r) as
      (λ b. NoneTwice (if b then before ∷ [] else [])) [ true ↦ ((λ i. i), tt) | false ↦ tt ]
  runs-once (k ∷ ks) r before s = parts-once ks before (steps r k) (once r k s) (λ x y i j. width r k x y s i j)
      (λ x i. runs-once ks x.1 (before ++ x.0) (kept r k x s i))
