-- Tests that rule lines spell: each once, and numbered in order of first use.
use Rattle.std.proofs.Common.{◌≡◌, ◌<◌, ◌≤◌, ℕ, zero, suc, List, [], ◌∷◌, ◌++◌, map, length, Bool, true, false}
use Rattle.std.proofs.Common.{◌⊎◌, refl, ap, sym, ◌∙◌, inl, inr, subst, arith, append_assoc}
use Rattle.std.specs.Prelude.{Some, ◌||◌, slice_get, nat_eq, if◌then◌else◌}
use Rattle.std.proofs.lemmas.Bool.Decides.{nat_tests}
use Rattle.std.proofs.lemmas.List.{length-append}
use Rattle.std.proofs.lemmas.Slice.Eq.{bytes_eq-Decides}
use Rattle.std.proofs.Math.Bool.{or-true}
use Rattle.mp_term.specs.Listing.{In}
use Rattle.mp_term.specs.Signature.{Sig}
use Rattle.mp_term.proofs.ListLaws.{all-split}
use Rattle.mp_pattern.specs.CondTree.{Cond}
use Rattle.mp_pattern.specs.Firsts.{is_known, add_new, firsts_after, fresh_after}
use Rattle.mp_theory.proofs.FirstsLaws.{Distinct, firsts_after-fresh}
use Rattle.mp_print.specs.PrintedCond.{cond_text}
use Rattle.mp_build.proofs.Faultless.{nil-both}
use Rattle.mp_program.specs.declared.fault.ProgramError.{ProgramError}
use Rattle.mp_program.specs.FormFaults.{faults_along}
use Rattle.mp_program.specs.ProgramOf.{same_cond, cond_place}
use Rattle.mp_program.proofs.NameLaws.{known-push}
use Rattle.mp_program.proofs.TestLaws.{place-more}

-- ---- faults of items one after the other

-- items of which none has a fault behind those before it
pub none-along : {A X : Type 0} (g : A → X) (faults : List X → ℕ → X → List ProgramError) (all before xs : List A)
    (line : ℕ) → all ≡ before ++ xs
    → ((front : List A) (a : A) (back : List A) (l : ℕ) → all ≡ front ++ a ∷ back → faults (map g front) l (g a) ≡ [])
    → faults_along faults (map g before) line (map g xs) ≡ []
none-along g faults all before [] line e h = refl
none-along {A = A} g faults all before (x ∷ xs) line e h =
    nil-both (faults (map g before) line (g x)) (faults_along faults (map g before ++ g x ∷ []) (suc line) (map g xs))
    (h before x xs line e)
    (subst (λ l. faults_along faults l (suc line) (map g xs) ≡ []) (map-push before)
    (none-along g faults all (before ++ x ∷ []) xs (suc line) (e ∙ sym (append_assoc before (x ∷ []) xs)) h))
  where
    map-push : (ys : List A) → map g (ys ++ x ∷ []) ≡ map g ys ++ g x ∷ []
    map-push [] = refl
    map-push (y ∷ ys) = ap (λ l. g y ∷ l) (map-push ys)

-- ---- numbers in order

-- the numbers below n, in order
abbrev pub upto : ℕ → List ℕ
upto zero = []
upto (suc n) = upto n ++ n ∷ []

pub length-upto : (n : ℕ) → length (upto n) ≡ n
length-upto zero = refl
length-upto (suc n) =
    let e = length-append (upto n) (n ∷ []) in let k = length-upto n in omega (arith, e, k)

pub upto-known : (n m : ℕ) → m < n → is_known nat_eq (upto n) m ≡ true
upto-known zero m h = absurd (omega (arith, h))
upto-known (suc n) m h = known-push nat_eq (upto n) n m ∙ by_last (nat_eq n m) refl (λ l. upto-known n m l)
  where
    by_last : (b : Bool) → nat_eq n m ≡ b → (m < n → is_known nat_eq (upto n) m ≡ true)
        → (is_known nat_eq (upto n) m || b) ≡ true
    by_last true e f = or-true (is_known nat_eq (upto n) m)
    by_last false e f =
        let differ : nat_eq n m ≡ true → ⊥ = λ q. (let wrong : true ≡ false = sym q ∙ e in cc) in
        let below : m < n = at (nat_eq n m) refl differ in
        ap (λ a. a || false) (f below)
      where
        at : (b : Bool) → nat_eq n m ≡ b → (nat_eq n m ≡ true → ⊥) → m < n
        at true q d = absurd (d q)
        at false q d = grind (arith, nat_tests, q, h)

upto-unknown : (n m : ℕ) → n ≤ m → is_known nat_eq (upto n) m ≡ false
upto-unknown zero m h = refl
upto-unknown (suc n) m h =
    let other : nat_eq n m ≡ false = grind (arith, nat_tests, h) in
    known-push nat_eq (upto n) n m
    ∙ ap (λ a. a || nat_eq n m) (upto-unknown n m (omega (arith, h))) ∙ other

-- ---- first items

-- an item that stands there is known among the first ones
pub known-firsts : {X : Type 0} (same : X → X → Bool) → ((x : X) → same x x ≡ true) → (ys xs : List X) (x : X)
    → (is_known same ys x ≡ true) ⊎ In x xs → is_known same (firsts_after same ys xs) x ≡ true
known-firsts same itself ys [] x (inl k) = k
known-firsts same itself ys [] x (inr i) = absurd i
known-firsts same itself ys (z ∷ xs) x h = known-firsts same itself (add_new same ys z) xs x (by_place h)
  where
    added : (w : Bool) → is_known same ys z ≡ w → (is_known same ys x ≡ true) ⊎ (x ≡ z)
        → is_known same (if w then ys else ys ++ z ∷ []) x ≡ true
    added true e (inl k) = k
    added true e (inr q) = ap (is_known same ys) q ∙ e
    added false e (inl k) = known-push same ys z x ∙ ap (λ a. a || same z x) k
    added false e (inr q) = known-push same ys z x ∙ ap (λ a. is_known same ys x || a) (ap (same z) q ∙ itself z)
        ∙ or-true (is_known same ys x)

    by_place : (is_known same ys x ≡ true) ⊎ In x (z ∷ xs) → (is_known same (add_new same ys z) x ≡ true) ⊎ In x xs
    by_place (inl k) = inl (added (is_known same ys z) refl (inl k))
    by_place (inr (inl e)) = inl (added (is_known same ys z) refl (inr e))
    by_place (inr (inr i)) = inr i

-- what stands before an item among distinct ones isn't the same
pub distinct-front : {X : Type 0} (same : X → X → Bool) (front : List X) (x : X) (back : List X)
    → Distinct same (front ++ x ∷ back) → (y : X) → In y front → same y x ≡ false
distinct-front same [] x back d y i = absurd i
distinct-front same (z ∷ front) x back d y (inl e) =
    ap (λ w. same w x) e ∙ (all-split (λ w. same z w ≡ false) front (x ∷ back) d.0).1.0
distinct-front same (z ∷ front) x back d y (inr i) = distinct-front same front x back d.1 y i

-- ---- places of tests

module _ (sig : Sig) where
  pub same_cond-itself : (c : Cond) → same_cond sig c c ≡ true
  same_cond-itself c = (bytes_eq-Decides (cond_text sig c) (cond_text sig c)).1 refl

  pub same_cond-text : (c d : Cond) → same_cond sig c d ≡ true → cond_text sig c ≡ cond_text sig d
  same_cond-text c d h = (bytes_eq-Decides (cond_text sig c) (cond_text sig d)).0 h

  -- a known test stands at its place
  pub record IsPlaced (ts : List Cond) (c : Cond) : Type 0 where
    pub test : Cond
    pub held : slice_get ts (cond_place sig ts c) ≡ Some test
    pub same : same_cond sig test c ≡ true
    pub within : cond_place sig ts c < length ts

  pub placed : (ts : List Cond) (c : Cond) → is_known (same_cond sig) ts c ≡ true → IsPlaced ts c
  placed [] c h = (let wrong : false ≡ true = h in cc)
  placed (t ∷ ts) c h = by_test (same_cond sig t c) refl h (placed ts c)
    where
      by_test : (b : Bool) → same_cond sig t c ≡ b → (b || is_known (same_cond sig) ts c) ≡ true
          → (is_known (same_cond sig) ts c ≡ true → IsPlaced ts c) → IsPlaced (t ∷ ts) c
      by_test true e k f =
          let here : cond_place sig (t ∷ ts) c ≡ 0 = ap (λ b. if b then 0 else suc (cond_place sig ts c)) e in
          record {
            test = t;
            held = ap (slice_get (t ∷ ts)) here;
            same = e;
            within = omega (arith, here);
          }
      by_test false e k f =
          let p = f k in
          let there : cond_place sig (t ∷ ts) c ≡ suc (cond_place sig ts c) =
          ap (λ b. if b then 0 else suc (cond_place sig ts c)) e in
          record {
            test = p.test;
            held = ap (slice_get (t ∷ ts)) there ∙ p.held;
            same = p.same;
            within = omega (arith, there, p.within);
          }

  -- an unknown one has the next place once it is added
  place-next : (ts us : List Cond) (c : Cond) → is_known (same_cond sig) ts c ≡ false
      → cond_place sig (ts ++ c ∷ us) c ≡ length ts
  place-next [] us c h = ap (λ b. if b then 0 else suc (cond_place sig us c)) (same_cond-itself c)
  place-next (t ∷ ts) us c h = by_test (same_cond sig t c) h (place-next ts us c)
    where
      by_test : (b : Bool) → (b || is_known (same_cond sig) ts c) ≡ false
          → (is_known (same_cond sig) ts c ≡ false → cond_place sig (ts ++ c ∷ us) c ≡ length ts)
          → (if b then 0 else suc (cond_place sig (ts ++ c ∷ us) c)) ≡ suc (length ts)
      by_test true k f = (let wrong : true ≡ false = k in cc)
      by_test false k f = ap suc (f k)

  abbrev firsts : List Cond → List Cond → List Cond
  firsts ts xs = firsts_after (same_cond sig) ts xs

  -- a test behind some first ones has a place among them or the next one
  pub place-among : (ts xs : List Cond) (c : Cond) → cond_place sig (firsts ts (c ∷ xs)) c ≤ length ts
  place-among ts xs c = by_known (is_known (same_cond sig) ts c) refl
    where
      by_known : (b : Bool) → is_known (same_cond sig) ts c ≡ b
          → cond_place sig (firsts (if b then ts else ts ++ c ∷ []) xs) c ≤ length ts
      by_known true e =
          let same : cond_place sig (firsts ts xs) c ≡ cond_place sig ts c =
          ap (λ l. cond_place sig l c) (firsts_after-fresh (same_cond sig) ts xs)
          ∙ place-more sig ts (fresh_after (same_cond sig) ts xs) c e in
          let p = placed ts c e in omega (arith, same, p.within)
      by_known false e =
          let more = fresh_after (same_cond sig) (ts ++ c ∷ []) xs in
          let same : cond_place sig (firsts (ts ++ c ∷ []) xs) c ≡ length ts =
          ap (λ l. cond_place sig l c) (firsts_after-fresh (same_cond sig) (ts ++ c ∷ []) xs
          ∙ append_assoc ts (c ∷ []) more) ∙ place-next ts more c e in
          omega (arith, same)

  -- the places of tests are used in order, where all of them are more than those
  pub places-upto : (all ts xs ys : List Cond) → all ≡ firsts (firsts ts xs) ys
      → firsts_after nat_eq (upto (length ts)) (map (cond_place sig all) xs) ≡ upto (length (firsts ts xs))
  places-upto all ts [] ys e = refl
  places-upto all ts (x ∷ xs) ys e = by_known (is_known (same_cond sig) ts x) refl e
      (places-upto all ts xs ys) (places-upto all (ts ++ x ∷ []) xs ys)
    where
      behind : (us : List Cond) → all ≡ firsts (firsts us xs) ys
          → (more : List Cond) × (all ≡ us ++ more)
      behind us q =
          let a = firsts_after-fresh (same_cond sig) us xs in
          let b = firsts_after-fresh (same_cond sig) (firsts us xs) ys in
          let first = fresh_after (same_cond sig) us xs in
          let second = fresh_after (same_cond sig) (firsts us xs) ys in
          (first ++ second, q ∙ b ∙ ap (λ l. l ++ second) a ∙ append_assoc us first second)

      by_known : (b : Bool) → is_known (same_cond sig) ts x ≡ b
          → all ≡ firsts (firsts (if b then ts else ts ++ x ∷ []) xs) ys
          → (all ≡ firsts (firsts ts xs) ys
          → firsts_after nat_eq (upto (length ts)) (map (cond_place sig all) xs) ≡ upto (length (firsts ts xs)))
          → (all ≡ firsts (firsts (ts ++ x ∷ []) xs) ys
          → firsts_after nat_eq (upto (length (ts ++ x ∷ []))) (map (cond_place sig all) xs)
          ≡ upto (length (firsts (ts ++ x ∷ []) xs)))
          → firsts_after nat_eq (upto (length ts)) (cond_place sig all x ∷ map (cond_place sig all) xs)
          ≡ upto (length (firsts (if b then ts else ts ++ x ∷ []) xs))
      by_known true k q old new =
          let m = behind ts q in
          let at : cond_place sig all x ≡ cond_place sig ts x =
          ap (λ l. cond_place sig l x) m.1 ∙ place-more sig ts m.0 x k in
          let p = placed ts x k in
          let known : is_known nat_eq (upto (length ts)) (cond_place sig all x) ≡ true =
          upto-known (length ts) (cond_place sig all x) (omega (arith, at, p.within)) in
          ap (λ b. firsts_after nat_eq (if b then upto (length ts) else upto (length ts) ++ cond_place sig all x ∷ [])
          (map (cond_place sig all) xs)) known ∙ old q
      by_known false k q old new =
          let m = behind (ts ++ x ∷ []) q in
          let at : cond_place sig all x ≡ length ts =
          ap (λ l. cond_place sig l x) (m.1 ∙ append_assoc ts (x ∷ []) m.0) ∙ place-next ts m.0 x k in
          let unknown : is_known nat_eq (upto (length ts)) (cond_place sig all x) ≡ false =
          upto-unknown (length ts) (cond_place sig all x) (omega (arith, at)) in
          let longer : length (ts ++ x ∷ []) ≡ suc (length ts) =
          (let z = length-append ts (x ∷ []) in omega (arith, z)) in
          ap (λ b. firsts_after nat_eq (if b then upto (length ts) else upto (length ts) ++ cond_place sig all x ∷ [])
          (map (cond_place sig all) xs)) unknown
          ∙ ap (λ n. firsts_after nat_eq (upto (length ts) ++ n ∷ []) (map (cond_place sig all) xs)) at
          ∙ ap (λ n. firsts_after nat_eq (upto n) (map (cond_place sig all) xs)) (sym longer) ∙ new q
