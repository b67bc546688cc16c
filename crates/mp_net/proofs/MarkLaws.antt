-- The order of marks, and the edges of heads that ascend.
use Rattle.std.proofs.Common.{◌≡◌, ℕ, zero, suc, ◌+◌, ◌<◌, List, [], ◌∷◌, true, false, ◌&&◌, ◌||◌, refl, ap, sym}
use Rattle.std.proofs.Common.{◌∙◌, subst, map, length, get_or, inl, inr, eqb-true, eq-eqb, arith}
use Rattle.std.specs.Prelude.{Some, None, if◌then◌else◌, nat_eq, slice_get}
use Rattle.std.specs.Ordering.{nat_cmp}
use Rattle.std.specs.declared.cmp.Ordering.{Ordering}
use Rattle.std.specs.declared.cmp.Ordering.TheVariants.{Less}
use Rattle.std.specs.Cmp.Lexicographic.{slice_cmp}
use Rattle.std.specs.List.{list_any, cons_option, AllByRecursion}
use Rattle.std.specs.List.Sorted.{IsStrictlySortedBy}
use Rattle.std.proofs.lemmas.Bool.{false_from_ne_true, and_parts}
use Rattle.std.proofs.lemmas.Cmp.{nat_list_cmp_total}
use Rattle.mp_term.specs.Listing.{In}
use Rattle.mp_term.proofs.ListingLaws.{all_in, irreflexive}
use Rattle.mp_table.proofs.Distinct.{in-key}
use Rattle.mp_pattern.proofs.NameLaws.{same_name-is, same_name-itself}
use Rattle.mp_net.specs.Net.{Mark, named, entered, anything, same_mark, Open, asks, edge_of}
use Rattle.mp_net.specs.Keys.{mark_key}
use Rattle.mp_net.specs.View.{mark_of, numbered}
use Rattle.mp_net.specs.Turned.{asked, heads_of, keys, HaveHeads}
use Rattle.mp_net.specs.declared.mark.Mark.{Mark as Held}
use Rattle.mp_net.specs.declared.mark.Mark.TheVariants.{Named, Entered, Anything}

abbrev pub cmp : List ℕ → List ℕ → Ordering
cmp = slice_cmp nat_cmp

-- marks that ask for the same are the same
pub same_mark-is : (g h : Mark) → same_mark g h ≡ true → g ≡ h
same_mark-is (named m) (named n) e = ap named (same_name-is m n e)
same_mark-is (named m) (entered f k) e = cc
same_mark-is (named m) anything e = cc
same_mark-is (entered f k) (named n) e = cc
same_mark-is (entered f k) (entered g n) e =
    let a = and_parts (nat_eq f g) (nat_eq k n) e in
    ap (λ i. entered i k) (eqb-true f g a.0) ∙ ap (entered g) (eqb-true k n a.1)
same_mark-is (entered f k) anything e = cc
same_mark-is anything (named n) e = cc
same_mark-is anything (entered f k) e = cc
same_mark-is anything anything e = cc

-- lists that begin with different numbers are different
apart : {X : Type 0} (a b : ℕ) (xs ys : List ℕ) → a ∷ xs ≡ b ∷ ys → a < b → X
apart a b xs ys e h = let q : a ≡ b = cc in absurd (omega arith)

-- a mark is told by its numbers
pub mark_key-is : (g h : Mark) → mark_key g ≡ mark_key h → g ≡ h
mark_key-is (named m) (named n) e = let p : 0 ∷ m ≡ 0 ∷ n = e in let q : m ≡ n = cc in ap named q
mark_key-is (named m) (entered f k) e = apart 0 1 m (f ∷ k ∷ []) e (omega arith)
mark_key-is (named m) anything e = apart 0 2 m [] e (omega arith)
mark_key-is (entered f k) (named n) e = apart 0 1 n (f ∷ k ∷ []) (sym e) (omega arith)
mark_key-is (entered f k) (entered g n) e =
    let p : 1 ∷ f ∷ k ∷ [] ≡ 1 ∷ g ∷ n ∷ [] = e in
    let q : f ≡ g = cc in let r : k ≡ n = cc in ap (λ i. entered i k) q ∙ ap (entered g) r
mark_key-is (entered f k) anything e = apart 1 2 (f ∷ k ∷ []) [] e (omega arith)
mark_key-is anything (named n) e = apart 0 2 n [] (sym e) (omega arith)
mark_key-is anything (entered f k) e = apart 1 2 (f ∷ k ∷ []) [] (sym e) (omega arith)
mark_key-is anything anything e = refl

-- of two marks in order neither asks for the other
pub same_mark-less : (g h : Mark) → cmp (mark_key g) (mark_key h) ≡ Less → same_mark g h ≡ false
same_mark-less g h e = false_from_ne_true (same_mark g h) (λ p. irreflexive cmp nat_list_cmp_total (mark_key g)
    (subst (λ k. cmp (mark_key g) (mark_key k) ≡ Less) (sym (same_mark-is g h p)) e))

pub same_mark-greater : (g h : Mark) → cmp (mark_key h) (mark_key g) ≡ Less → same_mark g h ≡ false
same_mark-greater g h e = false_from_ne_true (same_mark g h) (λ p. irreflexive cmp nat_list_cmp_total (mark_key h)
    (subst (λ k. cmp (mark_key h) (mark_key k) ≡ Less) (same_mark-is g h p) e))

module _ {Y : Type 0} (f : Y → Mark) where
  -- a head stands in order before one at a later place
  pub less-later : (y : Y) (ys : List Y) (i : ℕ) (h : Mark)
      → AllByRecursion (λ k. cmp (mark_key (f y)) k ≡ Less) (map (λ z. mark_key (f z)) ys) → i < length ys
      → ((d : Y) → mark_key (f (get_or ys i d)) ≡ mark_key h) → cmp (mark_key (f y)) (mark_key h) ≡ Less
  less-later y ys i h up w k = subst (λ x. cmp (mark_key (f y)) x ≡ Less) (k y)
      (all_in (λ x. cmp (mark_key (f y)) x ≡ Less) (map (λ z. mark_key (f z)) ys) (mark_key (f (get_or ys i y))) up
      (in-key (λ z. mark_key (f z)) ys i y w))

  -- the edge of a head that stands at a place
  pub edge-found : (ys : List Y) (q i : ℕ) (h : Mark) → IsStrictlySortedBy cmp (map (λ y. mark_key (f y)) ys)
      → same_mark h h ≡ true → i < length ys → ((d : Y) → mark_key (f (get_or ys i d)) ≡ mark_key h)
      → Some (q + i) ≡ edge_of h (numbered q (map f ys))
  unfolding IsStrictlySortedBy
  edge-found [] q i h up s w k = absurd (omega arith)
  edge-found (y ∷ ys) q zero h up s w k =
      let t : same_mark (f y) h ≡ true = subst (λ g. same_mark g h ≡ true) (sym (mark_key-is (f y) h (k y))) s in
      let z : q + 0 ≡ q = omega arith in
      subst (λ b. Some (q + 0) ≡ (if b then Some q else edge_of h (numbered (suc q) (map f ys)))) (sym t) (ap Some z)
  edge-found (y ∷ ys) q (suc i) h up s w k =
      let t : same_mark (f y) h ≡ false =
      same_mark-less (f y) h (less-later y ys i h up.0 (omega arith) k) in
      let z : q + suc i ≡ suc q + i = omega arith in
      subst (λ b. Some (q + suc i) ≡ (if b then Some q else edge_of h (numbered (suc q) (map f ys)))) (sym t)
      (ap Some z ∙ edge-found ys (suc q) i h up.1 s (omega arith) k)

  -- a head that isn't there has no edge
  pub edge-none : (ys : List Y) (q : ℕ) (h : Mark) → (In (mark_key h) (map (λ y. mark_key (f y)) ys) → ⊥)
      → None ≡ edge_of h (numbered q (map f ys))
  edge-none [] q h n = refl
  edge-none (y ∷ ys) q h n =
      let t : same_mark (f y) h ≡ false =
      false_from_ne_true (same_mark (f y) h) (λ p. n (inl (ap mark_key (sym (same_mark-is (f y) h p))))) in
      subst (λ b. None ≡ (if b then Some q else edge_of h (numbered (suc q) (map f ys)))) (sym t)
      (edge-none ys (suc q) h (λ i. n (inr i)))

  -- and one that is there has one
  edge-there : (ys : List Y) (q : ℕ) (h : Mark) → same_mark h h ≡ true → In (mark_key h) (map (λ y. mark_key (f y)) ys)
      → edge_of h (numbered q (map f ys)) ≡ None → ⊥
  edge-there [] q h s i e = absurd i
  edge-there (y ∷ ys) q h s (inl i) e =
      let t : same_mark (f y) h ≡ true = subst (λ g. same_mark g h ≡ true) (mark_key-is h (f y) i) s in
      let p : Some q ≡ None =
      subst (λ b. (if b then Some q else edge_of h (numbered (suc q) (map f ys))) ≡ None) t e in
      cc
  edge-there (y ∷ ys) q h s (inr i) e =
      elim (same_mark (f y) h) as (λ b. (if b then Some q else edge_of h (numbered (suc q) (map f ys))) ≡ None → ⊥) [
        | true ↦ λ p. cc
        | false ↦ λ p. edge-there ys (suc q) h s i p
      ] e

  -- where a head has no edge, no rule asks for it
  pub none-asked : (os : List Open) (ys : List Y) (q : ℕ) (h : Mark)
      → AllByRecursion (λ g. In (mark_key g) (map (λ y. mark_key (f y)) ys)) (heads_of os)
      → edge_of h (numbered q (map f ys)) ≡ None → list_any (λ o. asks h o.rest) os ≡ false
  none-asked [] ys q h a e = refl
  none-asked (o ∷ os) ys q h a e = by_rest (λ b. none-asked os ys q h b e) o.rest a
    where
      other : (g : Mark) → In (mark_key g) (map (λ y. mark_key (f y)) ys) → same_mark g h ≡ false
      other g i = false_from_ne_true (same_mark g h) (λ p.
          edge-there ys q h (subst (λ x. same_mark x h ≡ true) (same_mark-is g h p) p)
          (subst (λ x. In (mark_key x) (map (λ y. mark_key (f y)) ys)) (same_mark-is g h p) i) e)

      by_rest : (AllByRecursion (λ g. In (mark_key g) (map (λ y. mark_key (f y)) ys)) (heads_of os)
          → list_any (λ u. asks h u.rest) os ≡ false)
          → (m : List Mark)
          → AllByRecursion (λ g. In (mark_key g) (map (λ y. mark_key (f y)) ys)) (cons_option (asked m) (heads_of os))
          → (asks h m || list_any (λ u. asks h u.rest) os) ≡ false
      by_rest i [] b = i b
      by_rest i (anything ∷ m) b = i b
      by_rest i (named n ∷ m) b = ap (λ c. c || list_any (λ u. asks h u.rest) os) (other (named n) b.0) ∙ i b.1
      by_rest i (entered g k ∷ m) b = ap (λ c. c || list_any (λ u. asks h u.rest) os) (other (entered g k) b.0) ∙ i b.1

-- an edge leads to the state of the place of its head
pub edge-place : (hs : List Mark) (q k : ℕ) (h : Mark) → edge_of h (numbered q hs) ≡ Some k
    → (i : ℕ) × (k ≡ q + i) × (slice_get hs i ≡ Some h)
edge-place [] q k h e = cc
edge-place (g ∷ hs) q k h e =
    elim (same_mark g h) as (λ b. same_mark g h ≡ b
    → (if b then Some q else edge_of h (numbered (suc q) hs)) ≡ Some k
    → (i : ℕ) × (k ≡ q + i) × (slice_get (g ∷ hs) i ≡ Some h)) [
      | true ↦ λ p c. let r : q ≡ k = cc in (0, omega arith, ap Some (same_mark-is g h p))
      | false ↦ λ p c. let r = edge-place hs (suc q) k h c in (suc r.0, omega (arith, r.1), r.2)
    ] refl e

-- what follows for each member of the keys holds of each item's key
pub all-members : {X Y : Type 0} (f : Y → X) (Q : X → Type 0) (ys : List Y) → ((x : X) → In x (map f ys) → Q x)
    → AllByRecursion (λ y. Q (f y)) ys
all-members f Q [] h = tt
all-members f Q (y ∷ ys) h = (h (f y) (inl refl), all-members f Q ys (λ x i. h x (inr i)))

-- the keys of marks
keys-mapped : (hs : List Held) → map mark_key (map mark_of hs) ≡ keys hs
keys-mapped [] = refl
keys-mapped (h ∷ hs) = ap (λ ks. mark_key (mark_of h) ∷ ks) (keys-mapped hs)

-- heads that have the keys of all that are asked for
pub have-heads : (os : List Open) (hs ks : List Held) → heads_of os ≡ map mark_of hs
    → ((x : List ℕ) → In x (keys hs) → In x (keys ks)) → HaveHeads os ks
have-heads os hs ks e f = subst (AllByRecursion (λ h. In (mark_key h) (keys ks))) (sym e)
    (all-members mark_key (λ x. In x (keys ks)) (map mark_of hs) (λ x i. f x (subst (In x) (keys-mapped hs) i)))

-- what isn't a wildcard asks for what it is
pub same_mark-itself : (h : Held) → (h ≡ Anything → ⊥) → same_mark (mark_of h) (mark_of h) ≡ true
same_mark-itself (Named n) e = same_name-itself n.now
same_mark-itself (Entered f k) e = ap (λ b. b && nat_eq k k) (eq-eqb f.0 f.0 refl) ∙ eq-eqb k k refl
same_mark-itself Anything e = absurd (e refl)
