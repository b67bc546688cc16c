-- The variables of a subpattern among those of the whole pattern, and their numbers in a trail.
use Rattle.std.proofs.Common.{◌≡◌, ℕ, zero, suc, ◌<◌, List, [], ◌∷◌, map, length, true, false, refl, ap, sym}
use Rattle.std.proofs.Common.{◌∙◌, ◌+◌, drop, subst, arith, inl, inr}
use Rattle.std.specs.Prelude.{Option, Some, None, slice_get, slice_index_or, position, option_map, if◌then◌else◌}
use Rattle.std.specs.List.{AllByRecursion}
use Rattle.mp_term.specs.Search.{In}
use Rattle.mp_term.specs.Signature.{Sig}
use Rattle.mp_term.proofs.SearchLaws.{from_in-append}
use Rattle.mp_term.proofs.ListingLaws.{all_in}
use Rattle.mp_term.proofs.SignatureLaws.{position-first, position-behind}
use Rattle.mp_pattern.specs.PatternTree.{Pattern, Patterns, symbol_pattern, app_pattern, wild_pattern, no_patterns}
use Rattle.mp_pattern.specs.PatternTree.{more_patterns}
use Rattle.mp_pattern.specs.Plan.{Variable}
use Rattle.mp_pattern.specs.Subpatterns.{subpatterns, all_subpatterns}
use Rattle.mp_pattern.specs.Value.{Value, IsFinal, Subst, same_name}
use Rattle.mp_pattern.specs.Variables.{uses, all_uses, variables}
use Rattle.mp_pattern.proofs.NameLaws.{same_name-is, same_name-itself}
use Rattle.mp_table.specs.Table.{Table}
use Rattle.mp_subst.specs.Bound.{value_in}
use Rattle.mp_subst.specs.Trail.{TrailEntry, AreFinal}
use Rattle.mp_theory.proofs.FirstsLaws.{from_in-firsts_after}
use Rattle.mp_theory.proofs.FirstItems.{in-firsts_after}
use Rattle.mp_search.specs.Reading.{set, subst_from}
use Rattle.mp_search.proofs.NumberLaws.{distinct-variables, names, in-names, in-names_right, in-slice_get}
use Rattle.mp_ac.specs.CommItems.{NoneTwice, IsTrail}
use Rattle.mp_ac.specs.Matcher.{number_among}
use Rattle.mp_ac.proofs.Taken.{once-distinct}

-- a variable has its name whatever it stands under
names-same : (f k : Option ℕ) (p : Pattern) → names (uses f p) ≡ names (uses k p)
names-same f k (symbol_pattern n) = refl
names-same f k (app_pattern g ps) = refl
names-same f k (wild_pattern w None) = refl
names-same f k (wild_pattern w (Some x)) = refl

-- the variables of a subpattern are variables of the pattern
module _ (c : Pattern) (k : Option ℕ) (y : List ℕ) (i : In y (names (uses k c))) where
  itself : (f : Option ℕ) (p : Pattern) → c ≡ p → In y (names (uses f p))
  itself f p e = subst (In y) (names-same k f p) (subst (λ d. In y (names (uses k d))) e i)

  mutual
    sub-named : (f : Option ℕ) (p : Pattern) → In c (subpatterns p) → In y (names (uses f p))
    sub-named f (symbol_pattern n) (inl e) = itself f (symbol_pattern n) e
    sub-named f (symbol_pattern n) (inr j) = absurd j
    sub-named f (wild_pattern w x) (inl e) = itself f (wild_pattern w x) e
    sub-named f (wild_pattern w x) (inr j) = absurd j
    sub-named f (app_pattern g ps) (inl e) = itself f (app_pattern g ps) e
    sub-named f (app_pattern g ps) (inr j) = all_sub-named (Some g) ps j

    all_sub-named : (f : Option ℕ) (ps : Patterns) → In c (all_subpatterns ps) → In y (names (all_uses f ps))
    all_sub-named f no_patterns j = absurd j
    all_sub-named f (more_patterns p ps) j =
        elim (from_in-append c (subpatterns p) (all_subpatterns ps) j) [
          | inl m ↦ in-names y (uses f p) (all_uses f ps) (sub-named f p m)
          | inr m ↦ in-names_right y (uses f p) (all_uses f ps) (all_sub-named f ps m)
        ]

pub sub-variables : (p c : Pattern) (n : ℕ) (y : List ℕ) → slice_get (subpatterns p) n ≡ Some c → In y (variables c)
    → In y (variables p)
sub-variables p c n y e i =
    elim (from_in-firsts_after same_name y [] (names (uses None c)) i) [
      | inl j ↦ absurd j
      | inr j ↦ in-firsts_after same_name same_name-is [] (names (uses None p)) y
          (inr (sub-named c None y j None p (in-slice_get (subpatterns p) n c e)))
    ]

-- where the number of a name stands
record Placed (vars : List ℕ) (xs : List Variable) (y : List ℕ) : Type 0 where
  place : ℕ
  named : slice_get (map (λ x. x.name) xs) place ≡ Some y
  number : slice_get vars place ≡ Some (number_among vars xs y)

placed : (vars : List ℕ) (xs : List Variable) (y : List ℕ) → length vars ≡ length xs → In y (map (λ x. x.name) xs)
    → Placed vars xs y
placed [] [] y e i = absurd i
placed (v ∷ vs) [] y e i = absurd i
placed [] (x ∷ xs) y e i = absurd (omega (arith, e))
placed (v ∷ vs) (x ∷ xs) y e i =
    elim (same_name y x.name) as (λ b. same_name y x.name ≡ b → Placed (v ∷ vs) (x ∷ xs) y) [
      | true ↦ λ q. record {
        place = 0;
        named = ap Some (sym (same_name-is y x.name q));
        number = ap (λ b. Some (if b then v else number_among vs xs y)) (sym q);
      }
      | false ↦ λ q.
          let r = placed vs xs y (omega (arith, e)) (behind q i) in
          record {
            place = suc r.place;
            named = r.named;
            number = r.number ∙ ap (λ b. Some (if b then v else number_among vs xs y)) (sym q);
          }
    ] refl
  where
    behind : same_name y x.name ≡ false → In y (x.name ∷ map (λ x. x.name) xs) → In y (map (λ x. x.name) xs)
    behind q (inl k) = let t : same_name y x.name ≡ true = subst (λ z. same_name y z ≡ true) k
        (same_name-itself y) in cc
    behind q (inr j) = j

-- the place of an item of a mapped list
pub get-map : {X Y : Type 0} (f : X → Y) (xs : List X) (i : ℕ) (v : Y) → slice_get (map f xs) i ≡ Some v
    → (x : X) × (slice_get xs i ≡ Some x) × (f x ≡ v)
get-map f [] i v e = cc
get-map f (x ∷ xs) zero v e = let k : f x ≡ v = cc in (x, refl, k)
get-map f (x ∷ xs) (suc i) v e = get-map f xs i v e

-- what stands once stands at one place
pub one-place : {X : Type 0} (xs : List X) (i j : ℕ) (x : X) → NoneTwice xs → slice_get xs i ≡ Some x
    → slice_get xs j ≡ Some x → i ≡ j
one-place [] i j x h e f = cc
one-place (y ∷ xs) zero zero x h e f = refl
one-place {X = X} (y ∷ xs) zero (suc j) x h e f =
    let k : y ≡ x = cc in absurd (h.0 (subst (λ z. In {X = X} z xs) (sym k) (in-slice_get xs j x f)))
one-place {X = X} (y ∷ xs) (suc i) zero x h e f =
    let k : y ≡ x = cc in absurd (h.0 (subst (λ z. In {X = X} z xs) (sym k) (in-slice_get xs i x e)))
one-place (y ∷ xs) (suc i) (suc j) x h e f = ap suc (one-place xs i j x h.1 e f)

-- distinct variables of a pattern have distinct numbers, which are numbers of variables
module _ (vars : List ℕ) (xs : List Variable) (own : List (List ℕ)) (many : length vars ≡ length xs)
    (among : (y : List ℕ) → In y own → In y (map (λ x. x.name) xs)) where
  pub own-distinct : NoneTwice own
      → ((i j v : ℕ) → slice_get vars i ≡ Some v → slice_get vars j ≡ Some v → i ≡ j)
      → (i j v : ℕ) → slice_get (map (number_among vars xs) own) i ≡ Some v
      → slice_get (map (number_among vars xs) own) j ≡ Some v → i ≡ j
  own-distinct once d i j v e f =
      let a = get-map (number_among vars xs) own i v e in
      let b = get-map (number_among vars xs) own j v f in
      let p = placed vars xs a.0 many (among a.0 (in-slice_get own i a.0 a.1)) in
      let q = placed vars xs b.0 many (among b.0 (in-slice_get own j b.0 b.1)) in
      let same : p.place ≡ q.place = d p.place q.place v (p.number ∙ ap Some a.2) (q.number ∙ ap Some b.2) in
      let names : Some a.0 ≡ Some b.0 =
      sym p.named ∙ ap (slice_get (map (λ x. x.name) xs)) same ∙ q.named in
      let name : a.0 ≡ b.0 = cc in
      one-place own i j b.0 once (a.1 ∙ names) b.1

  pub own-below : (n : ℕ) → AllByRecursion (λ v. v < n) vars
      → AllByRecursion (λ v. v < n) (map (number_among vars xs) own)
  own-below n h = each own among
    where
      each : (ys : List (List ℕ)) → ((y : List ℕ) → In y ys → In y (map (λ x. x.name) xs))
          → AllByRecursion (λ v. v < n) (map (number_among vars xs) ys)
      each [] k = tt
      each (y ∷ ys) k =
          let p = placed vars xs y many (k y (inl refl)) in (
            all_in (λ v. v < n) vars (number_among vars xs y) h
                (in-slice_get vars p.place (number_among vars xs y) p.number),
            each ys (λ z i. k z (inr i)),
          )

-- what a trail is read as has final values, each of a name of its own
set-final : (sig : Sig) (s : Subst) (x : List ℕ) (v : Value) → AllByRecursion (λ b. IsFinal sig b.value) s
    → IsFinal sig v
    → AllByRecursion (λ b. IsFinal sig b.value) (set s x v)
set-final sig [] x v h k = (k, tt)
set-final sig (b ∷ s) x v h k =
    elim (same_name b.name x) as
    (λ c. AllByRecursion (λ b. IsFinal sig b.value)
    (if c then record { name = b.name; value = v } ∷ s else b ∷ set s x v))
    [ true ↦ (k, h.1) | false ↦ (h.0, set-final sig s x v h.1 k) ]

from_in-set : (s : Subst) (x y : List ℕ) (v : Value) → In y (map (λ b. b.name) (set s x v))
    → In y (x ∷ map (λ b. b.name) s)
from_in-set [] x y v i = i
from_in-set (b ∷ s) x y v i =
    elim (same_name b.name x) as
    (λ c. In y (map (λ b. b.name) (if c then record { name = b.name; value = v } ∷ s else b ∷ set s x v))
    → In y (x ∷ b.name ∷ map (λ b. b.name) s)) [
      | true ↦ λ j. inr j
      | false ↦ λ j. elim j [
        | inl e ↦ inr (inl e)
        | inr m ↦ elim (from_in-set s x y v m) [ inl e ↦ inl e | inr n ↦ inr (inr n) ]
      ]
    ] i

set-once : (s : Subst) (x : List ℕ) (v : Value) → NoneTwice (map (λ b. b.name) s)
    → NoneTwice (map (λ b. b.name) (set s x v))
set-once [] x v h = (λ i. i, tt)
set-once (b ∷ s) x v h =
    elim (same_name b.name x) as (λ c. same_name b.name x ≡ c
    → NoneTwice (map (λ b. b.name) (if c then record { name = b.name; value = v } ∷ s else b ∷ set s x v))) [
      | true ↦ λ e. h
      | false ↦ λ e. (
        λ i. elim (from_in-set s x b.name v i) [
          | inl k ↦ (let t : same_name b.name x ≡ true = subst (λ z. same_name b.name z ≡ true) k
              (same_name-itself b.name) in cc)
          | inr m ↦ h.0 m
        ],
        set-once s x v h.1,
      )
    ] refl

pub read-trail : (sig : Sig) (t : Table) (name : ℕ → Option (List ℕ)) (s : Subst) (es : List TrailEntry)
    → AreFinal sig t es → IsTrail sig s → IsTrail sig (subst_from t name s es)
read-trail sig t name s [] h k = k
read-trail sig t name s (e ∷ es) h k =
    read-trail sig t name (elim (name e.var) [ None ↦ s | Some x ↦ set s x (value_in t e.value) ]) es h.1
    (elim (name e.var) as
    (λ o. IsTrail sig (elim o as (λ _. Subst) [ None ↦ s | Some x ↦ set s x (value_in t e.value) ])) [
      | None ↦ k
      | Some x ↦ record {
        final = set-final sig s x (value_in t e.value) k.final h.0;
        distinct = set-once s x (value_in t e.value) k.distinct;
      }
    ])

-- no variable stands twice
pub variables-once : (p : Pattern) → NoneTwice (variables p)
variables-once p = once-distinct (variables p) (distinct-variables p)

-- the number of a name, by its place
pub number-placed : (vars : List ℕ) (xs : List Variable) (y : List ℕ) → length vars ≡ length xs
    → number_among vars xs y
    ≡ elim (position (λ v. same_name y v.name) xs) as (λ _. ℕ) [ None ↦ 0 | Some i ↦ slice_index_or vars i 0 ]
number-placed [] [] y e = refl
number-placed (v ∷ vs) [] y e = absurd (omega (arith, e))
number-placed [] (x ∷ xs) y e = absurd (omega (arith, e))
number-placed (v ∷ vs) (x ∷ xs) y e =
    elim (same_name y x.name) as (λ b. same_name y x.name ≡ b → (if b then v else number_among vs xs y)
    ≡ elim (position (λ v. same_name y v.name) (x ∷ xs)) as (λ _. ℕ)
    [ None ↦ 0 | Some i ↦ slice_index_or (v ∷ vs) i 0 ]) [
      | true ↦ λ q. sym (ap number_at (position-first (λ v. same_name y v.name) x xs q))
      | false ↦ λ q. number-placed vs xs y (omega (arith, e))
          ∙ behind (position (λ v. same_name y v.name) xs)
          ∙ sym (ap number_at (position-behind (λ v. same_name y v.name) x xs q))
    ] refl
  where
    number_at : Option ℕ → ℕ
    number_at o = elim o as (λ _. ℕ) [ None ↦ 0 | Some i ↦ slice_index_or (v ∷ vs) i 0 ]

    next : (i : ℕ) → suc i ≡ i + 1
    next i = omega arith

    behind : (o : Option ℕ) → (elim o as (λ _. ℕ) [ None ↦ 0 | Some i ↦ slice_index_or vs i 0 ])
        ≡ number_at (option_map (λ i. i + 1) o)
    behind None = refl
    behind (Some i) = ap (λ j. slice_index_or (v ∷ vs) j 0) (next i)

-- the numbers from a variable on are its number and those from the next one on
pub variable-next : (vars : List ℕ) (xs ys : List Variable) (n : ℕ) (y : List ℕ)
    → Some y ≡ option_map (λ v. v.name) (slice_get ys n)
    → map (λ v. number_among vars xs v.name) (drop n ys)
    ≡ number_among vars xs y ∷ map (λ v. number_among vars xs v.name) (drop (n + 1) ys)
variable-next vars xs [] n y e = cc
variable-next vars xs (v ∷ ys) zero y e =
    let k : y ≡ v.name = cc in
    ap (λ z. number_among vars xs z ∷ map (λ v. number_among vars xs v.name) ys) (sym k)
variable-next vars xs (v ∷ ys) (suc n) y e =
    variable-next vars xs ys n y e
    ∙ ap (λ m. number_among vars xs y ∷ map (λ v. number_among vars xs v.name) (drop m (v ∷ ys))) (next n)
  where
    next : (n : ℕ) → suc (n + 1) ≡ suc n + 1
    next n = omega arith
