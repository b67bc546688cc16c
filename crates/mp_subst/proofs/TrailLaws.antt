-- Trails with one entry more, and trails that are cut.
use Rattle.std.proofs.Common.{◌≤◌, sym, ◌≡◌, ◌≢◌, ℕ, zero, suc, ◌<◌, ◌-◌, Bool, true, false, List, []}
use Rattle.std.proofs.Common.{◌∷◌, ◌++◌, length, take}
use Rattle.std.proofs.Common.{refl, ap, ◌∙◌, subst, arith}
use Rattle.std.specs.Prelude.{Some, None, if◌then◌else◌, nat_eq, slice_get}
use Rattle.std.specs.List.{AllByRecursion}
use Rattle.std.proofs.lemmas.Bool.Decides.{nat_tests}
use Rattle.std.proofs.lemmas.List.{take-take, length-take}
use Rattle.mp_term.proofs.ListLaws.{all-append}
use Rattle.mp_pattern.specs.Value.{Value, one, seq, bag, merge, same_terms}
use Rattle.mp_term.specs.Order.{tree_cmp}
use Rattle.mp_term.specs.Sorting.{sorted}
use Rattle.std.specs.Ordering.{is_eq}
use Rattle.mp_table.specs.Table.{Table}
use Rattle.mp_subst.specs.Bound.{Bound, value_in, IsBoundIn}
use Rattle.mp_subst.specs.Trail.{spare_at, TrailEntry, Trail, last_value, cut, with_entry, GoesWith, joined}

-- lists
pub take-behind : {X : Type 0} (xs ys : List X) → take (length xs) (xs ++ ys) ≡ xs
take-behind [] ys = refl
take-behind (x ∷ xs) ys = ap (λ zs. x ∷ zs) (take-behind xs ys)

pub get-behind : {X : Type 0} (xs ys : List X) (y : X) → slice_get (xs ++ y ∷ ys) (length xs) ≡ Some y
get-behind [] ys y = refl
get-behind (x ∷ xs) ys y = get-behind xs ys y

pub all-take : {X : Type 0} (P : X → Type 0) (n : ℕ) (xs : List X) → AllByRecursion P xs → AllByRecursion P (take n xs)
all-take P zero xs h = tt
all-take P (suc n) [] h = tt
all-take P (suc n) (x ∷ xs) h = (h.0, all-take P n xs h.1)

pub item_at : {X : Type 0} (xs : List X) (i : ℕ) → i < length xs → (x : X) × (slice_get xs i ≡ Some x)
item_at [] i h = absurd (omega (arith, h))
item_at (x ∷ xs) zero h = (x, refl)
item_at (x ∷ xs) (suc i) h = item_at xs i (omega (arith, h))

get-end : {X : Type 0} (xs : List X) → slice_get xs (length xs) ≡ None
get-end [] = refl
get-end (x ∷ xs) = get-end xs

pub take-whole : {X : Type 0} (xs : List X) → take (length xs) xs ≡ xs
take-whole [] = refl
take-whole (x ∷ xs) = ap (λ zs. x ∷ zs) (take-whole xs)

-- the value of an optional one
pub some_same : (b : Bool) (v u : Value) → (if b then Some v else None) ≡ Some u → v ≡ u
some_same true v u e = cc
some_same false v u e = cc

-- two values merge to one of them
merge-either : (P : Value → Type 0) (v w u : Value) → P v → P w → merge v w ≡ Some u → P u
merge-either P (one t) (one s) u p q e = subst P (some_same (is_eq (tree_cmp t s)) (one t) u e) p
merge-either P (one t) (seq ss) u p q e = cc
merge-either P (one t) (bag ss) u p q e = cc
merge-either P (seq ts) (one s) u p q e = cc
merge-either P (seq ts) (seq ss) u p q e = subst P (some_same (same_terms ts ss) (seq ts) u e) p
merge-either P (seq ts) (bag ss) u p q e =
    subst P (some_same (same_terms (sorted tree_cmp ts) (sorted tree_cmp ss)) (seq ts) u e) p
merge-either P (bag ts) (one s) u p q e = cc
merge-either P (bag ts) (seq ss) u p q e =
    subst P (some_same (same_terms (sorted tree_cmp ts) (sorted tree_cmp ss)) (seq ss) u e) q
merge-either P (bag ts) (bag ss) u p q e = subst P (some_same (same_terms ts ss) (bag ts) u e) p

-- the last value of a variable
own_value : (P : Bound → Type 0) (b : Bool) (v u : Bound) → P v → (if b then Some v else None) ≡ Some u → P u
own_value P true v u p e = let same : v ≡ u = cc in subst P same p
own_value P false v u p e = cc

pub last_value-all : (P : Bound → Type 0) (es : List TrailEntry) (x : ℕ) (b : Bound)
    → AllByRecursion (λ e. P e.value) es
    → last_value es x ≡ Some b → P b
last_value-all P [] x b h k = cc
last_value-all P (e ∷ es) x b h k =
    elim (last_value es x) as (λ o. last_value es x ≡ o
    → (elim o [ None ↦ if nat_eq e.var x then Some e.value else None | Some c ↦ Some c ]) ≡ Some b → P b) [
      | None ↦ λ _ l. own_value P (nat_eq e.var x) e.value b h.0 l
      | Some c ↦ λ i l. let same : c ≡ b = cc in subst P same (last_value-all P es x c h.1 i)
    ] refl k

-- what a variable stands for when it is bound too is the new value or a value of the trail
pub joined-either : (P : Value → Type 0) (table : Table) (es : List TrailEntry) (x : ℕ) (w u : Value)
    → AllByRecursion (λ e. P (value_in table e.value)) es → P w → joined table es x w ≡ Some u → P u
joined-either P table es x w u h q e =
    elim (last_value es x) as (λ o. last_value es x ≡ o
    → (elim o [ None ↦ Some w | Some b ↦ merge (value_in table b) w ]) ≡ Some u → P u) [
      | None ↦ λ _ l. let same : w ≡ u = cc in subst P same q
      | Some b ↦ λ i l.
          merge-either P (value_in table b) w u (last_value-all (λ c. P (value_in table c)) es x b h i) q l
    ] refl e

-- a value that is put on the stack is that of its variable, and of no other one
equal_numbers : (n : ℕ) → nat_eq n n ≡ true
equal_numbers n = grind (arith, nat_tests)

pub other_numbers : (m n : ℕ) → m ≢ n → nat_eq m n ≡ false
other_numbers m n h = elim (nat_eq m n) as (λ b. nat_eq m n ≡ b → b ≡ false) [
  | true ↦ λ e. absurd (h (grind (arith, nat_tests)))
  | false ↦ λ _. refl
] refl

pub last_value-put : (es : List TrailEntry) (e : TrailEntry) → last_value (es ++ e ∷ []) e.var ≡ Some e.value
last_value-put [] e = rw (equal_numbers e.var) refl
last_value-put (d ∷ es) e = rw (last_value-put es e) refl

pub last_value-put_other : (es : List TrailEntry) (e : TrailEntry) (x : ℕ) → e.var ≢ x
    → last_value (es ++ e ∷ []) x ≡ last_value es x
last_value-put_other [] e x h = rw (other_numbers e.var x h) refl
last_value-put_other (d ∷ es) e x h = rw (last_value-put_other es e x h) refl

-- the spare room at a length, in the front of a stack
spare_at-take : (es : List TrailEntry) (m n k : ℕ) → m ≤ n
    → (elim (slice_get (take n es) m) as (λ _. ℕ) [
      | None ↦ elim (slice_get es n) as (λ _. ℕ) [ None ↦ k | Some e ↦ e.spare ]
      | Some e ↦ e.spare
    ])
    ≡ (elim (slice_get es m) as (λ _. ℕ) [ None ↦ k | Some e ↦ e.spare ])
spare_at-take es zero zero k h = refl
spare_at-take es (suc m) zero k h = absurd (omega (arith, h))
spare_at-take [] zero (suc n) k h = refl
spare_at-take [] (suc m) (suc n) k h = refl
spare_at-take (e ∷ es) zero (suc n) k h = refl
spare_at-take (e ∷ es) (suc m) (suc n) k h = spare_at-take es m n k (omega (arith, h))

-- trails
module _ (t : Trail) where
  pub cut-whole : cut (length t.stack) t ≡ t
  cut-whole =
      ap (λ o. record {
        vars = t.vars;
        room = t.room;
        spare = elim o as (λ _. ℕ) [ None ↦ t.spare | Some e ↦ e.spare ];
        stack = take (length t.stack) t.stack;
      }) (get-end t.stack)
      ∙ ap (λ es. record { vars = t.vars; room = t.room; spare = t.spare; stack = es }) (take-whole t.stack)

  module _ (x : ℕ) (b : Bound) (cost : ℕ) where
    pub cut-with_entry : cut (length t.stack) (with_entry t x b cost) ≡ t
    cut-with_entry =
        let e : TrailEntry = record { var = x; value = b; spare = t.spare } in
        ap (λ o. record {
          vars = t.vars;
          room = t.room;
          spare = elim o as (λ _. ℕ) [ None ↦ t.spare - cost | Some d ↦ d.spare ];
          stack = take (length t.stack) (t.stack ++ e ∷ []);
        }) (get-behind t.stack [] e)
        ∙ ap (λ es. record { vars = t.vars; room = t.room; spare = t.spare; stack = es }) (take-behind t.stack (e ∷ []))

    pub goes_with-with_entry : (table : Table) → GoesWith table t → IsBoundIn table b → x < t.vars
        → GoesWith table (with_entry t x b cost)
    goes_with-with_entry table g i h =
        let e : TrailEntry = record { var = x; value = b; spare = t.spare } in
        record {
          values = all-append (λ d. IsBoundIn table d.value) t.stack (e ∷ []) g.values (i, tt);
          variables = all-append (λ d. d.var < t.vars) t.stack (e ∷ []) g.variables (h, tt);
        }

  pub goes_with-cut : (table : Table) (n : ℕ) → GoesWith table t → GoesWith table (cut n t)
  goes_with-cut table n g = record {
    values = all-take (λ e. IsBoundIn table e.value) n t.stack g.values;
    variables = all-take (λ e. e.var < t.vars) n t.stack g.variables;
  }

-- a trail that was cut and is cut again
pub cut-cut : (m n : ℕ) (t : Trail) → m ≤ n → n ≤ length t.stack → cut m (cut n t) ≡ cut m t
cut-cut m n t h k =
    ap (λ s. record { vars = t.vars; room = t.room; spare = s; stack = take m (take n t.stack) })
    (spare_at-take t.stack m n t.spare h)
    ∙ ap (λ es. record { vars = t.vars; room = t.room; spare = spare_at t m; stack = es }) (take-take m n t.stack h)

-- what is cut to the stack of an earlier trail has no shorter one
pub length-kept : (t u : Trail) → cut (length t.stack) u ≡ t → length t.stack ≤ length u.stack
length-kept t u e = omega (arith, length-take (length t.stack) u.stack, ap (λ v. length v.stack) e)

-- of three trails each is cut to the one before, and then the last one to the first
pub cut-kept : (t u v : Trail) → cut (length t.stack) u ≡ t → cut (length u.stack) v ≡ u → cut (length t.stack) v ≡ t
cut-kept t u v e f =
    sym (cut-cut (length t.stack) (length u.stack) v (length-kept t u e) (length-kept u v f))
    ∙ ap (cut (length t.stack)) f ∙ e
