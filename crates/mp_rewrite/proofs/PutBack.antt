-- Terms put in among the arguments of a normal application.
use Rattle.std.proofs.Common.{◌≡◌, ◌∙◌, ap, sym, refl, subst, ℕ, zero, suc, ◌+◌, ◌<◌, ◌≤◌, Bool, true, false, ◌&&◌, not}
use Rattle.std.proofs.Common.{List, [], ◌∷◌, ◌++◌, length, take, drop, arith, append_assoc, eqb-true, ◌⊎◌, inl, inr}
use Rattle.std.specs.Prelude.{slice_get, slice_set, Some, if◌then◌else◌}
use Rattle.std.specs.Prelude.{is_some}
use Rattle.std.specs.List.{insert, remove, AllByRecursion}
use Rattle.std.proofs.lemmas.Bool.{and_parts, not-true, not-false}
use Rattle.std.proofs.lemmas.List.{take-append-drop}
use Rattle.mp_term.specs.Tree.{Tree, symbol, app, trees}
use Rattle.mp_term.specs.TreeLists.{tree_list-trees}
use Rattle.mp_term.specs.Positions.{subterm}
use Rattle.mp_term.specs.Size.{node_count, node_counts, all_nodes}
use Rattle.mp_term.specs.Order.{tree_cmp}
use Rattle.mp_term.specs.OrderLaws.{tree_cmp_total, tree_same}
use Rattle.mp_term.specs.Sorting.{sorted}
use Rattle.mp_term.specs.Signature.{Sig, is_assoc, is_comm, is_one}
use Rattle.mp_term.specs.Normal.{parts, flattened, in_order, collapsed, normal, normals, IsNormal}
use Rattle.mp_term.specs.NormalTest.{has_head, ascending, passes, all_pass}
use Rattle.mp_term.proofs.Sorting.{tally, AtLeast, Ascends, tally-sorted, ascends-sorted, one_order}
use Rattle.mp_term.proofs.NormalTestLaws.{ascending-from, sorted-ascending, passes-normal, normal-passes}
use Rattle.mp_term.proofs.NormalLaws.{parts_same}
use Rattle.mp_term.proofs.NormalSize.{all_nodes-append, all_nodes-sorted}
use Rattle.mp_term.specs.Replaced.{replaced, replaced_argument}

-- the items on either side of one that was put in
pub take-insert : {X : Type 0} (xs : List X) (i : ℕ) (x : X) → i ≤ length xs → take i (insert xs i x) ≡ take i xs
take-insert xs zero x h = refl
take-insert [] (suc i) x h = absurd (omega arith)
take-insert (y ∷ xs) (suc i) x h = ap (λ ys. y ∷ ys) (take-insert xs i x (omega arith))

pub drop-insert : {X : Type 0} (xs : List X) (i : ℕ) (x : X) → i ≤ length xs → drop i (insert xs i x) ≡ x ∷ drop i xs
drop-insert xs zero x h = refl
drop-insert [] (suc i) x h = absurd (omega arith)
drop-insert (y ∷ xs) (suc i) x h = drop-insert xs i x (omega arith)

-- the last item, taken out
pub last-removed : {X : Type 0} (xs : List X) (i : ℕ) (x : X) → length xs ≡ suc i → slice_get xs i ≡ Some x
    → remove xs i ++ x ∷ [] ≡ xs
last-removed [] i x n e = cc
last-removed (y ∷ []) zero x n e = let s : x ≡ y = cc in ap (λ z. z ∷ []) s
last-removed (y ∷ z ∷ xs) zero x n e = absurd (omega (arith, n))
last-removed (y ∷ xs) (suc i) x n e = ap (λ ys. y ∷ ys) (last-removed xs i x (omega (arith, n)) e)

-- a list in which an item is replaced, by the items on either side
pub set-between : {X : Type 0} (xs : List X) (i : ℕ) (x : X) → i < length xs
    → slice_set xs i x ≡ take i (remove xs i) ++ (x ∷ drop i (remove xs i))
set-between [] i x h = absurd (omega (arith, h))
set-between (y ∷ xs) zero x h = refl
set-between (y ∷ xs) (suc i) x h = ap (λ l. y ∷ l) (set-between xs i x (omega (arith, h)))

pub set-insert : {X : Type 0} (xs : List X) (i : ℕ) (x : X) → i < length xs
    → slice_set xs i x ≡ insert (remove xs i) i x
set-insert [] i x h = absurd (omega (arith, h))
set-insert (y ∷ xs) zero x h = refl
set-insert (y ∷ xs) (suc i) x h = ap (λ l. y ∷ l) (set-insert xs i x (omega (arith, h)))

pub remove-set : {X : Type 0} (xs : List X) (i : ℕ) (x : X) → remove (slice_set xs i x) i ≡ remove xs i
remove-set [] zero x = refl
remove-set [] (suc i) x = refl
remove-set (y ∷ xs) zero x = refl
remove-set (y ∷ xs) (suc i) x = ap (λ l. y ∷ l) (remove-set xs i x)

pub tally-append : (z : Tree) (xs ys : List Tree)
    → tally tree_cmp z (xs ++ ys) ≡ tally tree_cmp z xs + tally tree_cmp z ys
tally-append z [] ys = omega arith
tally-append z (x ∷ xs) ys = omega (arith, tally-append z xs ys)

-- how often a tree stands in a list with others put in somewhere
tally-around : (z : Tree) (i : ℕ) (ts us : List Tree)
    → tally tree_cmp z (take i ts ++ (us ++ drop i ts)) ≡ tally tree_cmp z ts + tally tree_cmp z us
tally-around z i ts us =
    let both : tally tree_cmp z ts ≡ tally tree_cmp z (take i ts) + tally tree_cmp z (drop i ts) =
    ap (tally tree_cmp z) (sym (take-append-drop i ts)) ∙ tally-append z (take i ts) (drop i ts) in
    omega (
      arith,
      tally-append z (take i ts) (us ++ drop i ts),
      tally-append z us (drop i ts),
      both,
    )

-- lists with the same trees are sorted alike
pub sorted_same : (xs ys : List Tree) → ((z : Tree) → tally tree_cmp z xs ≡ tally tree_cmp z ys)
    → sorted tree_cmp xs ≡ sorted tree_cmp ys
sorted_same xs ys t =
    one_order tree_cmp tree_cmp_total tree_same (sorted tree_cmp xs) (sorted tree_cmp ys)
    (ascends-sorted tree_cmp tree_cmp_total xs) (ascends-sorted tree_cmp tree_cmp_total ys)
    (λ z. tally-sorted tree_cmp z xs ∙ t z ∙ sym (tally-sorted tree_cmp z ys))

-- the nodes of a list with others put in somewhere
pub nodes-around : (i : ℕ) (ts us : List Tree)
    → all_nodes (take i ts ++ (us ++ drop i ts)) ≡ all_nodes ts + all_nodes us
nodes-around i ts us =
    let both : all_nodes ts ≡ all_nodes (take i ts) + all_nodes (drop i ts) =
    ap all_nodes (sym (take-append-drop i ts)) ∙ all_nodes-append (take i ts) (drop i ts) in
    omega (
      arith,
      all_nodes-append (take i ts) (us ++ drop i ts),
      all_nodes-append us (drop i ts),
      both,
    )

-- ascending lists, as facts
pub ascends-from : (ts : List Tree) → ascending ts ≡ true → Ascends tree_cmp ts
ascends-from ts h = subst (Ascends tree_cmp) (sorted-ascending ts h) (ascends-sorted tree_cmp tree_cmp_total ts)

at_least-remove : (t : Tree) (ts : List Tree) (i : ℕ) → AtLeast tree_cmp t ts → AtLeast tree_cmp t (remove ts i)
at_least-remove t [] zero h = tt
at_least-remove t [] (suc i) h = tt
at_least-remove t (u ∷ ts) zero h = h.1
at_least-remove t (u ∷ ts) (suc i) h = (h.0, at_least-remove t ts i h.1)

pub ascends-remove : (ts : List Tree) (i : ℕ) → Ascends tree_cmp ts → Ascends tree_cmp (remove ts i)
ascends-remove [] zero h = tt
ascends-remove [] (suc i) h = tt
ascends-remove (t ∷ ts) zero h = h.1
ascends-remove (t ∷ ts) (suc i) h = (at_least-remove t ts i h.0, ascends-remove ts i h.1)

-- a list that ascends does so without one of its trees
pub ascending-remove : (ts : List Tree) (i : ℕ) → ascending ts ≡ true → ascending (remove ts i) ≡ true
ascending-remove ts i h = ascending-from (remove ts i) (ascends-remove ts i (ascends-from ts h))

module _ (sig : Sig) (f : ℕ) where
  pub all_nodes-in_order : (ts : List Tree) → all_nodes (in_order sig f ts) ≡ all_nodes ts
  all_nodes-in_order ts = elim (is_comm sig f) as (λ b. all_nodes (if b then sorted tree_cmp ts else ts) ≡ all_nodes ts)
      [ true ↦ all_nodes-sorted ts | false ↦ refl ]

  -- arguments that ascend where they have to are in order
  pub in_order-ascending : (ts : List Tree) → (is_comm sig f ≡ true → ascending ts ≡ true) → in_order sig f ts ≡ ts
  in_order-ascending ts h = elim (is_comm sig f) as
      (λ b. (b ≡ true → ascending ts ≡ true) → (if b then sorted tree_cmp ts else ts) ≡ ts)
      [ true ↦ λ a. sorted-ascending ts (a refl) | false ↦ λ a. refl ] h

  put_one-fixed : (i k : ℕ) (ts us : List Tree) (x : Tree) → i ≤ length ts → k ≡ i
      → take i (insert ts k x) ++ (us ++ drop i (insert ts k x)) ≡ take i ts ++ ((us ++ x ∷ []) ++ drop i ts)
  put_one-fixed i k ts us x h e =
      (λ j. take i (insert ts (e j) x) ++ (us ++ drop i (insert ts (e j) x)))
      ∙ (λ j. take-insert ts i x h j ++ (us ++ drop-insert ts i x h j))
      ∙ ap (λ l. take i ts ++ l) (sym (append_assoc us (x ∷ []) (drop i ts)))

  tally-put_one : (z : Tree) (i k : ℕ) (ts us : List Tree) (x : Tree)
      → tally tree_cmp z (take i (insert ts k x) ++ (us ++ drop i (insert ts k x)))
      ≡ tally tree_cmp z (take i ts ++ ((us ++ x ∷ []) ++ drop i ts))
  tally-put_one z i k ts us x =
      let one : tally tree_cmp z (insert ts k x) ≡ tally tree_cmp z ts + tally tree_cmp z (x ∷ []) =
      tally-around z k ts (x ∷ []) in
      omega (
        arith,
        tally-around z i (insert ts k x) us,
        tally-around z i ts (us ++ x ∷ []),
        tally-append z us (x ∷ []),
        one,
      )

  -- one of the terms that are put in stands among the arguments already, at the index or wherever it belongs
  pub put_one : (i k : ℕ) (ts us : List Tree) (x : Tree) → i ≤ length ts → (is_comm sig f ≡ false → k ≡ i)
      → in_order sig f (take i (insert ts k x) ++ (us ++ drop i (insert ts k x)))
      ≡ in_order sig f (take i ts ++ ((us ++ x ∷ []) ++ drop i ts))
  put_one i k ts us x h e =
      let before = take i ts ++ ((us ++ x ∷ []) ++ drop i ts) in
      let after = take i (insert ts k x) ++ (us ++ drop i (insert ts k x)) in
      elim (is_comm sig f) as (λ b. (b ≡ false → k ≡ i)
      → (if b then sorted tree_cmp after else after) ≡ (if b then sorted tree_cmp before else before)) [
        | true ↦ λ a. sorted_same after before (λ z. tally-put_one z i k ts us x)
        | false ↦ λ a. put_one-fixed i k ts us x h (a refl)
      ] e

  -- an application that isn't collapsed
  pub collapsed-open : (ts : List Tree) → (length ts ≡ 1 → ⊥) ⊎ (is_one sig f ≡ false)
      → collapsed sig f ts ≡ app f (trees ts)
  collapsed-open [] h = refl
  collapsed-open (t ∷ []) (inl h) = absurd (h refl)
  collapsed-open (t ∷ []) (inr e) = rw e refl
  collapsed-open (t ∷ u ∷ ts) h = refl

  -- an argument that f doesn't open
  pub stays : (t : Tree) (b : Bool) → is_assoc sig f ≡ b → (b && has_head f t) ≡ false → parts sig f t ≡ t ∷ []
  stays (symbol n) true q e = rw q refl
  stays (app g us) true q e = rw (q, e) refl
  stays t false q e = rw q refl

  -- one that it opens
  pub opened : (t : Tree) (g : ℕ) (ts : List Tree) → t ≡ app g (trees ts) → (is_assoc sig f && has_head f t) ≡ true
      → ts ≡ parts sig f t
  opened t g ts e h =
      let p = and_parts (is_assoc sig f) (has_head f t) h in
      let head : has_head f (app g (trees ts)) ≡ true = subst (λ u. has_head f u ≡ true) e p.1 in
      sym (ap (parts sig f) e ∙ parts_same sig f g ts (sym (eqb-true f g head)) p.0)

  -- what the test says of one argument
  pub passes-here : (t : Tree) (ts : List Tree) → all_pass sig f (trees (t ∷ ts)) ≡ true
      → (normal sig t ≡ t) × (parts sig f t ≡ t ∷ []) × (all_pass sig f (trees ts) ≡ true)
  passes-here t ts h =
      let p = and_parts _ _ h in
      let q = and_parts _ _ p.0 in
      (normal-passes sig t q.0, stays t (is_assoc sig f) refl (not-true _ q.1), p.1)

  -- arguments that pass stay as they are
  pub kept : (ts : List Tree) → all_pass sig f (trees ts) ≡ true → flattened sig f (normals sig (trees ts)) ≡ ts
  kept [] h = refl
  kept (t ∷ ts) h =
      let p = passes-here t ts h in
      let here : parts sig f (normal sig t) ≡ t ∷ [] = ap (parts sig f) p.0 ∙ p.1 in
      (λ j. here j ++ kept ts p.2 j)

  -- and so do all but the one in which a subterm is replaced
  kept_around : (i : ℕ) (p : List ℕ) (u : Tree) (ts : List Tree) (t : Tree) → all_pass sig f (trees ts) ≡ true
      → slice_get ts i ≡ Some t
      → flattened sig f (normals sig (replaced_argument i p u (trees ts)))
      ≡ take i (remove ts i) ++ (parts sig f (normal sig (replaced p u t)) ++ drop i (remove ts i))
  kept_around i p u [] t h e = cc
  kept_around zero p u (s ∷ ts) t h e =
      let same : s ≡ t = cc in
      (λ j. parts sig f (normal sig (replaced p u (same j))) ++ kept ts (passes-here s ts h).2 j)
  kept_around (suc i) p u (s ∷ ts) t h e =
      let q = passes-here s ts h in
      let here : parts sig f (normal sig s) ≡ s ∷ [] = ap (parts sig f) q.0 ∙ q.1 in
      (λ j. here j ++ kept_around i p u ts t q.2 e j)

  -- the normal form of a normal application in which a subterm is replaced
  pub normal-replaced : (i : ℕ) (p : List ℕ) (u : Tree) (ts : List Tree) (t : Tree) → all_pass sig f (trees ts) ≡ true
      → slice_get ts i ≡ Some t
      → normal sig (replaced (i ∷ p) u (app f (trees ts)))
      ≡ collapsed sig f (in_order sig f
      (take i (remove ts i) ++ (parts sig f (normal sig (replaced p u t)) ++ drop i (remove ts i))))
  normal-replaced i p u ts t h e = ap (λ l. collapsed sig f (in_order sig f l)) (kept_around i p u ts t h e)

  -- what a normal application says of its arguments
  pub arguments-pass : (ts : List Tree) → IsNormal sig (app f (trees ts))
      → (all_pass sig f (trees ts) ≡ true) × (is_comm sig f ≡ true → ascending ts ≡ true)
  arguments-pass ts h =
      let whole : passes sig (app f (trees ts)) ≡ true =
      subst (λ t. passes sig t ≡ true) h (passes-normal sig (app f (trees ts))) in
      let p = and_parts _ _ whole in
      let q = and_parts _ _ p.1 in
      let order : not (is_comm sig f && not (ascending ts)) ≡ true =
      subst (λ l. not (is_comm sig f && not (ascending l)) ≡ true) (tree_list-trees ts) q.0 in
      (q.1, λ c. ordered (is_comm sig f) c order)
    where
      ordered : (b : Bool) → b ≡ true → not (b && not (ascending ts)) ≡ true → ascending ts ≡ true
      ordered true c o = not-false _ (not-true _ o)
      ordered false c o = cc

  pub arguments-normal : (ts : List Tree) → all_pass sig f (trees ts) ≡ true → AllByRecursion (IsNormal sig) ts
  arguments-normal [] h = tt
  arguments-normal (t ∷ ts) h = let p = passes-here t ts h in (p.0, arguments-normal ts p.2)

  pub argument-normal : (ts : List Tree) (i : ℕ) (t : Tree) → all_pass sig f (trees ts) ≡ true
      → slice_get ts i ≡ Some t → IsNormal sig t
  argument-normal [] i t h e = cc
  argument-normal (s ∷ ts) zero t h e =
      let same : s ≡ t = cc in
      subst (IsNormal sig) same (passes-here s ts h).0
  argument-normal (s ∷ ts) (suc i) t h e = argument-normal ts i t (passes-here s ts h).2 e

-- the subterm at a position lies in an argument
pub there-within : (f : ℕ) (ts : List Tree) (i : ℕ) (p : List ℕ) → is_some (subterm (app f (trees ts)) (i ∷ p)) ≡ true
    → i < length ts
there-within f [] i p h = cc
there-within f (t ∷ ts) zero p h = omega arith
there-within f (t ∷ ts) (suc i) p h = omega (arith, there-within f ts i p h)

pub there-below : (f : ℕ) (ts : List Tree) (i : ℕ) (p : List ℕ) (t : Tree) → slice_get ts i ≡ Some t
    → is_some (subterm (app f (trees ts)) (i ∷ p)) ≡ true → is_some (subterm t p) ≡ true
there-below f [] i p t e h = cc
there-below f (s ∷ ts) zero p t e h = let same : s ≡ t = cc in subst (λ t. is_some (subterm t p) ≡ true) same h
there-below f (s ∷ ts) (suc i) p t e h = there-below f ts i p t e h

-- an empty list
-- the nodes of arguments of which one has a subterm replaced
pub nodes-replaced_argument : (i : ℕ) (p : List ℕ) (u : Tree) (ts : List Tree) (t : Tree) → slice_get ts i ≡ Some t
    → node_counts (replaced_argument i p u (trees ts)) ≡ node_count (replaced p u t) + all_nodes (remove ts i)
nodes-replaced_argument i p u [] t e = cc
nodes-replaced_argument zero p u (s ∷ ts) t e =
    let same : s ≡ t = cc in
    ap (λ x. node_count (replaced p u x) + all_nodes ts) same
nodes-replaced_argument (suc i) p u (s ∷ ts) t e = omega (arith, nodes-replaced_argument i p u ts t e)

-- a subterm of a normal application is replaced, at a position that leads into an argument
pub record IsInside (sig : Sig) (t : Tree) (q : List ℕ) (f : ℕ) (ts : List Tree) (i : ℕ) (p : List ℕ) : Type 0 where
  pub whole : t ≡ app f (trees ts)
  pub way : q ≡ i ∷ p
  pub there : is_some (subterm t q) ≡ true
  pub normal : IsNormal sig t

module _ (sig : Sig) (t : Tree) (q : List ℕ) (f : ℕ) (ts : List Tree) (i : ℕ) (p : List ℕ)
    (h : IsInside sig t q f ts i p) where
  inside-there : is_some (subterm (app f (trees ts)) (i ∷ p)) ≡ true
  inside-there = subst (λ u. is_some (subterm u (i ∷ p)) ≡ true) h.whole
      (subst (λ r. is_some (subterm t r) ≡ true) h.way h.there)

  inside-passes : (all_pass sig f (trees ts) ≡ true) × (is_comm sig f ≡ true → ascending ts ≡ true)
  inside-passes = arguments-pass sig f ts (subst (IsNormal sig) h.whole h.normal)

  pub inside-within : i < length ts
  inside-within = there-within f ts i p inside-there

  pub inside-below : (a : Tree) → slice_get ts i ≡ Some a → is_some (subterm a p) ≡ true
  inside-below a e = there-below f ts i p a e inside-there

  pub inside-normal : (a : Tree) → slice_get ts i ≡ Some a → IsNormal sig a
  inside-normal a e = argument-normal sig f ts i a inside-passes.0 e

  pub inside-ascending : is_comm sig f ≡ true → ascending (remove ts i) ≡ true
  inside-ascending c = ascending-remove ts i (inside-passes.1 c)

  inside-replaced : (u : Tree) → replaced q u t ≡ app f (replaced_argument i p u (trees ts))
  inside-replaced u = λ j. replaced (h.way j) u (h.whole j)

  -- the whole after the argument has been brought into normal form
  pub inside-result : (u a r m : Tree) → slice_get ts i ≡ Some a → r ≡ normal sig (replaced p u a)
      → m ≡ collapsed sig f (in_order sig f (take i (remove ts i) ++ (parts sig f r ++ drop i (remove ts i))))
      → m ≡ normal sig (replaced q u t)
  inside-result u a r m e n k =
      k ∙ ap (λ r. collapsed sig f (in_order sig f (take i (remove ts i) ++ (parts sig f r ++ drop i (remove ts i))))) n
      ∙ sym (normal-replaced sig f i p u ts a inside-passes.0 e) ∙ ap (normal sig) (sym (inside-replaced u))

  pub inside-nodes : (u a : Tree) → slice_get ts i ≡ Some a
      → node_count (replaced q u t) ≡ node_count (replaced p u a) + (all_nodes (remove ts i) + 1)
  inside-nodes u a e = omega (arith, ap node_count (inside-replaced u), nodes-replaced_argument i p u ts a e)
