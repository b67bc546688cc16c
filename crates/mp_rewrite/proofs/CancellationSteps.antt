-- The places of what a cancellation takes, and the step that it makes.
use Rattle.std.proofs.Common.{◌≡◌, ◌∙◌, ap, sym, refl, subst, ℕ, zero, suc, ◌+◌, ◌<◌, ◌≤◌, Bool, true, false}
use Rattle.std.proofs.Common.{List, [], ◌∷◌, length, arith, map, get_or, cond, ◌⊎◌, inl, inr, add-one}
use Rattle.std.specs.Prelude.{Option, Some, None, IfSome, slice_get, option_map}
use Rattle.std.specs.Borrow.{Bor}
use Rattle.std.specs.declared.cmp.Ordering.{Ordering}
use Rattle.std.specs.declared.cmp.Ordering.TheVariants.{Less, Equal, Greater}
use Rattle.std.specs.List.{insert, remove}
use Rattle.std.specs.Option.{option_or}
use Rattle.std.specs.Ordering.{is_gt, is_eq}
use Rattle.std.specs.List.Sorted.{IsPartitionPoint}
use Rattle.std.proofs.lemmas.Cmp.{tied_itself}
use Rattle.std.proofs.lemmas.List.{length-map, take_more, take_all}
use Rattle.std.proofs.lemmas.Option.{slice_get_within}
use Rattle.mp_term.specs.Pieces.{same}
use Rattle.mp_term.proofs.PiecesLaws.{same-itself}
use Rattle.mp_rewrite.proofs.Places.{first_of, map-get_or}
use Rattle.mp_term.specs.Tree.{Tree, symbol, app, trees}
use Rattle.mp_term.specs.Order.{tree_cmp}
use Rattle.mp_term.specs.OrderLaws.{tree_cmp_total, tree_same}
use Rattle.mp_term.specs.Size.{node_count, all_nodes, greatest_depth}
use Rattle.mp_term.specs.Normal.{IsNormal, in_order}
use Rattle.mp_term.specs.NormalTest.{ascending, has_head}
use Rattle.mp_term.proofs.Sorting.{tally, hit, hit_itself, none_below, AtLeast, Ascends}
use Rattle.mp_term.specs.declared.name.Name.{Name}
use Rattle.mp_term.specs.declared.term.OpId.{OpId}
use Rattle.mp_term.specs.declared.term.Term.{Term}
use Rattle.mp_term.specs.Signature.{Sig, is_assoc, is_comm}
use Rattle.mp_term.specs.View.{tree}
use Rattle.mp_term.proofs.TestLaws.{below_or_last, below_or_not}
use Rattle.mp_pattern.specs.PatternTree.{Pattern}
use Rattle.mp_rewrite.specs.declared.cancellation.Taken.{Taken}
use Rattle.mp_rewrite.specs.declared.taken.Places.{Places}
use Rattle.mp_rewrite.specs.declared.cancellation.Taken.TheVariants.{Symbol, Pair, Under}
use Rattle.mp_rewrite.specs.declared.cancellation.Cancellation.{Cancellation}
use Rattle.mp_pattern.specs.Admission.{Rule}
use Rattle.mp_theory.specs.OneList.{item_list, item_substs, one_list}
use Rattle.mp_theory.proofs.OneListLaws.{item_substs-item_list}
use Rattle.mp_rewrite.specs.Computed.{first_match}
use Rattle.mp_rewrite.proofs.PutBack.{in_order-ascending, put_one}
use Rattle.mp_rewrite.specs.Cancellation.{taking, taken_terms, AreApart, AreFirst, NoneLess, TakesAlone, IsPairAt}
use Rattle.mp_rewrite.specs.Cancellation.{IsUnderAt}
use Rattle.mp_rewrite.specs.Cancellation.{IsBoth, IsOnly}
use Rattle.mp_one.proofs.SameLaws.{tree_sound}

-- what one child takes
pub taken-one : {X : Type 0} (f : X → Pattern) (xs : List X) (x : X) (y : List ℕ) (o : Option Taken) → 1 ≤ length xs
    → length xs < 2 → x ≡ get_or xs 0 x
    → IfSome o (λ k. (u v : List ℕ) → AreApart k u v × (taking k u ≡ f x ∷ []))
    → IfSome o (λ k. (u : List ℕ) × AreApart k u y × (taking k u ≡ map f xs))
taken-one f xs x y None a b e h = tt
taken-one f xs x y (Some k) a b e h =
    let t = h [] y in (
      [],
      t.0,
      t.1 ∙ ap (map f)
          (ap (λ z. z ∷ []) e ∙ sym (take_more xs 0 x (omega (arith, a))) ∙ take_all 1 xs (omega (arith, b))),
    )

-- ---- counts of trees in an ascending list

abbrev hit_by : Ordering → ℕ
hit_by o = cond (is_eq o) 1 0

pub hit-apart : (z t : Tree) → (tree_cmp z t ≡ Equal → ⊥) → hit tree_cmp z t ≡ 0
hit-apart z t h = elim (tree_cmp z t) as (λ o. tree_cmp z t ≡ o → hit_by o ≡ 0)
    [ Less ↦ λ e. refl | Equal ↦ λ e. absurd (h e) | Greater ↦ λ e. refl ] refl

less-apart : (z t : Tree) → tree_cmp z t ≡ Less → tree_cmp z t ≡ Equal → ⊥
less-apart z t e q = let w : Less ≡ Equal = sym e ∙ q in cc

-- what is less than the first of an ascending list doesn't stand there
pub none-before : (z t : Tree) (ts : List Tree) → tree_cmp z t ≡ Less → AtLeast tree_cmp t ts
    → tally tree_cmp z (t ∷ ts) ≡ 0
none-before z t ts e a =
    omega (arith, hit-apart z t (less-apart z t e), none_below tree_cmp tree_cmp_total z t ts e a)

pub not_more : (t u : Tree) → is_gt (tree_cmp t u) ≡ false → (t ≡ u → ⊥) → tree_cmp t u ≡ Less
not_more t u g n = elim (tree_cmp t u) as (λ o. tree_cmp t u ≡ o → is_gt o ≡ false → o ≡ Less)
    [ Less ↦ λ e h. refl | Equal ↦ λ e h. absurd (n (tree_same t u e)) | Greater ↦ λ e h. cc ] refl g

-- where no tree before b stands at two places in turn, none that is less than b stands there twice
pub pair-none : (ts : List Tree) (i : ℕ) (b : Tree) → Ascends tree_cmp ts → slice_get ts i ≡ Some b
    → ((k : ℕ) → k < i → slice_get ts k ≡ slice_get ts (suc k) → ⊥) → (z : Tree) → tree_cmp z b ≡ Less
    → tally tree_cmp z ts ≤ 1
pair-none [] i b a e h z l = cc
pair-none (t ∷ ts) zero b a e h z l =
    let s : t ≡ b = cc in
    omega (arith, none-before z t ts (ap (tree_cmp z) s ∙ l) a.0)
pair-none (t ∷ []) (suc i) b a e h z l = cc
pair-none (t ∷ u ∷ ts) (suc i) b a e h z l =
    let rest = pair-none (u ∷ ts) i b a.1 e (λ k m. h (suc k) (omega (arith, m))) z l in
    elim (tree_cmp z t) as (λ o. tree_cmp z t ≡ o → tally tree_cmp z (t ∷ u ∷ ts) ≤ 1) [
      | Less ↦ λ q. omega (arith, rest, hit-apart z t (less-apart z t q))
      | Equal ↦ λ q.
          let s : z ≡ t = tree_same z t q in
          let below : tree_cmp z u ≡ Less = ap (λ v. tree_cmp v u) s
          ∙ not_more t u a.0.0 (λ p. h 0 (omega arith) (ap Some p)) in
          let one : hit tree_cmp z t ≡ 1 = ap (hit tree_cmp z) (sym s) ∙ hit_itself tree_cmp tree_cmp_total z in
          omega (arith, one, none-before z u ts below a.1.0)
      | Greater ↦ λ q.
          omega (arith, rest, hit-apart z t (λ p. let w : Greater ≡ Equal = sym q ∙ p in greater-apart w))
    ] refl
  where
    greater-apart : Greater ≡ Equal → ⊥
    greater-apart e = cc

-- a tree of an ascending list that is less than the one at a place stands at a place before
pub place-before : (ts : List Tree) (i : ℕ) (b z : Tree) → Ascends tree_cmp ts → slice_get ts i ≡ Some b
    → tree_cmp z b ≡ Less → 1 ≤ tally tree_cmp z ts → (k : ℕ) × (k < i) × (slice_get ts k ≡ Some z)
place-before [] i b z a e l n = cc
place-before (t ∷ ts) zero b z a e l n =
    let s : t ≡ b = cc in
    absurd (omega (arith, n, none-before z t ts (ap (tree_cmp z) s ∙ l) a.0))
place-before (t ∷ ts) (suc i) b z a e l n =
    elim (tree_cmp z t) as (λ o. tree_cmp z t ≡ o → (k : ℕ) × (k < suc i) × (slice_get (t ∷ ts) k ≡ Some z)) [
      | Less ↦ λ q. let r = place-before ts i b z a.1 e l (omega (arith, n, hit-apart z t (less-apart z t q))) in
          (suc r.0, omega (arith, r.1), r.2)
      | Equal ↦ λ q. (0, omega arith, ap Some (sym (tree_same z t q)))
      | Greater ↦ λ q.
          let r = place-before ts i b z a.1 e l
          (omega (arith, n, hit-apart z t (λ p. let w : Greater ≡ Equal = sym q ∙ p in greater-apart w))) in
          (suc r.0, omega (arith, r.1), r.2)
    ] refl
  where
    greater-apart : Greater ≡ Equal → ⊥
    greater-apart e = cc

-- a tree that equals none doesn't stand there
pub tally-none : (x : Tree) (ts : List Tree)
    → ((k : ℕ) (d : Tree) → k < length ts → tree_cmp (get_or ts k d) x ≡ Equal → ⊥) → tally tree_cmp x ts ≡ 0
tally-none x [] h = refl
tally-none x (t ∷ ts) h =
    omega (
      arith,
      hit-apart x t
          (λ e. h 0 t (omega arith) (ap (λ y. tree_cmp t y) (tree_same x t e) ∙ tied_itself tree_cmp_total t)),
      tally-none x ts (λ k d l. h (suc k) d (omega (arith, l))),
    )

-- ---- what is left

pub tally-remove : (z : Tree) (ts : List Tree) (i : ℕ) (t : Tree) → slice_get ts i ≡ Some t
    → tally tree_cmp z ts ≡ hit tree_cmp z t + tally tree_cmp z (remove ts i)
tally-remove z [] i t e = cc
tally-remove z (u ∷ ts) zero t e = let s : u ≡ t = cc in omega (arith, ap (hit tree_cmp z) s)
tally-remove z (u ∷ ts) (suc i) t e = omega (arith, tally-remove z ts i t e)

pub get-remove : {X : Type 0} (xs : List X) (i k : ℕ) → i < k → slice_get (remove xs k) i ≡ slice_get xs i
get-remove [] i zero l = refl
get-remove [] i (suc k) l = refl
get-remove (x ∷ xs) i zero l = absurd (omega arith)
get-remove (x ∷ xs) zero (suc k) l = refl
get-remove (x ∷ xs) (suc i) (suc k) l = get-remove xs i k (omega (arith, l))

pub length-removed : {X : Type 0} (xs : List X) (i : ℕ) (x : X) → slice_get xs i ≡ Some x
    → length xs ≡ suc (length (remove xs i))
length-removed [] i x e = cc
length-removed (y ∷ xs) zero x e = refl
length-removed (y ∷ xs) (suc i) x e = omega (arith, length-removed xs i x e)

pub nodes-remove : (ts : List Tree) (i : ℕ) (t : Tree) → slice_get ts i ≡ Some t
    → all_nodes ts ≡ node_count t + all_nodes (remove ts i)
nodes-remove [] i t e = cc
nodes-remove (u ∷ ts) zero t e = let s : u ≡ t = cc in omega (arith, ap node_count s)
nodes-remove (u ∷ ts) (suc i) t e = omega (arith, nodes-remove ts i t e)

pub depth-remove : (ts : List Tree) (i : ℕ)
    → greatest_depth (trees (remove ts i)) ≤ greatest_depth (trees ts)
depth-remove [] zero = omega arith
depth-remove [] (suc i) = omega arith
depth-remove (u ∷ ts) zero = omega arith
depth-remove (u ∷ ts) (suc i) = omega (arith, depth-remove ts i)

-- ---- the only argument

only-trees : (ts : List Tree) (v : Tree) → trees ts ≡ trees (v ∷ []) → length ts ≡ 1
only-trees [] v e = cc
only-trees (t ∷ []) v e = refl
only-trees (t ∷ u ∷ ts) v e = cc

pub not-only-length : (f g : ℕ) (t : Tree) (ts : List Tree) → t ≡ app g (trees ts) → (length ts ≡ 1 → ⊥) → (v : Tree)
    → t ≡ app f (trees (v ∷ [])) → ⊥
not-only-length f g t ts e n v h =
    let q : app g (trees ts) ≡ app f (trees (v ∷ [])) = sym e ∙ h in
    n (only-trees ts v (let i : trees ts ≡ trees (v ∷ []) = cc in i))

only-list : (ts : List Tree) (u : Tree) → length ts ≡ 1 → slice_get ts 0 ≡ Some u → ts ≡ u ∷ []
only-list [] u l e = cc
only-list (t ∷ []) u l e = let s : t ≡ u = cc in ap (λ v. v ∷ []) s
only-list (t ∷ v ∷ ts) u l e = absurd (omega (arith, l))

none-there : (ts : List Tree) → length ts ≡ 1 → slice_get ts 0 ≡ None → ⊥
none-there [] l e = omega (arith, l)
none-there (t ∷ ts) l e = cc

pub only-is : (f g : ℕ) (t : Tree) (ts : List Tree) (o : Option (Bor Term)) → t ≡ app g (trees ts) → g ≡ f
    → length ts ≡ 1 → slice_get ts 0 ≡ option_map (λ u. tree u.now) o → IsOnly f t o
only-is f g t ts None e n l h = λ v q. none-there ts l h
only-is f g t ts (Some u) e n l h =
    e ∙ ap (λ k. app k (trees ts)) n ∙ ap (λ us. app f (trees us)) (only-list ts (tree u.now) l h)

-- ---- what is taken first

module _ (sig : Sig) (d : Cancellation) (ts : List Tree) where
  pub first-symbol : (n : Bor Name) → d.taken ≡ Symbol n → (i : ℕ) → slice_get ts i ≡ Some (symbol n.now)
      → (d.leaves ≡ true → length ts ≡ 1 → ⊥) → AreFirst sig d ts (record { first = i; second = None })
  first-symbol n e i g l = record {
    b = symbol n.now;
    within = slice_get_within ts i (symbol n.now) g;
    alone = subst (TakesAlone sig d ts) (sym e) tt;
    whole = λ z. omega (
      arith,
      tally-remove z ts i (symbol n.now) g,
      ap (λ k. tally tree_cmp z (taken_terms k (symbol n.now))) e,
    );
    none_less = subst (λ k. NoneLess sig d ts k (symbol n.now)) (sym e) tt;
    left = λ q. some-left (length ts) (length (remove ts i)) (length-removed ts i (symbol n.now) g) (l q);
  }
    where
      some-left : (m n : ℕ) → m ≡ suc n → (m ≡ 1 → ⊥) → 1 ≤ n
      some-left m zero e h = absurd (h e)
      some-left m (suc n) e h = omega arith

  some-more : (m n : ℕ) → m ≡ suc (suc n) → (m ≡ 2 → ⊥) → 1 ≤ n
  some-more m zero e h = absurd (h e)
  some-more m (suc n) e h = omega arith

  first-two : (b a c : Tree) (i k : ℕ) (p : Places) → p ≡ record { first = i; second = Some k } → i < k
      → slice_get ts i ≡ Some a → slice_get ts k ≡ Some c
      → ((z : Tree) → tally tree_cmp z (taken_terms d.taken b) ≡ hit tree_cmp z a + hit tree_cmp z c)
      → TakesAlone sig d ts d.taken → NoneLess sig d ts d.taken b → (d.leaves ≡ true → length ts ≡ 2 → ⊥)
      → AreFirst sig d ts p
  first-two b a c i k p e l g h taken alone none left =
      let kept : slice_get (remove ts k) i ≡ Some a = get-remove ts i k l ∙ g in
      subst (AreFirst sig d ts) (sym e) (record {
        b = b;
        within = (l, slice_get_within ts k c h);
        alone = alone;
        whole = λ z. omega (arith, tally-remove z ts k c h, tally-remove z (remove ts k) i a kept, taken z);
        none_less = none;
        left = λ q. some-more (length ts) (length (remove (remove ts k) i))
            (length-removed ts k c h ∙ ap suc (length-removed (remove ts k) i a kept)) (left q);
      })

  pub first-pair : d.taken ≡ Pair → Ascends tree_cmp ts → (i : ℕ) (q : IsPairAt ts i) (p : Places)
      → IsBoth i (i + 1) p → (d.leaves ≡ true → length ts ≡ 2 → ⊥) → AreFirst sig d ts p
  first-pair e up i q p both left =
      first-two q.b q.b q.b i (i + 1) p (both.less (omega arith)) (omega arith) q.here
      (ap (slice_get ts) (add-one i) ∙ q.behind)
      (λ z. omega (arith, ap (λ k. tally tree_cmp z (taken_terms k q.b)) e)) (subst (TakesAlone sig d ts) (sym e) tt)
      (subst (λ k. NoneLess sig d ts k q.b) (sym e) (pair-none ts i q.b up q.here q.none)) left

  pub first-under : (h : OpId) → d.taken ≡ Under h → is_assoc sig h.0 ≡ false → Ascends tree_cmp ts → (q : ℕ × ℕ)
      (u : IsUnderAt d.op.0 h.0 ts q) (p : Places) → IsBoth q.0 q.1 p → (d.leaves ≡ true → length ts ≡ 2 → ⊥)
      → AreFirst sig d ts p
  first-under h e flat up q u p both left =
      let a = app h.0 (trees (u.b ∷ [])) in
      let alone : TakesAlone sig d ts d.taken = subst (TakesAlone sig d ts) (sym e) flat in
      let none : NoneLess sig d ts d.taken u.b = subst (λ k. NoneLess sig d ts k u.b) (sym e)
      (λ v l n.
      let at = place-before ts q.0 a (app h.0 (trees (v ∷ []))) up u.here l n in
      u.none at.0 v at.1 at.2) in
      let taken : (z : Tree) → tally tree_cmp z (taken_terms d.taken u.b) ≡ hit tree_cmp z a + hit tree_cmp z u.b =
      λ z. omega (arith, ap (λ k. tally tree_cmp z (taken_terms k u.b)) e) in
      elim (ordered q.0 q.1) [
        | inl less ↦ first-two u.b a u.b q.0 q.1 p (both.less less) less u.here u.argument taken alone none left
        | inr rest ↦ elim rest [
          | inl same ↦ absurd (larger h.0 u.b (let r : Some a ≡ Some u.b =
              sym u.here ∙ ap (slice_get ts) same ∙ u.argument in
              let s : a ≡ u.b = cc in s))
          | inr more ↦ first-two u.b u.b a q.1 q.0 p (both.more (omega (arith, more))) more u.argument u.here
              (λ z. omega (arith, taken z)) alone none left
        ]
      ]
    where
      ordered : (i k : ℕ) → (i < k) ⊎ ((i ≡ k) ⊎ (k < i))
      ordered zero zero = inr (inl refl)
      ordered zero (suc k) = inl (omega arith)
      ordered (suc i) zero = inr (inr (omega arith))
      ordered (suc i) (suc k) = elim (ordered i k) [
        | inl l ↦ inl (omega (arith, l))
        | inr r ↦ elim r [ inl e ↦ inr (inl (ap suc e)) | inr l ↦ inr (inr (omega (arith, l))) ]
      ]

      larger : (f : ℕ) (b : Tree) → app f (trees (b ∷ [])) ≡ b → ⊥
      larger f b e = omega (arith, ap node_count e)

-- ---- the loops

pub pair-here : (ts : List Tree) (i : ℕ) (a b : Tree) (e : Bool) → slice_get ts i ≡ Some a
    → slice_get ts (i + 1) ≡ Some b → e ≡ same tree_cmp a b → e ≡ true
    → ((k : ℕ) → k < i → slice_get ts k ≡ slice_get ts (suc k) → ⊥) → IsPairAt ts i
pair-here ts i a b e g h q t none = record {
  b = a;
  here = g;
  behind = ap (slice_get ts) (sym (add-one i)) ∙ h ∙ ap Some (sym (tree_sound a b (sym q ∙ t)));
  none = none;
}

pub pair-step : (ts : List Tree) (i : ℕ) (a b : Tree) (e : Bool) → slice_get ts i ≡ Some a
    → slice_get ts (i + 1) ≡ Some b → e ≡ same tree_cmp a b → e ≡ false
    → ((k : ℕ) → k < i → slice_get ts k ≡ slice_get ts (suc k) → ⊥)
    → (k : ℕ) → k < i + 1 → slice_get ts k ≡ slice_get ts (suc k) → ⊥
pair-step ts i a b e g h q f none k l s =
    elim (below_or_last k i (omega (arith, l))) [
      | inl less ↦ none k less s
      | inr last ↦
          let r : Some a ≡ Some b = sym g ∙ ap (slice_get ts) (sym last) ∙ s
          ∙ ap (λ n. slice_get ts (suc n)) last ∙ ap (slice_get ts) (sym (add-one i)) ∙ h in
          let alike : a ≡ b = cc in
          let wrong : true ≡ false =
          sym (ap (same tree_cmp a) (sym alike) ∙ same-itself tree_cmp tree_cmp_total tree_same a) ∙ sym q ∙ f in
          never wrong
    ]
  where
    never : true ≡ false → ⊥
    never e = cc

abbrev NoneTo : ℕ → ℕ → List Tree → ℕ → Type 0
NoneTo f k ts n = (i : ℕ) (v : Tree) → i < n → slice_get ts i ≡ Some (app k (trees (v ∷ [])))
    → (has_head f v ≡ false) × (tally tree_cmp v ts ≡ 0)

pub under-here : (f k : ℕ) (ts : List Tree) (i n : ℕ) (t : Tree) → slice_get ts i ≡ Some t
    → ((b : Tree) × (t ≡ app k (trees (b ∷ []))) × (slice_get ts n ≡ Some b)) → NoneTo f k ts i
    → IsUnderAt f k ts (i, n)
under-here f k ts i n t g h none = record {
  b = h.0;
  here = g ∙ ap Some h.1;
  argument = h.2;
  none = none;
}

pub under-step : (f k : ℕ) (ts : List Tree) (i : ℕ) (t : Tree) → slice_get ts i ≡ Some t
    → ((v : Tree) → t ≡ app k (trees (v ∷ [])) → (has_head f v ≡ false) × (tally tree_cmp v ts ≡ 0))
    → NoneTo f k ts i → NoneTo f k ts (i + 1)
under-step f k ts i t g h none n v l e = elim (below_or_last n i (omega (arith, l))) [
  | inl less ↦ none n v less e
  | inr last ↦ h v (let r : Some t ≡ Some (app k (trees (v ∷ []))) = sym g ∙ ap (slice_get ts) (sym last) ∙ e in
      let s : t ≡ app k (trees (v ∷ [])) = cc in s)
]

-- an argument that a binary search doesn't find
pub not-found : {Y : Type 0} (f : Y → Tree) (ys : List Y) (i : ℕ) (x : Tree)
    → IsPartitionPoint (λ y. tree_cmp (f y) x ≡ Less) (λ y. tree_cmp (f y) x ≡ Greater) ys i
    → tally tree_cmp x (map f ys) ≡ 0
not-found {Y = Y} f ys i x p = tally-none x (map f ys) (λ k d l e. elim (below_or_not k i) [
  | inl less ↦ apart k d l e (λ y w. inl (p.0 k y (omega arith) less))
  | inr on ↦ apart k d l e (λ y w. inr (p.1 k y on w))
])
  where
    apart : (k : ℕ) (d : Tree) → k < length (map f ys) → tree_cmp (get_or (map f ys) k d) x ≡ Equal
        → ((y : Y) → k < length ys
        → (tree_cmp (f (get_or ys k y)) x ≡ Less) ⊎ (tree_cmp (f (get_or ys k y)) x ≡ Greater)) → ⊥
    apart k d l e h =
        let w : k < length ys = omega (arith, l, length-map ys f) in
        let y = first_of ys k w in
        let q : tree_cmp (f (get_or ys k y)) x ≡ Equal =
        ap (λ t. tree_cmp t x) (sym (map-get_or f ys k d y w)) ∙ e in
        elim (h y w) [
          | inl a ↦ less-equal (sym a ∙ q)
          | inr a ↦ greater-equal (sym a ∙ q)
        ]
      where
        less-equal : Less ≡ Equal → ⊥
        less-equal e = cc

        greater-equal : Greater ≡ Equal → ⊥
        greater-equal e = cc

pub same-argument : (k : ℕ) (t u v : Tree) → t ≡ app k (trees (u ∷ [])) → t ≡ app k (trees (v ∷ [])) → u ≡ v
same-argument k t u v e h =
    let q : app k (trees (u ∷ [])) ≡ app k (trees (v ∷ [])) = sym e ∙ h in
    let r : trees (u ∷ []) ≡ trees (v ∷ []) = cc in
    cc

-- ---- terms taken out and put in

pub put-sorted : (sig : Sig) (f k : ℕ) (ts : List Tree) (x : Tree) → is_comm sig f ≡ true → k ≤ length ts
    → ascending (insert ts k x) ≡ true → insert ts k x ≡ in_order sig f (x ∷ ts)
put-sorted sig f k ts x c l a =
    sym (in_order-ascending sig f (insert ts k x) (λ q. a))
    ∙ put_one sig f 0 k ts [] x (omega arith) (λ q. absurd (never (sym c ∙ q)))
  where
    never : true ≡ false → ⊥
    never e = cc

-- a rule that admits nothing is passed over
pub nothing-listed : (sig : Sig) (r : Rule) (rs : List Rule) (t : Tree) → one_list sig r t ≡ []
    → first_match sig (r ∷ rs) t ≡ first_match sig rs t
nothing-listed sig r rs t none =
    ap (λ ss. option_or (option_map (λ s. record { rule = r; subst = s }) (slice_get ss 0)) (first_match sig rs t)) none

-- so is one without items
pub no-match : (sig : Sig) (r : Rule) (rs : List Rule) (t : Tree) → IsNormal sig t → item_list sig r t ≡ []
    → first_match sig (r ∷ rs) t ≡ first_match sig rs t
no-match sig r rs t n e =
    nothing-listed sig r rs t (sym (item_substs-item_list sig r t n) ∙ ap item_substs e)
