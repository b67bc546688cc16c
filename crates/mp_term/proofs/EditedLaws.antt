-- What no edit stands at or below stays as it is.
use Rattle.std.proofs.Common.{◌≡◌, ◌∙◌, refl, ap, sym, ℕ, suc, ◌+◌, ◌<◌, Bool, true, false, cond, arith}
use Rattle.std.proofs.Common.{List, [], ◌∷◌, ◌++◌, length, get_or, map, drop, eq-eqb, eqb-true, add-one}
use Rattle.std.proofs.Common.{drop-cons, length-append}
use Rattle.std.specs.Option.{option_map_or}
use Rattle.std.specs.Prelude.{Option, Some, None, find, bytes_eq, nat_eq, option_map, unwrap_or}
use Rattle.std.specs.List.{starts_with, list_any}
use Rattle.std.proofs.lemmas.Bool.{and_parts, and_from}
use Rattle.mp_term.specs.declared.edit.Edit.{Edit}
use Rattle.mp_term.specs.Tree.{Tree, symbol, app, Trees, no_trees, more_trees, tree_list, trees}
use Rattle.mp_term.specs.TreeLists.{trees-tree_list}
use Rattle.mp_term.specs.Edited.{new_terms, edited_below, edited_args, edited_at}
use Rattle.std.proofs.Common.{◌&&◌, ◌||◌, ◌≤◌}
use Rattle.std.proofs.Math.Bool.{and-false}
use Rattle.mp_term.proofs.ListLaws.{drop-item, bool_same}
use Rattle.mp_term.proofs.NormalTestLaws.{&&-swap}

nat_eq-sym : (i j : ℕ) → nat_eq i j ≡ true → nat_eq j i ≡ true
nat_eq-sym i j h = eq-eqb j i (sym (eqb-true i j h))

nat_eq-swap : (i j : ℕ) → nat_eq i j ≡ nat_eq j i
nat_eq-swap i j = bool_same (nat_eq i j) (nat_eq j i) (nat_eq-sym i j) (nat_eq-sym j i)

-- a position begins with an equal one
pub starts-equal : (p q : List ℕ) → bytes_eq p q ≡ true → starts_with nat_eq p q ≡ true
starts-equal [] [] h = refl
starts-equal [] (j ∷ q) h = cc
starts-equal (i ∷ p) [] h = cc
starts-equal (i ∷ p) (j ∷ q) h =
    let r = and_parts _ _ h in
    and_from _ _ (nat_eq-sym i j r.0) (starts-equal p q r.1)

-- the position of an argument, or one below it
pub starts-argument : (p q : List ℕ) (i : ℕ) → length q < length p
    → starts_with nat_eq p (q ++ i ∷ []) ≡ (nat_eq (get_or p (length q) 0) i && starts_with nat_eq p q)
starts-argument [] q i h = absurd (omega arith)
starts-argument (j ∷ p) [] i h = rw (nat_eq-swap i j) refl
starts-argument (j ∷ p) (k ∷ q) i h =
    ap (λ b. nat_eq k j && b) (starts-argument p q i (omega arith))
    ∙ &&-swap (nat_eq k j) (nat_eq (get_or p (length q) 0) i) (starts_with nat_eq p q)

pub starts-short : (p q : List ℕ) (i : ℕ) → length p ≤ length q → starts_with nat_eq p (q ++ i ∷ []) ≡ false
starts-short [] [] i h = refl
starts-short [] (k ∷ q) i h = refl
starts-short (j ∷ p) [] i h = absurd (omega arith)
starts-short (j ∷ p) (k ∷ q) i h = rw (starts-short p q i (omega arith), and-false (nat_eq k j)) refl

-- a position begins with each front of what it begins with
pub starts-front : (p q r : List ℕ) → starts_with nat_eq p (q ++ r) ≡ true → starts_with nat_eq p q ≡ true
starts-front p [] r h = refl
starts-front [] (j ∷ q) r h = cc
starts-front (i ∷ p) (j ∷ q) r h = let s = and_parts _ _ h in and_from _ _ s.0 (starts-front p q r s.1)

module _ {X : Type 0} (f g : X → Bool) (implies : (x : X) → g x ≡ true → f x ≡ true) where
  none_at : (x : X) (xs : List X) (b c : Bool) → (b ≡ true → c ≡ true) → cond c (Some x) (find f xs) ≡ None
      → (find f xs ≡ None → find g xs ≡ None) → cond b (Some x) (find g xs) ≡ None
  none_at x xs true true i h rest = cc
  none_at x xs true false i h rest = let e = i refl in cc
  none_at x xs false true i h rest = cc
  none_at x xs false false i h rest = rest h

  -- a narrower test finds nothing where a wider one finds nothing
  pub find-none : (xs : List X) → find f xs ≡ None → find g xs ≡ None
  find-none [] h = refl
  find-none (x ∷ xs) h = none_at x xs (g x) (f x) (implies x) h (find-none xs)

module _ {X : Type 0} (test : X → Bool) where
  any_at : (x : X) (xs : List X) (b : Bool) → (b || list_any test xs) ≡ false
      → (list_any test xs ≡ false → find test xs ≡ None) → cond b (Some x) (find test xs) ≡ None
  any_at x xs true h rest = cc
  any_at x xs false h rest = rest h

  -- where no item passes, none is found
  pub none-found : (xs : List X) → list_any test xs ≡ false → find test xs ≡ None
  none-found [] h = refl
  none-found (x ∷ xs) h = any_at x xs (test x) h (none-found xs)

module _ (es : List Edit) where
  -- no edit stands at the position or below it
  abbrev pub IsUntouched : List ℕ → Type 0
  IsUntouched p = find (λ e. starts_with nat_eq e.position p) es ≡ None

  untouched-here : (p : List ℕ) → IsUntouched p → new_terms es p ≡ None
  untouched-here p h =
      ap (option_map (λ e. e.terms)) (find-none (λ (e : Edit). starts_with nat_eq e.position p)
      (λ (e : Edit). bytes_eq e.position p) (λ e same. starts-equal e.position p same) es h)

  untouched-argument : (p : List ℕ) (i : ℕ) → IsUntouched p → IsUntouched (p ++ i ∷ [])
  untouched-argument p i h =
      find-none (λ (e : Edit). starts_with nat_eq e.position p)
      (λ (e : Edit). starts_with nat_eq e.position (p ++ i ∷ []))
      (λ e within. starts-front e.position p (i ∷ []) within) es h

  mutual
    pub untouched-below : (p : List ℕ) (t : Tree) → IsUntouched p → edited_below es p t ≡ t
    untouched-below p (symbol n) h = refl
    untouched-below p (app f ts) h = ap (λ us. app f (trees us)) (untouched-args p 0 ts h)
        ∙ ap (app f) (trees-tree_list ts)

    untouched-args : (p : List ℕ) (i : ℕ) (ts : Trees) → IsUntouched p → edited_args es p i ts ≡ tree_list ts
    untouched-args p i no_trees h = refl
    untouched-args p i (more_trees t ts) h =
        let q = p ++ i ∷ [] in
        let u = untouched-argument p i h in
        (λ j. unwrap_or (untouched-here q u j) (untouched-below q t u j ∷ []) ++ untouched-args p (suc i) ts h j)

  -- a tree where no edit stands stays
  pub untouched : (p : List ℕ) (t : Tree) → IsUntouched p → edited_at es p t ≡ t ∷ []
  untouched p t h = λ j. unwrap_or (untouched-here p h j) (untouched-below p t h j ∷ [])

  -- arguments at and below which no edit stands stay in front of those behind them
  pub untouched-front : (p : List ℕ) (us vs : List Tree) (i : ℕ)
      → ((k : ℕ) → i ≤ k → k < i + length us → IsUntouched (p ++ k ∷ []))
      → edited_args es p i (trees (us ++ vs)) ≡ us ++ edited_args es p (i + length us) (trees vs)
  untouched-front p [] vs i h = ap (λ k. edited_args es p k (trees vs)) (omega arith)
  untouched-front p (u ∷ us) vs i h =
      let here = untouched (p ++ i ∷ []) u (h i (omega arith) (omega arith)) in
      let rest = untouched-front p us vs (suc i) (λ k low high. h k (omega arith) (omega arith))
      ∙ ap (λ k. us ++ edited_args es p k (trees vs)) (omega arith) in
      λ j. here j ++ rest j

  -- the edited arguments from an index on are what stands in place of the argument there, and those behind it
  pub edited_args-item : {X : Type 0} (f : X → Tree) (p : List ℕ) (items : List X) (i : ℕ) (x : X)
      → i < length items → x ≡ get_or items i x
      → edited_args es p i (trees (map f (drop i items)))
      ≡ edited_at es (p ++ i ∷ []) (f x) ++ edited_args es p (i + 1) (trees (map f (drop (i + 1) items)))
  edited_args-item f p items i x within is =
      ap (λ xs. edited_args es p i (trees (map f xs))) (drop-item items i x within is)
      ∙ ap (λ k. edited_at es (p ++ i ∷ []) (f x) ++ edited_args es p k (trees (map f (drop (i + 1) items))))
      (sym (add-one i))

  -- an edit at the position gives its terms, and without one the tree stands there with the edits below it
  pub edited_at-found : (p : List ℕ) (t : Tree) (e : Edit) → Some e ≡ find (λ e. bytes_eq e.position p) es
      → edited_at es p t ≡ e.terms
  edited_at-found p t e h = λ j. unwrap_or (option_map (λ e. e.terms) (sym h j)) (edited_below es p t ∷ [])

  pub edited_at-kept : (p : List ℕ) (t : Tree) → None ≡ find (λ e. bytes_eq e.position p) es
      → edited_at es p t ≡ edited_below es p t ∷ []
  edited_at-kept p t h = λ j. unwrap_or (option_map (λ e. e.terms) (sym h j)) (edited_below es p t ∷ [])

  -- how many terms stand at a position doesn't hang on the tree there
  pub length-edited_at : (p : List ℕ) (t : Tree) → length (edited_at es p t) ≡ option_map_or length (new_terms es p) 1
  length-edited_at p t = width (new_terms es p)
    where
      width : (o : Option (List Tree)) → length (unwrap_or o (edited_below es p t ∷ [])) ≡ option_map_or length o 1
      width None = refl
      width (Some ts) = refl

  -- where one term stands in place of each argument, there are as many arguments as before
  pub length-kept : (p : List ℕ) (i : ℕ) (ts : Trees)
      → ((k : ℕ) → option_map_or length (new_terms es (p ++ k ∷ [])) 1 ≡ 1)
      → length (edited_args es p i ts) ≡ length (tree_list ts)
  length-kept p i no_trees each = refl
  length-kept p i (more_trees t ts) each =
      omega (
        arith,
        length-append (edited_at es (p ++ i ∷ []) t) (edited_args es p (suc i) ts),
        length-edited_at (p ++ i ∷ []) t,
        each i,
        length-kept p (suc i) ts each,
      )

  pub width-untouched : (p : List ℕ) → IsUntouched p → option_map_or length (new_terms es p) 1 ≡ 1
  width-untouched p h = ap (λ o. option_map_or length o 1) (untouched-here p h)

  -- the number of arguments from an index on is what stands in place of the argument there, and those behind it
  pub length-edited_args : (p : List ℕ) (ts : List Tree) (i : ℕ) → i < length ts
      → length (edited_args es p i (trees (drop i ts)))
      ≡ option_map_or length (new_terms es (p ++ i ∷ [])) 1
      + length (edited_args es p (i + 1) (trees (drop (i + 1) ts)))
  length-edited_args p ts i within =
      let t = get_or ts i (symbol []) in
      let front = edited_at es (p ++ i ∷ []) t in
      let behind = edited_args es p (i + 1) (trees (drop (i + 1) ts)) in
      let e : edited_args es p i (trees (drop i ts)) ≡ front ++ behind =
      ap (λ us. edited_args es p i (trees us)) (drop-cons ts i (symbol []) within)
      ∙ (λ j. front ++ edited_args es p (sym (add-one i) j) (trees (drop (sym (add-one i) j) ts))) in
      ap length e ∙ length-append front behind ∙ ap (λ n. n + length behind) (length-edited_at (p ++ i ∷ []) t)
