-- Which edits are looked at below a position, and which arguments are passed over.
use Rattle.std.proofs.Common.{◌≡◌, ◌∙◌, refl, ap, sym, ℕ, suc, ◌+◌, ◌<◌, ◌≤◌, Bool, true, false, ◌&&◌, arith}
use Rattle.std.proofs.Common.{List, [], ◌∷◌, ◌++◌, ◌-◌, length, get_or, map, take, drop, length-append, length-drop}
use Rattle.std.specs.Prelude.{Option, Some, None, find, bytes_eq, nat_eq, option_map, unwrap_or, cond}
use Rattle.std.specs.Option.{option_or, option_map_or}
use Rattle.std.specs.List.{starts_with}
use Rattle.std.proofs.lemmas.List.{take_more, take-append-drop, length-map, length-take-le, map-append, append-nil}
use Rattle.std.proofs.lemmas.List.{drop_all, drop-map, drop-drop}
use Rattle.std.proofs.lemmas.List.Folds.{find-append}
use Rattle.mp_term.specs.declared.edit.Edit.{Edit}
use Rattle.mp_term.specs.Tree.{Tree, symbol, app, Trees, no_trees, more_trees, trees}
use Rattle.mp_term.specs.Edited.{new_terms, edited_below, edited_args, edited_at}
use Rattle.mp_term.specs.EditWalk.{is_within, AreUntouched, IsNext, FindsSame}
use Rattle.mp_term.proofs.EditedLaws.{starts-argument, starts-equal, starts-front, none-found}
use Rattle.mp_term.proofs.EditedLaws.{untouched-front, edited_args-item, length-edited_args}

-- ---- the position of an argument

pub starts-other : (p q : List ℕ) (i : ℕ) → length q < length p → nat_eq (get_or p (length q) 0) i ≡ false
    → starts_with nat_eq p (q ++ i ∷ []) ≡ false
starts-other p q i h other = starts-argument p q i h ∙ ap (λ b. b && starts_with nat_eq p q) other

-- ---- the edits below a position

-- a narrower test fails where a wider one does
pub narrower-fails : (a b : Bool) → (a ≡ true → b ≡ true) → b ≡ false → a ≡ false
narrower-fails true b f h = let e = f refl in cc
narrower-fails false b f h = refl

module _ {X : Type 0} (test : X → Bool) where
  without_last : (o : Option X) (x : X) → test x ≡ false → option_or o (find test (x ∷ [])) ≡ o
  without_last None x h = ap (λ b. cond b (Some x) None) h
  without_last (Some y) x h = refl

  -- an item that fails isn't found
  pub find-more : (xs : List X) (i : ℕ) (x : X) → i < length xs → x ≡ get_or xs i x → test x ≡ false
      → find test (take (i + 1) xs) ≡ find test (take i xs)
  find-more xs i x within is fails =
      ap (find test) (take_more xs i x within) ∙ ap (λ y. find test (take i xs ++ y ∷ [])) (sym is)
      ∙ find-append test (take i xs) (x ∷ []) ∙ without_last (find test (take i xs)) x fails

module _ (es ds : List Edit) where
  same-argument : (p : List ℕ) (i : ℕ) → FindsSame p es ds → FindsSame (p ++ i ∷ []) es ds
  same-argument p i same test narrow = same test (λ e h. starts-front e.position p (i ∷ []) (narrow e h))

  same-terms : (p : List ℕ) → FindsSame p es ds → new_terms ds p ≡ new_terms es p
  same-terms p same =
      ap (option_map (λ e. e.terms)) (same (λ e. bytes_eq e.position p) (λ e h. starts-equal e.position p h))

  mutual
    same-below : (p : List ℕ) (t : Tree) → FindsSame p es ds → edited_below ds p t ≡ edited_below es p t
    same-below p (symbol n) same = refl
    same-below p (app f ts) same = ap (λ us. app f (trees us)) (same-args p 0 ts same)

    same-args : (p : List ℕ) (i : ℕ) (ts : Trees) → FindsSame p es ds → edited_args ds p i ts ≡ edited_args es p i ts
    same-args p i no_trees same = refl
    same-args p i (more_trees t ts) same =
        let q = p ++ i ∷ [] in
        let here = same-argument p i same in
        let terms = same-terms q here in
        let below = same-below q t here in
        let rest = same-args p (suc i) ts same in
        λ j. unwrap_or (terms j) (below j ∷ []) ++ rest j

  -- where the same edits are found at and below a position, the same stands there after them
  pub same-edited : (p : List ℕ) (t : Tree) → FindsSame p es ds → edited_at ds p t ≡ edited_at es p t
  same-edited p t same =
      let terms = same-terms p same in
      let below = same-below p t same in
      λ j. unwrap_or (terms j) (below j ∷ [])

-- ---- the arguments that are passed over

module _ (es : List Edit) (p : List ℕ) {X : Type 0} (f : X → Tree) (items : List X) (i : ℕ) where
  -- the arguments from an index on, after all edits
  abbrev rest : ℕ → List Tree
  rest j = edited_args es p j (trees (map f (drop j items)))

  -- the items from the index to before another
  abbrev passed : ℕ → List X
  passed k = take (k - i) (drop i items)

  pub length-passed : (k : ℕ) → i ≤ k → k ≤ length items → length (map f (passed k)) ≡ k - i
  length-passed k low high =
      length-map (passed k) f ∙ length-take-le (k - i) (drop i items) (omega (arith, length-drop i items))

  -- arguments at and below which no edit stands stay
  pub passed-over : (k : ℕ) → i ≤ k → k ≤ length items → AreUntouched es p i k → rest i ≡ map f (passed k) ++ rest k
  passed-over k low high untouched =
      let count = length-passed k low high in
      let split : drop i items ≡ passed k ++ drop k items =
      sym (take-append-drop (k - i) (drop i items)) ∙ ap (λ xs. passed k ++ xs)
      (drop-drop (k - i) i items ∙ ap (λ n. drop n items) (omega arith)) in
      ap (λ xs. edited_args es p i (trees (map f xs))) split
      ∙ ap (λ ts. edited_args es p i (trees ts)) (map-append f (passed k) (drop k items))
      ∙ untouched-front es p (map f (passed k)) (map f (drop k items)) i
      (λ n from below. none-found (is_within (p ++ n ∷ [])) es (untouched n from (omega arith)))
      ∙ ap (λ n. map f (passed k) ++ edited_args es p n (trees (map f (drop k items)))) (omega arith)

  -- where none of the arguments is touched any more
  pub passed-to-end : i ≤ length items → AreUntouched es p i (length items) → rest i ≡ map f (passed (length items))
  passed-to-end low untouched =
      let none : drop (length items) items ≡ [] = drop_all (length items) items (omega arith) in
      passed-over (length items) low (omega arith) untouched
      ∙ ap (λ xs. map f (passed (length items)) ++ edited_args es p (length items) (trees (map f xs))) none
      ∙ append-nil (map f (passed (length items)))

  module _ (k : ℕ) (q : List ℕ) (next : IsNext es p i (length items) k q) where
    -- the next argument at or below which an edit may stand, and what is passed over in front of it
    pub next-item : (x : X) → x ≡ get_or items k x
        → rest i ≡ map f (passed k) ++ (edited_at es q (f x) ++ rest (k + 1))
    next-item x is =
        passed-over k next.low (omega (arith, next.high)) next.untouched
        ∙ ap (λ ts. map f (passed k) ++ ts) (edited_args-item es f p items k x next.high is
        ∙ ap (λ r. edited_at es r (f x) ++ rest (k + 1)) (sym next.position))

    -- how many arguments that are
    pub length-next : length (rest i)
        ≡ (k - i) + (option_map_or length (new_terms es q) 1 + length (rest (k + 1)))
    length-next =
        let ts = map f items in
        let mapped : (n : ℕ) → drop n ts ≡ map f (drop n items) = λ n. drop-map f n items in
        let here : length (rest k) ≡ option_map_or length (new_terms es q) 1 + length (rest (k + 1)) =
        ap (λ us. length (edited_args es p k (trees us))) (sym (mapped k))
        ∙ length-edited_args es p ts k (omega (arith, length-map items f, next.high))
        ∙ (λ j. option_map_or length (new_terms es (sym next.position j)) 1
        + length (edited_args es p (k + 1) (trees (mapped (k + 1) j)))) in
        omega (
          arith,
          ap length (passed-over k next.low (omega (arith, next.high)) next.untouched),
          length-append (map f (passed k)) (rest k),
          length-passed k next.low (omega (arith, next.high)),
          here,
        )
