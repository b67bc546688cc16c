-- Binding as the search goes gives the same list, and a table is tested entry by entry.
use Rattle.std.proofs.Common.{◌≡◌, ℕ, zero, suc, List, [], ◌∷◌, ◌++◌, map, true, false, refl, ap, sym, ◌∙◌, subst, inl}
use Rattle.std.proofs.Common.{inr, append_assoc, append-nil}
use Rattle.std.specs.Prelude.{Option, Some, None, ◌↔◌, if◌then◌else◌, filter, filter_map, flat_map, option_map}
use Rattle.std.specs.Prelude.{option_and_then}
use Rattle.std.specs.List.{AllByRecursion, cons_option}
use Rattle.std.proofs.lemmas.List.Elements.{filter_map-append}
use Rattle.std.proofs.lemmas.Bool.{and_parts, and_from}
use Rattle.mp_term.specs.Order.{tree_cmp}
use Rattle.mp_term.specs.Tree.{Tree}
use Rattle.mp_term.specs.Signature.{Sig}
use Rattle.mp_term.specs.Normal.{IsNormal}
use Rattle.mp_pattern.specs.PatternTree.{Pattern}
use Rattle.mp_pattern.specs.Size.{pattern_nodes}
use Rattle.mp_pattern.specs.Value.{Subst}
use Rattle.mp_pattern.specs.Variables.{comm_above}
use Rattle.mp_pattern.specs.Fits.{Entry, Table, Fits}
use Rattle.mp_pattern.specs.Admission.{Rule, meets}
use Rattle.mp_pattern.specs.Firsts.{firsts_after}
use Rattle.mp_theory.specs.Solve.{Taken, given, bind, solve}
use Rattle.mp_theory.specs.Frames.{Next, ended, refused, child, settle, start}
use Rattle.mp_term.specs.Search.{In, words, Accepts}
use Rattle.mp_term.specs.Pieces.{is_piece}
use Rattle.mp_theory.specs.Machine.{is_ended, onward, said, takes, reads, choices, tables}
use Rattle.mp_theory.specs.OneList.{Item, same_subst, same_item, one_list, item_list}
use Rattle.mp_theory.specs.Trail.{listed_by, solutions, derivations, allows, has_shape, fitted}
use Rattle.mp_term.proofs.SearchLaws.{flat_map-same}
use Rattle.mp_theory.proofs.Merging.{mapped}
use Rattle.mp_theory.proofs.Walk.{choices-exact}
use Rattle.mp_theory.proofs.Tables.{tables-exact}
use Rattle.mp_theory.proofs.FitsSolves.{fits-solves, solves-fits}

-- `filter_map` over `flat_map`
filter_map-flat : {X Y Z : Type 0} (h : Y → Option Z) (f : X → List Y) (xs : List X)
    → filter_map h (flat_map f xs) ≡ flat_map (λ x. filter_map h (f x)) xs
filter_map-flat h f [] = refl
filter_map-flat h f (x ∷ xs) = filter_map-append h (f x) (flat_map f xs)
    ∙ ap (λ ys. filter_map h (f x) ++ ys) (filter_map-flat h f xs)

-- what holds of each item that `filter_map` keeps
pub all-filter_map : {X Y : Type 0} (P : Y → Type 0) (h : X → Option Y) (xs : List X)
    → ((x : X) (y : Y) → In x xs → h x ≡ Some y → P y) → AllByRecursion P (filter_map h xs)
all-filter_map P h [] k = tt
all-filter_map P h (x ∷ xs) k =
    elim (h x) as (λ o. h x ≡ o → AllByRecursion P (cons_option o (filter_map h xs))) [
      | None ↦ λ e. all-filter_map P h xs (λ z y i. k z y (inr i))
      | Some y ↦ λ e. (k x y (inl refl) e, all-filter_map P h xs (λ z w i. k z w (inr i)))
    ] refl

-- `listed_by` depends on what f gives
listed_by-same : {A B : Type 0} (f g : A → List B) → ((x : A) → f x ≡ g x) → (o : Option A)
    → listed_by f o ≡ listed_by g o
listed_by-same f g h None = refl
listed_by-same f g h (Some x) = h x

-- words that share a front, of which h looks at the front first
filter_map-front : {X Y A : Type 0} (h : List X → Option Y) (e : X) (front : Option A) (rest : A → List X → Option Y)
    (ws : List (List X)) → ((w : List X) → h (e ∷ w) ≡ option_and_then (λ r. rest r w) front)
    → filter_map h (map (λ w. e ∷ w) ws) ≡ listed_by (λ r. filter_map (rest r) ws) front
filter_map-front h e None rest [] k = refl
filter_map-front h e (Some r) rest [] k = refl
filter_map-front h e None rest (w ∷ ws) k = ap (λ o. cons_option o (filter_map h (map (λ w. e ∷ w) ws))) (k w)
    ∙ filter_map-front h e None rest ws k
filter_map-front h e (Some r) rest (w ∷ ws) k = ap (λ o. cons_option o (filter_map h (map (λ w. e ∷ w) ws))) (k w)
    ∙ ap (cons_option (rest r w)) (filter_map-front h e (Some r) rest ws k)

-- the item of a table and a substitution
abbrev item : Table → Subst → Item
item T s = (T, s)

module _ (sig : Sig) where
  -- takes one after the other
  pub solve-append : (s : Subst) (ts us : List Taken)
      → solve sig s (ts ++ us) ≡ option_and_then (λ r. solve sig r us) (solve sig s ts)
  solve-append s [] us = refl
  solve-append s (t ∷ ts) us =
      elim (given sig t.by.under t.by.wildcard t.terms) as
      (λ g. option_and_then (λ w. option_and_then (λ r. solve sig r (ts ++ us)) (bind s t.by.name w)) g
      ≡ option_and_then (λ r. solve sig r us)
      (option_and_then (λ w. option_and_then (λ r. solve sig r ts) (bind s t.by.name w)) g)) [
        | None ↦ refl
        | Some w ↦ elim (bind s t.by.name w) as
            (λ b. option_and_then (λ r. solve sig r (ts ++ us)) b
            ≡ option_and_then (λ r. solve sig r us) (option_and_then (λ r. solve sig r ts) b))
            [ None ↦ refl | Some r ↦ solve-append r ts us ]
      ]

  -- the tables in order, each with what solves its takes
  pub solutions-is : (k : ℕ) (n : Next) (s : Subst)
      → solutions sig k n s ≡ filter_map (λ T. solve sig s (takes n T)) (words (choices sig) onward is_ended k n)
  solutions-is zero n s = elim (is_ended n) as
      (λ b. (if b then s ∷ [] else []) ≡ filter_map (λ T. solve sig s (takes n T)) (if b then [] ∷ [] else []))
      [ true ↦ refl | false ↦ refl ]
  solutions-is (suc k) n s =
      flat_map-same _
      (λ e. filter_map (λ T. solve sig s (takes n T))
      (map (λ T. e ∷ T) (words (choices sig) onward is_ended k (onward n e)))) (choices sig n) (λ e i.
      listed_by-same (λ r. solutions sig k (onward n e) r)
      (λ r. filter_map (λ T. solve sig r (takes (onward n e) T))
      (words (choices sig) onward is_ended k (onward n e))) (λ r. solutions-is k (onward n e) r)
      (solve sig s (said n e))
      ∙ sym (filter_map-front (λ T. solve sig s (takes n T)) e (solve sig s (said n e))
      (λ r T. solve sig r (takes (onward n e) T)) (words (choices sig) onward is_ended k (onward n e))
      (λ T. solve-append s (said n e) (takes (onward n e) T))))
      ∙ sym (filter_map-flat (λ T. solve sig s (takes n T))
      (λ e. map (λ T. e ∷ T) (words (choices sig) onward is_ended k (onward n e))) (choices sig n))

  -- the one-list, without tables: the solutions in order under which the condition holds, each once
  pub one_list-by_solutions : (r : Rule) (t : Tree)
      → one_list sig r t ≡ firsts_after same_subst []
      (filter (meets sig r.condition) (solutions sig (pattern_nodes r.pattern) (settle (start r.pattern t)) []))
  one_list-by_solutions r t =
      ap (firsts_after same_subst []) (
      filtered (λ T. solve sig [] (takes (settle (start r.pattern t)) T)) (tables sig r.pattern t)
      ∙ ap (filter (meets sig r.condition))
      (sym (solutions-is (pattern_nodes r.pattern) (settle (start r.pattern t)) []))
      )
    where
      kept : (o : Option Subst) (ss : List Subst)
          → cons_option (option_and_then (λ s. if meets sig r.condition s then Some s else None) o)
          (filter (meets sig r.condition) ss) ≡ filter (meets sig r.condition) (cons_option o ss)
      kept None ss = refl
      kept (Some s) ss = elim (meets sig r.condition s) as
          (λ b. cons_option (if b then Some s else None) (filter (meets sig r.condition) ss)
          ≡ (if b then s ∷ filter (meets sig r.condition) ss else filter (meets sig r.condition) ss))
          [ true ↦ refl | false ↦ refl ]

      filtered : (h : Table → Option Subst) (Ts : List Table)
          → filter_map (λ T. option_and_then (λ s. if meets sig r.condition s then Some s else None) (h T)) Ts
          ≡ filter (meets sig r.condition) (filter_map h Ts)
      filtered h [] = refl
      filtered h (T ∷ Ts) =
          ap (cons_option (option_and_then (λ s. if meets sig r.condition s then Some s else None) (h T)))
          (filtered h Ts) ∙ kept (h T) (filter_map h Ts)

  -- the tables in order behind the table so far, each with what solves its takes
  pub derivations-is : (k : ℕ) (n : Next) (T : Table) (s : Subst)
      → derivations sig k n T s ≡ filter_map (λ W. option_map (item (T ++ W)) (solve sig s (takes n W)))
      (words (choices sig) onward is_ended k n)
  derivations-is zero n T s =
      elim (is_ended n) as (λ b. (if b then item T s ∷ [] else [])
      ≡ filter_map (λ W. option_map (item (T ++ W)) (solve sig s (takes n W))) (if b then [] ∷ [] else [])) [
        | true ↦ ap (λ W. item W s ∷ []) (sym (append-nil T))
        | false ↦ refl
      ]
  derivations-is (suc k) n T s =
      flat_map-same _ (λ e. filter_map (λ W. option_map (item (T ++ W)) (solve sig s (takes n W)))
      (map (λ W. e ∷ W) (words (choices sig) onward is_ended k (onward n e)))) (choices sig n) (λ e i.
      listed_by-same (λ r. derivations sig k (onward n e) (T ++ (e ∷ [])) r)
      (λ r. filter_map (λ W. option_map (item ((T ++ (e ∷ [])) ++ W)) (solve sig r (takes (onward n e) W)))
      (words (choices sig) onward is_ended k (onward n e))) (λ r. derivations-is k (onward n e) (T ++ (e ∷ [])) r)
      (solve sig s (said n e))
      ∙ sym (filter_map-front (λ W. option_map (item (T ++ W)) (solve sig s (takes n W))) e (solve sig s (said n e))
      (λ r W. option_map (item ((T ++ (e ∷ [])) ++ W)) (solve sig r (takes (onward n e) W)))
      (words (choices sig) onward is_ended k (onward n e)) (λ W. front T s e n W)))
      ∙ sym (filter_map-flat (λ W. option_map (item (T ++ W)) (solve sig s (takes n W)))
      (λ e. map (λ W. e ∷ W) (words (choices sig) onward is_ended k (onward n e))) (choices sig n))
    where
      after : (T W : Table) (e : Entry) (s : Option Subst) (us : List Taken)
          → option_map (item (T ++ (e ∷ W))) (option_and_then (λ r. solve sig r us) s)
          ≡ option_and_then (λ r. option_map (item ((T ++ (e ∷ [])) ++ W)) (solve sig r us)) s
      after T W e None us = refl
      after T W e (Some r) us = ap (λ V. option_map (item V) (solve sig r us)) (sym (append_assoc T (e ∷ []) W))

      front : (T : Table) (s : Subst) (e : Entry) (n : Next) (W : Table)
          → option_map (item (T ++ (e ∷ W))) (solve sig s (said n e ++ takes (onward n e) W))
          ≡ option_and_then (λ r. option_map (item ((T ++ (e ∷ [])) ++ W)) (solve sig r (takes (onward n e) W)))
          (solve sig s (said n e))
      front T s e n W = ap (option_map (item (T ++ (e ∷ W)))) (solve-append s (said n e) (takes (onward n e) W))
          ∙ after T W e (solve sig s (said n e)) (takes (onward n e) W)

  -- the items, by derivations: those under which the condition holds, each substitution once
  pub item_list-by_derivations : (r : Rule) (t : Tree)
      → item_list sig r t ≡ firsts_after same_item []
      (filter (λ i. meets sig r.condition i.1)
      (derivations sig (pattern_nodes r.pattern) (settle (start r.pattern t)) [] []))
  item_list-by_derivations r t =
      ap (firsts_after same_item []) (
      filtered (λ T. solve sig [] (takes (settle (start r.pattern t)) T)) (tables sig r.pattern t)
      ∙ ap (filter (λ i. meets sig r.condition i.1))
      (sym (derivations-is (pattern_nodes r.pattern) (settle (start r.pattern t)) [] []))
      )
    where
      kept : (T : Table) (o : Option Subst) (is : List Item)
          → cons_option
          (option_map (item T) (option_and_then (λ s. if meets sig r.condition s then Some s else None) o))
          (filter (λ i. meets sig r.condition i.1) is)
          ≡ filter (λ i. meets sig r.condition i.1) (cons_option (option_map (item T) o) is)
      kept T None is = refl
      kept T (Some s) is =
          elim (meets sig r.condition s) as (λ b.
          cons_option (option_map (item T) (if b then Some s else None))
          (filter (λ i. meets sig r.condition i.1) is)
          ≡ (if b then item T s ∷ filter (λ i. meets sig r.condition i.1) is else filter
          (λ i. meets sig r.condition i.1) is)) [ true ↦ refl | false ↦ refl ]

      filtered : (h : Table → Option Subst) (Ts : List Table)
          → filter_map
          (λ T. option_map (item T) (option_and_then (λ s. if meets sig r.condition s then Some s else None) (h T))) Ts
          ≡ filter (λ i. meets sig r.condition i.1) (filter_map (λ T. option_map (item T) (h T)) Ts)
      filtered h [] = refl
      filtered h (T ∷ Ts) =
          ap (cons_option
          (option_map (item T) (option_and_then (λ s. if meets sig r.condition s then Some s else None) (h T))))
          (filtered h Ts) ∙ kept T (h T) (filter_map (λ T. option_map (item T) (h T)) Ts)

  -- the item of a table, if its takes are solved: the table fits with its substitution
  abbrev pub table_item : Pattern → Tree → Table → Option Item
  table_item p t T = option_map (item T) (solve sig [] (takes (settle (start p t)) T))

  pub table_item-fits : (p : Pattern) (t : Tree) (T : Table) (i : Item) → IsNormal sig t → In T (tables sig p t)
      → table_item p t T ≡ Some i → (T ≡ i.0) × Fits sig p t i.1 T
  table_item-fits p t T i n m e =
      let a = mapped (item T) (solve sig [] (takes (settle (start p t)) T)) i e in (
        ap (λ j. j.0) a.2,
        subst (λ j. Fits sig p t j.1 T) a.2
            (solves-fits sig p t a.0 T n ((tables-exact sig p t T).0 m) a.1),
      )

  -- the derivations from the start are these items
  pub derivations-start : (p : Pattern) (t : Tree)
      → derivations sig (pattern_nodes p) (settle (start p t)) [] [] ≡ filter_map (table_item p t) (tables sig p t)
  derivations-start p t = derivations-is (pattern_nodes p) (settle (start p t)) [] []

  -- so each of them is a table that fits, with its substitution
  pub derivations-fit : (p : Pattern) (t : Tree) → IsNormal sig t
      → AllByRecursion (λ i. Fits sig p t i.1 i.0) (derivations sig (pattern_nodes p) (settle (start p t)) [] [])
  derivations-fit p t n =
      subst (AllByRecursion (λ i. Fits sig p t i.1 i.0)) (sym (derivations-start p t))
      (all-filter_map (λ i. Fits sig p t i.1 i.0) (table_item p t) (tables sig p t)
      (λ T i m e. let k = table_item-fits p t T i n m e in subst (Fits sig p t i.1) k.0 k.1))

  -- a choice is an entry that is allowed
  pub choice-allowed : (n : Next) (e : Entry) → In e (choices sig n) ↔ (allows sig n e ≡ true)
  choice-allowed ended e = (λ h. absurd h, λ h. cc)
  choice-allowed refused e = (λ h. absurd h, λ h. cc)
  choice-allowed (child p f fs) e =
      let c = choices-exact sig p f fs e.terms e.collapsed in (
        λ h. let k = c.0 h in and_from _ _ k.0 k.1,
        λ h.
            c.1 (and_parts (is_piece tree_cmp (comm_above sig f.under) e.terms f.left) (reads sig p f.under e) h),
      )

  -- a table has the shape exactly where the test passes
  pub shape-tested : (n : Next) (T : Table) → Accepts (choices sig) onward is_ended n T ↔ (has_shape sig n T ≡ true)
  shape-tested n [] = (λ h. h, λ h. h)
  shape-tested n (e ∷ T) =
      let i = shape-tested (onward n e) T in
      let c = choice-allowed n e in (
        λ h. and_from _ _ (c.0 h.0) (i.0 h.1),
        λ h.
            let k = and_parts (allows sig n e) (has_shape sig (onward n e) T) h in (c.1 k.0, i.1 k.1),
      )

  -- a table fits with one substitution at most, which the test finds
  pub fits-fitted : (p : Pattern) (t : Tree) (s : Subst) (T : Table) → IsNormal sig t
      → Fits sig p t s T ↔ (fitted sig p t T ≡ Some s)
  fits-fitted p t s T n = (
    λ h. let k = fits-solves sig p t s T n h in rw ((shape-tested (settle (start p t)) T).0 k.0) k.1,
    λ h.
        elim (has_shape sig (settle (start p t)) T) as (λ b. has_shape sig (settle (start p t)) T ≡ b
        → (if b then solve sig [] (takes (settle (start p t)) T) else None) ≡ Some s → Fits sig p t s T) [
          | true ↦ λ e k. solves-fits sig p t s T n ((shape-tested (settle (start p t)) T).1 e) k
          | false ↦ λ e k. cc
        ] refl h,
  )
