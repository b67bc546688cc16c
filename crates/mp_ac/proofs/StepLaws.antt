-- A search below a commutative node, where the trail is read by numbers too.
use Rattle.std.proofs.Common.{◌≡◌, ◌<◌, ℕ, List, [], ◌∷◌, ◌++◌, length, map, drop, true, false, suc}
use Rattle.std.proofs.Common.{refl, ap}
use Rattle.std.proofs.Common.{Bool, sym, ◌∙◌, subst, inl, inr, ◌⊎◌}
use Rattle.std.specs.Prelude.{MatchBool, Option, Some, None, slice_get, if◌then◌else◌, option_map}
use Rattle.std.specs.Ordering.{is_eq}
use Rattle.std.specs.List.{AllByRecursion}
use Rattle.std.proofs.lemmas.List.{take-append-drop}
use Rattle.std.proofs.lemmas.Option.{slice_get-map}
use Rattle.mp_term.specs.Search.{In}
use Rattle.mp_term.specs.Signature.{Sig}
use Rattle.mp_term.specs.Tree.{Tree}
use Rattle.mp_term.proofs.ListingLaws.{all_in}
use Rattle.mp_term.proofs.SearchLaws.{in-map}
use Rattle.mp_term.proofs.ListLaws.{all-get}
use Rattle.mp_pattern.specs.declared.limits.TheConstants.{MAX_VARIABLES}
use Rattle.mp_pattern.specs.DerivationOrder.{table_cmp}
use Rattle.mp_pattern.specs.Fits.{Table}
use Rattle.mp_pattern.specs.NetTokens.{numbered}
use Rattle.mp_pattern.specs.PatternTree.{Pattern, Patterns}
use Rattle.mp_pattern.specs.Size.{all_pattern_nodes}
use Rattle.mp_pattern.specs.Value.{Subst, value_of, same_name}
use Rattle.mp_pattern.specs.Variables.{variables}
use Rattle.mp_pattern.proofs.NameLaws.{same_name-is, same_name-itself}
use Rattle.mp_table.specs.Table as plain_table
use Rattle.mp_table.specs.Table.{terms_at}
use Rattle.mp_table.specs.declared.rank.Rank.{Rank}
use Rattle.mp_subst.specs.Bound.{value_in}
use Rattle.mp_subst.specs.Trail.{Trail, TrailEntry, cut}
use Rattle.mp_theory.specs.Frames.{settle}
use Rattle.mp_theory.specs.Items.{items}
use Rattle.mp_theory.specs.OneList.{Item, item_tables}
use Rattle.mp_theory.proofs.SecondSearch.{items-ascending}
use Rattle.mp_search.specs.At.{BindsOnly}
use Rattle.mp_search.specs.Reading.{name_among, set, subst_from}
use Rattle.mp_search.proofs.NumberLaws as number_laws
use Rattle.mp_search.proofs.NumberLaws.{distinct-variables}
use Rattle.mp_search.proofs.SubstLaws.{value_of-subst_from, value_of-set_other}
use Rattle.mp_ac.specs.declared.asked.Asked.{Asked}
use Rattle.mp_search.specs.declared.mode.Mode.{Mode}
use Rattle.mp_search.specs.declared.mode.Mode.TheVariants.{First, After, At}
use Rattle.mp_search.specs.Wanted.{IsStanding}
use Rattle.mp_ac.specs.Asked.{IsAsked, all_items, root_list, trail_subst}
use Rattle.mp_ac.specs.CommItems.{NoneTwice, SameOn, SameValues}
use Rattle.mp_ac.specs.CommList.{SameItems, behind_table, below, comm_list}
use Rattle.mp_ac.specs.CommPlan.{IsApplication}
use Rattle.mp_ac.specs.Numbered.{name_of, numbered_subst}
use Rattle.mp_ac.specs.Seek.{IsFoundOf}
use Rattle.mp_ac.specs.Stage.{looked_for}
use Rattle.mp_ac.proofs.BehindLaws.{behind-first, behind-in, behind-next, first-in}
use Rattle.mp_ac.proofs.ListLaws.{comm_list-others, comm_list-same, once-ascending}
use Rattle.mp_pattern.proofs.PlanNodes.{plan-names}
use Rattle.mp_ac.proofs.NumberedLaws.{name_of-less, name_of-only}

-- a name is one of them or not
among : (x : List ℕ) (xs : List (List ℕ)) → In x xs ⊎ (In x xs → ⊥)
among x [] = inr (λ i. i)
among x (y ∷ xs) = by_name (same_name y x) refl (among x xs)
  where
    by_name : (b : Bool) → same_name y x ≡ b → In x xs ⊎ (In x xs → ⊥) → In x (y ∷ xs) ⊎ (In x (y ∷ xs) → ⊥)
    by_name true e k = inl (inl (sym (same_name-is y x e)))
    by_name false e (inl i) = inl (inr i)
    by_name false e (inr never) = inr (λ i. neither i)
      where
        neither : In x (y ∷ xs) → ⊥
        neither (inl k) = let q : same_name y x ≡ true = ap (same_name y) k ∙ same_name-itself y in cc
        neither (inr i) = never i

-- a name in the list of what numbers become is that of a number at its place
place-of : (vs : List ℕ) (x : List ℕ) → In x (map numbered vs)
    → (i : ℕ) × (v : ℕ) × (slice_get vs i ≡ Some v) × (x ≡ numbered v)
place-of [] x h = absurd h
place-of (v ∷ vs) x (inl e) = (0, v, refl, e)
place-of (v ∷ vs) x (inr h) = let r = place-of vs x h in (suc r.0, r.1, r.2, r.3)

-- lists with the same items are cut alike
same-behind : (xs : List (List ℕ)) (W : Table) (is js : List Item) → SameItems xs is js
    → SameItems xs (behind_table W is) (behind_table W js)
same-behind xs W [] [] h = tt
same-behind xs W [] (j ∷ js) h = absurd h
same-behind xs W (i ∷ is) [] h = absurd h
same-behind xs W (i ∷ is) (j ∷ js) h =
    subst (λ T. SameItems xs (behind_table W (i ∷ is)) (if is_eq (table_cmp W T) then js else behind_table W js)) h.0
    (elim (is_eq (table_cmp W i.0)) as
    (λ b. SameItems xs (if b then is else behind_table W is) (if b then js else behind_table W js))
    [ true ↦ h.2 | false ↦ same-behind xs W is js h.2 ])

same-looked : (xs : List (List ℕ)) (mode : Mode) (W : Table) (is js : List Item) → SameItems xs is js
    → SameItems xs (looked_for mode W is) (looked_for mode W js)
same-looked xs First W is js h = h
same-looked xs After W is js h = same-behind xs W is js h
same-looked xs At W is js h = h

same-tables : (xs : List (List ℕ)) (is js : List Item) → SameItems xs is js → item_tables is ≡ item_tables js
same-tables xs [] [] h = refl
same-tables xs [] (j ∷ js) h = absurd h
same-tables xs (i ∷ is) [] h = absurd h
same-tables xs (i ∷ is) (j ∷ js) h = ap (λ T. T ∷ item_tables is) h.0 ∙ ap (λ Ts. j.0 ∷ Ts) (same-tables xs is js h.2)

same-standing : (mode : Mode) (W : Table) (is js : List Item) → item_tables is ≡ item_tables js
    → IsStanding mode W is → IsStanding mode W js
same-standing First W is js e h = tt
same-standing After W is js e h = subst (In W) e h
same-standing At W is js e h = tt

same-first : (xs : List (List ℕ)) (is js : List Item) (j : Item) → SameItems xs is js → slice_get js 0 ≡ Some j
    → (r : Subst) × (slice_get is 0 ≡ Some (j.0, r)) × SameOn xs r j.1
same-first xs is [] j h e = cc
same-first xs [] (k ∷ js) j h e = absurd h
same-first xs (i ∷ is) (k ∷ js) j h e =
    let same : k ≡ j = cc in
    (i.1, ap (λ T. Some (T, i.1)) (h.0 ∙ ap (λ l. l.0) same), subst (λ l. SameOn xs i.1 l.1) same h.1)

same-none : (xs : List (List ℕ)) (is js : List Item) → SameItems xs is js → js ≡ [] → is ≡ []
same-none xs [] js h e = refl
same-none xs (i ∷ is) [] h e = absurd h
same-none xs (i ∷ is) (j ∷ js) h e = cc

-- the first of those that are looked for is an item, and behind it come the others
pub looked-in : (mode : Mode) (W : Table) (is : List Item) (i : Item) → slice_get (looked_for mode W is) 0 ≡ Some i
    → In i is
looked-in First W is i e = first-in is i e
looked-in After W is i e = behind-in W is i (first-in (behind_table W is) i e)
looked-in At W is i e = first-in is i e

looked-next : (mode : Mode) (W : Table) (is : List Item) (i : Item) → NoneTwice (item_tables is)
    → slice_get (looked_for mode W is) 0 ≡ Some i → behind_table i.0 is ≡ drop 1 (looked_for mode W is)
looked-next First W is i n e = behind-first is i e
looked-next After W is i n e = behind-next W is i n e
looked-next At W is i n e = behind-first is i e

-- no item stands twice
pub comm_list-once : (sig : Sig) (g : ℕ) (ps : Patterns) (args : List Tree) (owes : Bool) (s : Subst)
    → NoneTwice (item_tables (comm_list sig g ps args owes s))
unfolding comm_list
comm_list-once sig g ps args owes s =
    once-ascending (item_tables (items sig (all_pattern_nodes ps) (settle (below g ps args owes)) s))
    (items-ascending sig (all_pattern_nodes ps) (settle (below g ps args owes)) s)

-- the same of the list by cases of the pattern
module _ (sig : Sig) (p : Pattern) (h : IsApplication p) (args : List Tree) (owes : Bool) where
  root-once : (s : Subst) → NoneTwice (item_tables (root_list sig p args owes s))
  root-once s = subst (λ q. NoneTwice (item_tables (root_list sig q args owes s))) (sym h.is)
      (comm_list-once sig h.op h.children args owes s)

  root-same : (s r : Subst) → SameOn (variables p) s r
      → SameItems (variables p) (root_list sig p args owes s) (root_list sig p args owes r)
  root-same s r k = subst (λ q. SameOn (variables q) s r
      → SameItems (variables q) (root_list sig q args owes s) (root_list sig q args owes r)) (sym h.is)
      (comm_list-same sig h.op h.children args owes s r) k

  root-others : (s : Subst) (i : Item) (x : List ℕ) → In i (root_list sig p args owes s)
      → (In x (variables p) → ⊥) → value_of i.1 x ≡ value_of s x
  root-others s i x = subst (λ q. In i (root_list sig q args owes s) → (In x (variables q) → ⊥)
      → value_of i.1 x ≡ value_of s x) (sym h.is) (comm_list-others sig h.op h.children args owes s i x)

-- where a number's name is that by which it is numbered, and no other number has it
module _ (t : plain_table.Table) (name : ℕ → Option (List ℕ))
    (is : (v : ℕ) → v < MAX_VARIABLES → name v ≡ Some (numbered v))
    (only : (u v : ℕ) → v < MAX_VARIABLES → name u ≡ Some (numbered v) → u ≡ v) where
  subst_from-append : (s : Subst) (es fs : List TrailEntry)
      → subst_from t name s (es ++ fs) ≡ subst_from t name (subst_from t name s es) fs
  subst_from-append s [] fs = refl
  subst_from-append s (e ∷ es) fs =
      subst_from-append (elim (name e.var) [ None ↦ s | Some y ↦ set s y (value_in t e.value) ]) es fs

  -- entries of some numbers leave the values of other names
  others-kept : (vs : List ℕ) (x : List ℕ) → AllByRecursion (λ v. v < MAX_VARIABLES) vs → (In x (map numbered vs) → ⊥)
      → (s : Subst) (fs : List TrailEntry) → AllByRecursion (λ e. In e.var vs) fs
      → value_of (subst_from t name s fs) x ≡ value_of s x
  others-kept vs x few never s [] h = refl
  others-kept vs x few never s (e ∷ fs) h =
      others-kept vs x few never (elim (name e.var) [ None ↦ s | Some y ↦ set s y (value_in t e.value) ]) fs h.1
      ∙ ap (λ o. value_of (elim o as (λ _. Subst) [ None ↦ s | Some y ↦ set s y (value_in t e.value) ]) x)
      (is e.var (all_in (λ v. v < MAX_VARIABLES) vs e.var few h.0))
      ∙ value_of-set_other s (numbered e.var) x (value_in t e.value) (apart (same_name (numbered e.var) x) refl)
    where
      apart : (b : Bool) → same_name (numbered e.var) x ≡ b → b ≡ false
      apart true k = absurd (never (subst (λ y. In y (map numbered vs)) (same_name-is (numbered e.var) x k)
          (in-map numbered e.var vs h.0)))
      apart false k = refl

-- what is asked, where each variable of the plan is named by its number too
module _ (a : Asked) (h : IsAsked a) (names : map numbered a.vars.now ≡ variables a.plan.now.pattern)
    (few : AllByRecursion (λ v. v < MAX_VARIABLES) a.vars.now) where
  abbrev own_names : List (List ℕ)
  own_names = variables a.plan.now.pattern

  -- the plan's variables have the same values by both names
  read-same : (es : List TrailEntry) → SameOn own_names (numbered_subst a.table.now es)
      (subst_from a.table.now (name_among a.vars.now a.plan.now.variables) [] es)
  read-same es x i =
      let vs = a.vars.now in
      let r = place-of vs x (subst (In x) (sym names) i) in
      let v = r.1 in
      let less : v < MAX_VARIABLES = all-get (λ v. v < MAX_VARIABLES) vs r.0 v few r.2 in
      let e : x ≡ numbered v = r.3 in
      let at : slice_get own_names r.0 ≡ Some (numbered v) =
      ap (λ ys. slice_get ys r.0) (sym names) ∙ slice_get-map numbered vs r.0 ∙ ap (option_map numbered) r.2 in
      let k = number_laws.numbered vs a.plan.now.variables own_names r.0 v (numbered v)
      (plan-names a.sig.now a.plan.now.pattern a.plan.now h.plan) (distinct-variables a.plan.now.pattern) h.distinct
      r.2 at in
      subst (λ y. value_of (numbered_subst a.table.now es) y
      ≡ value_of (subst_from a.table.now (name_among vs a.plan.now.variables) [] es) y) (sym e)
      (value_of-subst_from a.table.now name_of (numbered v) v (name_of-less v less) (λ w. name_of-only w v less) [] es
      ∙ sym (value_of-subst_from a.table.now (name_among vs a.plan.now.variables) (numbered v) v k.0 k.1 [] es))

  module _ (rs : List Rank) (u : Trail) where
    -- the items over the trail by its numbers, and by the plan's variables
    abbrev by_numbers : List Item
    by_numbers = all_items a rs (numbered_subst a.table.now u.stack)

    abbrev by_names : List Item
    by_names = all_items a rs (trail_subst a u)

    items-same : SameItems own_names by_numbers by_names
    items-same = root-same a.sig.now a.plan.now.pattern h.application (terms_at a.table.now rs) a.owes
        (numbered_subst a.table.now u.stack) (trail_subst a u) (read-same u.stack)

    -- where one stands by the numbers one stands by the variables
    pub step-standing : (mode : Mode) (W : Table) → IsStanding mode W by_numbers → IsStanding mode W by_names
    step-standing mode W s =
        same-standing mode W by_numbers by_names (same-tables own_names by_numbers by_names items-same) s

    module _ (mode : Mode) (W : Table) where
      looked-same : SameItems own_names (looked_for mode W by_numbers) (looked_for mode W by_names)
      looked-same = same-looked own_names mode W by_numbers by_names items-same

      -- where none is found, none is found
      step-none : looked_for mode W by_names ≡ [] → looked_for mode W by_numbers ≡ []
      step-none e = same-none own_names (looked_for mode W by_numbers) (looked_for mode W by_names) looked-same e

      -- where there is an item, it is the first one over the numbers too, and behind it come the others
      step-found : (V : Table) (v : Trail) → slice_get (looked_for mode W by_names) 0 ≡ Some (V, trail_subst a v)
          → cut (length u.stack) v ≡ u → BindsOnly a.vars.now u v
          → ((r : Subst) × (slice_get (looked_for mode W by_numbers) 0 ≡ Some (V, r))
          × SameValues r (numbered_subst a.table.now v.stack))
          × (behind_table V by_numbers ≡ drop 1 (looked_for mode W by_numbers))
      step-found V v found kept binds = (
        (f.0, f.1, values),
        looked-next mode W by_numbers (V, f.0)
            (root-once a.sig.now a.plan.now.pattern h.application (terms_at a.table.now rs) a.owes
            (numbered_subst a.table.now u.stack)) f.1,
      )
        where
          f : (r : Subst) × (slice_get (looked_for mode W by_numbers) 0 ≡ Some (V, r))
              × SameOn own_names r (trail_subst a v)
          f = same-first own_names (looked_for mode W by_numbers) (looked_for mode W by_names) (V, trail_subst a v)
              looked-same found

          stacks : v.stack ≡ u.stack ++ drop (length u.stack) v.stack
          stacks = sym (take-append-drop (length u.stack) v.stack)
              ∙ ap (λ (w : Trail). w.stack ++ drop (length u.stack) v.stack) kept

          values : SameValues f.0 (numbered_subst a.table.now v.stack)
          values x = by_name (among x own_names)
            where
              by_name : In x own_names ⊎ (In x own_names → ⊥)
                  → value_of f.0 x ≡ value_of (numbered_subst a.table.now v.stack) x
              by_name (inl i) = f.2 x i ∙ sym (read-same v.stack x i)
              by_name (inr never) =
                  root-others a.sig.now a.plan.now.pattern h.application (terms_at a.table.now rs) a.owes
                  (numbered_subst a.table.now u.stack) (V, f.0) x (looked-in mode W by_numbers (V, f.0) f.1) never
                  ∙ sym (ap (λ es. value_of (numbered_subst a.table.now es) x) stacks
                  ∙ ap (λ s. value_of s x)
                  (subst_from-append a.table.now name_of name_of-less name_of-only [] u.stack
                  (drop (length u.stack) v.stack))
                  ∙ others-kept a.table.now name_of name_of-less name_of-only a.vars.now x few
                  (λ i. never (subst (In x) names i)) (numbered_subst a.table.now u.stack)
                  (drop (length u.stack) v.stack) binds)

      -- what is found by the variables is found by the numbers
      pub step-finds : (V : Table) (v : Trail) (found : Bool) → cut (length u.stack) v ≡ u
          → BindsOnly a.vars.now u v
          → MatchBool found
          ((slice_get (looked_for mode W by_names) 0 ≡ Some (V, trail_subst a v))
          × (behind_table V by_names ≡ drop 1 (looked_for mode W by_names)))
          (looked_for mode W by_names ≡ [])
          → IsFoundOf mode W V by_numbers (numbered_subst a.table.now v.stack) found
      step-finds V v true kept binds f = step-found V v f.0 kept binds
      step-finds V v false kept binds f = step-none f
