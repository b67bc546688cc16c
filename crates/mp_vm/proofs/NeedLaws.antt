-- What rules need, against the rules on paths.
use Rattle.std.proofs.Common.{◌≡◌, ℕ, suc, ◌+◌, ◌<◌, ◌≤◌, List, [], ◌∷◌, ◌++◌, map, length, max, Bool, true, false}
use Rattle.std.proofs.Common.{refl, ap, sym, ◌∙◌, inl, inr, arith, get_or, drop}
use Rattle.std.specs.Prelude.{◌||◌, ◌&&◌, not, Option, Some, None, option_map, if◌then◌else◌, nat_eq, nat_lt, nat_le}
use Rattle.std.specs.Prelude.{slice_get}
use Rattle.std.specs.List.{list_any, list_all}
use Rattle.std.specs.Option.{option_map_or}
use Rattle.std.proofs.lemmas.Bool.{and_parts, and_from, or_right, lt-ltb, ltb-true, le-leb, leb-true, eqb-true}
use Rattle.std.proofs.lemmas.List.{map-append}
use Rattle.std.proofs.lemmas.Option.{slice_get-map, slice_get_within}
use Rattle.std.proofs.Math.Bool.{or-false}
use Rattle.mp_io.specs.Devices.{Text}
use Rattle.mp_term.specs.Listing.{In}
use Rattle.mp_term.proofs.ListLaws.{bool_same, drop-item}
use Rattle.mp_term.proofs.SearchLaws.{from_in-map}
use Rattle.mp_pattern.specs.declared.limits.TheConstants.{MAX_VARIABLES}
use Rattle.mp_pattern.specs.CondTree.{Cond, conds}
use Rattle.mp_pattern.specs.CondView.{cond_tree}
use Rattle.mp_pattern.specs.declared.condition.Cond as read
use Rattle.mp_pattern.specs.Firsts.{is_known, firsts_after}
use Rattle.mp_pattern.specs.PatternTree.{Wildcard, is_sequence}
use Rattle.mp_pattern.specs.Value.{same_name}
use Rattle.mp_pattern.specs.Variables.{Use}
use Rattle.mp_pattern.proofs.NameLaws.{same_name-is, same_name-itself}
use Rattle.mp_pattern.proofs.PlanLaws.{firsts_after-append}
use Rattle.mp_theory.proofs.FirstItems.{known-in}
use Rattle.mp_theory.proofs.FirstsLaws.{from_in-firsts_after}
use Rattle.mp_walk.specs.Walkable.{Path, numbered_names}
use Rattle.mp_program.specs.Program.{ProgramRule}
use Rattle.mp_program.specs.TokenPaths.{path_uses, path_variables, is_sequence_name, cond_names, less_names, suits_test}
use Rattle.mp_program.specs.TokenPaths.{all_less_names}
use Rattle.mp_program.specs.TokenPaths.{test_of, may_accept}
use Rattle.mp_walk.proofs.NumberedNames.{length-numbered_names}
use Rattle.mp_program.proofs.PathLaws.{use_names}
use Rattle.mp_vm.specs.Looks.{place_of, HasLooks}
use Rattle.mp_vm.specs.RuleNeeds.{places, count_named, with_places, needs_with, needs_of, is_sequence_at}
use Rattle.mp_vm.specs.RuleNeeds.{meets_needs, meets_all}
use Rattle.mp_vm.proofs.LookLaws.{any-in, first_names, known-looks}
use Rattle.mp_vm.proofs.PlaceLaws.{known-place_of}

-- ---- items, each once

any-known : (p : ℕ → Bool) (ys : List ℕ) (x : ℕ) → is_known nat_eq ys x ≡ true → p x ≡ true → list_any p ys ≡ true
any-known p [] x h e = cc
any-known p (y ∷ ys) x h e = by_test (nat_eq y x) refl h (any-known p ys x)
  where
    by_test : (b : Bool) → nat_eq y x ≡ b → (b || is_known nat_eq ys x) ≡ true
        → (is_known nat_eq ys x ≡ true → p x ≡ true → list_any p ys ≡ true) → (p y || list_any p ys) ≡ true
    by_test true q h go = ap (λ b. b || list_any p ys) (ap p (eqb-true y x q) ∙ e)
    by_test false q h go = or_right (p y) (list_any p ys) (go h e)

or-known : (a b c : Bool) → (b ≡ true → a ≡ true) → (a || c) ≡ (a || (b || c))
or-known true b c h = refl
or-known false false c h = refl
or-known false true c h = (let wrong : false ≡ true = h refl in cc)

or-three : (a b c : Bool) → ((a || (b || false)) || c) ≡ (a || (b || c))
or-three true b c = refl
or-three false true c = refl
or-three false false c = refl

any-push : (p : ℕ → Bool) (ys : List ℕ) (x : ℕ) → list_any p (ys ++ x ∷ []) ≡ (list_any p ys || (p x || false))
any-push p [] x = refl
any-push p (y ∷ ys) x = elim (p y) as (λ b. (b || list_any p (ys ++ x ∷ [])) ≡ ((b || list_any p ys) || (p x || false)))
    [ true ↦ refl | false ↦ any-push p ys x ]

-- one of the items is such where one of them, each once, is
any-firsts : (p : ℕ → Bool) (ys xs : List ℕ) → list_any p (firsts_after nat_eq ys xs) ≡ (list_any p ys || list_any p xs)
any-firsts p ys [] = sym (or-false (list_any p ys))
any-firsts p ys (x ∷ xs) = by_test (is_known nat_eq ys x) refl (any-firsts p ys xs) (any-firsts p (ys ++ x ∷ []) xs)
  where
    by_test : (b : Bool) → is_known nat_eq ys x ≡ b
        → list_any p (firsts_after nat_eq ys xs) ≡ (list_any p ys || list_any p xs)
        → list_any p (firsts_after nat_eq (ys ++ x ∷ []) xs) ≡ (list_any p (ys ++ x ∷ []) || list_any p xs)
        → list_any p (firsts_after nat_eq (if b then ys else ys ++ (x ∷ [])) xs)
        ≡ (list_any p ys || (p x || list_any p xs))
    by_test true e old new = old ∙ or-known (list_any p ys) (p x) (list_any p xs) (any-known p ys x e)
    by_test false e old new = new ∙ ap (λ b. b || list_any p xs) (any-push p ys x)
        ∙ or-three (list_any p ys) (p x) (list_any p xs)

-- ---- names and places

-- those that are among the first ones
known-count : (m : ℕ) (xs : List Text) → m ≤ MAX_VARIABLES
    → list_all (is_known same_name (numbered_names m)) xs ≡ nat_le (count_named xs) m
known-count m [] few = sym (le-leb 0 m (omega arith))
known-count m (x ∷ xs) few =
    ap (λ b. b && list_all (is_known same_name (numbered_names m)) xs) (known-place_of m x few)
    ∙ ap (λ b. nat_lt (place_of x) m && b) (known-count m xs few)
    ∙ bool_same (nat_lt (place_of x) m && nat_le (count_named xs) m)
    (nat_le (max (suc (place_of x)) (count_named xs)) m)
    (λ e.
    let p = and_parts (nat_lt (place_of x) m) _ e in
    let a = ltb-true (place_of x) m p.0 in
    let b = leb-true (count_named xs) m p.1 in
    le-leb (max (suc (place_of x)) (count_named xs)) m (omega (arith, a, b)))
    (λ e.
    let a = leb-true (max (suc (place_of x)) (count_named xs)) m e in
    and_from (nat_lt (place_of x) m) _ (lt-ltb (place_of x) m (omega (arith, a)))
    (le-leb (count_named xs) m (omega (arith, a))))

any-found : {X : Type 0} (p : X → Bool) (xs : List X) → list_any p xs ≡ true → (x : X) × In x xs × (p x ≡ true)
any-found p [] e = cc
any-found {X = X} p (x ∷ xs) e = by_test (p x) refl e (any-found p xs)
  where
    by_test : (b : Bool) → p x ≡ b → (b || list_any p xs) ≡ true
        → (list_any p xs ≡ true → (y : X) × In y xs × (p y ≡ true)) → (y : X) × In y (x ∷ xs) × (p y ≡ true)
    by_test true q e go = (x, inl refl, q)
    by_test false q e go = (let r = go e in (r.0, inr r.1, r.2))

module _ (us : List Use) (ws : List Wildcard) (h : HasLooks us ws) where
  -- a name is that of a sequence where the wildcard at its place is one
  sequence-place : (x : Text) → is_sequence_name us x ≡ is_sequence_at ws (place_of x)
  sequence-place x = bool_same (is_sequence_name us x) (is_sequence_at ws (place_of x)) to
      (from (slice_get ws (place_of x)) refl)
    where
      to : is_sequence_name us x ≡ true → is_sequence_at ws (place_of x) ≡ true
      to e =
          let u = any-found (λ (v : Use). same_name v.name x && is_sequence v.wildcard) us e in
          let p = and_parts (same_name u.0.name x) (is_sequence u.0.wildcard) u.2 in
          let at : slice_get ws (place_of x) ≡ Some u.0.wildcard =
          ap (λ y. slice_get ws (place_of y)) (sym (same_name-is u.0.name x p.0)) ∙ h.looks u.0 u.1 in
          ap (λ o. option_map_or is_sequence o false) at ∙ p.1

      from : (o : Option Wildcard) → slice_get ws (place_of x) ≡ o
          → option_map_or is_sequence (slice_get ws (place_of x)) false ≡ true → is_sequence_name us x ≡ true
      from None q e = (let wrong : false ≡ true = sym (ap (λ o. option_map_or is_sequence o false) q) ∙ e in cc)
      from (Some w) q e =
          let known = known-looks us ws h x
          ∙ lt-ltb (place_of x) (length ws) (slice_get_within ws (place_of x) w q) in
          let i = known-in same_name same_name-is (first_names us) x known in
          elim (from_in-firsts_after same_name x [] (use_names us) i) [
            | inl n ↦ absurd n
            | inr j ↦
                let v = from_in-map (λ (u : Use). u.name) x us j in
                let both : Some v.0.wildcard ≡ Some w =
                sym (ap (λ y. slice_get ws (place_of y)) v.1 ∙ h.looks v.0 v.2) ∙ q in
                let same : v.0.wildcard ≡ w = cc in
                let sequence : is_sequence v.0.wildcard ≡ true =
                ap is_sequence same ∙ (sym (ap (λ o. option_map_or is_sequence o false) q) ∙ e) in
                any-in (λ (u : Use). same_name u.name x && is_sequence u.wildcard) us v.0 v.2
                (and_from (same_name v.0.name x) (is_sequence v.0.wildcard)
                (ap (λ y. same_name y x) (sym v.1) ∙ same_name-itself x) sequence)
          ]

  any-places : (xs : List Text) → list_any (is_sequence_name us) xs ≡ list_any (is_sequence_at ws) (places xs)
  any-places [] = refl
  any-places (x ∷ xs) = ap (λ b. b || list_any (is_sequence_name us) xs) (sequence-place x)
      ∙ ap (λ b. is_sequence_at ws (place_of x) || b) (any-places xs)

  any-with_places : (xs : List Text)
      → list_any (is_sequence_name us) xs ≡ list_any (is_sequence_at ws) (with_places [] xs)
  any-with_places xs = any-places xs ∙ sym (any-firsts (is_sequence_at ws) [] (places xs))

-- ---- rules

module _ (ks : Path) (ws : List Wildcard) (h : HasLooks (path_uses ks) ws) where
  count-variables : length (path_variables ks) ≡ length ws
  count-variables = ap length h.names ∙ length-numbered_names (length ws)

  -- what a rule needs is there where the rule goes with the path
  meets-with : (count : ℕ) (test : Option Cond) → meets_needs ws (needs_with count test)
      ≡ (nat_eq count (length (path_variables ks)) && suits_test ks test)
  meets-with count None =
      ap (λ n. nat_eq count n && (nat_le 0 (length ws) && true)) (sym count-variables)
      ∙ ap (λ b. nat_eq count (length (path_variables ks)) && (b && true)) (le-leb 0 (length ws) (omega arith))
  meets-with count (Some c) =
      ap (λ n. nat_eq count n && (nat_le (count_named (cond_names c)) (length ws)
      && not (list_any (is_sequence_at ws) (with_places [] (less_names c))))) (sym count-variables)
      ∙ ap (λ b. nat_eq count (length (path_variables ks)) && (b
      && not (list_any (is_sequence_at ws) (with_places [] (less_names c)))))
      (sym (known-count (length ws) (cond_names c) h.few)
      ∙ ap (λ ys. list_all (is_known same_name ys) (cond_names c)) (sym h.names))
      ∙ ap (λ b. nat_eq count (length (path_variables ks))
      && (list_all (is_known same_name (path_variables ks)) (cond_names c) && not b))
      (sym (any-with_places (path_uses ks) ws h (less_names c)))

  module _ (tests : List Cond) (rules : List ProgramRule) where
    meets-rule : (n : ℕ) → option_map_or (meets_needs ws) (slice_get (map (needs_of tests) rules) n) false
        ≡ may_accept tests rules ks n
    meets-rule n = ap (λ o. option_map_or (meets_needs ws) o false) (slice_get-map (needs_of tests) rules n)
        ∙ by_rule (slice_get rules n)
      where
        by_rule : (o : Option ProgramRule) → option_map_or (meets_needs ws) (option_map (needs_of tests) o) false
            ≡ option_map_or (λ (r : ProgramRule). nat_eq (length r.vars) (length (path_variables ks))
            && suits_test ks (test_of tests r.test)) o false
        by_rule None = refl
        by_rule (Some r) = meets-with (length r.vars) (test_of tests r.test)

    -- so of all rules
    pub meets-all : (ns : List ℕ)
        → meets_all (map (needs_of tests) rules) ws ns ≡ list_all (may_accept tests rules ks) ns
    meets-all [] = refl
    meets-all (n ∷ ns) = ap (λ b. b && meets_all (map (needs_of tests) rules) ws ns) (meets-rule n)
        ∙ ap (λ b. may_accept tests rules ks n && b) (meets-all ns)

-- ---- places one after the other

-- those of further names
pub places-append : (ns : List ℕ) (xs ys : List Text) → with_places (with_places ns xs) ys ≡ with_places ns (xs ++ ys)
places-append ns xs ys = sym (firsts_after-append nat_eq ns (places xs) (places ys))
    ∙ ap (firsts_after nat_eq ns) (sym (map-append place_of xs ys))

-- a place that is known is one of the items
pub known-any : (ys : List ℕ) (x : ℕ) → is_known nat_eq ys x ≡ list_any (λ y. nat_eq y x) ys
known-any [] x = refl
known-any (y ∷ ys) x = ap (λ b. nat_eq y x || b) (known-any ys x)

-- those of the conditions from an index on
pub less-rest : (cs : List read.Cond) (i : ℕ) (c : read.Cond) → i < length cs → c ≡ get_or cs i c
    → all_less_names (conds (map cond_tree (drop i cs)))
    ≡ less_names (cond_tree c) ++ all_less_names (conds (map cond_tree (drop (i + 1) cs)))
less-rest cs i c within at = ap (λ l. all_less_names (conds (map cond_tree l))) (drop-item cs i c within at)
