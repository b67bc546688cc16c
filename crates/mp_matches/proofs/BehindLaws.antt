-- The matches behind the one of a token: among those of a rule on a subject, and among those of parts.
use Rattle.std.proofs.Common.{◌≡◌, ◌<◌, ℕ, suc, List, [], ◌∷◌, ◌++◌, Bool, true, false, length, get_or, drop, map, refl}
use Rattle.std.proofs.Common.{◌+◌, sym, ap, ap₂, ◌∙◌, subst, inl, inr, arith}
use Rattle.std.specs.Prelude.{Option, Some, None, flat_map, not, cond, ◌&&◌, if◌then◌else◌, ◌≤◌, nat_lt, position}
use Rattle.std.specs.List.{AllByRecursion, list_all, position_or_len}
use Rattle.std.specs.List.Sorted.{IsStrictlySortedBy}
use Rattle.std.specs.Str.{bytes_eq}
use Rattle.std.specs.declared.cmp.Ordering.TheVariants.{Less, Equal}
use Rattle.std.proofs.lemmas.Bool.Decides.{nat_tests}
use Rattle.std.proofs.lemmas.Cmp.{tied_itself, lists_total}
use Rattle.std.proofs.lemmas.Slice.Eq.{bytes_eq-Decides}
use Rattle.std.proofs.lemmas.Bool.{false_from_ne_true, and_parts}
use Rattle.mp_io.specs.Devices.{Text}
use Rattle.mp_term.specs.Listing.{In}
use Rattle.mp_term.specs.Names.{are_distinct}
use Rattle.mp_term.proofs.ListingLaws.{one_way}
use Rattle.mp_term.proofs.TestLaws.{not-lt}
use Rattle.mp_pattern.specs.Admission.{Rule}
use Rattle.mp_pattern.specs.Fits.{Table}
use Rattle.mp_pattern.specs.DerivationOrder.{table_cmp}
use Rattle.mp_theory.specs.OneList.{Item, item_tables}
use Rattle.mp_theory.proofs.Tables.{entry_cmp_total}
use Rattle.mp_text.specs.File.{Subject}
use Rattle.mp_cursor.specs.Listing.{items_after}
use Rattle.mp_cursor.proofs.AfterLaws.{after-first}
use Rattle.mp_matches.specs.Computed.{behind_token, match_of, matches_of}
use Rattle.mp_matches.specs.Match.{Match}
use Rattle.mp_matches.specs.TokenOf.{token_of}
use Rattle.mp_matches.proofs.PrintedLaws.{behind_token-append, behind_token-append_none, behind_token-first}
use Rattle.mp_matches.proofs.PrintedLaws.{behind_token-next}

-- two texts that aren't the same
pub bytes_eq-other : (a b : Text) → (a ≡ b → ⊥) → bytes_eq a b ≡ false
bytes_eq-other a b h = false_from_ne_true (bytes_eq a b) (λ e. h ((bytes_eq-Decides a b).0 e))

-- ---- the items of a rule

less-than : (at : Item) (i : Item) (is : List Item) → AllByRecursion (λ T. table_cmp i.0 T ≡ Less) (item_tables is)
    → In at is → table_cmp i.0 at.0 ≡ Less
less-than at i [] h k = absurd k
less-than at i (j ∷ is) h (inl e) = subst (λ (x : Item). table_cmp i.0 x.0 ≡ Less) (sym e) h.0
less-than at i (j ∷ is) h (inr k) = less-than at i is h.1 k

first-less : (at : Item) (i : Item) (is : List Item) → IsStrictlySortedBy table_cmp (item_tables (i ∷ is)) → In at is
    → table_cmp i.0 at.0 ≡ Less
unfolding IsStrictlySortedBy
first-less at i is up k = less-than at i is up.0 k

rest-sorted : (i : Item) (is : List Item) → IsStrictlySortedBy table_cmp (item_tables (i ∷ is))
    → IsStrictlySortedBy table_cmp (item_tables is)
unfolding IsStrictlySortedBy
rest-sorted i is up = up.1

-- a table comes before another one, and so it isn't that
less-other : (T U : Table) → table_cmp T U ≡ Less → T ≡ U → ⊥
less-other T U h e =
    let less : table_cmp U U ≡ Less = subst (λ x. table_cmp x U ≡ Less) e h in
    let tied : table_cmp U U ≡ Equal = tied_itself (lists_total entry_cmp_total) U in
    let wrong : Less ≡ Equal = sym less ∙ tied in
    cc

module _ (subject : Subject) (rule : Rule) (text : Text) where
  -- no item has the token
  pub behind-none : (is : List Item) → ((i : Item) → In i is → token_of (match_of subject rule i) ≡ text → ⊥)
      → behind_token text (matches_of subject rule is) ≡ None
  behind-none [] h = refl
  behind-none (i ∷ is) h =
      behind_token-next text (match_of subject rule i) (matches_of subject rule is)
      (bytes_eq-other (token_of (match_of subject rule i)) text (h i (inl refl)))
      ∙ behind-none is (λ j k. h j (inr k))

  -- one item has the token, and those behind it are those after it
  pub behind-at : (at : Item) (is : List Item) → IsStrictlySortedBy table_cmp (item_tables is) → In at is
      → token_of (match_of subject rule at) ≡ text
      → ((i : Item) → In i is → token_of (match_of subject rule i) ≡ text → i.0 ≡ at.0)
      → behind_token text (matches_of subject rule is) ≡ Some (matches_of subject rule (items_after at.0 is))
  behind-at at [] up k e one = absurd k
  behind-at at (i ∷ is) up (inl same) e one =
      let after : items_after at.0 (i ∷ is) ≡ is =
      subst (λ (j : Item). items_after j.0 (i ∷ is) ≡ is) (sym same) (after-first i (i ∷ is) up refl) in
      behind_token-first text (match_of subject rule i) (matches_of subject rule is)
      ((bytes_eq-Decides (token_of (match_of subject rule i)) text).1
      (subst (λ (j : Item). token_of (match_of subject rule j) ≡ text) same e))
      ∙ ap (λ js. Some (matches_of subject rule js)) (sym after)
  behind-at at (i ∷ is) up (inr k) e one =
      let less = first-less at i is up k in
      let skipped : items_after at.0 (i ∷ is) ≡ items_after at.0 is =
      ap (λ b. if b then i ∷ items_after at.0 is else items_after at.0 is)
      (not-lt (table_cmp at.0 i.0) (λ h. one_way table_cmp (lists_total entry_cmp_total) i.0 at.0 less h)) in
      behind_token-next text (match_of subject rule i) (matches_of subject rule is)
      (bytes_eq-other (token_of (match_of subject rule i)) text (λ h. less-other i.0 at.0 less (one i (inl refl) h)))
      ∙ behind-at at is (rest-sorted i is up) k e (λ j l. one j (inr l))
      ∙ ap (λ js. Some (matches_of subject rule js)) (sym skipped)

-- ---- parts

-- others behind them, where there are some
abbrev pub appended : Option (List Match) → List Match → Option (List Match)
appended None ns = None
appended (Some ms) ns = Some (ms ++ ns)

-- the matches behind the token are in the first of two lists, or in none
behind_token-first_alone : (token : Text) (ms ns : List Match) → behind_token token ns ≡ None
    → behind_token token (ms ++ ns) ≡ appended (behind_token token ms) ns
behind_token-first_alone token ms ns none = go (behind_token token ms) refl
  where
    go : (o : Option (List Match)) → behind_token token ms ≡ o → behind_token token (ms ++ ns) ≡ appended o ns
    go None e = behind_token-append_none token ms ns e ∙ none
    go (Some rest) e = behind_token-append token ms ns rest e

module _ {X : Type 0} (f : X → List Match) (name : X → Text) (token word : Text) (P : X → Type 0)
    (named : (x : X) → P x → (name x ≡ word → ⊥) → behind_token token (f x) ≡ None) where
  -- it has the name
  abbrev pub is_named : X → Bool
  is_named x = bytes_eq (name x) word

  not-named : (x : X) → is_named x ≡ false → name x ≡ word → ⊥
  not-named x e h = let t = (bytes_eq-Decides (name x) word).1 h in let wrong : true ≡ false = sym t ∙ e in cc

  -- no part has the name
  pub parts-none : (xs : List X) → AllByRecursion P xs → AllByRecursion (λ x. is_named x ≡ false) xs
      → behind_token token (flat_map f xs) ≡ None
  parts-none [] all h = refl
  parts-none (x ∷ xs) all h =
      behind_token-append_none token (f x) (flat_map f xs) (named x all.0 (not-named x h.0)) ∙ parts-none xs all.1 h.1

  -- the others have other names
  others : (x : X) (xs : List X) → is_named x ≡ true → list_all (λ m. not (bytes_eq m (name x))) (map name xs) ≡ true
      → AllByRecursion (λ y. is_named y ≡ false) xs
  others x [] e h = tt
  others x (y ∷ xs) e h = go (others x xs e) (bytes_eq (name y) (name x)) refl h
    where
      go : (list_all (λ m. not (bytes_eq m (name x))) (map name xs) ≡ true
          → AllByRecursion (λ z. is_named z ≡ false) xs)
          → (b : Bool) → bytes_eq (name y) (name x) ≡ b
          → (not b && list_all (λ m. not (bytes_eq m (name x))) (map name xs)) ≡ true
          → (is_named y ≡ false) × AllByRecursion (λ z. is_named z ≡ false) xs
      go later true k h = cc
      go later false k h = (
        bytes_eq-other (name y) word (λ s.
            let same : name y ≡ name x = s ∙ sym ((bytes_eq-Decides (name x) word).0 e) in
            let t = (bytes_eq-Decides (name y) (name x)).1 same in
            let wrong : true ≡ false = sym t ∙ k in cc),
        later h,
      )

  -- the part of the name is found
  pub parts-found : (xs : List X) (d : X) → AllByRecursion P xs → are_distinct (map name xs) ≡ true
      → position_or_len is_named xs < length xs
      → behind_token token (flat_map f xs)
      ≡ appended (behind_token token (f (get_or xs (position_or_len is_named xs) d)))
      (flat_map f (drop (position_or_len is_named xs + 1) xs))
  parts-found [] d all apart h = absurd (omega (arith, h))
  parts-found (x ∷ xs) d all apart h = go (parts-found xs d all.1) (is_named x) refl h
    where
      both : (list_all (λ m. not (bytes_eq m (name x))) (map name xs) ≡ true) × (are_distinct (map name xs) ≡ true)
      both = and_parts (list_all (λ m. not (bytes_eq m (name x))) (map name xs)) (are_distinct (map name xs)) apart

      go : (are_distinct (map name xs) ≡ true → position_or_len is_named xs < length xs
          → behind_token token (flat_map f xs)
          ≡ appended (behind_token token (f (get_or xs (position_or_len is_named xs) d)))
          (flat_map f (drop (position_or_len is_named xs + 1) xs)))
          → (b : Bool) → is_named x ≡ b → cond (not b) (1 + position_or_len is_named xs) 0 < length (x ∷ xs)
          → behind_token token (f x ++ flat_map f xs)
          ≡ appended (behind_token token (f (get_or (x ∷ xs) (cond (not b) (1 + position_or_len is_named xs) 0) d)))
          (flat_map f (drop (cond (not b) (1 + position_or_len is_named xs) 0 + 1) (x ∷ xs)))
      go later true e h =
          behind_token-first_alone token (f x) (flat_map f xs) (parts-none xs all.1 (others x xs e both.0))
      go later false e h =
          let n = position_or_len is_named xs in
          let place : suc n ≡ 1 + n = omega arith in
          let behind : suc (n + 1) ≡ 1 + n + 1 = omega arith in
          behind_token-append_none token (f x) (flat_map f xs) (named x all.0 (not-named x e))
          ∙ later both.1 (omega (arith, h))
          ∙ ap₂ (λ (k m : ℕ). appended (behind_token token (f (get_or (x ∷ xs) k d))) (flat_map f (drop m (x ∷ xs))))
          place behind

-- ---- positions

module _ {X : Type 0} (test : X → Bool) where
  -- where a position is told, it is that of the first item that passes
  pub position-some : (xs : List X) (i : ℕ) → position test xs ≡ Some i
      → (position_or_len test xs ≡ i) × (position_or_len test xs < length xs)
  position-some xs i e = go (nat_lt (position_or_len test xs) (length xs)) refl e
    where
      go : (b : Bool) → nat_lt (position_or_len test xs) (length xs) ≡ b
          → cond b (Some (position_or_len test xs)) None ≡ Some i
          → (position_or_len test xs ≡ i) × (position_or_len test xs < length xs)
      go true k h = (cc, grind (arith, nat_tests))
      go false k h = cc

  none-pass : (xs : List X) → length xs ≤ position_or_len test xs → AllByRecursion (λ x. test x ≡ false) xs
  none-pass [] h = tt
  none-pass (x ∷ xs) h = go (none-pass xs) (test x) refl h
    where
      go : (length xs ≤ position_or_len test xs → AllByRecursion (λ y. test y ≡ false) xs) → (b : Bool) → test x ≡ b
          → length (x ∷ xs) ≤ cond (not b) (1 + position_or_len test xs) 0
          → (test x ≡ false) × AllByRecursion (λ y. test y ≡ false) xs
      go later true e k = absurd (omega (arith, k))
      go later false e k = (e, later (omega (arith, k)))

  -- where none is told, none passes
  pub position-none : (xs : List X) → position test xs ≡ None → AllByRecursion (λ x. test x ≡ false) xs
  position-none xs e = none-pass xs (go (nat_lt (position_or_len test xs) (length xs)) refl e)
    where
      go : (b : Bool) → nat_lt (position_or_len test xs) (length xs) ≡ b
          → cond b (Some (position_or_len test xs)) None ≡ None → length xs ≤ position_or_len test xs
      go true k h = cc
      go false k h = grind (arith, nat_tests)
