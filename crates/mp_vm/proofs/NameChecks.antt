-- Names that stand among others.
use Rattle.std.proofs.Common.{◌≡◌, ◌<◌, ◌+◌, ℕ, Bool, true, false, List, [], ◌∷◌, length, get_or, drop, Some, None}
use Rattle.std.proofs.Common.{sym, ap, ◌∙◌, refl}
use Rattle.std.specs.Prelude.{not, ◌||◌, ◌&&◌, bytes_eq, slice_get}
use Rattle.std.specs.List.{list_all}
use Rattle.std.proofs.lemmas.Map.Text.{is_eq-slice_cmp}
use Rattle.std.proofs.lemmas.Option.{slice_get-get_or}
use Rattle.mp_io.specs.Devices.{Text}
use Rattle.mp_term.specs.Names.{are_distinct}
use Rattle.mp_term.proofs.ListLaws.{drop-at}
use Rattle.mp_pattern.specs.Firsts.{is_known}
use Rattle.mp_pattern.specs.Value.{same_name}

-- ---- the item at an index

-- it isn't lacking below the length
pub item-there : (xs : List Text) (i : ℕ) → i < length xs → slice_get xs i ≡ None → ⊥
item-there xs i within none =
    (let wrong : Some (get_or xs i []) ≡ None = sym (slice_get-get_or xs i [] within) ∙ none in cc)

-- ---- names

-- the names behind one are others where it isn't known among them
distinct-known : (xs : List Text) (x : Text) → list_all (λ y. not (bytes_eq y x)) xs ≡ not (is_known same_name xs x)
distinct-known [] x = refl
distinct-known (y ∷ xs) x =
    (λ i. not (sym (is_eq-slice_cmp y x) i) && distinct-known xs x i)
    ∙ none_of (same_name y x) (is_known same_name xs x)
  where
    none_of : (a b : Bool) → (not a && not b) ≡ not (a || b)
    none_of true b = refl
    none_of false b = refl

-- the name at an index, of those from there on
module _ (xs : List Text) (i : ℕ) (x : Text) (at : slice_get xs i ≡ Some x) where
  -- it is the name
  pub known-here : (y : Text) → same_name x y ≡ true → is_known same_name (drop i xs) y ≡ true
  known-here y same = ap (λ l. is_known same_name l y) (drop-at xs i x at)
      ∙ ap (λ b. b || is_known same_name (drop (i + 1) xs) y) same

  -- it is another
  pub known-behind : (y : Text) → same_name x y ≡ false
      → is_known same_name (drop (i + 1) xs) y ≡ is_known same_name (drop i xs) y
  known-behind y other = sym (ap (λ l. is_known same_name l y) (drop-at xs i x at)
      ∙ ap (λ b. b || is_known same_name (drop (i + 1) xs) y) other)

  -- it stands there again
  pub distinct-again : is_known same_name (drop (i + 1) xs) x ≡ true → are_distinct (drop i xs) ≡ false
  distinct-again known = ap are_distinct (drop-at xs i x at)
      ∙ ap (λ b. b && are_distinct (drop (i + 1) xs)) (distinct-known (drop (i + 1) xs) x ∙ ap not known)

  -- it doesn't
  pub distinct-behind : is_known same_name (drop (i + 1) xs) x ≡ false
      → are_distinct (drop (i + 1) xs) ≡ are_distinct (drop i xs)
  distinct-behind unknown = sym (ap are_distinct (drop-at xs i x at)
      ∙ ap (λ b. b && are_distinct (drop (i + 1) xs)) (distinct-known (drop (i + 1) xs) x ∙ ap not unknown))
