-- The variables of a pattern, read as names that are given.
use Rattle.std.proofs.Common.{◌≡◌, ◌<◌, ◌≤◌, ◌∙◌, ℕ, zero, suc, ◌+◌, Bool, true, false, List, [], ◌∷◌, ◌++◌, length}
use Rattle.std.proofs.Common.{append_assoc, get_or, take, refl, sym, ap, arith}
use Rattle.std.specs.Prelude.{◌||◌, if◌then◌else◌, Option, Some, None, option_map, slice_get, slice_index_or}
use Rattle.std.specs.List.{AllByRecursion}
use Rattle.std.proofs.lemmas.List.{get_or_append_left, length-append, map-append, take_all, take_more}
use Rattle.std.proofs.lemmas.Map.Text.{is_eq-slice_cmp}
use Rattle.std.proofs.lemmas.Option.{get_or_from_slice_get}
use Rattle.std.proofs.lemmas.Slice.Eq.{bytes_eq-Decides}
use Rattle.mp_term.proofs.ListLaws.{all-also}
use Rattle.mp_pattern.specs.Firsts.{is_known, firsts_after}
use Rattle.mp_pattern.specs.NetTokens.{number_in}
use Rattle.mp_pattern.specs.PatternTree.{dot, Pattern, wild_pattern}
use Rattle.mp_pattern.specs.UsedNames.{used_names}
use Rattle.mp_pattern.specs.Value.{same_name}
use Rattle.mp_pattern.specs.Variables.{variables}
use Rattle.mp_pattern.proofs.PlanLaws.{firsts_after-append}
use Rattle.mp_pattern.proofs.UsedNameLaws.{names-uses}
use Rattle.mp_many.specs.RuleNames.{lists_at}

-- a name whose number is below k is one of the first k
known-take : (names : List (List ℕ)) (k : ℕ) (x : List ℕ) → number_in names x < k → k ≤ length names
    → is_known same_name (take k names) x ≡ true
known-take [] k x h w = absurd (omega (arith, h, w))
known-take (n ∷ ns) zero x h w = absurd (omega (arith, h))
known-take (n ∷ ns) (suc k) x h w = at (same_name n x) (λ g. known-take ns k x g (omega (arith, w))) h
  where
    at : (b : Bool) → (number_in ns x < k → is_known same_name (take k ns) x ≡ true)
        → (if b then 0 else number_in ns x + 1) < suc k → b || is_known same_name (take k ns) x ≡ true
    at true r g = refl
    at false r g = r (omega (arith, g))

-- one whose number isn't below k is none of them
fresh-take : (names : List (List ℕ)) (k : ℕ) (x : List ℕ) → k ≤ number_in names x → k ≤ length names
    → is_known same_name (take k names) x ≡ false
fresh-take names zero x h w = refl
fresh-take [] (suc k) x h w = absurd (omega (arith, w))
fresh-take (n ∷ ns) (suc k) x h w = at (same_name n x) (λ g. fresh-take ns k x g (omega (arith, w))) h
  where
    at : (b : Bool) → (k ≤ number_in ns x → is_known same_name (take k ns) x ≡ false)
        → suc k ≤ (if b then 0 else number_in ns x + 1) → b || is_known same_name (take k ns) x ≡ false
    at true r g = absurd (omega (arith, g))
    at false r g = r (omega (arith, g))

-- the name that stands at its number
name-at : (names : List (List ℕ)) (k : ℕ) (x : List ℕ) → number_in names x ≡ k → k < length names
    → get_or names k x ≡ x
name-at [] k x e h = absurd (omega (arith, h))
name-at (n ∷ ns) zero x e h = at (same_name n x) (λ s. (bytes_eq-Decides n x).0 (sym (is_eq-slice_cmp n x) ∙ s)) e
  where
    at : (b : Bool) → (b ≡ true → n ≡ x) → (if b then 0 else number_in ns x + 1) ≡ 0 → n ≡ x
    at true s g = s refl
    at false s g = absurd (omega (arith, g))
name-at (n ∷ ns) (suc k) x e h = at (same_name n x) (λ g. name-at ns k x g (omega (arith, h))) e
  where
    at : (b : Bool) → (number_in ns x ≡ k → get_or ns k x ≡ x) → (if b then 0 else number_in ns x + 1) ≡ suc k
        → get_or ns k x ≡ x
    at true r g = absurd (omega (arith, g))
    at false r g = r (omega (arith, g))

module _ (names : List (List ℕ)) (k : ℕ) where
  -- what is read behind a variable: nothing new, where it is one of the first names
  pub read-known : (v : Option (List ℕ)) (n : ℕ) → option_map (number_in names) v ≡ Some n → n < k → k ≤ length names
      → firsts_after same_name (take k names) (used_names (wild_pattern dot v)) ≡ take k names
  read-known None n e h w = absurd cc
  read-known (Some x) n e h w =
      let is : number_in names x ≡ n = cc in
      ap (λ b. if b then take k names else (take k names ++ (x ∷ []))) (known-take names k x (omega (arith, is, h)) w)

  -- one name more, where it is the next one
  pub read-next : (v : Option (List ℕ)) (n : ℕ) → option_map (number_in names) v ≡ Some n → n ≡ k → n < length names
      → firsts_after same_name (take k names) (used_names (wild_pattern dot v)) ≡ take (k + 1) names
  read-next None n e h w = absurd cc
  read-next (Some x) n e h w =
      let is : number_in names x ≡ n = cc in
      let own : number_in names x ≡ k = is ∙ h in
      let within : k < length names = omega (arith, h, w) in
      ap (λ b. if b then take k names else (take k names ++ (x ∷ [])))
      (fresh-take names k x (omega (arith, own)) (omega (arith, within)))
      ∙ ap (λ y. take k names ++ (y ∷ [])) (sym (name-at names k x own within)) ∙ sym (take_more names k x within)

  -- names of two patterns, one after the other
  pub read-then : (n : ℕ) (xs ys : List (List ℕ)) → firsts_after same_name (take k names) xs ≡ take n names
      → firsts_after same_name (take k names) (xs ++ ys) ≡ firsts_after same_name (take n names) ys
  read-then n xs ys e = firsts_after-append same_name (take k names) xs ys ∙ ap (λ l. firsts_after same_name l ys) e

-- names that are read to their end are the variables
pub read-all : (names : List (List ℕ)) (p : Pattern) (n : ℕ) → n ≡ length names
    → firsts_after same_name [] (used_names p) ≡ take n names → names ≡ variables p
read-all names p n e h =
    sym (take_all n names (omega (arith, e))) ∙ sym h ∙ ap (firsts_after same_name []) (sym (names-uses None p))

-- places are within more lists
pub within-more : (lists more : List (List (List ℕ))) (places : List ℕ)
    → AllByRecursion (λ n. n < length lists) places → AllByRecursion (λ n. n < length (lists ++ more)) places
within-more lists more places h =
    all-also (λ n. n < length lists) (λ n. n < length (lists ++ more))
    (λ n w. omega (arith, w, length-append lists more)) places h

-- and their lists are the same
pub lists_at-more : (lists more : List (List (List ℕ))) (places : List ℕ)
    → AllByRecursion (λ n. n < length lists) places → lists_at (lists ++ more) places ≡ lists_at lists places
lists_at-more lists more [] h = refl
lists_at-more lists more (n ∷ ns) h =
    λ i. get_or_append_left lists more [] n h.0 i ∷ lists_at-more lists more ns h.1 i

-- one list more is read
pub lists_at-next : (lists more now : List (List (List ℕ))) (places : List ℕ) (n : ℕ) (x : List (List ℕ))
    (rest : List (List (List ℕ))) → now ≡ lists ++ more → AllByRecursion (λ n. n < length lists) places
    → slice_get now n ≡ Some x → lists_at now (places ++ n ∷ []) ++ rest ≡ lists_at lists places ++ (x ∷ rest)
lists_at-next lists more now places n x rest e h at =
    let kept : lists_at now places ≡ lists_at lists places =
    ap (λ l. lists_at l places) e ∙ lists_at-more lists more places h in
    ap (λ l. l ++ rest) (map-append (λ m. slice_index_or now m []) places (n ∷ []))
    ∙ (λ i. (kept i ++ (get_or_from_slice_get now n x [] at i ∷ [])) ++ rest)
    ∙ append_assoc (lists_at lists places) (x ∷ []) rest
