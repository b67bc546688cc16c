-- Variables that are named by their numbers: their names give the numbers back, and numbering them again changes
-- nothing.
use Rattle.std.proofs.Common.{◌≡◌, ℕ, zero, suc, ◌+◌, ◌<◌, List, [], ◌∷◌, map, length, Bool, true, false}
use Rattle.std.proofs.Common.{refl, ap, sym, ◌∙◌, inl, inr, subst, arith}
use Rattle.std.proofs.Common.{length-append}
use Rattle.std.specs.Prelude.{Option, Some, None, ⊤, slice_get, if◌then◌else◌}
use Rattle.mp_term.specs.Listing.{In}
use Rattle.mp_term.proofs.SearchLaws.{in-map, in-left, in-right, from_in-append}
use Rattle.mp_term.proofs.TestLaws.{below_or_last}
use Rattle.mp_pattern.specs.NetTokens.{number_in, numbered, renamed, all_renamed}
use Rattle.mp_pattern.specs.PatternTree.{Pattern, symbol_pattern, app_pattern, wild_pattern, Patterns, no_patterns}
use Rattle.mp_pattern.specs.PatternTree.{more_patterns}
use Rattle.mp_pattern.specs.Value.{same_name}
use Rattle.mp_pattern.specs.Variables.{Use, uses, all_uses, variables}
use Rattle.mp_pattern.proofs.ItemLaws.{slice_get-first, slice_get-second}
use Rattle.mp_pattern.proofs.NameLaws.{same_name-is, same_name-itself}
use Rattle.mp_walk.specs.Walkable.{numbered_names}
use Rattle.mp_theory.proofs.FirstItems.{in-firsts_after}

-- the number of a known name is its place
pub number_in-at : (xs : List (List ℕ)) (x : List ℕ) → In x xs → slice_get xs (number_in xs x) ≡ Some x
number_in-at [] x i = absurd i
number_in-at (y ∷ ys) x i = by_test (same_name y x) refl i (λ j. number_in-at ys x j)
  where
    by_test : (b : Bool) → same_name y x ≡ b → In x (y ∷ ys) → (In x ys → slice_get ys (number_in ys x) ≡ Some x)
        → slice_get (y ∷ ys) (if b then 0 else number_in ys x + 1) ≡ Some x
    by_test true e i go = ap Some (same_name-is y x e)
    by_test false e (inl p) go = (let wrong : false ≡ true = sym e ∙ (ap (same_name y) p ∙ same_name-itself y) in cc)
    by_test false e (inr j) go =
        ap (slice_get (y ∷ ys)) (let z : number_in ys x + 1 ≡ suc (number_in ys x) = omega arith in z) ∙ go j

-- and below how many there are
pub number_in-less : (xs : List (List ℕ)) (x : List ℕ) → In x xs → number_in xs x < length xs
number_in-less [] x i = absurd i
number_in-less (y ∷ ys) x i = by_test (same_name y x) refl i (λ j. number_in-less ys x j)
  where
    by_test : (b : Bool) → same_name y x ≡ b → In x (y ∷ ys) → (In x ys → number_in ys x < length ys)
        → (if b then 0 else number_in ys x + 1) < length (y ∷ ys)
    by_test true e i go = omega arith
    by_test false e (inl p) go = (let wrong : false ≡ true = sym e ∙ (ap (same_name y) p ∙ same_name-itself y) in cc)
    by_test false e (inr j) go = let h = go j in omega arith

-- how many they are
pub length-numbered_names : (n : ℕ) → length (numbered_names n) ≡ n
length-numbered_names zero = refl
length-numbered_names (suc n) =
    omega (arith, length-append (numbered_names n) (numbered n ∷ []), length-numbered_names n)

numbered_names-at : (n k : ℕ) → k < n → slice_get (numbered_names n) k ≡ Some (numbered k)
numbered_names-at zero k h = absurd (omega arith)
numbered_names-at (suc n) k h = elim (below_or_last k n h) [
  | inl l ↦ slice_get-first (numbered_names n) (numbered n ∷ []) k
      (let z : length (numbered_names n) ≡ n = length-numbered_names n in omega arith)
      ∙ numbered_names-at n k l
  | inr e ↦ slice_get-second (numbered_names n) (numbered n ∷ []) 0 k
      (let z : length (numbered_names n) ≡ n = length-numbered_names n in omega (arith, e, z))
      ∙ ap (λ m. Some (numbered m)) (sym e)
]

-- the names that stand at the wildcards of a pattern are all known
abbrev mutual
  pub NamesIn : List (List ℕ) → Pattern → Type 0
  NamesIn vs (symbol_pattern n) = ⊤
  NamesIn vs (wild_pattern w None) = ⊤
  NamesIn vs (wild_pattern w (Some x)) = In x vs
  NamesIn vs (app_pattern g ps) = AllNamesIn vs ps

  pub AllNamesIn : List (List ℕ) → Patterns → Type 0
  AllNamesIn vs no_patterns = ⊤
  AllNamesIn vs (more_patterns p ps) = NamesIn vs p × AllNamesIn vs ps

mutual
  pub names-in : (vs : List (List ℕ)) (f : Option ℕ) (p : Pattern) → ((u : Use) → In u (uses f p) → In u.name vs)
      → NamesIn vs p
  names-in vs f (symbol_pattern n) h = tt
  names-in vs f (wild_pattern w None) h = tt
  names-in vs f (wild_pattern w (Some x)) h = h (record { name = x; wildcard = w; under = f }) (inl refl)
  names-in vs f (app_pattern g ps) h = all_names-in vs (Some g) ps h

  all_names-in : (vs : List (List ℕ)) (f : Option ℕ) (ps : Patterns) → ((u : Use) → In u (all_uses f ps) → In u.name vs)
      → AllNamesIn vs ps
  all_names-in vs f no_patterns h = tt
  all_names-in vs f (more_patterns p ps) h = (
    names-in vs f p (λ u i. h u (in-left u (uses f p) (all_uses f ps) i)),
    all_names-in vs f ps (λ u i. h u (in-right u (uses f p) (all_uses f ps) i)),
  )

-- and back: each name of a use is known
mutual
  pub use-known : (vs : List (List ℕ)) (f : Option ℕ) (p : Pattern) → NamesIn vs p → (u : Use) → In u (uses f p)
      → In u.name vs
  use-known vs f (symbol_pattern n) h u i = absurd i
  use-known vs f (wild_pattern w None) h u i = absurd i
  use-known vs f (wild_pattern w (Some x)) h u (inl e) = subst (λ (z : Use). In z.name vs) (sym e) h
  use-known vs f (wild_pattern w (Some x)) h u (inr i) = absurd i
  use-known vs f (app_pattern g ps) h u i = all_use-known vs (Some g) ps h u i

  all_use-known : (vs : List (List ℕ)) (f : Option ℕ) (ps : Patterns) → AllNamesIn vs ps → (u : Use)
      → In u (all_uses f ps) → In u.name vs
  all_use-known vs f no_patterns h u i = absurd i
  all_use-known vs f (more_patterns p ps) h u i = elim (from_in-append u (uses f p) (all_uses f ps) i) [
    | inl j ↦ use-known vs f p h.0 u j
    | inr j ↦ all_use-known vs f ps h.1 u j
  ]

-- those of a pattern are among its variables
pub own-names : (p : Pattern) → NamesIn (variables p) p
own-names p = names-in (variables p) None p (λ u i.
    in-firsts_after same_name same_name-is [] (map (λ (v : Use). v.name) (uses None p)) u.name
    (inr (in-map (λ (v : Use). v.name) u (uses None p) i)))

module _ (vs : List (List ℕ)) (names : vs ≡ numbered_names (length vs)) where
  -- the name of its number is the name itself
  pub numbered-number_in : (x : List ℕ) → In x vs → numbered (number_in vs x) ≡ x
  numbered-number_in x i =
      let a : slice_get vs (number_in vs x) ≡ Some x = number_in-at vs x i in
      let b : slice_get vs (number_in vs x) ≡ Some (numbered (number_in vs x)) =
      ap (λ l. slice_get l (number_in vs x)) names
      ∙ numbered_names-at (length vs) (number_in vs x) (number_in-less vs x i) in
      let c : Some (numbered (number_in vs x)) ≡ Some x = sym b ∙ a in
      cc

  -- so renaming by the numbers changes nothing
  mutual
    pub renamed-itself : (p : Pattern) → NamesIn vs p → renamed vs p ≡ p
    renamed-itself (symbol_pattern n) h = refl
    renamed-itself (wild_pattern w None) h = refl
    renamed-itself (wild_pattern w (Some x)) h = ap (λ y. wild_pattern w (Some y)) (numbered-number_in x h)
    renamed-itself (app_pattern g ps) h = ap (app_pattern g) (all_renamed-itself ps h)

    pub all_renamed-itself : (ps : Patterns) → AllNamesIn vs ps → all_renamed vs ps ≡ ps
    all_renamed-itself no_patterns h = refl
    all_renamed-itself (more_patterns p ps) h =
        ap (λ q. more_patterns q (all_renamed vs ps)) (renamed-itself p h.0)
        ∙ ap (more_patterns p) (all_renamed-itself ps h.1)
