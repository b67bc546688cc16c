-- The occurrences of variables in a pattern, whatever they stand under: names and wildcards alone decide whether two of
-- them differ.
use Rattle.std.proofs.Common.{◌≡◌, ℕ, List, [], ◌∷◌, ◌++◌, true, false, refl, ap, sym, ◌∙◌, inl, inr, subst}
use Rattle.std.specs.Prelude.{◌||◌, ◌&&◌, not, Option, Some, None}
use Rattle.std.specs.List.{list_any}
use Rattle.std.proofs.lemmas.Bool.{or_parts, not-false}
use Rattle.std.proofs.lemmas.List.{map-append}
use Rattle.mp_term.specs.Listing.{In}
use Rattle.mp_term.proofs.SearchLaws.{all-from_in, from_in-append}
use Rattle.mp_pattern.specs.Clash.{same_shape}
use Rattle.mp_pattern.specs.PatternTree.{Wildcard, Pattern, symbol_pattern, app_pattern, wild_pattern, Patterns}
use Rattle.mp_pattern.specs.PatternTree.{no_patterns, more_patterns}
use Rattle.mp_pattern.specs.Subpatterns.{subpatterns, all_subpatterns}
use Rattle.mp_pattern.specs.Value.{same_name}
use Rattle.mp_pattern.specs.Variables.{Use, uses, all_uses}
use Rattle.mp_pattern.proofs.ClashLaws.{Agree, InOrder, same_shape-same}
use Rattle.mp_pattern.proofs.NameLaws.{same_name-itself}
use Rattle.mp_program.specs.TokenPaths.{differ, some_differ}
use Rattle.mp_program.proofs.PathLaws.{bare, all_bare}

-- those of wildcards among patterns
abbrev pub root_uses : List Pattern → List Use
root_uses [] = []
root_uses (symbol_pattern n ∷ ps) = root_uses ps
root_uses (app_pattern f qs ∷ ps) = root_uses ps
root_uses (wild_pattern w None ∷ ps) = root_uses ps
root_uses (wild_pattern w (Some x) ∷ ps) = record { name = x; wildcard = w; under = None } ∷ root_uses ps

pub root_uses-append : (ps qs : List Pattern) → root_uses (ps ++ qs) ≡ root_uses ps ++ root_uses qs
root_uses-append [] qs = refl
root_uses-append (symbol_pattern n ∷ ps) qs = root_uses-append ps qs
root_uses-append (app_pattern f rs ∷ ps) qs = root_uses-append ps qs
root_uses-append (wild_pattern w None ∷ ps) qs = root_uses-append ps qs
root_uses-append (wild_pattern w (Some x) ∷ ps) qs =
    ap (λ us. record { name = x; wildcard = w; under = None } ∷ us) (root_uses-append ps qs)

-- they are those of the parts of a pattern
mutual
  pub root_uses-subpatterns : (f : Option ℕ) (p : Pattern) → root_uses (subpatterns p) ≡ all_bare (uses f p)
  root_uses-subpatterns f (symbol_pattern n) = refl
  root_uses-subpatterns f (wild_pattern w None) = refl
  root_uses-subpatterns f (wild_pattern w (Some x)) = refl
  root_uses-subpatterns f (app_pattern g ps) = root_uses-all_subpatterns (Some g) ps

  pub root_uses-all_subpatterns : (f : Option ℕ) (ps : Patterns)
      → root_uses (all_subpatterns ps) ≡ all_bare (all_uses f ps)
  root_uses-all_subpatterns f no_patterns = refl
  root_uses-all_subpatterns f (more_patterns p ps) =
      root_uses-append (subpatterns p) (all_subpatterns ps)
      ∙ ap (λ us. us ++ root_uses (all_subpatterns ps)) (root_uses-subpatterns f p)
      ∙ ap (λ us. all_bare (uses f p) ++ us) (root_uses-all_subpatterns f ps)
      ∙ sym (map-append bare (uses f p) (all_uses f ps))

-- what they stand under says nothing of whether two of them differ
any-bare : (u : Use) (us : List Use) → list_any (differ (bare u)) (all_bare us) ≡ list_any (differ u) us
any-bare u [] = refl
any-bare u (v ∷ us) = ap (λ b. differ u v || b) (any-bare u us)

pub some_differ-bare : (us : List Use) → some_differ (all_bare us) ≡ some_differ us
some_differ-bare [] = refl
some_differ-bare (u ∷ us) =
    ap (λ b. b || some_differ (all_bare us)) (any-bare u us)
    ∙ ap (λ b. list_any (differ u) us || b) (some_differ-bare us)

-- a wildcard whose variable doesn't differ from the others agrees with them
agree-differ : (w : Wildcard) (x : List ℕ) (ps : List Pattern)
    → list_any (differ (record { name = x; wildcard = w; under = None })) (root_uses ps) ≡ false
    → (p : Pattern) → In p ps → Agree (wild_pattern w (Some x)) p
agree-differ w x [] h p i = absurd i
agree-differ w x (symbol_pattern n ∷ ps) h p (inl e) = subst (Agree (wild_pattern w (Some x))) (sym e) tt
agree-differ w x (symbol_pattern n ∷ ps) h p (inr i) = agree-differ w x ps h p i
agree-differ w x (app_pattern f qs ∷ ps) h p (inl e) = subst (Agree (wild_pattern w (Some x))) (sym e) tt
agree-differ w x (app_pattern f qs ∷ ps) h p (inr i) = agree-differ w x ps h p i
agree-differ w x (wild_pattern v None ∷ ps) h p (inl e) = subst (Agree (wild_pattern w (Some x))) (sym e) tt
agree-differ w x (wild_pattern v None ∷ ps) h p (inr i) = agree-differ w x ps h p i
agree-differ w x (wild_pattern v (Some y) ∷ ps) h p (inl e) = subst (Agree (wild_pattern w (Some x))) (sym e) (λ s.
    let first = (or_parts (same_name x y && not (same_shape w v)) _ h).0 in
    let same : same_name x y ≡ true = ap (same_name x) (sym s) ∙ same_name-itself x in
    same_shape-same w v (not-false (same_shape w v) (sym (ap (λ b. b && not (same_shape w v)) same) ∙ first)))
agree-differ w x (wild_pattern v (Some y) ∷ ps) h p (inr i) =
    agree-differ w x ps (or_parts (same_name x y && not (same_shape w v)) _ h).1 p i

-- no wildcard with a variable
abbrev IsPlain : Pattern → Type 0
IsPlain (wild_pattern w (Some x)) = ⊥
IsPlain _ = Unit {0}

-- agrees with all
agree-plain : (p r : Pattern) → IsPlain p → Agree p r
agree-plain (symbol_pattern n) (wild_pattern w (Some y)) k = tt
agree-plain (symbol_pattern n) (wild_pattern w None) k = tt
agree-plain (symbol_pattern n) (symbol_pattern m) k = tt
agree-plain (symbol_pattern n) (app_pattern g qs) k = tt
agree-plain (app_pattern f rs) (wild_pattern w (Some y)) k = tt
agree-plain (app_pattern f rs) (wild_pattern w None) k = tt
agree-plain (app_pattern f rs) (symbol_pattern m) k = tt
agree-plain (app_pattern f rs) (app_pattern g qs) k = tt
agree-plain (wild_pattern v None) (wild_pattern w (Some y)) k = tt
agree-plain (wild_pattern v None) (wild_pattern w None) k = tt
agree-plain (wild_pattern v None) (symbol_pattern m) k = tt
agree-plain (wild_pattern v None) (app_pattern g qs) k = tt
agree-plain (wild_pattern v (Some x)) r k = absurd k

-- patterns whose variables don't differ are in order
in-order : (before ps : List Pattern) → ((q p : Pattern) → In q before → In p ps → Agree q p)
    → some_differ (root_uses ps) ≡ false → InOrder before ps
in-order before [] a h = tt
in-order before (p ∷ ps) a h = (
  all-from_in (λ q. Agree q p) before (λ q i. a q p i (inl refl)),
  in-order (before ++ p ∷ []) ps (λ q r i j. elim (from_in-append q before (p ∷ []) i) [
    | inl k ↦ a q r k (inr j)
    | inr k ↦ elim k [ inl e ↦ subst (λ z. Agree z r) (sym e) (first p h r j) | inr n ↦ absurd n ]
  ]) (rest p h),
)
  where
    first : (p : Pattern) → some_differ (root_uses (p ∷ ps)) ≡ false → (r : Pattern) → In r ps → Agree p r
    first (symbol_pattern n) h r j = agree-plain (symbol_pattern n) r tt
    first (app_pattern f qs) h r j = agree-plain (app_pattern f qs) r tt
    first (wild_pattern w None) h r j = agree-plain (wild_pattern w None) r tt
    first (wild_pattern w (Some x)) h r j = agree-differ w x ps
        (or_parts (list_any (differ (record { name = x; wildcard = w; under = None })) (root_uses ps)) _ h).0 r j

    rest : (p : Pattern) → some_differ (root_uses (p ∷ ps)) ≡ false → some_differ (root_uses ps) ≡ false
    rest (symbol_pattern n) h = h
    rest (app_pattern f qs) h = h
    rest (wild_pattern w None) h = h
    rest (wild_pattern w (Some x)) h =
        (or_parts (list_any (differ (record { name = x; wildcard = w; under = None })) (root_uses ps)) _ h).1

pub in-order-parts : (p : Pattern) → some_differ (uses None p) ≡ false → InOrder [] (subpatterns p)
in-order-parts p h = in-order [] (subpatterns p) (λ q r i. absurd i)
    (ap some_differ (root_uses-subpatterns None p) ∙ some_differ-bare (uses None p) ∙ h)
