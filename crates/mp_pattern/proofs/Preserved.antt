-- What holds of a pattern and its arguments, and of any pattern made of such arguments, holds of its normal form.
use Rattle.std.proofs.Common.{◌≡◌, ℕ, true, false, ◌&&◌, not, List, [], ◌∷◌, refl}
use Rattle.std.specs.Prelude.{nat_eq, is_some, slice_get, if◌then◌else◌}
use Rattle.std.specs.List.{AllByRecursion}
use Rattle.std.proofs.lemmas.Bool.{and_parts, and_from}
use Rattle.mp_term.specs.Signature.{Sig, is_assoc, is_one}
use Rattle.mp_term.proofs.ListLaws.{all-flat_map}
use Rattle.mp_pattern.specs.PatternTree.{Wildcard, Pattern, symbol_pattern, app_pattern, wild_pattern, Patterns}
use Rattle.mp_pattern.specs.PatternTree.{no_patterns, more_patterns, pattern_list, patterns}
use Rattle.mp_pattern.specs.Normal.{is_loose, unwrapped, parts, flattened, in_order, collapsed, normal_pattern}
use Rattle.mp_pattern.specs.Normal.{normal_patterns}
use Rattle.mp_pattern.specs.EachWildcard.{EachWildcard, AllEachWildcard}
use Rattle.mp_pattern.specs.Sound.{holds_ops, all_hold_ops}
use Rattle.mp_pattern.proofs.NormalLaws.{all-in_order}

-- Q holds of the arguments of each application of which it holds
abbrev pub GoesDown : (Pattern → Type 0) → Type 0
GoesDown Q = (f : ℕ) (ps : Patterns) → Q (app_pattern f ps) → AllByRecursion Q (pattern_list ps)

-- and of the application with other arguments of which it holds
abbrev pub GoesUp : (Pattern → Type 0) → Type 0
GoesUp Q = (f : ℕ) (ps : Patterns) (qs : List Pattern) → Q (app_pattern f ps) → AllByRecursion Q qs
    → Q (app_pattern f (patterns qs))

module _ (sig : Sig) (Q : Pattern → Type 0) (of_arguments : GoesDown Q) (with_arguments : GoesUp Q) where
  all-unwrapped : (f : ℕ) (p : Pattern) → Q p → AllByRecursion Q (unwrapped f p)
  all-unwrapped f (symbol_pattern n) h = (h, tt)
  all-unwrapped f (app_pattern g ps) h =
      elim (nat_eq f g) as (λ b. AllByRecursion Q (if b then pattern_list ps else (app_pattern g ps ∷ []))) [
        | true ↦ of_arguments g ps h
        | false ↦ (h, tt)
      ]
  all-unwrapped f (wild_pattern w x) h = (h, tt)

  all-parts : (f : ℕ) (p : Pattern) → Q p → AllByRecursion Q (parts sig f p)
  all-parts f p h = elim (is_assoc sig f) as (λ b. AllByRecursion Q (if b then unwrapped f p else (p ∷ [])))
      [ true ↦ all-unwrapped f p h | false ↦ (h, tt) ]

  of_collapsed : (f : ℕ) (ps : Patterns) (qs : List Pattern) → Q (app_pattern f ps) → AllByRecursion Q qs
      → Q (collapsed sig f qs)
  of_collapsed f ps [] h k = with_arguments f ps [] h k
  of_collapsed f ps (q ∷ []) h k =
      elim (is_one sig f && not (is_loose q)) as (λ b.
      Q (if b then q else app_pattern f (more_patterns q no_patterns))) [
        | true ↦ k.0
        | false ↦ with_arguments f ps (q ∷ []) h k
      ]
  of_collapsed f ps (q ∷ r ∷ qs) h k = with_arguments f ps (q ∷ r ∷ qs) h k

  mutual
    pub of_normal_pattern : (p : Pattern) → Q p → Q (normal_pattern sig p)
    of_normal_pattern (symbol_pattern n) h = h
    of_normal_pattern (app_pattern f ps) h =
        let l = normal_patterns sig ps in
        of_collapsed f ps (in_order sig f (flattened sig f l)) h
        (all-in_order Q sig f (flattened sig f l)
        (all-flat_map Q Q (parts sig f) (all-parts f) l (all-normal_patterns ps (of_arguments f ps h))))
    of_normal_pattern (wild_pattern w x) h = h

    all-normal_patterns : (ps : Patterns) → AllByRecursion Q (pattern_list ps)
        → AllByRecursion Q (normal_patterns sig ps)
    all-normal_patterns no_patterns h = tt
    all-normal_patterns (more_patterns p ps) h = (of_normal_pattern p h.0, all-normal_patterns ps h.1)

-- what holds of each wildcard of a pattern holds of each wildcard of its normal form
module _ (sig : Sig) (Q : Wildcard → Type 0) where
  each_wildcard : (ps : Patterns) → AllEachWildcard Q ps → AllByRecursion (EachWildcard Q) (pattern_list ps)
  each_wildcard no_patterns h = tt
  each_wildcard (more_patterns p ps) h = (h.0, each_wildcard ps h.1)

  all_wildcards : (qs : List Pattern) → AllByRecursion (EachWildcard Q) qs → AllEachWildcard Q (patterns qs)
  all_wildcards [] h = tt
  all_wildcards (q ∷ qs) h = (h.0, all_wildcards qs h.1)

  pub each_wildcard-normal_pattern : (p : Pattern) → EachWildcard Q p → EachWildcard Q (normal_pattern sig p)
  each_wildcard-normal_pattern = of_normal_pattern sig (EachWildcard Q) (λ f ps h. each_wildcard ps h)
      (λ f ps qs h k. all_wildcards qs k)

module _ (sig : Sig) where
  each_held : (ps : Patterns) → all_hold_ops sig ps ≡ true
      → AllByRecursion (λ p. holds_ops sig p ≡ true) (pattern_list ps)
  each_held no_patterns h = tt
  each_held (more_patterns p ps) h = let k = and_parts (holds_ops sig p) (all_hold_ops sig ps) h in
      (k.0, each_held ps k.1)

  all_held : (qs : List Pattern) → AllByRecursion (λ p. holds_ops sig p ≡ true) qs
      → all_hold_ops sig (patterns qs) ≡ true
  all_held [] h = refl
  all_held (q ∷ qs) h = and_from (holds_ops sig q) (all_hold_ops sig (patterns qs)) h.0 (all_held qs h.1)

  -- the operations of a normal form are held where those of the pattern are
  pub holds_ops-normal_pattern : (p : Pattern) → holds_ops sig p ≡ true → holds_ops sig (normal_pattern sig p) ≡ true
  holds_ops-normal_pattern =
      of_normal_pattern sig (λ p. holds_ops sig p ≡ true)
      (λ f ps h. each_held ps (and_parts (is_some (slice_get sig.ops f)) (all_hold_ops sig ps) h).1)
      (λ f ps qs h k. and_from (is_some (slice_get sig.ops f)) (all_hold_ops sig (patterns qs))
      (and_parts (is_some (slice_get sig.ops f)) (all_hold_ops sig ps) h).0 (all_held qs k))
