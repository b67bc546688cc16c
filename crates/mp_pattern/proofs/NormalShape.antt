-- A normal form is a pattern that each step of normalising leaves as it is, and so are its subpatterns.
use Rattle.std.proofs.Common.{◌≡◌, ℕ, Bool, true, false, ◌&&◌, not, List, [], ◌∷◌, refl, ap, sym, ◌∙◌, subst, eqb-true}
use Rattle.std.specs.Prelude.{nat_eq, ⊤}
use Rattle.std.specs.List.{AllByRecursion}
use Rattle.std.proofs.Math.Bool.{and-false}
use Rattle.mp_term.specs.Signature.{Sig, is_assoc, is_one}
use Rattle.mp_term.proofs.ListLaws.{all-append, all-flat_map}
use Rattle.mp_pattern.specs.PatternTree.{Pattern, symbol_pattern, app_pattern, wild_pattern, Patterns, no_patterns}
use Rattle.mp_pattern.specs.PatternTree.{more_patterns, pattern_list, patterns}
use Rattle.mp_pattern.specs.PatternLists.{pattern_list-patterns}
use Rattle.mp_pattern.specs.Normal.{is_loose, parts, flattened, in_order, collapsed, normal_pattern, normal_patterns}
use Rattle.mp_pattern.specs.Normal.{IsNormalPattern}
use Rattle.mp_pattern.specs.Subpatterns.{subpatterns, all_subpatterns}
use Rattle.mp_pattern.proofs.NormalLaws.{all-in_order, in_order-in_order}

-- p is an application of f
abbrev has_head : ℕ → Pattern → Bool
has_head f (symbol_pattern n) = false
has_head f (app_pattern g ps) = nat_eq f g
has_head f (wild_pattern w x) = false

module _ (sig : Sig) where
  -- f doesn't replace p by its arguments
  abbrev IsWhole : ℕ → Pattern → Type 0
  IsWhole f p = (is_assoc sig f && has_head f p) ≡ false

  abbrev mutual
    -- the arguments of each application in p stay, stay in order, and don't collapse
    Stays : Pattern → Type 0
    Stays (symbol_pattern n) = ⊤
    Stays (app_pattern f ps) = AllStay f ps × (in_order sig f (pattern_list ps) ≡ pattern_list ps)
        × (collapsed sig f (pattern_list ps) ≡ app_pattern f ps)
    Stays (wild_pattern w x) = ⊤

    -- each argument of f stays, and isn't replaced
    AllStay : ℕ → Patterns → Type 0
    AllStay f no_patterns = ⊤
    AllStay f (more_patterns p ps) = (Stays p × IsWhole f p) × AllStay f ps

  -- an argument of f that stays
  abbrev StaysUnder : ℕ → Pattern → Type 0
  StaysUnder f p = Stays p × IsWhole f p

  all_stay : (f : ℕ) (ps : List Pattern) → AllByRecursion (StaysUnder f) ps → AllStay f (patterns ps)
  all_stay f [] h = tt
  all_stay f (p ∷ ps) h = (h.0, all_stay f ps h.1)

  each_stays : (f : ℕ) (ps : Patterns) → AllStay f ps → AllByRecursion (StaysUnder f) (pattern_list ps)
  each_stays f no_patterns h = tt
  each_stays f (more_patterns p ps) h = (h.0, each_stays f ps h.1)

  -- an argument that isn't replaced is its own part
  whole_part : (f : ℕ) (p : Pattern) (b : Bool) → is_assoc sig f ≡ b → (b && has_head f p) ≡ false
      → parts sig f p ≡ p ∷ []
  whole_part f (symbol_pattern n) true q e = rw q refl
  whole_part f (app_pattern g ps) true q e = rw (q, e) refl
  whole_part f (wild_pattern w x) true q e = rw q refl
  whole_part f p false q e = rw q refl

  alone : (f : ℕ) (p : Pattern) → Stays p → IsWhole f p → AllByRecursion (StaysUnder f) (parts sig f p)
  alone f p h e = subst (AllByRecursion (StaysUnder f)) (sym (whole_part f p (is_assoc sig f) refl e)) ((h, e), tt)

  app_parts_stay : (f g : ℕ) (ps : Patterns) (b c : Bool) → is_assoc sig f ≡ b → nat_eq f g ≡ c
      → Stays (app_pattern g ps) → AllByRecursion (StaysUnder f) (parts sig f (app_pattern g ps))
  app_parts_stay f g ps true true q r h =
      let same : f ≡ g = eqb-true f g r in
      let inner : AllByRecursion (StaysUnder f) (pattern_list ps) =
      each_stays f ps (subst (λ k. AllStay k ps) (sym same) h.0) in
      rw (q, r) inner
  app_parts_stay f g ps true false q r h = alone f (app_pattern g ps) h (rw (q, r) refl)
  app_parts_stay f g ps false c q r h = alone f (app_pattern g ps) h (rw q refl)

  -- what an argument that stays gives to f stays
  parts_stay : (f : ℕ) (p : Pattern) → Stays p → AllByRecursion (StaysUnder f) (parts sig f p)
  parts_stay f (symbol_pattern n) h = alone f (symbol_pattern n) h (and-false (is_assoc sig f))
  parts_stay f (app_pattern g ps) h = app_parts_stay f g ps (is_assoc sig f) (nat_eq f g) refl refl h
  parts_stay f (wild_pattern w x) h = alone f (wild_pattern w x) h (and-false (is_assoc sig f))

  one_stays : (f : ℕ) (p : Pattern) (b : Bool) → (is_one sig f && not (is_loose p)) ≡ b
      → in_order sig f (p ∷ []) ≡ p ∷ [] → StaysUnder f p → Stays (collapsed sig f (p ∷ []))
  one_stays f p true e h k = rw e k.0
  one_stays f p false e h k =
      let kept : collapsed sig f (p ∷ []) ≡ app_pattern f (more_patterns p no_patterns) = rw e refl in
      subst Stays (sym kept) ((k, tt), h, kept)

  collapsed_stays : (f : ℕ) (ps : List Pattern) → in_order sig f ps ≡ ps → AllByRecursion (StaysUnder f) ps
      → Stays (collapsed sig f ps)
  collapsed_stays f [] h k = (tt, h, refl)
  collapsed_stays f (p ∷ []) h k = one_stays f p (is_one sig f && not (is_loose p)) refl h k.0
  collapsed_stays f (p ∷ q ∷ ps) h k =
      let same = pattern_list-patterns ps in (
        all_stay f (p ∷ q ∷ ps) k,
        rw same h,
        ap
            (λ rs. app_pattern f (more_patterns p (more_patterns q (patterns rs)))) same,
      )

  mutual
    -- a normal form stays
    normal_stays : (p : Pattern) → Stays (normal_pattern sig p)
    normal_stays (symbol_pattern n) = tt
    normal_stays (app_pattern f ps) =
        let l = flattened sig f (normal_patterns sig ps) in
        collapsed_stays f (in_order sig f l) (in_order-in_order sig f l)
        (all-in_order (StaysUnder f) sig f l
        (all-flat_map (StaysUnder f) Stays (parts sig f) (parts_stay f) (normal_patterns sig ps)
        (normal_patterns_stay ps)))
    normal_stays (wild_pattern w x) = tt

    normal_patterns_stay : (ps : Patterns) → AllByRecursion Stays (normal_patterns sig ps)
    normal_patterns_stay no_patterns = tt
    normal_patterns_stay (more_patterns p ps) = (normal_stays p, normal_patterns_stay ps)

  flattened_same : (f : ℕ) (ps : Patterns) → AllStay f ps → flattened sig f (pattern_list ps) ≡ pattern_list ps
  flattened_same f no_patterns h = refl
  flattened_same f (more_patterns p ps) h =
      rw (whole_part f p (is_assoc sig f) refl h.0.1, flattened_same f ps h.1) refl

  mutual
    -- a pattern that stays is its own normal form
    normal_pattern-same : (p : Pattern) → Stays p → normal_pattern sig p ≡ p
    normal_pattern-same (symbol_pattern n) h = refl
    normal_pattern-same (app_pattern f ps) h =
        ap (λ l. collapsed sig f (in_order sig f (flattened sig f l))) (normal_patterns-same f ps h.0)
        ∙ ap (λ l. collapsed sig f (in_order sig f l)) (flattened_same f ps h.0) ∙ ap (collapsed sig f) h.1 ∙ h.2
    normal_pattern-same (wild_pattern w x) h = refl

    normal_patterns-same : (f : ℕ) (ps : Patterns) → AllStay f ps → normal_patterns sig ps ≡ pattern_list ps
    normal_patterns-same f no_patterns h = refl
    normal_patterns-same f (more_patterns p ps) h = λ i. normal_pattern-same p h.0.0 i ∷ normal_patterns-same f ps h.1 i

  pub normal_pattern-normal_pattern : (p : Pattern) → normal_pattern sig (normal_pattern sig p) ≡ normal_pattern sig p
  normal_pattern-normal_pattern p = normal_pattern-same (normal_pattern sig p) (normal_stays p)

  mutual
    subpatterns_normal : (p : Pattern) → Stays p → AllByRecursion (IsNormalPattern sig) (subpatterns p)
    subpatterns_normal (symbol_pattern n) h = (refl, tt)
    subpatterns_normal (app_pattern f ps) h =
        (normal_pattern-same (app_pattern f ps) h, all_subpatterns_normal f ps h.0)
    subpatterns_normal (wild_pattern w x) h = (refl, tt)

    all_subpatterns_normal : (f : ℕ) (ps : Patterns) → AllStay f ps
        → AllByRecursion (IsNormalPattern sig) (all_subpatterns ps)
    all_subpatterns_normal f no_patterns h = tt
    all_subpatterns_normal f (more_patterns p ps) h =
        all-append (IsNormalPattern sig) (subpatterns p) (all_subpatterns ps) (subpatterns_normal p h.0.0)
        (all_subpatterns_normal f ps h.1)

  -- the subpatterns of a normal pattern are normal
  pub all-subpatterns : (p : Pattern) → IsNormalPattern sig p → AllByRecursion (IsNormalPattern sig) (subpatterns p)
  all-subpatterns p e = subpatterns_normal p (subst Stays e (normal_stays p))
