-- A normal pattern is flat, and the tokens of a formed one are formed.
use Rattle.std.proofs.Common.{◌≡◌, ◌≤◌, ℕ, ◌+◌, List, [], ◌∷◌, ◌++◌, length, Bool, true, false, ◌&&◌, refl}
use Rattle.std.proofs.Common.{ap, sym, ◌∙◌, subst, arith, eqb-true}
use Rattle.std.specs.Prelude.{Option, Some, None, IsSome, not, max, nat_eq, option_map, slice_get, if◌then◌else◌}
use Rattle.std.specs.List.{AllByRecursion}
use Rattle.std.proofs.lemmas.Bool.{and_parts, and_from, not-true}
use Rattle.std.proofs.Math.Bool.{and-false}
use Rattle.mp_term.specs.declared.signature.OpDecl.{OpDecl}
use Rattle.mp_term.specs.Signature.{Sig, holds_of, is_assoc, is_comm, is_one}
use Rattle.mp_term.proofs.ListLaws.{all-append, all-flat_map}
use Rattle.mp_pattern.specs.declared.limits.TheConstants.{MAX_VARIABLES, MAX_DEPTH}
use Rattle.mp_pattern.specs.Depth.{wildcard_depth, pattern_depth, greatest_pattern_depth}
use Rattle.mp_pattern.specs.NetTokens.{NetToken, sym_token, enter_token, leave_token, wild_token, comm_token, number_in}
use Rattle.mp_pattern.specs.NetTokens.{numbered, renamed, all_renamed, tokens, all_tokens}
use Rattle.mp_pattern.specs.Normal.{is_loose, is_collapsible, parts, flattened, in_order, collapsed, normal_pattern}
use Rattle.mp_pattern.specs.Normal.{normal_patterns, IsNormalPattern}
use Rattle.mp_pattern.specs.PatternTree.{Wildcard, Pattern, symbol_pattern, app_pattern, wild_pattern, Patterns}
use Rattle.mp_pattern.specs.PatternTree.{no_patterns, more_patterns, pattern_list, patterns}
use Rattle.mp_pattern.specs.SoundRule.{IsSymbol, IsSoundWildcard, IsVariable, IsFormed, AreFormed, fewest, greatest}
use Rattle.mp_pattern.specs.SoundRule.{pattern_least, pattern_most, sum_most, allows_patterns}
use Rattle.mp_pattern.proofs.NetTokenLists.{is_name-numbered}
use Rattle.mp_pattern.proofs.NormalLaws.{all-in_order}
use Rattle.mp_program.specs.RightForm.{is_headed, is_flat, are_flat}
use Rattle.mp_walk.proofs.Renaming.{number_in-most}

-- ---- normal patterns are flat

module _ (sig : Sig) where
  -- a flat argument of f that f doesn't take apart
  abbrev IsFlatUnder : ℕ → Pattern → Type 0
  IsFlatUnder f p = (is_flat sig p ≡ true) × ((is_assoc sig f && is_headed f p) ≡ false)

  all-are_flat : (f : ℕ) (ps : List Pattern) → AllByRecursion (IsFlatUnder f) ps → are_flat sig f (patterns ps) ≡ true
  all-are_flat f [] h = refl
  all-are_flat f (p ∷ ps) h = and_from _ _ (ap not h.0.1) (and_from _ _ h.0.0 (all-are_flat f ps h.1))

  are_flat-all : (f : ℕ) (ps : Patterns) → are_flat sig f ps ≡ true
      → AllByRecursion (IsFlatUnder f) (pattern_list ps)
  are_flat-all f no_patterns h = tt
  are_flat-all f (more_patterns p ps) h =
      let a = and_parts (not (is_assoc sig f && is_headed f p)) (is_flat sig p && are_flat sig f ps) h in
      let b = and_parts (is_flat sig p) (are_flat sig f ps) a.1 in
      ((b.0, not-true (is_assoc sig f && is_headed f p) a.0), are_flat-all f ps b.1)

  -- an argument that isn't taken apart is its own part
  whole_part : (f : ℕ) (p : Pattern) (b : Bool) → is_assoc sig f ≡ b → (b && is_headed f p) ≡ false
      → parts sig f p ≡ p ∷ []
  whole_part f (symbol_pattern n) true q e = rw q refl
  whole_part f (app_pattern g ps) true q e = rw (q, e) refl
  whole_part f (wild_pattern w x) true q e = rw q refl
  whole_part f p false q e = rw q refl

  alone : (f : ℕ) (p : Pattern) → is_flat sig p ≡ true → (is_assoc sig f && is_headed f p) ≡ false
      → AllByRecursion (IsFlatUnder f) (parts sig f p)
  alone f p h e =
      subst (AllByRecursion (IsFlatUnder f)) (sym (whole_part f p (is_assoc sig f) refl e)) ((h, e), tt)

  app_parts : (f g : ℕ) (ps : Patterns) (b c : Bool) → is_assoc sig f ≡ b → nat_eq f g ≡ c
      → is_flat sig (app_pattern g ps) ≡ true → AllByRecursion (IsFlatUnder f) (parts sig f (app_pattern g ps))
  app_parts f g ps true true q r h =
      let same : f ≡ g = eqb-true f g r in
      let inner : AllByRecursion (IsFlatUnder f) (pattern_list ps) =
      are_flat-all f ps (subst (λ k. are_flat sig k ps ≡ true) (sym same)
      (and_parts (not (is_one sig g && is_collapsible (pattern_list ps))) (are_flat sig g ps) h).1) in
      rw (q, r) inner
  app_parts f g ps true false q r h = alone f (app_pattern g ps) h (rw (q, r) refl)
  app_parts f g ps false c q r h = alone f (app_pattern g ps) h (rw q refl)

  -- what an argument gives to f
  flat-parts : (f : ℕ) (p : Pattern) → is_flat sig p ≡ true → AllByRecursion (IsFlatUnder f) (parts sig f p)
  flat-parts f (symbol_pattern n) h = alone f (symbol_pattern n) h (and-false (is_assoc sig f))
  flat-parts f (app_pattern g ps) h = app_parts f g ps (is_assoc sig f) (nat_eq f g) refl refl h
  flat-parts f (wild_pattern w x) h = alone f (wild_pattern w x) h (and-false (is_assoc sig f))

  one-flat : (f : ℕ) (p : Pattern) (b : Bool) → (is_one sig f && not (is_loose p)) ≡ b → IsFlatUnder f p
      → is_flat sig (collapsed sig f (p ∷ [])) ≡ true
  one-flat f p true e h = rw e h.0
  one-flat f p false e h =
      let kept : collapsed sig f (p ∷ []) ≡ app_pattern f (more_patterns p no_patterns) = rw e refl in
      subst (λ q. is_flat sig q ≡ true) (sym kept)
      (and_from _ _ (ap not e) (and_from _ _ (ap not h.1) (and_from _ _ h.0 refl)))

  collapsed-flat : (f : ℕ) (ps : List Pattern) → AllByRecursion (IsFlatUnder f) ps
      → is_flat sig (collapsed sig f ps) ≡ true
  collapsed-flat f [] h = and_from _ _ (ap not (and-false (is_one sig f))) refl
  collapsed-flat f (p ∷ []) h = one-flat f p (is_one sig f && not (is_loose p)) refl h.0
  collapsed-flat f (p ∷ q ∷ ps) h = and_from _ _ (ap not (and-false (is_one sig f))) (all-are_flat f (p ∷ q ∷ ps) h)

  mutual
    flat-normal_pattern : (p : Pattern) → is_flat sig (normal_pattern sig p) ≡ true
    flat-normal_pattern (symbol_pattern n) = refl
    flat-normal_pattern (app_pattern f ps) =
        let l = flattened sig f (normal_patterns sig ps) in
        collapsed-flat f (in_order sig f l)
        (all-in_order (IsFlatUnder f) sig f l
        (all-flat_map (IsFlatUnder f) (λ p. is_flat sig p ≡ true) (parts sig f) (flat-parts f) (normal_patterns sig ps)
        (flat-normal_patterns ps)))
    flat-normal_pattern (wild_pattern w x) = refl

    flat-normal_patterns : (ps : Patterns) → AllByRecursion (λ p. is_flat sig p ≡ true) (normal_patterns sig ps)
    flat-normal_patterns no_patterns = tt
    flat-normal_patterns (more_patterns p ps) = (flat-normal_pattern p, flat-normal_patterns ps)

  -- a normal pattern is flat
  pub flat-normal : (p : Pattern) → IsNormalPattern sig p → is_flat sig p ≡ true
  flat-normal p h = subst (λ q. is_flat sig q ≡ true) h (flat-normal_pattern p)

-- ---- renaming keeps what is formed, flat and not too deep

module _ (sig : Sig) (vs : List (List ℕ)) where
  loose-renamed : (p : Pattern) → is_loose (renamed vs p) ≡ is_loose p
  loose-renamed (symbol_pattern n) = refl
  loose-renamed (app_pattern f ps) = refl
  loose-renamed (wild_pattern w x) = refl

  headed-renamed : (f : ℕ) (p : Pattern) → is_headed f (renamed vs p) ≡ is_headed f p
  headed-renamed f (symbol_pattern n) = refl
  headed-renamed f (app_pattern g ps) = refl
  headed-renamed f (wild_pattern w x) = refl

  collapsible-renamed : (ps : Patterns)
      → is_collapsible (pattern_list (all_renamed vs ps)) ≡ is_collapsible (pattern_list ps)
  collapsible-renamed no_patterns = refl
  collapsible-renamed (more_patterns p no_patterns) = ap not (loose-renamed p)
  collapsible-renamed (more_patterns p (more_patterns q ps)) = refl

  mutual
    pub flat-renamed : (p : Pattern) → is_flat sig (renamed vs p) ≡ is_flat sig p
    flat-renamed (symbol_pattern n) = refl
    flat-renamed (wild_pattern w x) = refl
    flat-renamed (app_pattern f ps) =
        ap (λ b. not (is_one sig f && b) && are_flat sig f (all_renamed vs ps)) (collapsible-renamed ps)
        ∙ ap (λ b. not (is_one sig f && is_collapsible (pattern_list ps)) && b) (flat-all_renamed f ps)

    flat-all_renamed : (f : ℕ) (ps : Patterns) → are_flat sig f (all_renamed vs ps) ≡ are_flat sig f ps
    flat-all_renamed f no_patterns = refl
    flat-all_renamed f (more_patterns p ps) =
        ap (λ b. not (is_assoc sig f && b) && (is_flat sig (renamed vs p) && are_flat sig f (all_renamed vs ps)))
        (headed-renamed f p)
        ∙ ap (λ b. not (is_assoc sig f && is_headed f p) && (b && are_flat sig f (all_renamed vs ps)))
        (flat-renamed p)
        ∙ ap (λ b. not (is_assoc sig f && is_headed f p) && (is_flat sig p && b)) (flat-all_renamed f ps)

  mutual
    pub depth-renamed : (p : Pattern) → pattern_depth (renamed vs p) ≡ pattern_depth p
    depth-renamed (symbol_pattern n) = refl
    depth-renamed (wild_pattern w x) = refl
    depth-renamed (app_pattern f ps) = ap (λ n. n + 1) (depth-all_renamed ps)

    depth-all_renamed : (ps : Patterns) → greatest_pattern_depth (all_renamed vs ps) ≡ greatest_pattern_depth ps
    depth-all_renamed no_patterns = refl
    depth-all_renamed (more_patterns p ps) =
        ap (λ n. max n (greatest_pattern_depth (all_renamed vs ps))) (depth-renamed p)
        ∙ ap (max (pattern_depth p)) (depth-all_renamed ps)

  least-renamed : (p : Pattern) → pattern_least (renamed vs p) ≡ pattern_least p
  least-renamed (symbol_pattern n) = refl
  least-renamed (app_pattern f ps) = refl
  least-renamed (wild_pattern w x) = refl

  most-renamed : (b : Bool) (p : Pattern) → pattern_most b (renamed vs p) ≡ pattern_most b p
  most-renamed b (symbol_pattern n) = refl
  most-renamed b (app_pattern f ps) = refl
  most-renamed b (wild_pattern w x) = refl

  fewest-renamed : (ps : Patterns) → fewest (pattern_list (all_renamed vs ps)) ≡ fewest (pattern_list ps)
  fewest-renamed no_patterns = refl
  fewest-renamed (more_patterns p ps) =
      ap (λ n. n + fewest (pattern_list (all_renamed vs ps))) (least-renamed p)
      ∙ ap (λ n. pattern_least p + n) (fewest-renamed ps)

  greatest-renamed : (b : Bool) (ps : Patterns)
      → greatest b (pattern_list (all_renamed vs ps)) ≡ greatest b (pattern_list ps)
  greatest-renamed b no_patterns = refl
  greatest-renamed b (more_patterns p ps) =
      ap (λ n. sum_most n (greatest b (pattern_list (all_renamed vs ps)))) (most-renamed b p)
      ∙ ap (sum_most (pattern_most b p)) (greatest-renamed b ps)

  allows-renamed : (ps : Patterns) (d : OpDecl)
      → allows_patterns (pattern_list (all_renamed vs ps)) d ≡ allows_patterns (pattern_list ps) d
  allows-renamed ps d = rw (greatest-renamed d.assoc ps, fewest-renamed ps) refl

  holds-renamed : (ps : Patterns) (o : Option OpDecl) → holds_of (allows_patterns (pattern_list ps)) o ≡ true
      → holds_of (allows_patterns (pattern_list (all_renamed vs ps))) o ≡ true
  holds-renamed ps None h = h
  holds-renamed ps (Some d) h = allows-renamed ps d ∙ h

  module _ (few : length vs ≤ MAX_VARIABLES) where
    variable-renamed : (x : Option (List ℕ)) → IsVariable sig (option_map (λ y. numbered (number_in vs y)) x)
    variable-renamed None = tt
    variable-renamed (Some x) = is_name-numbered (number_in vs x) (let h = number_in-most vs x in omega (arith, h, few))

    mutual
      pub formed-renamed : (p : Pattern) → IsFormed sig p → IsFormed sig (renamed vs p)
      formed-renamed (symbol_pattern n) h = h
      formed-renamed (wild_pattern w x) h = (h.0, variable-renamed x)
      formed-renamed (app_pattern f ps) h = (holds-renamed ps (slice_get sig.ops f) h.0, formed-all_renamed ps h.1)

      formed-all_renamed : (ps : Patterns) → AreFormed sig ps → AreFormed sig (all_renamed vs ps)
      formed-all_renamed no_patterns h = tt
      formed-all_renamed (more_patterns p ps) h = (formed-renamed p h.0, formed-all_renamed ps h.1)

-- ---- formed tokens

module _ (sig : Sig) where
  -- a wildcard is sound and its default isn't too deep
  abbrev pub IsFormedWildcard : Wildcard → Type 0
  IsFormedWildcard w = IsSoundWildcard sig w × (wildcard_depth w ≤ MAX_DEPTH)

  -- a symbol is one, an operation is held, and the pattern of a token is formed, flat and not too deep
  abbrev pub IsFormedToken : NetToken → Type 0
  IsFormedToken (sym_token n) = IsSymbol sig n
  IsFormedToken (enter_token f) = IsSome (slice_get sig.ops f)
  IsFormedToken (leave_token f) = IsSome (slice_get sig.ops f)
  IsFormedToken (wild_token w x) = IsFormedWildcard w
  IsFormedToken (comm_token p) = IsFormed sig p × (is_flat sig p ≡ true) × (pattern_depth p ≤ MAX_DEPTH)

  holds-some : (test : OpDecl → Bool) (o : Option OpDecl) → holds_of test o ≡ true → IsSome o
  holds-some test None h = cc
  holds-some test (Some d) h = refl

  module _ (vs : List (List ℕ)) (few : length vs ≤ MAX_VARIABLES) where
    mutual
      -- the tokens of a formed, flat pattern that isn't too deep are such
      pub formed-tokens : (p : Pattern) → IsFormed sig p → is_flat sig p ≡ true → pattern_depth p ≤ MAX_DEPTH
          → AllByRecursion IsFormedToken (tokens sig vs p)
      formed-tokens (symbol_pattern n) h flat deep = (h, tt)
      formed-tokens (wild_pattern w x) h flat deep = ((h.0, deep), tt)
      formed-tokens (app_pattern f ps) h flat deep =
          by_comm (is_comm sig f)
          (formed-all_tokens f ps h.1
          (and_parts (not (is_one sig f && is_collapsible (pattern_list ps))) (are_flat sig f ps) flat).1
          (omega (arith, deep)))
        where
          held : IsSome (slice_get sig.ops f)
          held = holds-some (allows_patterns (pattern_list ps)) (slice_get sig.ops f) h.0

          whole : IsFormedToken (comm_token (renamed vs (app_pattern f ps)))
          whole = (
            formed-renamed sig vs few (app_pattern f ps) h,
            flat-renamed sig vs (app_pattern f ps) ∙ flat,
            subst (λ n. n ≤ MAX_DEPTH) (sym (depth-renamed sig vs (app_pattern f ps))) deep,
          )

          by_comm : (b : Bool) → AllByRecursion IsFormedToken (all_tokens sig vs ps)
              → AllByRecursion IsFormedToken (if b then comm_token (renamed vs (app_pattern f ps)) ∷ []
              else (enter_token f ∷ (all_tokens sig vs ps ++ (leave_token f ∷ []))))
          by_comm true k = (whole, tt)
          by_comm false k =
              (held, all-append IsFormedToken (all_tokens sig vs ps) (leave_token f ∷ []) k (held, tt))

      formed-all_tokens : (f : ℕ) (ps : Patterns) → AreFormed sig ps → are_flat sig f ps ≡ true
          → greatest_pattern_depth ps ≤ MAX_DEPTH → AllByRecursion IsFormedToken (all_tokens sig vs ps)
      formed-all_tokens f no_patterns h flat deep = tt
      formed-all_tokens f (more_patterns p ps) h flat deep =
          let a = and_parts (not (is_assoc sig f && is_headed f p)) (is_flat sig p && are_flat sig f ps) flat in
          let b = and_parts (is_flat sig p) (are_flat sig f ps) a.1 in
          all-append IsFormedToken (tokens sig vs p) (all_tokens sig vs ps)
          (formed-tokens p h.0 b.0 (omega (arith, deep))) (formed-all_tokens f ps h.1 b.1 (omega (arith, deep)))
