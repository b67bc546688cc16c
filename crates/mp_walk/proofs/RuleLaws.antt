-- The tokens of a sound pattern are a whole path, and patterns with the same tokens fit by the same tables.
use Rattle.std.proofs.Common.{◌≡◌, ℕ, zero, suc, ◌+◌, ◌<◌, ◌≤◌, List, [], ◌∷◌, ◌++◌, map, length, Bool, true, false}
use Rattle.std.proofs.Common.{◌&&◌, ◌||◌, refl, ap, sym, ◌∙◌, inl, inr, subst, arith}
use Rattle.std.proofs.Common.{length-append}
use Rattle.std.specs.Prelude.{Option, Some, None, ◌^◌, is_some, slice_get, if◌then◌else◌}
use Rattle.std.specs.List.{AllByRecursion}
use Rattle.std.proofs.lemmas.Bool.{and_from}
use Rattle.std.proofs.lemmas.List.{map-append, append_assoc, length-map}
use Rattle.mp_term.specs.Listing.{In}
use Rattle.mp_term.specs.Normal.{IsNormal}
use Rattle.mp_term.specs.Signature.{Sig, is_comm, holds_of}
use Rattle.mp_term.specs.Tree.{Tree}
use Rattle.mp_term.specs.declared.signature.OpDecl.{OpDecl}
use Rattle.mp_term.proofs.ListLaws.{all-append, all-split}
use Rattle.mp_term.proofs.SearchLaws.{in-map, from_in-append}
use Rattle.mp_pattern.specs.declared.limits.TheConstants.{MAX_VARIABLES}
use Rattle.mp_pattern.specs.EachWildcard.{EachWildcard, AllEachWildcard}
use Rattle.mp_pattern.specs.Firsts.{is_known, add_new, firsts_after}
use Rattle.mp_pattern.specs.Fits.{Table, Fits}
use Rattle.mp_pattern.specs.NetTokens.{comm_token, enter_token, leave_token, wild_token, number_in, numbered, renamed}
use Rattle.mp_pattern.specs.NetTokens.{all_renamed, tokens, all_tokens, tokens_of}
use Rattle.mp_pattern.specs.Normal.{is_loose}
use Rattle.mp_pattern.specs.PatternTree.{Wildcard, dot, kind, plus, star, optional, counted, Pattern, symbol_pattern}
use Rattle.mp_pattern.specs.PatternTree.{app_pattern, wild_pattern, Patterns, no_patterns, more_patterns, pattern_list}
use Rattle.mp_pattern.specs.Sound.{DefaultIsNormal, holds_ops, all_hold_ops}
use Rattle.mp_pattern.specs.SoundRule.{IsSoundWildcard, IsFormed, AreFormed, IsSoundPattern, allows_patterns}
use Rattle.mp_pattern.specs.Subpatterns.{subpatterns, all_subpatterns}
use Rattle.mp_pattern.specs.Value.{Subst, same_name}
use Rattle.mp_pattern.specs.Variables.{Use, uses, all_uses, variables}
use Rattle.mp_pattern.proofs.ClashLaws.{Agree, AgreesWith, InOrder, InOrder-first_clash_after}
use Rattle.mp_pattern.proofs.ClashLaws.{first_clash_after-InOrder}
use Rattle.mp_pattern.proofs.Formed.{EachWildcard-IsFormed}
use Rattle.mp_pattern.proofs.NameLaws.{same_name-is, same_name-itself}
use Rattle.mp_pattern.proofs.SoundRules.{plan_fault-IsSoundPattern}
use Rattle.mp_theory.proofs.FirstsLaws.{Distinct, distinct-firsts}
use Rattle.mp_walk.specs.TokenMachine.{begin_state, steps_by, token_ends}
use Rattle.mp_walk.specs.Forests.{runs}
use Rattle.mp_walk.specs.Walkable.{numbered_names, StandsFor, IsWhole}
use Rattle.mp_walk.proofs.ByRule.{searched}
use Rattle.mp_theory.proofs.FirstItems.{in-firsts_after}
use Rattle.mp_walk.proofs.NumberedNames.{NamesIn, AllNamesIn, own-names, all_renamed-itself}
use Rattle.mp_pattern.proofs.PlanParts.{plan_fault-parts, parts-plan_fault}
use Rattle.mp_walk.proofs.Renaming.{new_name, same_new, renamed-listed}
use Rattle.mp_walk.proofs.Walked.{tokens-read, pattern_nodes-renamed}
use Rattle.mp_walk.proofs.WalkTheorem.{listed-fits, fits-listed}

-- ---- numbers in order

-- names of the numbers from k on
abbrev names_from : ℕ → ℕ → List (List ℕ)
names_from k zero = []
names_from k (suc n) = numbered k ∷ names_from (suc k) n

names_from-more : (k n : ℕ) → names_from k (suc n) ≡ names_from k n ++ numbered (k + n) ∷ []
names_from-more k zero = ap (λ m. numbered m ∷ []) (let z : k ≡ k + 0 = omega arith in z)
names_from-more k (suc n) =
    ap (λ l. numbered k ∷ l) (names_from-more (suc k) n
    ∙ ap (λ m. names_from (suc k) n ++ numbered m ∷ []) (let z : suc k + n ≡ k + suc n = omega arith in z))

names_from-numbered : (n : ℕ) → names_from 0 n ≡ numbered_names n
names_from-numbered zero = refl
names_from-numbered (suc n) =
    names_from-more 0 n ∙ ap (λ m. names_from 0 n ++ numbered m ∷ []) (let z : 0 + n ≡ n = omega arith in z)
    ∙ ap (λ l. l ++ numbered n ∷ []) (names_from-numbered n)

-- the number of a name that stands behind others
number_in-behind : (front back : List (List ℕ)) (x : List ℕ) → AllByRecursion (λ y. same_name y x ≡ false) front
    → number_in (front ++ x ∷ back) x ≡ length front
number_in-behind [] back x h = rw (same_name-itself x) refl
number_in-behind (y ∷ front) back x h =
    rw h.0 (let e = number_in-behind front back x h.1 in omega (arith, e))

-- what stands before a name among distinct ones differs from it
differs-before : (front back : List (List ℕ)) (x : List ℕ) → Distinct same_name (front ++ x ∷ back)
    → AllByRecursion (λ y. same_name y x ≡ false) front
differs-before [] back x h = tt
differs-before (y ∷ front) back x h =
    ((all-split (λ z. same_name y z ≡ false) front (x ∷ back) h.0).1.0, differs-before front back x h.1)

numbers-in-order : (front back : List (List ℕ)) → Distinct same_name (front ++ back)
    → map (λ x. numbered (number_in (front ++ back) x)) back ≡ names_from (length front) (length back)
numbers-in-order front [] h = refl
numbers-in-order front (x ∷ back) h =
    let a : (front ++ x ∷ []) ++ back ≡ front ++ x ∷ back = append_assoc front (x ∷ []) back in
    let l : length (front ++ x ∷ []) ≡ suc (length front) =
    (let z = length-append front (x ∷ []) in omega (arith, z)) in
    ap (λ n. numbered n ∷ map (λ y. numbered (number_in (front ++ x ∷ back) y)) back)
    (number_in-behind front back x (differs-before front back x h))
    ∙ ap (λ ns. numbered (length front) ∷ ns)
    (subst (λ all. map (λ y. numbered (number_in all y)) back ≡ names_from (length (front ++ x ∷ [])) (length back)) a
    (numbers-in-order (front ++ x ∷ []) back (subst (Distinct same_name) (sym a) h))
    ∙ ap (λ n. names_from n (length back)) l)

-- ---- a pattern with numbered variables

module _ (sig : Sig) (vs : List (List ℕ)) where
  mutual
    -- the names at the occurrences are the numbered ones
    uses-new : (few : length vs < 2 ^ 64) (f : Option ℕ) (p : Pattern)
        → map (λ (u : Use). u.name) (uses f (renamed vs p))
        ≡ map (new_name sig vs few) (map (λ (u : Use). u.name) (uses f p))
    uses-new few f (symbol_pattern n) = refl
    uses-new few f (wild_pattern w None) = refl
    uses-new few f (wild_pattern w (Some x)) = refl
    uses-new few f (app_pattern g ps) = all_uses-new few (Some g) ps

    all_uses-new : (few : length vs < 2 ^ 64) (f : Option ℕ) (ps : Patterns)
        → map (λ (u : Use). u.name) (all_uses f (all_renamed vs ps))
        ≡ map (new_name sig vs few) (map (λ (u : Use). u.name) (all_uses f ps))
    all_uses-new few f no_patterns = refl
    all_uses-new few f (more_patterns p ps) =
        map-append (λ (u : Use). u.name) (uses f (renamed vs p)) (all_uses f (all_renamed vs ps))
        ∙ ap (λ l. l ++ map (λ (u : Use). u.name) (all_uses f (all_renamed vs ps))) (uses-new few f p)
        ∙ ap (λ l. map (new_name sig vs few) (map (λ (u : Use). u.name) (uses f p)) ++ l) (all_uses-new few f ps)
        ∙ sym (ap (map (new_name sig vs few)) (map-append (λ (u : Use). u.name) (uses f p) (all_uses f ps))
        ∙ map-append (new_name sig vs few) (map (λ (u : Use). u.name) (uses f p))
        (map (λ (u : Use). u.name) (all_uses f ps)))

  mutual
    held-new : (p : Pattern) → holds_ops sig (renamed vs p) ≡ holds_ops sig p
    held-new (symbol_pattern n) = refl
    held-new (wild_pattern w x) = refl
    held-new (app_pattern g ps) = ap (λ b. is_some (slice_get sig.ops g) && b) (all_held-new ps)

    all_held-new : (ps : Patterns) → all_hold_ops sig (all_renamed vs ps) ≡ all_hold_ops sig ps
    all_held-new no_patterns = refl
    all_held-new (more_patterns p ps) =
        ap (λ b. b && all_hold_ops sig (all_renamed vs ps)) (held-new p)
        ∙ ap (λ b. holds_ops sig p && b) (all_held-new ps)

  mutual
    each-new : (Q : Wildcard → Type 0) (p : Pattern) → EachWildcard Q p → EachWildcard Q (renamed vs p)
    each-new Q (symbol_pattern n) h = tt
    each-new Q (wild_pattern w x) h = h
    each-new Q (app_pattern g ps) h = all_each-new Q ps h

    all_each-new : (Q : Wildcard → Type 0) (ps : Patterns) → AllEachWildcard Q ps
        → AllEachWildcard Q (all_renamed vs ps)
    all_each-new Q no_patterns h = tt
    all_each-new Q (more_patterns p ps) h = (each-new Q p h.0, all_each-new Q ps h.1)

  mutual
    subpatterns-new : (p : Pattern) → subpatterns (renamed vs p) ≡ map (renamed vs) (subpatterns p)
    subpatterns-new (symbol_pattern n) = refl
    subpatterns-new (wild_pattern w x) = refl
    subpatterns-new (app_pattern g ps) = ap (λ l. app_pattern g (all_renamed vs ps) ∷ l) (all_subpatterns-new ps)

    all_subpatterns-new : (ps : Patterns) → all_subpatterns (all_renamed vs ps) ≡ map (renamed vs) (all_subpatterns ps)
    all_subpatterns-new no_patterns = refl
    all_subpatterns-new (more_patterns p ps) =
        ap (λ l. l ++ all_subpatterns (all_renamed vs ps)) (subpatterns-new p)
        ∙ ap (λ l. map (renamed vs) (subpatterns p) ++ l) (all_subpatterns-new ps)
        ∙ sym (map-append (renamed vs) (subpatterns p) (all_subpatterns ps))

  mutual
    -- the names of each part are known
    parts-named : (p : Pattern) → NamesIn vs p → AllByRecursion (NamesIn vs) (subpatterns p)
    parts-named (symbol_pattern n) h = (tt, tt)
    parts-named (wild_pattern w x) h = (h, tt)
    parts-named (app_pattern g ps) h = (h, all_parts-named ps h)

    all_parts-named : (ps : Patterns) → AllNamesIn vs ps → AllByRecursion (NamesIn vs) (all_subpatterns ps)
    all_parts-named no_patterns h = tt
    all_parts-named (more_patterns p ps) h =
        all-append (NamesIn vs) (subpatterns p) (all_subpatterns ps) (parts-named p h.0) (all_parts-named ps h.1)

  loose-new : (p : Pattern) → is_loose (renamed vs p) ≡ is_loose p
  loose-new (symbol_pattern n) = refl
  loose-new (wild_pattern w x) = refl
  loose-new (app_pattern g ps) = refl

  module _ (few : length vs < 2 ^ 64) where
    abbrev new : List ℕ → List ℕ
    new = new_name sig vs few

    -- known names that have one new name are one
    new-one : (x y : List ℕ) → In x vs → In y vs → new x ≡ new y → x ≡ y
    new-one x y i j e =
        same_name-is x y (sym (same_new sig vs few x y i j) ∙ ap (same_name (new x)) (sym e) ∙ same_name-itself (new x))

    -- ---- the variables

    known-new : (ys : List (List ℕ)) (x : List ℕ) → ((y : List ℕ) → In y ys → In y vs) → In x vs
        → is_known same_name (map new ys) (new x) ≡ is_known same_name ys x
    known-new [] x k i = refl
    known-new (y ∷ ys) x k i =
        ap (λ b. b || is_known same_name (map new ys) (new x)) (same_new sig vs few y x (k y (inl refl)) i)
        ∙ ap (λ b. same_name y x || b) (known-new ys x (λ z j. k z (inr j)) i)

    added-new : (ys : List (List ℕ)) (x : List ℕ) → ((y : List ℕ) → In y ys → In y vs) → In x vs
        → add_new same_name (map new ys) (new x) ≡ map new (add_new same_name ys x)
    added-new ys x k i =
        rw (known-new ys x k i) (elim (is_known same_name ys x) as
        (λ b. (if b then map new ys else map new ys ++ (new x ∷ [])) ≡ map new (if b then ys else ys ++ (x ∷ []))) [
          | true ↦ refl
          | false ↦ sym (map-append new ys (x ∷ []))
        ])

    added-known : (ys : List (List ℕ)) (x : List ℕ) → ((y : List ℕ) → In y ys → In y vs) → In x vs
        → (y : List ℕ) → In y (add_new same_name ys x) → In y vs
    added-known ys x k i y = by_known (is_known same_name ys x)
      where
        by_known : (b : Bool) → In y (if b then ys else ys ++ (x ∷ [])) → In y vs
        by_known true j = k y j
        by_known false j = elim (from_in-append y ys (x ∷ []) j) [
          | inl m ↦ k y m
          | inr m ↦ elim m [ inl e ↦ subst (λ z. In z vs) (sym e) i | inr n ↦ absurd n ]
        ]

    firsts-new : (ys xs : List (List ℕ)) → ((y : List ℕ) → In y ys → In y vs) → ((x : List ℕ) → In x xs → In x vs)
        → firsts_after same_name (map new ys) (map new xs) ≡ map new (firsts_after same_name ys xs)
    firsts-new ys [] k h = refl
    firsts-new ys (x ∷ xs) k h =
        ap (λ l. firsts_after same_name l (map new xs)) (added-new ys x k (h x (inl refl)))
        ∙ firsts-new (add_new same_name ys x) xs (added-known ys x k (h x (inl refl))) (λ z i. h z (inr i))

    -- ---- the clashes

    agree-new : (p q : Pattern) → NamesIn vs p → NamesIn vs q → Agree p q → Agree (renamed vs p) (renamed vs q)
    agree-new (wild_pattern v (Some x)) (wild_pattern w (Some y)) i j h = λ e. h (new-one x y i j e)
    agree-new (wild_pattern v (Some x)) (wild_pattern w None) i j h = tt
    agree-new (wild_pattern v (Some x)) (symbol_pattern n) i j h = tt
    agree-new (wild_pattern v (Some x)) (app_pattern g ps) i j h = tt
    agree-new (wild_pattern v None) (wild_pattern w (Some y)) i j h = tt
    agree-new (wild_pattern v None) (wild_pattern w None) i j h = tt
    agree-new (wild_pattern v None) (symbol_pattern n) i j h = tt
    agree-new (wild_pattern v None) (app_pattern g ps) i j h = tt
    agree-new (symbol_pattern m) (wild_pattern w (Some y)) i j h = tt
    agree-new (symbol_pattern m) (wild_pattern w None) i j h = tt
    agree-new (symbol_pattern m) (symbol_pattern n) i j h = tt
    agree-new (symbol_pattern m) (app_pattern g ps) i j h = tt
    agree-new (app_pattern f qs) (wild_pattern w (Some y)) i j h = tt
    agree-new (app_pattern f qs) (wild_pattern w None) i j h = tt
    agree-new (app_pattern f qs) (symbol_pattern n) i j h = tt
    agree-new (app_pattern f qs) (app_pattern g ps) i j h = tt

    agrees-new : (p : Pattern) (qs : List Pattern) → NamesIn vs p → AllByRecursion (NamesIn vs) qs → AgreesWith p qs
        → AgreesWith (renamed vs p) (map (renamed vs) qs)
    agrees-new p [] i j h = tt
    agrees-new p (q ∷ qs) i j h = (agree-new q p j.0 i h.0, agrees-new p qs i j.1 h.1)

    in_order-new : (before ps : List Pattern) → AllByRecursion (NamesIn vs) before → AllByRecursion (NamesIn vs) ps
        → InOrder before ps → InOrder (map (renamed vs) before) (map (renamed vs) ps)
    in_order-new before [] i j h = tt
    in_order-new before (p ∷ ps) i j h = (
      agrees-new p before j.0 i h.0,
      subst (λ l. InOrder l (map (renamed vs) ps)) (map-append (renamed vs) before (p ∷ []))
          (in_order-new (before ++ p ∷ []) ps (all-append (NamesIn vs) before (p ∷ []) i (j.0, tt)) j.1 h.1),
    )

    -- ---- the tokens

    number_in-new : (ys : List (List ℕ)) (x : List ℕ) → ((y : List ℕ) → In y ys → In y vs) → In x vs
        → number_in (map new ys) (new x) ≡ number_in ys x
    number_in-new [] x k i = refl
    number_in-new (y ∷ ys) x k i =
        rw (same_new sig vs few y x (k y (inl refl)) i) (elim (same_name y x) as
        (λ b. (if b then 0 else number_in (map new ys) (new x) + 1) ≡ (if b then 0 else number_in ys x + 1)) [
          | true ↦ refl
          | false ↦ ap (λ n. n + 1) (number_in-new ys x (λ z j. k z (inr j)) i)
        ])

    mutual
      named-new : (p : Pattern) → NamesIn vs p → NamesIn (map new vs) (renamed vs p)
      named-new (symbol_pattern n) h = tt
      named-new (wild_pattern w None) h = tt
      named-new (wild_pattern w (Some x)) h = in-map new x vs h
      named-new (app_pattern g ps) h = all_named-new ps h

      all_named-new : (ps : Patterns) → AllNamesIn vs ps → AllNamesIn (map new vs) (all_renamed vs ps)
      all_named-new no_patterns h = tt
      all_named-new (more_patterns p ps) h = (named-new p h.0, all_named-new ps h.1)

    module _ (names : map new vs ≡ numbered_names (length (map new vs))) where
      mutual
        tokens-new : (p : Pattern) → NamesIn vs p → tokens sig (map new vs) (renamed vs p) ≡ tokens sig vs p
        tokens-new (symbol_pattern n) h = refl
        tokens-new (wild_pattern w None) h = refl
        tokens-new (wild_pattern w (Some x)) h = ap (λ n. wild_token w (Some n) ∷ []) (number_in-new vs x (λ y j. j) h)
        tokens-new (app_pattern g ps) h = elim (is_comm sig g) as
            (λ b. (if b then comm_token (renamed (map new vs) (app_pattern g (all_renamed vs ps))) ∷ []
            else (enter_token g ∷ (all_tokens sig (map new vs) (all_renamed vs ps) ++ (leave_token g ∷ []))))
            ≡ (if b then comm_token (renamed vs (app_pattern g ps)) ∷ []
            else (enter_token g ∷ (all_tokens sig vs ps ++ (leave_token g ∷ []))))) [
              | true ↦ ap (λ qs. comm_token (app_pattern g qs) ∷ [])
                  (all_renamed-itself (map new vs) names (all_renamed vs ps) (all_named-new ps h))
              | false ↦ ap (λ l. enter_token g ∷ (l ++ (leave_token g ∷ []))) (all_tokens-new ps h)
            ]

        all_tokens-new : (ps : Patterns) → AllNamesIn vs ps
            → all_tokens sig (map new vs) (all_renamed vs ps) ≡ all_tokens sig vs ps
        all_tokens-new no_patterns h = refl
        all_tokens-new (more_patterns p ps) h =
            ap (λ l. l ++ all_tokens sig (map new vs) (all_renamed vs ps)) (tokens-new p h.0)
            ∙ ap (λ l. tokens sig vs p ++ l) (all_tokens-new ps h.1)

-- ---- the pattern of a rule

module _ (sig : Sig) (p : Pattern) (few : length (variables p) ≤ MAX_VARIABLES) where
  abbrev vs : List (List ℕ)
  vs = variables p

  vs-few : length (variables p) < 2 ^ 64
  vs-few = omega (arith, few)

  -- the variables of the pattern with numbered variables
  variables-new : variables (renamed (variables p) p) ≡ map (new_name sig (variables p) vs-few) (variables p)
  variables-new =
      ap (firsts_after same_name []) (uses-new sig (variables p) vs-few None p)
      ∙ firsts-new sig (variables p) vs-few [] (map (λ (u : Use). u.name) (uses None p)) (λ y i. absurd i)
      (λ x i. in-firsts_after same_name same_name-is [] (map (λ (u : Use). u.name) (uses None p)) x (inr i))

  new-numbered : map (new_name sig (variables p) vs-few) (variables p) ≡ numbered_names (length (variables p))
  new-numbered = numbers-in-order [] (variables p)
      (distinct-firsts same_name [] (map (λ (u : Use). u.name) (uses None p)) tt)
      ∙ names_from-numbered (length (variables p))

  new-length : length (map (new_name sig (variables p) vs-few) (variables p)) ≡ length (variables p)
  new-length = length-map (variables p) (new_name sig (variables p) vs-few)

  -- the tokens of the pattern stand for the pattern with numbered variables
  pub stands-renamed : StandsFor sig (tokens_of sig p) (renamed (variables p) p)
  stands-renamed = record {
    tokens = ap (λ xs. tokens sig xs (renamed (variables p) p)) variables-new
        ∙ tokens-new sig (variables p) vs-few (new-numbered ∙ ap numbered_names (sym new-length)) p (own-names p);
    names = variables-new ∙ new-numbered ∙ ap numbered_names (sym (ap length variables-new ∙ new-length));
  }

module _ (sig : Sig) where
  default-normal : (w : Wildcard) → IsSoundWildcard sig w → DefaultIsNormal sig w
  default-normal dot h = tt
  default-normal (kind k) h = tt
  default-normal plus h = tt
  default-normal star h = tt
  default-normal (counted n b) h = tt
  default-normal (optional t) h = h.normal

  mutual
    held-formed : (p : Pattern) → IsFormed sig p → holds_ops sig p ≡ true
    held-formed (symbol_pattern n) h = refl
    held-formed (wild_pattern w x) h = refl
    held-formed (app_pattern g ps) h = and_from _ _
        (there (allows_patterns (pattern_list ps)) (slice_get sig.ops g) h.0) (all_held-formed ps h.1)
      where
        there : (test : OpDecl → Bool) (o : Option OpDecl) → holds_of test o ≡ true → is_some o ≡ true
        there test None e = cc
        there test (Some d) e = refl

    all_held-formed : (ps : Patterns) → AreFormed sig ps → all_hold_ops sig ps ≡ true
    all_held-formed no_patterns h = refl
    all_held-formed (more_patterns p ps) h = and_from _ _ (held-formed p h.0) (all_held-formed ps h.1)

  -- the tokens of a sound pattern are a whole path
  pub whole-sound_pattern : (p : Pattern) → IsSoundPattern sig p → IsWhole sig (tokens_of sig p)
  whole-sound_pattern p h =
      let k = plan_fault-parts p (plan_fault-IsSoundPattern sig p h) in
      let xs : List (List ℕ) = variables p in
      record {
        pattern = renamed (variables p) p;
        stands = stands-renamed sig p k.few_variables;
        planned = parts-plan_fault (renamed (variables p) p) (record {
          firm = loose-new sig (variables p) p ∙ k.firm;
          few_nodes = omega (arith, pattern_nodes-renamed sig (variables p) p, k.few_nodes);
          few_variables = (let e : length (variables (renamed (variables p) p)) ≡ length (variables p) =
              ap length (variables-new sig p k.few_variables)
              ∙ new-length sig p k.few_variables in omega (arith, e, k.few_variables));
          no_clash = first_clash_after-InOrder [] (subpatterns (renamed (variables p) p))
              (subst (InOrder []) (sym (subpatterns-new sig (variables p) p))
              (in_order-new sig (variables p) (vs-few sig p k.few_variables) [] (subpatterns p) tt
              (parts-named sig (variables p) p (own-names p))
              (InOrder-first_clash_after [] (subpatterns p) k.no_clash)));
        });
        held = held-new sig (variables p) p ∙ held-formed p h.formed;
        defaults = each-new sig (variables p) (DefaultIsNormal sig) p
            (EachWildcard-IsFormed sig (DefaultIsNormal sig) default-normal p h.formed);
      }

  -- patterns with the same tokens fit by the same tables
  pub fits-same_tokens : (p q : Pattern) (t : Tree) (s : Subst) (T : Table) → IsNormal sig t
      → length (variables p) ≤ MAX_VARIABLES → length (variables q) ≤ MAX_VARIABLES → tokens_of sig p ≡ tokens_of sig q
      → Fits sig p t s T → (r : Subst) × Fits sig q t r T
  fits-same_tokens p q t s T n few many e h =
      listed-fits sig t n q T
      (subst (In T) (sym (tokens-read sig (variables p) p t ∙ renamed-listed sig p t (omega (arith, few)))
      ∙ ap (λ ks. runs (steps_by sig (searched sig)) token_ends ks (begin_state t) []) e
      ∙ tokens-read sig (variables q) q t ∙ renamed-listed sig q t (omega (arith, many)))
      (fits-listed sig t n p T s h))
