-- The variables of a pattern stand for as many terms in its syntax tree as in its normal form.
use Rattle.std.proofs.Common.{◌≡◌, ℕ, zero, suc, Bool, true, false, ◌&&◌, ◌||◌, not, List, [], ◌∷◌, ◌++◌, map, Option}
use Rattle.std.proofs.Common.{Some, None, inl, inr, refl, sym, ap, ◌∙◌, subst}
use Rattle.std.specs.Prelude.{◌≢◌, ◌⊎◌, flat_map, if◌then◌else◌}
use Rattle.std.specs.List.{AllByRecursion, list_any}
use Rattle.std.specs.Str.{bytes_eq}
use Rattle.std.proofs.lemmas.List.{map-append}
use Rattle.std.proofs.lemmas.List.Concat.{flat_map-append}
use Rattle.std.proofs.lemmas.Map.Text.{is_eq-slice_cmp}
use Rattle.std.proofs.lemmas.Slice.Eq.{bytes_eq-Decides}
use Rattle.std.proofs.lemmas.Bool.{not-false, or_parts}
use Rattle.mp_term.specs.Normal.{normal}
use Rattle.mp_term.specs.Signature.{Sig}
use Rattle.mp_term.proofs.ListLaws.{all-append, all-split}
use Rattle.mp_pattern.specs.Extent.{Extent, single, extent, extent_among, extent_named}
use Rattle.mp_pattern.specs.Normal.{normal_pattern}
use Rattle.mp_pattern.specs.PatternTree as pattern
use Rattle.mp_pattern.specs.PatternTree.{Pattern, symbol_pattern, app_pattern, wild_pattern, Patterns, no_patterns}
use Rattle.mp_pattern.specs.PatternTree.{more_patterns, pattern_list, patterns}
use Rattle.mp_pattern.specs.Value.{same_name}
use Rattle.mp_pattern.specs.Variables.{Use, uses, all_uses}
use Rattle.mp_pattern.specs.Firsts.{is_known}
use Rattle.mp_pattern.proofs.Preserved.{of_normal_pattern}
use Rattle.mp_pattern.proofs.TemplateLaws.{known-firsts}
use Rattle.mp_parser.specs.Syntax.{Tree, Symbol, Apply, InfixOf, Wild, Optional, Counted, Variable, Trees}
use Rattle.mp_parser.specs.Syntax.{no_trees, more_trees, Fits, AreFit, HasNames, HaveNames}
use Rattle.mp_build.specs.Build.{op_number, sign_number, head_number, marked_shape, count_of, counted_shape, kind_shape}
use Rattle.mp_build.specs.Build.{shape_of, counted_shape_of, variable_of, term_of, pattern_of, patterns_of}
use Rattle.mp_build.specs.Checks.{pattern_faults}
use Rattle.mp_build.specs.Names.{is_same_variable}
use Rattle.mp_build.specs.Scope as scope
use Rattle.mp_build.specs.Scope.{pattern_variables, all_pattern_variables, is_bound, extent_in}
use Rattle.mp_build.specs.Wildcards.{PatternWildcard, pattern_wildcards, all_pattern_wildcards, same_extent}
use Rattle.mp_build.specs.Wildcards.{same_default}
use Rattle.mp_build.specs.Wildcards.{same_class, differs}
use Rattle.mp_build.proofs.BoundNames.{known-variables}
use Rattle.mp_build.proofs.Clashes.{Apart, Apart-pattern_faults, same_extent-same}
use Rattle.mp_build.proofs.Declared.{bytes_eq_comm}
use Rattle.mp_build.proofs.Words.{first-of}

differ : false ≡ true → ⊥
differ h = cc

abbrev some_extent : Extent → Option Extent
some_extent e = Some e

-- ---- names with how many terms they stand for

abbrev Pair : Type 0
Pair = List ℕ × Extent

-- that of a name, which is none where it is empty
abbrev named_pair : List ℕ → Extent → List Pair
named_pair [] e = []
named_pair (b ∷ bs) e = (b ∷ bs, e) ∷ []

-- how many terms the first of the name stands for
abbrev look : List Pair → List ℕ → Option Extent
look [] x = None
look (p ∷ ps) x = if same_name p.0 x then Some p.1 else look ps x

abbrev use_pair : Use → Pair
use_pair u = (u.name, extent u.wildcard)

abbrev variable_pair : scope.Variable → List Pair
variable_pair v = named_pair v.name v.extent

abbrev wildcard_pair : PatternWildcard → List Pair
wildcard_pair w = named_pair w.wildcard.name w.extent

look-uses : (us : List Use) (x : List ℕ) → extent_among us x ≡ look (map use_pair us) x
look-uses [] x = refl
look-uses (u ∷ us) x = ap (λ o. if same_name u.name x then Some (extent u.wildcard) else o) (look-uses us x)

look-variables : (vs : List scope.Variable) (x : List ℕ) → x ≢ [] → extent_in vs x ≡ look (flat_map variable_pair vs) x
look-variables [] x some = refl
look-variables (v ∷ vs) x some = go (look-variables vs x some) v.name
  where
    none : (b : Bool) → bytes_eq x [] ≡ b → (if b then Some v.extent else extent_in vs x) ≡ extent_in vs x
    none true e = absurd (some ((bytes_eq-Decides x []).0 e))
    none false e = refl

    go : extent_in vs x ≡ look (flat_map variable_pair vs) x → (name : List ℕ)
        → (if bytes_eq x name then Some v.extent else extent_in vs x)
        ≡ look (named_pair name v.extent ++ flat_map variable_pair vs) x
    go rest [] = none (bytes_eq x []) refl ∙ rest
    go rest (b ∷ bs) =
        ap (λ t. if t then Some v.extent else extent_in vs x)
        (bytes_eq_comm x (b ∷ bs) ∙ sym (is_eq-slice_cmp (b ∷ bs) x))
        ∙ ap (λ o. if same_name (b ∷ bs) x then Some v.extent else o) rest

-- ---- the occurrences in a pattern that is read

module _ (sig : Sig) where
  pair-wild : (f : Option ℕ) (w : pattern.Wildcard) (name : List ℕ) (e : Extent) → extent w ≡ e
      → map use_pair (uses f (wild_pattern w (variable_of name))) ≡ named_pair name e ++ []
  pair-wild f w [] e h = refl
  pair-wild f w (b ∷ bs) e h = ap (λ d. (b ∷ bs, d) ∷ []) h

  extent-kind : (kind : List ℕ) (w : pattern.Wildcard) → (kind ≢ [] → extent w ≡ single)
      → extent (kind_shape sig kind w) ≡ extent w
  extent-kind [] w h = refl
  extent-kind (b ∷ bs) w h = sym (h (λ none. cc))

  one-mark : (marks : ℕ) → marks ≡ 1 → extent (marked_shape marks) ≡ single
  one-mark marks h = ap (λ m. extent (marked_shape m)) h

  mutual
    -- the occurrences of variables are those of the syntax tree
    pairs-pattern_of : (room : ℕ) (f : Option ℕ) (p : Tree) → HasNames p → Fits room p
        → map use_pair (uses f (pattern_of sig p)) ≡ flat_map variable_pair (pattern_variables p)
    pairs-pattern_of room f (Symbol w) names fits = refl
    pairs-pattern_of zero f (Apply g args) names fits = absurd fits
    pairs-pattern_of (suc room) f (Apply g args) names fits =
        pairs-patterns_of room (Some (head_number (op_number sig g.text))) args names.1 fits
    pairs-pattern_of zero f (InfixOf opened sign operands) names fits = absurd fits
    pairs-pattern_of (suc room) f (InfixOf opened sign operands) names fits =
        pairs-patterns_of room (Some (head_number (sign_number sig sign.text))) operands names.1 fits.1
    pairs-pattern_of room f (Wild w) names fits =
        pair-wild f (shape_of sig w) w.name (extent (marked_shape w.marks))
        (extent-kind w.kind (marked_shape w.marks) (λ some. one-mark w.marks (names.kind_behind_one some)))
    pairs-pattern_of room f (Optional w others default) names fits =
        pair-wild f (pattern.optional (normal sig (term_of sig default))) w.name single refl
    pairs-pattern_of room f (Counted w count more) names fits =
        pair-wild f (counted_shape_of sig w count more) w.name (extent (counted_shape (count_of count) more))
        (extent-kind w.kind (counted_shape (count_of count) more) (λ some. absurd (some fits.0.no_kind)))
    pairs-pattern_of room f (Variable x) names fits = refl

    pairs-patterns_of : (room : ℕ) (f : Option ℕ) (ps : Trees) → HaveNames ps → AreFit room ps
        → map use_pair (all_uses f (patterns_of sig ps)) ≡ flat_map variable_pair (all_pattern_variables ps)
    pairs-patterns_of room f no_trees names fits = refl
    pairs-patterns_of room f (more_trees p ps) names fits =
        map-append use_pair (uses f (pattern_of sig p)) (all_uses f (patterns_of sig ps))
        ∙ (λ i. pairs-pattern_of room f p names.0 fits.0 i ++ pairs-patterns_of room f ps names.1 fits.1 i)
        ∙ sym (flat_map-append variable_pair (pattern_variables p) (all_pattern_variables ps))

  mutual
    -- and so are its wildcards
    pairs-wildcards : (p : Tree)
        → flat_map variable_pair (pattern_variables p) ≡ flat_map wildcard_pair (pattern_wildcards sig p)
    pairs-wildcards (Symbol w) = refl
    pairs-wildcards (Apply g args) = pairs-all_wildcards args
    pairs-wildcards (InfixOf opened sign operands) = pairs-all_wildcards operands
    pairs-wildcards (Wild w) = refl
    pairs-wildcards (Optional w others default) = refl
    pairs-wildcards (Counted w count more) = refl
    pairs-wildcards (Variable x) = refl

    pairs-all_wildcards : (ps : Trees)
        → flat_map variable_pair (all_pattern_variables ps) ≡ flat_map wildcard_pair (all_pattern_wildcards sig ps)
    pairs-all_wildcards no_trees = refl
    pairs-all_wildcards (more_trees p ps) =
        flat_map-append variable_pair (pattern_variables p) (all_pattern_variables ps)
        ∙ (λ i. pairs-wildcards p i ++ pairs-all_wildcards ps i)
        ∙ sym (flat_map-append wildcard_pair (pattern_wildcards sig p) (all_pattern_wildcards sig ps))

-- ---- one variable stands for one number of terms

module _ (x : List ℕ) (e : Extent) where
  -- it stands for so many, where the name is this one
  abbrev StandsFor : List ℕ → Extent → Type 0
  StandsFor name d = same_name name x ≡ true → d ≡ e

  abbrev EachStands : List Pair → Type 0
  EachStands = AllByRecursion (λ p. StandsFor p.0 p.1)

  stands-named : (name : List ℕ) (d : Extent) (ps : List Pair) → (name ≢ [] → StandsFor name d) → EachStands ps
      → EachStands (named_pair name d ++ ps)
  stands-named [] d ps h k = k
  stands-named (b ∷ bs) d ps h k = (h (λ none. cc), k)

  -- a wildcard that stands behind another one of its name, from which it doesn't differ, stands for as many
  alike : (v w : PatternWildcard) → w.wildcard.name ≢ [] → v.wildcard.name ≡ w.wildcard.name → differs w v ≡ false
      → v.extent ≡ w.extent
  alike v w some same h = same_extent-same v.extent w.extent
      (first-of (same_extent v.extent w.extent)
      (bytes_eq v.wildcard.kind w.wildcard.kind && same_default v.default w.default)
      (class w.wildcard.name some (sym same) h))
    where
      go : (b : Bool) → b ≡ true → (b && not (same_class v w)) ≡ false → same_class v w ≡ true
      go true k h = not-false (same_class v w) h
      go false k h = absurd (differ k)

      class : (name : List ℕ) → name ≢ [] → name ≡ v.wildcard.name
          → (is_same_variable name v.wildcard.name && not (same_class v w)) ≡ false → same_class v w ≡ true
      class [] some same h = absurd (some refl)
      class (b ∷ bs) some same h = go (bytes_eq (b ∷ bs) v.wildcard.name)
          ((bytes_eq-Decides (b ∷ bs) v.wildcard.name).1 same) h

  -- a wildcard of the name that stands for so many is one of these
  abbrev HasFirst : List PatternWildcard → Type 0
  HasFirst [] = ⊥
  HasFirst (v ∷ vs) = ((v.wildcard.name ≡ x) × (v.extent ≡ e)) ⊎ HasFirst vs

  first-push : (before : List PatternWildcard) (w : PatternWildcard) → HasFirst before → HasFirst (before ++ w ∷ [])
  first-push (v ∷ before) w (inl h) = inl h
  first-push (v ∷ before) w (inr h) = inr (first-push before w h)
  first-push [] w h = absurd h

  first-new : (before : List PatternWildcard) (w : PatternWildcard) → w.wildcard.name ≡ x → w.extent ≡ e
      → HasFirst (before ++ w ∷ [])
  first-new [] w h k = inl (h, k)
  first-new (v ∷ before) w h k = inr (first-new before w h k)

  like-first : (before : List PatternWildcard) (w : PatternWildcard) → HasFirst before → w.wildcard.name ≢ []
      → w.wildcard.name ≡ x → list_any (differs w) before ≡ false → w.extent ≡ e
  like-first [] w h some name none = absurd h
  like-first (v ∷ before) w (inl h) some name none =
      sym (alike v w some (h.0 ∙ sym name) (or_parts (differs w v) (list_any (differs w) before) none).0) ∙ h.1
  like-first (v ∷ before) w (inr h) some name none =
      like-first before w h some name (or_parts (differs w v) (list_any (differs w) before) none).1

  same-name : (name : List ℕ) → same_name name x ≡ true → name ≡ x
  same-name name h = (bytes_eq-Decides name x).0 (sym (is_eq-slice_cmp name x) ∙ h)

  -- behind one of the name each other one stands for as many
  each-behind : (before ws : List PatternWildcard) → HasFirst before → Apart before ws
      → EachStands (flat_map wildcard_pair ws)
  each-behind before [] first apart = tt
  each-behind before (w ∷ ws) first apart =
      stands-named w.wildcard.name w.extent (flat_map wildcard_pair ws)
      (λ some same. like-first before w first some (same-name w.wildcard.name same) apart.0)
      (each-behind (before ++ w ∷ []) ws (first-push before w first) apart.1)

  -- each one does, where the first one stands for so many
  abbrev StandBehind : List PatternWildcard → Type 0
  StandBehind ws = look (flat_map wildcard_pair ws) x ≡ Some e → EachStands (flat_map wildcard_pair ws)

  -- where the first one stands for so many, each one does
  each-stands : (before ws : List PatternWildcard) → Apart before ws → look (flat_map wildcard_pair ws) x ≡ Some e
      → EachStands (flat_map wildcard_pair ws)
  each-stands before [] apart h = tt
  each-stands before (w ∷ ws) apart h =
      go (λ k. each-stands (before ++ w ∷ []) ws apart.1 k) w.wildcard.name refl h
    where
      some-is : (d : Extent) → Some d ≡ some_extent e → d ≡ e
      some-is d h = cc

      by_test : StandBehind ws → (name : List ℕ) → w.wildcard.name ≡ name → (b : Bool) → same_name name x ≡ b
          → (if b then Some w.extent else look (flat_map wildcard_pair ws) x) ≡ Some e
          → StandsFor name w.extent × EachStands (flat_map wildcard_pair ws)
      by_test behind name is true same h =
          let found = some-is w.extent h in (
            λ _. found,
            each-behind (before ++ w ∷ []) ws (first-new before w (is ∙ same-name name same) found) apart.1,
          )
      by_test behind name is false same h = (λ k. absurd (differ (sym same ∙ k)), behind h)

      go : StandBehind ws → (name : List ℕ) → w.wildcard.name ≡ name
          → look (named_pair name w.extent ++ flat_map wildcard_pair ws) x ≡ Some e
          → EachStands (named_pair name w.extent ++ flat_map wildcard_pair ws)
      go behind [] is h = behind h
      go behind (b ∷ bs) is h = by_test behind (b ∷ bs) is (same_name (b ∷ bs) x) refl h

-- ---- in another order

-- a fact of each occurrence, whatever stands above it
module _ (P : List ℕ → Extent → Type 0) where
  abbrev IsUse : Use → Type 0
  IsUse u = P u.name (extent u.wildcard)

  abbrev AreUses : Option ℕ → Pattern → Type 0
  AreUses f p = AllByRecursion IsUse (uses f p)

  uses-under : (f g : Option ℕ) (p : Pattern) → AreUses f p → AreUses g p
  uses-under f g (symbol_pattern n) h = tt
  uses-under f g (app_pattern o ps) h = h
  uses-under f g (wild_pattern w None) h = tt
  uses-under f g (wild_pattern w (Some y)) h = (h.0, tt)

  uses-down : (f : ℕ) (ps : Patterns) → AreUses None (app_pattern f ps)
      → AllByRecursion (AreUses None) (pattern_list ps)
  uses-down f no_patterns h = tt
  uses-down f (more_patterns p ps) h =
      let r = all-split IsUse (uses (Some f) p) (all_uses (Some f) ps) h in
      (uses-under (Some f) None p r.0, uses-down f ps r.1)

  uses-up : (f : ℕ) (ps : Patterns) (qs : List Pattern) → AreUses None (app_pattern f ps)
      → AllByRecursion (AreUses None) qs → AreUses None (app_pattern f (patterns qs))
  uses-up f ps [] h k = tt
  uses-up f ps (q ∷ qs) h k = all-append IsUse (uses (Some f) q) (all_uses (Some f) (patterns qs))
      (uses-under None (Some f) q k.0) (uses-up f ps qs h k.1)

  uses-normal : (sig : Sig) (p : Pattern) → AreUses None p → AreUses None (normal_pattern sig p)
  uses-normal sig p h = of_normal_pattern sig (AreUses None) uses-down uses-up p h

  uses-pairs : (us : List Use) → AllByRecursion (λ (p : Pair). P p.0 p.1) (map use_pair us) → AllByRecursion IsUse us
  uses-pairs [] h = tt
  uses-pairs (u ∷ us) h = (h.0, uses-pairs us h.1)

-- no item is of the name where none is found
none-named : (ps : List Pair) (x : List ℕ) → look ps x ≡ None
    → AllByRecursion (λ (p : Pair). same_name p.0 x ≡ false) ps
none-named [] x h = tt
none-named (p ∷ ps) x h = go (none-named ps x) (same_name p.0 x) refl h
  where
    go : (look ps x ≡ None → AllByRecursion (λ (p : Pair). same_name p.0 x ≡ false) ps)
        → (b : Bool) → same_name p.0 x ≡ b → (if b then Some p.1 else look ps x) ≡ None
        → (same_name p.0 x ≡ false) × AllByRecursion (λ (p : Pair). same_name p.0 x ≡ false) ps
    go others true e h = cc
    go others false e h = (e, others h)

-- none is found where no occurrence is of the name
among-none : (us : List Use) (x : List ℕ) → AllByRecursion (IsUse (λ name d. same_name name x ≡ false)) us
    → extent_among us x ≡ None
among-none [] x h = refl
among-none (u ∷ us) x h = ap (λ b. if b then Some (extent u.wildcard) else extent_among us x) h.0 ∙ among-none us x h.1

-- so many are found where each occurrence of the name stands for so many, and there is one
among-some : (us : List Use) (x : List ℕ) (e : Extent) → AllByRecursion (IsUse (StandsFor x e)) us
    → is_known same_name (map (λ u. u.name) us) x ≡ true → extent_among us x ≡ Some e
among-some [] x e h k = cc
among-some (u ∷ us) x e h k = go (among-some us x e h.1) (same_name u.name x) refl k
  where
    go : (is_known same_name (map (λ u. u.name) us) x ≡ true → extent_among us x ≡ Some e)
        → (b : Bool) → same_name u.name x ≡ b → (b || is_known same_name (map (λ u. u.name) us) x) ≡ true
        → (if b then Some (extent u.wildcard) else extent_among us x) ≡ Some e
    go others true same k = ap Some (h.0 same)
    go others false same k = others k

-- a variable of which it is known how many terms it stands for is bound
bound-extent : (vs : List scope.Variable) (x : List ℕ) (e : Extent) → extent_in vs x ≡ Some e → is_bound vs x ≡ true
bound-extent [] x e h = cc
bound-extent (v ∷ vs) x e h = go (bound-extent vs x e) (bytes_eq x v.name) h
  where
    go : (extent_in vs x ≡ Some e → is_bound vs x ≡ true) → (b : Bool)
        → (if b then Some v.extent else extent_in vs x) ≡ Some e → (b || is_bound vs x) ≡ true
    go others true h = refl
    go others false h = others h

module _ (sig : Sig) (room : ℕ) (p : Tree) (names : HasNames p) (fits : Fits room p)
    (free : pattern_faults sig [] p ≡ []) (x : List ℕ) (some : x ≢ []) where
  -- the pattern, its occurrences and those of its normal form
  abbrev read : Pattern
  read = pattern_of sig p

  abbrev occurrences : List Use
  occurrences = uses None read

  abbrev normal_occurrences : List Use
  normal_occurrences = uses None (normal_pattern sig read)

  same-pairs : map use_pair occurrences ≡ flat_map variable_pair (pattern_variables p)
  same-pairs = pairs-pattern_of sig room None p names fits

  looked : extent_in (pattern_variables p) x ≡ look (map use_pair occurrences) x
  looked = look-variables (pattern_variables p) x some ∙ ap (λ l. look l x) (sym same-pairs)

  by_found : (o : Option Extent) → look (map use_pair occurrences) x ≡ o → o ≡ extent_among normal_occurrences x
  by_found None h =
      sym (among-none normal_occurrences x
      (uses-normal (λ name d. same_name name x ≡ false) sig read
      (uses-pairs (λ name d. same_name name x ≡ false) occurrences (none-named (map use_pair occurrences) x h))))
  by_found (Some e) h =
      let as_wildcards = same-pairs ∙ pairs-wildcards sig p in
      let each = each-stands x e [] (pattern_wildcards sig p) (Apart-pattern_faults sig [] p free)
      (sym (ap (λ l. look l x) as_wildcards) ∙ h) in
      let standing = uses-normal (StandsFor x e) sig read
      (uses-pairs (StandsFor x e) occurrences (subst (EachStands x e) (sym as_wildcards) each)) in
      let known = known-firsts [] (map (λ u. u.name) normal_occurrences) x
      (known-variables x some sig p (bound-extent (pattern_variables p) x e (looked ∙ h))) in
      sym (among-some normal_occurrences x e standing known)

  -- the variable stands for as many terms in the pattern in normal form
  pub extents-normal : extent_in (pattern_variables p) x ≡ extent_named (normal_pattern sig (pattern_of sig p)) x
  extents-normal = looked ∙ by_found (look (map use_pair occurrences) x) refl
