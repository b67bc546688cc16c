-- What spells a pattern stands for it, and has no faults where the pattern is one that is read again.
use Rattle.std.proofs.Common.{◌≡◌, ◌≢◌, ◌≤◌, ℕ, subst, Bool, true, false, ◌&&◌, ◌||◌, not, ltb, List, [], ◌∷◌}
use Rattle.std.proofs.Common.{◌++◌, map, length, Option, Some, None, refl, sym, ap, ◌∙◌, arith, rules}
use Rattle.std.specs.Prelude.{is_none}
use Rattle.std.specs.List.{list_any}
use Rattle.std.specs.Str.{bytes_eq}
use Rattle.std.proofs.lemmas.Bool.{eq-eqb, and_from}
use Rattle.std.specs.Bool.{beq}
use Rattle.std.specs.Cmp.{booleans_Decides}
use Rattle.std.proofs.lemmas.Slice.Eq.{bytes_eq-Decides}
use Rattle.mp_io.specs.Devices.{Text}
use Rattle.mp_pattern.specs.declared.limits.TheConstants.{MAX_DEFAULT_NODES, MAX_PATTERN_NODES, MAX_VARIABLES}
use Rattle.mp_term.specs.Tree as term
use Rattle.mp_term.specs.Signature.{Sig, holds_of}
use Rattle.mp_term.specs.Normal.{normal}
use Rattle.mp_pattern.specs.Extent.{Extent, extent}
use Rattle.mp_pattern.specs.PatternTree.{is_loose, Wildcard, dot, kind, plus, star, optional, counted, Pattern}
use Rattle.mp_pattern.specs.PatternTree.{symbol_pattern, app_pattern, wild_pattern, Patterns, no_patterns}
use Rattle.mp_pattern.specs.PatternTree.{more_patterns, pattern_list}
use Rattle.mp_pattern.specs.Size.{pattern_nodes}
use Rattle.mp_pattern.specs.Normal as normal_form_of
use Rattle.mp_pattern.specs.Variables.{variables}
use Rattle.mp_pattern.specs.Subpatterns.{subpatterns, all_subpatterns}
use Rattle.mp_pattern.specs.SoundRule.{IsSoundTerm, IsFormed, AreFormed, IsSoundPattern, allows_patterns}
use Rattle.mp_round_trip.specs.Readable.{IsReadablePattern}
use Rattle.mp_pattern.proofs.ClashLaws.{Agree, AgreesWith, InOrder, InOrder-first_clash_after, same_shape-itself}
use Rattle.mp_parser.specs.Syntax as syntax
use Rattle.mp_parser.specs.Syntax.{Tree, Symbol, Apply, InfixOf, Wild, Counted, Optional, Variable, Trees, no_trees}
use Rattle.mp_parser.specs.Syntax.{more_trees, tree_list}
use Rattle.mp_build.specs.declared.fault.TextKind.TheVariants.{UnknownKind, KindClash}
use Rattle.mp_build.specs.Names.{is_same_variable}
use Rattle.mp_build.specs.Scope.{variable_names}
use Rattle.mp_build.specs.Build.{head_number, kind_number, marked_shape, kind_shape, variable_of, term_of, pattern_of}
use Rattle.mp_build.specs.Build.{patterns_of}
use Rattle.mp_build.specs.Wildcards.{DefaultForm, absent, normal_form, PatternWildcard, without_default, default_form}
use Rattle.mp_build.specs.Wildcards.{with_count, with_default_form, pattern_wildcards, all_pattern_wildcards}
use Rattle.mp_build.specs.Wildcards.{same_extent, same_default, same_class, differs}
use Rattle.mp_build.specs.Checks.{fault_if, nodes, has_large_default, some_large_default, is_large_pattern, allows_args}
use Rattle.mp_build.specs.Checks.{op_at, op_named, op_signed, kind_unknown, loose_faults, head_faults, arity_faults}
use Rattle.mp_build.specs.Checks.{sign_faults, default_faults, wildcard_faults, count_faults, pattern_faults}
use Rattle.mp_build.specs.Checks.{pattern_operand_faults, all_pattern_faults, whole_pattern_faults}
use Rattle.mp_build.proofs.Built.{pattern_operand_faults-known}
use Rattle.mp_build.proofs.Clashes.{Apart, Apart-split, wilds, wilds-append, wilds-InOrder}
use Rattle.mp_build.proofs.Defaults.{default_form-default_faults}
use Rattle.mp_build.proofs.Faultless.{nil-both, none-fault_if}
use Rattle.mp_build.proofs.SoundLaws.{pattern_nodes-pattern_of, variables-pattern_of}
use Rattle.mp_round_trip.proofs.CountAgain.{counted-again, none-count}
use Rattle.mp_round_trip.proofs.SpelledHead.{kind_name_text-found}
use Rattle.mp_round_trip.proofs.Spells.{SpellsTerm, SpellsKind, SpellsWildcard, SpellsPattern, SpellPatterns}
use Rattle.mp_round_trip.proofs.TermAgain.{none-head, none-arity, some-holds_of, none-symbol, term_of-spells}
use Rattle.mp_round_trip.proofs.TermAgain.{has_large_default-spells, term_faults-spells, nodes-spells}

-- ---- wildcards

-- the default of a wildcard
abbrev default_of : Wildcard → DefaultForm
default_of (optional t) = normal_form t
default_of _ = absent

-- a default is the same as itself
same_default-itself : (v : Wildcard) → same_default (default_of v) (default_of v) ≡ true
same_default-itself dot = refl
same_default-itself (kind k) = refl
same_default-itself plus = refl
same_default-itself star = refl
same_default-itself (counted n fixed) = refl
same_default-itself (optional t) = same_shape-itself (optional t)

same_extent-itself : (e : Extent) → same_extent e e ≡ true
same_extent-itself e = and_from _ (beq e.fixed e.fixed) (eq-eqb e.least e.least refl)
    ((booleans_Decides e.fixed e.fixed).1 refl)

-- wildcards that agree and have one name are the same
agree-named : (v w : Wildcard) (x y : Option Text) (name : Text) → Agree (wild_pattern v x) (wild_pattern w y)
    → x ≡ Some name → y ≡ Some name → v ≡ w
agree-named v w None y name h e k = cc
agree-named v w (Some x) None name h e k = cc
agree-named v w (Some x) (Some y) name h e k = h (cc)

module _ (sig : Sig) where
  -- the kind that the name of a wildcard's kind spells
  shape-kind : (name : Text) (shape : Wildcard) (k : ℕ) → name ≢ [] → kind_number sig name ≡ Some k
      → kind_shape sig name shape ≡ kind k
  shape-kind [] shape k some e = absurd (some refl)
  shape-kind (b ∷ bs) shape k some e = ap (λ o. kind (head_number o)) e

  known-kind : (name : Text) (k : ℕ) → kind_number sig name ≡ Some k → kind_unknown sig name ≡ false
  known-kind [] k e = refl
  known-kind (b ∷ bs) k e = ap is_none e

  -- the kind of a wildcard that is spelled is known
  known-spells : (name : Text) (v : Wildcard) → SpellsKind sig name v → kind_unknown sig name ≡ false
  known-spells name (kind k) s = known-kind name k s.1
  known-spells name dot s = ap (kind_unknown sig) s
  known-spells name plus s = ap (kind_unknown sig) s
  known-spells name star s = ap (kind_unknown sig) s
  known-spells name (optional t) s = ap (kind_unknown sig) s
  known-spells name (counted n fixed) s = ap (kind_unknown sig) s

  -- one kind has one name
  same-kind : (a b : Text) (v : Wildcard) → SpellsKind sig a v → SpellsKind sig b v → a ≡ b
  same-kind a b (kind k) s t = sym (kind_name_text-found sig a k s.1) ∙ kind_name_text-found sig b k t.1
  same-kind a b dot s t = s ∙ sym t
  same-kind a b plus s t = s ∙ sym t
  same-kind a b star s t = s ∙ sym t
  same-kind a b (optional t) s u = s ∙ sym u
  same-kind a b (counted n fixed) s t = s ∙ sym t

  -- a wildcard without a default or a count stands for its shape
  pattern_of-wild : (w : syntax.Wildcard) (v : Wildcard) (x : Option Text)
      → SpellsPattern sig (Wild w) (wild_pattern v x) → pattern_of sig (Wild w) ≡ wild_pattern v x
  pattern_of-wild w dot x s = λ i. wild_pattern (kind_shape sig (s.2 i) (marked_shape (s.1 i))) (s.0 i)
  pattern_of-wild w (kind k) x s =
      λ i. wild_pattern (shape-kind w.kind (marked_shape w.marks) k s.2.0 s.2.1 i) (s.0 i)
  pattern_of-wild w plus x s = λ i. wild_pattern (kind_shape sig (s.2 i) (marked_shape (s.1 i))) (s.0 i)
  pattern_of-wild w star x s = λ i. wild_pattern (kind_shape sig (s.2 i) (marked_shape (s.1 i))) (s.0 i)
  pattern_of-wild w (optional t) x s = absurd s
  pattern_of-wild w (counted n fixed) x s = absurd s

  -- a wildcard of a pattern, with the number of its terms and its default
  abbrev SpellsWild : PatternWildcard → Pattern → Type 0
  SpellsWild w (wild_pattern v x) =
      SpellsWildcard sig w.wildcard v x × (w.extent ≡ extent v) × (w.default ≡ default_of v)
  SpellsWild w _ = ⊥

  spells-wild : (w : syntax.Wildcard) (v : Wildcard) (x : Option Text) → SpellsPattern sig (Wild w) (wild_pattern v x)
      → SpellsWild (without_default w) (wild_pattern v x)
  spells-wild w dot x s = (s, ap (λ n. extent (marked_shape n)) s.1, refl)
  spells-wild w (kind k) x s = (s, ap (λ n. extent (marked_shape n)) s.1, refl)
  spells-wild w plus x s = (s, ap (λ n. extent (marked_shape n)) s.1, refl)
  spells-wild w star x s = (s, ap (λ n. extent (marked_shape n)) s.1, refl)
  spells-wild w (optional t) x s = absurd s
  spells-wild w (counted n fixed) x s = absurd s

  spells-counted : (w : syntax.Wildcard) (count : syntax.Spot) (more : Bool) (n : ℕ) (fixed : Bool) (x : Option Text)
      → SpellsPattern sig (Counted w count more) (wild_pattern (counted n fixed) x)
      → IsFormed sig (wild_pattern (counted n fixed) x)
      → SpellsWild (with_count w count more) (wild_pattern (counted n fixed) x)
  spells-counted w count more n fixed x s h =
      (s.0, ap extent (counted-again count more n fixed s.1 s.2 h.0.0 h.0.1), refl)

  -- wildcards that are spelled as ones that agree don't differ
  apart-agree : (v w : PatternWildcard) (p q : Pattern) → SpellsWild v p → SpellsWild w q → Agree p q
      → differs w v ≡ false
  apart-agree v w (wild_pattern a x) (wild_pattern b y) s t h = go w.wildcard.name refl
    where
      alike : a ≡ b → same_class v w ≡ true
      alike e =
          let kinds : SpellsKind sig v.wildcard.kind b = subst (SpellsKind sig v.wildcard.kind) e s.0.2 in
          let extents : same_extent v.extent w.extent ≡ true =
          (λ i. same_extent ((s.1 ∙ ap extent e) i) (t.1 i)) ∙ same_extent-itself (extent b) in
          let defaults : same_default v.default w.default ≡ true =
          (λ i. same_default ((s.2 ∙ ap default_of e) i) (t.2 i)) ∙ same_default-itself b in
          and_from (same_extent v.extent w.extent) _ extents
          (and_from (bytes_eq v.wildcard.kind w.wildcard.kind) _
          ((bytes_eq-Decides v.wildcard.kind w.wildcard.kind).1
          (same-kind v.wildcard.kind w.wildcard.kind b kinds t.0.2)) defaults)

      by_test : (c : ℕ) (cs : Text) (test : Bool) → w.wildcard.name ≡ c ∷ cs → bytes_eq (c ∷ cs) v.wildcard.name ≡ test
          → (test && not (same_class v w)) ≡ false
      by_test c cs false e k = refl
      by_test c cs true e k =
          let name : v.wildcard.name ≡ c ∷ cs = sym ((bytes_eq-Decides (c ∷ cs) v.wildcard.name).0 k) in
          ap not (alike
          (agree-named a b x y (c ∷ cs) h (sym s.0.0 ∙ ap variable_of name) (sym t.0.0 ∙ ap variable_of e)))

      go : (name : Text) → w.wildcard.name ≡ name → differs w v ≡ false
      go [] e = ap (λ n. is_same_variable n v.wildcard.name && not (same_class v w)) e
      go (c ∷ cs) e = ap (λ n. is_same_variable n v.wildcard.name && not (same_class v w)) e
          ∙ by_test c cs (bytes_eq (c ∷ cs) v.wildcard.name) e refl
  apart-agree v w (wild_pattern a x) _ s t h = absurd t
  apart-agree v w _ _ s t h = absurd s

  -- the wildcards of a pattern
  abbrev SpellWilds : List PatternWildcard → List Pattern → Type 0
  SpellWilds [] [] = Unit {0}
  SpellWilds (w ∷ ws) (p ∷ ps) = SpellsWild w p × SpellWilds ws ps
  SpellWilds _ _ = ⊥

  wilds-both : (vs ws : List PatternWildcard) (ps qs : List Pattern) → SpellWilds vs ps → SpellWilds ws qs
      → SpellWilds (vs ++ ws) (ps ++ qs)
  wilds-both [] ws [] qs s t = t
  wilds-both (v ∷ vs) ws (p ∷ ps) qs s t = (s.0, wilds-both vs ws ps qs s.1 t)
  wilds-both _ ws _ qs s t = absurd s

  none-agrees : (w : PatternWildcard) (q : Pattern) (vs : List PatternWildcard) (ps : List Pattern) → SpellsWild w q
      → SpellWilds vs ps → AgreesWith q ps → list_any (differs w) vs ≡ false
  none-agrees w q [] [] s t h = refl
  none-agrees w q (v ∷ vs) (p ∷ ps) s t h = ap (λ b. b || list_any (differs w) vs) (apart-agree v w p q t.0 s h.0)
      ∙ none-agrees w q vs ps s t.1 h.1
  none-agrees w q _ _ s t h = absurd t

  -- those of a pattern without clashes don't differ
  apart-wilds : (vs ws : List PatternWildcard) (ps qs : List Pattern) → SpellWilds vs ps → SpellWilds ws qs
      → InOrder ps qs → Apart vs ws
  apart-wilds vs [] ps [] s t h = tt
  apart-wilds vs (w ∷ ws) ps (q ∷ qs) s t h = (
    none-agrees w q vs ps t.0 s h.0,
    apart-wilds (vs ++ w ∷ []) ws (ps ++ q ∷ []) qs
        (wilds-both vs (w ∷ []) ps (q ∷ []) s (t.0, tt)) t.1 h.1,
  )
  apart-wilds vs _ ps _ s t h = absurd t

  -- a wildcard has no faults, where it differs from none before it
  none-wildcard : (before : List PatternWildcard) (w : PatternWildcard) (v : Wildcard)
      → SpellsKind sig w.wildcard.kind v → list_any (differs w) before ≡ false → wildcard_faults sig before w ≡ []
  none-wildcard before w v s apart =
      nil-both (fault_if (kind_unknown sig w.wildcard.kind) UnknownKind w.wildcard.place)
      (fault_if (list_any (differs w) before) KindClash w.wildcard.place)
      (none-fault_if (kind_unknown sig w.wildcard.kind) _ w.wildcard.place (known-spells w.wildcard.kind v s))
      (none-fault_if (list_any (differs w) before) _ w.wildcard.place apart)

  -- a default has no faults, and one normal form
  none-default : (e : Tree) (t : term.Tree) (n : ℕ) → SpellsTerm sig e t → IsSoundTerm sig n t
      → default_faults sig [] e ≡ []
  none-default e t n s h = term_faults-spells sig e t s h.formed h.symbols

  normal-default : (e : Tree) (t : term.Tree) (n : ℕ) → SpellsTerm sig e t → IsSoundTerm sig n t
      → normal sig (term_of sig e) ≡ t
  normal-default e t n s h = ap (normal sig) (term_of-spells sig e t s) ∙ h.normal

  form-default : (e : Tree) (t : term.Tree) (n : ℕ) → SpellsTerm sig e t → IsSoundTerm sig n t
      → default_form sig [] e ≡ normal_form t
  form-default e t n s h = default_form-default_faults sig [] e (none-default e t n s h)
      ∙ ap (λ u. normal_form u) (normal-default e t n s h)

  -- ---- patterns

  mutual
    -- it stands for the pattern
    pub pattern_of-spells : (e : Tree) (p : Pattern) → SpellsPattern sig e p → IsFormed sig p → pattern_of sig e ≡ p
    pattern_of-spells (Symbol w) (symbol_pattern n) s h = ap symbol_pattern s
    pattern_of-spells (Apply g args) (app_pattern f ps) s h =
        λ i. app_pattern (head_number (s.0 i)) (patterns_of-spell args ps s.1 h.1 i)
    pattern_of-spells (InfixOf opened sign operands) (app_pattern f ps) s h =
        λ i. app_pattern (head_number (s.0 i)) (patterns_of-spell operands ps s.1 h.1 i)
    pattern_of-spells (Wild w) (wild_pattern v x) s h = pattern_of-wild w v x s
    pattern_of-spells (Counted w count more) (wild_pattern (counted n fixed) x) s h =
        λ i. wild_pattern (kind_shape sig (s.0.2 i) (counted-again count more n fixed s.1 s.2 h.0.0 h.0.1 i)) (s.0.0 i)
    pattern_of-spells (Optional w [] e) (wild_pattern (optional t) x) s h =
        λ i. wild_pattern (optional (normal-default e t _ s.1 h.0 i)) (s.0.0 i)
    pattern_of-spells _ _ s h = absurd s

    patterns_of-spell : (es : Trees) (ps : Patterns) → SpellPatterns sig es ps → AreFormed sig ps
        → patterns_of sig es ≡ ps
    patterns_of-spell no_trees no_patterns s h = refl
    patterns_of-spell (more_trees e es) (more_patterns p ps) s h =
        λ i. more_patterns (pattern_of-spells e p s.0 h.0 i) (patterns_of-spell es ps s.1 h.1 i)
    patterns_of-spell _ _ s h = absurd s

  -- the patterns of its arguments
  listed : (es : Trees) (ps : Patterns) → SpellPatterns sig es ps → AreFormed sig ps
      → map (pattern_of sig) (tree_list es) ≡ pattern_list ps
  listed no_trees no_patterns s h = refl
  listed (more_trees e es) (more_patterns p ps) s h = λ i. pattern_of-spells e p s.0 h.0 i ∷ listed es ps s.1 h.1 i
  listed _ _ s h = absurd s

  mutual
    -- its wildcards are those of the pattern
    wilds-spells : (e : Tree) (p : Pattern) → SpellsPattern sig e p → IsFormed sig p
        → SpellWilds (pattern_wildcards sig e) (wilds (subpatterns p))
    wilds-spells (Symbol w) (symbol_pattern n) s h = tt
    wilds-spells (Apply g args) (app_pattern f ps) s h = wilds-spell args ps s.1 h.1
    wilds-spells (InfixOf opened sign operands) (app_pattern f ps) s h = wilds-spell operands ps s.1 h.1
    wilds-spells (Wild w) (wild_pattern v x) s h = (spells-wild w v x s, tt)
    wilds-spells (Counted w count more) (wild_pattern (counted n fixed) x) s h =
        (spells-counted w count more n fixed x s h, tt)
    wilds-spells (Optional w [] e) (wild_pattern (optional t) x) s h = ((s.0, refl, form-default e t _ s.1 h.0), tt)
    wilds-spells _ _ s h = absurd s

    wilds-spell : (es : Trees) (ps : Patterns) → SpellPatterns sig es ps → AreFormed sig ps
        → SpellWilds (all_pattern_wildcards sig es) (wilds (all_subpatterns ps))
    wilds-spell no_trees no_patterns s h = tt
    wilds-spell (more_trees e es) (more_patterns p ps) s h =
        subst (SpellWilds (all_pattern_wildcards sig (more_trees e es)))
        (sym (wilds-append (subpatterns p) (all_subpatterns ps)))
        (wilds-both (pattern_wildcards sig e) (all_pattern_wildcards sig es) (wilds (subpatterns p))
        (wilds (all_subpatterns ps)) (wilds-spells e p s.0 h.0) (wilds-spell es ps s.1 h.1))
    wilds-spell _ _ s h = absurd s

  mutual
    -- it has no faults, where its wildcards don't differ
    pattern_faults-spells : (before : List PatternWildcard) (e : Tree) (p : Pattern) → SpellsPattern sig e p
        → IsFormed sig p → Apart before (pattern_wildcards sig e) → pattern_faults sig before e ≡ []
    pattern_faults-spells before (Symbol w) (symbol_pattern n) s h apart = none-symbol sig w n s h
    pattern_faults-spells before (Apply g args) (app_pattern f ps) s h apart =
        let passes = allows_args sig args in
        let held : holds_of passes (op_named sig g.text) ≡ true =
        (λ i. holds_of (allows_patterns (listed args ps s.1 h.1 i)) (op_at sig (s.0 i))) ∙ h.0 in
        nil-both (head_faults passes g (op_named sig g.text)) (all_pattern_faults sig before args)
        (none-head passes g (op_named sig g.text) held) (all_pattern_faults-spell before args ps s.1 h.1 apart)
    pattern_faults-spells before (InfixOf opened sign operands) (app_pattern f ps) s h apart =
        let passes = allows_args sig operands in
        let here = op_signed sig sign.text in
        let held : holds_of passes here ≡ true =
        (λ i. holds_of (allows_patterns (listed operands ps s.1 h.1 i)) (op_at sig (s.0 i))) ∙ h.0 in
        nil-both (arity_faults passes opened here) (pattern_operand_faults sig before (sign_faults sign here) operands)
        (none-arity passes opened here held)
        (pattern_operand_faults-known sig before sign here operands (some-holds_of passes here held)
        ∙ all_pattern_faults-spell before operands ps s.1 h.1 apart)
    pattern_faults-spells before (Wild w) (wild_pattern v x) s h apart =
        none-wildcard before (without_default w) v (spells-wild w v x s).0.2 apart.0
    pattern_faults-spells before (Counted w count more) (wild_pattern (counted n fixed) x) s h apart =
        let own = with_count w count more in
        nil-both (wildcard_faults sig before own) (count_faults count more)
        (none-wildcard before own (counted n fixed) s.0.2 apart.0)
        (none-count count more n fixed s.1 s.2 h.0.0 h.0.1)
    pattern_faults-spells before (Optional w [] e) (wild_pattern (optional t) x) s h apart =
        let own = with_default_form sig w [] e in
        nil-both (wildcard_faults sig before own) (default_faults sig [] e)
        (none-wildcard before own (optional t) s.0.2 apart.0) (none-default e t _ s.1 h.0)
    pattern_faults-spells before _ _ s h apart = absurd s

    all_pattern_faults-spell : (before : List PatternWildcard) (es : Trees) (ps : Patterns) → SpellPatterns sig es ps
        → AreFormed sig ps → Apart before (all_pattern_wildcards sig es) → all_pattern_faults sig before es ≡ []
    all_pattern_faults-spell before no_trees no_patterns s h apart = refl
    all_pattern_faults-spell before (more_trees e es) (more_patterns p ps) s h apart =
        let own = pattern_wildcards sig e in
        let r = Apart-split before own (all_pattern_wildcards sig es) apart in
        nil-both (pattern_faults sig before e) (all_pattern_faults sig (before ++ own) es)
        (pattern_faults-spells before e p s.0 h.0 r.0) (all_pattern_faults-spell (before ++ own) es ps s.1 h.1 r.1)
    all_pattern_faults-spell before _ _ s h apart = absurd s

  mutual
    -- none of its defaults is large
    has_large_default-pattern : (e : Tree) (p : Pattern) → SpellsPattern sig e p → IsFormed sig p
        → has_large_default e ≡ false
    has_large_default-pattern (Symbol w) (symbol_pattern n) s h = refl
    has_large_default-pattern (Apply g args) (app_pattern f ps) s h = some_large_default-patterns args ps s.1 h.1
    has_large_default-pattern (InfixOf opened sign operands) (app_pattern f ps) s h =
        some_large_default-patterns operands ps s.1 h.1
    has_large_default-pattern (Wild w) (wild_pattern v x) s h = refl
    has_large_default-pattern (Counted w count more) (wild_pattern (counted n fixed) x) s h = refl
    has_large_default-pattern (Optional w [] e) (wild_pattern (optional t) x) s h =
        let few : nodes e ≤ MAX_DEFAULT_NODES = omega (arith, nodes-spells sig e t s.1, h.0.few_nodes) in
        let test : ltb MAX_DEFAULT_NODES (nodes e) ≡ false = search (rules, few) in
        ap (λ b. b || has_large_default e) test ∙ has_large_default-spells sig e t s.1
    has_large_default-pattern _ _ s h = absurd s

    some_large_default-patterns : (es : Trees) (ps : Patterns) → SpellPatterns sig es ps → AreFormed sig ps
        → some_large_default es ≡ false
    some_large_default-patterns no_trees no_patterns s h = refl
    some_large_default-patterns (more_trees e es) (more_patterns p ps) s h =
        ap (λ b. b || some_large_default es) (has_large_default-pattern e p s.0 h.0)
        ∙ some_large_default-patterns es ps s.1 h.1
    some_large_default-patterns _ _ s h = absurd s

  -- ---- the pattern of a rule

  loose_faults-wild : (w : syntax.Wildcard) (v : Wildcard) (x : Option Text)
      → SpellsPattern sig (Wild w) (wild_pattern v x) → normal_form_of.is_loose (wild_pattern v x) ≡ false
      → loose_faults (Wild w) ≡ []
  loose_faults-wild w dot x s h = none-fault_if (is_loose (marked_shape w.marks)) _ w.place
      (ap (λ n. is_loose (marked_shape n)) s.1)
  loose_faults-wild w (kind k) x s h = none-fault_if (is_loose (marked_shape w.marks)) _ w.place
      (ap (λ n. is_loose (marked_shape n)) s.1)
  loose_faults-wild w plus x s h = cc
  loose_faults-wild w star x s h = cc
  loose_faults-wild w (optional t) x s h = absurd s
  loose_faults-wild w (counted n fixed) x s h = absurd s

  -- a wildcard that isn't loose may stand alone
  loose_faults-spells : (e : Tree) (p : Pattern) → SpellsPattern sig e p → normal_form_of.is_loose p ≡ false
      → loose_faults e ≡ []
  loose_faults-spells (Symbol w) p s h = refl
  loose_faults-spells (Apply g args) p s h = refl
  loose_faults-spells (InfixOf opened sign operands) p s h = refl
  loose_faults-spells (Variable x) p s h = refl
  loose_faults-spells (Wild w) (wild_pattern v x) s h = loose_faults-wild w v x s h
  loose_faults-spells (Counted w count more) (wild_pattern (counted n fixed) x) s h = cc
  loose_faults-spells (Optional w [] e) (wild_pattern (optional t) x) s h = cc
  loose_faults-spells _ _ s h = absurd s

  -- it has no faults as a whole
  pub whole_pattern_faults-spells : (e : Tree) (p : Pattern) → SpellsPattern sig e p → IsReadablePattern sig p
      → whole_pattern_faults sig e ≡ []
  whole_pattern_faults-spells e p s h =
      let apart = apart-wilds [] (pattern_wildcards sig e) [] (wilds (subpatterns p)) tt (wilds-spells e p s h.formed)
      (wilds-InOrder [] (subpatterns p) (InOrder-first_clash_after [] (subpatterns p) h.no_clash)) in
      nil-both (loose_faults e) (pattern_faults sig [] e) (loose_faults-spells e p s h.plain_root)
      (pattern_faults-spells [] e p s h.formed apart)

  -- and isn't large
  pub is_large_pattern-spells : (e : Tree) (p : Pattern) → SpellsPattern sig e p → IsReadablePattern sig p
      → is_large_pattern e ≡ false
  is_large_pattern-spells e p s h =
      let same = pattern_of-spells e p s h.formed in
      let few_nodes : nodes e ≤ MAX_PATTERN_NODES =
      omega (arith, pattern_nodes-pattern_of sig e, ap pattern_nodes same, h.few_nodes) in
      let few_names : length (variable_names e) ≤ MAX_VARIABLES =
      omega (arith, ap length (variables-pattern_of sig e), ap (λ p. length (variables p)) same, h.few_variables) in
      let nodes_small : ltb MAX_PATTERN_NODES (nodes e) ≡ false = search (rules, few_nodes) in
      let names_small : ltb MAX_VARIABLES (length (variable_names e)) ≡ false = search (rules, few_names) in
      rw (nodes_small, names_small) (has_large_default-pattern e p s h.formed)

  -- a sound pattern is one that is read again
  pub readable-pattern : (p : Pattern) → IsSoundPattern sig p → IsReadablePattern sig p
  readable-pattern p h = record {
    formed = h.formed;
    plain_root = h.plain_root;
    no_clash = h.no_clash;
    few_nodes = h.few_nodes;
    few_variables = h.few_variables;
    shallow = h.shallow;
  }
