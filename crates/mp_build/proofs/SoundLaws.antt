-- What the checks let through is sound.
use Rattle.std.specs.Prelude.{if◌then◌else◌}
use Rattle.mp_build.proofs.Words.{first-of, second-of, is_name-IsName}
use Rattle.mp_build.proofs.Faultless.{nil-fault_if, some-behind}
use Rattle.std.proofs.Common.{append-nil, cond, sym, eqb, ◌&&◌, ◌≡◌, ◌≤◌, ◌<◌, ◌+◌, ℕ, zero, suc, Bool, true, false}
use Rattle.std.proofs.Common.{◌||◌}
use Rattle.std.proofs.Common.{leb, ltb, rules, List, [], ◌∷◌, ◌++◌, map, length, Option, Some, None, refl, ap, ◌∙◌}
use Rattle.std.proofs.Common.{arith}
use Rattle.std.specs.Prelude.{◌≢◌, not, flat_map, slice_get, position, is_some, is_none, nat_lt}
use Rattle.std.specs.List.{list_all, list_any, position_or_len}
use Rattle.std.specs.Str.{bytes_eq}
use Rattle.std.proofs.lemmas.List.{map-append}
use Rattle.std.proofs.lemmas.List.Concat.{flat_map-append}
use Rattle.std.proofs.lemmas.List.Sorted.{length_permutation}
use Rattle.std.proofs.lemmas.Map.Text.{is_eq-slice_cmp}
use Rattle.std.proofs.lemmas.Bool.{and_from, leb-false, ltb-false, not-false, or_parts}
use Rattle.mp_term.specs.declared.signature.OpDecl.{OpDecl}
use Rattle.mp_term.specs.Tree.{tree_list}
use Rattle.mp_term.specs.Size.{node_count, node_counts, depth, greatest_depth}
use Rattle.mp_term.specs.Signature.{Sig, holds_of, allows, has_name, kind_names, all_in_order, well_formed}
use Rattle.mp_term.specs.Signature.{all_well_formed}
use Rattle.mp_term.proofs.SignatureLaws.{is_some-position}
use Rattle.mp_term.specs.Normal.{normal}
use Rattle.mp_term.proofs.NormalSize.{normal-normal, node_count-normal, depth-normal}
use Rattle.mp_term.proofs.WellFormedNormal.{wf-normal}
use Rattle.mp_term.specs.Names.{are_distinct}
use Rattle.mp_term.proofs.ListLaws.{both-empty}
use Rattle.mp_pattern.specs.PatternTree as pattern
use Rattle.mp_pattern.specs.Firsts.{firsts_after, is_known, add_new}
use Rattle.mp_pattern.specs.Normal.{is_loose, flattened, in_order, normal_pattern, normal_patterns}
use Rattle.mp_pattern.specs.Size.{pattern_nodes, all_pattern_nodes}
use Rattle.mp_pattern.specs.Value.{same_name}
use Rattle.mp_pattern.specs.Variables.{uses, all_uses, variables}
use Rattle.mp_parser.specs.Syntax as syntax
use Rattle.mp_parser.specs.Syntax.{Spot, Tree, Symbol, Apply, InfixOf, Wild, Optional, Counted, Variable, Trees}
use Rattle.mp_parser.specs.Syntax.{no_trees, more_trees, Fits, AreFit, IsName, HasNames, HaveNames}
use Rattle.mp_parser.specs.declared.place.Place.{Place}
use Rattle.mp_build.specs.declared.fault.TextKind.TheVariants.{TooMany, BadCount}
use Rattle.mp_build.specs.Names.{is_among, number_of, named}
use Rattle.mp_build.specs.Scope as scope
use Rattle.mp_build.specs.Scope.{pattern_variables, all_pattern_variables, names_of, variable_names}
use Rattle.mp_build.specs.Build.{op_number, sign_number, head_number, marked_shape, count_of, counted_shape, kind_shape}
use Rattle.mp_build.specs.Build.{shape_of, counted_shape_of, variable_of, term_of, terms_of, pattern_of, patterns_of}
use Rattle.mp_build.specs.Build.{kind_number}
use Rattle.mp_build.specs.Checks.{fault_if, kind_unknown, nodes, all_nodes, is_large_pattern, op_at}
use Rattle.mp_build.specs.Checks.{op_named, op_signed, head_faults, arity_faults, sign_faults, allows_args}
use Rattle.mp_build.specs.Checks.{symbol_faults, term_faults, term_operand_faults, all_term_faults, pattern_faults}
use Rattle.mp_build.specs.Checks.{pattern_operand_faults, all_pattern_faults, loose_faults, whole_pattern_faults}
use Rattle.mp_build.specs.Checks.{name_faults, has_large_default, some_large_default, term_wildcard_faults}
use Rattle.mp_build.specs.Checks.{default_faults, wildcard_faults, count_faults}
use Rattle.mp_build.specs.Wildcards.{PatternWildcard, without_default, with_count, with_default_form, pattern_wildcards}
use Rattle.mp_build.specs.Wildcards.{differs}
use Rattle.mp_pattern.specs.EachWildcard.{AllEachWildcard}
use Rattle.mp_pattern.specs.Sound.{DefaultIsNormal, DefaultsAreNormal, holds_ops, all_hold_ops}
use Rattle.mp_pattern.specs.declared.limits.TheConstants.{MAX_PATTERN_NODES, MAX_DEFAULT_NODES, MAX_VARIABLES}
use Rattle.mp_pattern.specs.declared.limits.TheConstants.{MAX_DEPTH, MAX_COUNT}
use Rattle.mp_pattern.specs.SoundRule.{allows_patterns, IsSymbol, HasSymbols, HaveSymbols, IsSoundTerm, IsSoundWildcard}
use Rattle.mp_pattern.specs.SoundRule.{IsVariable, IsFormed, AreFormed, IsSoundPattern}
use Rattle.mp_pattern.proofs.Formed.{is_loose-collapsed, IsFormed-normal_pattern, HasSymbols-normal}
use Rattle.mp_pattern.proofs.ClashLaws.{first_clash-normal_pattern}
use Rattle.mp_pattern.proofs.NormalShape.{normal_pattern-normal_pattern}
use Rattle.mp_pattern.proofs.NormalMeasures.{pattern_nodes-normal_pattern}
use Rattle.mp_pattern.proofs.VariableLaws.{IsPermutation-variables}
use Rattle.mp_parser.proofs.Trees.{fits-optional}
use Rattle.mp_build.proofs.Clashes.{nil-pattern_operands, first_clash-pattern_of}
use Rattle.mp_build.proofs.Defaults.{nil-term_operands, no-optional_term, no-counted_term}
use Rattle.mp_pattern.proofs.NormalDepth.{pattern_depth-normal_pattern}
use Rattle.mp_pattern.specs.Depth.{wildcard_depth, pattern_depth, greatest_pattern_depth}
use Rattle.mp_build.proofs.Declared.{bytes_eq_comm}

-- ---- what is found

-- there is an element before the end
within-get : {X : Type 0} (xs : List X) (k : ℕ) → k < length xs → is_some (slice_get xs k) ≡ true
within-get [] k h = absurd (omega (arith, h))
within-get (x ∷ xs) zero h = refl
within-get (x ∷ xs) (suc k) h = within-get xs k (omega (arith, h))

-- what is found at an index is held there
pub held-position : {X : Type 0} (p : X → Bool) (xs : List X) → is_none (position p xs) ≡ false
    → is_some (slice_get xs (head_number (position p xs))) ≡ true
held-position {X = X} p xs h = go (nat_lt (position_or_len p xs) (length xs)) refl h
  where
    lt-from : (a b : ℕ) → ltb a b ≡ true → a < b
    lt-from a b e = search (rules, e)

    no-none : true ≡ false → ⊥
    no-none e = cc

    go : (b : Bool) → nat_lt (position_or_len p xs) (length xs) ≡ b
        → is_none (cond b (Some (position_or_len p xs)) None) ≡ false
        → is_some (slice_get xs (head_number (cond b (Some (position_or_len p xs)) None))) ≡ true
    go true e k = within-get xs (position_or_len p xs) (lt-from (position_or_len p xs) (length xs) e)
    go false e k = absurd (no-none k)

-- ---- operations that are found

-- an operation that is found under its number
pub record Found (sig : Sig) (number : Option ℕ) (passes : OpDecl → Bool) : Type 0 where
  pub decl : OpDecl
  pub held : slice_get sig.ops (head_number number) ≡ Some decl
  pub passed : passes decl ≡ true

-- an operation that is held and passes the test is found
pub found-held : (sig : Sig) (f : ℕ) (passes : OpDecl → Bool) → holds_of passes (slice_get sig.ops f) ≡ true
    → Found sig (Some f) passes
found-held sig f passes h = by_decl (slice_get sig.ops f) refl h
  where
    by_decl : (o : Option OpDecl) → slice_get sig.ops f ≡ o → holds_of passes o ≡ true → Found sig (Some f) passes
    by_decl None e h = cc
    by_decl (Some d) e h = record { decl = d; held = e; passed = h }

-- an operation before brackets without faults is found, and passes the test
pub found-head : (sig : Sig) (passes : OpDecl → Bool) (f : Spot) (number : Option ℕ)
    → head_faults passes f (op_at sig number) ≡ [] → Found sig number passes
found-head sig passes f None h = cc
found-head sig passes f (Some n) h = by_decl (slice_get sig.ops n) refl h
  where
    by_decl : (o : Option OpDecl) → slice_get sig.ops n ≡ o → head_faults passes f o ≡ [] → Found sig (Some n) passes
    by_decl None e h = cc
    by_decl (Some d) e h =
        record { decl = d; held = e; passed = not-false (passes d) (nil-fault_if (not (passes d)) _ f.place h) }

-- an operation between operands without faults is found, and passes the test
pub found-infix : (sig : Sig) (passes : OpDecl → Bool) (opened : Place) (sign : Spot) (number : Option ℕ)
    → arity_faults passes opened (op_at sig number) ≡ [] → sign_faults sign (op_at sig number) ≡ []
    → Found sig number passes
found-infix sig passes opened sign None h k = cc
found-infix sig passes opened sign (Some n) h k = by_decl (slice_get sig.ops n) refl h k
  where
    by_decl : (o : Option OpDecl) → slice_get sig.ops n ≡ o → arity_faults passes opened o ≡ []
        → sign_faults sign o ≡ [] → Found sig (Some n) passes
    by_decl None e h k = cc
    by_decl (Some d) e h k =
        record { decl = d; held = e; passed = not-false (passes d) (nil-fault_if (not (passes d)) _ opened h) }

-- ---- what wildcards take

-- what holds of a dot, a plus and a star holds of what underscores say
each-marked : (P : pattern.Wildcard → Type 0) → P pattern.dot → P pattern.plus → P pattern.star → (marks : ℕ)
    → P (marked_shape marks)
each-marked P dot plus star marks = by_tests (eqb marks 3) (eqb marks 2)
  where
    by_tests : (three two : Bool) → P (if three then pattern.star else (if two then pattern.plus else pattern.dot))
    by_tests true two = star
    by_tests false true = plus
    by_tests false false = dot

-- what holds besides of each count holds of what a count says
each-counted : (P : pattern.Wildcard → Type 0) → P pattern.dot → P pattern.plus → P pattern.star
    → ((n : ℕ) (b : Bool) → P (pattern.counted n b)) → (n : ℕ) (more : Bool) → P (counted_shape n more)
each-counted P dot plus star counted n more = by_tests (eqb n 1) (eqb n 0) more
  where
    by_tests : (one none more : Bool)
        → P (if one then (if more then pattern.plus else pattern.dot) else (if none && more
        then pattern.star else pattern.counted n (not more)))
    by_tests true none true = plus
    by_tests true none false = dot
    by_tests false true true = star
    by_tests false true false = counted n true
    by_tests false false true = counted n false
    by_tests false false false = counted n true

-- ---- terms

module _ (sig : Sig) where
  -- as many terms as expressions
  length-terms_of : (ts : Trees) → length (tree_list (terms_of sig ts)) ≡ length (syntax.tree_list ts)
  length-terms_of no_trees = refl
  length-terms_of (more_trees t ts) = ap suc (length-terms_of ts)

  mutual
    -- a term without faults is well formed
    pub well_formed-term_of : (t : Tree) → term_faults sig t ≡ [] → well_formed sig (term_of sig t) ≡ true
    well_formed-term_of (Symbol w) h = refl
    well_formed-term_of (Apply f args) h =
        let p = both-empty (head_faults (allows (length (syntax.tree_list args))) f (op_named sig f.text))
        (all_term_faults sig args) h in
        let d = found-head sig (allows (length (syntax.tree_list args))) f (op_number sig f.text) p.0 in
        rw (d.held, length-terms_of args, d.passed) (all_well_formed-terms_of args p.1)
    well_formed-term_of (InfixOf opened sign operands) h =
        let at_sign = sign_faults sign (op_signed sig sign.text) in
        let p = both-empty (arity_faults (allows (length (syntax.tree_list operands))) opened (op_signed sig sign.text))
        (term_operand_faults sig at_sign operands) h in
        let q = nil-term_operands sig at_sign operands p.1 in
        let d = found-infix sig (allows (length (syntax.tree_list operands))) opened sign
        (sign_number sig sign.text) p.0 q.0 in
        rw (d.held, length-terms_of operands, d.passed) (all_well_formed-terms_of operands q.1)
    well_formed-term_of (Wild w) h = absurd (some-behind (fault_if (kind_unknown sig w.kind) _ w.place) _ h)
    well_formed-term_of (Optional w others default) h = absurd (no-optional_term sig w others default h)
    well_formed-term_of (Counted w count more) h = absurd (no-counted_term sig w count more h)
    well_formed-term_of (Variable x) h = cc

    all_well_formed-terms_of : (ts : Trees) → all_term_faults sig ts ≡ [] → all_well_formed sig (terms_of sig ts) ≡ true
    all_well_formed-terms_of no_trees h = refl
    all_well_formed-terms_of (more_trees t ts) h =
        let p = both-empty (term_faults sig t) (all_term_faults sig ts) h in
        rw (well_formed-term_of t p.0) (all_well_formed-terms_of ts p.1)

  mutual
    -- a term has as many nodes as its expression
    pub node_count-term_of : (t : Tree) → node_count (term_of sig t) ≡ nodes t
    node_count-term_of (Symbol w) = refl
    node_count-term_of (Apply f args) = ap (λ n. n + 1) (node_counts-terms_of args)
    node_count-term_of (InfixOf opened sign operands) = ap (λ n. n + 1) (node_counts-terms_of operands)
    node_count-term_of (Wild w) = refl
    node_count-term_of (Optional w others default) = refl
    node_count-term_of (Counted w count more) = refl
    node_count-term_of (Variable x) = refl

    node_counts-terms_of : (ts : Trees) → node_counts (terms_of sig ts) ≡ all_nodes ts
    node_counts-terms_of no_trees = refl
    node_counts-terms_of (more_trees t ts) = omega (arith, node_count-term_of t, node_counts-terms_of ts)

  mutual
    -- a term is no deeper than its brackets
    pub depth-term_of : (room : ℕ) (t : Tree) → Fits room t → depth (term_of sig t) ≤ room
    depth-term_of room (Symbol w) h = omega arith
    depth-term_of zero (Apply f args) h = absurd h
    depth-term_of (suc room) (Apply f args) h = omega (arith, depth-terms_of room args h)
    depth-term_of zero (InfixOf opened sign operands) h = absurd h
    depth-term_of (suc room) (InfixOf opened sign operands) h = omega (arith, depth-terms_of room operands h.1)
    depth-term_of room (Wild w) h = omega arith
    depth-term_of room (Optional w others default) h = omega arith
    depth-term_of room (Counted w count more) h = omega arith
    depth-term_of room (Variable x) h = omega arith

    depth-terms_of : (room : ℕ) (ts : Trees) → AreFit room ts → greatest_depth (terms_of sig ts) ≤ room
    depth-terms_of room no_trees h = omega arith
    depth-terms_of room (more_trees t ts) h = omega (arith, depth-term_of room t h.0, depth-terms_of room ts h.1)

  -- ---- patterns

  -- what holds of a kind and of what a wildcard takes without one holds of what it takes
  by_kind : (P : pattern.Wildcard → Type 0) → ((k : ℕ) → P (pattern.kind k)) → (kind : List ℕ) (w : pattern.Wildcard)
      → P w → P (kind_shape sig kind w)
  by_kind P of_kind [] w h = h
  by_kind P of_kind (b ∷ bs) w h = of_kind (head_number (kind_number sig (b ∷ bs)))

  mutual
    -- a pattern is no deeper than its brackets, with those of its defaults
    pub depth-pattern_of : (room : ℕ) (p : Tree) → Fits room p → pattern_depth (pattern_of sig p) ≤ room
    depth-pattern_of room (Symbol w) h = omega arith
    depth-pattern_of zero (Apply f args) h = absurd h
    depth-pattern_of (suc room) (Apply f args) h = omega (arith, depth-patterns_of room args h)
    depth-pattern_of zero (InfixOf opened sign operands) h = absurd h
    depth-pattern_of (suc room) (InfixOf opened sign operands) h = omega (arith, depth-patterns_of room operands h.1)
    depth-pattern_of room (Wild w) h = by_kind (λ v. wildcard_depth v ≤ room) (λ k. omega arith) w.kind
        (marked_shape w.marks) (each-marked (λ v. wildcard_depth v ≤ room) (omega arith) (omega arith) (omega arith)
        w.marks)
    depth-pattern_of room (Counted w count more) h = by_kind (λ v. wildcard_depth v ≤ room) (λ k. omega arith) w.kind
        (counted_shape (count_of count) more) (each-counted (λ v. wildcard_depth v ≤ room) (omega arith) (omega arith)
        (omega arith) (λ n b. omega arith) (count_of count) more)
    depth-pattern_of room (Optional w others default) h =
        omega (
          arith,
          depth-normal sig (term_of sig default),
          depth-term_of room default
              (fits-optional room w others default h).2,
        )
    depth-pattern_of room (Variable x) h = omega arith

    depth-patterns_of : (room : ℕ) (ps : Trees) → AreFit room ps → greatest_pattern_depth (patterns_of sig ps) ≤ room
    depth-patterns_of room no_trees h = omega arith
    depth-patterns_of room (more_trees p ps) h =
        omega (arith, depth-pattern_of room p h.0, depth-patterns_of room ps h.1)

  -- ---- what normalising asks for

  mutual
    -- the defaults of a pattern are normal
    pub defaults-pattern_of : (p : Tree) → DefaultsAreNormal sig (pattern_of sig p)
    defaults-pattern_of (Symbol w) = tt
    defaults-pattern_of (Apply f args) = defaults-patterns_of args
    defaults-pattern_of (InfixOf opened sign operands) = defaults-patterns_of operands
    defaults-pattern_of (Wild w) = by_kind (DefaultIsNormal sig) (λ k. tt) w.kind (marked_shape w.marks)
        (each-marked (DefaultIsNormal sig) tt tt tt w.marks)
    defaults-pattern_of (Counted w count more) = by_kind (DefaultIsNormal sig) (λ k. tt) w.kind
        (counted_shape (count_of count) more)
        (each-counted (DefaultIsNormal sig) tt tt tt (λ n b. tt) (count_of count) more)
    defaults-pattern_of (Optional w others default) = normal-normal sig (term_of sig default)
    defaults-pattern_of (Variable x) = tt

    defaults-patterns_of : (ps : Trees) → AllEachWildcard (DefaultIsNormal sig) (patterns_of sig ps)
    defaults-patterns_of no_trees = tt
    defaults-patterns_of (more_trees p ps) = (defaults-pattern_of p, defaults-patterns_of ps)

  mutual
    -- the operations of a pattern without faults are held
    pub holds_ops-pattern_of : (before : List PatternWildcard) (p : Tree) → pattern_faults sig before p ≡ []
        → holds_ops sig (pattern_of sig p) ≡ true
    holds_ops-pattern_of before (Symbol w) h = refl
    holds_ops-pattern_of before (Apply f args) h =
        let p = both-empty (head_faults (allows_args sig args) f (op_named sig f.text))
        (all_pattern_faults sig before args) h in
        rw ((found-head sig (allows_args sig args) f (op_number sig f.text) p.0).held)
        (all_hold_ops-patterns_of before args p.1)
    holds_ops-pattern_of before (InfixOf opened sign operands) h =
        let at_sign = sign_faults sign (op_signed sig sign.text) in
        let p = both-empty (arity_faults (allows_args sig operands) opened (op_signed sig sign.text))
        (pattern_operand_faults sig before at_sign operands) h in
        let q = nil-pattern_operands sig before at_sign operands p.1 in
        rw ((found-infix sig (allows_args sig operands) opened sign (sign_number sig sign.text) p.0 q.0).held)
        (all_hold_ops-patterns_of before operands q.1)
    holds_ops-pattern_of before (Wild w) h = refl
    holds_ops-pattern_of before (Optional w others default) h = refl
    holds_ops-pattern_of before (Counted w count more) h = refl
    holds_ops-pattern_of before (Variable x) h = refl

    all_hold_ops-patterns_of : (before : List PatternWildcard) (ps : Trees) → all_pattern_faults sig before ps ≡ []
        → all_hold_ops sig (patterns_of sig ps) ≡ true
    all_hold_ops-patterns_of before no_trees h = refl
    all_hold_ops-patterns_of before (more_trees p ps) h =
        let q = both-empty (pattern_faults sig before p)
        (all_pattern_faults sig (before ++ pattern_wildcards sig p) ps) h in
        rw (holds_ops-pattern_of before p q.0) (all_hold_ops-patterns_of (before ++ pattern_wildcards sig p) ps q.1)

  -- ---- symbols

  -- a word without faults is a symbol
  pub IsSymbol-symbol_faults : (w : Spot) → IsName w.text → symbol_faults sig w ≡ [] → IsSymbol sig w.text
  IsSymbol-symbol_faults w name h =
      record {
        name = is_name-IsName w.text name;
        free = sym (is_some-position (has_name w.text) sig.ops)
            ∙ nil-fault_if (is_some (op_number sig w.text)) _ w.place h;
      }

  mutual
    -- the symbols of a term without faults
    pub HasSymbols-term_of : (t : Tree) → HasNames t → term_faults sig t ≡ [] → HasSymbols sig (term_of sig t)
    HasSymbols-term_of (Symbol w) names h = IsSymbol-symbol_faults w names h
    HasSymbols-term_of (Apply f args) names h =
        HaveSymbols-terms_of args names.1
        (both-empty (head_faults (allows (length (syntax.tree_list args))) f (op_named sig f.text))
        (all_term_faults sig args) h).1
    HasSymbols-term_of (InfixOf opened sign operands) names h =
        let at_sign = sign_faults sign (op_signed sig sign.text) in
        let p = both-empty (arity_faults (allows (length (syntax.tree_list operands))) opened (op_signed sig sign.text))
        (term_operand_faults sig at_sign operands) h in
        HaveSymbols-terms_of operands names.1 (nil-term_operands sig at_sign operands p.1).1
    HasSymbols-term_of (Wild w) names h = absurd (some-behind (fault_if (kind_unknown sig w.kind) _ w.place) _ h)
    HasSymbols-term_of (Optional w others default) names h = absurd (no-optional_term sig w others default h)
    HasSymbols-term_of (Counted w count more) names h = absurd (no-counted_term sig w count more h)
    HasSymbols-term_of (Variable x) names h = cc

    HaveSymbols-terms_of : (ts : Trees) → HaveNames ts → all_term_faults sig ts ≡ [] → HaveSymbols sig (terms_of sig ts)
    HaveSymbols-terms_of no_trees names h = tt
    HaveSymbols-terms_of (more_trees t ts) names h =
        let p = both-empty (term_faults sig t) (all_term_faults sig ts) h in
        (HasSymbols-term_of t names.0 p.0, HaveSymbols-terms_of ts names.1 p.1)

  -- ---- wildcards

  -- a kind that is known is held
  sound-kind : (kind : List ℕ) (w : pattern.Wildcard) → IsSoundWildcard sig w → kind_unknown sig kind ≡ false
      → IsSoundWildcard sig (kind_shape sig kind w)
  sound-kind [] w plain h = plain
  sound-kind (b ∷ bs) w plain h = held-position (bytes_eq (b ∷ bs)) (kind_names sig) h

  -- a count without faults is none of the counts that have other names, and no large one
  sound-counted : (count : Spot) (more : Bool) → count_faults count more ≡ []
      → IsSoundWildcard sig (counted_shape (count_of count) more)
  sound-counted count more h = go (eqb (count_of count) 1) (eqb (count_of count) 0) more refl refl p.1
    where
      no-fault : fault_if true BadCount count.place ≡ [] → ⊥
      no-fault k = cc

      p : (fault_if (nat_lt MAX_COUNT (number_of count.text)) TooMany count.place ≡ [])
          × (fault_if (eqb (number_of count.text) 0 && not more) BadCount count.place ≡ [])
      p = both-empty (fault_if (nat_lt MAX_COUNT (number_of count.text)) TooMany count.place)
          (fault_if (eqb (number_of count.text) 0 && not more) BadCount count.place) h

      few : number_of count.text ≤ MAX_COUNT
      few = ltb-false MAX_COUNT (number_of count.text)
          (nil-fault_if (nat_lt MAX_COUNT (number_of count.text)) TooMany count.place p.0)

      same : count_of count ≡ number_of count.text
      same = omega (arith, few)

      two : (n : ℕ) → eqb n 1 ≡ false → eqb n 0 ≡ false → 2 ≤ n
      two zero e f = cc
      two (suc zero) e f = cc
      two (suc (suc n)) e f = omega arith

      go : (one none : Bool) (more : Bool) → eqb (count_of count) 1 ≡ one → eqb (count_of count) 0 ≡ none
          → fault_if (eqb (number_of count.text) 0 && not more) BadCount count.place ≡ []
          → IsSoundWildcard sig (if one then (if more then pattern.plus else pattern.dot) else (if none && more then
          pattern.star else pattern.counted (count_of count) (not more)))
      go true none true e f k = tt
      go true none false e f k = tt
      go false true true e f k = tt
      go false true false e f k =
          absurd (no-fault (sym (ap (λ n. fault_if (eqb n 0 && true) BadCount count.place) (sym same)
          ∙ ap (λ b. fault_if (b && true) BadCount count.place) f) ∙ k))
      go false false true e f k = (two (count_of count) e f, omega (arith, same, few))
      go false false false e f k = (two (count_of count) e f, omega (arith, same, few))

  IsVariable-variable_of : (x : List ℕ) → (x ≢ [] → IsName x) → IsVariable sig (variable_of x)
  IsVariable-variable_of [] h = tt
  IsVariable-variable_of (b ∷ bs) h = is_name-IsName (b ∷ bs) (h (λ none. cc))

  -- the kind of a wildcard without faults is known
  known-wildcard_faults : (before : List PatternWildcard) (w : PatternWildcard) → wildcard_faults sig before w ≡ []
      → kind_unknown sig w.wildcard.kind ≡ false
  known-wildcard_faults before w h =
      nil-fault_if (kind_unknown sig w.wildcard.kind) _ w.wildcard.place
      (both-empty (fault_if (kind_unknown sig w.wildcard.kind) _ w.wildcard.place)
      (fault_if (list_any (differs w) before) _ w.wildcard.place) h).0

  pub pattern_list-patterns_of : (ps : Trees)
      → map (pattern_of sig) (syntax.tree_list ps) ≡ pattern.pattern_list (patterns_of sig ps)
  pattern_list-patterns_of no_trees = refl
  pattern_list-patterns_of (more_trees p ps) = ap (λ l. pattern_of sig p ∷ l) (pattern_list-patterns_of ps)

  -- an operation that is found allows the arguments of its pattern
  allowed-found : (number : Option ℕ) (ps : Trees) → Found sig number (allows_args sig ps)
      → holds_of (allows_patterns (pattern.pattern_list (patterns_of sig ps))) (slice_get sig.ops (head_number number))
      ≡ true
  allowed-found number ps d = ap (holds_of (allows_patterns (pattern.pattern_list (patterns_of sig ps)))) d.held
      ∙ ap (λ l. allows_patterns l d.decl) (sym (pattern_list-patterns_of ps)) ∙ d.passed

  -- ---- formed patterns

  module _ (ordered : all_in_order sig.ops ≡ true) where
    -- the normal form of a term without faults
    pub sound-term_of : (most : ℕ) (t : Tree) → HasNames t → term_faults sig t ≡ [] → nodes t ≤ most
        → IsSoundTerm sig most (normal sig (term_of sig t))
    sound-term_of most t names h few = record {
      normal = normal-normal sig (term_of sig t);
      formed = wf-normal sig ordered (term_of sig t) (well_formed-term_of t h);
      symbols = HasSymbols-normal sig (term_of sig t) (HasSymbols-term_of t names h);
      few_nodes = omega (arith, node_count-normal sig (term_of sig t), node_count-term_of t);
    }

    mutual
      -- the pattern of an expression without faults
      pub IsFormed-pattern_of : (before : List PatternWildcard) (p : Tree) → HasNames p → has_large_default p ≡ false
          → pattern_faults sig before p ≡ [] → IsFormed sig (pattern_of sig p)
      IsFormed-pattern_of before (Symbol w) names small h = IsSymbol-symbol_faults w names h
      IsFormed-pattern_of before (Apply f args) names small h =
          let p = both-empty (head_faults (allows_args sig args) f (op_named sig f.text))
          (all_pattern_faults sig before args) h in (
            allowed-found (op_number sig f.text) args
                (found-head sig (allows_args sig args) f (op_number sig f.text) p.0),
            AreFormed-patterns_of before args
                names.1 small p.1,
          )
      IsFormed-pattern_of before (InfixOf opened sign operands) names small h =
          let at_sign = sign_faults sign (op_signed sig sign.text) in
          let p = both-empty (arity_faults (allows_args sig operands) opened (op_signed sig sign.text))
          (pattern_operand_faults sig before at_sign operands) h in
          let q = nil-pattern_operands sig before at_sign operands p.1 in (
            allowed-found (sign_number sig sign.text) operands
                (found-infix sig (allows_args sig operands) opened sign (sign_number sig sign.text) p.0 q.0),
            AreFormed-patterns_of before operands names.1 small q.1,
          )
      IsFormed-pattern_of before (Wild w) names small h = (
        sound-kind w.kind (marked_shape w.marks) (each-marked (IsSoundWildcard sig) tt tt tt w.marks)
            (known-wildcard_faults before (without_default w) h),
        IsVariable-variable_of w.name
            names.name,
      )
      IsFormed-pattern_of before (Counted w count more) names small h =
          let p = both-empty (wildcard_faults sig before (with_count w count more)) (count_faults count more) h in (
            sound-kind w.kind (counted_shape (count_of count) more) (sound-counted count more p.1)
                (known-wildcard_faults before (with_count w count more) p.0),
            IsVariable-variable_of w.name names.0.name,
          )
      IsFormed-pattern_of before (Optional w others default) names small h =
          let p = both-empty (wildcard_faults sig before (with_default_form sig w others default))
          (default_faults sig others default) h in
          let q = both-empty (flat_map (term_wildcard_faults sig) others) (term_faults sig default) p.1 in
          let few : nodes default ≤ MAX_DEFAULT_NODES =
          ltb-false MAX_DEFAULT_NODES (nodes default)
          (or_parts (ltb MAX_DEFAULT_NODES (nodes default)) (has_large_default default) small).0 in
          (sound-term_of MAX_DEFAULT_NODES default names.2 q.1 few, IsVariable-variable_of w.name names.0.name)
      IsFormed-pattern_of before (Variable x) names small h = cc

      AreFormed-patterns_of : (before : List PatternWildcard) (ps : Trees) → HaveNames ps
          → some_large_default ps ≡ false → all_pattern_faults sig before ps ≡ [] → AreFormed sig (patterns_of sig ps)
      AreFormed-patterns_of before no_trees names small h = tt
      AreFormed-patterns_of before (more_trees p ps) names small h =
          let q = both-empty (pattern_faults sig before p)
          (all_pattern_faults sig (before ++ pattern_wildcards sig p) ps) h in
          let o = or_parts (has_large_default p) (some_large_default ps) small in (
            IsFormed-pattern_of before p names.0 o.0 q.0,
            AreFormed-patterns_of
                (before ++ pattern_wildcards sig p) ps names.1 o.1 q.1,
          )

  -- a pattern that isn't loose doesn't become it in its normal form
  is_loose-normal_pattern : (p : pattern.Pattern) → is_loose p ≡ false → is_loose (normal_pattern sig p) ≡ false
  is_loose-normal_pattern (pattern.symbol_pattern n) h = refl
  is_loose-normal_pattern (pattern.app_pattern f ps) h =
      is_loose-collapsed sig f (in_order sig f (flattened sig f (normal_patterns sig ps)))
  is_loose-normal_pattern (pattern.wild_pattern w x) h = h

  -- a pattern that doesn't stand alone as a plus, star or optional wildcard isn't loose
  pub is_loose-loose_faults : (p : Tree) → loose_faults p ≡ [] → is_loose (pattern_of sig p) ≡ false
  is_loose-loose_faults (Symbol w) h = refl
  is_loose-loose_faults (Apply f args) h = refl
  is_loose-loose_faults (InfixOf opened sign operands) h = refl
  is_loose-loose_faults (Optional w others default) h = cc
  is_loose-loose_faults (Variable x) h = refl
  is_loose-loose_faults (Wild w) h = by_kind (λ v. pattern.is_loose v ≡ false) (λ k. refl) w.kind (marked_shape w.marks)
      (nil-fault_if (pattern.is_loose (marked_shape w.marks)) _ w.place h)
  is_loose-loose_faults (Counted w count more) h =
      by_kind (λ v. pattern.is_loose v ≡ false) (λ k. refl) w.kind (counted_shape (count_of count) more)
      (nil-fault_if (pattern.is_loose (counted_shape (count_of count) more)) _ w.place h)

  mutual
    -- a pattern has as many nodes as its expression
    pub pattern_nodes-pattern_of : (p : Tree) → pattern_nodes (pattern_of sig p) ≡ nodes p
    pattern_nodes-pattern_of (Symbol w) = refl
    pattern_nodes-pattern_of (Apply f args) = ap (λ n. n + 1) (all_pattern_nodes-patterns_of args)
    pattern_nodes-pattern_of (InfixOf opened sign operands) = ap (λ n. n + 1) (all_pattern_nodes-patterns_of operands)
    pattern_nodes-pattern_of (Wild w) = refl
    pattern_nodes-pattern_of (Optional w others default) = refl
    pattern_nodes-pattern_of (Counted w count more) = refl
    pattern_nodes-pattern_of (Variable x) = refl

    all_pattern_nodes-patterns_of : (ps : Trees) → all_pattern_nodes (patterns_of sig ps) ≡ all_nodes ps
    all_pattern_nodes-patterns_of no_trees = refl
    all_pattern_nodes-patterns_of (more_trees p ps) =
        omega (arith, pattern_nodes-pattern_of p, all_pattern_nodes-patterns_of ps)

  -- the names of the uses of one wildcard
  names-wild : (f : Option ℕ) (w : pattern.Wildcard) (name : List ℕ)
      → map (λ u. u.name) (uses f (pattern.wild_pattern w (variable_of name))) ≡ named name
  names-wild f w [] = refl
  names-wild f w (b ∷ bs) = refl

  mutual
    -- the variables that a pattern uses are the names of its wildcards
    names-uses : (f : Option ℕ) (p : Tree)
        → map (λ u. u.name) (uses f (pattern_of sig p)) ≡ names_of (pattern_variables p)
    names-uses f (Symbol w) = refl
    names-uses f (Apply g args) = names-all_uses (Some (head_number (op_number sig g.text))) args
    names-uses f (InfixOf opened sign operands) =
        names-all_uses (Some (head_number (sign_number sig sign.text))) operands
    names-uses f (Wild w) = names-wild f (shape_of sig w) w.name ∙ sym (append-nil (named w.name))
    names-uses f (Optional w others default) = names-wild f (pattern.optional (normal sig (term_of sig default))) w.name
        ∙ sym (append-nil (named w.name))
    names-uses f (Counted w count more) = names-wild f (counted_shape_of sig w count more) w.name
        ∙ sym (append-nil (named w.name))
    names-uses f (Variable x) = refl

    names-all_uses : (f : Option ℕ) (ps : Trees)
        → map (λ u. u.name) (all_uses f (patterns_of sig ps)) ≡ names_of (all_pattern_variables ps)
    names-all_uses f no_trees = refl
    names-all_uses f (more_trees p ps) =
        map-append (λ u. u.name) (uses f (pattern_of sig p)) (all_uses f (patterns_of sig ps))
        ∙ (λ i. names-uses f p i ++ names-all_uses f ps i)
        ∙ sym (flat_map-append (λ (v : scope.Variable). named v.name) (pattern_variables p) (all_pattern_variables ps))

-- ---- names that differ

-- the same test knows the same items
pub is_known-alike : (p q : List ℕ → List ℕ → Bool) → ((a b : List ℕ) → p a b ≡ q a b)
    → (ys : List (List ℕ)) (x : List ℕ) → is_known p ys x ≡ is_known q ys x
is_known-alike p q same [] x = refl
is_known-alike p q same (y ∷ ys) x = λ i. same y x i || is_known-alike p q same ys x i

-- the same test finds the same first items
pub firsts_after-alike : (p q : List ℕ → List ℕ → Bool) → ((a b : List ℕ) → p a b ≡ q a b) → (ys xs : List (List ℕ))
    → firsts_after p ys xs ≡ firsts_after q ys xs
firsts_after-alike p q same ys [] = refl
firsts_after-alike p q same ys (x ∷ xs) =
    ap (λ l. firsts_after p l xs) (ap (λ b. if b then ys else ys ++ x ∷ []) (is_known-alike p q same ys x))
    ∙ firsts_after-alike p q same (add_new q ys x) xs

-- the variables of a pattern are those of its expression
pub variables-pattern_of : (sig : Sig) (p : Tree) → variables (pattern_of sig p) ≡ variable_names p
variables-pattern_of sig p = ap (firsts_after same_name []) (names-uses sig None p)
    ∙ firsts_after-alike same_name bytes_eq is_eq-slice_cmp [] (names_of (pattern_variables p))

-- another name behind all of them
list_all-push : (p : List ℕ → Bool) (ns : List (List ℕ)) (n : List ℕ) → list_all p ns ≡ true → p n ≡ true
    → list_all p (ns ++ n ∷ []) ≡ true
list_all-push p [] n h k = rw k refl
list_all-push p (m ∷ ns) n h k = and_from (p m) (list_all p (ns ++ n ∷ [])) (first-of (p m) (list_all p ns) h)
    (list_all-push p ns n (second-of (p m) (list_all p ns) h) k)

-- a name that is none of the names, which differ
pub are_distinct-push : (ns : List (List ℕ)) (n : List ℕ) → are_distinct ns ≡ true → is_among n ns ≡ false
    → are_distinct (ns ++ n ∷ []) ≡ true
are_distinct-push [] n h k = refl
are_distinct-push (m ∷ ns) n h k =
    let o = or_parts (bytes_eq m n) (is_among n ns) k in
    let p = first-of (list_all (λ x. not (bytes_eq x m)) ns) (are_distinct ns) h in
    let q = second-of (list_all (λ x. not (bytes_eq x m)) ns) (are_distinct ns) h in
    and_from (list_all (λ x. not (bytes_eq x m)) (ns ++ n ∷ [])) (are_distinct (ns ++ n ∷ []))
    (list_all-push (λ x. not (bytes_eq x m)) ns n p (ap not (bytes_eq_comm n m ∙ o.0))) (are_distinct-push ns n q o.1)

-- ---- statements

-- what the name of a statement without faults shows
pub record Named (most : ℕ) (earlier : List (List ℕ)) (large : Bool) (name : Spot) : Type 0 where
  pub other : is_among name.text earlier ≡ false
  pub few : length earlier < most
  pub small : large ≡ false

-- a name without faults
pub named-by : (most : ℕ) (earlier : List (List ℕ)) (large : Bool) (name : Spot)
    → name_faults most earlier large name ≡ [] → Named most earlier large name
named-by most earlier large name h =
    let p = both-empty (fault_if (is_among name.text earlier) _ name.place)
    (fault_if (leb most (length earlier) || large) _ name.place) h in
    let o = or_parts (leb most (length earlier)) large
    (nil-fault_if (leb most (length earlier) || large) _ name.place p.1) in
    record {
      other = nil-fault_if (is_among name.text earlier) _ name.place p.0;
      few = leb-false most (length earlier) o.0;
      small = o.1;
    }

-- the normal form of a pattern without faults
pub sound-pattern : (sig : Sig) → all_in_order sig.ops ≡ true → (p : Tree) → HasNames p → is_large_pattern p ≡ false
    → whole_pattern_faults sig p ≡ [] → Fits MAX_DEPTH p → IsSoundPattern sig (normal_pattern sig (pattern_of sig p))
sound-pattern sig ordered p names small none fits =
    let o = or_parts (ltb MAX_PATTERN_NODES (nodes p))
    (ltb MAX_VARIABLES (length (variable_names p)) || has_large_default p) small in
    let l = or_parts (ltb MAX_VARIABLES (length (variable_names p))) (has_large_default p) o.1 in
    let q = both-empty (loose_faults p) (pattern_faults sig [] p) none in
    let nodes_few : nodes p ≤ MAX_PATTERN_NODES = ltb-false MAX_PATTERN_NODES (nodes p) o.0 in
    let names_few : length (variable_names p) ≤ MAX_VARIABLES =
    ltb-false MAX_VARIABLES (length (variable_names p)) l.0 in
    record {
      normal = normal_pattern-normal_pattern sig (pattern_of sig p);
      formed = IsFormed-normal_pattern sig ordered (pattern_of sig p)
          (IsFormed-pattern_of sig ordered [] p names l.1 q.1);
      plain_root = is_loose-normal_pattern sig (pattern_of sig p) (is_loose-loose_faults sig p q.0);
      no_clash = first_clash-normal_pattern sig (pattern_of sig p) (first_clash-pattern_of sig p q.1);
      few_nodes = omega (arith, pattern_nodes-normal_pattern sig (pattern_of sig p), pattern_nodes-pattern_of sig p);
      few_variables =
          omega (
            arith,
            length_permutation (variables (pattern_of sig p))
                (variables (normal_pattern sig (pattern_of sig p)))
                (IsPermutation-variables sig (pattern_of sig p)),
            ap length (variables-pattern_of sig p),
          );
      shallow =
          omega (arith, pattern_depth-normal_pattern sig (pattern_of sig p), depth-pattern_of sig MAX_DEPTH p fits);
    }
