-- What a walk over a program that may be run gives: the pairs that the program accepts.
use Rattle.std.proofs.Common.{◌≡◌, ℕ, suc, ◌+◌, ◌<◌, ◌≤◌, List, [], ◌∷◌, ◌++◌, map, length, drop}
use Rattle.std.proofs.Common.{Bool, true, false, refl, ap, sym, ◌∙◌, ◌⊎◌, inl, inr, subst, arith}
use Rattle.std.specs.Prelude.{◌↔◌, ◌&&◌, Contains, Option, Some, None, IsSome, IfSome, IsSomeAnd, slice_get}
use Rattle.std.specs.Prelude.{nat_eq, flat_map, option_map}
use Rattle.std.specs.List.{AllByRecursion, list_all}
use Rattle.std.specs.Option.{option_map_or}
use Rattle.std.proofs.lemmas.Bool.{and_parts, eqb-true}
use Rattle.mp_term.specs.Listing.{In, IsListing}
use Rattle.mp_term.specs.Signature.{Sig}
use Rattle.mp_term.specs.Size.{node_count}
use Rattle.mp_term.specs.Tree.{Tree}
use Rattle.mp_term.proofs.ListLaws.{all-also}
use Rattle.mp_term.proofs.ListingLaws.{all_in, contains-from_in, in-from_contains}
use Rattle.mp_term.proofs.SearchLaws.{all-from_in, from_in-append, in-left, in-right}
use Rattle.mp_pattern.specs.declared.limits.TheConstants.{MAX_TERM_NODES, MAX_VARIABLES}
use Rattle.mp_pattern.specs.Admission.{meets}
use Rattle.mp_pattern.specs.CondTree.{Operand, var, ground, Cond}
use Rattle.mp_pattern.specs.Firsts.{is_known}
use Rattle.mp_pattern.specs.Fits.{Table, Fits}
use Rattle.mp_pattern.specs.Holds.{holds}
use Rattle.mp_pattern.specs.Limits.{DefaultIsSmall}
use Rattle.mp_pattern.specs.Lists.{Pair}
use Rattle.mp_pattern.specs.Operands.{operands, IsOperandOver, IsConditionOver}
use Rattle.mp_pattern.specs.PatternTree.{Pattern}
use Rattle.mp_pattern.specs.Value.{Binding, Subst, same_name}
use Rattle.mp_pattern.specs.Variables.{variables}
use Rattle.mp_pattern.proofs.PlanParts.{plan_fault-parts}
use Rattle.mp_cond.specs.Ready.{AreCountable, IsCountable, IsReady}
use Rattle.mp_cond.proofs.ReadyLaws.{IsReady-over}
use Rattle.mp_theory.specs.ValueSizes.{HasAtMost}
use Rattle.mp_theory.proofs.ValueSizes.{fits-within}
use Rattle.mp_search.proofs.NumberLaws.{in-slice_get}
use Rattle.mp_walk.specs.CodeForest.{code_forest}
use Rattle.mp_walk.specs.Forests.{lists}
use Rattle.mp_walk.specs.Found.{found_cmp, names_of}
use Rattle.mp_walk.specs.Instrs.{Instr, accepts_at}
use Rattle.mp_walk.specs.NamedItems.{with_names}
use Rattle.mp_walk.specs.Walkable.{Path, StandsFor, numbered_names}
use Rattle.mp_walk.specs.WalkItems.{IsLeafItem, AreLeafItems}
use Rattle.mp_walk.proofs.NamedLaws.{IsNamedSubst}
use Rattle.mp_walk.proofs.CodePaths.{leaf-whole}
use Rattle.mp_walk.proofs.FoundLaws.{ascending-pairs}
use Rattle.mp_program.specs.Program.{ProgramRule, Program}
use Rattle.mp_program.specs.TokenPaths.{operand_names, cond_names, path_variables, suits_test, test_of}
use Rattle.mp_walk.proofs.NumberedNames.{length-numbered_names}
use Rattle.mp_program.proofs.PathLaws.{variables-path}
use Rattle.mp_vm.specs.ProgramList.{IsGivenBy, IsProgramPair, IsProgramList, IsAcceptedAt, IsTestedBy}
use Rattle.mp_vm.specs.ProgramList.{IsPairOf}
use Rattle.mp_vm.specs.Runnable.{IsSmallOperand, HasSmallOperands, IsRunnable}
use Rattle.mp_vm.proofs.WholePaths.{each-path}

-- the rule of a pair that is given is that of its number
pub same-rule : (sig : Sig) (p : Program) (t : Tree) (i : ℕ × Table) (n : ℕ) (r : ProgramRule)
    → slice_get p.rules n ≡ Some r → (q : Pair) → q.0 ≡ n → (g : IsGivenBy sig p t i.0 i.1 q) → g.rule ≡ r
same-rule sig p t i n r held q e g =
    let w : Some g.rule ≡ Some r = sym g.numbered ∙ ap (slice_get p.rules) e ∙ held in cc

-- ---- names

-- the names of a substitution call its values by themselves
pub own-names : (s : Subst) (xs : List (List ℕ)) → map (λ (b : Binding). b.name) s ≡ xs → with_names xs s ≡ s
own-names s xs e = subst (λ ys. with_names ys s ≡ s) e (own s)
  where
    own : (s : Subst) → with_names (map (λ (b : Binding). b.name) s) s ≡ s
    own [] = refl
    own (b ∷ s) = ap (λ l. b ∷ l) (own s)

-- as many names as values are those of what they call
names-of_named : (xs : List (List ℕ)) (s : Subst) → length xs ≡ length s → names_of (with_names xs s) ≡ xs
names-of_named [] s e = refl
names-of_named (x ∷ xs) [] e = absurd (omega (arith, e))
names-of_named (x ∷ xs) (b ∷ s) e = ap (λ l. x ∷ l) (names-of_named xs s (omega (arith, e)))

-- operands that are known and small
over-operands : (xs : List (List ℕ)) (os : List Operand)
    → list_all (is_known same_name xs) (flat_map operand_names os) ≡ true → AllByRecursion IsSmallOperand os
    → AllByRecursion (IsOperandOver xs) os
over-operands xs [] h k = tt
over-operands xs (var x ∷ os) h k =
    let p = and_parts (is_known same_name xs x) _ h in (p.0, over-operands xs os p.1 k.1)
over-operands xs (ground t ∷ os) h k = (k.0, over-operands xs os h k.1)

-- a test is one of the tests
test-among : (tests : List Cond) (o : Option ℕ) (c : Cond) → test_of tests o ≡ Some c → In c tests
test-among tests None c e = cc
test-among tests (Some n) c e = in-slice_get tests n c e

-- ---- what is found

module _ (sig : Sig) (p : Program) (t : Tree) where
  -- the pair is of one of these rules of the item
  abbrev pub IsOf : Option (ℕ × Table) → List ℕ → Pair → Type 0
  IsOf item ns q = IsSomeAnd item (λ i. In q.0 ns × IsGivenBy sig p t i.0 i.1 q)

  -- those were added
  abbrev pub HasAdded : List Pair → List Pair → Option (ℕ × Table) → List ℕ → Type 0
  HasAdded old new item ns = (q : Pair) → Contains new q ↔ (Contains old q ⊎ IsOf item ns q)

  -- what was found is accepted, and what is accepted was found or is given by an item to come
  pub record HasFound (found : List Pair) (to_come : List (ℕ × Table)) : Type 0 where
    pub sound : (q : Pair) → Contains found q → IsProgramPair sig p t q
    pub complete : (q : Pair) → IsProgramPair sig p t q → Contains found q
        ⊎ ((i : ℕ × Table) × In i to_come × In q.0 (accepts_at p.code i.0) × IsGivenBy sig p t i.0 i.1 q)
    pub items : AllByRecursion (IsLeafItem sig p.code t) to_come

module _ (sig : Sig) (p : Program) (run : IsRunnable sig p) where
  -- the path leads to the leaf
  abbrev Leads : ℕ → Path → Type 0
  Leads leaf path = In {X = ℕ × Path} (leaf, path) (lists (code_forest p.code))

  -- ---- the rules of a leaf

  suits : (leaf n : ℕ) (r : ProgramRule) (path : Path) → In n (accepts_at p.code leaf) → slice_get p.rules n ≡ Some r
      → Leads leaf path
      → (length r.vars ≡ length (path_variables path)) × (suits_test path (test_of p.tests r.test) ≡ true)
  suits leaf n r path accepts held leads =
      let all : (nat_eq (length r.vars) (length (path_variables path)) && suits_test path (test_of p.tests r.test))
      ≡ true =
      sym (ap (λ o. option_map_or (λ (q : ProgramRule). nat_eq (length q.vars) (length (path_variables path))
      && suits_test path (test_of p.tests q.test)) o false) held) ∙ run.accepted leaf n path leads accepts in
      let h = and_parts (nat_eq (length r.vars) (length (path_variables path))) _ all in
      (eqb-true (length r.vars) (length (path_variables path)) h.0, h.1)

  -- it is there
  pub rule-there : (leaf n : ℕ) (path : Path) → In n (accepts_at p.code leaf) → Leads leaf path
      → slice_get p.rules n ≡ None → ⊥
  rule-there leaf n path accepts leads none =
      let wrong : false ≡ true = sym (ap (λ o. option_map_or (λ (q : ProgramRule). nat_eq (length q.vars)
      (length (path_variables path)) && suits_test path (test_of p.tests q.test)) o false) none)
      ∙ run.accepted leaf n path leads accepts in cc

  -- it has as many variables as each pattern of the path
  pub rule-count : (leaf n : ℕ) (r : ProgramRule) (path : Path) (q : Pattern) → In n (accepts_at p.code leaf)
      → slice_get p.rules n ≡ Some r → Leads leaf path → StandsFor sig path q → length (variables q) ≡ length r.vars
  rule-count leaf n r path q accepts held leads stands =
      ap length (sym (variables-path sig path q stands)) ∙ sym (suits leaf n r path accepts held leads).0

  -- which are few
  pub rule-few : (leaf n : ℕ) (r : ProgramRule) (path : Path) → In n (accepts_at p.code leaf)
      → slice_get p.rules n ≡ Some r → Leads leaf path → length r.vars ≤ MAX_VARIABLES
  rule-few leaf n r path accepts held leads =
      let w = leaf-whole sig p.code run.walkable leaf path leads in
      omega (
        arith,
        rule-count leaf n r path w.pattern accepts held leads w.stands,
        (plan_fault-parts w.pattern w.planned).few_variables,
      )

  -- ---- substitutions

  module _ (t : Tree) (few : node_count t ≤ MAX_TERM_NODES) (leaf n : ℕ) (r : ProgramRule)
      (accepts : In n (accepts_at p.code leaf)) (held : slice_get p.rules n ≡ Some r) (path : Path)
      (leads : Leads leaf path) (q : Pattern) (stands : StandsFor sig path q) (s : Subst) (T : Table)
      (fits : Fits sig q t s T) where
    -- the substitution is ready for the rule's test
    pub test-ready : (c : Cond) → test_of p.tests r.test ≡ Some c → IsReady s c
    test-ready c e =
        let small = each-path sig path q stands DefaultIsSmall (run.defaults leaf path leads) in
        let within = fits-within sig (MAX_TERM_NODES + 1) (omega arith) q t s T small (omega (arith, few)) fits in
        let countable : AreCountable s =
        all-also (λ b. HasAtMost (MAX_TERM_NODES + 1) b.value) (λ b. IsCountable b.value) (λ b k. omega (arith, k)) s
        within in
        let suited : suits_test path (Some c) ≡ true = subst (λ o. suits_test path o ≡ true) e
        (suits leaf n r path accepts held leads).1 in
        let known = (and_parts (list_all (is_known same_name (path_variables path)) (cond_names c)) _ suited).0 in
        let own : path_variables path ≡ map (λ (b : Binding). b.name) s =
        variables-path sig path q stands ∙ sym fits.subst_of.names in
        IsReady-over s c (subst (λ xs. IsConditionOver xs c) own (over-operands (path_variables path) (operands c) known
        (all_in HasSmallOperands p.tests c run.operands (test-among p.tests r.test c e)))) countable

    -- with the names of numbers it is the same
    pub numbered-same : (u : Subst) → IsNamedSubst sig p.code t (numbered_names (length r.vars)) u (leaf, T) → u ≡ s
    numbered-same u named =
        let count = rule-count leaf n r path q accepts held leads stands in
        let reached : In {X = ℕ × Path} (leaf, _) (lists (code_forest p.code)) =
        subst (λ ks. In {X = ℕ × Path} (leaf, ks) (lists (code_forest p.code))) (sym stands.tokens) leads in
        named q s (count ∙ sym (length-numbered_names (length r.vars))) reached fits
        ∙ own-names s (numbered_names (length r.vars))
        (fits.subst_of.names ∙ stands.names ∙ ap numbered_names count)

    -- and with the names of the rule line it is called by them
    pub rule-named : (u : Subst) → IsNamedSubst sig p.code t r.vars u (leaf, T) → u ≡ with_names r.vars s
    rule-named u named =
        named q s (rule-count leaf n r path q accepts held leads stands)
        (subst (λ ks. In {X = ℕ × Path} (leaf, ks) (lists (code_forest p.code))) (sym stands.tokens) leads) fits

  -- ---- the pair of an item

  module _ (t : Tree) (few : node_count t ≤ MAX_TERM_NODES) (i : ℕ × Table) (leaf : IsLeafItem sig p.code t i) where
    -- the answer of a test
    pub tested-none : (r : ProgramRule) → test_of p.tests r.test ≡ None → IsTestedBy sig p t r i true
    tested-none r e path q s leads stands fits = ap (λ o. meets sig o s) e

    pub tested-some : (r : ProgramRule) (c : Cond) (u : Subst) → IsAcceptedAt p r i.0 → test_of p.tests r.test ≡ Some c
        → IsNamedSubst sig p.code t (numbered_names (length r.vars)) u i → IsTestedBy sig p t r i (holds sig u c)
    tested-some r c u a e named path q s leads stands fits =
        ap (λ o. meets sig o s) e ∙ ap (λ v. holds sig v c)
        (sym (numbered-same t few i.0 a.0 r a.1 a.2 path leads q stands s i.1 fits u named))

    pub ready-item : (r : ProgramRule) (c : Cond) (u : Subst) → IsAcceptedAt p r i.0 → test_of p.tests r.test ≡ Some c
        → IsNamedSubst sig p.code t (numbered_names (length r.vars)) u i → IsReady u c
    ready-item r c u a e named =
        subst (λ v. IsReady v c)
        (sym (numbered-same t few i.0 a.0 r a.1 a.2 leaf.path leaf.leaf leaf.pattern leaf.stands leaf.subst i.1
        leaf.fits u named))
        (test-ready t few i.0 a.0 r a.1 a.2 leaf.path leaf.leaf leaf.pattern leaf.stands leaf.subst i.1 leaf.fits c e)

    module _ (n : ℕ) (r : ProgramRule) (accepts : In n (accepts_at p.code i.0))
        (held : slice_get p.rules n ≡ Some r) where
      pub pair-none : IsTestedBy sig p t r i false → IsPairOf sig p t i n None
      pair-none tested q = (
        λ h.
            let g = h.1 in
            let rule = same-rule sig p t i n r held q h.0 g in
            let wrong : false ≡ true = sym (tested g.path g.pattern g.subst g.leads g.stands g.fits)
            ∙ ap (λ z. meets sig (test_of p.tests z.test) g.subst) (sym rule) ∙ g.test in
            cc,
        λ e. cc,
      )

      pub pair-some : IsTestedBy sig p t r i true → (u : Subst) → IsNamedSubst sig p.code t r.vars u i
          → IsPairOf sig p t i n (Some (n, u))
      pair-some tested u named q = (
        λ h.
            let g = h.1 in
            let rule = same-rule sig p t i n r held q h.0 g in
            let own : u ≡ with_names r.vars g.subst =
            rule-named t few i.0 n r accepts held g.path g.leads g.pattern g.stands g.subst i.1 g.fits u named in
            let same : q.1 ≡ u = g.named ∙ ap (λ z. with_names z.vars g.subst) rule ∙ sym own in
            ap Some (ap (λ (m : ℕ). (m, u)) (sym h.0) ∙ ap (λ (v : Subst). (q.0, v)) (sym same)),
        λ e.
            let own : (n, u) ≡ q = let w : Some (n, u) ≡ Some q = e in cc in
            subst (λ (z : Pair). (z.0 ≡ n) × IsGivenBy sig p t i.0 i.1 z) own (
              refl,
              record {
                rule = r;
                numbered = held;
                path = leaf.path;
                leads = leaf.leaf;
                pattern = leaf.pattern;
                stands = leaf.stands;
                subst = leaf.subst;
                fits = leaf.fits;
                test = tested leaf.path leaf.pattern leaf.subst leaf.leaf leaf.stands leaf.fits;
                named =
                    rule-named t few i.0 n r accepts held leaf.path leaf.leaf leaf.pattern leaf.stands leaf.subst i.1
                    leaf.fits u named;
              },
            ),
      )

  -- ---- the item of a walk, where it stands at one

  module _ (t : Tree) (few : node_count t ≤ MAX_TERM_NODES) (item : Option (ℕ × Table))
      (leaf : IfSome item (IsLeafItem sig p.code t)) where
    pub item-few : (r : ProgramRule) → IsSome item → IfSome item (λ i. IsAcceptedAt p r i.0)
        → length r.vars ≤ MAX_VARIABLES
    item-few r some accepts = by_item item some leaf accepts
      where
        by_item : (item : Option (ℕ × Table)) → IsSome item → IfSome item (IsLeafItem sig p.code t)
            → IfSome item (λ i. IsAcceptedAt p r i.0) → length r.vars ≤ MAX_VARIABLES
        by_item None s l a = cc
        by_item (Some i) s l a = rule-few i.0 a.0 r l.path a.1 a.2 l.leaf

    pub item-there : (n : ℕ) → IsSome item → IfSome item (λ i. In n (accepts_at p.code i.0))
        → slice_get p.rules n ≡ None → ⊥
    item-there n some accepts none = by_item item some leaf accepts
      where
        by_item : (item : Option (ℕ × Table)) → IsSome item → IfSome item (IsLeafItem sig p.code t)
            → IfSome item (λ i. In n (accepts_at p.code i.0)) → ⊥
        by_item None s l a = cc
        by_item (Some i) s l a = rule-there i.0 n l.path a l.leaf none

    pub item-accepted : (n : ℕ) (r : ProgramRule) → slice_get p.rules n ≡ Some r
        → IfSome item (λ i. In n (accepts_at p.code i.0)) → IfSome item (λ i. IsAcceptedAt p r i.0)
    item-accepted n r held accepts = by_item item accepts
      where
        by_item : (item : Option (ℕ × Table)) → IfSome item (λ i. In n (accepts_at p.code i.0))
            → IfSome item (λ i. IsAcceptedAt p r i.0)
        by_item None a = tt
        by_item (Some i) a = (n, a, held)

    pub item-ready : (r : ProgramRule) (c : Cond) (u : Subst) → IsSome item → IfSome item (λ i. IsAcceptedAt p r i.0)
        → test_of p.tests r.test ≡ Some c
        → IfSome item (IsNamedSubst sig p.code t (numbered_names (length r.vars)) u) → IsReady u c
    item-ready r c u some accepts e named = by_item item some leaf accepts named
      where
        by_item : (item : Option (ℕ × Table)) → IsSome item → IfSome item (IsLeafItem sig p.code t)
            → IfSome item (λ i. IsAcceptedAt p r i.0)
            → IfSome item (IsNamedSubst sig p.code t (numbered_names (length r.vars)) u) → IsReady u c
        by_item None s l a n = cc
        by_item (Some i) s l a n = ready-item t few i l r c u a e n

    pub item-tested : (r : ProgramRule) (c : Cond) (u : Subst) → IfSome item (λ i. IsAcceptedAt p r i.0)
        → test_of p.tests r.test ≡ Some c
        → IfSome item (IsNamedSubst sig p.code t (numbered_names (length r.vars)) u)
        → IfSome item (λ i. IsTestedBy sig p t r i (holds sig u c))
    item-tested r c u accepts e named = by_item item leaf accepts named
      where
        by_item : (item : Option (ℕ × Table)) → IfSome item (IsLeafItem sig p.code t)
            → IfSome item (λ i. IsAcceptedAt p r i.0)
            → IfSome item (IsNamedSubst sig p.code t (numbered_names (length r.vars)) u)
            → IfSome item (λ i. IsTestedBy sig p t r i (holds sig u c))
        by_item None l a n = tt
        by_item (Some i) l a n = tested-some t few i l r c u a e n

    pub item-none : (n : ℕ) (r : ProgramRule) (b : Bool) → slice_get p.rules n ≡ Some r
        → IfSome item (λ i. In n (accepts_at p.code i.0)) → IfSome item (λ i. IsTestedBy sig p t r i b) → b ≡ false
        → IfSome item (λ i. IsPairOf sig p t i n None)
    item-none n r b held accepts tested refused = by_item item leaf accepts tested
      where
        by_item : (item : Option (ℕ × Table)) → IfSome item (IsLeafItem sig p.code t)
            → IfSome item (λ i. In n (accepts_at p.code i.0)) → IfSome item (λ i. IsTestedBy sig p t r i b)
            → IfSome item (λ i. IsPairOf sig p t i n None)
        by_item None l a h = tt
        by_item (Some i) l a h = pair-none t few i l n r a held (subst (IsTestedBy sig p t r i) refused h)

    pub item-some : (n : ℕ) (r : ProgramRule) (b : Bool) (u : Subst) → slice_get p.rules n ≡ Some r
        → IfSome item (λ i. In n (accepts_at p.code i.0)) → IfSome item (λ i. IsTestedBy sig p t r i b) → b ≡ true
        → IfSome item (IsNamedSubst sig p.code t r.vars u) → IfSome item (λ i. IsPairOf sig p t i n (Some (n, u)))
    item-some n r b u held accepts tested passed named = by_item item leaf accepts tested named
      where
        by_item : (item : Option (ℕ × Table)) → IfSome item (IsLeafItem sig p.code t)
            → IfSome item (λ i. In n (accepts_at p.code i.0)) → IfSome item (λ i. IsTestedBy sig p t r i b)
            → IfSome item (IsNamedSubst sig p.code t r.vars u) → IfSome item (λ i. IsPairOf sig p t i n (Some (n, u)))
        by_item None l a h m = tt
        by_item (Some i) l a h m = pair-some t few i l n r a held (subst (IsTestedBy sig p t r i) passed h) u m

  -- ---- the pairs of an item

  module _ (t : Tree) where
    module _ (old new : List Pair) (i : ℕ × Table) (ns : List ℕ) (n : ℕ)
        (h : HasAdded sig p t old new (Some i) ns) where
      pub added-skip : IsPairOf sig p t i n None → HasAdded sig p t old new (Some i) (ns ++ n ∷ [])
      added-skip none q = (
        λ c. elim ((h q).0 c) [ inl k ↦ inl k | inr k ↦ inr (in-left q.0 ns (n ∷ []) k.0, k.1) ],
        λ c. elim c [
          | inl k ↦ (h q).1 (inl k)
          | inr k ↦ elim (from_in-append q.0 ns (n ∷ []) k.0) [
            | inl m ↦ (h q).1 (inr (m, k.1))
            | inr m ↦ elim m [
              | inl e ↦ (let w : None ≡ Some q = (none q).0 (e, k.1) in cc)
              | inr m ↦ absurd m
            ]
          ]
        ],
      )

      pub added-some : (newer : List Pair) (own : Pair) → IsPairOf sig p t i n (Some own)
          → ((q : Pair) → Contains newer q ↔ Contains (new ++ own ∷ []) q)
          → HasAdded sig p t old newer (Some i) (ns ++ n ∷ [])
      added-some newer own is same q = (
        λ c. elim (from_in-append q new (own ∷ []) (in-from_contains q (new ++ own ∷ []) ((same q).0 c))) [
          | inl j ↦ elim ((h q).0 (contains-from_in q new j)) [
            | inl k ↦ inl k
            | inr k ↦ inr (in-left q.0 ns (n ∷ []) k.0, k.1)
          ]
          | inr j ↦ elim j [
            | inl e ↦
                let g = (is q).1 (ap Some (sym e)) in
                inr (in-right q.0 ns (n ∷ []) (inl g.0), g.1)
            | inr j ↦ absurd j
          ]
        ],
        λ c. (same q).1 (contains-from_in q (new ++ own ∷ []) (by_case c)),
      )
        where
          by_case : (Contains old q ⊎ IsOf sig p t (Some i) (ns ++ n ∷ []) q) → In q (new ++ own ∷ [])
          by_case (inl k) = in-left q new (own ∷ []) (in-from_contains q new ((h q).1 (inl k)))
          by_case (inr k) = elim (from_in-append q.0 ns (n ∷ []) k.0) [
            | inl m ↦ in-left q new (own ∷ []) (in-from_contains q new ((h q).1 (inr (m, k.1))))
            | inr m ↦ elim m [
              | inl e ↦
                  let w : Some own ≡ Some q = (is q).0 (e, k.1) in
                  let s : q ≡ own = cc in
                  in-right q new (own ∷ []) (inl s)
              | inr m ↦ absurd m
            ]
          ]

    -- so with the item of a walk
    pub item-skip : (old new : List Pair) (item : Option (ℕ × Table)) (ns : List ℕ) (n : ℕ) (o : Option Pair)
        → IsSome item → HasAdded sig p t old new item ns → IfSome item (λ i. IsPairOf sig p t i n o) → o ≡ None
        → HasAdded sig p t old new item (ns ++ n ∷ [])
    item-skip old new None ns n o some h k e = cc
    item-skip old new (Some i) ns n o some h k e =
        added-skip old new i ns n h (subst (IsPairOf sig p t i n) e k)

    pub item-add : (old new newer : List Pair) (item : Option (ℕ × Table)) (ns : List ℕ) (n : ℕ) (o : Option Pair)
        (own : Pair) → IsSome item → HasAdded sig p t old new item ns → IfSome item (λ i. IsPairOf sig p t i n o)
        → o ≡ Some own → ((q : Pair) → Contains newer q ↔ Contains (new ++ own ∷ []) q)
        → HasAdded sig p t old newer item (ns ++ n ∷ [])
    item-add old new newer None ns n o own some h k e same = cc
    item-add old new newer (Some i) ns n o own some h k e same =
        added-some old new i ns n h newer own (subst (IsPairOf sig p t i n) e k) same

    -- ---- all items

    pub found-first : (is : List (ℕ × Table)) → AreLeafItems sig p.code t is → HasFound sig p t [] is
    found-first is are = record {
      sound = λ q c. absurd (in-from_contains q [] c);
      complete = λ q a. inr (
        (a.leaf, a.table),
        (are.exactly (a.leaf, a.table)).1 (record {
          path = a.given.path;
          leaf = a.given.leads;
          pattern = a.given.pattern;
          stands = a.given.stands;
          subst = a.given.subst;
          fits = a.given.fits;
        }),
        a.accepts,
        a.given,
      );
      items = all-from_in (IsLeafItem sig p.code t) is (λ i j. (are.exactly i).0 j);
    }

    pub found-next : (found new : List Pair) (is : List (ℕ × Table)) (item : Option (ℕ × Table))
        → HasFound sig p t found is → item ≡ slice_get is 0 → IsSome item
        → ((q : Pair) → Contains new q ↔ (Contains found q ⊎ IsSomeAnd item (λ i. In q.0 (accepts_at p.code i.0)
        × IsGivenBy sig p t i.0 i.1 q))) → HasFound sig p t new (drop 1 is)
    found-next found new is None h e s added = cc
    found-next found new [] (Some i) h e s added = cc
    found-next found new (j ∷ is) (Some i) h e s added =
        let same : i ≡ j = let w : Some i ≡ Some j = e in cc in
        record {
          sound = λ q c. elim ((added q).0 c) [
            | inl k ↦ h.sound q k
            | inr k ↦ record { leaf = i.0; accepts = k.0; table = i.1; given = k.1 }
          ];
          complete = λ q a. elim (h.complete q a) [
            | inl k ↦ inl ((added q).1 (inl k))
            | inr k ↦ by_place q k.0 k.1 (k.2, k.3) same
          ];
          items = h.items.1;
        }
      where
        by_place : (q : Pair) (k : ℕ × Table) → In k (j ∷ is)
            → (In q.0 (accepts_at p.code k.0) × IsGivenBy sig p t k.0 k.1 q) → i ≡ j
            → Contains new q ⊎ ((l : ℕ × Table) × In l is × In q.0 (accepts_at p.code l.0)
            × IsGivenBy sig p t l.0 l.1 q)
        by_place q k (inr m) g same = inr (k, m, g.0, g.1)
        by_place q k (inl m) g same = inl ((added q).1 (inr
            (subst (λ (z : ℕ × Table). In q.0 (accepts_at p.code z.0) × IsGivenBy sig p t z.0 z.1 q) (m ∙ sym same) g)))

    pub found-last : (found : List Pair) (is : List (ℕ × Table)) → HasFound sig p t found is → slice_get is 0 ≡ None
        → (q : Pair) → Contains found q ↔ IsProgramPair sig p t q
    found-last found [] h e q = (
      λ c. h.sound q c,
      λ a. elim (h.complete q a) [ inl k ↦ k | inr k ↦ absurd k.1 ],
    )
    found-last found (j ∷ is) h e q = cc

    -- accepted pairs of one rule have the same variables
    pair-names : (q : Pair) (r : ProgramRule) → IsProgramPair sig p t q → slice_get p.rules q.0 ≡ Some r
        → names_of q.1 ≡ r.vars
    pair-names q r a held =
        let g = a.given in
        let rule = same-rule sig p t (a.leaf, a.table) q.0 r held q refl g in
        let count : length g.rule.vars ≡ length g.subst =
        sym (rule-count a.leaf q.0 g.rule g.path g.pattern a.accepts g.numbered g.leads g.stands)
        ∙ ap length (sym g.fits.subst_of.names) ∙ names-length g.subst in
        ap names_of g.named ∙ names-of_named g.rule.vars g.subst count ∙ ap (λ z. z.vars) rule
      where
        names-length : (s : Subst) → length (map (λ (b : Binding). b.name) s) ≡ length s
        names-length [] = refl
        names-length (b ∷ s) = ap suc (names-length s)

    alike : (q r : Pair) → IsProgramPair sig p t q → IsProgramPair sig p t r → q.0 ≡ r.0 → names_of q.1 ≡ names_of r.1
    alike q r a b e =
        pair-names q a.given.rule a a.given.numbered
        ∙ sym (pair-names r a.given.rule b (ap (slice_get p.rules) (sym e) ∙ a.given.numbered))

    -- what was found, in order, is the list of the program
    pub listing-program : (found ps : List Pair) → ((q : Pair) → Contains found q ↔ IsProgramPair sig p t q)
        → IsListing found_cmp (Contains found) ps → IsProgramList sig p t ps
    listing-program found ps h l = record {
      exactly = λ q. (λ c. (h q).0 ((l.exactly q).0 c), λ a. (l.exactly q).1 ((h q).1 a));
      ascending = ascending-pairs (IsProgramPair sig p t) alike ps
          (all-from_in (IsProgramPair sig p t) ps (λ q i. (h q).0 ((l.exactly q).0 (contains-from_in q ps i))))
          l.ascending;
    }

-- ---- the items of a walk

-- one item fewer
pub shorter : {X : Type 0} (xs ys : List X) (o : Option X) → o ≡ slice_get xs 0 → IsSome o → ys ≡ drop 1 xs
    → length ys < length xs
shorter [] ys None e s d = cc
shorter [] ys (Some x) e s d = cc
shorter (x ∷ xs) ys o e s d = (let n : length ys ≡ length xs = ap length d in omega (arith, n))

-- no item is left
pub none-left : {X : Type 0} (xs : List X) (o : Option X) → (IsSome o → ⊥) → o ≡ slice_get xs 0 → slice_get xs 0 ≡ None
none-left xs None s e = sym e
none-left xs (Some x) s e = absurd (s refl)

-- the rules at the leaf of an item
pub leaf-accepts : (item : Option (ℕ × Table)) (leaf : ℕ) (cs ds : List Instr) (ns : List ℕ)
    → option_map (λ (i : ℕ × Table). i.0) item ≡ Some leaf → ns ≡ accepts_at cs leaf → cs ≡ ds
    → IfSome item (λ i. accepts_at ds i.0 ≡ ns)
leaf-accepts None leaf cs ds ns e n c = tt
leaf-accepts (Some i) leaf cs ds ns e n c =
    let w : Some i.0 ≡ Some leaf = e in
    let own : i.0 ≡ leaf = cc in
    ap (accepts_at ds) own ∙ ap (λ (xs : List Instr). accepts_at xs leaf) (sym c) ∙ sym n

-- a rule among them
pub in-accepts : (item : Option (ℕ × Table)) (n : ℕ) (ns : List ℕ) (ds : List Instr)
    → IfSome item (λ i. accepts_at ds i.0 ≡ ns) → In n ns → IfSome item (λ i. In n (accepts_at ds i.0))
in-accepts None n ns ds e i = tt
in-accepts (Some j) n ns ds e i = subst (In n) (sym e) i

-- what is said of those rules and of the walk's own subject
pub added-over : (sig : Sig) (p : Program) (old new : List Pair) (item : Option (ℕ × Table)) (t s : Tree) (ns : List ℕ)
    → t ≡ s → IfSome item (λ i. accepts_at p.code i.0 ≡ ns) → HasAdded sig p t old new item ns
    → (q : Pair) → Contains new q ↔ (Contains old q ⊎ IsSomeAnd item (λ i. In q.0 (accepts_at p.code i.0)
    × IsGivenBy sig p s i.0 i.1 q))
added-over sig p old new None t s ns e a h q = h q
added-over sig p old new (Some i) t s ns e a h q = (
  λ c. elim ((h q).0 c) [
    | inl k ↦ inl k
    | inr k ↦ inr (subst (In q.0) (sym a) k.0, subst (λ u. IsGivenBy sig p u i.0 i.1 q) e k.1)
  ],
  λ c. (h q).1 (elim c as (λ _. Contains old q ⊎ (In q.0 ns × IsGivenBy sig p t i.0 i.1 q)) [
    | inl k ↦ inl k
    | inr k ↦ inr (subst (In q.0) a k.0, subst (λ u. IsGivenBy sig p u i.0 i.1 q) (sym e) k.1)
  ]),
)
