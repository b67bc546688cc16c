-- The defaults of patterns and the operands of conditions that are read are small.
use Rattle.std.proofs.Common.{◌≡◌, ◌≤◌, ℕ, Bool, true, false, List, [], ◌∷◌, ◌++◌, length, eqb, refl, subst, arith}
use Rattle.std.specs.Prelude.{◌&&◌, nat_lt, not, if◌then◌else◌}
use Rattle.std.specs.List.{AllByRecursion, list_any}
use Rattle.std.proofs.lemmas.Bool.{or_parts, ltb-false}
use Rattle.std.proofs.lemmas.List.{append-nil}
use Rattle.mp_io.specs.Devices.{Text}
use Rattle.mp_term.specs.Normal.{normal}
use Rattle.mp_term.specs.Signature.{Sig}
use Rattle.mp_term.specs.Size.{node_count}
use Rattle.mp_term.proofs.ListLaws.{all-append, all-split}
use Rattle.mp_term.proofs.NormalSize.{node_count-normal}
use Rattle.mp_pattern.specs.declared.limits.TheConstants.{MAX_DEFAULT_NODES, MAX_OPERAND_NODES, MAX_ATOMS}
use Rattle.mp_pattern.specs.CondTree as plain
use Rattle.mp_pattern.specs.CondTree.{Operand, var, ground, fixed, count, size, Cond, amounts, same, less, free}
use Rattle.mp_pattern.specs.CondTree.{of_kind, headed, negation, all_of, any_of, Conds, no_conds, more_conds}
use Rattle.mp_pattern.specs.EachWildcard.{AllEachWildcard}
use Rattle.mp_pattern.specs.Limits.{DefaultIsSmall, DefaultsAreSmall}
use Rattle.mp_pattern.specs.Operands.{operands, all_operands}
use Rattle.mp_pattern.specs.Operands as taken
use Rattle.mp_pattern.specs.PatternTree as pattern
use Rattle.mp_parser.specs.declared.condition_tree.Measure.TheVariants.{Count, Size}
use Rattle.mp_parser.specs.declared.condition_tree.Relation.TheVariants.{Same, Less, Free}
use Rattle.mp_parser.specs.declared.condition_tree.Property.TheVariants as properties
use Rattle.mp_parser.specs.Syntax.{Tree, Trees, no_trees, more_trees, Symbol, Apply, InfixOf, Wild, Optional, Counted}
use Rattle.mp_parser.specs.Syntax.{Variable, Amount, Number, Measured, Atom, Compare, Relate, Test, Literal, AtomOf}
use Rattle.mp_parser.specs.Syntax.{Bracketed, Literals, no_literals, more_literals, Condition, no_alternatives}
use Rattle.mp_parser.specs.Syntax.{more_alternatives}
use Rattle.mp_build.specs.Build.{term_of, kind_shape, marked_shape, counted_shape, count_of, pattern_of, patterns_of}
use Rattle.mp_build.specs.Checks.{nodes, has_large_default, some_large_default, is_large_operand}
use Rattle.mp_build.specs.ConditionChecks.{has_large_operand, is_large_condition}
use Rattle.mp_build.specs.Conditions.{literal_atoms, literals_atoms, atoms, amount_operands, joined, negated_if}
use Rattle.mp_build.specs.Conditions.{operand_of, amount_of, atom_of, literal_of, literals_of, alternatives_of, cond_of}
use Rattle.mp_build.proofs.SoundLaws.{node_count-term_of}
use Rattle.mp_program.specs.ProgramOf.{renamed_operand, renamed_amount, renamed_cond, renamed_conds}
use Rattle.mp_vm.specs.Runnable.{IsSmallOperand, HasSmallOperands}

-- ---- lists

any-append : {X : Type 0} (p : X → Bool) (xs ys : List X) → list_any p (xs ++ ys) ≡ false
    → (list_any p xs ≡ false) × (list_any p ys ≡ false)
any-append p [] ys h = (refl, h)
any-append p (x ∷ xs) ys h =
    let a = or_parts (p x) _ h in
    let b = any-append p xs ys a.1 in
    (rw a.0 b.0, b.1)

-- ---- defaults

small-marked : (marks : ℕ) → DefaultIsSmall (marked_shape marks)
small-marked marks = by_tests (eqb marks 3) (eqb marks 2)
  where
    by_tests : (three two : Bool)
        → DefaultIsSmall (if three then pattern.star else (if two then pattern.plus else pattern.dot))
    by_tests true two = tt
    by_tests false true = tt
    by_tests false false = tt

small-counted : (n : ℕ) (more : Bool) → DefaultIsSmall (counted_shape n more)
small-counted n more = by_tests (eqb n 1) (eqb n 0) more
  where
    by_tests : (one none more : Bool) → DefaultIsSmall (if one then (if more then pattern.plus else pattern.dot)
        else (if none && more then pattern.star else pattern.counted n (not more)))
    by_tests true none true = tt
    by_tests true none false = tt
    by_tests false true true = tt
    by_tests false true false = tt
    by_tests false false true = tt
    by_tests false false false = tt

module _ (sig : Sig) where
  small-kind : (kind : List ℕ) (w : pattern.Wildcard) → DefaultIsSmall w → DefaultIsSmall (kind_shape sig kind w)
  small-kind [] w h = h
  small-kind (b ∷ bs) w h = tt

  mutual
    -- the defaults of a pattern that is read are small
    pub small-pattern_of : (p : Tree) → has_large_default p ≡ false → DefaultsAreSmall (pattern_of sig p)
    small-pattern_of (Symbol w) h = tt
    small-pattern_of (Apply f args) h = small-patterns_of args h
    small-pattern_of (InfixOf opened sign inner) h = small-patterns_of inner h
    small-pattern_of (Wild w) h = small-kind w.kind (marked_shape w.marks) (small-marked w.marks)
    small-pattern_of (Counted w number more) h =
        small-kind w.kind (counted_shape (count_of number) more) (small-counted (count_of number) more)
    small-pattern_of (Optional w others default) h =
        let a = or_parts (nat_lt MAX_DEFAULT_NODES (nodes default)) (has_large_default default) h in
        omega (
          arith,
          node_count-normal sig (term_of sig default),
          node_count-term_of sig default,
          ltb-false MAX_DEFAULT_NODES (nodes default) a.0,
        )
    small-pattern_of (Variable x) h = tt

    small-patterns_of : (ps : Trees) → some_large_default ps ≡ false
        → AllEachWildcard DefaultIsSmall (patterns_of sig ps)
    small-patterns_of no_trees h = tt
    small-patterns_of (more_trees p ps) h =
        let a = or_parts (has_large_default p) (some_large_default ps) h in
        (small-pattern_of p a.0, small-patterns_of ps a.1)

  -- ---- operands

  small-term : (t : Tree) → is_large_operand t ≡ false → node_count (normal sig (term_of sig t)) ≤ MAX_OPERAND_NODES
  small-term t h =
      let a = or_parts (nat_lt MAX_OPERAND_NODES (nodes t)) (has_large_default t) h in
      omega (
        arith,
        node_count-normal sig (term_of sig t),
        node_count-term_of sig t,
        ltb-false MAX_OPERAND_NODES (nodes t) a.0,
      )

  small-operand_of : (t : Tree) → is_large_operand t ≡ false → IsSmallOperand (operand_of sig t)
  small-operand_of (Variable x) h = tt
  small-operand_of (Symbol w) h = small-term (Symbol w) h
  small-operand_of (Apply f args) h = small-term (Apply f args) h
  small-operand_of (InfixOf opened sign inner) h = small-term (InfixOf opened sign inner) h
  small-operand_of (Wild w) h = small-term (Wild w) h
  small-operand_of (Optional w others default) h = small-term (Optional w others default) h
  small-operand_of (Counted w number more) h = small-term (Counted w number more) h

  abbrev AreSmall : List Operand → Type 0
  AreSmall os = AllByRecursion IsSmallOperand os

  small-amount_of : (m : Amount) → list_any is_large_operand (amount_operands m) ≡ false
      → AreSmall (taken.amount_operands (amount_of sig m))
  small-amount_of (Number n) h = tt
  small-amount_of (Measured Count t) h = (small-operand_of t (or_parts (is_large_operand t) false h).0, tt)
  small-amount_of (Measured Size t) h = (small-operand_of t (or_parts (is_large_operand t) false h).0, tt)

  small-both : (t u : Tree) → list_any is_large_operand (t ∷ u ∷ []) ≡ false
      → AreSmall (operand_of sig t ∷ operand_of sig u ∷ [])
  small-both t u h =
      let a = or_parts (is_large_operand t) _ h in
      let b = or_parts (is_large_operand u) false a.1 in
      (small-operand_of t a.0, (small-operand_of u b.0, tt))

  small-atom_of : (a : Atom) → has_large_operand a ≡ false → HasSmallOperands (atom_of sig a)
  small-atom_of (Compare m s n) h =
      let q = any-append is_large_operand (amount_operands m) (amount_operands n) h in
      all-append IsSmallOperand (taken.amount_operands (amount_of sig m)) (taken.amount_operands (amount_of sig n))
      (small-amount_of m q.0) (small-amount_of n q.1)
  small-atom_of (Relate Same t u) h = small-both t u h
  small-atom_of (Relate Less t u) h = small-both t u h
  small-atom_of (Relate Free t u) h = small-both t u h
  small-atom_of (Test properties.Kind t n) h = (small-operand_of t (or_parts (is_large_operand t) false h).0, tt)
  small-atom_of (Test properties.Head t n) h = (small-operand_of t (or_parts (is_large_operand t) false h).0, tt)

  small-negated : (negated : Bool) (c : Cond) → HasSmallOperands c → HasSmallOperands (negated_if negated c)
  small-negated true c h = h
  small-negated false c h = h

  small-all_of : (cs : Conds) → AreSmall (all_operands cs) → HasSmallOperands (joined all_of cs)
  small-all_of no_conds h = h
  small-all_of (more_conds c no_conds) h = subst AreSmall (append-nil (operands c)) h
  small-all_of (more_conds c (more_conds d cs)) h = h

  small-any_of : (cs : Conds) → AreSmall (all_operands cs) → HasSmallOperands (joined any_of cs)
  small-any_of no_conds h = h
  small-any_of (more_conds c no_conds) h = subst AreSmall (append-nil (operands c)) h
  small-any_of (more_conds c (more_conds d cs)) h = h

  mutual
    small-literal_of : (l : Literal) → list_any has_large_operand (literal_atoms l) ≡ false
        → HasSmallOperands (literal_of sig l)
    small-literal_of (AtomOf negated a) h =
        small-negated negated (atom_of sig a) (small-atom_of a (or_parts (has_large_operand a) false h).0)
    small-literal_of (Bracketed negated c) h = small-negated negated (cond_of sig c)
        (small-any_of (alternatives_of sig c) (small-alternatives_of c h))

    small-literals_of : (ls : Literals) → list_any has_large_operand (literals_atoms ls) ≡ false
        → AreSmall (all_operands (literals_of sig ls))
    small-literals_of no_literals h = tt
    small-literals_of (more_literals l ls) h =
        let q = any-append has_large_operand (literal_atoms l) (literals_atoms ls) h in
        all-append IsSmallOperand (operands (literal_of sig l)) (all_operands (literals_of sig ls))
        (small-literal_of l q.0) (small-literals_of ls q.1)

    small-alternatives_of : (c : Condition) → list_any has_large_operand (atoms c) ≡ false
        → AreSmall (all_operands (alternatives_of sig c))
    small-alternatives_of no_alternatives h = tt
    small-alternatives_of (more_alternatives ls c) h =
        let q = any-append has_large_operand (literals_atoms ls) (atoms c) h in
        all-append IsSmallOperand (operands (joined all_of (literals_of sig ls)))
        (all_operands (alternatives_of sig c)) (small-all_of (literals_of sig ls) (small-literals_of ls q.0))
        (small-alternatives_of c q.1)

  -- the operands of a condition that is read are small
  pub small-cond_of : (c : Condition) → is_large_condition c ≡ false → HasSmallOperands (cond_of sig c)
  small-cond_of c h = small-any_of (alternatives_of sig c)
      (small-alternatives_of c (or_parts (nat_lt MAX_ATOMS (length (atoms c))) _ h).1)

-- ---- renamed conditions

module _ (xs : List Text) where
  small-renamed_operand : (a : Operand) → IsSmallOperand a → IsSmallOperand (renamed_operand xs a)
  small-renamed_operand (var x) h = tt
  small-renamed_operand (ground t) h = h

  small-renamed_amount : (m : plain.Amount) → AllByRecursion IsSmallOperand (taken.amount_operands m)
      → AllByRecursion IsSmallOperand (taken.amount_operands (renamed_amount xs m))
  small-renamed_amount (fixed n) h = tt
  small-renamed_amount (count a) h = (small-renamed_operand a h.0, tt)
  small-renamed_amount (size a) h = (small-renamed_operand a h.0, tt)

  mutual
    -- naming variables by their numbers keeps the terms
    pub small-renamed : (c : Cond) → HasSmallOperands c → HasSmallOperands (renamed_cond xs c)
    small-renamed (amounts m s n) h =
        let q = all-split IsSmallOperand (taken.amount_operands m) (taken.amount_operands n) h in
        all-append IsSmallOperand (taken.amount_operands (renamed_amount xs m))
        (taken.amount_operands (renamed_amount xs n)) (small-renamed_amount m q.0) (small-renamed_amount n q.1)
    small-renamed (same a b) h = (small-renamed_operand a h.0, (small-renamed_operand b h.1.0, tt))
    small-renamed (less a b) h = (small-renamed_operand a h.0, (small-renamed_operand b h.1.0, tt))
    small-renamed (free a b) h = (small-renamed_operand a h.0, (small-renamed_operand b h.1.0, tt))
    small-renamed (of_kind a k) h = (small-renamed_operand a h.0, tt)
    small-renamed (headed a f) h = (small-renamed_operand a h.0, tt)
    small-renamed (negation c) h = small-renamed c h
    small-renamed (all_of cs) h = all_small-renamed cs h
    small-renamed (any_of cs) h = all_small-renamed cs h

    all_small-renamed : (cs : Conds) → AllByRecursion IsSmallOperand (all_operands cs)
        → AllByRecursion IsSmallOperand (all_operands (renamed_conds xs cs))
    all_small-renamed no_conds h = tt
    all_small-renamed (more_conds c cs) h =
        let q = all-split IsSmallOperand (operands c) (all_operands cs) h in
        all-append IsSmallOperand (operands (renamed_cond xs c)) (all_operands (renamed_conds xs cs))
        (small-renamed c q.0) (all_small-renamed cs q.1)
