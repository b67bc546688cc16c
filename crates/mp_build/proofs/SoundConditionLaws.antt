-- A condition that the checks let through is one over the variables that it may name, and so is sound over the normal
-- form of its pattern.
use Rattle.std.proofs.Common.{length, ◌≡◌, ◌≤◌, ℕ, zero, suc, Bool, true, false, ◌||◌, not, ltb, List, [], ◌++◌, Some}
use Rattle.std.proofs.Common.{None, refl, sym, ◌∙◌, arith, length-append}
use Rattle.std.specs.Prelude.{◌≢◌, is_none}
use Rattle.std.specs.List.{list_any}
use Rattle.std.specs.Str.{bytes_eq}
use Rattle.std.proofs.lemmas.List.Folds.{list_any-append}
use Rattle.std.proofs.lemmas.Bool.{ltb-false, not-false, or_parts}
use Rattle.mp_term.specs.Signature.{Sig, all_in_order, has_name, kind_names}
use Rattle.mp_term.specs.Normal.{normal}
use Rattle.mp_term.proofs.ListLaws.{both-empty}
use Rattle.mp_pattern.specs.declared.limits.TheConstants.{MAX_OPERAND_NODES, MAX_ATOMS, MAX_NUMBER}
use Rattle.mp_pattern.specs.CondTree as cond
use Rattle.mp_pattern.specs.CondTree.{Operand, var, ground, fixed, count, size, Cond, amounts, less, free, of_kind}
use Rattle.mp_pattern.specs.CondTree.{headed, negation, Conds, no_conds, more_conds, all_of, any_of}
use Rattle.mp_pattern.specs.PatternTree.{Pattern}
use Rattle.mp_pattern.specs.Firsts.{is_known}
use Rattle.mp_pattern.specs.Value.{same_name, one_form}
use Rattle.mp_pattern.specs.Variables.{variables, variable_form}
use Rattle.mp_pattern.specs.SoundRule.{IsSoundTerm, IsSoundOperand, IsSingle, IsSoundAmount, IsChecked, AreChecked}
use Rattle.mp_pattern.specs.SoundRule.{atom_count, atom_counts, IsSoundCondition}
use Rattle.mp_parser.specs.declared.condition_tree.Measure.TheVariants.{Count, Size}
use Rattle.mp_parser.specs.declared.condition_tree.Relation.TheVariants.{Same, Less, Free}
use Rattle.mp_parser.specs.declared.condition_tree.Property.TheVariants as properties
use Rattle.mp_parser.specs.Syntax.{Spot, Tree, Symbol, Apply, InfixOf, Wild, Optional, Counted, Variable, Amount}
use Rattle.mp_parser.specs.Syntax.{Number, Measured}
use Rattle.mp_parser.specs.Syntax.{Atom, Compare, Relate, Test, Literal, AtomOf, Bracketed, Literals, no_literals}
use Rattle.mp_parser.specs.Syntax.{more_literals, Condition, no_alternatives, more_alternatives, HasLiteral}
use Rattle.mp_parser.specs.Syntax.{HasAlternative, FitsLiteral, LiteralsFit, AlternativesFit, FitsCondition, IsName}
use Rattle.mp_parser.specs.Syntax.{HasNames}
use Rattle.mp_parser.specs.Syntax.{AmountHasNames, AtomHasNames, LiteralHasNames, LiteralsHaveNames, ConditionHasNames}
use Rattle.mp_build.specs.declared.fault.TextKind.TheVariants as kinds
use Rattle.mp_build.specs.Names.{number_of}
use Rattle.mp_build.specs.Build.{op_number, kind_number, term_of}
use Rattle.mp_build.specs.Checks.{nodes, has_large_default, is_large_operand, term_faults}
use Rattle.mp_build.specs.Scope as scopes
use Rattle.mp_build.specs.Scope.{Scope, is_bound, is_bound_sequence}
use Rattle.mp_build.specs.SoundCondition.{MayBeNamed, StandsForOne, IsScopedOperand, IsScopedSingle, IsScopedAmount}
use Rattle.mp_build.specs.SoundCondition.{IsScoped, AreScoped, IsScopedCondition}
use Rattle.mp_build.specs.Conditions as conditions
use Rattle.mp_build.specs.Conditions.{literal_atoms, literals_atoms, atoms, joined, negated_if, operand_of, amount_of}
use Rattle.mp_build.specs.Conditions.{atom_of, literal_of, literals_of, alternatives_of, cond_of}
use Rattle.mp_build.specs.ConditionChecks.{has_large_amount, has_large_operand, is_large_condition, single_faults}
use Rattle.mp_build.specs.ConditionChecks.{unbound_faults, sequence_faults}
use Rattle.mp_build.specs.ConditionChecks.{property_faults, operand_faults, amount_faults, atom_faults, literal_faults}
use Rattle.mp_build.specs.ConditionChecks.{literals_faults, condition_faults}
use Rattle.mp_build.proofs.Faultless.{nil-fault_if}
use Rattle.mp_build.proofs.Words.{is_name-IsName, IsName-is_name}
use Rattle.mp_build.proofs.SoundLaws.{held-position, sound-term_of}

-- ---- how many atoms

atom_count-negated_if : (negated : Bool) (c : Cond) → atom_count (negated_if negated c) ≡ atom_count c
atom_count-negated_if true c = refl
atom_count-negated_if false c = refl

pub atom_count-all_of : (cs : Conds) → atom_count (joined all_of cs) ≡ atom_counts cs
atom_count-all_of no_conds = refl
atom_count-all_of (more_conds c no_conds) = omega arith
atom_count-all_of (more_conds c (more_conds d cs)) = refl

pub atom_count-any_of : (cs : Conds) → atom_count (joined any_of cs) ≡ atom_counts cs
atom_count-any_of no_conds = refl
atom_count-any_of (more_conds c no_conds) = omega arith
atom_count-any_of (more_conds c (more_conds d cs)) = refl

module _ (sig : Sig) where
  pub atom_count-atom_of : (a : Atom) → atom_count (atom_of sig a) ≡ 1
  atom_count-atom_of (Compare m s n) = refl
  atom_count-atom_of (Relate Same t u) = refl
  atom_count-atom_of (Relate Less t u) = refl
  atom_count-atom_of (Relate Free t u) = refl
  atom_count-atom_of (Test properties.Kind t n) = refl
  atom_count-atom_of (Test properties.Head t n) = refl

  mutual
    atom_count-literal_of : (l : Literal) → atom_count (literal_of sig l) ≡ length (literal_atoms l)
    atom_count-literal_of (AtomOf negated a) = atom_count-negated_if negated (atom_of sig a) ∙ atom_count-atom_of a
    atom_count-literal_of (Bracketed negated c) = atom_count-negated_if negated (cond_of sig c)
        ∙ atom_count-any_of (alternatives_of sig c) ∙ atom_counts-alternatives_of c

    atom_counts-literals_of : (ls : Literals) → atom_counts (literals_of sig ls) ≡ length (literals_atoms ls)
    atom_counts-literals_of no_literals = refl
    atom_counts-literals_of (more_literals l ls) =
        omega (
          arith,
          atom_count-literal_of l,
          atom_counts-literals_of ls,
          length-append (literal_atoms l)
              (literals_atoms ls),
        )

    atom_counts-alternatives_of : (c : Condition) → atom_counts (alternatives_of sig c) ≡ length (atoms c)
    atom_counts-alternatives_of no_alternatives = refl
    atom_counts-alternatives_of (more_alternatives a c) =
        omega (
          arith,
          atom_count-all_of (literals_of sig a),
          atom_counts-literals_of a,
          atom_counts-alternatives_of
              c,
          length-append (literals_atoms a) (atoms c),
        )

-- ---- conditions

-- a word that isn't unbound may be named
may_be_named : (scope : Scope) (x : Spot) → IsName x.text → unbound_faults scope x ≡ [] → MayBeNamed scope x.text
may_be_named None x name none = is_name-IsName x.text name
may_be_named (Some vs) x name none = (
  is_name-IsName x.text name,
  not-false (is_bound vs x.text) (nil-fault_if (not (is_bound vs x.text)) _ x.place none),
)

-- a variable that isn't one for several terms stands for one
stands_for_one : (scope : Scope) (x : Spot) → sequence_faults scope x ≡ [] → StandsForOne scope x.text
stands_for_one None x none = tt
stands_for_one (Some vs) x none = nil-fault_if (is_bound_sequence vs x.text) _ x.place none

module _ (sig : Sig) (ordered : all_in_order sig.ops ≡ true) (scope : Scope) where
  good-term : (t : Tree) → HasNames t → term_faults sig t ≡ [] → is_large_operand t ≡ false
      → IsSoundTerm sig MAX_OPERAND_NODES (normal sig (term_of sig t))
  good-term t names none small = sound-term_of sig ordered MAX_OPERAND_NODES t names none
      (ltb-false MAX_OPERAND_NODES (nodes t)
      (or_parts (ltb MAX_OPERAND_NODES (nodes t)) (has_large_default t) small).0)

  good-operand : (t : Tree) → HasNames t → operand_faults sig scope t ≡ [] → is_large_operand t ≡ false
      → IsScopedOperand sig scope (operand_of sig t)
  good-operand (Symbol w) names none small = good-term (Symbol w) names none small
  good-operand (Apply f args) names none small = good-term (Apply f args) names none small
  good-operand (InfixOf opened sign operands) names none small =
      good-term (InfixOf opened sign operands) names none small
  good-operand (Wild w) names none small = good-term (Wild w) names none small
  good-operand (Optional w others default) names none small = good-term (Optional w others default) names none small
  good-operand (Counted w digits more) names none small = good-term (Counted w digits more) names none small
  good-operand (Variable x) names none small =
      may_be_named scope x names none

  good-single : (t : Tree) → single_faults scope t ≡ [] → IsScopedSingle sig scope (operand_of sig t)
  good-single (Symbol w) none = tt
  good-single (Apply f args) none = tt
  good-single (InfixOf opened sign operands) none = tt
  good-single (Wild w) none = tt
  good-single (Optional w others default) none = tt
  good-single (Counted w digits more) none = tt
  good-single (Variable x) none = stands_for_one scope x none

  good-amount : (m : Amount) → AmountHasNames m → amount_faults sig scope m ≡ [] → has_large_amount m ≡ false
      → IsScopedAmount sig scope (amount_of sig m)
  good-amount (Number n) names none small =
      ltb-false MAX_NUMBER (number_of n.text) (nil-fault_if (ltb MAX_NUMBER (number_of n.text)) _ n.place none)
  good-amount (Measured Count t) names none small =
      good-operand t names none (or_parts (is_large_operand t) false small).0
  good-amount (Measured Size t) names none small =
      good-operand t names none (or_parts (is_large_operand t) false small).0

  good-two : (t u : Tree) → HasNames t → HasNames u
      → operand_faults sig scope t ++ operand_faults sig scope u ≡ []
      → (is_large_operand t || (is_large_operand u || false)) ≡ false
      → IsScopedOperand sig scope (operand_of sig t) × IsScopedOperand sig scope (operand_of sig u)
  good-two t u first second none small =
      let p = both-empty (operand_faults sig scope t) (operand_faults sig scope u) none in
      let o = or_parts (is_large_operand t) (is_large_operand u || false) small in
      (good-operand t first p.0 o.0, good-operand u second p.1 (or_parts (is_large_operand u) false o.1).0)

  good-atom : (a : Atom) → AtomHasNames a → atom_faults sig scope a ≡ [] → has_large_operand a ≡ false
      → IsScoped sig scope (atom_of sig a)
  good-atom (Compare m s n) names none small =
      let p = both-empty (amount_faults sig scope m) (amount_faults sig scope n) none in
      let o = or_parts (has_large_amount m) (has_large_amount n)
      (sym (list_any-append is_large_operand (conditions.amount_operands m) (conditions.amount_operands n))
      ∙ small) in
      (good-amount m names.0 p.0 o.0, good-amount n names.1 p.1 o.1)
  good-atom (Relate Same t u) names none small = good-two t u names.0 names.1 none small
  good-atom (Relate Less t u) names none small =
      let p = both-empty (operand_faults sig scope t ++ single_faults scope t)
      (operand_faults sig scope u ++ single_faults scope u) none in
      let first = both-empty (operand_faults sig scope t) (single_faults scope t) p.0 in
      let second = both-empty (operand_faults sig scope u) (single_faults scope u) p.1 in
      let o = or_parts (is_large_operand t) (is_large_operand u || false) small in (
        (good-operand t names.0 first.0 o.0, good-single t first.1),
        (good-operand u names.1 second.0 (or_parts (is_large_operand u) false o.1).0, good-single u second.1),
      )
  good-atom (Relate Free t u) names none small = good-two t u names.0 names.1 none small
  good-atom (Test properties.Kind t n) names none small =
      let p = both-empty (operand_faults sig scope t) (property_faults sig properties.Kind n) none in (
        good-operand t names.0 p.0 (or_parts (is_large_operand t) false small).0,
        held-position (bytes_eq n.text)
            (kind_names sig) (nil-fault_if (is_none (kind_number sig n.text)) kinds.UnknownKind n.place p.1),
      )
  good-atom (Test properties.Head t n) names none small =
      let p = both-empty (operand_faults sig scope t) (property_faults sig properties.Head n) none in (
        good-operand t names.0 p.0 (or_parts (is_large_operand t) false small).0,
        held-position (has_name n.text) sig.ops
            (nil-fault_if (is_none (op_number sig n.text)) kinds.UnknownOp n.place p.1),
      )

  good-negated_if : (negated : Bool) (c : Cond) → IsScoped sig scope c → IsScoped sig scope (negated_if negated c)
  good-negated_if true c g = g
  good-negated_if false c g = g

  -- there is a condition
  abbrev HasCond : Conds → Type 0
  HasCond no_conds = ⊥
  HasCond (more_conds c cs) = Unit {0}

  good-all_of : (cs : Conds) → HasCond cs → AreScoped sig scope cs → IsScoped sig scope (joined all_of cs)
  good-all_of no_conds some g = absurd some
  good-all_of (more_conds c no_conds) some g = g.0
  good-all_of (more_conds c (more_conds d cs)) some g = (tt, g)

  good-any_of : (cs : Conds) → HasCond cs → AreScoped sig scope cs → IsScoped sig scope (joined any_of cs)
  good-any_of no_conds some g = absurd some
  good-any_of (more_conds c no_conds) some g = g.0
  good-any_of (more_conds c (more_conds d cs)) some g = (tt, g)

  some-literals_of : (ls : Literals) → HasLiteral ls → HasCond (literals_of sig ls)
  some-literals_of no_literals h = h
  some-literals_of (more_literals l ls) h = tt

  some-alternatives_of : (c : Condition) → HasAlternative c → HasCond (alternatives_of sig c)
  some-alternatives_of no_alternatives h = h
  some-alternatives_of (more_alternatives a c) h = tt

  mutual
    good-literal_of : (room : ℕ) (l : Literal) → FitsLiteral room l → LiteralHasNames l
        → literal_faults sig scope l ≡ [] → list_any has_large_operand (literal_atoms l) ≡ false
        → IsScoped sig scope (literal_of sig l)
    good-literal_of room (AtomOf negated a) fit names none small =
        good-negated_if negated (atom_of sig a)
        (good-atom a names none (or_parts (has_large_operand a) false small).0)
    good-literal_of zero (Bracketed negated c) fit names none small = absurd fit
    good-literal_of (suc room) (Bracketed negated c) fit names none small =
        good-negated_if negated (cond_of sig c)
        (good-any_of (alternatives_of sig c) (some-alternatives_of c fit.0)
        (good-alternatives_of room c fit.1 names none small))

    good-literals_of : (room : ℕ) (ls : Literals) → LiteralsFit room ls → LiteralsHaveNames ls
        → literals_faults sig scope ls ≡ [] → list_any has_large_operand (literals_atoms ls) ≡ false
        → AreScoped sig scope (literals_of sig ls)
    good-literals_of room no_literals fit names none small = tt
    good-literals_of room (more_literals l ls) fit names none small =
        let p = both-empty (literal_faults sig scope l) (literals_faults sig scope ls) none in
        let o = or_parts (list_any has_large_operand (literal_atoms l))
        (list_any has_large_operand (literals_atoms ls))
        (sym (list_any-append has_large_operand (literal_atoms l) (literals_atoms ls)) ∙ small) in
        (good-literal_of room l fit.0 names.0 p.0 o.0, good-literals_of room ls fit.1 names.1 p.1 o.1)

    good-alternatives_of : (room : ℕ) (c : Condition) → AlternativesFit room c → ConditionHasNames c
        → condition_faults sig scope c ≡ [] → list_any has_large_operand (atoms c) ≡ false
        → AreScoped sig scope (alternatives_of sig c)
    good-alternatives_of room no_alternatives fit names none small = tt
    good-alternatives_of room (more_alternatives a c) fit names none small =
        let p = both-empty (literals_faults sig scope a) (condition_faults sig scope c) none in
        let o = or_parts (list_any has_large_operand (literals_atoms a)) (list_any has_large_operand (atoms c))
        (sym (list_any-append has_large_operand (literals_atoms a) (atoms c)) ∙ small) in (
          good-all_of (literals_of sig a) (some-literals_of a fit.0)
              (good-literals_of room a fit.1 names.0 p.0 o.0),
          good-alternatives_of room c fit.2 names.1 p.1 o.1,
        )

  -- a condition without faults is so
  pub scoped-cond_of : (room : ℕ) (c : Condition) → FitsCondition room c → ConditionHasNames c
      → condition_faults sig scope c ≡ [] → is_large_condition c ≡ false → IsScopedCondition sig scope (cond_of sig c)
  scoped-cond_of room c fit names none small =
      let o = or_parts (ltb MAX_ATOMS (length (atoms c))) (list_any has_large_operand (atoms c)) small in
      let few : length (atoms c) ≤ MAX_ATOMS = ltb-false MAX_ATOMS (length (atoms c)) o.0 in
      record {
        checked = good-any_of (alternatives_of sig c) (some-alternatives_of c fit.0)
            (good-alternatives_of room c fit.1 names none o.1);
        few_atoms = omega (arith, atom_count-any_of (alternatives_of sig c), atom_counts-alternatives_of sig c, few);
      }

-- over the variables of a pattern
module _ (sig : Sig) (ordered : all_in_order sig.ops ≡ true) (vs : List scopes.Variable) (q : Pattern)
    (known : (x : List ℕ) → x ≢ [] → is_bound vs x ≡ true → is_known same_name (variables q) x ≡ true)
    (single : (x : List ℕ) → is_bound_sequence vs x ≡ false → variable_form sig q x ≡ one_form)
  where
    over-operand : (a : Operand) → IsScopedOperand sig (Some vs) a → IsSoundOperand sig q a
    over-operand (var x) h = known x (IsName-is_name x h.0).is_word.some h.1
    over-operand (ground t) h = h

    over-single : (a : Operand) → IsScopedSingle sig (Some vs) a → IsSingle sig q a
    over-single (var x) h = single x h
    over-single (ground t) h = tt

    over-amount : (m : cond.Amount) → IsScopedAmount sig (Some vs) m → IsSoundAmount sig q m
    over-amount (fixed n) h = h
    over-amount (count a) h = over-operand a h
    over-amount (size a) h = over-operand a h

    mutual
      over-cond : (c : Cond) → IsScoped sig (Some vs) c → IsChecked sig q c
      over-cond (amounts m s n) h = (over-amount m h.0, over-amount n h.1)
      over-cond (cond.same a b) h = (over-operand a h.0, over-operand b h.1)
      over-cond (less a b) h =
          ((over-operand a h.0.0, over-single a h.0.1), (over-operand b h.1.0, over-single b h.1.1))
      over-cond (free a b) h = (over-operand a h.0, over-operand b h.1)
      over-cond (of_kind a k) h = (over-operand a h.0, h.1)
      over-cond (headed a f) h = (over-operand a h.0, h.1)
      over-cond (negation c) h = over-cond c h
      over-cond (all_of cs) h = (h.0, over-conds cs h.1)
      over-cond (any_of cs) h = (h.0, over-conds cs h.1)

      over-conds : (cs : Conds) → AreScoped sig (Some vs) cs → AreChecked sig q cs
      over-conds no_conds h = tt
      over-conds (more_conds c cs) h = (over-cond c h.0, over-conds cs h.1)

    -- a condition without faults is sound
    pub sound-cond_of : (room : ℕ) (c : Condition) → FitsCondition room c → ConditionHasNames c
        → condition_faults sig (Some vs) c ≡ [] → is_large_condition c ≡ false → IsSoundCondition sig q (cond_of sig c)
    sound-cond_of room c fit names none small =
        let h = scoped-cond_of sig ordered (Some vs) room c fit names none small in
        record { checked = over-cond (cond_of sig c) h.checked; few_atoms = h.few_atoms }
