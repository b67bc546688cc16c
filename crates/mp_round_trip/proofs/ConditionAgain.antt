-- What spells a condition stands for it, and has no faults where the condition is sound.
use Rattle.std.proofs.Common.{◌≡◌, ◌≤◌, ◌+◌, ℕ, true, false, ◌||◌, not, ltb, List, [], ◌∷◌, ◌++◌, length, Option, Some}
use Rattle.std.proofs.Common.{None, refl, sym, ap, subst, ◌∙◌, arith, rules, length-append}
use Rattle.std.specs.Prelude.{is_none}
use Rattle.std.specs.List.{list_any}
use Rattle.std.proofs.lemmas.List.Folds.{list_any-append}
use Rattle.mp_pattern.specs.declared.limits.TheConstants.{MAX_ATOMS, MAX_OPERAND_NODES, MAX_NUMBER}
use Rattle.mp_term.specs.Tree as term
use Rattle.mp_term.specs.Signature.{Sig}
use Rattle.mp_term.specs.Normal.{normal}
use Rattle.mp_pattern.specs.CondTree.{Operand, var, ground, fixed, count, size, Cond, amounts, same, less, free}
use Rattle.mp_pattern.specs.CondTree.{of_kind, headed, negation, all_of, any_of, Conds, no_conds, more_conds}
use Rattle.mp_pattern.specs.CondTree as cond
use Rattle.mp_pattern.specs.SoundRule.{atom_count, atom_counts}
use Rattle.mp_parser.specs.declared.condition_tree.Measure.TheVariants.{Count, Size}
use Rattle.mp_parser.specs.declared.condition_tree.Relation.TheVariants.{Same, Less, Free}
use Rattle.mp_parser.specs.declared.condition_tree.Property.TheVariants.{Kind, Head}
use Rattle.mp_parser.specs.Syntax.{Spot, Tree, Symbol, Apply, InfixOf, Variable, Trees, Amount, Number, Measured, Atom}
use Rattle.mp_parser.specs.Syntax.{Compare, Relate, Test, Literal, AtomOf, Bracketed, Literals, no_literals}
use Rattle.mp_parser.specs.Syntax.{more_literals, Condition, no_alternatives, more_alternatives}
use Rattle.mp_parser.specs.declared.place.Place.{Place}
use Rattle.mp_build.specs.declared.fault.TextFault.{TextFault}
use Rattle.mp_build.specs.Names.{number_of}
use Rattle.mp_build.specs.Build.{head_number, op_number, kind_number, term_of}
use Rattle.mp_build.specs.Checks.{nodes, has_large_default, is_large_operand, term_faults}
use Rattle.mp_build.specs.Scope.{Scope, is_bound, is_bound_sequence}
use Rattle.mp_build.specs.SoundCondition.{MayBeNamed, StandsForOne, IsScopedOperand, IsScopedSingle, IsScopedAmount}
use Rattle.mp_build.specs.SoundCondition.{IsScoped, AreScoped, IsScopedCondition}
use Rattle.mp_build.specs.Conditions.{literal_atoms, literals_atoms, atoms, amount_operands, joined, operand_of}
use Rattle.mp_build.specs.Conditions.{amount_of, atom_of, literal_of, literals_of, alternatives_of, cond_of}
use Rattle.mp_build.specs.Conditions.{condition_of}
use Rattle.mp_build.specs.ConditionChecks.{has_large_amount, has_large_operand, is_large_condition}
use Rattle.mp_build.specs.ConditionChecks.{has_large_condition, unbound_faults, sequence_faults, single_faults}
use Rattle.mp_build.specs.ConditionChecks.{operand_faults, related_faults, amount_faults, atom_faults, literal_faults}
use Rattle.mp_build.specs.ConditionChecks.{literals_faults, condition_faults, if_faults}
use Rattle.mp_build.proofs.Faultless.{nil-both, none-fault_if}
use Rattle.mp_build.proofs.SoundConditionLaws.{atom_count-all_of, atom_count-any_of, atom_count-atom_of}
use Rattle.mp_round_trip.proofs.ScopedCondition.{HasScopedCondition}
use Rattle.mp_round_trip.proofs.Spells.{SpellsTerm, SpellsOperand, SpellsAmount, SpellsAtom, SpellsLiteral}
use Rattle.mp_round_trip.proofs.Spells.{SpellLiterals}
use Rattle.mp_round_trip.proofs.Spells.{SpellAlternatives, SpellsCondition, SpellsIf}
use Rattle.mp_round_trip.proofs.TermAgain.{term_of-spells, has_large_default-spells, term_faults-spells, nodes-spells}

module _ (sig : Sig) where
  -- what holds of symbols and applications holds of what spells a term
  spelled-term : (P : Tree → Type 0) → ((w : Spot) → P (Symbol w)) → ((g : Spot) (args : Trees) → P (Apply g args))
      → ((opened : Place) (sign : Spot) (operands : Trees) → P (InfixOf opened sign operands))
      → (e : Tree) (t : term.Tree) → SpellsTerm sig e t → P e
  spelled-term P word before between (Symbol w) t s = word w
  spelled-term P word before between (Apply g args) t s = before g args
  spelled-term P word before between (InfixOf opened sign operands) t s = between opened sign operands
  spelled-term P word before between _ t s = absurd s

-- the condition of a rule, where there is one, is read again: it has no faults over the variables, isn't large, and
-- stands for this one
pub record IsConditionAgain (sig : Sig) (scope : Scope) (d : Option Condition) (o : Option Cond) : Type 0 where
  pub faultless : if_faults sig scope d ≡ []
  pub small : has_large_condition d ≡ false
  pub is : condition_of sig d ≡ o

-- a word that may be named isn't unbound
none-unbound : (scope : Scope) (x : Spot) (n : List ℕ) → x.text ≡ n → MayBeNamed scope n → unbound_faults scope x ≡ []
none-unbound None x n s h = refl
none-unbound (Some vs) x n s h =
    none-fault_if (not (is_bound vs x.text)) _ x.place (ap (λ n. not (is_bound vs n)) s ∙ ap not h.1)

-- a variable that stands for one term is none for several
none-sequence : (scope : Scope) (x : Spot) (n : List ℕ) → x.text ≡ n → StandsForOne scope n
    → sequence_faults scope x ≡ []
none-sequence None x n s h = refl
none-sequence (Some vs) x n s h =
    none-fault_if (is_bound_sequence vs x.text) _ x.place (ap (is_bound_sequence vs) s ∙ h)

module _ (sig : Sig) (scope : Scope) where
  -- ---- operands

  value-operand : (e : Tree) (a : Operand) → SpellsOperand sig e a → IsScopedOperand sig scope a → operand_of sig e ≡ a
  value-operand (Variable x) (var n) s h = ap var s
  value-operand e (ground t) s h =
      spelled-term sig (λ e. operand_of sig e ≡ ground (normal sig (term_of sig e))) (λ w. refl) (λ g args. refl)
      (λ opened sign operands. refl) e t s ∙ ap ground (ap (normal sig) (term_of-spells sig e t s) ∙ h.normal)
  value-operand _ _ s h = absurd s

  faults-operand : (e : Tree) (a : Operand) → SpellsOperand sig e a → IsScopedOperand sig scope a
      → operand_faults sig scope e ≡ []
  faults-operand (Variable x) (var n) s h = none-unbound scope x n s h
  faults-operand e (ground t) s h =
      spelled-term sig (λ e. operand_faults sig scope e ≡ term_faults sig e) (λ w. refl) (λ g args. refl)
      (λ opened sign operands. refl) e t s ∙ term_faults-spells sig e t s h.formed h.symbols
  faults-operand _ _ s h = absurd s

  faults-single : (e : Tree) (a : Operand) → SpellsOperand sig e a → IsScopedOperand sig scope a
      → IsScopedSingle sig scope a
      → single_faults scope e ≡ []
  faults-single (Variable x) (var n) s h one = none-sequence scope x n s one
  faults-single e (ground t) s h one = spelled-term sig (λ e. single_faults scope e ≡ []) (λ w. refl)
      (λ g args. refl) (λ opened sign operands. refl) e t s
  faults-single _ _ s h one = absurd s

  small-operand : (e : Tree) (a : Operand) → SpellsOperand sig e a → IsScopedOperand sig scope a
      → is_large_operand e ≡ false
  small-operand (Variable x) (var n) s h = refl
  small-operand e (ground t) s h =
      let few : nodes e ≤ MAX_OPERAND_NODES = omega (arith, nodes-spells sig e t s, h.few_nodes) in
      let test : ltb MAX_OPERAND_NODES (nodes e) ≡ false = search (rules, few) in
      ap (λ b. b || has_large_default e) test ∙ has_large_default-spells sig e t s
  small-operand _ _ s h = absurd s

  -- ---- amounts

  value-amount : (m : Amount) (a : cond.Amount) → SpellsAmount sig m a → IsScopedAmount sig scope a
      → amount_of sig m ≡ a
  value-amount (Number w) (fixed n) s h = ap fixed s
  value-amount (Measured Count e) (count a) s h = ap count (value-operand e a s h)
  value-amount (Measured Size e) (size a) s h = ap size (value-operand e a s h)
  value-amount _ _ s h = absurd s

  faults-amount : (m : Amount) (a : cond.Amount) → SpellsAmount sig m a → IsScopedAmount sig scope a
      → amount_faults sig scope m ≡ []
  faults-amount (Number w) (fixed n) s h =
      let few : number_of w.text ≤ MAX_NUMBER = omega (arith, s, h) in
      let test : ltb MAX_NUMBER (number_of w.text) ≡ false = search (rules, few) in
      none-fault_if (ltb MAX_NUMBER (number_of w.text)) _ w.place test
  faults-amount (Measured Count e) (count a) s h = faults-operand e a s h
  faults-amount (Measured Size e) (size a) s h = faults-operand e a s h
  faults-amount _ _ s h = absurd s

  small-amount : (m : Amount) (a : cond.Amount) → SpellsAmount sig m a → IsScopedAmount sig scope a
      → has_large_amount m ≡ false
  small-amount (Number w) (fixed n) s h = refl
  small-amount (Measured Count e) (count a) s h = ap (λ b. b || false) (small-operand e a s h)
  small-amount (Measured Size e) (size a) s h = ap (λ b. b || false) (small-operand e a s h)
  small-amount _ _ s h = absurd s

  -- ---- atoms

  value-atom : (a : Atom) (c : Cond) → SpellsAtom sig a c → IsScoped sig scope c → atom_of sig a ≡ c
  value-atom (Compare m k n) (amounts x c y) s h =
      λ i. amounts (value-amount m x s.0 h.0 i) (s.1 i) (value-amount n y s.2 h.1 i)
  value-atom (Relate Same e d) (same a b) s h = λ i. same (value-operand e a s.0 h.0 i) (value-operand d b s.1 h.1 i)
  value-atom (Relate Less e d) (less a b) s h =
      λ i. less (value-operand e a s.0 h.0.0 i) (value-operand d b s.1 h.1.0 i)
  value-atom (Relate Free e d) (free a b) s h = λ i. free (value-operand e a s.0 h.0 i) (value-operand d b s.1 h.1 i)
  value-atom (Test Kind e w) (of_kind a k) s h = λ i. of_kind (value-operand e a s.0 h.0 i) (head_number (s.1 i))
  value-atom (Test Head e w) (headed a f) s h = λ i. headed (value-operand e a s.0 h.0 i) (head_number (s.1 i))
  value-atom _ _ s h = absurd s

  faults-atom : (a : Atom) (c : Cond) → SpellsAtom sig a c → IsScoped sig scope c → atom_faults sig scope a ≡ []
  faults-atom (Compare m k n) (amounts x c y) s h =
      nil-both (amount_faults sig scope m) _ (faults-amount m x s.0 h.0) (faults-amount n y s.2 h.1)
  faults-atom (Relate Same e d) (same a b) s h =
      nil-both (operand_faults sig scope e) _ (faults-operand e a s.0 h.0) (faults-operand d b s.1 h.1)
  faults-atom (Relate Less e d) (less a b) s h =
      nil-both (related_faults sig scope Less e) _
      (nil-both (operand_faults sig scope e) _ (faults-operand e a s.0 h.0.0)
      (faults-single e a s.0 h.0.0 h.0.1))
      (nil-both (operand_faults sig scope d) _ (faults-operand d b s.1 h.1.0) (faults-single d b s.1 h.1.0 h.1.1))
  faults-atom (Relate Free e d) (free a b) s h =
      nil-both (operand_faults sig scope e) _ (faults-operand e a s.0 h.0) (faults-operand d b s.1 h.1)
  faults-atom (Test Kind e w) (of_kind a k) s h =
      nil-both (operand_faults sig scope e) _ (faults-operand e a s.0 h.0)
      (none-fault_if (is_none (kind_number sig w.text)) _ w.place (ap is_none s.1))
  faults-atom (Test Head e w) (headed a f) s h =
      nil-both (operand_faults sig scope e) _ (faults-operand e a s.0 h.0)
      (none-fault_if (is_none (op_number sig w.text)) _ w.place (ap is_none s.1))
  faults-atom _ _ s h = absurd s

  small-two : (e d : Tree) → is_large_operand e ≡ false → is_large_operand d ≡ false
      → (is_large_operand e || (is_large_operand d || false)) ≡ false
  small-two e d h k = ap (λ b. b || (is_large_operand d || false)) h ∙ ap (λ b. b || false) k

  small-atom : (a : Atom) (c : Cond) → SpellsAtom sig a c → IsScoped sig scope c → has_large_operand a ≡ false
  small-atom (Compare m k n) (amounts x c y) s h =
      list_any-append is_large_operand (amount_operands m) (amount_operands n)
      ∙ ap (λ b. b || has_large_amount n) (small-amount m x s.0 h.0) ∙ small-amount n y s.2 h.1
  small-atom (Relate Same e d) (same a b) s h = small-two e d (small-operand e a s.0 h.0) (small-operand d b s.1 h.1)
  small-atom (Relate Less e d) (less a b) s h =
      small-two e d (small-operand e a s.0 h.0.0) (small-operand d b s.1 h.1.0)
  small-atom (Relate Free e d) (free a b) s h = small-two e d (small-operand e a s.0 h.0) (small-operand d b s.1 h.1)
  small-atom (Test Kind e w) (of_kind a k) s h = ap (λ b. b || false) (small-operand e a s.0 h.0)
  small-atom (Test Head e w) (headed a f) s h = ap (λ b. b || false) (small-operand e a s.0 h.0)
  small-atom _ _ s h = absurd s

  -- ---- literals and alternatives

  -- the parts of a condition that is checked are checked
  checked-parts : (join : Conds → Cond) → ((cs : Conds) → IsScoped sig scope (join cs) → AreScoped sig scope cs)
      → (cs : Conds) (c : Cond) → joined join cs ≡ c → IsScoped sig scope c → AreScoped sig scope cs
  checked-parts join each no_conds c e h = tt
  checked-parts join each (more_conds b no_conds) c e h = (subst (IsScoped sig scope) (sym e) h, tt)
  checked-parts join each (more_conds b (more_conds d cs)) c e h =
      each (more_conds b (more_conds d cs)) (subst (IsScoped sig scope) (sym e) h)

  -- what literals show: they have no faults, their atoms aren't large and so many, and they stand for a value
  record Again {X : Type 0} (faults : List TextFault) (own : List Atom) (n : ℕ) (value expected : X) : Type 0 where
    faultless : faults ≡ []
    small : list_any has_large_operand own ≡ false
    count : length own ≡ n
    is : value ≡ expected

  again-atom : (a : Atom) (c : Cond) → SpellsAtom sig a c → IsScoped sig scope c
      → Again (atom_faults sig scope a) (a ∷ []) (atom_count c) (atom_of sig a) c
  again-atom a c s h = record {
    faultless = faults-atom a c s h;
    small = ap (λ b. b || false) (small-atom a c s h);
    count = sym (atom_count-atom_of sig a) ∙ ap atom_count (value-atom a c s h);
    is = value-atom a c s h;
  }

  -- what shows so in two parts
  again-both : {X Y Z : Type 0} (join : X → Y → Z) (fs gs : List TextFault) (own more : List Atom) (m n : ℕ) (x v : X)
      (y w : Y) → Again fs own m x v → Again gs more n y w
      → Again (fs ++ gs) (own ++ more) (m + n) (join x y) (join v w)
  again-both join fs gs own more m n x v y w r s = record {
    faultless = nil-both fs gs r.faultless s.faultless;
    small = list_any-append has_large_operand own more ∙ ap (λ b. b || list_any has_large_operand more) r.small
        ∙ s.small;
    count = length-append own more ∙ (λ i. r.count i + s.count i);
    is = λ i. join (r.is i) (s.is i);
  }

  -- what stands for conditions stands for what they are joined to
  again-joined : (join : Conds → Cond) → ((cs : Conds) → atom_count (joined join cs) ≡ atom_counts cs)
      → (fs : List TextFault) (own : List Atom) (v cs : Conds) (c : Cond) → joined join cs ≡ c
      → Again fs own (atom_counts cs) v cs → Again fs own (atom_count c) (joined join v) c
  again-joined join counts fs own v cs c e r =
      record {
        faultless = r.faultless;
        small = r.small;
        count = r.count ∙ sym (counts cs) ∙ ap atom_count e;
        is = ap (joined join) r.is ∙ e;
      }

  -- a whole condition, of which the alternatives show so
  again-whole : (d : Condition) (c : Cond) (s : SpellsCondition sig d c)
      → (AreScoped sig scope s.0 → Again (condition_faults sig scope d) (atoms d) (atom_counts s.0)
      (alternatives_of sig d) s.0) → IsScoped sig scope c
      → Again (condition_faults sig scope d) (atoms d) (atom_count c) (cond_of sig d) c
  again-whole d c s again h = again-joined any_of atom_count-any_of (condition_faults sig scope d) (atoms d)
      (alternatives_of sig d) s.0 c s.1 (again (checked-parts any_of (λ cs k. k.1) s.0 c s.1 h))

  mutual
    again-literal : (l : Literal) (c : Cond) → SpellsLiteral sig l c → IsScoped sig scope c
        → Again (literal_faults sig scope l) (literal_atoms l) (atom_count c) (literal_of sig l) c
    again-literal (AtomOf false a) c s h = again-atom a c s h
    again-literal (AtomOf true a) (negation c) s h = let r = again-atom a c s h in
        record { faultless = r.faultless; small = r.small; count = r.count; is = ap negation r.is }
    again-literal (Bracketed false d) c s h = again-whole d c s (again-alternatives d s.0 s.2) h
    again-literal (Bracketed true d) (negation c) s h = let r = again-whole d c s (again-alternatives d s.0 s.2) h in
        record { faultless = r.faultless; small = r.small; count = r.count; is = ap negation r.is }
    again-literal _ _ s h = absurd s

    again-literals : (ls : Literals) (cs : Conds) → SpellLiterals sig ls cs → AreScoped sig scope cs
        → Again (literals_faults sig scope ls) (literals_atoms ls) (atom_counts cs) (literals_of sig ls) cs
    again-literals no_literals no_conds s h = record { faultless = refl; small = refl; count = refl; is = refl }
    again-literals (more_literals l ls) (more_conds c cs) s h =
        again-both (λ c cs. more_conds c cs) (literal_faults sig scope l) _ (literal_atoms l) _ _ _ _ _ _ _
        (again-literal l c s.0 h.0) (again-literals ls cs s.1 h.1)
    again-literals _ _ s h = absurd s

    again-alternatives : (d : Condition) (cs : Conds) → SpellAlternatives sig d cs → AreScoped sig scope cs
        → Again (condition_faults sig scope d) (atoms d) (atom_counts cs) (alternatives_of sig d) cs
    again-alternatives no_alternatives no_conds s h =
        record { faultless = refl; small = refl; count = refl; is = refl }
    again-alternatives (more_alternatives ls d) (more_conds c cs) s h =
        again-both (λ c cs. more_conds c cs) (literals_faults sig scope ls) _ (literals_atoms ls) _ _ _ _ _ _ _
        (again-joined all_of atom_count-all_of (literals_faults sig scope ls) (literals_atoms ls)
        (literals_of sig ls) s.0.0 c s.0.1
        (again-literals ls s.0.0 s.0.2 (checked-parts all_of (λ cs k. k.1) s.0.0 c s.0.1 h.0)))
        (again-alternatives d cs s.1 h.1)
    again-alternatives _ _ s h = absurd s

  -- it has no faults, isn't large, and stands for the condition
  pub record IsAgain (d : Condition) (c : Cond) : Type 0 where
    pub faultless : condition_faults sig scope d ≡ []
    pub small : is_large_condition d ≡ false
    pub is : cond_of sig d ≡ c

  pub single-again : (d : Condition) (c : Cond) → SpellsCondition sig d c → IsScopedCondition sig scope c
      → IsAgain d c
  single-again d c s h =
      let r = again-whole d c s (again-alternatives d s.0 s.2) h.checked in
      let few : length (atoms d) ≤ MAX_ATOMS = omega (arith, r.count, h.few_atoms) in
      let test : ltb MAX_ATOMS (length (atoms d)) ≡ false = search (rules, few) in
      record {
        faultless = r.faultless;
        small = ap (λ b. b || list_any has_large_operand (atoms d)) test ∙ r.small;
        is = r.is;
      }

  pub condition-again : (d : Option Condition) (o : Option Cond) → SpellsIf sig d o → HasScopedCondition sig scope o
      → IsConditionAgain sig scope d o
  condition-again None None s h = record { faultless = refl; small = refl; is = refl }
  condition-again (Some d) (Some c) s h = let r = single-again d c s h in
      record { faultless = r.faultless; small = r.small; is = ap Some r.is }
  condition-again _ _ s h = absurd s
