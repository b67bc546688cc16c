-- A sound condition is spelled in names, and in no more brackets than the condition that was read stood in.
use Rattle.std.proofs.Common.{◌≡◌, ◌≤◌, ℕ, zero, suc, true, false, List, Option, Some, None, option_map, refl, sym}
use Rattle.std.proofs.Common.{subst}
use Rattle.std.proofs.Common.{arith}
use Rattle.mp_pattern.specs.declared.limits.TheConstants.{MAX_DEPTH}
use Rattle.mp_term.specs.Signature.{Sig}
use Rattle.mp_term.proofs.NormalSize.{depth-normal}
use Rattle.mp_pattern.specs.CondTree.{Operand, var, ground, fixed, count, size, Cond, amounts, less, free, of_kind}
use Rattle.mp_pattern.specs.CondTree.{headed, negation, all_of, any_of, Conds, no_conds, more_conds}
use Rattle.mp_pattern.specs.CondTree as cond
use Rattle.mp_pattern.specs.SoundRule.{AreSeveral}
use Rattle.mp_parser.specs.declared.limits.TheConstants.{MAX_OPEN}
use Rattle.mp_parser.specs.declared.condition_tree.Measure.TheVariants.{Count, Size}
use Rattle.mp_parser.specs.declared.condition_tree.Relation.TheVariants.{Same, Less, Free}
use Rattle.mp_parser.specs.declared.condition_tree.Property.TheVariants.{Kind, Head}
use Rattle.mp_parser.specs.Syntax.{Tree, Variable, Amount, Number, Measured, Atom, Compare, Relate, Test, Literal}
use Rattle.mp_parser.specs.Syntax.{AtomOf, Bracketed, Literals, no_literals, more_literals, Condition, no_alternatives}
use Rattle.mp_parser.specs.Syntax.{more_alternatives, Fits, FitsAmount, FitsAtom, HasLiteral, HasAlternative}
use Rattle.mp_parser.specs.Syntax.{FitsLiteral, LiteralsFit, AlternativesFit, FitsCondition, FitsIf, IsName, HasNames}
use Rattle.mp_parser.specs.Syntax.{AmountHasNames}
use Rattle.mp_parser.specs.Syntax.{LiteralHasNames, LiteralsHaveNames, ConditionHasNames, IfHasNames}
use Rattle.mp_parser.proofs.Trees.{variable-fits}
use Rattle.mp_build.specs.Build.{term_of}
use Rattle.mp_build.specs.Conditions.{joined, operand_of, amount_of, atom_of, literal_of, literals_of, alternatives_of}
use Rattle.mp_build.specs.Conditions.{cond_of, condition_of}
use Rattle.mp_build.specs.Scope.{Scope}
use Rattle.mp_build.specs.SoundCondition.{MayBeNamed, IsScopedOperand, IsScopedAmount, IsScoped, AreScoped}
use Rattle.mp_round_trip.specs.OpenBrackets.{operand_depth, amount_depth, negated_depth, literal_depth, literals_depth}
use Rattle.mp_round_trip.specs.OpenBrackets.{alternatives_depth, condition_depth, IsShallowIf}
use Rattle.mp_round_trip.specs.Spelled.{piece, negated_spelling, operand_spelling, amount_spelling, literal_spelling}
use Rattle.mp_round_trip.specs.Spelled.{literal_spellings, alternative_spellings, cond_spelling}
use Rattle.mp_build.proofs.Words.{IsName-is_name}
use Rattle.mp_build.proofs.SoundLaws.{depth-term_of}
use Rattle.mp_round_trip.proofs.Spelled.{negated-twice}
use Rattle.mp_round_trip.proofs.SpelledHead.{HasOps, held-kind, held-op}
use Rattle.mp_round_trip.proofs.SpelledTerm.{HasNames-term_spelling, Fits-term_spelling}
use Rattle.mp_round_trip.proofs.SpelledDeclarations.{number-written, name-written}
use Rattle.mp_round_trip.proofs.ScopedCondition.{HasScopedCondition}

-- ---- a condition that is read

-- what is in brackets, perhaps behind `not`
lift : (c : Cond) (room : ℕ) → condition_depth c ≤ room → literal_depth c ≤ suc room
lift (all_of cs) room h = omega arith
lift (any_of cs) room h = omega arith
lift _ room h = omega arith

lift-negated : (c : Cond) (room : ℕ) → condition_depth c ≤ room → negated_depth c (literal_depth c) ≤ suc room
lift-negated (negation c) room h = omega arith
lift-negated (all_of cs) room h = omega arith
lift-negated (any_of cs) room h = omega arith
lift-negated _ room h = omega arith

joined-any : (cs : Conds) (room : ℕ) → alternatives_depth cs ≤ room → condition_depth (joined any_of cs) ≤ room
joined-any no_conds room h = h
joined-any (more_conds (all_of bs) no_conds) room h = omega arith
joined-any (more_conds (any_of bs) no_conds) room h = omega arith
joined-any (more_conds c no_conds) room h = omega arith
joined-any (more_conds c (more_conds d cs)) room h = h

joined-all : (bs cs : Conds) (room : ℕ) → literals_depth bs ≤ room → alternatives_depth cs ≤ room
    → alternatives_depth (more_conds (joined all_of bs) cs) ≤ room
joined-all no_conds cs room h k = omega arith
joined-all (more_conds (all_of bs) no_conds) cs room h k = omega arith
joined-all (more_conds b no_conds) cs room h k = omega arith
joined-all (more_conds b (more_conds d bs)) cs room h k = omega arith

module _ (sig : Sig) where
  shallow-operand : (room : ℕ) (t : Tree) → Fits room t → operand_depth (operand_of sig t) ≤ room
  shallow-operand room (Variable x) h = omega arith
  shallow-operand room t h = omega (arith, depth-normal sig (term_of sig t), depth-term_of sig room t h)

  shallow-amount : (room : ℕ) (m : Amount) → FitsAmount room m → amount_depth (amount_of sig m) ≤ room
  shallow-amount room (Number n) h = omega arith
  shallow-amount zero (Measured k t) h = absurd h
  shallow-amount (suc room) (Measured Count t) h = omega (arith, shallow-operand room t h)
  shallow-amount (suc room) (Measured Size t) h = omega (arith, shallow-operand room t h)

  shallow-atom : (room : ℕ) (a : Atom) → FitsAtom room a → literal_depth (atom_of sig a) ≤ room
  shallow-atom room (Compare m s n) h = omega (arith, shallow-amount room m h.0, shallow-amount room n h.1)
  shallow-atom zero (Relate k t u) h = absurd h
  shallow-atom (suc room) (Relate Same t u) h = omega (arith, shallow-operand room t h.0, shallow-operand room u h.1)
  shallow-atom (suc room) (Relate Less t u) h = omega (arith, shallow-operand room t h.0, shallow-operand room u h.1)
  shallow-atom (suc room) (Relate Free t u) h = omega (arith, shallow-operand room t h.0, shallow-operand room u h.1)
  shallow-atom zero (Test k t n) h = absurd h
  shallow-atom (suc room) (Test Kind t n) h = omega (arith, shallow-operand room t h)
  shallow-atom (suc room) (Test Head t n) h = omega (arith, shallow-operand room t h)

  -- an atom is no negation
  plain-atom : (a : Atom) (n : ℕ) → negated_depth (atom_of sig a) n ≤ n
  plain-atom (Compare m s k) n = omega arith
  plain-atom (Relate Same t u) n = omega arith
  plain-atom (Relate Less t u) n = omega arith
  plain-atom (Relate Free t u) n = omega arith
  plain-atom (Test Kind t w) n = omega arith
  plain-atom (Test Head t w) n = omega arith

  mutual
    shallow-literal : (room : ℕ) (l : Literal) → FitsLiteral room l → literal_depth (literal_of sig l) ≤ room
    shallow-literal room (AtomOf false a) h = shallow-atom room a h
    shallow-literal room (AtomOf true a) h =
        omega (arith, plain-atom a (literal_depth (atom_of sig a)), shallow-atom room a h)
    shallow-literal zero (Bracketed negated d) h = absurd h
    shallow-literal (suc room) (Bracketed false d) h =
        lift (cond_of sig d) room (joined-any (alternatives_of sig d) room (shallow-alternatives room d h.1))
    shallow-literal (suc room) (Bracketed true d) h =
        lift-negated (cond_of sig d) room (joined-any (alternatives_of sig d) room (shallow-alternatives room d h.1))

    shallow-literals : (room : ℕ) (ls : Literals) → LiteralsFit room ls → literals_depth (literals_of sig ls) ≤ room
    shallow-literals room no_literals h = omega arith
    shallow-literals room (more_literals l ls) h =
        omega (arith, shallow-literal room l h.0, shallow-literals room ls h.1)

    shallow-alternatives : (room : ℕ) (d : Condition) → AlternativesFit room d
        → alternatives_depth (alternatives_of sig d) ≤ room
    shallow-alternatives room no_alternatives h = omega arith
    shallow-alternatives room (more_alternatives ls d) h =
        joined-all (literals_of sig ls) (alternatives_of sig d) room (shallow-literals room ls h.1)
        (shallow-alternatives room d h.2)

  -- a condition is no deeper than its brackets
  pub shallow-cond_of : (d : Condition) → FitsCondition MAX_OPEN d → condition_depth (cond_of sig d) ≤ MAX_DEPTH
  shallow-cond_of d h = joined-any (alternatives_of sig d) MAX_DEPTH (shallow-alternatives MAX_DEPTH d h.1)

  pub shallow-condition_of : (o : Option Condition) → FitsIf MAX_OPEN o → IsShallowIf (condition_of sig o)
  shallow-condition_of None h = tt
  shallow-condition_of (Some d) h = shallow-cond_of d h

-- ---- a condition as it is spelled

-- a literal without `not`
abbrev IsPlain : Literal → Type 0
IsPlain (AtomOf negated a) = negated ≡ false
IsPlain (Bracketed negated d) = negated ≡ false

names-negated : (l : Literal) → LiteralHasNames l → LiteralHasNames (negated_spelling l)
names-negated (AtomOf false a) h = h
names-negated (AtomOf true a) h = ((h, tt), tt)
names-negated (Bracketed false d) h = h
names-negated (Bracketed true d) h = ((h, tt), tt)

fits-negated : (room : ℕ) (l : Literal) → IsPlain l → FitsLiteral room l → FitsLiteral room (negated_spelling l)
fits-negated zero (AtomOf false a) plain h = h
fits-negated (suc room) (AtomOf false a) plain h = h
fits-negated zero (Bracketed false d) plain h = absurd h
fits-negated (suc room) (Bracketed false d) plain h = h
fits-negated room (AtomOf true a) plain h = absurd cc
fits-negated room (Bracketed true d) plain h = absurd cc

-- a second `not`
fits-twice : (room : ℕ) (l : Literal) → FitsLiteral room (negated_spelling l)
    → FitsLiteral (suc room) (negated_spelling (negated_spelling l))
fits-twice room l h = subst (FitsLiteral (suc room)) (sym (negated-twice l)) (tt, (tt, (h, tt), tt))

-- a word that may be named is a name
named-scope : (scope : Scope) (x : List ℕ) → MayBeNamed scope x → IsName x
named-scope None x h = IsName-is_name x h
named-scope (Some vs) x h = IsName-is_name x h.0

module _ (sig : Sig) (has : HasOps sig) (scope : Scope) where
  -- ---- names

  names-operand : (a : Operand) → IsScopedOperand sig scope a → HasNames (operand_spelling sig a)
  names-operand (var x) h = named-scope scope x h
  names-operand (ground t) h = HasNames-term_spelling sig has t h.formed h.symbols

  names-amount : (m : cond.Amount) → IsScopedAmount sig scope m → AmountHasNames (amount_spelling sig m)
  names-amount (fixed n) h = name-written n h
  names-amount (count a) h = names-operand a h
  names-amount (size a) h = names-operand a h

  mutual
    names-literal : (c : Cond) → IsScoped sig scope c → LiteralHasNames (literal_spelling sig c)
    names-literal (amounts m s n) h = (names-amount m h.0, names-amount n h.1)
    names-literal (cond.same a b) h = (names-operand a h.0, names-operand b h.1)
    names-literal (less a b) h = (names-operand a h.0.0, names-operand b h.1.0)
    names-literal (free a b) h = (names-operand a h.0, names-operand b h.1)
    names-literal (of_kind a k) h = (names-operand a h.0, (held-kind sig has k h.1).name)
    names-literal (headed a f) h = (names-operand a h.0, (held-op sig has f h.1).name)
    names-literal (negation c) h = names-negated (literal_spelling sig c) (names-literal c h)
    names-literal (all_of cs) h = (names-literals cs h.1, tt)
    names-literal (any_of cs) h = names-alternatives cs h.1

    names-literals : (cs : Conds) → AreScoped sig scope cs → LiteralsHaveNames (literal_spellings sig cs)
    names-literals no_conds h = tt
    names-literals (more_conds c cs) h = (names-literal c h.0, names-literals cs h.1)

    names-alternatives : (cs : Conds) → AreScoped sig scope cs → ConditionHasNames (alternative_spellings sig cs)
    names-alternatives no_conds h = tt
    names-alternatives (more_conds (all_of bs) cs) h = (names-literals bs h.0.1, names-alternatives cs h.1)
    names-alternatives (more_conds c cs) h = ((names-literal c h.0, tt), names-alternatives cs h.1)

  -- its words are names
  pub HasNames-cond_spelling : (c : Cond) → IsScoped sig scope c → ConditionHasNames (cond_spelling sig c)
  HasNames-cond_spelling (all_of cs) h = (names-literals cs h.1, tt)
  HasNames-cond_spelling (any_of cs) h = names-alternatives cs h.1
  HasNames-cond_spelling c h = ((names-literal c h, tt), tt)

  pub HasNames-if_spelling : (o : Option Cond) → HasScopedCondition sig scope o
      → IfHasNames (option_map (cond_spelling sig) o)
  HasNames-if_spelling None h = tt
  HasNames-if_spelling (Some c) h = HasNames-cond_spelling c h.checked

  -- ---- brackets

  fits-operand : (room : ℕ) (a : Operand) → IsScopedOperand sig scope a → operand_depth a ≤ room
      → Fits room (operand_spelling sig a)
  fits-operand room (var x) h few = variable-fits room (piece x)
  fits-operand room (ground t) h few = Fits-term_spelling sig has t room h.formed few

  fits-amount : (room : ℕ) (m : cond.Amount) → IsScopedAmount sig scope m → amount_depth m ≤ room
      → FitsAmount room (amount_spelling sig m)
  fits-amount room (fixed n) h few = (number-written n h).writes.are_digits
  fits-amount zero (count a) h few = absurd (omega arith)
  fits-amount (suc room) (count a) h few = fits-operand room a h (omega arith)
  fits-amount zero (size a) h few = absurd (omega arith)
  fits-amount (suc room) (size a) h few = fits-operand room a h (omega arith)

  some-literal : (cs : Conds) → AreSeveral cs → HasLiteral (literal_spellings sig cs)
  some-literal no_conds h = absurd h
  some-literal (more_conds c cs) h = tt

  some-alternative : (cs : Conds) → AreSeveral cs → HasAlternative (alternative_spellings sig cs)
  some-alternative no_conds h = absurd h
  some-alternative (more_conds c cs) h = tt

  mutual
    fits-literal : (room : ℕ) (c : Cond) → IsScoped sig scope c → literal_depth c ≤ room
        → FitsLiteral room (literal_spelling sig c)
    fits-literal room (amounts m s n) h few =
        (fits-amount room m h.0 (omega arith), fits-amount room n h.1 (omega arith))
    fits-literal (suc room) (cond.same a b) h few =
        (fits-operand room a h.0 (omega arith), fits-operand room b h.1 (omega arith))
    fits-literal (suc room) (less a b) h few =
        (fits-operand room a h.0.0 (omega arith), fits-operand room b h.1.0 (omega arith))
    fits-literal (suc room) (free a b) h few =
        (fits-operand room a h.0 (omega arith), fits-operand room b h.1 (omega arith))
    fits-literal (suc room) (of_kind a k) h few = fits-operand room a h.0 (omega arith)
    fits-literal (suc room) (headed a f) h few = fits-operand room a h.0 (omega arith)
    fits-literal (suc room) (negation (negation c)) h few =
        fits-twice room (literal_spelling sig c) (fits-literal room (negation c) h (omega arith))
    fits-literal zero (negation (negation c)) h few = absurd (omega arith)
    fits-literal room (negation c) h few = fits-negated room (literal_spelling sig c) refl (fits-literal room c h few)
    fits-literal (suc room) (all_of cs) h few = (tt, (some-literal cs h.0, fits-literals room cs h.1 (omega arith), tt))
    fits-literal (suc room) (any_of cs) h few = (some-alternative cs h.0, fits-alternatives room cs h.1 (omega arith))
    fits-literal zero _ h few = absurd (omega arith)

    fits-literals : (room : ℕ) (cs : Conds) → AreScoped sig scope cs → literals_depth cs ≤ room
        → LiteralsFit room (literal_spellings sig cs)
    fits-literals room no_conds h few = tt
    fits-literals room (more_conds c cs) h few =
        (fits-literal room c h.0 (omega arith), fits-literals room cs h.1 (omega arith))

    fits-alternatives : (room : ℕ) (cs : Conds) → AreScoped sig scope cs → alternatives_depth cs ≤ room
        → AlternativesFit room (alternative_spellings sig cs)
    fits-alternatives room no_conds h few = tt
    fits-alternatives room (more_conds (all_of bs) cs) h few =
        (some-literal bs h.0.0, fits-literals room bs h.0.1 (omega arith), fits-alternatives room cs h.1 (omega arith))
    fits-alternatives room (more_conds c cs) h few =
        (tt, (fits-literal room c h.0 (omega arith), tt), fits-alternatives room cs h.1 (omega arith))

  -- no more brackets stand open in it at once than it is deep
  pub Fits-cond_spelling : (c : Cond) → IsScoped sig scope c → condition_depth c ≤ MAX_DEPTH
      → FitsCondition MAX_OPEN (cond_spelling sig c)
  Fits-cond_spelling (all_of cs) h few = (tt, (some-literal cs h.0, fits-literals MAX_DEPTH cs h.1 few, tt))
  Fits-cond_spelling (any_of cs) h few = (some-alternative cs h.0, fits-alternatives MAX_DEPTH cs h.1 few)
  Fits-cond_spelling c h few = (tt, (tt, (fits-literal MAX_DEPTH c h few, tt), tt))

  pub Fits-if_spelling : (o : Option Cond) → HasScopedCondition sig scope o → IsShallowIf o
      → FitsIf MAX_OPEN (option_map (cond_spelling sig) o)
  Fits-if_spelling None h few = tt
  Fits-if_spelling (Some c) h few = Fits-cond_spelling c h.checked few
