-- A sound rule can be planned and matched.
use Rattle.std.proofs.Common.{◌≡◌, false, length, Option, Some, None, refl, arith}
use Rattle.std.specs.Prelude.{nat_lt}
use Rattle.std.specs.List.{AllByRecursion}
use Rattle.std.proofs.lemmas.Bool.Decides.{nat_tests}
use Rattle.mp_term.specs.Signature.{Sig}
use Rattle.mp_term.proofs.ListLaws.{all-append, all-also}
use Rattle.mp_pattern.specs.declared.limits.TheConstants.{MAX_PATTERN_NODES, MAX_VARIABLES}
use Rattle.mp_pattern.specs.PatternTree.{Wildcard, dot, kind, plus, star, optional, counted, Pattern}
use Rattle.mp_pattern.specs.CondTree.{Operand, var, ground, Amount, fixed, count, size, Cond, amounts, same, less, free}
use Rattle.mp_pattern.specs.CondTree.{of_kind, headed, negation, all_of, any_of, Conds, no_conds, more_conds}
use Rattle.mp_pattern.specs.Size.{pattern_nodes}
use Rattle.mp_pattern.specs.Limits.{DefaultIsSmall, DefaultsAreSmall}
use Rattle.mp_pattern.specs.Operands.{amount_operands, operands, all_operands, IsOperandOver, HasConditionOver}
use Rattle.mp_pattern.specs.Variables.{variables}
use Rattle.mp_pattern.specs.PlanFault.{plan_fault}
use Rattle.mp_pattern.specs.SoundRule.{IsSoundWildcard, IsFormed, IsSoundPattern, IsSoundOperand, IsSoundAmount}
use Rattle.mp_pattern.specs.SoundRule.{IsChecked, AreChecked, HasSoundCondition}
use Rattle.mp_pattern.proofs.Formed.{EachWildcard-IsFormed}

module _ (sig : Sig) where
  small-wildcard : (w : Wildcard) → IsSoundWildcard sig w → DefaultIsSmall w
  small-wildcard dot h = tt
  small-wildcard (kind k) h = tt
  small-wildcard plus h = tt
  small-wildcard star h = tt
  small-wildcard (optional t) h = h.few_nodes
  small-wildcard (counted n b) h = tt

  -- the defaults of a formed pattern are small
  pub DefaultsAreSmall-IsFormed : (p : Pattern) → IsFormed sig p → DefaultsAreSmall p
  DefaultsAreSmall-IsFormed = EachWildcard-IsFormed sig DefaultIsSmall small-wildcard

  -- a sound pattern has a plan
  pub plan_fault-IsSoundPattern : (p : Pattern) → IsSoundPattern sig p → plan_fault p ≡ None
  plan_fault-IsSoundPattern p h =
      let nodes : nat_lt MAX_PATTERN_NODES (pattern_nodes p) ≡ false = grind (arith, nat_tests, h.few_nodes) in
      let names : nat_lt MAX_VARIABLES (length (variables p)) ≡ false = grind (arith, nat_tests, h.few_variables) in
      rw (h.plain_root, nodes, names, h.no_clash) refl

  module _ (p : Pattern) where
    -- one of the variables of the pattern, or a small term
    abbrev IsOver : Operand → Type 0
    IsOver = IsOperandOver (variables p)

    over-operand : (a : Operand) → IsSoundOperand sig p a → IsOver a
    over-operand (var x) h = h
    over-operand (ground t) h = h.few_nodes

    sound-amount : (m : Amount) → IsSoundAmount sig p m → AllByRecursion (IsSoundOperand sig p) (amount_operands m)
    sound-amount (fixed n) h = tt
    sound-amount (count a) h = (h, tt)
    sound-amount (size a) h = (h, tt)

    mutual
      -- the operands of a checked condition are sound
      pub operands-IsChecked : (c : Cond) → IsChecked sig p c → AllByRecursion (IsSoundOperand sig p) (operands c)
      operands-IsChecked (amounts m s n) h =
          all-append (IsSoundOperand sig p) (amount_operands m) (amount_operands n) (sound-amount m h.0)
          (sound-amount n h.1)
      operands-IsChecked (same a b) h = (h.0, (h.1, tt))
      operands-IsChecked (less a b) h = (h.0.0, (h.1.0, tt))
      operands-IsChecked (free a b) h = (h.0, (h.1, tt))
      operands-IsChecked (of_kind a k) h = (h.0, tt)
      operands-IsChecked (headed a f) h = (h.0, tt)
      operands-IsChecked (negation c) h = operands-IsChecked c h
      operands-IsChecked (all_of cs) h = operands-AreChecked cs h.1
      operands-IsChecked (any_of cs) h = operands-AreChecked cs h.1

      operands-AreChecked : (cs : Conds) → AreChecked sig p cs → AllByRecursion (IsSoundOperand sig p) (all_operands cs)
      operands-AreChecked no_conds h = tt
      operands-AreChecked (more_conds c cs) h = all-append (IsSoundOperand sig p) (operands c) (all_operands cs)
          (operands-IsChecked c h.0) (operands-AreChecked cs h.1)

    -- a sound condition is over the variables of the pattern
    pub HasConditionOver-HasSoundCondition : (o : Option Cond) → HasSoundCondition sig p o
        → HasConditionOver (variables p) o
    HasConditionOver-HasSoundCondition None h = tt
    HasConditionOver-HasSoundCondition (Some c) h =
        all-also (IsSoundOperand sig p) IsOver over-operand (operands c) (operands-IsChecked c h.checked)
