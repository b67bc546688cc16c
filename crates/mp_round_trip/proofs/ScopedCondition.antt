-- A condition that is sound over a pattern is one over the variables that may be named, where they are the pattern's.
use Rattle.std.proofs.Common.{◌≡◌, ℕ, true, List, Option, Some, None}
use Rattle.mp_term.specs.Signature.{Sig}
use Rattle.mp_pattern.specs.PatternTree.{Pattern}
use Rattle.mp_pattern.specs.CondTree as cond
use Rattle.mp_pattern.specs.CondTree.{Operand, var, ground, fixed, count, size, Cond, amounts, less, free, of_kind}
use Rattle.mp_pattern.specs.CondTree.{headed, negation, all_of, any_of, Conds, no_conds, more_conds}
use Rattle.mp_pattern.specs.Firsts.{is_known}
use Rattle.mp_pattern.specs.Value.{same_name, one_form}
use Rattle.mp_pattern.specs.Variables.{variables, variable_form}
use Rattle.mp_pattern.specs.SoundRule.{IsSoundOperand, IsSingle, IsSoundAmount, IsChecked, AreChecked}
use Rattle.mp_pattern.specs.SoundRule.{IsSoundCondition, HasSoundCondition}
use Rattle.mp_build.specs.Scope.{Scope}
use Rattle.mp_build.specs.SoundCondition.{MayBeNamed, StandsForOne, IsScopedOperand, IsScopedSingle, IsScopedAmount}
use Rattle.mp_build.specs.SoundCondition.{IsScoped, AreScoped, IsScopedCondition}

-- so is a condition that there is
abbrev pub HasScopedCondition : Sig → Scope → Option Cond → Type 0
HasScopedCondition sig scope None = Unit {0}
HasScopedCondition sig scope (Some c) = IsScopedCondition sig scope c

module _ (sig : Sig) (p : Pattern) (scope : Scope)
    (named : (x : List ℕ) → is_known same_name (variables p) x ≡ true → MayBeNamed scope x)
    (single : (x : List ℕ) → is_known same_name (variables p) x ≡ true → variable_form sig p x ≡ one_form
    → StandsForOne scope x)
  where
    scoped-operand : (a : Operand) → IsSoundOperand sig p a → IsScopedOperand sig scope a
    scoped-operand (var x) h = named x h
    scoped-operand (ground t) h = h

    scoped-single : (a : Operand) → IsSoundOperand sig p a → IsSingle sig p a → IsScopedSingle sig scope a
    scoped-single (var x) h one = single x h one
    scoped-single (ground t) h one = tt

    scoped-amount : (m : cond.Amount) → IsSoundAmount sig p m → IsScopedAmount sig scope m
    scoped-amount (fixed n) h = h
    scoped-amount (count a) h = scoped-operand a h
    scoped-amount (size a) h = scoped-operand a h

    mutual
      scoped-cond : (c : Cond) → IsChecked sig p c → IsScoped sig scope c
      scoped-cond (amounts m s n) h = (scoped-amount m h.0, scoped-amount n h.1)
      scoped-cond (cond.same a b) h = (scoped-operand a h.0, scoped-operand b h.1)
      scoped-cond (less a b) h = (
        (scoped-operand a h.0.0, scoped-single a h.0.0 h.0.1),
        (scoped-operand b h.1.0, scoped-single b h.1.0 h.1.1),
      )
      scoped-cond (free a b) h = (scoped-operand a h.0, scoped-operand b h.1)
      scoped-cond (of_kind a k) h = (scoped-operand a h.0, h.1)
      scoped-cond (headed a f) h = (scoped-operand a h.0, h.1)
      scoped-cond (negation c) h = scoped-cond c h
      scoped-cond (all_of cs) h = (h.0, scoped-conds cs h.1)
      scoped-cond (any_of cs) h = (h.0, scoped-conds cs h.1)

      scoped-conds : (cs : Conds) → AreChecked sig p cs → AreScoped sig scope cs
      scoped-conds no_conds h = tt
      scoped-conds (more_conds c cs) h = (scoped-cond c h.0, scoped-conds cs h.1)

    pub scoped-condition : (c : Cond) → IsSoundCondition sig p c → IsScopedCondition sig scope c
    scoped-condition c h = record { checked = scoped-cond c h.checked; few_atoms = h.few_atoms }

    pub scoped-if : (o : Option Cond) → HasSoundCondition sig p o → HasScopedCondition sig scope o
    scoped-if None h = tt
    scoped-if (Some c) h = scoped-condition c h
