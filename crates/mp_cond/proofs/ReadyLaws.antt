-- A substitution is ready for the conditions over its variables.
use Rattle.std.proofs.Common.{◌≡◌, ℕ, true, false, ◌||◌, List, [], ◌∷◌, map, arith}
use Rattle.std.specs.Prelude.{Some, IsSomeAnd, if◌then◌else◌}
use Rattle.mp_term.proofs.ListLaws.{all-also}
use Rattle.mp_pattern.specs.CondTree.{Operand, var, ground, Cond}
use Rattle.mp_pattern.specs.Value.{Subst, same_name, value_of}
use Rattle.mp_pattern.specs.Firsts.{is_known}
use Rattle.mp_pattern.specs.Operands.{operands, IsOperandOver, IsConditionOver}
use Rattle.mp_cond.specs.Ready.{IsCountable, IsOperandReady, IsReady, AreCountable}

-- a bound variable
value_of-bound : (s : Subst) (x : List ℕ) → is_known same_name (map (λ b. b.name) s) x ≡ true → AreCountable s
    → IsSomeAnd (value_of s x) IsCountable
value_of-bound [] x h all = cc
value_of-bound (b ∷ s) x h all =
    elim (same_name b.name x) as (λ v. (v || is_known same_name (map (λ d. d.name) s) x) ≡ true
    → IsSomeAnd (if v then Some b.value else value_of s x) IsCountable)
    [ true ↦ λ _. all.0 | false ↦ λ k. value_of-bound s x k all.1 ] h

-- an operand over the variables
IsOperandReady-over : (s : Subst) → AreCountable s → (a : Operand) → IsOperandOver (map (λ b. b.name) s) a
    → IsOperandReady s a
IsOperandReady-over s all (var x) h = value_of-bound s x h all
IsOperandReady-over s all (ground t) h = omega (arith, h)

-- a condition over them
pub IsReady-over : (s : Subst) (c : Cond) → IsConditionOver (map (λ b. b.name) s) c → AreCountable s → IsReady s c
IsReady-over s c h all = all-also (IsOperandOver (map (λ b. b.name) s)) (IsOperandReady s) (IsOperandReady-over s all)
    (operands c) h
