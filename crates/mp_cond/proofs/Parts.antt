-- The parts of a conjunction or a disjunction, one after the other.
use Rattle.std.proofs.Common.{◌≡◌, ℕ, ◌+◌, ◌<◌, List, length, map, get_or, drop, ap, subst}
use Rattle.std.specs.List.{AllByRecursion}
use Rattle.mp_term.proofs.ListLaws.{drop-item, all-split}
use Rattle.mp_pattern.specs.CondTree.{Operand, Cond, Conds, more_conds, conds}
use Rattle.mp_pattern.specs.Operands.{operands, all_operands}

module _ {X : Type 0} (view : X → Cond) (xs : List X) where
  -- those from an index on
  abbrev pub behind : ℕ → Conds
  behind i = conds (map view (drop i xs))

  -- the part at an index, and those behind it
  pub behind-cut : (i : ℕ) (x : X) → i < length xs → x ≡ get_or xs i x
      → behind i ≡ more_conds (view x) (behind (i + 1))
  behind-cut i x h at = ap (λ ys. conds (map view ys)) (drop-item xs i x h at)

  module _ (P : Operand → Type 0) where
    -- a fact of each operand of those from an index on
    abbrev pub AllBehind : ℕ → Type 0
    AllBehind i = AllByRecursion P (all_operands (behind i))

    -- it is one of those of the part at the index, and of those behind it
    pub all_behind-cut : (i : ℕ) (x : X) → i < length xs → x ≡ get_or xs i x → AllBehind i
        → AllByRecursion P (operands (view x)) × AllBehind (i + 1)
    all_behind-cut i x h at all =
        all-split P (operands (view x)) _
        (subst (λ cs. AllByRecursion P (all_operands cs)) (behind-cut i x h at) all)
