-- The choices that leave the later children what they can take.
use Rattle.std.specs.Prelude.{ℕ, ◌+◌, ◌-◌, min, max, nat_lt, Bool, ◌&&◌, not, List, [], length, filter, Option, Some}
use Rattle.std.specs.Prelude.{None}
use Rattle.std.specs.List.{range_with_len}
use Rattle.mp_term.specs.Order.{tree_cmp}
use Rattle.mp_term.specs.Signature.{Sig}
use Rattle.mp_pattern.specs.PatternTree.{Pattern, Patterns}
use Rattle.mp_pattern.specs.Fits.{Entry}
use Rattle.mp_theory.specs.Frames.{Frame, Next, child}
use Rattle.mp_term.specs.Pieces.{without}
use Rattle.mp_theory.specs.Machine.{choices}
use Rattle.mp_theory.specs.Bounds.{least, most, all_least, all_most}
use Rattle.mp_pattern.specs.SoundRule.{reaches}

module _ (sig : Sig) where
  -- n terms are enough for the children, and not too many
  abbrev pub is_within : Option ℕ → Patterns → ℕ → Bool
  is_within f ps n = not (nat_lt n (all_least ps)) && reaches n (all_most sig f ps)

  -- so it is with what the entry leaves to the later children
  abbrev pub leaves_within : Frame → Entry → Bool
  leaves_within f e = is_within f.under f.children (length (without tree_cmp e.terms f.left))

  -- the entries that may stand next, but for those that leave the later children too few terms or too many
  abbrev pub choices_within : Next → List Entry
  choices_within (child p f fs) = filter (leaves_within f) (choices sig (child p f fs))
  choices_within _ = []

  -- the least number of n terms that the child may take, with the others behind it
  abbrev pub fewest : Option ℕ → Pattern → Patterns → ℕ → ℕ
  fewest f p ps n = elim (all_most sig f ps) [ None ↦ least p | Some m ↦ max (least p) (n - m) ]

  -- the first number that is too great
  abbrev pub length_limit : Option ℕ → Pattern → Patterns → ℕ → ℕ
  length_limit f p ps n = elim (most sig f p)
      [ None ↦ n + 1 - all_least ps | Some m ↦ min (n + 1 - all_least ps) (m + 1) ]

  -- the numbers of terms that the child may take
  abbrev pub lengths : Option ℕ → Pattern → Patterns → ℕ → List ℕ
  lengths f p ps n = range_with_len (fewest f p ps n) (length_limit f p ps n - fewest f p ps n)
