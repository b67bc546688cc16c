-- What contracts see of a value that is held by reference.
use Rattle.std.specs.Prelude.{Bool, false, Option, Some, None}
use Rattle.mp_term.specs.Tree.{app, trees}
use Rattle.mp_term.specs.View.{tree}
use Rattle.mp_term.specs.Order.{tree_cmp}
use Rattle.mp_pattern.specs.Value.{Value, one, seq, bag}
use Rattle.mp_term.specs.Pieces.{same}
use Rattle.mp_one.specs.Lists.{trees_of}
use Rattle.mp_one.specs.declared.trail_value.TrailValue.{TrailValue}
use Rattle.mp_one.specs.declared.trail_value.TrailValue.TheVariants.{Whole, Joined, Seq, Bag}
use Rattle.mp_one.specs.declared.trail_value.Merged.{Merged}
use Rattle.mp_one.specs.declared.trail_value.Merged.TheVariants.{First, Second, Clash}

-- the value that is held
abbrev pub trail_value : TrailValue → Value
trail_value (Whole t) = one (tree t.now)
trail_value (Joined f ts) = one (app f.0 (trees (trees_of ts.items)))
trail_value (Seq ts) = seq (trees_of ts.items)
trail_value (Bag ts) = bag (trees_of ts.items)

-- the one of the two values that is meant
abbrev pub merged : Value → Value → Merged → Option Value
merged v w First = Some v
merged v w Second = Some w
merged v w Clash = None

-- both are the same one term
abbrev pub is_same_one : Value → Value → Bool
is_same_one (one t) (one u) = same tree_cmp t u
is_same_one _ _ = false
