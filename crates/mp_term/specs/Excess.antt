-- Terms that are larger or deeper than a term may be.
use Rattle.std.specs.Prelude.{◌≡◌, ◌-◌, ◌^◌, List, min, nat_lt, Option, Some, None, if◌then◌else◌}
use Rattle.mp_term.specs.declared.size.Size.{Size}
use Rattle.mp_term.specs.declared.size.Excess.{Excess}
use Rattle.mp_term.specs.declared.size.Excess.TheVariants.{TooLarge, TooDeep}
use Rattle.mp_term.specs.declared.limits.TheConstants.{MAX_TERM_NODES, MAX_DEPTH}
use Rattle.mp_term.specs.Tree.{Tree, trees}
use Rattle.mp_term.specs.Size.{all_nodes, greatest_depth}

-- the nodes of the trees together and the greatest depth of them, or the greatest `u64` where a number passes it
pub record IsSizeOf (s : Size) (ts : List Tree) : Type 0 where
  pub nodes : s.nodes ≡ min (all_nodes ts) (2 ^ 64 - 1)
  pub depth : s.depth ≡ min (greatest_depth (trees ts)) (2 ^ 64 - 1)

-- more nodes together, or else a greater depth, than the limits allow, with that number, or the greatest `u64` where it
-- is more
abbrev pub excess : List Tree → Option Excess
excess ts =
    if nat_lt MAX_TERM_NODES (all_nodes ts) then Some (TooLarge (min (all_nodes ts) (2 ^ 64 - 1)))
    else if nat_lt MAX_DEPTH (greatest_depth (trees ts)) then Some
    (TooDeep (min (greatest_depth (trees ts)) (2 ^ 64 - 1)))
    else None
