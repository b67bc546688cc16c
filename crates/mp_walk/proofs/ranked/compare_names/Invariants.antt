use Rattle.std.proofs.Common.{◌≡◌, ◌≤◌, drop, length, map}
use Rattle.mp_walk.specs.Found.{names_cmp}
use Rattle.mp_walk.specs.RankedView.{kept_name}
use Rattle.mp_walk.proofs.ranked.compare_names.Given as goal

-- the names so far are those of the others
abbrev pub invariant-loop-i : goal.invariant-loop-i
invariant-loop-i l = record {
  within : l.i ≤ length l.others;
  rest : names_cmp (map kept_name (drop l.i l.values)) (map kept_name (drop l.i l.others))
      ≡ names_cmp (map kept_name l.values) (map kept_name l.others);
}
