use Rattle.std.proofs.Common.{◌≡◌, map, length, drop}
use Rattle.mp_pattern.specs.Lists.{subst_cmp}
use Rattle.mp_walk.specs.RankedView.{kept_binding, AreKept}
use Rattle.mp_walk.proofs.ranked.compare_values.Given as goal

-- the values so far are those of the others
abbrev pub invariant-loop-i : goal.invariant-loop-i
invariant-loop-i l = record {
  lens : length l.values ≡ length l.others;
  held : AreKept l.table (drop l.i l.values);
  others_held : AreKept l.beside (drop l.i l.others);
  rest : subst_cmp (map (kept_binding l.table) (drop l.i l.values)) (map (kept_binding l.beside) (drop l.i l.others))
      ≡ subst_cmp (map (kept_binding l.table) l.values) (map (kept_binding l.beside) l.others);
}
