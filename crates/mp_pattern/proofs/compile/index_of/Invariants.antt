use Rattle.std.proofs.Common.{◌≡◌, ◌+◌, drop, map}
use Rattle.std.specs.Prelude.{option_map, position}
use Rattle.mp_pattern.specs.Value.{same_name}
use Rattle.mp_pattern.proofs.compile.index_of.Given as goal

abbrev pub invariant-loop-i : goal.invariant-loop-i
invariant-loop-i l = option_map (λ k. l.i + k) (position (same_name l.name) (map (λ n. n.now) (drop l.i l.names)))
    ≡ position (same_name l.name) (map (λ n. n.now) l.names)
