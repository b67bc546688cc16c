use Rattle.std.proofs.Common.{◌≡◌, drop, map}
use Rattle.mp_pattern.specs.Firsts.{is_known}
use Rattle.mp_pattern.specs.Value.{same_name}
use Rattle.mp_pattern.proofs.outline.is_known.Given as goal

abbrev pub invariant-loop-other : goal.invariant-loop-other
invariant-loop-other l = is_known same_name (map (λ n. n.now) (drop l.other-index l.known)) l.name
    ≡ is_known same_name (map (λ n. n.now) l.known) l.name
