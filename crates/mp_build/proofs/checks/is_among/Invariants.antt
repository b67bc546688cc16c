use Rattle.std.proofs.Common.{◌≡◌, drop, map}
use Rattle.mp_build.specs.Names.{is_among}
use Rattle.mp_build.proofs.checks.is_among.Given as goal

abbrev pub invariant-loop-known : goal.invariant-loop-known
invariant-loop-known l = is_among l.name (map (λ n. n.now) (drop l.known-index l.names))
    ≡ is_among l.name (map (λ n. n.now) l.names)
