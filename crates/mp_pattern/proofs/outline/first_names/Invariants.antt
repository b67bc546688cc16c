use Rattle.std.proofs.Common.{◌≡◌, drop, map, []}
use Rattle.mp_pattern.specs.Firsts.{firsts_after}
use Rattle.mp_pattern.specs.Value.{same_name}
use Rattle.mp_pattern.specs.UseView.{occurrence}
use Rattle.mp_pattern.proofs.outline.first_names.Given as goal

abbrev pub invariant-loop-occurrence : goal.invariant-loop-occurrence
invariant-loop-occurrence l =
    firsts_after same_name (map (λ n. n.now) l.names.items)
    (map (λ u. u.name) (map occurrence (drop l.occurrence-index l.occurrences)))
    ≡ firsts_after same_name [] (map (λ u. u.name) (map occurrence l.occurrences))
