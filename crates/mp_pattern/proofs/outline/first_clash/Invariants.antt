use Rattle.std.proofs.Common.{◌≡◌, drop, take, map}
use Rattle.std.specs.Prelude.{[]}
use Rattle.mp_pattern.specs.View.{pattern_tree}
use Rattle.mp_pattern.specs.Clash.{first_clash_after}
use Rattle.mp_pattern.proofs.outline.first_clash.Given as goal

abbrev pub invariant-loop-i : goal.invariant-loop-i
invariant-loop-i l =
    first_clash_after (map (λ p. pattern_tree p.now) (take l.i l.patterns))
    (map (λ p. pattern_tree p.now) (drop l.i l.patterns))
    ≡ first_clash_after [] (map (λ p. pattern_tree p.now) l.patterns)
