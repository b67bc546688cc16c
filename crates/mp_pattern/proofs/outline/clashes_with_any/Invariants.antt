use Rattle.std.proofs.Common.{◌≡◌, drop, map}
use Rattle.std.specs.List.{list_any}
use Rattle.mp_pattern.specs.View.{pattern_tree}
use Rattle.mp_pattern.specs.Clash.{clashes}
use Rattle.mp_pattern.proofs.outline.clashes_with_any.Given as goal

abbrev pub invariant-loop-earlier : goal.invariant-loop-earlier
invariant-loop-earlier l =
    list_any (λ q. clashes q (pattern_tree l.pattern)) (map (λ p. pattern_tree p.now) (drop l.earlier-index l.before))
    ≡ list_any (λ q. clashes q (pattern_tree l.pattern)) (map (λ p. pattern_tree p.now) l.before)
