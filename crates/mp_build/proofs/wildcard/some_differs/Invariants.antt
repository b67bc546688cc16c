use Rattle.std.proofs.Common.{◌≡◌, drop, map}
use Rattle.std.specs.List.{list_any}
use Rattle.mp_build.specs.Wildcards.{differs}
use Rattle.mp_build.specs.WildcardView.{wildcard_view}
use Rattle.mp_build.proofs.wildcard.some_differs.Given as goal

abbrev pub invariant-loop-other : goal.invariant-loop-other
invariant-loop-other l = list_any (differs (wildcard_view l.wild)) (map wildcard_view (drop l.other-index l.others))
    ≡ list_any (differs (wildcard_view l.wild)) (map wildcard_view l.others)
