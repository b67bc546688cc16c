use Rattle.std.proofs.Common.{◌≡◌, ◌++◌, drop, map}
use Rattle.mp_pattern.specs.View.{pattern_tree}
use Rattle.mp_pattern.specs.NetTokens.{renamed}
use Rattle.mp_pattern.proofs.numbering.+renamed.Given as goal

abbrev pub invariant-all_renamed-loop-part : goal.invariant-all_renamed-loop-part
invariant-all_renamed-loop-part l =
    l.copies ++ map (renamed l.names) (map pattern_tree (drop l.part-index l.part-items))
    ≡ map (renamed l.names) l.parts
