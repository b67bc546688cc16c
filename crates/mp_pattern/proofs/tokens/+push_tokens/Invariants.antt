use Rattle.std.proofs.Common.{◌≡◌, ◌++◌, drop, map}
use Rattle.mp_pattern.specs.PatternTree.{patterns}
use Rattle.mp_pattern.specs.View.{pattern_tree}
use Rattle.mp_pattern.specs.NetTokens.{all_tokens}
use Rattle.mp_pattern.proofs.tokens.+push_tokens.Given as goal

abbrev pub invariant-push_all_tokens-loop-part : goal.invariant-push_all_tokens-loop-part
invariant-push_all_tokens-loop-part l =
    l.out ++ all_tokens l.sig l.names (patterns (map pattern_tree (drop l.part-index l.part-items)))
    ≡ l.fn.out ++ all_tokens l.sig l.names (patterns l.parts)
