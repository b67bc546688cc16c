use Rattle.std.proofs.Common.{◌≡◌, ◌++◌, ◌∷◌, [], drop, length, map}
use Rattle.mp_pattern.specs.NetTokens.{leave_token, tokens, all_tokens}
use Rattle.mp_pattern.specs.PatternTree.{patterns}
use Rattle.mp_pattern.specs.Subpatterns.{subpatterns}
use Rattle.mp_pattern.specs.View.{pattern_tree}
use Rattle.mp_many.proofs.lists.+push_tokens.Given as goal

abbrev pub decreases-push_tokens : goal.decreases-push_tokens
decreases-push_tokens l = length (subpatterns (pattern_tree l.pattern.now))

abbrev pub invariant-loop-arg : goal.invariant-loop-arg
invariant-loop-arg l =
    l.out
    ++ (all_tokens l.sig l.names (patterns (map pattern_tree (drop l.arg-index l.arg-items)))
    ++ (leave_token l.op.0 ∷ []))
    ≡ l.fn.out ++ tokens l.sig l.names (pattern_tree l.pattern)
