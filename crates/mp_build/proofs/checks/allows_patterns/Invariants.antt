use Rattle.std.proofs.Common.{◌≡◌, ◌||◌, not, drop, map}
use Rattle.std.specs.Prelude.{nat_le}
use Rattle.mp_term.specs.Signature.{Sig}
use Rattle.mp_pattern.specs.SoundRule.{fewest, greatest, reaches}
use Rattle.mp_parser.specs.View.{expr_tree}
use Rattle.mp_build.specs.Build.{pattern_of}
use Rattle.mp_build.proofs.checks.allows_patterns.Given as goal

-- what is missing is missing for the arguments behind, and so is the room
abbrev pub invariant-loop-arg : goal.invariant-loop-arg
invariant-loop-arg l = record {
  most : (sig : Sig)
      → reaches l.missing (greatest l.decl.assoc (map (pattern_of sig) (map expr_tree (drop l.arg-index l.args))))
      ≡ reaches l.decl.least (greatest l.decl.assoc (map (pattern_of sig) (map expr_tree l.args)));
  least : (sig : Sig)
      → (not l.decl.fixed || nat_le (fewest (map (pattern_of sig) (map expr_tree (drop l.arg-index l.args)))) l.room)
      ≡ (not l.decl.fixed || nat_le (fewest (map (pattern_of sig) (map expr_tree l.args))) l.decl.least);
}
