use Rattle.std.proofs.Common.{◌-◌, ap, arith, map}
use Rattle.mp_pattern.specs.declared.limits.TheConstants.{MAX_VARIABLES}
use Rattle.mp_pattern.specs.View.{pattern_tree}
use Rattle.mp_build.specs.WildcardView.{wildcard_view}
use Rattle.mp_text.proofs.ReadPatternLaws.{is_whole_pattern_read-few, no_wildcard}
use Rattle.mp_text.proofs.pattern_reader.read_whole_pattern.Goals as goal

pub returns : goal.returns
returns c = record {
  read = is_whole_pattern_read-few c.args.sig.now (MAX_VARIABLES - c.read_pattern.new.left)
      (pattern_tree c.in-Some.pattern) _ _ _ _ (rw c.in-Some.is at c.in_ok-pattern.ensures.read)
      (ap (map wildcard_view) c.new-wildcards.ensures.items) (omega arith)
      (no_wildcard c.in-Some.pattern c.in_default-pattern.not-Wild);
  shorter = rw c.in-Some.is at c.in_ok-pattern.ensures.shorter;
}
