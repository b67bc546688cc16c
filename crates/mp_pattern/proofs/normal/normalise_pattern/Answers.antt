use Rattle.mp_pattern.specs.Sound.{DefaultIsNormal}
use Rattle.mp_pattern.specs.View.{pattern_tree}
use Rattle.mp_pattern.proofs.Preserved.{each_wildcard-normal_pattern, holds_ops-normal_pattern}
use Rattle.mp_pattern.proofs.normal.normalise_pattern.Goals as goal

pub returns-clause-held : goal.returns-clause-held
returns-clause-held c = rw c.in_ok-normalise.ensures
    (holds_ops-normal_pattern c.args.sig.now (pattern_tree c.args.pattern) c.requires.held)

pub returns-clause-defaults : goal.returns-clause-defaults
returns-clause-defaults c = rw c.in_ok-normalise.ensures
    (each_wildcard-normal_pattern c.args.sig.now (DefaultIsNormal c.args.sig.now)
    (pattern_tree c.args.pattern) c.requires.defaults)
