use Rattle.std.proofs.Common.{map}
use Rattle.std.specs.Prelude.{Result, Ok, Err, OnOk}
use Rattle.mp_pattern.specs.View.{pattern_tree}
use Rattle.mp_parser.specs.View.{spot_of, arrow_tree, if_tree}
use Rattle.mp_build.specs.WildcardView.{wildcard_view}
use Rattle.mp_text.proofs.RuleReaderLaws.{IsDraftRead-rule}
use Rattle.mp_text.proofs.rule_reader.add_begun_rule.Goals as goal

-- what holds anyway holds where something is answered
on_ok-anyway : {T E : Type 0} (P : Type 0) (r : Result T E) → P → OnOk r P
on_ok-anyway P (Ok v) p = p
on_ok-anyway P (Err e) p = tt

pub returns-clause-added : goal.returns-clause-added
returns-clause-added c = IsDraftRead-rule c.add_built_rule.result c.args.parser.now c.read_rule_end.new.parser
    c.args.draft.now c.add_built_rule.new.draft (spot_of c.args.name) (pattern_tree c.args.pattern)
    (map wildcard_view c.args.wildcards.now) (arrow_tree c.in_ok-template.template)
    (if_tree c.in_ok-template.condition) c.in_ok-template.ensures.read c.add_built_rule.ensures

pub returns-clause-shorter : goal.returns-clause-shorter
returns-clause-shorter c = on_ok-anyway _ c.add_built_rule.result c.in_ok-template.ensures.shorter
