use Rattle.std.proofs.Common.{[], ◌∙◌, map, refl}
use Rattle.mp_pattern.specs.View.{pattern_tree}
use Rattle.mp_parser.specs.Machine.{InStatement, OfRule, heading}
use Rattle.mp_parser.specs.Parsing.{ahead}
use Rattle.mp_parser.specs.View.{spot_of}
use Rattle.mp_build.specs.WildcardView.{wildcard_view}
use Rattle.mp_text.specs.ReadPattern.{IsWholePatternRead}
use Rattle.mp_text.proofs.rule_reader.add_next_rule.Goals as goal

pub returns-clause-added : goal.returns-clause-added
returns-clause-added c = λ yes bytes was.
    let pattern : IsWholePatternRead c.args.draft.now.file.sig (pattern_tree c.in-Some-2.pattern)
    (map wildcard_view c.in-Some-2.wildcards.items) (ahead c.named.new.parser) (ahead c.read_whole_pattern.new.parser) =
    rw c.in-Some-2.is at c.in_ok-pattern.ensures.read in
    c.in_ok-add_begun_rule.ensures.added bytes c.args.parser.now pattern.expr was
    (rw c.deref.ensures.value pattern.whole)
    (λ done.
    c.in-Some.ensures.read OfRule refl done
    ∙ pattern.read done (InStatement (heading OfRule (spot_of c.in-Some.name))) [] refl)
