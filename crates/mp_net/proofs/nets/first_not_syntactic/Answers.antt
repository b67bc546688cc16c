use Rattle.std.proofs.Common.{◌≡◌, not, sym, ◌∙◌, rules, tests}
use Rattle.std.proofs.lemmas.Iterator.{YieldsList-from_slice}
use Rattle.std.proofs.lemmas.Iterator.Search.{position_from_yields_List}
use Rattle.std.specs.Prelude.{position}
use Rattle.mp_pattern.specs.Syntactic.{is_syntactic}
use Rattle.mp_pattern.specs.View.{pattern_tree}
use Rattle.mp_pattern.specs.RuleView.{rule_tree}
use Rattle.mp_net.specs.Nets.{is_syntactic_rule}
use Rattle.mp_net.proofs.NetsLaws.{position-map}
use Rattle.mp_net.proofs.nets.first_not_syntactic.Goals as goal

pub returns-clause-index : goal.returns-clause-index
returns-clause-index c =
    let sig = c.args.sig.now in
    let all = c.args.rules.now in
    let found : c.position.result ≡ position (λ r. not (is_syntactic sig (pattern_tree r.pattern))) all =
    position_from_yields_List (λ r. not (is_syntactic sig (pattern_tree r.pattern))) _ _ _ c.position.ensures.ran
    (YieldsList-from_slice all cc) (λ x b q k. search (rules, tests)) in
    found ∙ sym (position-map (λ r. not (is_syntactic_rule sig r)) rule_tree all)
