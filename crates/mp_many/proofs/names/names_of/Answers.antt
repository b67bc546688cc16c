use Rattle.std.proofs.Common.{◌≡◌, ◌<◌, ◌+◌, ◌++◌, ◌∷◌, [], ◌∙◌, ℕ, List, drop, length, map, ap, subst, sym, arith}
use Rattle.std.specs.List.{AllByRecursion}
use Rattle.std.proofs.lemmas.Option.{slice_get_within}
use Rattle.mp_term.proofs.ListLaws.{all-append, drop-item}
use Rattle.mp_pattern.specs.Admission.{Rule}
use Rattle.mp_pattern.specs.RuleView.{rule_tree}
use Rattle.mp_pattern.specs.Variables.{variables}
use Rattle.mp_pattern.specs.View.{pattern_tree}
use Rattle.mp_pattern.specs.declared.rule.Rule as code
use Rattle.mp_many.specs.RuleNames.{lists_at}
use Rattle.mp_many.proofs.ReadNameLaws.{lists_at-next, within-more}
use Rattle.mp_many.proofs.names.names_of.Goals as goal

pub loop-rule-preserved : goal.loop-rule-preserved
loop-rule-preserved c =
    let rules = c.args.rules.now in
    let i = c.loop-rule.rule-index in
    let rule = c.rule-item.result in
    let own = variables (pattern_tree rule.pattern) in
    let lists = c.loop-rule.lists.items in
    let places = c.loop-rule.places.items in
    let now = c.place_of.new.lists.items in
    let place = c.in_ok-place_of.field-0 in
    let more = c.in_ok-place_of.ensures.kept in
    let inv = c.loop-rule.invariant in
    let pushed : c.push.new.self.items ≡ places ++ place ∷ [] = c.in_ok-push.ensures.items in
    let all : List code.Rule → List (List (List ℕ)) =
    λ rs. map (λ (r : Rule). variables r.pattern) (map rule_tree rs) in
    let rest = all (drop (i + 1) rules) in
    let held : AllByRecursion (λ n. n < length now) places =
    subst (λ l. AllByRecursion (λ n. n < length l) places) (sym more.1) (within-more lists more.0 places inv.held) in
    let within = slice_get_within now place own c.in_ok-place_of.ensures.place in
    record {
      held = subst (AllByRecursion (λ n. n < length now)) (sym pushed)
          (all-append (λ n. n < length now) places (place ∷ []) held (within, tt));
      names = ap (λ ns. lists_at now ns ++ rest) pushed
          ∙ lists_at-next lists more.0 now places place own rest more.1 inv.held c.in_ok-place_of.ensures.place
          ∙ ap (λ rs. lists_at lists places ++ all rs) (sym (drop-item rules i rule (omega arith) c.rule-item.is))
          ∙ inv.names;
    }
