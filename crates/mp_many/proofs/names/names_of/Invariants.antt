use Rattle.std.proofs.Common.{◌≡◌, ◌<◌, ◌++◌, drop, length, map}
use Rattle.std.specs.List.{AllByRecursion}
use Rattle.mp_pattern.specs.RuleView.{rule_tree}
use Rattle.mp_pattern.specs.Variables.{variables}
use Rattle.mp_many.specs.RuleNames.{lists_at}
use Rattle.mp_many.proofs.names.names_of.Given as goal

abbrev pub invariant-loop-rule : goal.invariant-loop-rule
invariant-loop-rule l = record {
  held : AllByRecursion (λ n. n < length l.lists.items) l.places.items;
  names : lists_at l.lists.items l.places.items
      ++ map (λ r. variables r.pattern) (map rule_tree (drop l.rule-index l.rules))
      ≡ map (λ r. variables r.pattern) (map rule_tree l.rules);
}
