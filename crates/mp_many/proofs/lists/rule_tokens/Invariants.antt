use Rattle.std.proofs.Common.{◌≡◌, ◌++◌, drop, length, map}
use Rattle.std.specs.List.{AllByRecursion}
use Rattle.mp_pattern.specs.RuleView.{rule_tree}
use Rattle.mp_many.specs.Prefixes.{token_count, token_lists}
use Rattle.mp_many.specs.Spans.{list_in, IsSpan}
use Rattle.mp_many.proofs.lists.rule_tokens.Given as goal

abbrev pub invariant-loop-index : goal.invariant-loop-index
invariant-loop-index l =
    let lists = map (list_in l.tokens) l.spans.items in
    record {
      within : AllByRecursion (IsSpan (length l.tokens)) l.spans.items;
      whole : length l.tokens ≡ token_count lists;
      lists : lists ++ token_lists l.sig (map rule_tree (drop l.index l.rules))
          ≡ token_lists l.sig (map rule_tree l.rules);
    }
