use Rattle.std.proofs.Common.{◌≡◌, ◌≤◌, ◌∙◌, ◌+◌, ◌++◌, [], ◌∷◌, List, drop, length, map, sym, ap, subst, arith}
use Rattle.std.proofs.Common.{append_assoc, append-nil}
use Rattle.std.specs.List.{AllByRecursion}
use Rattle.std.proofs.lemmas.List.{drop_all, length-append, length-map}
use Rattle.std.proofs.lemmas.Option.{get_or_from_slice_get}
use Rattle.mp_term.proofs.ListLaws.{all-append, drop-item}
use Rattle.mp_pattern.specs.Admission.{Rule}
use Rattle.mp_pattern.specs.NetTokens.{NetToken, tokens, tokens_of}
use Rattle.mp_pattern.specs.RuleView.{rule_tree}
use Rattle.mp_pattern.specs.Variables.{variables}
use Rattle.mp_pattern.specs.View.{pattern_tree}
use Rattle.mp_pattern.specs.declared.rule.Rule as code
use Rattle.mp_many.specs.declared.lists.Span.{Span}
use Rattle.mp_many.specs.Prefixes.{token_count, token_lists}
use Rattle.mp_many.specs.Spans.{list_in, IsSpan}
use Rattle.mp_many.proofs.RuleNameLaws.{names-at}
use Rattle.mp_many.proofs.SpanLaws.{count-next, lists-next, spans-more}
use Rattle.mp_many.proofs.lists.rule_tokens.Goals as goal

pub get-requires : goal.get-requires
get-requires c =
    let rules = map rule_tree c.args.rules.now in
    omega (
      arith,
      c.loop-index-test.true,
      ap length c.requires,
      length-map rules (λ (r : Rule). variables r.pattern),
      length-map c.args.rules.now rule_tree,
    )

pub loop-index-preserved : goal.loop-index-preserved
loop-index-preserved c =
    let sig = c.args.sig.now in
    let rules = c.args.rules.now in
    let i = c.loop-index.index in
    let rule = c.index-rules-index.result in
    let p = pattern_tree rule.pattern in
    let own = tokens_of sig p in
    let old = c.loop-index.tokens in
    let now = c.push_tokens.new.out in
    let spans = c.loop-index.spans.items in
    let inv = c.loop-index.invariant in
    let all : List code.Rule → List (List NetToken) = λ rs. token_lists sig (map rule_tree rs) in
    let rest = all (drop (i + 1) rules) in
    let held = sym (get_or_from_slice_get c.args.names.now i c.get.result.now c.get.result.now c.get.ensures) in
    let named = names-at rules c.args.names.now i c.get.result.now rule c.loop-index-test.true c.requires held
    c.index-rules-index.is in
    let is : now ≡ old ++ own =
    c.in_ok-push_tokens.ensures ∙ ap (λ xs. old ++ tokens sig xs p) named in
    let span : Span = c.new.result in
    let pushed : c.push.new.self.items ≡ spans ++ span ∷ [] = c.in_ok-push.ensures.items in
    let starts : span.start ≡ length old = c.new.ensures.start ∙ c.len-start.ensures in
    let ends : span.end ≡ length now = c.new.ensures.end ∙ c.len.ensures in
    let more : length old ≤ length now = omega (arith, ap length is, length-append old own) in
    let lists : map (list_in now) c.push.new.self.items ≡ map (list_in old) spans ++ own ∷ [] =
    (λ j. map (list_in (is j)) (pushed j)) ∙ lists-next old own spans span inv.within starts (ends ∙ ap length is) in
    record {
      within = subst (AllByRecursion (IsSpan (length now))) (sym pushed)
          (all-append (IsSpan (length now)) spans (span ∷ [])
          (spans-more (length old) (length now) spans more inv.within)
          ((omega (arith, starts, ends, more), (omega (arith, ends), c.new.ensures.held)), tt));
      whole = ap length is ∙ length-append old own ∙ ap (λ n. n + length own) inv.whole
          ∙ sym (count-next (map (list_in old) spans) own) ∙ ap token_count (sym lists);
      lists = ap (λ ls. ls ++ rest) lists ∙ append_assoc (map (list_in old) spans) (own ∷ []) rest
          ∙ ap (λ rs. map (list_in old) spans ++ all rs)
          (sym (drop-item rules i rule c.loop-index-test.true c.index-rules-index.is))
          ∙ inv.lists;
    }

pub invariant_of-result : goal.invariant_of-result
invariant_of-result c = record {
  within = c.loop-index.invariant.within;
  whole = c.loop-index.invariant.whole;
}

pub returns : goal.returns
returns c =
    let rules = c.args.rules.now in
    let lists = map (list_in c.loop-index.tokens) c.loop-index.spans.items in
    let none : drop c.loop-index.index rules ≡ [] = drop_all c.loop-index.index rules (omega arith) in
    sym (append-nil lists) ∙ ap (λ rs. lists ++ token_lists c.args.sig.now (map rule_tree rs)) (sym none)
    ∙ c.loop-index.invariant.lists
