use Rattle.std.proofs.Common.{◌≡◌, ◌∙◌, ◌<◌, ◌-◌, [], map, length, drop, get_or, ap, sym, subst, arith}
use Rattle.std.specs.Prelude.{slice_range}
use Rattle.std.specs.List.{AllByRecursion}
use Rattle.std.proofs.lemmas.List.{get_or-map, length-map, length-drop, take_all}
use Rattle.mp_term.specs.Tree.{symbol}
use Rattle.mp_term.specs.View.{tree}
use Rattle.mp_table.specs.Reading.{with_head}
use Rattle.mp_table.specs.Subterms.{arguments}
use Rattle.mp_table.specs.Text.{shown}
use Rattle.mp_table.proofs.ReadingLaws.{length-kept}
use Rattle.mp_table.proofs.TextLaws.{count_at, nodes_at, term_in}
use Rattle.mp_table.proofs.entries.entry_of.Goals as goal

pub returns-clause-kept : goal.returns-clause-kept
returns-clause-kept c = c.in_ok-push_ranks.ensures.kept

pub returns-clause-entry : goal.returns-clause-entry
returns-clause-entry c = λ us are.
    let old = c.args.args.now.items in
    let new = c.push_ranks.new.args.items in
    let more = length-kept old new c.in_ok-push_ranks.ensures.kept in
    let from : c.len-from.result ≡ length old = c.len-from.ensures ∙ c.args.args.now.ok.0 in
    let end : c.len-end.result ≡ length new = c.len-end.ensures ∙ c.push_ranks.new.args.ok.0 in
    let part : drop (length old) new ≡ slice_range new c.len-from.result c.len-end.result =
    sym (take_all (length new - length old) (drop (length old) new) (omega (arith, length-drop (length old) new)))
    ∙ (λ i. slice_range new (sym from i) (sym end i)) in
    let text = c.args.text.now in
    let node = get_or text c.args.start c.index-text-start-2.result in
    let here : c.args.start < length (shown text) =
    omega (arith, c.requires.start, length-map text (λ n. tree n.term.now)) in
    let same : tree node.term.now ≡ term_in (shown text) c.args.start =
    sym (get_or-map (λ n. tree n.term.now) text c.args.start c.index-text-start-2.result (symbol [])
    c.requires.start) in
    let args = subst (λ l. map (λ r. get_or us r.0 (symbol [])) l
    ≡ arguments (term_in (shown text) c.args.start)) part (c.in_ok-push_ranks.ensures.terms us are) in
    record {
      tree = ap (with_head c.in_ok-head.head) args
          ∙ ap (λ t. with_head c.in_ok-head.head (arguments t)) (sym same) ∙ c.in_ok-head.ensures ∙ same;
      args = args;
      within = subst (AllByRecursion (λ r. r.0 < length us)) part (c.in_ok-push_ranks.ensures.within us are);
      begins = omega (arith, from, end, more);
      ends = omega (arith, end);
      nodes = c.from-nodes.ensures
          ∙ count_at text c.args.start c.index-text-start.result c.requires.start
          ∙ nodes_at text c.requires.text c.args.start here;
    }
