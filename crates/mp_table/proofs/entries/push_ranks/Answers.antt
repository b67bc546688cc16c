use Rattle.std.proofs.Common.{◌≡◌, ◌∙◌, ℕ, List, ◌+◌, ◌<◌, ◌≤◌, [], ◌∷◌, ◌++◌, map, length, get_or, take}
use Rattle.std.proofs.Common.{sym, ap, arith, length-append, drop, refl}
use Rattle.std.proofs.lemmas.List.{get_or-map, map_push, take_all, take_more, length-map}
use Rattle.std.proofs.lemmas.List.{take-append-le, drop-append-le}
use Rattle.std.proofs.Math.Seq.{drop-length, take-length}
use Rattle.mp_term.specs.Size.{all_nodes}
use Rattle.mp_term.specs.Tree.{symbol}
use Rattle.mp_term.specs.View.{tree}
use Rattle.mp_term.proofs.ListLaws.{all-append}
use Rattle.mp_table.specs.Subterms.{arguments}
use Rattle.mp_table.specs.Text.{shown, ranks, IsText}
use Rattle.mp_table.specs.declared.node.Node.{Node}
use Rattle.mp_table.specs.declared.rank.Rank.{Rank}
use Rattle.mp_table.proofs.TextLaws.{IsNext, is_next, all_behind, count_at, term_in}
use Rattle.mp_table.proofs.entries.push_ranks.Goals as goal

-- what stands at the loop's place
step : (text : List Node) (is : IsText text) (i k next : ℕ) (d : Node) → i < length text
    → k ≤ length (arguments (term_in (shown text) i))
    → next ≡ i + 1 + all_nodes (take k (arguments (term_in (shown text) i))) → next < i + (get_or text i d).nodes
    → IsNext text is i k next
step text is i k next d h few at less =
    is_next text is i k next (i + (get_or text i d).nodes) (omega (arith, h, length-map text (λ n. tree n.term.now)))
    (ap (λ w. i + w) (count_at text i d h)) few at less

pub loop-next-init : goal.loop-next-init
loop-next-init c =
    let old = c.args.args.now.items in
    let none = drop-length old in
    record {
      more = omega arith;
      kept = take-length old;
      few = rw none (omega arith);
      next = rw none (omega arith);
      terms = λ us h. rw none refl;
      within = λ us h. rw none tt;
    }

pub bounds-text-next : goal.bounds-text-next
bounds-text-next c =
    let text = c.args.text.now in
    let n = step text c.requires.text c.args.start (length (drop (length c.args.args.now.items) c.loop-next.args.items))
    c.loop-next.next c.index-text-start.result c.requires.start c.loop-next.invariant.few
    c.loop-next.invariant.next c.loop-next-test.true in
    omega (arith, n.within, length-map text (λ n. tree n.term.now))

pub bounds-text-next-in-loop-next : goal.bounds-text-next-in-loop-next
bounds-text-next-in-loop-next c =
    let text = c.args.text.now in
    let n = step text c.requires.text c.args.start (length (drop (length c.args.args.now.items) c.loop-next.args.items))
    c.loop-next.next c.index-text-start.result c.requires.start c.loop-next.invariant.few
    c.loop-next.invariant.next c.loop-next-test.true in
    omega (arith, n.within, length-map text (λ n. tree n.term.now))

pub bounds-text-next-in_ok-push-2 : goal.bounds-text-next-in_ok-push-2
bounds-text-next-in_ok-push-2 c =
    let text = c.args.text.now in
    let n = step text c.requires.text c.args.start (length (drop (length c.args.args.now.items) c.loop-next.args.items))
    c.loop-next.next c.index-text-start.result c.requires.start c.loop-next.invariant.few
    c.loop-next.invariant.next c.loop-next-test.true in
    omega (arith, n.within, length-map text (λ n. tree n.term.now))

pub bounds-text-next-in_ok-push : goal.bounds-text-next-in_ok-push
bounds-text-next-in_ok-push c =
    let text = c.args.text.now in
    let n = step text c.requires.text c.args.start (length (drop (length c.args.args.now.items) c.loop-next.args.items))
    c.loop-next.next c.index-text-start.result c.requires.start c.loop-next.invariant.few
    c.loop-next.invariant.next c.loop-next-test.true in
    omega (arith, n.within, length-map text (λ n. tree n.term.now))

pub loop-next-smaller : goal.loop-next-smaller
loop-next-smaller c =
    let text = c.args.text.now in
    let n = step text c.requires.text c.args.start (length (drop (length c.args.args.now.items) c.loop-next.args.items))
    c.loop-next.next c.index-text-start.result c.requires.start c.loop-next.invariant.few
    c.loop-next.invariant.next c.loop-next-test.true in
    let there : c.loop-next.next < length text =
    omega (arith, n.within, length-map text (λ n. tree n.term.now)) in
    let width = count_at text c.loop-next.next c.index-text-next-in-loop-next.result there in
    omega (arith, width, n.some, c.loop-next-test.true)

pub loop-next-preserved : goal.loop-next-preserved
loop-next-preserved c =
    let text = c.args.text.now in
    let k = length (drop (length c.args.args.now.items) c.loop-next.args.items) in
    let us = arguments (term_in (shown text) c.args.start) in
    let n = step text c.requires.text c.args.start k c.loop-next.next c.index-text-start.result
    c.requires.start c.loop-next.invariant.few c.loop-next.invariant.next
    c.loop-next-test.true in
    let there : c.loop-next.next < length text =
    omega (arith, n.within, length-map text (λ n. tree n.term.now)) in
    let width = count_at text c.loop-next.next c.index-text-next-in-loop-next.result there in
    let old = c.args.args.now.items in
    let xs = c.loop-next.args.items in
    let new = drop (length old) xs in
    let at = (get_or text c.loop-next.next c.index-text-next.result).rank in
    let rank : Rank = record { 0 = at } in
    let read : at ≡ get_or (ranks text) c.loop-next.next 0 =
    sym (get_or-map (λ n. n.rank) text c.loop-next.next c.index-text-next.result 0 there) in
    let last = rank ∷ [] in
    let grown : drop (length old) c.push.new.self.items ≡ new ++ last =
    ap (drop (length old)) c.in_ok-push.ensures.items
    ∙ drop-append-le (length old) xs last c.loop-next.invariant.more in
    let longer : length (drop (length old) c.push.new.self.items) ≡ k + 1 = ap length grown ∙ length-append new last in
    record {
      more = omega (arith, c.loop-next.invariant.more, ap length c.in_ok-push.ensures.items, length-append xs last);
      kept = ap (take (length old)) c.in_ok-push.ensures.items
          ∙ take-append-le (length old) xs last c.loop-next.invariant.more ∙ c.loop-next.invariant.kept;
      few = omega (arith, longer, n.more);
      next = ap (λ w. c.loop-next.next + w) width ∙ n.after
          ∙ ap (λ m. c.args.start + 1 + all_nodes (take m us)) (sym longer);
      terms = λ vs are. ap (map (λ r. get_or vs r.0 (symbol []))) grown
          ∙ map_push (λ r. get_or vs r.0 (symbol [])) new rank
          ∙ (λ i. c.loop-next.invariant.terms vs are i ++ (ap (λ m. get_or vs m (symbol [])) read
          ∙ are.terms c.loop-next.next 0 n.within ∙ n.term) i ∷ [])
          ∙ sym (take_more us k (symbol []) n.more)
          ∙ ap (λ m. take m us) (sym longer);
      within = λ vs are. rw grown (all-append (λ r. r.0 < length vs) new last (c.loop-next.invariant.within vs are)
          (omega (arith, read, are.within c.loop-next.next 0 n.within), tt));
    }

pub returns-clause-kept : goal.returns-clause-kept
returns-clause-kept c = c.loop-next.invariant.kept

pub returns-clause-within : goal.returns-clause-within
returns-clause-within c = c.loop-next.invariant.within

pub returns-clause-terms : goal.returns-clause-terms
returns-clause-terms c = λ us are.
    let text = c.args.text.now in
    let k = length (drop (length c.args.args.now.items) c.loop-next.args.items) in
    let here : c.args.start < length (shown text) =
    omega (arith, c.requires.start, length-map text (λ n. tree n.term.now)) in
    c.loop-next.invariant.terms us are
    ∙ take_all k (arguments (term_in (shown text) c.args.start)) (all_behind text c.requires.text
    c.args.start k c.loop-next.next (c.args.start + (get_or text c.args.start c.index-text-start.result).nodes) here
    (ap (λ w. c.args.start + w) (count_at text c.args.start c.index-text-start.result c.requires.start))
    c.loop-next.invariant.few c.loop-next.invariant.next c.loop-next-test.false)
