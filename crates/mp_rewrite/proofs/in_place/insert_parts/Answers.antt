use Rattle.std.proofs.Common.{◌≡◌, ◌∙◌, ◌+◌, ◌++◌, ◌-◌, ap, sym, subst, arith, suc, List, [], length, take, drop}
use Rattle.std.specs.List.{remove}
use Rattle.std.proofs.lemmas.List.{take-append-drop, nil_from_length}
use Rattle.std.proofs.lemmas.List.Edits.{length-remove}
use Rattle.mp_term.specs.Tree.{Tree}
use Rattle.mp_term.specs.View.{tree}
use Rattle.mp_term.specs.Normal.{in_order}
use Rattle.mp_rewrite.proofs.MarkLaws.{AllKnown, known-get, known-remove}
use Rattle.mp_rewrite.proofs.PutBack.{last-removed, in_order-ascending}
use Rattle.mp_rewrite.proofs.in_place.insert_parts.Goals as goal

pub loop-op-preserved : goal.loop-op-preserved
loop-op-preserved c =
    let sig = c.args.sig.now in
    let i = c.args.index in
    let more = c.loop-op.more in
    let more_known = c.loop-op.more_known in
    let last = c.len-last.result - 1 in
    let x = tree c.remove.result in
    let before = c.loop-op.invariant in
    let after = c.in_ok-all.ensures in
    let last_is : length more ≡ suc last = omega (arith, c.len.ensures, c.len-last.ensures, c.loop-op-test.true) in
    let removed : c.remove.new.self ≡ remove more last = c.remove.ensures.rest in
    let removed_known : c.remove-in-loop-op.new.self ≡ remove more_known last = c.remove-in-loop-op.ensures.rest in
    let fewer_terms : length c.remove.new.self + 1 ≡ length more =
    ap (λ l. length l + 1) removed ∙ length-remove more last (omega (arith, last_is)) in
    let fewer_marks : length c.remove-in-loop-op.new.self + 1 ≡ length more_known =
    ap (λ l. length l + 1) removed_known
    ∙ length-remove more_known last (omega (arith, last_is, before.same_more)) in
    let whole : List Tree → List Tree → List Tree =
    λ ts us. in_order sig c.args.op.0 (take i ts ++ (us ++ drop i ts)) in
    record {
      terms = ap (whole c.in_ok-all.all.terms) removed ∙ after.before (remove more last)
          ∙ ap (whole c.loop-op.all.terms) (last-removed more last x last_is c.remove.ensures.term) ∙ before.terms;
      same = after.same;
      same_more = omega (arith, fewer_terms, fewer_marks, before.same_more);
      within = omega (arith, after.longer, before.within);
      ascending = after.ascending;
      known = λ rules a b.
          let k = before.known rules a b in (
            after.known rules k.0 (known-get sig rules more_known more last _ x k.1
                c.remove-in-loop-op.ensures.known c.remove.ensures.term),
            subst (λ ts. AllKnown sig rules c.remove-in-loop-op.new.self ts) (sym removed)
                (subst (λ ms. AllKnown sig rules ms (remove more last)) (sym removed_known)
                (known-remove sig rules more_known more last k.1)),
          );
    }

pub returns-clause-terms : goal.returns-clause-terms
returns-clause-terms c =
    let sig = c.args.sig.now in
    let f = c.args.op.0 in
    let i = c.args.index in
    let terms = c.loop-op.all.terms in
    let after = c.loop-op.invariant in
    let none : c.loop-op.more ≡ [] =
    nil_from_length c.loop-op.more (omega (arith, c.len.ensures, c.loop-op-test.false)) in
    sym (in_order-ascending sig f terms after.ascending) ∙ ap (in_order sig f) (sym (take-append-drop i terms))
    ∙ ap (λ us. in_order sig f (take i terms ++ (us ++ drop i terms))) (sym none) ∙ after.terms
