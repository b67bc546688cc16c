use Rattle.std.proofs.Common.{◌≡◌, ◌∙◌, ◌+◌, ap, sym, subst, arith, length, map, drop, add-one, length-set}
use Rattle.std.specs.Prelude.{slice_get, slice_set, Some, None, option_map}
use Rattle.std.proofs.lemmas.List.{length-map}
use Rattle.mp_term.specs.Tree.{app, trees}
use Rattle.mp_term.specs.View.{tree}
use Rattle.mp_term.specs.Size.{node_count, all_nodes}
use Rattle.mp_term.specs.Normal.{IsNormal}
use Rattle.mp_term.proofs.ListLaws.{all-get}
use Rattle.mp_rewrite.specs.Computed as computed
use Rattle.mp_pattern.specs.Planned.{planned_rule}
use Rattle.mp_rewrite.specs.Marks.{dead}
use Rattle.mp_rewrite.specs.MarkView.{mark_of}
use Rattle.mp_rewrite.specs.Known.{IsKnown}
use Rattle.mp_rewrite.specs.Made.{redex_of}
use Rattle.mp_rewrite.proofs.MarkLaws.{AllKnown, known-length, known-get, known-set, known-set-again}
use Rattle.mp_rewrite.proofs.PutBack.{arguments-pass, arguments-normal}
use Rattle.mp_rewrite.proofs.FirstRedexes.{mapped-at, nodes-at, index-few, below-Some, below-None}
use Rattle.mp_rewrite.proofs.known_redex.+first_known_redex.Goals as goal

pub first_below-loop-index-preserved-then-is_dead : goal.first_below-loop-index-preserved-then-is_dead
first_below-loop-index-preserved-then-is_dead t c =
    let sig = c.args.sig.now in
    let rules = map planned_rule c.args.rules.now in
    let args = c.args.args.now in
    let i = c.loop-index.index in
    let arg = tree c.arg-item.result in
    let at : slice_get args i ≡ Some arg =
    mapped-at tree c.as_slice-arg-items.result.now args i c.arg-item.result c.as_slice-arg-items.ensures
    c.loop-index-test.true c.arg-item.is in
    let none : computed.first_redex sig rules arg ≡ None =
    known-get sig rules c.loop-index.known args i dead arg c.loop-index.invariant.known
    (c.is_dead.ensures c.if-is_dead.true) at in
    record {
      known = c.loop-index.invariant.known;
      passed = c.loop-index.invariant.passed ∙ below-None sig rules args i arg at none
          ∙ ap (λ k. computed.first_below sig rules k (trees (drop k args))) (sym (add-one i));
    }

pub first_below-take-before-requires : goal.first_below-take-before-requires
first_below-take-before-requires t c =
    omega (
      arith,
      c.loop-index-test.true,
      known-length c.args.sig.now (map planned_rule c.args.rules.now) c.loop-index.known c.args.args.now
          c.loop-index.invariant.known,
      ap length c.as_slice-arg-items.ensures,
      length-map c.as_slice-arg-items.result.now tree,
    )

pub first_below-first_known_redex-requires : goal.first_below-first_known_redex-requires
first_below-first_known_redex-requires t c =
    let sig = c.args.sig.now in
    let rules = map planned_rule c.args.rules.now in
    let args = c.args.args.now in
    let i = c.loop-index.index in
    let arg = tree c.arg-item.result in
    let at : slice_get args i ≡ Some arg =
    mapped-at tree c.as_slice-arg-items.result.now args i c.arg-item.result c.as_slice-arg-items.ensures
    c.loop-index-test.true c.arg-item.is in
    let small = nodes-at args i arg at in (
      omega (arith, small),
      (
        c.requires.planned,
        (
          all-get (IsNormal sig) args i arg c.requires.normal at,
          (
            omega (arith, small, c.requires.few),
            known-get sig rules c.loop-index.known args i (mark_of c.take-before.result) arg
                c.loop-index.invariant.known c.take-before.ensures.taken at,
          ),
        ),
      ),
    )

pub first_below-of_argument-requires-clause-fits : goal.first_below-of_argument-requires-clause-fits
first_below-of_argument-requires-clause-fits t c =
    let args = c.args.args.now in
    let i = c.loop-index.index in
    let at : slice_get args i ≡ Some (tree c.arg-item.result) =
    mapped-at tree c.as_slice-arg-items.result.now args i c.arg-item.result c.as_slice-arg-items.ensures
    c.loop-index-test.true c.arg-item.is in
    index-few args i _ (tree c.arg-item.result) at c.requires.few

pub first_below-of_argument-requires-clause-within : goal.first_below-of_argument-requires-clause-within
first_below-of_argument-requires-clause-within t c =
    omega (
      arith,
      c.loop-index-test.true,
      known-length c.args.sig.now (map planned_rule c.args.rules.now) c.loop-index.known c.args.args.now
          c.loop-index.invariant.known,
      ap length c.as_slice-arg-items.ensures,
      length-map c.as_slice-arg-items.result.now tree,
      ap length c.take-before.ensures.left,
      length-set c.loop-index.known c.loop-index.index dead,
    )

pub first_below-returns-in-Some-clause-redex : goal.first_below-returns-in-Some-clause-redex
first_below-returns-in-Some-clause-redex t c =
    let sig = c.args.sig.now in
    let rules = map planned_rule c.args.rules.now in
    let args = c.args.args.now in
    let i = c.loop-index.index in
    let arg = tree c.arg-item.result in
    let at : slice_get args i ≡ Some arg =
    mapped-at tree c.as_slice-arg-items.result.now args i c.arg-item.result c.as_slice-arg-items.ensures
    c.loop-index-test.true c.arg-item.is in
    let here : computed.first_redex sig rules arg ≡ Some (redex_of c.in-Some.inner.redex) =
    sym c.in_ok-inner.ensures.redex ∙ ap (option_map (λ r. redex_of r.redex)) c.in-Some.is in
    ap Some c.in_ok-whole.ensures.redex
    ∙ sym (below-Some sig rules args i arg (redex_of c.in-Some.inner.redex) at here)
    ∙ sym c.loop-index.invariant.passed

pub first_below-returns-in-Some-clause-known : goal.first_below-returns-in-Some-clause-known
first_below-returns-in-Some-clause-known t c = λ f.
    let sig = c.args.sig.now in
    let rules = map planned_rule c.args.rules.now in
    let args = c.args.args.now in
    let i = c.loop-index.index in
    let arg = tree c.arg-item.result in
    let m = mark_of c.in-Some.inner.known in
    let at : slice_get args i ≡ Some arg =
    mapped-at tree c.as_slice-arg-items.result.now args i c.arg-item.result c.as_slice-arg-items.ensures
    c.loop-index-test.true c.arg-item.is in
    let here : IsKnown sig rules m arg = rw c.in-Some.is at c.in_ok-inner.ensures.known in
    let all : AllKnown sig rules (slice_set (slice_set c.loop-index.known i dead) i m) args =
    known-set-again sig rules c.loop-index.known args i dead m arg c.loop-index.invariant.known at here in
    subst (λ k. IsKnown sig rules k (app f (trees args))) (sym c.in_ok-whole.ensures.known)
    (subst (λ ms. AllKnown sig rules (slice_set ms i m) args) (sym c.take-before.ensures.left) all)

pub first_below-loop-index-preserved : goal.first_below-loop-index-preserved
first_below-loop-index-preserved t c =
    let sig = c.args.sig.now in
    let rules = map planned_rule c.args.rules.now in
    let args = c.args.args.now in
    let i = c.loop-index.index in
    let arg = tree c.arg-item.result in
    let at : slice_get args i ≡ Some arg =
    mapped-at tree c.as_slice-arg-items.result.now args i c.arg-item.result c.as_slice-arg-items.ensures
    c.loop-index-test.true c.arg-item.is in
    let none : computed.first_redex sig rules arg ≡ None =
    sym c.in_ok-inner.ensures.redex ∙ ap (option_map (λ r. redex_of r.redex)) c.in_default.is in
    record {
      known = subst (λ ms. AllKnown sig rules ms args) (sym c.take-before.ensures.left)
          (known-set sig rules c.loop-index.known args i dead arg c.loop-index.invariant.known at none);
      passed = c.loop-index.invariant.passed ∙ below-None sig rules args i arg at none
          ∙ ap (λ k. computed.first_below sig rules k (trees (drop k args))) (sym (add-one i));
    }

pub first_known_redex-first_below-requires : goal.first_known_redex-first_below-requires
first_known_redex-first_below-requires t c =
    let sig = c.args.sig.now in
    let rules = map planned_rule c.args.rules.now in
    let f = c.in-App.field-0.0 in
    let args = c.in-App.args in
    let whole : tree c.args.term.now ≡ app f (trees args) = ap tree c.in-App.is in
    let nodes : node_count (tree c.args.term.now) ≡ all_nodes args + 1 = ap node_count whole in
    let normal : IsNormal sig (app f (trees args)) = subst (IsNormal sig) whole c.requires.normal in (
      omega (arith, nodes),
      (
        c.requires.planned,
        (
          arguments-normal sig f args (arguments-pass sig f args normal).0,
          (
            omega (arith, nodes, c.requires.few),
            c.in_ok-known-in-App.ensures.known sig rules f args (sym c.len.ensures)
                (subst (λ u. IsKnown sig rules (mark_of c.args.known) u) whole c.requires.known),
          ),
        ),
      ),
    )
