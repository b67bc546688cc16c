use Rattle.std.proofs.Common.{◌≡◌, ◌∙◌, ap, sym, subst, map, arith, ◌+◌, length}
use Rattle.std.proofs.lemmas.List.{length-set}
use Rattle.std.specs.Prelude.{slice_set}
use Rattle.mp_term.specs.Tree.{app, trees}
use Rattle.mp_term.specs.View.{tree}
use Rattle.mp_pattern.specs.Planned.{planned_rule}
use Rattle.mp_rewrite.specs.MarkView.{mark_of}
use Rattle.mp_rewrite.specs.Known.{IsKnown}
use Rattle.mp_rewrite.specs.Run.{Leads}
use Rattle.mp_rewrite.proofs.MarkLaws.{AllKnown, known-get, known-set-both}
use Rattle.mp_rewrite.proofs.Within.{set-set, quiet-at, argument-within, argument-leads, levels-few, leads-on}
use Rattle.mp_rewrite.proofs.below.+run_below.Goals as goal

pub run_argument-replace-requires : goal.run_argument-replace-requires
run_argument-replace-requires t c =
    (quiet-at c.args.sig.now (map planned_rule c.args.rules.now) (tree c.args.here.term) c.args.index c.requires.quiet
    c.in-App.op.0 c.in-App.terms (ap tree c.in-App.is)).within

pub run_argument-take-requires : goal.run_argument-take-requires
run_argument-take-requires t c =
    let q = quiet-at c.args.sig.now (map planned_rule c.args.rules.now) (tree c.args.here.term) c.args.index
    c.requires.quiet c.in-App.op.0 c.in-App.terms (ap tree c.in-App.is) in
    omega (arith, q.within, c.in_ok-all-in-App.ensures.count, c.len.ensures)

pub run_argument-run_below-requires : goal.run_argument-run_below-requires
run_argument-run_below-requires t c =
    let sig = c.args.sig.now in
    let rules = map planned_rule c.args.rules.now in
    let f = c.in-App.op.0 in
    let ts = c.in-App.terms in
    let i = c.args.index in
    let a = tree c.replace.result in
    let C = c.requires.within.0 in
    let h = c.requires.within.1 in
    let is : tree c.args.here.term ≡ app f (trees ts) = ap tree c.in-App.is in
    let marks : AllKnown sig rules c.in_ok-all-in-App.all ts =
    c.in_ok-all-in-App.ensures.known sig rules f ts (sym c.len.ensures)
    (subst (IsKnown sig rules (mark_of c.args.here.known)) is h.right) in
    let one : IsKnown sig rules (mark_of c.take.result) a =
    known-get sig rules c.in_ok-all-in-App.all ts i _ a marks c.take.ensures.taken c.replace.ensures.term in
    let few = levels-few sig rules C c.args.levels (tree c.args.here.term) _ _ h in
    let up : c.saturating_add.result ≡ c.args.levels + 1 = omega (arith, c.saturating_add.ensures, few) in (
      omega (arith, up, few),
      (
        c.requires.planned,
        (
          c.requires.rules,
          (
            λ u. C (app f (trees (slice_set ts i u))),
            argument-within sig rules C c.args.levels (tree c.args.here.term) _ _ h f ts i a _ c.saturating_add.result
                is (quiet-at sig rules (tree c.args.here.term) i c.requires.quiet f ts is) c.replace.ensures.term up
                one,
          ),
        ),
      ),
    )

pub run_argument-returns-clause-run : goal.run_argument-returns-clause-run
run_argument-returns-clause-run t c = λ C h.
    let sig = c.args.sig.now in
    let rules = map planned_rule c.args.rules.now in
    let f = c.in-App.op.0 in
    let ts = c.in-App.terms in
    let i = c.args.index in
    let a = tree c.replace.result in
    let all = c.in_ok-all-in-App.all in
    let run = c.in_ok-below-in-App.below.run in
    let b = tree run.here.term in
    let is : tree c.args.here.term ≡ app f (trees ts) = ap tree c.in-App.is in
    let marks : AllKnown sig rules all ts =
    c.in_ok-all-in-App.ensures.known sig rules f ts (sym c.len.ensures)
    (subst (IsKnown sig rules (mark_of c.args.here.known)) is h.right) in
    let one : IsKnown sig rules (mark_of c.take.result) a =
    known-get sig rules all ts i _ a marks c.take.ensures.taken c.replace.ensures.term in
    let few = levels-few sig rules C c.args.levels (tree c.args.here.term) _ _ h in
    let up : c.saturating_add.result ≡ c.args.levels + 1 = omega (arith, c.saturating_add.ensures, few) in
    let terms : c.replace-in-App.new.self ≡ slice_set ts i b =
    c.replace-in-App.ensures.left ∙ ap (λ l. slice_set l i b) c.replace.ensures.left ∙ set-set ts i _ b in
    let known : c.set.new.self ≡ slice_set all i (mark_of run.here.known) =
    c.set.ensures ∙ ap (λ l. slice_set l i (mark_of run.here.known)) c.take.ensures.left ∙ set-set all i _ _ in
    argument-leads sig rules C c.args.levels (tree c.args.here.term) _ _ h f ts i a _ c.saturating_add.result is
    (quiet-at sig rules (tree c.args.here.term) i c.requires.quiet f ts is) c.replace.ensures.term up one b
    (mark_of run.here.known) run.here.nodes run.made c.replace-in-App.new.self _ c.in_ok-below-in-App.ensures.run terms
    (λ k. subst (λ l. AllKnown sig rules c.set.new.self l) (sym terms)
    (subst (λ l. AllKnown sig rules l (slice_set ts i b)) (sym known)
    (known-set-both sig rules all ts i (mark_of run.here.known) b marks k)))

pub run_argument-replace-requires-in-App : goal.run_argument-replace-requires-in-App
run_argument-replace-requires-in-App t c =
    let q = quiet-at c.args.sig.now (map planned_rule c.args.rules.now) (tree c.args.here.term) c.args.index
    c.requires.quiet c.in-App.op.0 c.in-App.terms (ap tree c.in-App.is) in
    let long = ap length c.replace.ensures.left ∙ length-set c.in-App.terms c.args.index _ in
    omega (arith, q.within, long)

pub run_argument-set-requires : goal.run_argument-set-requires
run_argument-set-requires t c =
    let q = quiet-at c.args.sig.now (map planned_rule c.args.rules.now) (tree c.args.here.term) c.args.index
    c.requires.quiet c.in-App.op.0 c.in-App.terms (ap tree c.in-App.is) in
    let long = ap length c.take.ensures.left ∙ length-set c.in_ok-all-in-App.all c.args.index _ in
    omega (arith, q.within, c.in_ok-all-in-App.ensures.count, c.len.ensures, long)

pub run_once-returns-clause-run : goal.run_once-returns-clause-run
run_once-returns-clause-run t c = λ C h.
    let sig = c.args.sig.now in
    let rules = map planned_rule c.args.rules.now in
    let below = c.in_ok-below.below.run in
    let first = c.in_ok-first.first.run in
    let so = c.in_ok-below.ensures.run C h in
    let next = c.in_ok-first.ensures.run C so.0 in
    let same : below.made + first.made ≡ first.made = omega (arith, c.if-below-gt0.false) in (
      next.0,
      subst (λ k. Leads sig rules k (C (tree c.args.here.term)) (C (tree first.here.term))) same
          (leads-on sig rules below.made first.made (C (tree c.args.here.term)) (C (tree below.here.term))
          (C (tree first.here.term)) so.1 next.1),
    )

pub run_below-returns-then-stopped-clause-run : goal.run_below-returns-then-stopped-clause-run
run_below-returns-then-stopped-clause-run t c = λ C h.
    let run = c.in_ok-run.field-0.run in
    let so = c.loop-made.invariant.run C h in
    let next = c.in_ok-run.ensures.run C so.0 in (
      next.0,
      leads-on c.args.sig.now (map planned_rule c.args.rules.now) c.loop-made.made run.made
          (C (tree c.args.here.term)) (C (tree c.loop-made.here.term)) (C (tree run.here.term)) so.1 next.1,
    )

pub run_below-loop-made-preserved : goal.run_below-loop-made-preserved
run_below-loop-made-preserved t c =
    let run = c.in_ok-run.field-0.run in
    record {
      few = omega (arith, c.in_ok-run.ensures.few, c.loop-made-test.true);
      run = λ C h.
          let so = c.loop-made.invariant.run C h in
          let next = c.in_ok-run.ensures.run C so.0 in (
            next.0,
            leads-on c.args.sig.now (map planned_rule c.args.rules.now) c.loop-made.made run.made
                (C (tree c.args.here.term)) (C (tree c.loop-made.here.term)) (C (tree run.here.term)) so.1 next.1,
          );
    }
