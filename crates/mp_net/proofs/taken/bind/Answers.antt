use Rattle.std.proofs.Common.{◌∙◌, sym, ap, subst}
use Rattle.std.specs.Prelude.{Some}
use Rattle.std.specs.Ordering.{is_eq}
use Rattle.std.specs.Cmp.{unsigned_ties}
use Rattle.mp_term.specs.Order.{tree_cmp}
use Rattle.mp_term.proofs.TestLaws.{match-if}
use Rattle.mp_pattern.specs.Value.{one, value_of}
use Rattle.mp_table.specs.Table.{term_at}
use Rattle.mp_table.proofs.RankLaws.{rank_order}
use Rattle.mp_theory.specs.Solve as theory
use Rattle.mp_net.specs.Walk.{taken_subst, AreHeld}
use Rattle.mp_theory.proofs.FilledLaws.{bind-again, bind-new}
use Rattle.mp_net.proofs.WalkLaws.{taken_subst-append}
use Rattle.mp_net.proofs.taken.bind.Goals as goal

pub returns-in-Some-taken_by-clause-bound : goal.returns-in-Some-taken_by-clause-bound
returns-in-Some-taken_by-clause-bound c =
    let t = c.args.table.now in
    let xs = c.args.taken.now.items in
    let other = c.in-Some-taken_by.other in
    let held = subst (AreHeld t) (sym c.deref.ensures.value) c.requires.taken in
    let order = rank_order t c.requires.table.ascending other c.args.rank (c.in-Some-taken_by.ensures.held t held)
    c.requires.rank in
    rw c.in-Some.is (match-if c.eq.result (is_eq (tree_cmp (term_at t other) (term_at t c.args.rank)))
    (theory.bind (taken_subst t xs) c.in-Some.name (one (term_at t c.args.rank))) (taken_subst t xs)
    (c.eq.ensures ∙ unsigned_ties other.0 c.args.rank.0 ∙ ap is_eq (sym order))
    (bind-again (taken_subst t xs) c.in-Some.name (term_at t other) (term_at t c.args.rank)
    (ap (λ us. value_of (taken_subst t us) c.in-Some.name) (sym c.deref.ensures.value)
    ∙ sym (c.in-Some-taken_by.ensures.value t))))

pub returns-in_ok-push-in-None-clause-bound : goal.returns-in_ok-push-in-None-clause-bound
returns-in_ok-push-in-None-clause-bound c =
    let t = c.args.table.now in
    let xs = c.args.taken.now.items in
    rw c.in-Some.is (bind-new (taken_subst t xs) c.in-Some.name (one (term_at t c.args.rank))
    (ap (λ us. value_of (taken_subst t us) c.in-Some.name) (sym c.deref.ensures.value)
    ∙ sym (c.in-None.ensures.value t))
    ∙ ap Some (sym (ap (taken_subst t) c.in_ok-push-in-None.ensures.items ∙ taken_subst-append t xs _)))
