use Rattle.std.proofs.Common.{◌∙◌, sym, ap, subst}
use Rattle.std.specs.Ordering.{is_eq}
use Rattle.mp_term.specs.Order.{tree_cmp}
use Rattle.mp_table.specs.Table.{HasRanks}
use Rattle.mp_cond.specs.Ranked.{app_at}
use Rattle.mp_cond.proofs.RankedLaws.{same_values-wrapped, same_values-mixed, same_values-mixed_back}
use Rattle.mp_cond.proofs.ranked_atoms.are_same.Goals as goal

pub returns-in-Some-Some : goal.returns-in-Some-Some
returns-in-Some-Some c =
    let t = c.args.table.now in
    c.is_eq.ensures ∙ ap is_eq (c.compare_apps.ensures t c.requires.table
    (subst (HasRanks t) (sym c.ranks-in-Some-Some.ensures) c.requires.first.ranks)
    (subst (HasRanks t) (sym c.ranks-in-Some-Some-2.ensures) c.requires.second.ranks)
    ∙ (λ i. tree_cmp (app_at t c.in-Some-Some.f (c.ranks-in-Some-Some.ensures i))
    (app_at t c.in-Some-Some.g (c.ranks-in-Some-Some-2.ensures i))))
    ∙ same_values-wrapped t c.args.a.now c.args.b.now c.in-Some-Some.f c.in-Some-Some.g
    (sym c.wrap.ensures ∙ c.in-Some-Some.is-0) (sym c.wrap-2.ensures ∙ c.in-Some-Some.is-1)

pub returns-in-None-Some : goal.returns-in-None-Some
returns-in-None-Some c =
    same_values-mixed_back c.args.table.now c.requires.table c.args.a.now c.args.b.now c.in-None-Some.field-0-1
    c.requires.first c.requires.second
    (sym c.wrap.ensures ∙ c.in-None-Some.is-0) (sym c.wrap-2.ensures ∙ c.in-None-Some.is-1)

pub returns-in-Some-None : goal.returns-in-Some-None
returns-in-Some-None c =
    same_values-mixed c.args.table.now c.requires.table c.args.a.now c.args.b.now c.in-Some-None.field-0-0
    c.requires.first c.requires.second
    (sym c.wrap.ensures ∙ c.in-Some-None.is-0) (sym c.wrap-2.ensures ∙ c.in-Some-None.is-1)
