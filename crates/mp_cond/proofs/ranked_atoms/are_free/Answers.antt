use Rattle.std.proofs.Common.{◌∙◌, sym, ap, subst}
use Rattle.std.specs.Ordering.{is_ne}
use Rattle.mp_term.specs.Order.{tree_cmp}
use Rattle.mp_table.specs.Table.{terms_at, HasRanks}
use Rattle.mp_cond.specs.Ranked.{app_at}
use Rattle.mp_cond.proofs.RankedLaws.{are_free, are_free-plain, are_free-wrapped, are_free-mixed}
use Rattle.mp_cond.proofs.ranked_atoms.are_free.Goals as goal

pub returns-in-None-default : goal.returns-in-None-default
returns-in-None-default c =
    let t = c.args.table.now in
    c.are_free.ensures
    ∙ (λ i. are_free (terms_at t (c.ranks.ensures i)) (terms_at t (c.ranks-in-None-default.ensures i)))
    ∙ are_free-plain t c.requires.table c.args.a.now c.args.b.now c.requires.first c.requires.second
    (sym c.wrap.ensures ∙ c.in-None-default.is-0)

pub returns-in-Some-Some : goal.returns-in-Some-Some
returns-in-Some-Some c =
    let t = c.args.table.now in
    c.is_ne.ensures ∙ ap is_ne (c.compare_apps.ensures t c.requires.table
    (subst (HasRanks t) (sym c.ranks-in-Some-Some.ensures) c.requires.first.ranks)
    (subst (HasRanks t) (sym c.ranks-in-Some-Some-2.ensures) c.requires.second.ranks)
    ∙ (λ i. tree_cmp (app_at t c.in-Some-Some.f (c.ranks-in-Some-Some.ensures i))
    (app_at t c.in-Some-Some.g (c.ranks-in-Some-Some-2.ensures i))))
    ∙ are_free-wrapped t c.requires.table c.args.a.now c.args.b.now c.in-Some-Some.f c.in-Some-Some.g
    c.requires.first c.requires.second
    (sym c.wrap.ensures ∙ c.in-Some-Some.is-0) (sym c.wrap-2.ensures ∙ c.in-Some-Some.is-1)

pub returns-in-Some-None : goal.returns-in-Some-None
returns-in-Some-None c =
    are_free-mixed c.args.table.now c.requires.table c.args.a.now c.args.b.now c.in-Some-None.field-0-0
    c.requires.first c.requires.second
    (sym c.wrap.ensures ∙ c.in-Some-None.is-0) (sym c.wrap-2.ensures ∙ c.in-Some-None.is-1)
