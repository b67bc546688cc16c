use Rattle.std.proofs.Common.{◌≡◌, ap, sym, ◌∙◌, subst, arith}
use Rattle.std.specs.Prelude.{None, Some, option_map, IfSome}
use Rattle.mp_pattern.specs.PlanView.{form}
use Rattle.mp_table.specs.Table.{rank_of, terms_at}
use Rattle.mp_term.specs.Tree.{app, trees}
use Rattle.mp_subst.specs.Bound.{value_from}
use Rattle.mp_search.proofs.EndLaws.{one-rank, wrapped-rank}
use Rattle.mp_search.proofs.ends.is_rank.Goals as goal

pub returns-in-One-None-len1 : goal.returns-in-One-None-len1
returns-in-One-None-len1 c e =
    let t = c.args.query.now.table.now in
    let rs = c.args.bound.now.ranks.now in
    one-rank t c.requires.table rs c.args.rank _ c.requires.bound.ranks c.requires.rank
    (omega (arith, c.in-One-None-len1.len_at_least, c.in-One-None-len1.len_below))
    (ap (λ f. value_from t (form f) None rs) (sym c.in-One-None-len1.is-0)
    ∙ ap (λ w. value_from t (form c.args.bound.now.form) (option_map (λ o. o.0) w) rs) (sym c.in-One-None-len1.is-1)
    ∙ e)

pub returns-in_default-3 : goal.returns-in_default-3
returns-in_default-3 c e =
    let t = c.args.query.now.table.now in
    let rs = c.args.bound.now.ranks.now in
    let g = c.in_default.field-0-1.0 in
    absurd (wrapped-rank t c.requires.table g rs c.args.rank c.requires.rank
    (subst (λ w. IfSome (option_map (λ o. o.0) w) (λ f. rank_of t (app f (trees (terms_at t rs))) ≡ None))
    c.in_default.is-1 c.requires.bound.wrap)
    (ap (λ f. value_from t (form f) (Some g) rs) (sym c.in_default.is-0)
    ∙ ap (λ w. value_from t (form c.args.bound.now.form) (option_map (λ o. o.0) w) rs) (sym c.in_default.is-1) ∙ e))
