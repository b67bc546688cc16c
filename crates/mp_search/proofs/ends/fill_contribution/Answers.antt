use Rattle.std.proofs.Common.{ap, sym, ◌∙◌, subst, [], ◌∷◌}
use Rattle.mp_table.specs.Table.{term_at, terms_at}
use Rattle.mp_pattern.specs.Contribution.{if_several}
use Rattle.mp_theory.specs.Known.{all_of}
use Rattle.mp_search.specs.Frames.{above}
use Rattle.mp_search.specs.Made.{IsEnd, arranged_at}
use Rattle.mp_search.proofs.Contributions.{contribution-alone, contribution-opened}
use Rattle.mp_search.proofs.EndLaws.{end-own}
use Rattle.mp_search.proofs.ends.fill_contribution.Goals as goal

pub returns-then-is_alone-clause-pool : goal.returns-then-is_alone-clause-pool
returns-then-is_alone-clause-pool c =
    let q = c.args.query.now in
    let x = c.args.site.now in
    let t = term_at q.table.now c.args.rank in
    subst (λ o. IsEnd q x (all_of o) c.fill.result c.fill.new.own.pool.items.items)
    (sym (contribution-alone q.sig.now (above x.under) t (sym c.is_alone.ensures ∙ c.if-is_alone.true)))
    (end-own q x c.requires.query c.requires.site (t ∷ []) _ _
    (subst (λ rs. IsEnd q x (arranged_at q x (terms_at q.table.now rs) ∷ []) c.fill.result
    c.fill.new.own.pool.items.items) c.from_ref.ensures.value c.fill.ensures.pool))

pub returns-clause-pool : goal.returns-clause-pool
returns-clause-pool c =
    let q = c.args.query.now in
    let x = c.args.site.now in
    let t = term_at q.table.now c.args.rank in
    subst (λ o. IsEnd q x (all_of o) c.fill_several.result c.fill_several.new.own.pool.items.items)
    (sym (contribution-opened q.sig.now (above x.under) t (sym c.is_alone.ensures ∙ c.if-is_alone.false)
    ∙ ap if_several (sym c.args-2.ensures.terms))) c.fill_several.ensures.pool
