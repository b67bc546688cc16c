use Rattle.std.proofs.Common.{ap, sym, ◌∙◌, subst, [], ◌∷◌, take, length}
use Rattle.std.specs.Prelude.{if◌then◌else◌, min}
use Rattle.std.proofs.lemmas.List.{length-map}
use Rattle.mp_table.specs.Table.{term_at, terms_at}
use Rattle.mp_search.specs.Made.{IsEnd, arranged_at}
use Rattle.mp_search.proofs.EndLaws.{end-own, first-terms}
use Rattle.mp_search.proofs.ends.fill_bag.Goals as goal

pub returns-then-is_comm_above-clause-pool : goal.returns-then-is_comm_above-clause-pool
returns-then-is_comm_above-clause-pool c =
    let q = c.args.query.now in
    let x = c.args.site.now in
    let ts = terms_at q.table.now c.args.ranks.now in
    let left = terms_at q.table.now x.left.now in
    subst (λ b. IsEnd q x ((if b then ts else take (length ts) left) ∷ []) c.fill.result
    c.fill.new.own.pool.items.items) (sym c.if-is_comm_above.true ∙ c.is_comm_above.ensures)
    (end-own q x c.requires.query c.requires.site ts _ _ c.fill.ensures.pool)

pub returns-clause-pool : goal.returns-clause-pool
returns-clause-pool c =
    let q = c.args.query.now in
    let x = c.args.site.now in
    let ts = terms_at q.table.now c.args.ranks.now in
    let left = terms_at q.table.now x.left.now in
    subst (λ b. IsEnd q x ((if b then ts else take (length ts) left) ∷ []) c.fill-2.result
    c.fill-2.new.own.pool.items.items) (sym c.if-is_comm_above.false ∙ c.is_comm_above.ensures)
    (end-own q x c.requires.query c.requires.site (take (length ts) left) _ _
    (subst (λ us. IsEnd q x (arranged_at q x us ∷ []) c.fill-2.result c.fill-2.new.own.pool.items.items)
    (ap (terms_at q.table.now) c.front.ensures
    ∙ ap (λ n. terms_at q.table.now (take (min n (length x.left.now)) x.left.now))
    (sym (length-map c.args.ranks.now (term_at q.table.now)))
    ∙ sym (first-terms q.table.now (length ts) x.left.now)) c.fill-2.ensures.pool))
