use Rattle.std.proofs.Common.{sym, subst, arith}
use Rattle.std.proofs.lemmas.List.{length-map}
use Rattle.mp_table.specs.Table.{term_at, terms_at}
use Rattle.mp_theory.specs.Known.{all_of}
use Rattle.mp_theory.proofs.Wildcards.{if_several-more}
use Rattle.mp_search.specs.Made.{IsEnd}
use Rattle.mp_search.proofs.EndLaws.{end-own}
use Rattle.mp_search.proofs.ends.fill_several.Goals as goal

pub returns-clause-pool : goal.returns-clause-pool
returns-clause-pool c =
    let q = c.args.query.now in
    let x = c.args.site.now in
    let ts = terms_at q.table.now c.args.ranks.now in
    subst (λ o. IsEnd q x (all_of o) c.fill.result c.fill.new.own.pool.items.items)
    (sym (if_several-more ts (omega (arith, c.if-ranks-lt2.false, length-map c.args.ranks.now (term_at q.table.now)))))
    (end-own q x c.requires.query c.requires.site ts _ _ c.fill.ensures.pool)
