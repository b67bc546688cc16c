use Rattle.std.proofs.Common.{sym, ◌∙◌, subst, [], ◌∷◌, inl, inr, false}
use Rattle.mp_term.specs.Tree.{app, trees}
use Rattle.mp_table.specs.Table.{terms_at}
use Rattle.mp_theory.specs.Known.{all_of}
use Rattle.mp_search.specs.Frames.{above}
use Rattle.mp_search.specs.Made.{IsEnd, IsThere}
use Rattle.mp_search.proofs.Contributions.{contribution-joined, contribution-other}
use Rattle.mp_search.proofs.EndLaws.{end-none, absent-there}
use Rattle.mp_search.proofs.ends.fill_joined.Goals as goal

pub returns-then-is_opened-clause-pool : goal.returns-then-is_opened-clause-pool
returns-then-is_opened-clause-pool c =
    let q = c.args.query.now in
    let x = c.args.site.now in
    subst (λ o. IsEnd q x (all_of o) c.fill_several.result c.fill_several.new.own.pool.items.items)
    (sym (contribution-joined q.sig.now (above x.under) c.args.op.0 (terms_at q.table.now c.args.ranks.now)
    (sym c.is_opened.ensures ∙ c.if-is_opened.true))) c.fill_several.ensures.pool

pub returns-clause-pool : goal.returns-clause-pool
returns-clause-pool c =
    let q = c.args.query.now in
    let x = c.args.site.now in
    let ts = terms_at q.table.now c.args.ranks.now in
    let u = app c.args.op.0 (trees ts) in
    subst (λ o. IsEnd q x (all_of o) false c.clear.new.self.items.items)
    (sym (contribution-other q.sig.now (above x.under) c.args.op.0 ts
    (sym c.is_opened.ensures ∙ c.if-is_opened.false)))
    (end-none q x c.requires.query c.requires.site ((u ∷ []) ∷ []) _ c.clear.ensures.items (λ l i t. elim i [
      | inl g ↦ absent-there q x c.requires.query c.requires.site u c.requires.absent (subst (IsThere q x) g t)
      | inr j ↦ absurd j
    ]))
