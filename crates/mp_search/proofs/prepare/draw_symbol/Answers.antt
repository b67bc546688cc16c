use Rattle.std.proofs.Common.{ap, sym, ◌∙◌, inl, inr, refl, false, [], ◌∷◌}
use Rattle.std.specs.Prelude.{option_map}
use Rattle.mp_pattern.specs.View.{pattern_tree}
use Rattle.mp_table.specs.Table.{term_at, terms_at}
use Rattle.mp_search.specs.Frames.{above}
use Rattle.mp_search.specs.Made.{arranged_at}
use Rattle.mp_search.specs.Site.{site_frame}
use Rattle.mp_search.proofs.EndLaws.{arranged-one, symbol-taken}
use Rattle.mp_search.proofs.MadeLaws.{made-whole}
use Rattle.mp_search.proofs.SiteLaws.{site-node}
use Rattle.mp_search.proofs.prepare.draw_symbol.Goals as goal

pub ground_rank-requires-clause-child : goal.ground_rank-requires-clause-child
ground_rank-requires-clause-child c = site-node c.args.query.now c.args.site.now c.requires.site

pub returns-clause-made : goal.returns-clause-made
returns-clause-made c s =
    let q = c.args.query.now in
    let x = c.args.site.now in
    let t = term_at q.table.now c.in-Some.rank in
    made-whole q x s _ false c.fill-there.result
    (arranged_at q x (terms_at q.table.now c.from_ref.result.now) ∷ []) refl c.fill-there.ensures.pool
    (λ fs k e i h m. inr (inl
    (symbol-taken q.sig.now (pattern_tree x.child.now) c.requires.symbol.0 (site_frame q x) fs t e c.requires.symbol.1
    (sym (ap (option_map (term_at q.table.now)) c.in-Some.is) ∙ c.ground_rank.ensures.term) h
    ∙ sym (arranged-one q.sig.now (above x.under) t)
    ∙ ap (λ rs. arranged_at q x (terms_at q.table.now rs)) (sym c.from_ref.ensures.value))))
