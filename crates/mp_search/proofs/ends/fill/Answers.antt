use Rattle.std.proofs.Common.{ap, sym, ◌∙◌}
use Rattle.mp_term.specs.Pieces.{is_piece}
use Rattle.mp_pattern.specs.Variables.{comm_above}
use Rattle.mp_search.specs.Frames.{above}
use Rattle.mp_table.specs.Table.{rank_cmp}
use Rattle.mp_search.proofs.EndLaws.{end-filled, end-long, arranged_ranks}
use Rattle.mp_search.proofs.OpenLaws.{left-sorted}
use Rattle.mp_search.proofs.ends.fill.Goals as goal

pub is_piece-requires : goal.is_piece-requires
is_piece-requires c = λ e. left-sorted c.args.query.now c.args.site.now c.requires.query c.requires.site
    (sym c.is_comm_above.ensures ∙ e)

pub returns-then-ranks-site-clause-pool : goal.returns-then-ranks-site-clause-pool
returns-then-ranks-site-clause-pool c = end-long c.args.query.now c.args.site.now c.requires.query c.requires.site
    c.args.ranks.now _ c.clear.ensures.items c.if-ranks-site.true

pub returns-clause-pool : goal.returns-clause-pool
returns-clause-pool c =
    let q = c.args.query.now in
    let x = c.args.site.now in
    end-filled q x c.requires.query c.requires.site c.args.ranks.now _ _ c.requires.ranks c.if-ranks-site.false
    (c.arrange.ensures.items ∙ ap (arranged_ranks q x c.requires.query c.requires.site) c.refill.ensures.items)
    (c.is_piece.ensures ∙ ap (λ b. is_piece rank_cmp b c.as_slice.result.now x.left.now) c.is_comm_above.ensures
    ∙ ap (λ rs. is_piece rank_cmp (comm_above q.sig.now (above x.under)) rs x.left.now) c.as_slice.ensures)
