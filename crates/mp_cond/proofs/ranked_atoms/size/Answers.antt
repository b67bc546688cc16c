use Rattle.std.proofs.Common.{◌∙◌, ◌+◌, sym, ap}
use Rattle.mp_term.specs.Size.{all_nodes}
use Rattle.mp_table.specs.Table.{terms_at}
use Rattle.mp_cond.proofs.RankedLaws.{sum_by-plain, sum_by-wrapped}
use Rattle.mp_cond.proofs.ranked_atoms.size.Goals as goal

pub returns-in-None : goal.returns-in-None
returns-in-None c =
    let t = c.args.table.now in
    c.total_nodes-total.ensures.total ∙ ap (λ rs. all_nodes (terms_at t rs)) c.ranks.ensures
    ∙ sum_by-plain t c.args.a.now (sym c.wrap.ensures ∙ c.in-None.is)

pub returns-in-Some : goal.returns-in-Some
returns-in-Some c =
    let t = c.args.table.now in
    ap (λ n. n + 1) (c.total_nodes-total.ensures.total ∙ ap (λ rs. all_nodes (terms_at t rs)) c.ranks.ensures)
    ∙ sum_by-wrapped t c.args.a.now c.in-Some.field-0 (sym c.wrap.ensures ∙ c.in-Some.is)
