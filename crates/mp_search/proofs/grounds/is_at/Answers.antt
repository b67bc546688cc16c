use Rattle.std.proofs.Common.{sym, ◌∙◌, arith}
use Rattle.mp_term.specs.Tree.{symbol}
use Rattle.mp_term.proofs.TestLaws.{equal-from}
use Rattle.mp_table.proofs.RankLaws.{rank_of-found}
use Rattle.mp_search.proofs.grounds.is_at.Goals as goal

pub returns : goal.returns
returns c = λ e.
    rank_of-found c.args.table.now (symbol c.args.name.now) c.len.ensures.valid.ascending (record { 0 = c.args.place })
    (omega (arith, c.if-place-len.false, c.len.ensures.count)) (equal-from _ (sym c.is_symbol.ensures ∙ e))
