use Rattle.std.proofs.Common.{◌∙◌, Bool, not, sym}
use Rattle.std.specs.List.{list_all}
use Rattle.mp_term.specs.Tree.{Tree}
use Rattle.mp_pattern.specs.Holds.{occurs}
use Rattle.mp_table.specs.Table.{terms_at}
use Rattle.mp_cond.proofs.RankParts.{list_all-terms_behind}
use Rattle.mp_cond.proofs.rank_subterm.are_free.Goals as goal

pub returns-then-not-is_free : goal.returns-then-not-is_free
returns-then-not-is_free c =
    let T = c.args.table.now in
    let free : Tree → Bool = λ t. list_all (λ u. not (occurs t u)) (terms_at T c.args.others.now) in
    list_all-terms_behind T c.args.ranks.now free c.loop-rank.rank-index _ _ c.loop-rank-test.true
    (sym c.if-not-is_free.true ∙ c.is_free.ensures)
    ∙ c.loop-rank.invariant.rest

pub loop-rank-preserved : goal.loop-rank-preserved
loop-rank-preserved c =
    let T = c.args.table.now in
    let free : Tree → Bool = λ t. list_all (λ u. not (occurs t u)) (terms_at T c.args.others.now) in
    record {
      ranks = c.loop-rank.invariant.ranks;
      rest = list_all-terms_behind T c.args.ranks.now free c.loop-rank.rank-index _ _ c.loop-rank-test.true
          (sym c.if-not-is_free.false ∙ c.is_free.ensures)
          ∙ c.loop-rank.invariant.rest;
    }
