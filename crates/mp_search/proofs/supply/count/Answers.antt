use Rattle.std.proofs.Common.{map, drop, ap, ◌∙◌, arith}
use Rattle.std.proofs.Math.ListN.{drop_of_length-le}
use Rattle.mp_pattern.specs.PatternTree.{patterns}
use Rattle.mp_pattern.specs.View.{pattern_tree}
use Rattle.mp_table.specs.Table.{rank_cmp, terms_at}
use Rattle.mp_term.specs.Pieces.{without}
use Rattle.mp_theory.specs.Supply.{passing}
use Rattle.mp_search.specs.Frames.{above}
use Rattle.mp_search.specs.Lacking.{some_may_match}
use Rattle.mp_search.specs.Reading.{subst_of}
use Rattle.mp_search.proofs.RankOrder.{without-nothing}
use Rattle.mp_search.proofs.supply.count.Goals as goal

pub returns : goal.returns
returns c =
    let q = c.args.query.now in
    let ps = patterns (map pattern_tree c.args.children.now) in
    let test = some_may_match q.sig.now (subst_of q c.args.trail.now) (above c.args.under) c.args.marks.now ps in
    let l = drop c.loop-rank.taken c.args.take.now in
    let end = ap (without rank_cmp l)
    (drop_of_length-le c.args.left.now {i = c.loop-rank.rank-index} c.loop-rank-test.false) ∙ without-nothing l in
    omega (arith, ap (λ rs. passing test (terms_at q.table.now rs)) end, c.loop-rank.invariant.counted)
