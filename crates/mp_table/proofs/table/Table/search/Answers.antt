use Rattle.std.proofs.Common.{◌∙◌, ◌+◌, ◌-◌, ◌/◌, ◌<◌, length, sym, arith}
use Rattle.mp_table.specs.Sought.{sought_tree}
use Rattle.mp_table.proofs.RankLaws.{rank_of-found, rank_of-missed, less_up_to, greater_from}
use Rattle.mp_table.proofs.table.Table.search.Goals as goal

pub loop-low-preserved-in-Less : goal.loop-low-preserved-in-Less
loop-low-preserved-in-Less c =
    let t = c.args.self.now in
    let middle = c.loop-low.low + (c.loop-low.high - c.loop-low.low) / 2 in
    let there : middle < length t.terms = omega (arith, c.loop-low.invariant.within, c.loop-low-test.true) in
    record {
      within = c.loop-low.invariant.within;
      less = less_up_to t (sought_tree t c.args.sought.now) c.len-high.ensures.valid.ascending middle there
          (sym c.compare.ensures ∙ c.in-Less.is);
      greater = c.loop-low.invariant.greater;
    }

pub loop-low-preserved : goal.loop-low-preserved
loop-low-preserved c =
    let t = c.args.self.now in
    let middle = c.loop-low.low + (c.loop-low.high - c.loop-low.low) / 2 in
    let there : middle < length t.terms = omega (arith, c.loop-low.invariant.within, c.loop-low-test.true) in
    record {
      within = omega (arith, there);
      less = c.loop-low.invariant.less;
      greater = greater_from t (sought_tree t c.args.sought.now) c.len-high.ensures.valid.ascending middle there
          (sym c.compare.ensures ∙ c.in-Greater.is);
    }

pub returns-in-Equal : goal.returns-in-Equal
returns-in-Equal c =
    let t = c.args.self.now in
    let middle = c.loop-low.low + (c.loop-low.high - c.loop-low.low) / 2 in
    let there : middle < length t.terms = omega (arith, c.loop-low.invariant.within, c.loop-low-test.true) in
    sym (rank_of-found t (sought_tree t c.args.sought.now) c.len-high.ensures.valid.ascending (record { 0 = middle }) there
    (sym c.compare.ensures ∙ c.in-Equal.is))

pub returns : goal.returns
returns c =
    let t = c.args.self.now in
    sym (rank_of-missed t (sought_tree t c.args.sought.now) c.loop-low.low c.loop-low.high c.loop-low-test.false
    c.loop-low.invariant.less c.loop-low.invariant.greater)
