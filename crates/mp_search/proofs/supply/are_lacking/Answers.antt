use Rattle.std.proofs.Common.{◌≤◌, sym, ◌∙◌, subst, arith, map}
use Rattle.mp_pattern.specs.PatternTree.{patterns}
use Rattle.mp_pattern.specs.View.{pattern_tree}
use Rattle.mp_table.proofs.RankLaws.{without-terms}
use Rattle.mp_theory.specs.Supply.{passing}
use Rattle.mp_search.specs.Frames.{above}
use Rattle.mp_search.specs.Lacking.{some_may_match}
use Rattle.mp_search.specs.Reading.{subst_of}
use Rattle.mp_search.proofs.supply.are_lacking.Goals as goal

pub returns : goal.returns
returns c = λ h.
    let q = c.args.query.now in
    let ps = patterns (map pattern_tree c.args.children.now) in
    let test = some_may_match q.sig.now (subst_of q c.args.trail.now) (above c.args.under) c.args.marks.now ps in
    let same = without-terms q.table.now c.requires.query.table.ascending c.args.take.now c.args.left.now
    c.requires.take c.requires.left in
    let few = subst (λ ts. passing test ts ≤ c.count-count.result) (sym same) c.count-count.ensures in
    record {
      ones = sym c.each_takes_one.ensures ∙ c.if-not-each_takes_one.false;
      few = omega (arith, few, c.marks_more.ensures h);
    }
