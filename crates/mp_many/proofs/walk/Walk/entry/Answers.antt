use Rattle.std.proofs.Common.{◌≤◌, ◌∙◌, length, ap, subst}
use Rattle.std.specs.Prelude.{MatchOption, slice_index_or}
use Rattle.mp_table.specs.Table.{Table}
use Rattle.mp_pattern.specs.Fits.{nothing}
use Rattle.mp_search.specs.Reading.{ReadsAs}
use Rattle.mp_many.proofs.SubstLaws.{given-from}
use Rattle.mp_many.proofs.walk.Walk.entry.Goals as goal

pub returns : goal.returns
returns c = λ i e.
    let w = c.self.inside in
    let tb = c.args.self.now.table in
    let j = given-from w.accepts.now w.leaves.item i (ap (λ v. v.item) c.self.view_is ∙ e) in
    let same = c.self.invariant.table ∙ ap (λ v. v.table) c.self.view_is in
    subst (λ T. MatchOption c.entry.result (length T ≤ c.args.node)
    (λ x. ReadsAs tb (x.0.now, x.1) (slice_index_or T c.args.node nothing))) j.2
    (subst (λ (b : Table). MatchOption c.entry.result (length j.0.1 ≤ c.args.node)
    (λ x. ReadsAs b (x.0.now, x.1) (slice_index_or j.0.1 c.args.node nothing))) same (c.entry.ensures j.0 j.1))
