use Rattle.std.proofs.Common.{◌≤◌, ◌∙◌, ap, length, sym, subst}
use Rattle.std.specs.Prelude.{IsSome, MatchOption, slice_index_or}
use Rattle.mp_table.specs.Table.{Table}
use Rattle.mp_walk.specs.CourseView.{item_of}
use Rattle.mp_pattern.specs.Fits.{nothing}
use Rattle.mp_search.specs.Reading.{ReadsAs}
use Rattle.mp_walk.proofs.EntryLaws.{entry-reads, item-same}
use Rattle.mp_walk.proofs.ViewLaws.{standing-course}
use Rattle.mp_walk.proofs.walk.Walk.entry.Goals as goal

pub entry-requires : goal.entry-requires
entry-requires c =
    (standing-course c.self.inside.stage c.self.inside.course
    (subst (λ v. IsSome v.item) (sym c.self.view_is) c.requires) c.self.invariant).0.0

pub returns : goal.returns
returns c = λ i e.
    let course = c.self.inside.course in
    let at = standing-course c.self.inside.stage course
    (subst (λ v. IsSome v.item) (sym c.self.view_is) c.requires) c.self.invariant in
    let same = item-same (item_of course) i (sym at.1 ∙ (ap (λ v. v.item) c.self.view_is ∙ e)) in
    subst (λ (b : Table). MatchOption c.entry.result (length i.1 ≤ c.args.node)
    (λ x. ReadsAs b (x.0.now, x.1) (slice_index_or i.1 c.args.node nothing))) (ap (λ v. v.table) c.self.view_is)
    (subst (λ j. MatchOption c.entry.result (length j.1 ≤ c.args.node)
    (λ x. ReadsAs course.set.table.now (x.0.now, x.1) (slice_index_or j.1 c.args.node nothing))) same
    (entry-reads c.entry.result (λ x. (x.0.now, x.1)) course.set.table.now (item_of course).1 c.args.node
    c.entry.ensures))
