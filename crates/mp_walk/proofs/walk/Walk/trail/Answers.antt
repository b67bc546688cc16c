use Rattle.std.proofs.Common.{sym, subst}
use Rattle.std.specs.Prelude.{IfSome, IsSome}
use Rattle.mp_pattern.specs.Variables.{variables}
use Rattle.mp_subst.specs.Trail.{GoesWith}
use Rattle.mp_walk.specs.NamedItems.{called, IsItemTrail}
use Rattle.mp_walk.specs.WalkInside.{walk_view}
use Rattle.mp_table.specs.Table.{subject_of}
use Rattle.mp_walk.proofs.ItemFits.{item-fits_names}
use Rattle.mp_walk.proofs.NamedLaws.{names-called}
use Rattle.mp_walk.proofs.ViewLaws.{standing-course}
use Rattle.mp_walk.proofs.walk.Walk.trail.Goals as goal

pub returns-clause-goes : goal.returns-clause-goes
returns-clause-goes c =
    let course = c.self.inside.course in
    subst (λ v. GoesWith v.table course.trail) c.self.view_is
    (standing-course c.self.inside.stage course
    (subst (λ v. IsSome v.item) (sym c.self.view_is) c.requires) c.self.invariant).0.0.trail.goes

pub returns-clause-fits : goal.returns-clause-fits
returns-clause-fits c =
    let course = c.self.inside.course in
    let w = walk_view c.self.inside in
    let at = standing-course c.self.inside.stage course
    (subst (λ v. IsSome v.item) (sym c.self.view_is) c.requires) c.self.invariant in
    subst (λ v. IfSome v.item (IsItemTrail v.sig v.code (subject_of v.table) v.table course.trail)) c.self.view_is
    (subst (λ o. IfSome o (IsItemTrail w.sig w.code (subject_of w.table) w.table course.trail)) (sym at.1)
    (λ q few leaf. item-fits_names course at.0 q few (called (variables q)) (names-called (variables q)) leaf))
