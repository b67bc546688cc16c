-- How a walk is read, and what holds of each.
use Rattle.std.specs.Prelude.{ℕ, Bool, true, false, List, [], Option, Some, None, ⊤}
use Rattle.mp_pattern.specs.Fits as fits
use Rattle.mp_walk.specs.declared.stage.Stage.{Stage}
use Rattle.mp_walk.specs.declared.stage.Stage.TheVariants.{Before, Standing, Failed}
use Rattle.mp_walk.specs.declared.walk.Walk.TheInside.{Inside}
use Rattle.mp_walk.specs.declared.course.Course.{Course}
use Rattle.mp_walk.specs.CourseView.{course_to_come, item_of, IsCourse, IsAtItem}
use Rattle.mp_walk.specs.WalkView as plain

-- the item at which a walk stands
abbrev pub item_at : Stage → Course → Option (ℕ × fits.Table)
item_at Standing c = Some (item_of c)
item_at _ c = None

-- those that are still to come
abbrev pub to_come_at : Stage → Course → List (ℕ × fits.Table)
to_come_at Before c = course_to_come c
to_come_at Standing c = course_to_come c
to_come_at _ c = []

-- memory ran out
abbrev pub has_failed : Stage → Bool
has_failed Failed = true
has_failed _ = false

-- the walk as plain data
abbrev pub walk_view : Inside → plain.WalkView
walk_view w = record {
  sig = w.course.set.sig.now;
  code = w.course.set.code.now.instrs;
  table = w.course.set.table.now;
  item = item_at w.stage w.course;
  to_come = to_come_at w.stage w.course;
  failed = has_failed w.stage;
}

-- what holds of a walk at a stage
abbrev pub IsAtStage : Stage → Course → Type 0
IsAtStage Before c = IsCourse c
IsAtStage Standing c = IsAtItem c
IsAtStage _ c = ⊤

-- what holds of each walk
abbrev pub IsWalk : Inside → Type 0
IsWalk w = IsAtStage w.stage w.course
