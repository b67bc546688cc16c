use Rattle.mp_walk.proofs.DownLaws.{over-place, over-levels, over-there, over-room, over-chained}
use Rattle.mp_walk.proofs.DownLaws.{over-less, if-some}
use Rattle.mp_walk.proofs.course.Course.go_over.Goals as goal

pub returns-clause-course : goal.returns-clause-course
returns-clause-course c = record {
  setting = c.requires.left.standing.setting;
  frames = c.requires.left.standing.frames;
  place = over-place c.requires.left;
  trail = c.requires.left.standing.trail;
  levels = over-levels c.requires.left;
  store = c.requires.store;
  there = if-some _ c.args.instr.now.over (over-there c.requires.left);
  room = over-room c.requires.left;
  chained = over-chained c.requires.left;
  ended = c.requires.left.standing.ended;
}

pub returns-clause-less : goal.returns-clause-less
returns-clause-less c = over-less c.requires.left
