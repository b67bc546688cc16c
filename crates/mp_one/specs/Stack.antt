-- What contracts see of the operations around a place.
use Rattle.std.specs.Prelude.{List, [], ◌∷◌, map}
use Rattle.mp_pattern.specs.PatternTree.{patterns}
use Rattle.mp_pattern.specs.View.{pattern_tree}
use Rattle.mp_pattern.specs.Fits as fits
use Rattle.mp_theory.specs.Frames as walk
use Rattle.mp_search.specs.Frames.{above}
use Rattle.mp_one.specs.Lists.{trees_of}
use Rattle.mp_one.specs.declared.stack.Frame.{Frame}
use Rattle.mp_one.specs.declared.stack.Stack.{Stack}
use Rattle.mp_one.specs.declared.stack.Stack.{Root, Within'}
use Rattle.mp_one.specs.declared.stack.Place.{Place}
use Rattle.mp_one.specs.declared.stack.Next.{Next}
use Rattle.mp_one.specs.declared.stack.Next.TheVariants.{Ended, Refused, Child}
use Rattle.mp_one.specs.declared.stack.Take.{Take}

-- the frame as the search sees it
abbrev pub frame_of : Frame → walk.Frame
frame_of f = record {
  under = above f.under;
  children = patterns (map pattern_tree f.children.now);
  left = trees_of f.left.items;
  owes = f.owes;
}

-- the frames, the innermost first
abbrev pub stack_frames : Stack → List walk.Frame
stack_frames Root = []
stack_frames (Within' f p s) = frame_of f ∷ stack_frames s

-- the innermost frame, without the child that is to take next
abbrev pub inner_frame : Place → walk.Frame
inner_frame p = record {
  under = above p.under;
  children = patterns (map pattern_tree p.later.now);
  left = trees_of p.left.now;
  owes = p.owes;
}

-- the place as the search sees it
abbrev pub child_of : Place → walk.Next
child_of p = walk.child (pattern_tree p.child.now) (inner_frame p) (stack_frames p.outer.now)

-- what comes next, as the search sees it
abbrev pub next_of : Next → walk.Next
next_of Ended = walk.ended
next_of Refused = walk.refused
next_of (Child p) = child_of p

-- the entry as the take table has it
abbrev pub entry_of : Take → fits.Entry
entry_of e = record { terms = trees_of e.terms.items; collapsed = e.collapsed }
