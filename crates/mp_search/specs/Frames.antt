-- What contracts see of the operations that a search is inside of.
use Rattle.std.specs.Prelude.{◌<◌, ⊤, ℕ, List, [], ◌∷◌, map, Option, Some, None, option_map, slice_get}
use Rattle.mp_term.specs.declared.term.OpId.{OpId}
use Rattle.mp_term.specs.Tree.{Tree}
use Rattle.mp_pattern.specs.PatternTree.{patterns}
use Rattle.mp_pattern.specs.View.{pattern_tree}
use Rattle.mp_table.specs.Table.{terms_at}
use Rattle.mp_theory.specs.Frames as walk
use Rattle.mp_theory.specs.Machine.{arguments}
use Rattle.mp_theory.specs.Items.{onward_all}
use Rattle.mp_search.specs.declared.level.Level.{Level}
use Rattle.mp_search.specs.declared.query.Query.{Query}
use Rattle.mp_search.specs.declared.stack.Left.{Left}
use Rattle.mp_search.specs.declared.stack.Left.TheVariants.{Given, Args, Take, Rest}
use Rattle.mp_search.specs.declared.stack.Frame.{Frame}
use Rattle.mp_search.specs.declared.stack.Stack.{Stack}
use Rattle.mp_search.specs.declared.stack.Stack.{Root, Within'}
use Rattle.mp_search.specs.declared.stack.Place.{Place}
use Rattle.mp_search.specs.declared.stack.Next.{Next}
use Rattle.mp_search.specs.declared.stack.Next.TheVariants.{Ended, Refused, Child}
use Rattle.mp_search.specs.Reading.{table_of}

-- the number of the operation above, if there is one
abbrev pub above : Option OpId → Option ℕ
above f = option_map (λ g. g.0) f

-- what the node of the level takes
abbrev pub take_at : Query → List Level → ℕ → List Tree
take_at q ls k = elim (slice_get ls k) [ None ↦ [] | Some l ↦ terms_at q.table.now l.take.items.items ]

-- what is left behind it
abbrev pub rest_at : Query → List Level → ℕ → List Tree
rest_at q ls k = elim (slice_get ls k) [ None ↦ [] | Some l ↦ terms_at q.table.now l.rest.items.items ]

-- the terms that are meant
abbrev pub left_of : Query → List Level → Left → List Tree
left_of q ls Given = terms_at q.table.now q.start.left.now
left_of q ls (Args k) = arguments (take_at q ls k)
left_of q ls (Take k) = take_at q ls k
left_of q ls (Rest k) = rest_at q ls k

-- the frame as the theory sees it
abbrev pub frame_of : Query → List Level → Frame → walk.Frame
frame_of q ls f = record {
  under = above f.under;
  children = patterns (map pattern_tree f.children.now);
  left = left_of q ls f.left;
  owes = f.owes;
}

-- the frames, the innermost first
abbrev pub stack_frames : Query → List Level → Stack → List walk.Frame
stack_frames q ls Root = []
stack_frames q ls (Within' f p s) = frame_of q ls f ∷ stack_frames q ls s

-- the innermost frame, without the child that is to take next
abbrev pub inner_of : Query → List Level → Place → walk.Frame
inner_of q ls p = record {
  under = above p.under;
  children = patterns (map pattern_tree p.later.now);
  left = left_of q ls p.left;
  owes = p.owes;
}

-- the place as the theory sees it
abbrev pub child_of : Query → List Level → Place → walk.Next
child_of q ls p = walk.child (pattern_tree p.child.now) (inner_of q ls p) (stack_frames q ls p.outer.now)

-- what comes next, as the theory sees it
abbrev pub next_of : Query → List Level → Next → walk.Next
next_of q ls Ended = walk.ended
next_of q ls Refused = walk.refused
next_of q ls (Child p) = child_of q ls p

-- the terms are at levels below k
abbrev pub LeftBelow : ℕ → Left → Type 0
LeftBelow k Given = ⊤
LeftBelow k (Args j) = j < k
LeftBelow k (Take j) = j < k
LeftBelow k (Rest j) = j < k

-- those of each frame are
abbrev pub IsBelow : ℕ → Stack → Type 0
IsBelow k Root = ⊤
IsBelow k (Within' f p s) = LeftBelow k f.left × IsBelow k s

-- those of the place and of the frames around it are
abbrev pub PlaceBelow : ℕ → Place → Type 0
PlaceBelow k p = LeftBelow k p.left × IsBelow k p.outer.now

-- those of what comes next are
abbrev pub NextBelow : ℕ → Next → Type 0
NextBelow k Ended = ⊤
NextBelow k Refused = ⊤
NextBelow k (Child p) = PlaceBelow k p

-- the frame in which the search starts
abbrev pub start_frame : Query → walk.Frame
start_frame q = record {
  under = above q.start.under;
  children = patterns (map pattern_tree q.start.children.now);
  left = terms_at q.table.now q.start.left.now;
  owes = q.start.owes;
}

-- the place at which it starts
abbrev pub start_of : Query → walk.Next
start_of q = walk.settle (start_frame q ∷ [])

-- the place after the levels
abbrev pub place_after : Query → List Level → walk.Next
place_after q ls = onward_all (start_of q) (table_of q.table.now ls)
