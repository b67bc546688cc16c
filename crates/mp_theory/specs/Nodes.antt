-- The nodes of a pattern that are still to take.
use Rattle.std.specs.Prelude.{List, [], ◌∷◌, ◌++◌}
use Rattle.mp_pattern.specs.PatternTree.{Pattern}
use Rattle.mp_pattern.specs.Subpatterns.{subpatterns, all_subpatterns}
use Rattle.mp_theory.specs.Frames.{Frame, Next, child}

-- those of the children that are left to the frames, in preorder
abbrev pub frames_nodes : List Frame → List Pattern
frames_nodes [] = []
frames_nodes (f ∷ fs) = all_subpatterns f.children ++ frames_nodes fs

-- those of the place: the child that comes next is the first of them
abbrev pub place_nodes : Next → List Pattern
place_nodes (child p f fs) = subpatterns p ++ (all_subpatterns f.children ++ frames_nodes fs)
place_nodes _ = []
