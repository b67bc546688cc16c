-- How much is left to be taken.
use Rattle.std.specs.Prelude.{ℕ, ◌+◌, List, [], ◌∷◌}
use Rattle.mp_term.specs.Size.{all_nodes}
use Rattle.mp_theory.specs.Frames.{Frame, Next, child}

-- the nodes of the terms that are left to the frames
abbrev pub frames_load : List Frame → ℕ
frames_load [] = 0
frames_load (f ∷ fs) = all_nodes f.left + frames_load fs

-- the nodes of the terms that are left at the place
abbrev pub load : Next → ℕ
load (child p f fs) = all_nodes f.left + frames_load fs
load _ = 0
