-- Marked classes: how many items are bound to take one of them, and how many items they have room for.
use Rattle.std.specs.Prelude.{ℕ, suc, ◌+◌, Bool, false, cond, List, [], ◌∷◌, count_by, slice_index, slice_index_or}
use Rattle.std.specs.List.{list_all}

-- whether the class has a mark
abbrev pub is_marked : List Bool → ℕ → Bool
is_marked marks class = slice_index_or marks class false

-- how many of the items have classes that are all marked
abbrev pub held_by : List Bool → List (List ℕ) → ℕ
held_by marks left = count_by (λ classes. list_all (is_marked marks) classes) left

-- the sum of f over the marked classes
abbrev pub marked_sum : (ℕ → ℕ) → List Bool → ℕ
marked_sum f [] = 0
marked_sum f (m ∷ marks) = cond m (f 0) 0 + marked_sum (λ class. f (suc class)) marks

-- how many items the marked classes have room for
abbrev pub room_of : List Bool → List ℕ → ℕ
room_of marks capacities = marked_sum (λ class. slice_index capacities class) marks
