-- How many marks a mark has.
use Rattle.std.specs.Prelude.{ℕ, ◌+◌, List}
use Rattle.mp_rewrite.specs.Marks.{Mark, unknown, dead, inner, Marks, no_marks, more_marks, marks}

-- the marks of a mark, itself among them, and of a list of marks
abbrev mutual
  pub mark_count : Mark → ℕ
  mark_count unknown = 1
  mark_count dead = 1
  mark_count (inner ms) = mark_counts ms + 1

  pub mark_counts : Marks → ℕ
  mark_counts no_marks = 0
  mark_counts (more_marks m ms) = mark_count m + mark_counts ms

-- those of a `List`
abbrev pub all_marks : List Mark → ℕ
all_marks ms = mark_counts (marks ms)
