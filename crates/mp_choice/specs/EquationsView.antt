-- What an `Equations` shows: the list of all solutions, cut at the place where it stands.
use Rattle.std.specs.Prelude.{◌≡◌, ◌<◌, length, All}
use Rattle.std.specs.Ordering.{nat_cmp}
use Rattle.std.specs.Cmp.Lexicographic.{slice_cmp}
use Rattle.mp_choice.specs.declared.equations.Equations.TheInside.{Inside}
use Rattle.mp_choice.specs.Choices.{Choices}
use Rattle.mp_choice.specs.Listed.{item_at, to_come_at, StandsAt}
use Rattle.mp_choice.specs.Equations.{IsSolution}
use Rattle.mp_choice.specs.EquationList.{solutions_of}

-- what callers see
abbrev pub equations_view : Inside → Choices
equations_view s = record {
  item = item_at s.stage s.numbers.items;
  to_come = to_come_at (slice_cmp nat_cmp) s.stage s.numbers.items (solutions_of s.coefficients.items s.total);
  room = length s.coefficients.items;
}

-- what holds between calls
pub record IsSound (s : Inside) : Type 0 where
  pub same_length : length s.numbers.items ≡ length s.coefficients.items
  pub positive : All (λ c. 0 < c) s.coefficients.items
  pub stands : StandsAt (IsSolution s.coefficients.items s.total) s.stage s.numbers.items
