-- The pattern order.
use Rattle.std.specs.Prelude.{ℕ, Bool, true, false, ◌&&◌, List, length, Option, Some, None, if◌then◌else◌}
use Rattle.std.specs.declared.cmp.Ordering.{Ordering}
use Rattle.std.specs.declared.cmp.Ordering.TheVariants.{Less, Equal, Greater}
use Rattle.std.specs.Ordering.{ordering_then, nat_cmp, bool_cmp}
use Rattle.std.specs.Cmp.Lexicographic.{slice_cmp}
use Rattle.mp_term.specs.Order.{tree_cmp}
use Rattle.mp_pattern.specs.PatternTree.{Wildcard, dot, kind, plus, star, optional, counted, Pattern, symbol_pattern}
use Rattle.mp_pattern.specs.PatternTree.{app_pattern, wild_pattern, Patterns, no_patterns, more_patterns, pattern_list}

abbrev mutual
  -- a pattern without a wildcard
  pub is_ground : Pattern → Bool
  is_ground (symbol_pattern n) = true
  is_ground (app_pattern f ps) = all_ground ps
  is_ground (wild_pattern w x) = false

  -- each pattern of the list is without one
  pub all_ground : Patterns → Bool
  all_ground no_patterns = true
  all_ground (more_patterns p ps) = is_ground p && all_ground ps

-- the class of a wildcard: kind before dot, optional, counted, plus and star
abbrev pub wildcard_class : Wildcard → ℕ
wildcard_class (kind k) = 2
wildcard_class dot = 3
wildcard_class (optional t) = 4
wildcard_class (counted n fixed) = 5
wildcard_class plus = 6
wildcard_class star = 7

-- the class of a pattern: ground patterns come first, then applications that hold a wildcard, then the wildcards
abbrev pub class : Pattern → ℕ
class (symbol_pattern n) = 0
class (app_pattern f ps) = if all_ground ps then 0 else 1
class (wild_pattern w x) = wildcard_class w

-- variables by the bytes of their names, unnamed ones last
abbrev pub name_cmp : Option (List ℕ) → Option (List ℕ) → Ordering
name_cmp (Some x) (Some y) = slice_cmp nat_cmp x y
name_cmp (Some x) None = Less
name_cmp None (Some y) = Greater
name_cmp None None = Equal

-- wildcards of one class by kind number, by default, or by count and then fixed before open
abbrev pub wildcard_cmp : Wildcard → Wildcard → Ordering
wildcard_cmp (kind k) (kind l) = nat_cmp k l
wildcard_cmp (optional t) (optional u) = tree_cmp t u
wildcard_cmp (counted m fixed) (counted n other) = ordering_then (nat_cmp m n) (bool_cmp other fixed)
wildcard_cmp v w = Equal

abbrev mutual
  -- By class first. Within a class: symbols before applications, symbols by their bytes, applications by declaration
  -- number, number of arguments and arguments, and wildcards by variable, then by kind, default or count.
  pub pattern_cmp : Pattern → Pattern → Ordering
  pattern_cmp (symbol_pattern m) (symbol_pattern n) = slice_cmp nat_cmp m n
  pattern_cmp (symbol_pattern m) (app_pattern g qs) = Less
  pattern_cmp (symbol_pattern m) (wild_pattern w y) = Less
  pattern_cmp (app_pattern f ps) (symbol_pattern n) = Greater
  pattern_cmp (app_pattern f ps) (app_pattern g qs) =
      ordering_then (nat_cmp (class (app_pattern f ps)) (class (app_pattern g qs)))
      (ordering_then (nat_cmp f g) (ordering_then (nat_cmp (length (pattern_list ps)) (length (pattern_list qs)))
      (patterns_cmp ps qs)))
  pattern_cmp (app_pattern f ps) (wild_pattern w y) = Less
  pattern_cmp (wild_pattern v x) (symbol_pattern n) = Greater
  pattern_cmp (wild_pattern v x) (app_pattern g qs) = Greater
  pattern_cmp (wild_pattern v x) (wild_pattern w y) =
      ordering_then (nat_cmp (wildcard_class v) (wildcard_class w)) (ordering_then (name_cmp x y) (wildcard_cmp v w))

  -- pattern by pattern from the left: `slice_cmp pattern_cmp`
  pub patterns_cmp : Patterns → Patterns → Ordering
  patterns_cmp no_patterns no_patterns = Equal
  patterns_cmp no_patterns (more_patterns q qs) = Less
  patterns_cmp (more_patterns p ps) no_patterns = Greater
  patterns_cmp (more_patterns p ps) (more_patterns q qs) = ordering_then (pattern_cmp p q) (patterns_cmp ps qs)
