-- Wildcards of one variable that aren't the same.
use Rattle.std.specs.Prelude.{ℕ, Bool, false, ◌&&◌, not, List, [], ◌∷◌, ◌++◌, length, nat_eq, Option, Some, None}
use Rattle.std.specs.Prelude.{if◌then◌else◌}
use Rattle.std.specs.Ordering.{is_eq}
use Rattle.std.specs.List.{list_any}
use Rattle.mp_pattern.specs.PatternTree.{Wildcard, Pattern, wild_pattern}
use Rattle.mp_pattern.specs.Order.{wildcard_class, wildcard_cmp}
use Rattle.mp_pattern.specs.Subpatterns.{subpatterns}
use Rattle.mp_pattern.specs.Value.{same_name}

-- wildcards of one class, and of one kind, one default or one count
abbrev pub same_shape : Wildcard → Wildcard → Bool
same_shape v w = nat_eq (wildcard_class v) (wildcard_class w) && is_eq (wildcard_cmp v w)

-- wildcards of one variable, of another class, kind, default or count
abbrev pub clashes : Pattern → Pattern → Bool
clashes (wild_pattern v (Some x)) (wild_pattern w (Some y)) = same_name x y && not (same_shape v w)
clashes _ _ = false

-- the place of the first pattern that clashes with one before it, where `before` stand in front of all
abbrev pub first_clash_after : List Pattern → List Pattern → Option ℕ
first_clash_after before [] = None
first_clash_after before (p ∷ ps) = if list_any (λ q. clashes q p) before then Some
    (length before) else first_clash_after (before ++ p ∷ []) ps

-- the number of the first node whose wildcard clashes with one before it
abbrev pub first_clash : Pattern → Option ℕ
first_clash p = first_clash_after [] (subpatterns p)
