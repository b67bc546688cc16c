-- What contracts see of the substitution so far.
use Rattle.std.specs.Prelude.{List, map, Option, Some, None}
use Rattle.mp_pattern.specs.Value.{Binding, Subst}
use Rattle.mp_one.specs.TrailValue.{trail_value}
use Rattle.mp_one.specs.declared.trail.TrailBinding.{TrailBinding}
use Rattle.mp_one.specs.declared.trail.Extended.{Extended}
use Rattle.mp_one.specs.declared.trail.Extended.TheVariants.{Clash, Same, Changed}

-- the variable with its value
abbrev pub trail_binding : TrailBinding → Binding
trail_binding b = record { name = b.name.now; value = trail_value b.value }

-- the substitution so far
abbrev pub trail_of : List TrailBinding → Subst
trail_of bs = map trail_binding bs

-- what an entry makes of the substitution s, if it goes with it
abbrev pub outcome : Subst → Extended → Option Subst
outcome s Clash = None
outcome s Same = Some s
outcome s (Changed t) = Some (trail_of t.items)
