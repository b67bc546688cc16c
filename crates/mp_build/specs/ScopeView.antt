-- The variables that a condition may name, in the code, as plain data.
use Rattle.std.specs.Prelude.{map, Some, None}
use Rattle.mp_pattern.specs.Extent.{Extent}
use Rattle.mp_build.specs.declared.extent.Extent as code_extent
use Rattle.mp_build.specs.declared.scope.Variable as code_variable
use Rattle.mp_build.specs.declared.scope.Scope as code_scope
use Rattle.mp_build.specs.declared.scope.Scope.TheVariants.{Any, Among}
use Rattle.mp_build.specs.Scope.{Variable, Scope}

-- how many terms as plain data
abbrev pub extent_view : code_extent.Extent → Extent
extent_view e = record { least = e.least; fixed = e.fixed }

-- the variable as plain data
abbrev pub variable_of : code_variable.Variable → Variable
variable_of v = record { name = v.name.now; extent = extent_view v.extent }

-- the variables that may be named as plain data
abbrev pub scope_of : code_scope.Scope → Scope
scope_of Any = None
scope_of (Among vs) = Some (map variable_of vs.items)
