-- Which bytes are which template alone, over the pattern whose variables it may name.
use Rattle.std.specs.Prelude.{ℕ, List, ◌++◌, map, None}
use Rattle.mp_term.specs.Signature.{Sig}
use Rattle.mp_pattern.specs.Extent.{extent}
use Rattle.mp_pattern.specs.PatternTree.{Pattern}
use Rattle.mp_pattern.specs.TemplateTree.{Template}
use Rattle.mp_pattern.specs.Variables.{Use, uses}
use Rattle.mp_parser.specs.Syntax.{Tree, IsExprOf}
use Rattle.mp_build.specs.declared.fault.TextKind.TheVariants.{TooMany}
use Rattle.mp_build.specs.declared.fault.TextFault.{TextFault}
use Rattle.mp_build.specs.Alone.{start, IsValueOf}
use Rattle.mp_build.specs.Build.{template_of}
use Rattle.mp_build.specs.Checks.{fault_if}
use Rattle.mp_build.specs.Scope.{Variable}
use Rattle.mp_build.specs.TemplateChecks.{is_large_template, whole_template_faults}

-- an occurrence of a variable in a pattern, as one that may be named
abbrev pub use_variable : Use → Variable
use_variable u = record { name = u.name; extent = extent u.wildcard }

-- the variables of a pattern, one for each occurrence, in order
abbrev pub use_variables : Pattern → List Variable
use_variables p = map use_variable (uses None p)

-- the faults of a template alone: it is too large, at its first token; and its faults by token
abbrev pub template_alone_faults : Sig → Pattern → Tree → List TextFault
template_alone_faults sig p x = fault_if (is_large_template x) TooMany (start x)
    ++ whole_template_faults (use_variables p) sig x

-- the bytes are this template over the variables of the pattern p, as it is written
abbrev pub IsTemplateOf : Sig → Pattern → List ℕ → Template → Type 0
IsTemplateOf sig p = IsValueOf IsExprOf (template_alone_faults sig p) (template_of sig)
