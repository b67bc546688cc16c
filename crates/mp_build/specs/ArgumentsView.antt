-- What an operation allows, by what its arguments are read as in the code.
use Rattle.std.specs.Prelude.{Bool, map, length}
use Rattle.mp_term.specs.declared.signature.OpDecl.{OpDecl}
use Rattle.mp_term.specs.Signature.{Sig, allows}
use Rattle.mp_pattern.specs.SoundRule.{allows_patterns}
use Rattle.mp_parser.specs.Syntax.{trees}
use Rattle.mp_parser.specs.View.{expr_tree}
use Rattle.mp_build.specs.declared.arguments.Arguments.{Arguments}
use Rattle.mp_build.specs.declared.arguments.Arguments.TheVariants.{Terms, Patterns, Templates}
use Rattle.mp_build.specs.Build.{pattern_of}
use Rattle.mp_build.specs.ScopeView.{variable_of}
use Rattle.mp_build.specs.TemplateChecks.{allows_given}

-- the operation allows so many arguments: as many terms, as the patterns may take, or as the templates give
abbrev pub allows_arguments : Sig → Arguments → OpDecl → Bool
allows_arguments sig (Terms es) = allows (length es.now)
allows_arguments sig (Patterns es) = allows_patterns (map (pattern_of sig) (map expr_tree es.now))
allows_arguments sig (Templates vs es) = allows_given (map variable_of vs.now) sig (trees (map expr_tree es.now))
