-- The wildcards of a pattern as plain data.
use Rattle.mp_term.specs.View.{tree}
use Rattle.mp_parser.specs.View.{wildcard_of}
use Rattle.mp_build.specs.declared.wildcard.DefaultForm as code
use Rattle.mp_build.specs.declared.wildcard.DefaultForm.TheVariants as forms
use Rattle.mp_build.specs.declared.wildcard.PatternWildcard as code_wildcard
use Rattle.mp_build.specs.ScopeView.{extent_view}
use Rattle.mp_build.specs.Wildcards.{DefaultForm, absent, normal_form, unknown, PatternWildcard}

-- the default as plain data
abbrev pub default_view : code.DefaultForm → DefaultForm
default_view forms.Absent = absent
default_view (forms.Normal t) = normal_form (tree t)
default_view forms.Unknown = unknown

-- the wildcard as plain data
abbrev pub wildcard_view : code_wildcard.PatternWildcard → PatternWildcard
wildcard_view w =
    record { wildcard = wildcard_of w.wildcard; extent = extent_view w.extent; default = default_view w.default }
