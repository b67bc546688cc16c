-- The checks of a template: all faults that they find, in the order of its tokens.
use Rattle.std.specs.Prelude.{Bool, false, ◌||◌, List, [], ◌++◌, Option, Some, None, nat_lt}
use Rattle.mp_term.specs.declared.signature.OpDecl.{OpDecl}
use Rattle.mp_term.specs.Signature.{Sig}
use Rattle.mp_pattern.specs.declared.limits.TheConstants.{MAX_PATTERN_NODES}
use Rattle.mp_pattern.specs.Extent.{allows_extent, templates_extent}
use Rattle.mp_parser.specs.Syntax.{Tree, Symbol, Apply, InfixOf, Wild, Optional, Counted, Variable, Trees, no_trees}
use Rattle.mp_parser.specs.Syntax.{more_trees}
use Rattle.mp_build.specs.declared.fault.TextKind.TheVariants.{LooseSequence}
use Rattle.mp_build.specs.declared.fault.TextFault.{TextFault}
use Rattle.mp_build.specs.Build.{templates_of}
use Rattle.mp_build.specs.Scope as scope
use Rattle.mp_build.specs.Scope.{is_bound_sequence, extent_in}
use Rattle.mp_build.specs.Checks.{fault_if, nodes, has_large_default, head_faults, arity_faults, sign_faults, op_named}
use Rattle.mp_build.specs.Checks.{op_signed, symbol_faults, term_faults}
use Rattle.mp_build.specs.ConditionChecks.{unbound_faults}

-- a template has more than MAX_PATTERN_NODES nodes, or a default in it is large
abbrev pub is_large_template : Tree → Bool
is_large_template x = nat_lt MAX_PATTERN_NODES (nodes x) || has_large_default x

-- a template that there is has so
abbrev pub has_large_template : Option Tree → Bool
has_large_template None = false
has_large_template (Some x) = is_large_template x

module _ (vs : List scope.Variable) where
  -- the fault of a variable that is the whole template: it may stand for another number of terms than one
  abbrev pub loose_template_faults : Tree → List TextFault
  loose_template_faults (Variable x) = fault_if (is_bound_sequence vs x.text) LooseSequence x.place
  loose_template_faults _ = []

  module _ (sig : Sig) where
    -- the operation allows the number of arguments that these expressions give, by what each variable stands for
    abbrev pub allows_given : Trees → OpDecl → Bool
    allows_given args = allows_extent (templates_extent (extent_in vs) (templates_of sig args))

    -- the faults of a template over the variables of its pattern, by token; a wildcard has those that it has in a term
    abbrev mutual
      pub template_faults : Tree → List TextFault
      template_faults (Symbol w) = symbol_faults sig w
      template_faults (Apply f args) = head_faults (allows_given args) f (op_named sig f.text)
          ++ all_template_faults args
      template_faults (InfixOf opened sign operands) =
          arity_faults (allows_given operands) opened (op_signed sig sign.text)
          ++ template_operand_faults (sign_faults sign (op_signed sig sign.text)) operands
      template_faults (Wild w) = term_faults sig (Wild w)
      template_faults (Optional w others default) = term_faults sig (Optional w others default)
      template_faults (Counted w count more) = term_faults sig (Counted w count more)
      template_faults (Variable x) = unbound_faults (Some vs) x

      pub template_operand_faults : List TextFault → Trees → List TextFault
      template_operand_faults at_sign no_trees = at_sign
      template_operand_faults at_sign (more_trees t ts) = template_faults t ++ (at_sign ++ all_template_faults ts)

      pub all_template_faults : Trees → List TextFault
      all_template_faults no_trees = []
      all_template_faults (more_trees t ts) = template_faults t ++ all_template_faults ts

    -- the faults of a whole template, which is no variable of a plus, star or counted wildcard
    abbrev pub whole_template_faults : Tree → List TextFault
    whole_template_faults x = loose_template_faults x ++ template_faults x

    -- those of a template that there is
    abbrev pub arrow_faults : Option Tree → List TextFault
    arrow_faults None = []
    arrow_faults (Some x) = whole_template_faults x
