-- The wildcards of a pattern with their defaults, and which of them have one variable and yet aren't the same.
use Rattle.std.specs.Bool.{beq}
use Rattle.std.specs.Prelude.{◌==◌, Bool, true, false, ◌&&◌, not, List, [], ◌∷◌, ◌++◌, if◌then◌else◌}
use Rattle.std.specs.Ordering.{is_eq}
use Rattle.std.specs.Str.{bytes_eq}
use Rattle.mp_term.specs.Tree as term
use Rattle.mp_term.specs.Order.{tree_cmp}
use Rattle.mp_term.specs.Signature.{Sig}
use Rattle.mp_term.specs.Normal.{normal}
use Rattle.mp_pattern.specs.Extent.{Extent, single, extent}
use Rattle.mp_parser.specs.Syntax.{Spot, Wildcard, Tree, Symbol, Apply, InfixOf, Wild, Optional, Counted, Variable}
use Rattle.mp_parser.specs.Syntax.{Trees, no_trees, more_trees}
use Rattle.mp_build.specs.Names.{is_same_variable}
use Rattle.mp_build.specs.Build.{marked_shape, count_of, counted_shape, has_term, term_of}

-- the default of a wildcard: it has none; it has one of this normal form; or it has one without a normal form
pub data DefaultForm : Type 0 where
  absent : DefaultForm
  normal_form : term.Tree → DefaultForm
  unknown : DefaultForm

-- a wildcard of a pattern, with how many terms its variable stands for, and its default
pub record PatternWildcard : Type 0 where
  pub wildcard : Wildcard
  pub extent : Extent
  pub default : DefaultForm

-- a wildcard without a default
abbrev pub without_default : Wildcard → PatternWildcard
without_default w = record { wildcard = w; extent = extent (marked_shape w.marks); default = absent }

-- a wildcard with a count
abbrev pub with_count : Wildcard → Spot → Bool → PatternWildcard
with_count w count more =
    record { wildcard = w; extent = extent (counted_shape (count_of count) more); default = absent }

module _ (sig : Sig) where
  -- The normal form of a default, which stands behind further wildcards of a chain. One that holds a wildcard, or an
  -- operation that the signature doesn't have, has none.
  abbrev pub default_form : List Wildcard → Tree → DefaultForm
  default_form [] default = if has_term sig default then normal_form (normal sig (term_of sig default)) else unknown
  default_form (v ∷ others) default = unknown

  -- a wildcard with a default, or with further wildcards and the default of the last
  abbrev pub with_default_form : Wildcard → List Wildcard → Tree → PatternWildcard
  with_default_form w others default =
      record { wildcard = w; extent = single; default = default_form others default }

  -- the wildcards of a pattern, in order; those within defaults aren't among them
  abbrev mutual
    pub pattern_wildcards : Tree → List PatternWildcard
    pattern_wildcards (Symbol w) = []
    pattern_wildcards (Apply f args) = all_pattern_wildcards args
    pattern_wildcards (InfixOf opened sign operands) = all_pattern_wildcards operands
    pattern_wildcards (Wild w) = without_default w ∷ []
    pattern_wildcards (Optional w others default) = with_default_form w others default ∷ []
    pattern_wildcards (Counted w count more) = with_count w count more ∷ []
    pattern_wildcards (Variable x) = []

    pub all_pattern_wildcards : Trees → List PatternWildcard
    all_pattern_wildcards no_trees = []
    all_pattern_wildcards (more_trees t ts) = pattern_wildcards t ++ all_pattern_wildcards ts

-- there is no default, or both have one normal form
abbrev pub same_default : DefaultForm → DefaultForm → Bool
same_default absent absent = true
same_default (normal_form t) (normal_form u) = is_eq (tree_cmp t u)
same_default _ _ = false

-- both are as many terms
abbrev pub same_extent : Extent → Extent → Bool
same_extent e f = (e.least == f.least) && beq e.fixed f.fixed

-- the wildcards are of one class and count, one kind and one default
abbrev pub same_class : PatternWildcard → PatternWildcard → Bool
same_class v w = same_extent v.extent w.extent
    && (bytes_eq v.wildcard.kind w.wildcard.kind && same_default v.default w.default)

-- the wildcards have one name, and aren't of one class, kind, count and default
abbrev pub differs : PatternWildcard → PatternWildcard → Bool
differs w v = is_same_variable w.wildcard.name v.wildcard.name && not (same_class v w)
