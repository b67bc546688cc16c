-- What templates and patterns become under a substitution.
use Rattle.std.specs.Prelude.{◌≡◌, Bool, true, false, ◌&&◌, List, [], ◌∷◌, ◌++◌, Some, None}
use Rattle.mp_term.specs.Tree.{Tree, symbol, app, trees}
use Rattle.mp_term.specs.Signature.{Sig}
use Rattle.mp_term.specs.Normal.{normal}
use Rattle.mp_pattern.specs.PatternTree.{Pattern, symbol_pattern, app_pattern, wild_pattern, Patterns, no_patterns}
use Rattle.mp_pattern.specs.PatternTree.{more_patterns}
use Rattle.mp_pattern.specs.TemplateTree.{Template, symbol_template, app_template, variable_template, Templates}
use Rattle.mp_pattern.specs.TemplateTree.{no_templates, more_templates}
use Rattle.mp_pattern.specs.Value.{one, Subst, value_of}
use Rattle.mp_pattern.specs.Holds.{listed}

abbrev mutual
  -- each wildcard has a name
  pub is_fully_named : Pattern → Bool
  is_fully_named (symbol_pattern n) = true
  is_fully_named (app_pattern f ps) = all_fully_named ps
  is_fully_named (wild_pattern w (Some x)) = true
  is_fully_named (wild_pattern w None) = false

  -- so has each wildcard of the list
  pub all_fully_named : Patterns → Bool
  all_fully_named no_patterns = true
  all_fully_named (more_patterns p ps) = is_fully_named p && all_fully_named ps

module _ (s : Subst) where
  abbrev mutual
    -- the terms that a template gives to the argument list around it: a variable gives all terms of its value
    pub instances : Template → List Tree
    instances (symbol_template n) = symbol n ∷ []
    instances (app_template f xs) = app f (trees (all_instances xs)) ∷ []
    instances (variable_template x) = listed (value_of s x)

    -- those of all templates of a list
    pub all_instances : Templates → List Tree
    all_instances no_templates = []
    all_instances (more_templates x xs) = instances x ++ all_instances xs

  abbrev mutual
    -- the same of a pattern, each wildcard being its variable; an unnamed one gives nothing
    pub pattern_instances : Pattern → List Tree
    pattern_instances (symbol_pattern n) = symbol n ∷ []
    pattern_instances (app_pattern f ps) = app f (trees (all_pattern_instances ps)) ∷ []
    pattern_instances (wild_pattern w (Some x)) = listed (value_of s x)
    pattern_instances (wild_pattern w None) = []

    -- those of all patterns of a list
    pub all_pattern_instances : Patterns → List Tree
    all_pattern_instances no_patterns = []
    all_pattern_instances (more_patterns p ps) = pattern_instances p ++ all_pattern_instances ps

-- t is the template with each variable replaced by its term, or its list spliced into the arguments around it; a
-- variable that is the whole template has no arguments around it, and so stands for one term
abbrev pub IsInstance : Template → Subst → Tree → Type 0
IsInstance (variable_template x) s t = value_of s x ≡ Some (one t)
IsInstance x s t = instances s x ≡ t ∷ []

-- t is the pattern, which has no unnamed wildcard, with each wildcard replaced so
pub record IsPatternInstance (p : Pattern) (s : Subst) (t : Tree) : Type 0 where
  pub named : is_fully_named p ≡ true
  pub instance : pattern_instances s p ≡ t ∷ []

-- t is the normal form of the template's instance
pub record IsApplied (sig : Sig) (x : Template) (s : Subst) (t : Tree) : Type 0 where
  pub spliced : Tree
  pub instance : IsInstance x s spliced
  pub result : t ≡ normal sig spliced

-- t is the normal form of the pattern's instance
pub record IsPatternApplied (sig : Sig) (p : Pattern) (s : Subst) (t : Tree) : Type 0 where
  pub spliced : Tree
  pub instance : IsPatternInstance p s spliced
  pub result : t ≡ normal sig spliced
