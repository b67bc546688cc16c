-- What holds of rules that are sound over a signature: every check and every limit of a rule, said of plain trees.
use Rattle.std.specs.Prelude.{◌≡◌, ◌≤◌, ℕ, ◌+◌, Bool, true, false, ◌&&◌, ◌||◌, not, nat_le, is_some, List, [], ◌∷◌, map}
use Rattle.std.specs.Prelude.{length, Option, Some, None, slice_get, ⊤}
use Rattle.std.specs.List.{AllByRecursion, list_any}
use Rattle.mp_term.specs.declared.signature.OpDecl.{OpDecl}
use Rattle.mp_term.specs.Tree.{Tree, symbol, app, Trees, no_trees, more_trees}
use Rattle.mp_term.specs.Size.{node_count}
use Rattle.mp_term.specs.Names.{is_name, are_distinct}
use Rattle.mp_term.specs.Signature.{Sig, holds_of, has_name, kind_names, well_formed}
use Rattle.mp_term.specs.Normal.{IsNormal}
use Rattle.mp_pattern.specs.PatternTree.{Wildcard, kind, optional, counted, least, most, Pattern, symbol_pattern}
use Rattle.mp_pattern.specs.PatternTree.{app_pattern, wild_pattern, Patterns, no_patterns, more_patterns, pattern_list}
use Rattle.mp_pattern.specs.TemplateTree.{Template, symbol_template, app_template, variable_template, Templates}
use Rattle.mp_pattern.specs.TemplateTree.{no_templates, more_templates}
use Rattle.mp_pattern.specs.CondTree.{Operand, var, ground, Amount, fixed, count, size, Cond, amounts, same, less, free}
use Rattle.mp_pattern.specs.CondTree.{of_kind, headed, negation, all_of, any_of, Conds, no_conds, more_conds}
use Rattle.mp_pattern.specs.Normal.{is_loose, IsNormalPattern}
use Rattle.mp_pattern.specs.Size.{pattern_nodes}
use Rattle.mp_pattern.specs.TemplateSize.{template_nodes}
use Rattle.mp_pattern.specs.Depth.{pattern_depth, template_depth}
use Rattle.mp_pattern.specs.declared.limits.TheConstants.{MAX_PATTERN_NODES, MAX_DEFAULT_NODES, MAX_VARIABLES}
use Rattle.mp_pattern.specs.declared.limits.TheConstants.{MAX_OPERAND_NODES, MAX_ATOMS, MAX_NUMBER, MAX_DEPTH}
use Rattle.mp_pattern.specs.declared.limits.TheConstants.{MAX_RULES, MAX_COUNT}
use Rattle.mp_pattern.specs.Firsts.{is_known}
use Rattle.mp_pattern.specs.Value.{same_name, one_form}
use Rattle.mp_pattern.specs.Variables.{variables, variable_form}
use Rattle.mp_pattern.specs.Extent.{extent_named, templates_extent, allows_extent}
use Rattle.mp_pattern.specs.Clash.{first_clash}
use Rattle.mp_pattern.specs.Admission.{Rule}

-- ---- numbers of arguments

-- the least number of arguments that a pattern takes: a wildcard by its kind of wildcard, and any other pattern one
abbrev pub pattern_least : Pattern → ℕ
pattern_least (wild_pattern w x) = least w
pattern_least _ = 1

-- the greatest number, where there is one, under an operation that may be associative
abbrev pub pattern_most : Bool → Pattern → Option ℕ
pattern_most assoc (wild_pattern w x) = most assoc w
pattern_most assoc _ = Some 1

-- how many arguments the patterns take at least
abbrev pub fewest : List Pattern → ℕ
fewest [] = 0
fewest (p ∷ ps) = pattern_least p + fewest ps

-- the sum of two greatest numbers, which there is where there are both
abbrev pub sum_most : Option ℕ → Option ℕ → Option ℕ
sum_most (Some m) (Some n) = Some (m + n)
sum_most _ _ = None

-- how many arguments the patterns take at most, where there is a greatest number
abbrev pub greatest : Bool → List Pattern → Option ℕ
greatest assoc [] = Some 0
greatest assoc (p ∷ ps) = sum_most (pattern_most assoc p) (greatest assoc ps)

-- the number is at most the greatest one, where there is one
abbrev pub reaches : ℕ → Option ℕ → Bool
reaches n None = true
reaches n (Some m) = nat_le n m

-- the operation allows a number of arguments that these patterns may take
abbrev pub allows_patterns : List Pattern → OpDecl → Bool
allows_patterns ps d = reaches d.least (greatest d.assoc ps) && (not d.fixed || nat_le (fewest ps) d.least)

-- ---- conditions

-- two conditions or more
abbrev pub AreSeveral : Conds → Type 0
AreSeveral no_conds = ⊥
AreSeveral (more_conds c no_conds) = ⊥
AreSeveral (more_conds c (more_conds d cs)) = ⊤

abbrev mutual
  -- how many atoms a condition has
  pub atom_count : Cond → ℕ
  atom_count (negation c) = atom_count c
  atom_count (all_of cs) = atom_counts cs
  atom_count (any_of cs) = atom_counts cs
  atom_count _ = 1

  -- and the conditions of a list
  pub atom_counts : Conds → ℕ
  atom_counts no_conds = 0
  atom_counts (more_conds c cs) = atom_count c + atom_counts cs

module _ (sig : Sig) where
  -- ---- terms

  -- the word is a name, and no operation's name
  pub record IsSymbol (word : List ℕ) : Type 0 where
    pub name : is_name word ≡ true
    pub free : list_any (has_name word) sig.ops ≡ false

  abbrev mutual
    -- each symbol of a term is such a word
    pub HasSymbols : Tree → Type 0
    HasSymbols (symbol n) = IsSymbol n
    HasSymbols (app f ts) = HaveSymbols ts

    -- and each of each term of a list
    pub HaveSymbols : Trees → Type 0
    HaveSymbols no_trees = ⊤
    HaveSymbols (more_trees t ts) = HasSymbols t × HaveSymbols ts

  -- a default or an operand: normal and well formed, with such symbols, and of at most so many nodes
  pub record IsSoundTerm (most_nodes : ℕ) (t : Tree) : Type 0 where
    pub normal : IsNormal sig t
    pub formed : well_formed sig t ≡ true
    pub symbols : HasSymbols t
    pub few_nodes : node_count t ≤ most_nodes

  -- the signature holds the kind
  abbrev pub HoldsKind : ℕ → Type 0
  HoldsKind k = is_some (slice_get (kind_names sig) k) ≡ true

  -- the signature holds the operation
  abbrev pub HoldsOp : ℕ → Type 0
  HoldsOp f = is_some (slice_get sig.ops f) ≡ true

  -- ---- patterns

  -- the kind of a wildcard is held, its default is sound, and its count is from 2 to MAX_COUNT
  abbrev pub IsSoundWildcard : Wildcard → Type 0
  IsSoundWildcard (kind k) = HoldsKind k
  IsSoundWildcard (optional t) = IsSoundTerm MAX_DEFAULT_NODES t
  IsSoundWildcard (counted n exact) = (2 ≤ n) × (n ≤ MAX_COUNT)
  IsSoundWildcard _ = ⊤

  -- the variable of a wildcard, where it has one, is a name
  abbrev pub IsVariable : Option (List ℕ) → Type 0
  IsVariable None = ⊤
  IsVariable (Some x) = is_name x ≡ true

  abbrev mutual
    -- each operation of a pattern is held and allows a number of arguments that its arguments may take, and each symbol
    -- and each wildcard is sound
    pub IsFormed : Pattern → Type 0
    IsFormed (symbol_pattern n) = IsSymbol n
    IsFormed (app_pattern f ps) = (holds_of (allows_patterns (pattern_list ps)) (slice_get sig.ops f) ≡ true)
        × AreFormed ps
    IsFormed (wild_pattern w x) = IsSoundWildcard w × IsVariable x

    -- so is each pattern of a list
    pub AreFormed : Patterns → Type 0
    AreFormed no_patterns = ⊤
    AreFormed (more_patterns p ps) = IsFormed p × AreFormed ps

  -- the pattern of a rule: normal, with such operations, symbols and wildcards, not a plus, star, counted or optional
  -- wildcard, no two wildcards of one variable in it differ, and it is within its limits
  pub record IsSoundPattern (p : Pattern) : Type 0 where
    pub normal : IsNormalPattern sig p
    pub formed : IsFormed p
    pub plain_root : is_loose p ≡ false
    pub no_clash : first_clash p ≡ None
    pub few_nodes : pattern_nodes p ≤ MAX_PATTERN_NODES
    pub few_variables : length (variables p) ≤ MAX_VARIABLES
    pub shallow : pattern_depth p ≤ MAX_DEPTH

  module _ (p : Pattern) where
    -- the word is a variable of the pattern
    abbrev pub IsVariableOf : List ℕ → Type 0
    IsVariableOf x = is_known same_name (variables p) x ≡ true

    -- it stands for one term: no wildcard of it is a plus, star or counted one
    abbrev pub IsOneTerm : List ℕ → Type 0
    IsOneTerm x = variable_form sig p x ≡ one_form

    -- ---- templates

    abbrev mutual
      -- each operation of a template allows every number of arguments that its arguments may give, each symbol is
      -- sound, and each variable is one of the pattern
      pub IsFormedTemplate : Template → Type 0
      IsFormedTemplate (symbol_template n) = IsSymbol n
      IsFormedTemplate (app_template f xs) =
          (holds_of (allows_extent (templates_extent (extent_named p) xs)) (slice_get sig.ops f) ≡ true)
          × AreFormedTemplates xs
      IsFormedTemplate (variable_template x) = IsVariableOf x

      -- so is each template of a list
      pub AreFormedTemplates : Templates → Type 0
      AreFormedTemplates no_templates = ⊤
      AreFormedTemplates (more_templates x xs) = IsFormedTemplate x × AreFormedTemplates xs

    -- a variable that is the whole template stands for one term
    abbrev pub HasOneTerm : Template → Type 0
    HasOneTerm (variable_template x) = IsOneTerm x
    HasOneTerm _ = ⊤

    -- the template of a rule with the pattern p: it has such operations, symbols and variables, and is within its
    -- limits
    pub record IsSoundTemplate (x : Template) : Type 0 where
      pub formed : IsFormedTemplate x
      pub one_term : HasOneTerm x
      pub few_nodes : template_nodes x ≤ MAX_PATTERN_NODES
      pub shallow : template_depth x ≤ MAX_DEPTH

    -- ---- conditions

    -- an operand: a variable of the pattern, or a sound term
    abbrev pub IsSoundOperand : Operand → Type 0
    IsSoundOperand (var x) = IsVariableOf x
    IsSoundOperand (ground t) = IsSoundTerm MAX_OPERAND_NODES t

    -- an operand that stands for one term: a term, or such a variable
    abbrev pub IsSingle : Operand → Type 0
    IsSingle (var x) = IsOneTerm x
    IsSingle (ground t) = ⊤

    -- an amount: a number of at most MAX_NUMBER, or one of an operand
    abbrev pub IsSoundAmount : Amount → Type 0
    IsSoundAmount (fixed n) = n ≤ MAX_NUMBER
    IsSoundAmount (count a) = IsSoundOperand a
    IsSoundAmount (size a) = IsSoundOperand a

    abbrev mutual
      -- a condition over the variables of the pattern: its operands and amounts are sound, those of `less` stand for
      -- one term, its kinds and operations are held, and each conjunction and disjunction is of several parts
      pub IsChecked : Cond → Type 0
      IsChecked (amounts m c n) = IsSoundAmount m × IsSoundAmount n
      IsChecked (same a b) = IsSoundOperand a × IsSoundOperand b
      IsChecked (less a b) = (IsSoundOperand a × IsSingle a) × (IsSoundOperand b × IsSingle b)
      IsChecked (free a b) = IsSoundOperand a × IsSoundOperand b
      IsChecked (of_kind a k) = IsSoundOperand a × HoldsKind k
      IsChecked (headed a f) = IsSoundOperand a × HoldsOp f
      IsChecked (negation c) = IsChecked c
      IsChecked (all_of cs) = AreSeveral cs × AreChecked cs
      IsChecked (any_of cs) = AreSeveral cs × AreChecked cs

      -- so is each condition of a list
      pub AreChecked : Conds → Type 0
      AreChecked no_conds = ⊤
      AreChecked (more_conds c cs) = IsChecked c × AreChecked cs

-- ---- rules

-- the template of a rule, where there is one, is sound
abbrev pub HasSoundTemplate : Sig → Pattern → Option Template → Type 0
HasSoundTemplate sig p None = ⊤
HasSoundTemplate sig p (Some x) = IsSoundTemplate sig p x

-- the condition of a rule: it is checked, and has at most MAX_ATOMS atoms
pub record IsSoundCondition (sig : Sig) (p : Pattern) (c : Cond) : Type 0 where
  pub checked : IsChecked sig p c
  pub few_atoms : atom_count c ≤ MAX_ATOMS

-- so is a condition that there is
abbrev pub HasSoundCondition : Sig → Pattern → Option Cond → Type 0
HasSoundCondition sig p None = ⊤
HasSoundCondition sig p (Some c) = IsSoundCondition sig p c

-- a rule: its name is one, and its pattern, its template and its condition are sound
pub record IsSoundRule (sig : Sig) (r : Rule) : Type 0 where
  pub name : is_name r.name ≡ true
  pub pattern : IsSoundPattern sig r.pattern
  pub template : HasSoundTemplate sig r.pattern r.template
  pub condition : HasSoundCondition sig r.pattern r.condition

-- rules: each is sound, their names differ, and there are at most MAX_RULES
pub record AreSoundRules (sig : Sig) (rs : List Rule) : Type 0 where
  pub each : AllByRecursion (IsSoundRule sig) rs
  pub names : are_distinct (map (λ r. r.name) rs) ≡ true
  pub few : length rs ≤ MAX_RULES
