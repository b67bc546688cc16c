-- Which syntax trees spell a term, a pattern, a template or a condition, wherever their words stand: a relation of
-- texts alone.
use Rattle.std.proofs.Common.{◌≡◌, ◌≢◌, ℕ, false, true, not, [], Option, Some, None}
use Rattle.mp_io.specs.Devices.{Text}
use Rattle.mp_term.specs.Tree as term
use Rattle.mp_term.specs.Signature.{Sig}
use Rattle.mp_pattern.specs.PatternTree as pattern
use Rattle.mp_pattern.specs.TemplateTree as template
use Rattle.mp_pattern.specs.CondTree as cond
use Rattle.mp_parser.specs.declared.condition_tree.Measure.TheVariants.{Count, Size}
use Rattle.mp_parser.specs.declared.condition_tree.Relation.TheVariants.{Same, Less, Free}
use Rattle.mp_parser.specs.declared.condition_tree.Property.TheVariants.{Kind, Head}
use Rattle.mp_parser.specs.Syntax.{Wildcard, Tree, Symbol, Apply, InfixOf, Wild, Counted, Optional, Variable, Trees}
use Rattle.mp_parser.specs.Syntax.{no_trees, more_trees, Amount, Number, Measured, Atom, Compare, Relate, Test, Literal}
use Rattle.mp_parser.specs.Syntax.{AtomOf}
use Rattle.mp_parser.specs.Syntax.{Bracketed, Literals, no_literals, more_literals, Condition, no_alternatives}
use Rattle.mp_parser.specs.Syntax.{more_alternatives}
use Rattle.mp_build.specs.Names.{number_of}
use Rattle.mp_build.specs.Build.{op_number, sign_number, kind_number, variable_of}
use Rattle.mp_build.specs.Conditions.{sense_of, joined}

-- the underscores of a wildcard
abbrev pub marks_of : pattern.Wildcard → ℕ
marks_of pattern.plus = 2
marks_of pattern.star = 3
marks_of _ = 1

module _ (sig : Sig) where
  -- ---- expressions

  -- a word spells a symbol, and an application stands behind the name of its operation or around its sign
  abbrev mutual
    pub SpellsTerm : Tree → term.Tree → Type 0
    SpellsTerm (Symbol w) (term.symbol n) = w.text ≡ n
    SpellsTerm (Apply g args) (term.app f ts) = (op_number sig g.text ≡ Some f) × SpellTerms args ts
    SpellsTerm (InfixOf opened sign operands) (term.app f ts) =
        (sign_number sig sign.text ≡ Some f) × SpellTerms operands ts
    SpellsTerm _ _ = ⊥

    pub SpellTerms : Trees → term.Trees → Type 0
    SpellTerms no_trees term.no_trees = Unit {0}
    SpellTerms (more_trees e es) (term.more_trees t ts) = SpellsTerm e t × SpellTerms es ts
    SpellTerms _ _ = ⊥

  -- the name of the kind of a wildcard, where it has one
  abbrev pub SpellsKind : Text → pattern.Wildcard → Type 0
  SpellsKind name (pattern.kind k) = (name ≢ []) × (kind_number sig name ≡ Some k)
  SpellsKind name _ = name ≡ []

  -- a wildcard of this variable, apart from its default: its name, its underscores and its kind
  abbrev pub SpellsWildcard : Wildcard → pattern.Wildcard → Option Text → Type 0
  SpellsWildcard w v x = (variable_of w.name ≡ x) × (w.marks ≡ marks_of v) × SpellsKind w.kind v

  -- the same of patterns; a wildcard with a count has its digits behind it, and one with a default is one alone, with a
  -- term behind its colon
  abbrev mutual
    pub SpellsPattern : Tree → pattern.Pattern → Type 0
    SpellsPattern (Symbol w) (pattern.symbol_pattern n) = w.text ≡ n
    SpellsPattern (Apply g args) (pattern.app_pattern f ps) = (op_number sig g.text ≡ Some f) × SpellPatterns args ps
    SpellsPattern (InfixOf opened sign operands) (pattern.app_pattern f ps) =
        (sign_number sig sign.text ≡ Some f) × SpellPatterns operands ps
    SpellsPattern (Wild w) (pattern.wild_pattern (pattern.optional t) x) = ⊥
    SpellsPattern (Wild w) (pattern.wild_pattern (pattern.counted n fixed) x) = ⊥
    SpellsPattern (Wild w) (pattern.wild_pattern v x) = SpellsWildcard w v x
    SpellsPattern (Counted w count more) (pattern.wild_pattern (pattern.counted n fixed) x) =
        SpellsWildcard w (pattern.counted n fixed) x × (number_of count.text ≡ n) × (more ≡ not fixed)
    SpellsPattern (Optional w [] e) (pattern.wild_pattern (pattern.optional t) x) =
        SpellsWildcard w (pattern.optional t) x × SpellsTerm e t
    SpellsPattern _ _ = ⊥

    pub SpellPatterns : Trees → pattern.Patterns → Type 0
    SpellPatterns no_trees pattern.no_patterns = Unit {0}
    SpellPatterns (more_trees e es) (pattern.more_patterns p ps) = SpellsPattern e p × SpellPatterns es ps
    SpellPatterns _ _ = ⊥

  -- the same of templates, whose variables stand behind a `$`
  abbrev mutual
    pub SpellsTemplate : Tree → template.Template → Type 0
    SpellsTemplate (Symbol w) (template.symbol_template n) = w.text ≡ n
    SpellsTemplate (Apply g args) (template.app_template f xs) =
        (op_number sig g.text ≡ Some f) × SpellTemplates args xs
    SpellsTemplate (InfixOf opened sign operands) (template.app_template f xs) =
        (sign_number sig sign.text ≡ Some f) × SpellTemplates operands xs
    SpellsTemplate (Variable w) (template.variable_template x) = w.text ≡ x
    SpellsTemplate _ _ = ⊥

    pub SpellTemplates : Trees → template.Templates → Type 0
    SpellTemplates no_trees template.no_templates = Unit {0}
    SpellTemplates (more_trees e es) (template.more_templates x xs) = SpellsTemplate e x × SpellTemplates es xs
    SpellTemplates _ _ = ⊥

  -- the template of a rule, where there is one
  abbrev pub SpellsArrow : Option Tree → Option template.Template → Type 0
  SpellsArrow None None = Unit {0}
  SpellsArrow (Some e) (Some x) = SpellsTemplate e x
  SpellsArrow _ _ = ⊥

  -- ---- conditions

  -- $NAME spells a variable, and each other operand its term
  abbrev pub SpellsOperand : Tree → cond.Operand → Type 0
  SpellsOperand (Variable x) (cond.var n) = x.text ≡ n
  SpellsOperand e (cond.ground t) = SpellsTerm e t
  SpellsOperand _ _ = ⊥

  -- digits spell a number
  abbrev pub SpellsAmount : Amount → cond.Amount → Type 0
  SpellsAmount (Number w) (cond.fixed n) = number_of w.text ≡ n
  SpellsAmount (Measured Count e) (cond.count a) = SpellsOperand e a
  SpellsAmount (Measured Size e) (cond.size a) = SpellsOperand e a
  SpellsAmount _ _ = ⊥

  -- an atom spells a condition that isn't made of others
  abbrev pub SpellsAtom : Atom → cond.Cond → Type 0
  SpellsAtom (Compare m s n) (cond.amounts x c y) = SpellsAmount m x × (sense_of s ≡ c) × SpellsAmount n y
  SpellsAtom (Relate Same e d) (cond.same a b) = SpellsOperand e a × SpellsOperand d b
  SpellsAtom (Relate Less e d) (cond.less a b) = SpellsOperand e a × SpellsOperand d b
  SpellsAtom (Relate Free e d) (cond.free a b) = SpellsOperand e a × SpellsOperand d b
  SpellsAtom (Test Kind e w) (cond.of_kind a k) = SpellsOperand e a × (kind_number sig w.text ≡ Some k)
  SpellsAtom (Test Head e w) (cond.headed a f) = SpellsOperand e a × (op_number sig w.text ≡ Some f)
  SpellsAtom _ _ = ⊥

  -- literals spell a conjunction, or the one that they are, and alternatives a disjunction in the same way
  abbrev mutual
    pub SpellsLiteral : Literal → cond.Cond → Type 0
    SpellsLiteral (AtomOf false a) c = SpellsAtom a c
    SpellsLiteral (AtomOf true a) (cond.negation c) = SpellsAtom a c
    SpellsLiteral (Bracketed false d) c = (cs : cond.Conds) × (joined cond.any_of cs ≡ c) × SpellAlternatives d cs
    SpellsLiteral (Bracketed true d) (cond.negation c) =
        (cs : cond.Conds) × (joined cond.any_of cs ≡ c) × SpellAlternatives d cs
    SpellsLiteral _ _ = ⊥

    pub SpellLiterals : Literals → cond.Conds → Type 0
    SpellLiterals no_literals cond.no_conds = Unit {0}
    SpellLiterals (more_literals l ls) (cond.more_conds c cs) = SpellsLiteral l c × SpellLiterals ls cs
    SpellLiterals _ _ = ⊥

    pub SpellAlternatives : Condition → cond.Conds → Type 0
    SpellAlternatives no_alternatives cond.no_conds = Unit {0}
    SpellAlternatives (more_alternatives ls d) (cond.more_conds c cs) =
        ((bs : cond.Conds) × (joined cond.all_of bs ≡ c) × SpellLiterals ls bs) × SpellAlternatives d cs
    SpellAlternatives _ _ = ⊥

  -- a whole condition
  abbrev pub SpellsCondition : Condition → cond.Cond → Type 0
  SpellsCondition d c = (cs : cond.Conds) × (joined cond.any_of cs ≡ c) × SpellAlternatives d cs

  -- the condition of a rule, where there is one
  abbrev pub SpellsIf : Option Condition → Option cond.Cond → Type 0
  SpellsIf None None = Unit {0}
  SpellsIf (Some d) (Some c) = SpellsCondition d c
  SpellsIf _ _ = ⊥
