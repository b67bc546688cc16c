-- The terms, patterns, templates and faults of applications and infix expressions, whose arguments the code holds in a
-- slice.
use Rattle.std.proofs.Common.{◌≡◌, ◌<◌, true, false, List, [], ◌∷◌, ◌++◌, map, length, get_or, refl, ap, sym, ◌∙◌}
use Rattle.std.proofs.Common.{arith, subst}
use Rattle.std.specs.Borrow.{Bor}
use Rattle.std.specs.Prelude.{Option, Some, None, is_some}
use Rattle.std.proofs.lemmas.List.{length-map}
use Rattle.mp_term.specs.declared.signature.OpDecl.{OpDecl}
use Rattle.mp_term.specs.Tree as term
use Rattle.mp_term.specs.Signature.{Sig, allows}
use Rattle.mp_pattern.specs.PatternTree as pattern
use Rattle.mp_parser.specs.declared.place.Place.{Place}
use Rattle.mp_parser.specs.declared.word.Word as code
use Rattle.mp_parser.specs.declared.tree.Expr.{Expr, Apply}
use Rattle.mp_parser.specs.Syntax.{Spot, Tree, InfixOf, Trees, no_trees, more_trees, trees, tree_list}
use Rattle.mp_parser.specs.View.{spot_of, expr_tree}
use Rattle.mp_parser.proofs.Trees.{expr_tree-Apply, tree_list-trees}
use Rattle.mp_pattern.specs.TemplateTree as template
use Rattle.mp_build.specs.Build.{op_number, sign_number, head_number, term_of, terms_of, pattern_of, patterns_of}
use Rattle.mp_build.specs.Build.{template_of, templates_of}
use Rattle.mp_build.specs.Scope.{Variable}
use Rattle.mp_build.specs.TemplateChecks.{allows_given, template_faults, template_operand_faults, all_template_faults}
use Rattle.mp_pattern.specs.SoundRule.{allows_patterns}
use Rattle.mp_build.specs.Wildcards.{PatternWildcard}
use Rattle.mp_build.specs.Checks.{op_named, op_signed, head_faults, arity_faults, sign_faults, term_faults}
use Rattle.mp_build.specs.Checks.{term_operand_faults, all_term_faults, pattern_faults, pattern_operand_faults}
use Rattle.mp_build.specs.Checks.{all_pattern_faults}
use Rattle.mp_build.specs.declared.fault.TextFault.{TextFault}
use Rattle.mp_build.specs.declared.fault.TextError.{TextError}
use Rattle.mp_build.specs.Answers.{Fails}
use Rattle.mp_build.proofs.Fails.{fails-front, fails-along}

-- an operation that isn't there
pub none-unknown : (o : Option OpDecl) → false ≡ is_some o → o ≡ None
none-unknown None h = refl
none-unknown (Some d) h = cc

-- where the first operand fails, the operands do: its faults stand before all others
pub fails-first_operand : (own : Tree → List TextFault) (others : Tree → Trees → List TextFault)
    (all : Trees → List TextFault) → ((t : Tree) (ts : Trees) → all (more_trees t ts) ≡ own t ++ others t ts)
    → (es : List Expr) (first : Expr) (e : TextError) → 0 < length es → first ≡ get_or es 0 first
    → Fails e (own (expr_tree first)) → Fails e (all (trees (map expr_tree es)))
fails-first_operand own others all parts [] first e some is h = absurd (omega (arith, some))
fails-first_operand own others all parts (x ∷ es) first e some is h =
    let ts = trees (map expr_tree es) in
    fails-along e _ _ (sym (parts (expr_tree x) ts))
    (fails-front e (own (expr_tree x)) (others (expr_tree x) ts) (subst (λ y. Fails e (own (expr_tree y))) is h))

module _ (sig : Sig) where
  -- the terms of a list of expressions
  pub terms_of-trees : (ts : List Tree) → terms_of sig (trees ts) ≡ term.trees (map (term_of sig) ts)
  terms_of-trees [] = refl
  terms_of-trees (t ∷ ts) = ap (term.more_trees (term_of sig t)) (terms_of-trees ts)

  -- the patterns of a list of expressions
  pub patterns_of-trees : (ts : List Tree) → patterns_of sig (trees ts) ≡ pattern.patterns (map (pattern_of sig) ts)
  patterns_of-trees [] = refl
  patterns_of-trees (t ∷ ts) = ap (pattern.more_patterns (pattern_of sig t)) (patterns_of-trees ts)

  -- the templates of a list of expressions
  templates_of-trees : (ts : List Tree) → templates_of sig (trees ts) ≡ template.templates (map (template_of sig) ts)
  templates_of-trees [] = refl
  templates_of-trees (t ∷ ts) = ap (template.more_templates (template_of sig t)) (templates_of-trees ts)

  -- the term of an application
  pub term_of-Apply : (f : code.Word) (v : Bor (List Expr))
      → term_of sig (expr_tree (Apply f v)) ≡ term.app (head_number (op_number sig f.text.now))
      (term.trees (map (term_of sig) (map expr_tree v.now)))
  term_of-Apply f v = ap (term_of sig) (expr_tree-Apply f v)
      ∙ ap (term.app (head_number (op_number sig f.text.now))) (terms_of-trees (map expr_tree v.now))

  -- the pattern of an application
  pub pattern_of-Apply : (f : code.Word) (v : Bor (List Expr))
      → pattern_of sig (expr_tree (Apply f v))
      ≡ pattern.app_pattern (head_number (op_number sig f.text.now))
      (pattern.patterns (map (pattern_of sig) (map expr_tree v.now)))
  pattern_of-Apply f v = ap (pattern_of sig) (expr_tree-Apply f v)
      ∙ ap (pattern.app_pattern (head_number (op_number sig f.text.now))) (patterns_of-trees (map expr_tree v.now))

  -- the template of an application
  pub template_of-Apply : (f : code.Word) (v : Bor (List Expr))
      → template_of sig (expr_tree (Apply f v))
      ≡ template.app_template (head_number (op_number sig f.text.now))
      (template.templates (map (template_of sig) (map expr_tree v.now)))
  template_of-Apply f v = ap (template_of sig) (expr_tree-Apply f v)
      ∙ ap (template.app_template (head_number (op_number sig f.text.now))) (templates_of-trees (map expr_tree v.now))

  -- the faults of an application in a term
  pub term_faults-Apply : (f : code.Word) (v : Bor (List Expr))
      → term_faults sig (expr_tree (Apply f v))
      ≡ head_faults (allows (length v.now)) (spot_of f) (op_named sig f.text.now)
      ++ all_term_faults sig (trees (map expr_tree v.now))
  term_faults-Apply f v =
      let count : length (tree_list (trees (map expr_tree v.now))) ≡ length v.now =
      ap length (tree_list-trees (map expr_tree v.now)) ∙ length-map v.now expr_tree in
      ap (term_faults sig) (expr_tree-Apply f v)
      ∙ ap (λ n. head_faults (allows n) (spot_of f) (op_named sig f.text.now)
      ++ all_term_faults sig (trees (map expr_tree v.now))) count

  -- the faults of an application in a template
  pub template_faults-Apply : (vs : List Variable) (f : code.Word) (v : Bor (List Expr))
      → template_faults vs sig (expr_tree (Apply f v))
      ≡ head_faults (allows_given vs sig (trees (map expr_tree v.now))) (spot_of f) (op_named sig f.text.now)
      ++ all_template_faults vs sig (trees (map expr_tree v.now))
  template_faults-Apply vs f v = ap (template_faults vs sig) (expr_tree-Apply f v)

  -- the faults of an application in a pattern
  pub pattern_faults-Apply : (before : List PatternWildcard) (f : code.Word) (v : Bor (List Expr))
      → pattern_faults sig before (expr_tree (Apply f v))
      ≡ head_faults (allows_patterns (map (pattern_of sig) (map expr_tree v.now))) (spot_of f)
      (op_named sig f.text.now) ++ all_pattern_faults sig before (trees (map expr_tree v.now))
  pattern_faults-Apply before f v =
      ap (pattern_faults sig before) (expr_tree-Apply f v)
      ∙ ap (λ l. head_faults (allows_patterns (map (pattern_of sig) l)) (spot_of f) (op_named sig f.text.now)
      ++ all_pattern_faults sig before (trees (map expr_tree v.now))) (tree_list-trees (map expr_tree v.now))

  -- the term of operands with a sign between them
  pub term_of-operands : (place : Place) (sign : Spot) (es : List Expr)
      → term_of sig (InfixOf place sign (trees (map expr_tree es)))
      ≡ term.app (head_number (sign_number sig sign.text)) (term.trees (map (term_of sig) (map expr_tree es)))
  term_of-operands place sign es = ap (term.app (head_number (sign_number sig sign.text)))
      (terms_of-trees (map expr_tree es))

  -- the pattern of operands with a sign between them
  pub pattern_of-operands : (place : Place) (sign : Spot) (es : List Expr)
      → pattern_of sig (InfixOf place sign (trees (map expr_tree es)))
      ≡ pattern.app_pattern (head_number (sign_number sig sign.text))
      (pattern.patterns (map (pattern_of sig) (map expr_tree es)))
  pattern_of-operands place sign es = ap (pattern.app_pattern (head_number (sign_number sig sign.text)))
      (patterns_of-trees (map expr_tree es))

  -- the template of operands with a sign between them
  pub template_of-operands : (place : Place) (sign : Spot) (es : List Expr)
      → template_of sig (InfixOf place sign (trees (map expr_tree es)))
      ≡ template.app_template (head_number (sign_number sig sign.text))
      (template.templates (map (template_of sig) (map expr_tree es)))
  template_of-operands place sign es = ap (template.app_template (head_number (sign_number sig sign.text)))
      (templates_of-trees (map expr_tree es))

  -- the faults of operands in a term, by their number
  pub term_faults-operands : (place : Place) (sign : Spot) (es : List Expr)
      → term_faults sig (InfixOf place sign (trees (map expr_tree es)))
      ≡ arity_faults (allows (length es)) place (op_signed sig sign.text)
      ++ term_operand_faults sig (sign_faults sign (op_signed sig sign.text)) (trees (map expr_tree es))
  term_faults-operands place sign es =
      let count : length (tree_list (trees (map expr_tree es))) ≡ length es =
      ap length (tree_list-trees (map expr_tree es)) ∙ length-map es expr_tree in
      ap (λ n. arity_faults (allows n) place (op_signed sig sign.text)
      ++ term_operand_faults sig (sign_faults sign (op_signed sig sign.text)) (trees (map expr_tree es))) count

  -- the faults of operands in a pattern, by their list
  pub pattern_faults-operands : (before : List PatternWildcard) (place : Place) (sign : Spot) (es : List Expr)
      → pattern_faults sig before (InfixOf place sign (trees (map expr_tree es)))
      ≡ arity_faults (allows_patterns (map (pattern_of sig) (map expr_tree es))) place (op_signed sig sign.text)
      ++ pattern_operand_faults sig before (sign_faults sign (op_signed sig sign.text)) (trees (map expr_tree es))
  pattern_faults-operands before place sign es =
      ap (λ l. arity_faults (allows_patterns (map (pattern_of sig) l)) place (op_signed sig sign.text)
      ++ pattern_operand_faults sig before (sign_faults sign (op_signed sig sign.text)) (trees (map expr_tree es)))
      (tree_list-trees (map expr_tree es))

  -- a sign that no operation has is a fault behind those of the first operand
  pub term_faults-unknown : (place : Place) (sign : Spot) (ts : Trees) → op_signed sig sign.text ≡ None
      → term_faults sig (InfixOf place sign ts) ≡ term_operand_faults sig (sign_faults sign None) ts
  term_faults-unknown place sign ts h = rw h refl

  -- the same in a pattern
  pub pattern_faults-unknown : (before : List PatternWildcard) (place : Place) (sign : Spot) (ts : Trees)
      → op_signed sig sign.text ≡ None
      → pattern_faults sig before (InfixOf place sign ts) ≡ pattern_operand_faults sig before (sign_faults sign None) ts
  pattern_faults-unknown before place sign ts h = rw h refl

  -- the same in a template
  pub template_faults-unknown : (vs : List Variable) (place : Place) (sign : Spot) (ts : Trees)
      → op_signed sig sign.text ≡ None
      → template_faults vs sig (InfixOf place sign ts) ≡ template_operand_faults vs sig (sign_faults sign None) ts
  template_faults-unknown vs place sign ts h = rw h refl

  -- a sign that an operation has is no fault between operands
  pub term_operand_faults-known : (sign : Spot) (o : Option OpDecl) (ts : Trees) → true ≡ is_some o
      → term_operand_faults sig (sign_faults sign o) ts ≡ all_term_faults sig ts
  term_operand_faults-known sign None ts h = cc
  term_operand_faults-known sign (Some d) no_trees h = refl
  term_operand_faults-known sign (Some d) (more_trees t ts) h = refl

  -- the same in a pattern
  pub pattern_operand_faults-known : (before : List PatternWildcard) (sign : Spot) (o : Option OpDecl) (ts : Trees)
      → true ≡ is_some o → pattern_operand_faults sig before (sign_faults sign o) ts ≡ all_pattern_faults sig before ts
  pattern_operand_faults-known before sign None ts h = cc
  pattern_operand_faults-known before sign (Some d) no_trees h = refl
  pattern_operand_faults-known before sign (Some d) (more_trees t ts) h = refl

  -- the same in a template
  pub template_operand_faults-known : (vs : List Variable) (sign : Spot) (o : Option OpDecl) (ts : Trees)
      → true ≡ is_some o → template_operand_faults vs sig (sign_faults sign o) ts ≡ all_template_faults vs sig ts
  template_operand_faults-known vs sign None ts h = cc
  template_operand_faults-known vs sign (Some d) no_trees h = refl
  template_operand_faults-known vs sign (Some d) (more_trees t ts) h = refl
