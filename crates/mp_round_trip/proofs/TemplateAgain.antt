-- What spells a template stands for it, and has no faults where the template is sound.
use Rattle.std.proofs.Common.{◌≡◌, ◌≤◌, ◌+◌, ℕ, true, false, ◌||◌, not, ltb, List, [], Option, Some, None, refl}
use Rattle.std.proofs.Common.{ap, ◌∙◌, arith, rules}
use Rattle.std.specs.Prelude.{option_map, unwrap_or, is_some}
use Rattle.mp_term.specs.declared.signature.OpDecl.{OpDecl}
use Rattle.mp_term.specs.Signature.{Sig, holds_of}
use Rattle.mp_pattern.specs.declared.limits.TheConstants.{MAX_PATTERN_NODES}
use Rattle.mp_pattern.specs.Extent.{Extent, single, sum_extent, allows_extent, extent_named, template_extent}
use Rattle.mp_pattern.specs.Extent.{templates_extent}
use Rattle.mp_pattern.specs.PatternTree.{Pattern}
use Rattle.mp_pattern.specs.SoundRule.{IsVariableOf, IsOneTerm, IsFormedTemplate, AreFormedTemplates, HasOneTerm}
use Rattle.mp_pattern.specs.SoundRule.{IsSoundTemplate, HasSoundTemplate}
use Rattle.mp_pattern.specs.TemplateSize.{template_nodes, all_template_nodes}
use Rattle.mp_pattern.specs.TemplateTree.{Template, symbol_template, app_template, variable_template, Templates}
use Rattle.mp_pattern.specs.TemplateTree.{no_templates, more_templates}
use Rattle.mp_parser.specs.Syntax.{Spot, Tree, Symbol, Apply, InfixOf, Trees, no_trees, more_trees}
use Rattle.mp_parser.specs.Syntax as syntax
use Rattle.mp_build.specs.Build.{head_number, template_of, templates_of}
use Rattle.mp_build.specs.Checks.{nodes, all_nodes, has_large_default, some_large_default, op_at, op_named, op_signed}
use Rattle.mp_build.specs.Checks.{head_faults, arity_faults, sign_faults}
use Rattle.mp_build.specs.Scope.{Variable, is_bound, is_bound_sequence, extent_in}
use Rattle.mp_build.specs.TemplateChecks.{is_large_template, has_large_template, loose_template_faults, allows_given}
use Rattle.mp_build.specs.TemplateChecks.{template_faults, template_operand_faults, all_template_faults}
use Rattle.mp_build.specs.TemplateChecks.{whole_template_faults, arrow_faults}
use Rattle.mp_build.proofs.Faultless.{nil-both, none-fault_if}
use Rattle.mp_round_trip.proofs.Spells.{SpellsTemplate, SpellTemplates, SpellsArrow}
use Rattle.mp_round_trip.proofs.TermAgain.{none-head, none-arity, some-holds_of, none-symbol}

-- the template of a rule, where there is one, is read again: it has no faults over the variables, isn't large, and is
-- this one
pub record IsArrowAgain (sig : Sig) (vs : List Variable) (d : Option Tree) (o : Option Template) : Type 0 where
  pub faultless : arrow_faults vs sig d ≡ []
  pub small : has_large_template d ≡ false
  pub is : option_map (template_of sig) d ≡ o

module _ (sig : Sig) where
  -- ---- trees

  mutual
    -- it stands for the template
    pub template_of-spells : (e : Tree) (x : Template) → SpellsTemplate sig e x → template_of sig e ≡ x
    template_of-spells (Symbol w) (symbol_template n) s = ap symbol_template s
    template_of-spells (Apply g args) (app_template f xs) s =
        λ i. app_template (head_number (s.0 i)) (templates_of-spell args xs s.1 i)
    template_of-spells (InfixOf opened sign operands) (app_template f xs) s =
        λ i. app_template (head_number (s.0 i)) (templates_of-spell operands xs s.1 i)
    template_of-spells (syntax.Variable w) (variable_template x) s = ap variable_template s
    template_of-spells _ _ s = absurd s

    templates_of-spell : (es : Trees) (xs : Templates) → SpellTemplates sig es xs → templates_of sig es ≡ xs
    templates_of-spell no_trees no_templates s = refl
    templates_of-spell (more_trees e es) (more_templates x xs) s =
        λ i. more_templates (template_of-spells e x s.0 i) (templates_of-spell es xs s.1 i)
    templates_of-spell _ _ s = absurd s

  mutual
    -- it has as many nodes
    nodes-template : (e : Tree) (x : Template) → SpellsTemplate sig e x → nodes e ≡ template_nodes x
    nodes-template (Symbol w) (symbol_template n) s = refl
    nodes-template (Apply g args) (app_template f xs) s = ap (λ n. n + 1) (all_nodes-templates args xs s.1)
    nodes-template (InfixOf opened sign operands) (app_template f xs) s =
        ap (λ n. n + 1) (all_nodes-templates operands xs s.1)
    nodes-template (syntax.Variable w) (variable_template x) s = refl
    nodes-template _ _ s = absurd s

    all_nodes-templates : (es : Trees) (xs : Templates) → SpellTemplates sig es xs
        → all_nodes es ≡ all_template_nodes xs
    all_nodes-templates no_trees no_templates s = refl
    all_nodes-templates (more_trees e es) (more_templates x xs) s =
        λ i. nodes-template e x s.0 i + all_nodes-templates es xs s.1 i
    all_nodes-templates _ _ s = absurd s

  mutual
    -- none of its defaults is large, since it has none
    large_default-template : (e : Tree) (x : Template) → SpellsTemplate sig e x → has_large_default e ≡ false
    large_default-template (Symbol w) (symbol_template n) s = refl
    large_default-template (Apply g args) (app_template f xs) s = large_defaults-templates args xs s.1
    large_default-template (InfixOf opened sign operands) (app_template f xs) s =
        large_defaults-templates operands xs s.1
    large_default-template (syntax.Variable w) (variable_template x) s = refl
    large_default-template _ _ s = absurd s

    large_defaults-templates : (es : Trees) (xs : Templates) → SpellTemplates sig es xs
        → some_large_default es ≡ false
    large_defaults-templates no_trees no_templates s = refl
    large_defaults-templates (more_trees e es) (more_templates x xs) s =
        ap (λ b. b || some_large_default es) (large_default-template e x s.0) ∙ large_defaults-templates es xs s.1
    large_defaults-templates _ _ s = absurd s

  -- and isn't large, where the template has few
  pub is_large_template-spells : (e : Tree) (x : Template) → SpellsTemplate sig e x
      → template_nodes x ≤ MAX_PATTERN_NODES → is_large_template e ≡ false
  is_large_template-spells e x s h =
      let few : nodes e ≤ MAX_PATTERN_NODES = omega (arith, nodes-template e x s, h) in
      let test : ltb MAX_PATTERN_NODES (nodes e) ≡ false = search (rules, few) in
      rw test (large_default-template e x s)

  -- operands without faults have none behind a sign without faults
  operands-known : (vs : List Variable) (sign : Spot) (o : Option OpDecl) (es : Trees) → true ≡ is_some o
      → all_template_faults vs sig es ≡ [] → template_operand_faults vs sig (sign_faults sign o) es ≡ []
  operands-known vs sign None es h k = cc
  operands-known vs sign (Some d) no_trees h k = refl
  operands-known vs sign (Some d) (more_trees e es) h k = k

  -- ---- faults

  -- the variables of the pattern may be named, and stand for as many terms
  module _ (p : Pattern) (vs : List Variable)
      (bound : (x : List ℕ) → IsVariableOf sig p x → is_bound vs x ≡ true)
      (one : (x : List ℕ) → IsVariableOf sig p x → IsOneTerm sig p x → is_bound_sequence vs x ≡ false)
      (extents : (x : List ℕ) → IsVariableOf sig p x → extent_in vs x ≡ extent_named p x)
    where
      given-template : (x : Template) → IsFormedTemplate sig p x
          → template_extent (extent_in vs) x ≡ template_extent (extent_named p) x
      given-template (symbol_template n) h = refl
      given-template (app_template f xs) h = refl
      given-template (variable_template x) h = ap (λ (o : Option Extent). unwrap_or o single) (extents x h)

      given-templates : (xs : Templates) → AreFormedTemplates sig p xs
          → templates_extent (extent_in vs) xs ≡ templates_extent (extent_named p) xs
      given-templates no_templates h = refl
      given-templates (more_templates x xs) h = λ i. sum_extent (given-template x h.0 i) (given-templates xs h.1 i)

      -- the operation allows what the expressions give
      allowed : (number : Option ℕ) (f : ℕ) (es : Trees) (xs : Templates) → number ≡ Some f → SpellTemplates sig es xs
          → IsFormedTemplate sig p (app_template f xs) → holds_of (allows_given vs sig es) (op_at sig number) ≡ true
      allowed number f es xs e s h =
          (λ i. holds_of (allows_extent ((ap (templates_extent (extent_in vs)) (templates_of-spell es xs s)
          ∙ given-templates xs h.1) i)) (op_at sig (e i))) ∙ h.0

      mutual
        -- it has no faults
        template_faults-spells : (e : Tree) (x : Template) → SpellsTemplate sig e x → IsFormedTemplate sig p x
            → template_faults vs sig e ≡ []
        template_faults-spells (Symbol w) (symbol_template n) s h = none-symbol sig w n s h
        template_faults-spells (Apply g args) (app_template f xs) s h =
            let passes = allows_given vs sig args in
            nil-both (head_faults passes g (op_named sig g.text)) (all_template_faults vs sig args)
            (none-head passes g (op_named sig g.text) (allowed _ f args xs s.0 s.1 h))
            (all_template_faults-spell args xs s.1 h.1)
        template_faults-spells (InfixOf opened sign operands) (app_template f xs) s h =
            let passes = allows_given vs sig operands in
            let here = op_signed sig sign.text in
            let held : holds_of passes here ≡ true = allowed _ f operands xs s.0 s.1 h in
            nil-both (arity_faults passes opened here) (template_operand_faults vs sig (sign_faults sign here) operands)
            (none-arity passes opened here held)
            (operands-known vs sign here operands (some-holds_of passes here held)
            (all_template_faults-spell operands xs s.1 h.1))
        template_faults-spells (syntax.Variable w) (variable_template x) s h =
            none-fault_if (not (is_bound vs w.text)) _ w.place (ap (λ n. not (is_bound vs n)) s ∙ ap not (bound x h))
        template_faults-spells _ _ s h = absurd s

        all_template_faults-spell : (es : Trees) (xs : Templates) → SpellTemplates sig es xs
            → AreFormedTemplates sig p xs → all_template_faults vs sig es ≡ []
        all_template_faults-spell no_trees no_templates s h = refl
        all_template_faults-spell (more_trees e es) (more_templates x xs) s h =
            nil-both (template_faults vs sig e) (all_template_faults vs sig es)
            (template_faults-spells e x s.0 h.0) (all_template_faults-spell es xs s.1 h.1)
        all_template_faults-spell _ _ s h = absurd s

      -- a variable that stands for one term may stand alone
      loose-spells : (e : Tree) (x : Template) → SpellsTemplate sig e x → IsFormedTemplate sig p x
          → HasOneTerm sig p x → loose_template_faults vs e ≡ []
      loose-spells (Symbol w) (symbol_template n) s h k = refl
      loose-spells (Apply g args) (app_template f xs) s h k = refl
      loose-spells (InfixOf opened sign operands) (app_template f xs) s h k = refl
      loose-spells (syntax.Variable w) (variable_template x) s h k =
          none-fault_if (is_bound_sequence vs w.text) _ w.place (ap (is_bound_sequence vs) s ∙ one x h k)
      loose-spells _ _ s h k = absurd s

      -- it has no faults as a whole
      pub whole_template_faults-spells : (e : Tree) (x : Template) → SpellsTemplate sig e x → IsSoundTemplate sig p x
          → whole_template_faults vs sig e ≡ []
      whole_template_faults-spells e x s h =
          nil-both (loose_template_faults vs e) (template_faults vs sig e) (loose-spells e x s h.formed h.one_term)
          (template_faults-spells e x s h.formed)

      -- the template of a rule, where there is one, is read again
      pub arrow-again : (d : Option Tree) (o : Option Template) → SpellsArrow sig d o → HasSoundTemplate sig p o
          → IsArrowAgain sig vs d o
      arrow-again None None s h = record { faultless = refl; small = refl; is = refl }
      arrow-again (Some e) (Some x) s h = record {
        faultless = whole_template_faults-spells e x s h;
        small = is_large_template-spells e x s h.few_nodes;
        is = ap Some (template_of-spells e x s);
      }
      arrow-again _ _ s h = absurd s
