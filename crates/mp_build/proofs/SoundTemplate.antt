-- A template that the checks let through is sound over the normal form of its pattern.
use Rattle.std.proofs.Common.{◌≡◌, ◌≢◌, ◌≤◌, ◌+◌, ℕ, zero, suc, true, false, not, ltb, List, [], ◌++◌}
use Rattle.std.proofs.Common.{Option, refl, sym, ap, ◌∙◌, arith}
use Rattle.std.specs.Prelude.{slice_get, unwrap_or}
use Rattle.std.proofs.lemmas.Bool.{ltb-false, not-false, or_parts}
use Rattle.mp_term.specs.Signature.{Sig, holds_of}
use Rattle.mp_term.proofs.ListLaws.{both-empty}
use Rattle.mp_pattern.specs.declared.limits.TheConstants.{MAX_PATTERN_NODES, MAX_DEPTH}
use Rattle.mp_pattern.specs.Depth.{template_depth, greatest_template_depth}
use Rattle.mp_pattern.specs.Extent as extents_of
use Rattle.mp_pattern.specs.Extent.{Extent, sum_extent, allows_extent, extent_named, template_extent}
use Rattle.mp_pattern.specs.Extent.{templates_extent}
use Rattle.mp_pattern.specs.Firsts.{is_known}
use Rattle.mp_pattern.specs.PatternTree as pattern
use Rattle.mp_pattern.specs.SoundRule.{IsFormedTemplate, AreFormedTemplates, HasOneTerm, IsSoundTemplate}
use Rattle.mp_pattern.specs.TemplateSize.{template_nodes, all_template_nodes}
use Rattle.mp_pattern.specs.Value.{same_name, one_form}
use Rattle.mp_pattern.specs.Variables.{variables, variable_form}
use Rattle.mp_parser.specs.Syntax.{Spot, Tree, Symbol, Apply, InfixOf, Wild, Optional, Counted, Variable, Trees}
use Rattle.mp_parser.specs.Syntax.{no_trees}
use Rattle.mp_parser.specs.Syntax.{more_trees, Fits, AreFit, HasNames, HaveNames}
use Rattle.mp_build.specs.declared.fault.TextFault.{TextFault}
use Rattle.mp_build.specs.Build.{op_number, sign_number, head_number, has_term, template_of, templates_of}
use Rattle.mp_build.specs.Checks.{nodes, all_nodes, has_large_default, op_named, op_signed, head_faults, arity_faults}
use Rattle.mp_build.specs.Checks.{sign_faults, term_faults}
use Rattle.mp_build.specs.Scope as scope
use Rattle.mp_build.specs.Scope.{is_bound, is_bound_sequence, extent_in}
use Rattle.mp_build.specs.TemplateChecks.{is_large_template, loose_template_faults, allows_given, template_faults}
use Rattle.mp_build.specs.TemplateChecks.{template_operand_faults, all_template_faults, whole_template_faults}
use Rattle.mp_build.proofs.Faultless.{nil-fault_if}
use Rattle.mp_build.proofs.SoundLaws.{Found, found-head, found-infix, IsSymbol-symbol_faults}
use Rattle.mp_build.proofs.Defaults.{has_term-term_faults}

differ : true ≡ false → ⊥
differ e = cc

-- ---- how large

module _ (sig : Sig) where
  mutual
    -- a template has as many nodes as its expression
    template_nodes-template_of : (t : Tree) → template_nodes (template_of sig t) ≡ nodes t
    template_nodes-template_of (Symbol w) = refl
    template_nodes-template_of (Apply f args) = ap (λ n. n + 1) (all_template_nodes-templates_of args)
    template_nodes-template_of (InfixOf opened sign operands) =
        ap (λ n. n + 1) (all_template_nodes-templates_of operands)
    template_nodes-template_of (Wild w) = refl
    template_nodes-template_of (Optional w others default) = refl
    template_nodes-template_of (Counted w count more) = refl
    template_nodes-template_of (Variable x) = refl

    all_template_nodes-templates_of : (ts : Trees) → all_template_nodes (templates_of sig ts) ≡ all_nodes ts
    all_template_nodes-templates_of no_trees = refl
    all_template_nodes-templates_of (more_trees t ts) =
        omega (arith, template_nodes-template_of t, all_template_nodes-templates_of ts)

  mutual
    -- a template is no deeper than its brackets
    depth-template_of : (room : ℕ) (t : Tree) → Fits room t → template_depth (template_of sig t) ≤ room
    depth-template_of room (Symbol w) h = omega arith
    depth-template_of zero (Apply f args) h = absurd h
    depth-template_of (suc room) (Apply f args) h = omega (arith, depth-templates_of room args h)
    depth-template_of zero (InfixOf opened sign operands) h = absurd h
    depth-template_of (suc room) (InfixOf opened sign operands) h = omega (arith, depth-templates_of room operands h.1)
    depth-template_of room (Wild w) h = omega arith
    depth-template_of room (Optional w others default) h = omega arith
    depth-template_of room (Counted w count more) h = omega arith
    depth-template_of room (Variable x) h = omega arith

    depth-templates_of : (room : ℕ) (ts : Trees) → AreFit room ts → greatest_template_depth (templates_of sig ts) ≤ room
    depth-templates_of room no_trees h = omega arith
    depth-templates_of room (more_trees t ts) h =
        omega (arith, depth-template_of room t h.0, depth-templates_of room ts h.1)

-- ---- formed templates

-- operands without faults, and a sign without faults, in a template
nil-template_operands : (vs : List scope.Variable) (sig : Sig) (at_sign : List TextFault) (ts : Trees)
    → template_operand_faults vs sig at_sign ts ≡ [] → (at_sign ≡ []) × (all_template_faults vs sig ts ≡ [])
nil-template_operands vs sig at_sign no_trees h = (h, refl)
nil-template_operands vs sig at_sign (more_trees t ts) h =
    let p = both-empty (template_faults vs sig t) (at_sign ++ all_template_faults vs sig ts) h in
    let q = both-empty at_sign (all_template_faults vs sig ts) p.1 in
    (q.0, ap (λ l. l ++ all_template_faults vs sig ts) p.0 ∙ q.1)

-- a variable that is named is bound
bound-variable : (vs : List scope.Variable) (sig : Sig) (x : Spot) → template_faults vs sig (Variable x) ≡ []
    → is_bound vs x.text ≡ true
bound-variable vs sig x h = not-false (is_bound vs x.text) (nil-fault_if (not (is_bound vs x.text)) _ x.place h)

module _ (sig : Sig) (vs : List scope.Variable) (q : pattern.Pattern)
    (known : (x : List ℕ) → x ≢ [] → is_bound vs x ≡ true → is_known same_name (variables q) x ≡ true)
    (extents : (x : List ℕ) → x ≢ [] → is_bound vs x ≡ true → extent_in vs x ≡ extent_named q x)
    (single : (x : List ℕ) → x ≢ [] → is_bound vs x ≡ true → is_bound_sequence vs x ≡ false
    → variable_form sig q x ≡ one_form)
  where
    -- an expression gives as many arguments over the variables of the syntax tree as over those of the pattern
    extent-template_of : (t : Tree) → HasNames t → template_faults vs sig t ≡ []
        → template_extent (extent_in vs) (template_of sig t) ≡ template_extent (extent_named q) (template_of sig t)
    extent-template_of (Symbol w) names h = refl
    extent-template_of (Apply f args) names h = refl
    extent-template_of (InfixOf opened sign operands) names h = refl
    extent-template_of (Wild w) names h = refl
    extent-template_of (Optional w others default) names h = refl
    extent-template_of (Counted w count more) names h = refl
    extent-template_of (Variable x) names h =
        ap (λ (o : Option Extent). unwrap_or o extents_of.single)
        (extents x.text names.is_word.some (bound-variable vs sig x h))

    extent-templates_of : (ts : Trees) → HaveNames ts → all_template_faults vs sig ts ≡ []
        → templates_extent (extent_in vs) (templates_of sig ts)
        ≡ templates_extent (extent_named q) (templates_of sig ts)
    extent-templates_of no_trees names h = refl
    extent-templates_of (more_trees t ts) names h =
        let p = both-empty (template_faults vs sig t) (all_template_faults vs sig ts) h in
        λ i. sum_extent (extent-template_of t names.0 p.0 i) (extent-templates_of ts names.1 p.1 i)

    allowed : (number : Option ℕ) (ts : Trees) → HaveNames ts → all_template_faults vs sig ts ≡ []
        → Found sig number (allows_given vs sig ts)
        → holds_of (allows_extent (templates_extent (extent_named q) (templates_of sig ts)))
        (slice_get sig.ops (head_number number)) ≡ true
    allowed number ts names h d =
        ap (holds_of (allows_extent (templates_extent (extent_named q) (templates_of sig ts)))) d.held
        ∙ ap (λ e. allows_extent e d.decl) (sym (extent-templates_of ts names h)) ∙ d.passed

    no-term : (t : Tree) → has_term sig t ≡ false → term_faults sig t ≡ [] → ⊥
    no-term t none h = differ (sym (has_term-term_faults sig t h) ∙ none)

    mutual
      -- a template without faults is formed
      formed-template_of : (t : Tree) → HasNames t → template_faults vs sig t ≡ []
          → IsFormedTemplate sig q (template_of sig t)
      formed-template_of (Symbol w) names h = IsSymbol-symbol_faults sig w names h
      formed-template_of (Apply f args) names h =
          let p = both-empty (head_faults (allows_given vs sig args) f (op_named sig f.text))
          (all_template_faults vs sig args) h in (
            allowed (op_number sig f.text) args names.1 p.1
                (found-head sig (allows_given vs sig args) f (op_number sig f.text) p.0),
            formed-templates_of args names.1 p.1,
          )
      formed-template_of (InfixOf opened sign operands) names h =
          let at_sign = sign_faults sign (op_signed sig sign.text) in
          let p = both-empty (arity_faults (allows_given vs sig operands) opened (op_signed sig sign.text))
          (template_operand_faults vs sig at_sign operands) h in
          let r = nil-template_operands vs sig at_sign operands p.1 in (
            allowed (sign_number sig sign.text) operands names.1 r.1
                (found-infix sig (allows_given vs sig operands) opened sign (sign_number sig sign.text) p.0 r.0),
            formed-templates_of operands names.1 r.1,
          )
      formed-template_of (Wild w) names h = absurd (no-term (Wild w) refl h)
      formed-template_of (Optional w others default) names h = absurd (no-term (Optional w others default) refl h)
      formed-template_of (Counted w count more) names h = absurd (no-term (Counted w count more) refl h)
      formed-template_of (Variable x) names h =
          known x.text names.is_word.some (bound-variable vs sig x h)

      formed-templates_of : (ts : Trees) → HaveNames ts → all_template_faults vs sig ts ≡ []
          → AreFormedTemplates sig q (templates_of sig ts)
      formed-templates_of no_trees names h = tt
      formed-templates_of (more_trees t ts) names h =
          let p = both-empty (template_faults vs sig t) (all_template_faults vs sig ts) h in
          (formed-template_of t names.0 p.0, formed-templates_of ts names.1 p.1)

    -- a whole template without faults is sound
    pub sound-template_of : (t : Tree) → HasNames t → Fits MAX_DEPTH t → is_large_template t ≡ false
        → whole_template_faults vs sig t ≡ [] → IsSoundTemplate sig q (template_of sig t)
    sound-template_of t names fits small none =
        let o = or_parts (ltb MAX_PATTERN_NODES (nodes t)) (has_large_default t) small in
        let few : nodes t ≤ MAX_PATTERN_NODES = ltb-false MAX_PATTERN_NODES (nodes t) o.0 in
        let p = both-empty (loose_template_faults vs t) (template_faults vs sig t) none in
        record {
          formed = formed-template_of t names p.1;
          one_term = one t names p.0 p.1;
          few_nodes = omega (arith, template_nodes-template_of sig t);
          shallow = depth-template_of sig MAX_DEPTH t fits;
        }
      where
        one : (t : Tree) → HasNames t → loose_template_faults vs t ≡ [] → template_faults vs sig t ≡ []
            → HasOneTerm sig q (template_of sig t)
        one (Symbol w) names h k = tt
        one (Apply f args) names h k = tt
        one (InfixOf opened sign operands) names h k = tt
        one (Wild w) names h k = tt
        one (Optional w others default) names h k = tt
        one (Counted w count more) names h k = tt
        one (Variable x) names h k = single x.text names.is_word.some (bound-variable vs sig x k)
            (nil-fault_if (is_bound_sequence vs x.text) _ x.place h)
