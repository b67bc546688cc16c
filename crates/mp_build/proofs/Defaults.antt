-- A default without faults has a normal form.
use Rattle.std.proofs.Common.{◌≡◌, true, List, [], ◌∷◌, ◌++◌, length, ℕ, Bool, Option, Some, None, refl, ap, ◌∙◌}
use Rattle.std.specs.Prelude.{is_some, flat_map, if◌then◌else◌}
use Rattle.std.proofs.lemmas.Bool.{and_from}
use Rattle.mp_term.specs.declared.signature.OpDecl.{OpDecl}
use Rattle.mp_term.specs.Signature.{Sig, allows}
use Rattle.mp_term.specs.Normal.{normal}
use Rattle.mp_term.proofs.ListLaws.{both-empty}
use Rattle.mp_parser.specs.Syntax.{Spot, Wildcard, Tree, Symbol, Apply, InfixOf, Wild, Optional, Counted, Variable}
use Rattle.mp_parser.specs.Syntax.{Trees, no_trees, more_trees, tree_list}
use Rattle.mp_build.specs.declared.fault.TextFault.{TextFault}
use Rattle.mp_build.specs.Build.{op_number, sign_number, term_of, has_term, all_have_terms}
use Rattle.mp_build.specs.Wildcards.{DefaultForm, normal_form, unknown, default_form}
use Rattle.mp_build.specs.Checks.{fault_if, kind_unknown, op_at, op_named, op_signed, head_faults, arity_faults}
use Rattle.mp_build.specs.Checks.{sign_faults, term_wildcard_faults, term_faults, term_operand_faults, all_term_faults}
use Rattle.mp_build.specs.Checks.{default_faults, count_faults}
use Rattle.mp_build.proofs.Faultless.{some-behind}

module _ (sig : Sig) where
  -- ---- terms without faults

  -- operands without faults, and a sign without faults
  pub nil-term_operands : (at_sign : List TextFault) (ts : Trees) → term_operand_faults sig at_sign ts ≡ []
      → (at_sign ≡ []) × (all_term_faults sig ts ≡ [])
  nil-term_operands at_sign no_trees h = (h, refl)
  nil-term_operands at_sign (more_trees t ts) h =
      let p = both-empty (term_faults sig t) (at_sign ++ all_term_faults sig ts) h in
      let q = both-empty at_sign (all_term_faults sig ts) p.1 in
      (q.0, ap (λ l. l ++ all_term_faults sig ts) p.0 ∙ q.1)

  -- a wildcard with a default is no term
  pub no-optional_term : (w : Wildcard) (others : List Wildcard) (default : Tree)
      → term_faults sig (Optional w others default) ≡ [] → ⊥
  no-optional_term w others default h =
      let p = both-empty (flat_map (term_wildcard_faults sig) (w ∷ others)) (term_faults sig default) h in
      let q = both-empty (term_wildcard_faults sig w) (flat_map (term_wildcard_faults sig) others) p.0 in
      some-behind (fault_if (kind_unknown sig w.kind) _ w.place) _ q.0

  -- nor is one with a count
  pub no-counted_term : (w : Wildcard) (count : Spot) (more : Bool) → term_faults sig (Counted w count more) ≡ [] → ⊥
  no-counted_term w count more h =
      let p = both-empty (term_wildcard_faults sig w) (count_faults count more) h in
      some-behind (fault_if (kind_unknown sig w.kind) _ w.place) _ p.0

  known-head : (passes : OpDecl → Bool) (f : Spot) (number : Option ℕ) → head_faults passes f (op_at sig number) ≡ []
      → is_some number ≡ true
  known-head passes f None h = cc
  known-head passes f (Some n) h = refl

  known-sign : (sign : Spot) (number : Option ℕ) → sign_faults sign (op_at sig number) ≡ [] → is_some number ≡ true
  known-sign sign None h = cc
  known-sign sign (Some n) h = refl

  mutual
    -- an expression without faults is a term
    pub has_term-term_faults : (t : Tree) → term_faults sig t ≡ [] → has_term sig t ≡ true
    has_term-term_faults (Symbol w) h = refl
    has_term-term_faults (Apply f args) h =
        let passes = allows (length (tree_list args)) in
        let p = both-empty (head_faults passes f (op_named sig f.text)) (all_term_faults sig args) h in
        and_from (is_some (op_number sig f.text)) (all_have_terms sig args)
        (known-head passes f (op_number sig f.text) p.0) (all_have_terms-term_faults args p.1)
    has_term-term_faults (InfixOf opened sign operands) h =
        let at_sign = sign_faults sign (op_signed sig sign.text) in
        let p = both-empty (arity_faults (allows (length (tree_list operands))) opened (op_signed sig sign.text))
        (term_operand_faults sig at_sign operands) h in
        let q = nil-term_operands at_sign operands p.1 in
        and_from (is_some (sign_number sig sign.text)) (all_have_terms sig operands)
        (known-sign sign (sign_number sig sign.text) q.0) (all_have_terms-term_faults operands q.1)
    has_term-term_faults (Wild w) h = absurd (some-behind (fault_if (kind_unknown sig w.kind) _ w.place) _ h)
    has_term-term_faults (Optional w others default) h = absurd (no-optional_term w others default h)
    has_term-term_faults (Counted w count more) h = absurd (no-counted_term w count more h)
    has_term-term_faults (Variable x) h = cc

    all_have_terms-term_faults : (ts : Trees) → all_term_faults sig ts ≡ [] → all_have_terms sig ts ≡ true
    all_have_terms-term_faults no_trees h = refl
    all_have_terms-term_faults (more_trees t ts) h =
        let p = both-empty (term_faults sig t) (all_term_faults sig ts) h in
        and_from (has_term sig t) (all_have_terms sig ts) (has_term-term_faults t p.0)
        (all_have_terms-term_faults ts p.1)

  -- a default without faults has a normal form
  pub default_form-default_faults : (others : List Wildcard) (default : Tree) → default_faults sig others default ≡ []
      → default_form sig others default ≡ normal_form (normal sig (term_of sig default))
  default_form-default_faults [] default h =
      let form : DefaultForm = normal_form (normal sig (term_of sig default)) in
      ap (λ b. if b then form else unknown) (has_term-term_faults default h)
  default_form-default_faults (v ∷ others) default h =
      let p = both-empty (flat_map (term_wildcard_faults sig) (v ∷ others)) (term_faults sig default) h in
      let q = both-empty (term_wildcard_faults sig v) (flat_map (term_wildcard_faults sig) others) p.0 in
      absurd (some-behind (fault_if (kind_unknown sig v.kind) _ v.place) _ q.0)
