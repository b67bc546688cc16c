-- The step of a term, and its rewriting, are those that the functions give.
use Rattle.std.proofs.Common.{◌≡◌, ℕ, zero, suc, ◌≤◌, Bool, true, false, List, [], ◌∷◌, map}
use Rattle.std.proofs.Common.{refl, sym, ap, ◌∙◌, subst, arith, inl, inr}
use Rattle.std.specs.Prelude.{Option, Some, None, ◌↔◌, slice_get, option_map, option_and_then}
use Rattle.std.specs.Prelude.{is_some, length, nat_lt, if◌then◌else◌}
use Rattle.std.specs.List.{AllByRecursion}
use Rattle.std.proofs.lemmas.Bool.Decides.{nat_tests}
use Rattle.std.proofs.lemmas.Option.{slice_get_read}
use Rattle.mp_term.specs.declared.size.Excess.{Excess}
use Rattle.mp_term.specs.declared.limits.TheConstants.{MAX_TERM_NODES, MAX_DEPTH}
use Rattle.mp_term.specs.Tree.{Tree, trees}
use Rattle.mp_term.specs.Size.{all_nodes, greatest_depth}
use Rattle.mp_term.specs.Excess.{excess}
use Rattle.mp_term.specs.Positions.{subterm}
use Rattle.mp_term.specs.Signature.{Sig, IsSignature, well_formed}
use Rattle.mp_term.specs.Normal.{normal}
use Rattle.mp_term.specs.Edited.{edited, one_edit}
use Rattle.mp_pattern.specs.TemplateTree.{Template, symbol_template, app_template, variable_template}
use Rattle.mp_pattern.specs.Value.{Value, one, seq, bag, Subst, value_of}
use Rattle.mp_pattern.specs.Instance.{instances, IsInstance}
use Rattle.mp_pattern.specs.Admission.{Rule, Admits}
use Rattle.mp_pattern.specs.SoundRule.{IsSoundRule, HasSoundTemplate, IsSoundTemplate}
use Rattle.mp_pattern.specs.Step.{Stepped, stepped, exceeded, put_in, step_excess, IsStepTo, IsStepBy}
use Rattle.mp_pattern.proofs.TemplateLaws.{instance-IsSoundTemplate, well_formed-IsSoundTemplate}
use Rattle.mp_term.specs.Replaced.{replaced}
use Rattle.mp_term.proofs.ReplacedLaws.{edited-one, formed-replaced}
use Rattle.mp_term.proofs.WellFormedNormal.{wf-normal}
use Rattle.mp_term.proofs.NormalSize.{node_count-normal, depth-normal, normal-normal}
use Rattle.mp_term.proofs.ReplaceLaws.{neither}
use Rattle.mp_rewrite.specs.Step.{IsLive, IsDead, IsStep}
use Rattle.mp_rewrite.specs.Rewriting as ending
use Rattle.mp_rewrite.specs.Rewriting.{Rewriting, done, more, IsRewritingFrom, IsRewriting}
use Rattle.mp_rewrite.specs.Made.{IsReady}
use Rattle.mp_rewrite.specs.Rewritable.{HasTemplate, AreRewriteRules, IsRewritable}
use Rattle.mp_rewrite.specs.Computed.{Match, Redex, only, one_term, instance_of, step_to, step_at, first_match}
use Rattle.mp_rewrite.specs.Computed.{first_redex, next_step, rewriting_from, rewriting}
use Rattle.mp_rewrite.proofs.Matches.{Contains-slice_get, IsFirstMatch, Admits-listed}
use Rattle.mp_rewrite.proofs.Matches.{first_match-None, first_match-Some}
use Rattle.mp_rewrite.proofs.Matches.{first_match-is}
use Rattle.mp_rewrite.proofs.Redexes.{IsFirstRedex, first_redex-None, first_redex-Some, first_redex-is}
use Rattle.mp_rewrite.proofs.Subterms.{IsNormal-subterm, well_formed-subterm}

-- ---- instances

only-is : (l : List Tree) (t : Tree) → (l ≡ t ∷ []) ↔ (only l ≡ Some t)
only-is [] t = (λ e. cc, λ e. cc)
only-is (u ∷ []) t = (λ e. cc, λ e. cc)
only-is (u ∷ v ∷ l) t = (λ e. cc, λ e. cc)

one_term-is : (o : Option Value) (t : Tree) → (o ≡ Some (one t)) ↔ (one_term o ≡ Some t)
one_term-is None t = (λ e. cc, λ e. cc)
one_term-is (Some (one u)) t = (λ e. cc, λ e. cc)
one_term-is (Some (seq us)) t = (λ e. cc, λ e. cc)
one_term-is (Some (bag us)) t = (λ e. cc, λ e. cc)

-- the instance is that of the function
pub IsInstance-instance_of : (x : Template) (s : Subst) (t : Tree) → IsInstance x s t ↔ (instance_of x s ≡ Some t)
IsInstance-instance_of (symbol_template n) s t = only-is (instances s (symbol_template n)) t
IsInstance-instance_of (app_template f xs) s t = only-is (instances s (app_template f xs)) t
IsInstance-instance_of (variable_template x) s t = one_term-is (value_of s x) t

-- ---- sizes

within : (n d : ℕ) (b c : Bool) (x y : Excess) → nat_lt MAX_TERM_NODES n ≡ b → nat_lt MAX_DEPTH d ≡ c
    → (if b then Some x else (if c then Some y else None)) ≡ None → (n ≤ MAX_TERM_NODES) × (d ≤ MAX_DEPTH)
within n d true c x y e f h = cc
within n d false true x y e f h = cc
within n d false false x y e f h = (grind (arith, nat_tests, e), grind (arith, nat_tests, f))

-- a term that isn't too large or too deep
pub excess-None : (ts : List Tree) → excess ts ≡ None
    → (all_nodes ts ≤ MAX_TERM_NODES) × (greatest_depth (trees ts) ≤ MAX_DEPTH)
excess-None ts h =
    within (all_nodes ts) (greatest_depth (trees ts)) (nat_lt MAX_TERM_NODES (all_nodes ts))
    (nat_lt MAX_DEPTH (greatest_depth (trees ts))) _ _ refl refl h

-- ---- the step that is made

-- refused, or else to the one tree
abbrev IsOf : Option Excess → List Tree → Stepped → Type 0
IsOf o l (stepped u) = (o ≡ None) × (l ≡ u ∷ [])
IsOf o l (exceeded e) = o ≡ Some e

abbrev of_parts : Option Excess → List Tree → Option Stepped
of_parts o l = elim o [ Some e ↦ Some (exceeded e) | None ↦ option_map stepped (only l) ]

IsOf-only : (l : List Tree) (r : Stepped) → IsOf None l r ↔ (option_map stepped (only l) ≡ Some r)
IsOf-only [] (stepped u) = (λ h. let e : [] ≡ u ∷ [] = h.1 in cc, λ e. cc)
IsOf-only [] (exceeded x) = (λ e. cc, λ e. cc)
IsOf-only (t ∷ []) (stepped u) = (λ h. let e : t ∷ [] ≡ u ∷ [] = h.1 in cc, λ e. (refl, cc))
IsOf-only (t ∷ []) (exceeded x) = (λ e. cc, λ e. cc)
IsOf-only (t ∷ v ∷ l) (stepped u) = (λ h. let e : t ∷ v ∷ l ≡ u ∷ [] = h.1 in cc, λ e. cc)
IsOf-only (t ∷ v ∷ l) (exceeded x) = (λ e. cc, λ e. cc)

IsOf-parts : (o : Option Excess) (l : List Tree) (r : Stepped) → IsOf o l r ↔ (of_parts o l ≡ Some r)
IsOf-parts None l r = IsOf-only l r
IsOf-parts (Some x) l (stepped u) = (λ h. let e : Some x ≡ None = h.0 in cc, λ e. cc)
IsOf-parts (Some x) l (exceeded y) = (λ e. cc, λ e. cc)

IsStepTo-parts : (sig : Sig) (t : Tree) (p : List ℕ) (spliced : Tree) (r : Stepped)
    → IsStepTo sig t p spliced r ↔ IsOf (step_excess sig t p spliced) (map (normal sig) (put_in sig t p spliced)) r
IsStepTo-parts sig t p spliced (stepped u) = (λ h. h, λ h. h)
IsStepTo-parts sig t p spliced (exceeded e) = (λ h. h, λ h. h)

module _ (sig : Sig) where
  -- the step that puts in the spliced instance is that of the function
  pub IsStepTo-step_to : (t : Tree) (p : List ℕ) (spliced : Tree) (r : Stepped)
      → IsStepTo sig t p spliced r ↔ (step_to sig t p spliced ≡ Some r)
  IsStepTo-step_to t p spliced r =
      let parts = IsStepTo-parts sig t p spliced r in
      let made = IsOf-parts (step_excess sig t p spliced) (map (normal sig) (put_in sig t p spliced)) r in
      (λ h. made.0 (parts.0 h), λ e. parts.1 (made.1 e))

  by_instance : (t : Tree) (p : List ℕ) (r : Rule) (s : Subst) (x : Template) (result : Stepped) (o : Option Tree)
      → r.template ≡ Some x → instance_of x s ≡ o → option_and_then (step_to sig t p) o ≡ Some result
      → IsStepBy sig t p r s result
  by_instance t p r s x result None has at e = cc
  by_instance t p r s x result (Some spliced) has at e = record {
    template = x;
    has_template = has;
    spliced = spliced;
    instance = (IsInstance-instance_of x s spliced).1 at;
    step = (IsStepTo-step_to t p spliced result).1 e;
  }

  by_template : (t : Tree) (p : List ℕ) (r : Rule) (s : Subst) (result : Stepped) (o : Option Template)
      → r.template ≡ o
      → option_and_then (λ x. option_and_then (step_to sig t p) (instance_of x s)) o ≡ Some result
      → IsStepBy sig t p r s result
  by_template t p r s result None has e = cc
  by_template t p r s result (Some x) has e = by_instance t p r s x result (instance_of x s) has refl e

  -- the step of the rule at the redex is that of the function
  pub IsStepBy-step_at : (t : Tree) (x : Redex) (result : Stepped)
      → IsStepBy sig t x.position x.match.rule x.match.subst result ↔ (step_at sig t x ≡ Some result)
  IsStepBy-step_at t x result =
      let s = x.match.subst in (
        λ h.
            ap (option_and_then (λ y. option_and_then (step_to sig t x.position) (instance_of y s))) h.has_template
            ∙ ap (option_and_then (step_to sig t x.position))
            ((IsInstance-instance_of h.template s h.spliced).0 h.instance)
            ∙ (IsStepTo-step_to t x.position h.spliced result).0 h.step,
        λ e. by_template t x.position x.match.rule s result x.match.rule.template refl e,
      )

module _ (sig : Sig) (rules : List Rule) (signature : IsSignature sig) (sound : AreRewriteRules sig rules) where
  rule-held : (rs : List Rule) (n : ℕ) (r : Rule) → slice_get rs n ≡ Some r → AllByRecursion (IsSoundRule sig) rs
      → AllByRecursion HasTemplate rs → IsSoundRule sig r × HasTemplate r
  rule-held [] n r e h k = cc
  rule-held (q ∷ rs) zero r e h k =
      let same : q ≡ r = cc in (subst (IsSoundRule sig) same h.0, subst HasTemplate same k.0)
  rule-held (q ∷ rs) (suc n) r e h k = rule-held rs n r e h.1 k.1

  template-of : (o : Option Template) → is_some o ≡ true → (x : Template) × (o ≡ Some x)
  template-of None e = cc
  template-of (Some x) e = (x, refl)

  module _ (t : Tree) (m : Match) (formed : well_formed sig t ≡ true) (h : IsFirstMatch sig t rules m) where
    sound-rule : IsSoundRule sig m.rule
    sound-rule = (rule-held rules h.number m.rule h.held sound.sound.each sound.templates).0

    sound-template : (x : Template) → m.rule.template ≡ Some x → IsSoundTemplate sig m.rule.pattern x
    sound-template x has = subst (HasSoundTemplate sig m.rule.pattern) has sound-rule.template

    admitted : Admits sig m.rule t m.subst
    admitted = Admits-listed sig t m.rule m.subst h.later h.listed

    -- the first match has a template
    pub template-matched : (x : Template) × (m.rule.template ≡ Some x)
    template-matched =
        template-of m.rule.template (rule-held rules h.number m.rule h.held sound.sound.each sound.templates).1

    -- which has an instance
    pub instance-matched : (x : Template) → m.rule.template ≡ Some x → (u : Tree) × IsInstance x m.subst u
    instance-matched x has =
        instance-IsSoundTemplate sig signature.ops_in_order m.rule.pattern sound-rule.pattern.formed t formed m.subst
        admitted.table admitted.fits x (sound-template x has)

    -- that is well formed
    pub formed-matched : (x : Template) → m.rule.template ≡ Some x → (u : Tree) → IsInstance x m.subst u
        → well_formed sig u ≡ true
    formed-matched x has =
        well_formed-IsSoundTemplate sig signature.ops_in_order m.rule.pattern sound-rule.pattern.formed t formed m.subst
        admitted.table admitted.fits x (sound-template x has)

  -- one term, which is well formed, comes of putting a well formed term in
  put-one : (t u : Tree) (p : List ℕ) → well_formed sig t ≡ true → well_formed sig u ≡ true
      → (w : Tree) × (edited (one_edit p u) t ≡ w ∷ []) × (well_formed sig w ≡ true)
  put-one t u p formed new = (replaced p u t, edited-one p u t, formed-replaced sig p u t new formed)

  module _ (t : Tree) (rewritable : IsRewritable sig t) where
    -- ---- live positions

    -- the rules match nothing on the subterm of a position that isn't live
    live-None : (p : List ℕ) (u : Tree) → subterm t p ≡ Some u → first_match sig rules u ≡ None
        → IsLive sig rules t p → ⊥
    live-None p u there none live =
        let r = live.0 in
        let at = live.2 in
        let same : Some u ≡ Some at.under = sym there ∙ at.there in
        let under : at.under ≡ u = cc in
        let held = slice_get_read rules (length rules) live.1.0 r refl live.1.1 (sym live.1.2) in
        first_match-None sig u (IsNormal-subterm sig p t u there rewritable.normal) rules none live.1.0 r held at.subst
        (subst (λ u. Admits sig r u at.subst) under at.admits)

    -- they match something on that of a live one
    live-Some : (p : List ℕ) (u : Tree) (m : Match) → subterm t p ≡ Some u → first_match sig rules u ≡ Some m
        → IsLive sig rules t p
    live-Some p u m there found =
        let h = first_match-Some sig u (IsNormal-subterm sig p t u there rewritable.normal) rules m found in (
          m.rule,
          Contains-slice_get rules h.number m.rule h.held,
          record {
            under = u;
            there = there;
            subst = m.subst;
            admits = Admits-listed sig u m.rule m.subst h.later h.listed;
          },
        )

    not-live : (p : List ℕ) (u : Tree) (o : Option Match) → subterm t p ≡ Some u → first_match sig rules u ≡ o
        → (IsLive sig rules t p → ⊥) → first_match sig rules u ≡ None
    not-live p u None there found h = found
    not-live p u (Some m) there found h = absurd (h (live-Some p u m there found))

    -- ---- the redex of a step

    redex-IsStep : (result : Stepped) → (h : IsStep sig rules t result) → IsFirstRedex sig rules t
        (record { position = h.position; «match» = record { rule = h.rule; subst = h.subst } })
    redex-IsStep result h = record {
      under = h.under;
      there = h.there;
      matched = first_match-is sig h.under (IsNormal-subterm sig h.position t h.under h.there rewritable.normal) rules _
          (record {
            number = h.number;
            held = h.held;
            least = λ n r below held s a. h.least n r below held
                (record { under = h.under; there = h.there; subst = s; admits = a });
            later = h.later;
            listed = h.listed;
          });
      first = λ p u before there. not-live p u (first_match sig rules u) there refl (h.first p before);
    }

    step-redex : (x : Redex) (result : Stepped) → IsFirstRedex sig rules t x
        → IsStepBy sig t x.position x.match.rule x.match.subst result → IsStep sig rules t result
    step-redex x result h made =
        let found = first_match-Some sig h.under
        (IsNormal-subterm sig x.position t h.under h.there rewritable.normal) rules x.match h.matched in
        record {
          position = x.position;
          first = λ p before live.
              let at = live.2 in
              live-None p at.under at.there (h.first p at.under before at.there) live;
          number = found.number;
          rule = x.match.rule;
          held = found.held;
          least = λ n r below held at.
              let same : Some h.under ≡ Some at.under = sym h.there ∙ at.there in
              let under : at.under ≡ h.under = cc in
              found.least n r below held at.subst (subst (λ u. Admits sig r u at.subst) under at.admits);
          under = h.under;
          there = h.there;
          subst = x.match.subst;
          later = found.later;
          listed = found.listed;
          made = made;
        }

    step-found : (result : Stepped) (o : Option Redex) → first_redex sig rules t ≡ o
        → option_and_then (step_at sig t) o ≡ Some result → IsStep sig rules t result
    step-found result None e h = cc
    step-found result (Some x) e h =
        step-redex x result (first_redex-Some sig rules t x e) ((IsStepBy-step_at sig t x result).1 h)

    -- the step is the next step
    pub IsStep-next_step : (result : Stepped) → IsStep sig rules t result ↔ (next_step sig rules t ≡ Some result)
    IsStep-next_step result = (
      λ h.
          let x : Redex =
          record { position = h.position; «match» = record { rule = h.rule; subst = h.subst } } in
          ap (option_and_then (step_at sig t)) (first_redex-is sig rules t x (redex-IsStep result h))
          ∙ (IsStepBy-step_at sig t x result).0 h.made,
      λ e. step-found result (first_redex sig rules t) refl e,
    )

    -- ---- no step

    parts-Some : (o : Option Excess) (l : List Tree) (w : Tree) → l ≡ w ∷ [] → of_parts o l ≡ None → ⊥
    parts-Some o [] w e h = cc
    parts-Some (Some x) (u ∷ l) w e h = cc
    parts-Some None (u ∷ []) w e h = cc
    parts-Some None (u ∷ v ∷ l) w e h = cc

    -- the step at the first redex can be made
    ready-redex : (x : Redex) → IsFirstRedex sig rules t x → IsReady sig t x
    ready-redex x h =
        let normal-under = IsNormal-subterm sig x.position t h.under h.there rewritable.normal in
        let formed-under = well_formed-subterm sig x.position t h.under h.there rewritable.formed in
        let found = first_match-Some sig h.under normal-under rules x.match h.matched in
        let y = template-matched h.under x.match formed-under found in
        let spliced = instance-matched h.under x.match formed-under found y.0 y.1 in
        record {
          there = ap is_some h.there;
          template = y.0;
          has_template = y.1;
          spliced = spliced.0;
          instance = spliced.1;
          formed = formed-matched h.under x.match formed-under found y.0 y.1 spliced.0 spliced.1;
        }

    step-ready : (x : Redex) (ready : IsReady sig t x) → step_at sig t x ≡ step_to sig t x.position ready.spliced
    step-ready x ready =
        ap (option_and_then (λ y. option_and_then (step_to sig t x.position) (instance_of y x.match.subst)))
        ready.has_template
        ∙ ap (option_and_then (step_to sig t x.position))
        ((IsInstance-instance_of ready.template x.match.subst ready.spliced).0 ready.instance)

    -- and is made
    step_at-Some : (x : Redex) → IsReady sig t x → step_at sig t x ≡ None → ⊥
    step_at-Some x ready none =
        let whole = put-one t (normal sig ready.spliced) x.position rewritable.formed
        (wf-normal sig signature.ops_in_order ready.spliced ready.formed) in
        parts-Some (step_excess sig t x.position ready.spliced)
        (map (normal sig) (put_in sig t x.position ready.spliced))
        (normal sig whole.0) (ap (map (normal sig)) whole.1) (sym (step-ready x ready) ∙ none)

    dead-found : (o : Option Redex) → first_redex sig rules t ≡ o → option_and_then (step_at sig t) o ≡ None
        → IsDead sig rules t
    dead-found None e h p live =
        let at = live.2 in live-None p at.under at.there (first_redex-None sig rules t e p at.under at.there) live
    dead-found (Some x) e h p live = absurd (step_at-Some x (ready-redex x (first_redex-Some sig rules t x e)) h)

    redex-dead : (o : Option Redex) → first_redex sig rules t ≡ o → IsDead sig rules t → next_step sig rules t ≡ None
    redex-dead None e h = ap (option_and_then (step_at sig t)) e
    redex-dead (Some x) e h =
        let found = first_redex-Some sig rules t x e in
        absurd (h x.position (live-Some x.position found.under x.match found.there found.matched))

    -- there is no next step where no position is live
    pub IsDead-next_step : IsDead sig rules t ↔ (next_step sig rules t ≡ None)
    IsDead-next_step =
        (λ h. redex-dead (first_redex sig rules t) refl h, λ e. dead-found (first_redex sig rules t) refl e)

    some-made : (x : Redex) (o : Option Stepped) → step_at sig t x ≡ o → IsFirstRedex sig rules t x
        → is_some (step_at sig t x) ≡ true
    some-made x None e h = absurd (step_at-Some x (ready-redex x h) e)
    some-made x (Some r) e h = ap is_some e

    some-step : (o : Option Redex) → first_redex sig rules t ≡ o
        → is_some (option_and_then (step_at sig t) o) ≡ is_some o
    some-step None e = refl
    some-step (Some x) e = some-made x (step_at sig t x) refl (first_redex-Some sig rules t x e)

    -- there is a next step where there is a redex
    pub is_some-next_step : is_some (next_step sig rules t) ≡ is_some (first_redex sig rules t)
    is_some-next_step = some-step (first_redex sig rules t) refl

    live-found : (result : Stepped) → next_step sig rules t ≡ Some result → (p : List ℕ) × IsLive sig rules t p
    live-found result e =
        let h = (IsStep-next_step result).1 e in
        let found = redex-IsStep result h in
        (h.position, live-Some h.position found.under _ found.there found.matched)

    -- ---- the term after a step

    -- it can be rewritten
    pub IsRewritable-step : (u : Tree) → IsStep sig rules t (stepped u) → IsRewritable sig u
    IsRewritable-step u h =
        let made = h.made in
        let redex = redex-IsStep (stepped u) h in
        let m : Match = record { rule = h.rule; subst = h.subst } in
        let normal-under = IsNormal-subterm sig h.position t redex.under redex.there rewritable.normal in
        let formed-under = well_formed-subterm sig h.position t redex.under redex.there rewritable.formed in
        let found = first_match-Some sig redex.under normal-under rules m redex.matched in
        let formed = formed-matched redex.under m formed-under found made.template made.has_template made.spliced
        made.instance in
        let whole = put-one t (normal sig made.spliced) h.position rewritable.formed
        (wf-normal sig signature.ops_in_order made.spliced formed) in
        let w = whole.0 in
        let small : excess (w ∷ []) ≡ None =
        ap excess (sym whole.1) ∙ (neither (excess (made.spliced ∷ [])) _ made.step.0).1 in
        let result : normal sig w ∷ [] ≡ u ∷ [] = ap (map (normal sig)) (sym whole.1) ∙ made.step.1 in
        let same : normal sig w ≡ u = cc in
        let fits = excess-None (w ∷ []) small in
        subst (IsRewritable sig) same (record {
          normal = normal-normal sig w;
          formed = wf-normal sig signature.ops_in_order w whole.2;
          few_nodes = omega (arith, node_count-normal sig w, fits.0);
          shallow = omega (arith, depth-normal sig w, fits.1);
        })

    -- ---- the first redex

    -- its step can be made
    pub IsReady-first_redex : (x : Redex) → first_redex sig rules t ≡ Some x → IsReady sig t x
    IsReady-first_redex x e = ready-redex x (first_redex-Some sig rules t x e)

    -- the term after it can be rewritten
    pub IsRewritable-first_redex : (x : Redex) (u : Tree) → first_redex sig rules t ≡ Some x
        → step_at sig t x ≡ Some (stepped u) → IsRewritable sig u
    IsRewritable-first_redex x u e h =
        IsRewritable-step u ((IsStep-next_step (stepped u)).1 (ap (option_and_then (step_at sig t)) e ∙ h))

  -- ---- rewriting

  abbrev after_limit : ℕ → Tree → Option Stepped → Rewriting
  after_limit n t o = elim o [ None ↦ done t n | Some r ↦ more t n ]

  at-limit : (n : ℕ) (t : Tree) (rewritable : IsRewritable sig t) (w : Rewriting) (o : Option Stepped)
      → next_step sig rules t ≡ o
      → IsRewritingFrom sig rules zero n t w ↔ (after_limit n t o ≡ w)
  at-limit n t rewritable w None e =
      let dead = IsDead-next_step t rewritable in (
        λ h. elim h [ inl h ↦ sym h.1 | inr h ↦ absurd (dead.1 e h.0.0 h.0.1) ],
        λ h. inl (dead.1 e, sym h),
      )
  at-limit n t rewritable w (Some r) e =
      let dead = IsDead-next_step t rewritable in (
        λ h. elim h [
          | inl h ↦ let none : next_step sig rules t ≡ None = dead.0 h.0 in cc
          | inr h ↦ sym h.1
        ],
        λ h. inr (live-found t rewritable r e, sym h),
      )

  abbrev after_step : ℕ → ℕ → Tree → Option Stepped → Rewriting
  after_step left n t o = elim o [
    | None ↦ done t n
    | Some r ↦ elim r [ stepped u ↦ rewriting_from sig rules left (suc n) u | exceeded e ↦ ending.exceeded e n ]
  ]

  Some-same : {X : Type 0} (o : Option X) (x y : X) → o ≡ Some x → o ≡ Some y → x ≡ y
  Some-same o x y e f = cc

  before-limit : (left n : ℕ) (t : Tree) (rewritable : IsRewritable sig t) (w : Rewriting)
      → ((u : Tree) → IsRewritable sig u
      → IsRewritingFrom sig rules left (suc n) u w ↔ (rewriting_from sig rules left (suc n) u ≡ w))
      → (o : Option Stepped) → next_step sig rules t ≡ o
      → IsRewritingFrom sig rules (suc left) n t w ↔ (after_step left n t o ≡ w)
  before-limit left n t rewritable w later None e =
      let dead = IsDead-next_step t rewritable in (
        λ h. elim h [
          | inl h ↦ sym h.1
          | inr h ↦ elim h [
            | inl h ↦ let some = (IsStep-next_step t rewritable _).0 h.1 in cc
            | inr h ↦ let some = (IsStep-next_step t rewritable _).0 h.1 in cc
          ]
        ],
        λ h. inl (dead.1 e, sym h),
      )
  before-limit left n t rewritable w later (Some (exceeded x)) e =
      let step = IsStep-next_step t rewritable in (
        λ h. elim h [
          | inl h ↦ let none : next_step sig rules t ≡ None = (IsDead-next_step t rewritable).0 h.0 in cc
          | inr h ↦ elim h [
            | inl h ↦ let same : exceeded x ≡ exceeded h.0 =
                Some-same (next_step sig rules t) (exceeded x) (exceeded h.0) e ((step (exceeded h.0)).0 h.1) in
                let part : x ≡ h.0 = cc in ap (λ x. ending.exceeded x n) part ∙ sym h.2
            | inr h ↦ let same : exceeded x ≡ stepped h.0 =
                Some-same (next_step sig rules t) (exceeded x) (stepped h.0) e ((step (stepped h.0)).0 h.1) in cc
          ]
        ],
        λ h. inr (inl (x, (step (exceeded x)).1 e, sym h)),
      )
  before-limit left n t rewritable w later (Some (stepped u)) e =
      let step = IsStep-next_step t rewritable in
      let next = IsRewritable-step t rewritable u ((step (stepped u)).1 e) in (
        λ h. elim h [
          | inl h ↦ let none : next_step sig rules t ≡ None = (IsDead-next_step t rewritable).0 h.0 in cc
          | inr h ↦ elim h [
            | inl h ↦ let same : stepped u ≡ exceeded h.0 =
                Some-same (next_step sig rules t) (stepped u) (exceeded h.0) e ((step (exceeded h.0)).0 h.1) in cc
            | inr h ↦ let same : stepped u ≡ stepped h.0 =
                Some-same (next_step sig rules t) (stepped u) (stepped h.0) e ((step (stepped h.0)).0 h.1) in
                let part : h.0 ≡ u = cc in
                (later u next).0 (subst (λ v. IsRewritingFrom sig rules left (suc n) v w) part h.2)
          ]
        ],
        λ h. inr (inr (u, (step (stepped u)).1 e, (later u next).1 h)),
      )

  -- rewriting from a term on is that of the function
  pub IsRewritingFrom-rewriting_from : (left n : ℕ) (t : Tree) (rewritable : IsRewritable sig t) (w : Rewriting)
      → IsRewritingFrom sig rules left n t w ↔ (rewriting_from sig rules left n t ≡ w)
  IsRewritingFrom-rewriting_from zero n t rewritable w = at-limit n t rewritable w (next_step sig rules t) refl
  IsRewritingFrom-rewriting_from (suc left) n t rewritable w =
      before-limit left n t rewritable w
      (λ u next. IsRewritingFrom-rewriting_from left (suc n) u next w) (next_step sig rules t) refl

  -- and so is the whole rewriting
  pub IsRewriting-rewriting : (limit : ℕ) (t : Tree) → IsRewritable sig t → (w : Rewriting)
      → IsRewriting sig rules limit t w ↔ (rewriting sig rules limit t ≡ w)
  IsRewriting-rewriting limit t rewritable w = IsRewritingFrom-rewriting_from limit 0 t rewritable w
