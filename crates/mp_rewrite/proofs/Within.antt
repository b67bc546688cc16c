-- What a term that stands in a whole says of the whole.
use Rattle.std.proofs.Common.{◌≡◌, ◌∙◌, ap, sym, refl, subst, ℕ, zero, suc, ◌+◌, ◌-◌, ◌<◌, ◌≤◌}
use Rattle.std.proofs.Common.{List, [], ◌∷◌, ◌++◌, length, arith, append_assoc, length-append, inr, max}
use Rattle.std.proofs.lemmas.List.{append-nil}
use Rattle.std.specs.Prelude.{Some, None, slice_get, slice_set, if◌then◌else◌, option_map, option_and_then}
use Rattle.std.specs.Option.{option_or}
use Rattle.std.specs.List.{AllByRecursion}
use Rattle.mp_term.specs.declared.limits.TheConstants.{MAX_TERM_NODES, MAX_DEPTH}
use Rattle.mp_term.specs.Tree.{Tree, app, trees, more_trees, tree_list}
use Rattle.mp_term.specs.TreeLists.{tree_list-trees}
use Rattle.mp_term.specs.Excess.{excess}
use Rattle.mp_term.specs.Size.{node_count, depth}
use Rattle.mp_term.specs.Positions.{subterm}
use Rattle.mp_term.specs.Replaced.{replaced, replaced_argument}
use Rattle.mp_term.specs.Signature.{Sig, IsSignature}
use Rattle.mp_term.specs.Normal.{normal, normals, unwrapped, flattened, in_order, IsNormal}
use Rattle.mp_term.specs.Sorting.{sorted}
use Rattle.mp_term.specs.Order.{tree_cmp}
use Rattle.mp_term.proofs.ReplacedLaws.{nodes-replaced, deep-replaced, shallow-replaced}
use Rattle.mp_pattern.specs.Admission.{Rule}
use Rattle.mp_pattern.specs.Instance.{IsInstance}
use Rattle.mp_pattern.specs.Step.{stepped}
use Rattle.mp_pattern.specs.TemplateTree.{Template}
use Rattle.mp_rewrite.specs.Computed.{Match, Redex, at_argument, first_redex, first_below, step_at, rewriting_from}
use Rattle.mp_rewrite.specs.Rewritable.{AreRewriteRules, IsRewritable}
use Rattle.mp_rewrite.specs.Marks.{Mark}
use Rattle.mp_rewrite.specs.Known.{IsKnown}
use Rattle.mp_rewrite.specs.Run.{Leads}
use Rattle.mp_rewrite.specs.Within.{under, IsFree, IsWhole, IsAround, IsWithin, IsQuiet, IsQuietAt}
use Rattle.mp_rewrite.proofs.CallAnswers.{after_step}
use Rattle.mp_rewrite.proofs.PutBack.{collapsed-open, arguments-pass, arguments-normal}
use Rattle.mp_rewrite.proofs.Subterms.{IsNormal-subterm, well_formed-subterm}
use Rattle.mp_rewrite.proofs.Steps.{IsRewritable-first_redex}
use Rattle.mp_rewrite.proofs.StepsInPlace.{nodes-subterm, length-subterm, step-made}

-- ---- an item of a list, replaced

pub get-set_there : {X : Type 0} (xs : List X) (i : ℕ) (x : X) → i < length xs → slice_get (slice_set xs i x) i ≡ Some x
get-set_there [] i x h = absurd (omega (arith, h))
get-set_there (y ∷ xs) zero x h = refl
get-set_there (y ∷ xs) (suc i) x h = get-set_there xs i x (omega (arith, h))

pub set-there : {X : Type 0} (xs : List X) (i : ℕ) (x : X) → slice_get xs i ≡ Some x → slice_set xs i x ≡ xs
set-there [] i x e = cc
set-there (y ∷ xs) zero x e = let s : y ≡ x = cc in ap (λ z. z ∷ xs) (sym s)
set-there (y ∷ xs) (suc i) x e = ap (λ l. y ∷ l) (set-there xs i x e)

pub set-set : {X : Type 0} (xs : List X) (i : ℕ) (x y : X) → slice_set (slice_set xs i x) i y ≡ slice_set xs i y
set-set [] i x y = refl
set-set (z ∷ xs) zero x y = refl
set-set (z ∷ xs) (suc i) x y = ap (λ l. z ∷ l) (set-set xs i x y)

replaced-set : (ts : List Tree) (i : ℕ) (q : List ℕ) (u t : Tree)
    → replaced_argument i q u (trees (slice_set ts i t)) ≡ trees (slice_set ts i (replaced q u t))
replaced-set [] i q u t = refl
replaced-set (s ∷ ts) zero q u t = refl
replaced-set (s ∷ ts) (suc i) q u t = ap (more_trees s) (replaced-set ts i q u t)

-- ---- normal forms of arguments of which one is replaced

module _ (sig : Sig) where
  normals-same : (ts : List Tree) → AllByRecursion (IsNormal sig) ts → normals sig (trees ts) ≡ ts
  normals-same [] h = refl
  normals-same (t ∷ ts) h = λ j. h.0 j ∷ normals-same ts h.1 j

  normals-set : (ts : List Tree) (i : ℕ) (t : Tree) → AllByRecursion (IsNormal sig) ts
      → normals sig (trees (slice_set ts i t)) ≡ slice_set ts i (normal sig t)
  normals-set [] i t h = refl
  normals-set (s ∷ ts) zero t h = ap (λ l. normal sig t ∷ l) (normals-same ts h.1)
  normals-set (s ∷ ts) (suc i) t h = λ j. h.0 j ∷ normals-set ts i t h.1 j

  module _ (f : ℕ) (free : IsFree sig f) where
    flattened-free : (ts : List Tree) → flattened sig f ts ≡ ts
    flattened-free [] = refl
    flattened-free (t ∷ ts) =
        ap (λ b. (if b then unwrapped f t else (t ∷ [])) ++ flattened sig f ts) free.assoc
        ∙ ap (λ l. t ∷ l) (flattened-free ts)

    in_order-free : (ts : List Tree) → in_order sig f ts ≡ ts
    in_order-free ts = ap (λ b. if b then sorted tree_cmp ts else ts) free.comm

    normal-set : (ts : List Tree) (i : ℕ) (t : Tree) → AllByRecursion (IsNormal sig) ts
        → normal sig (app f (trees (slice_set ts i t))) ≡ app f (trees (slice_set ts i (normal sig t)))
    normal-set ts i t h =
        let all = normals sig (trees (slice_set ts i t)) in
        collapsed-open sig f (in_order sig f (flattened sig f all)) (inr free.one)
        ∙ ap (λ l. app f (trees l)) (in_order-free (flattened sig f all) ∙ flattened-free all ∙ normals-set ts i t h)

-- ---- sizes

-- the nodes and the depth of a whole in which a subterm is replaced
module _ (w : Tree) (p q : List ℕ) (levels : ℕ) (t u v : Tree) (n : ℕ) (h : IsWhole w p q levels t n)
    (at : subterm t q ≡ Some v) (few : node_count u ≤ MAX_TERM_NODES) (shallow : depth u ≤ MAX_DEPTH) where
  whole-there : subterm w (p ++ q) ≡ Some v
  whole-there = h.there ∙ at

  pub subterm-few : node_count v ≤ n
  subterm-few = omega (arith, h.counted, nodes-subterm (p ++ q) w v whole-there)

  pub reach-few : levels + length q ≤ MAX_DEPTH
  reach-few =
      omega (arith, h.above, length-append p q, h.shallow, length-subterm (p ++ q) w v whole-there)

  module _ (nodes reach : ℕ) (all : nodes + node_count v ≡ n + node_count u)
      (deep : reach ≡ levels + (length q + depth u)) where
    pub whole-nodes : nodes ≡ node_count (replaced (p ++ q) u w)
    whole-nodes = omega (arith, all, h.counted, nodes-replaced u v (p ++ q) w whole-there)

    pub whole-low : reach ≤ depth (replaced (p ++ q) u w)
    whole-low = omega (arith, deep, h.above, length-append p q, deep-replaced u v (p ++ q) w whole-there)

    pub whole-high : depth (replaced (p ++ q) u w) ≤ max MAX_DEPTH reach
    whole-high =
        omega (arith, deep, h.above, length-append p q, shallow-replaced (p ++ q) u w, h.shallow)

module _ (sig : Sig) (rules : List Rule) where
  -- ---- what is around a term

  below-set : (ts : List Tree) (i j : ℕ) (t : Tree) (r : Redex) → i < length ts
      → ((k : ℕ) (u : Tree) → k < i → slice_get ts k ≡ Some u → first_redex sig rules u ≡ None)
      → first_redex sig rules t ≡ Some r
      → first_below sig rules j (trees (slice_set ts i t)) ≡ Some (at_argument (j + i) r)
  below-set [] i j t r h dead e = absurd (omega (arith, h))
  below-set (s ∷ ts) zero j t r h dead e =
      let same : j ≡ j + 0 = omega arith in
      ap (λ o. option_or (option_map (at_argument j) o) (first_below sig rules (suc j) (trees ts))) e
      ∙ ap (λ k. Some (at_argument k r)) same
  below-set (s ∷ ts) (suc i) j t r h dead e =
      let same : suc j + i ≡ j + suc i = omega arith in
      ap (λ o. option_or (option_map (at_argument j) o) (first_below sig rules (suc j) (trees (slice_set ts i t))))
      (dead 0 s (omega arith) refl)
      ∙ below-set ts i (suc j) t r (omega (arith, h)) (λ k u l g. dead (suc k) u (omega (arith, l)) g) e
      ∙ ap (λ k. Some (at_argument k r)) same

  -- nothing
  pub around-nothing : IsAround sig rules (λ t. t) []
  around-nothing = record {
    there = λ q t. refl;
    put = λ q u t. refl;
    normal = λ t. refl;
    first = λ t r n e. e;
  }

  -- an application on which no rule admits anything
  around-argument : (f : ℕ) (ts : List Tree) (i : ℕ) → IsQuiet sig rules f ts i → AllByRecursion (IsNormal sig) ts
      → IsAround sig rules (λ t. app f (trees (slice_set ts i t))) (i ∷ [])
  around-argument f ts i h all = record {
    there = λ q t. ap (option_and_then (λ u. subterm u q))
        (ap (λ l. slice_get l i) (tree_list-trees (slice_set ts i t)) ∙ get-set_there ts i t h.within);
    put = λ q u t. ap (app f) (replaced-set ts i q u t);
    normal = λ t. normal-set sig f h.free ts i t all;
    first = λ t r n e.
        ap (λ o. option_or (option_map (λ (m : Match). record { position = []; «match» = m }) o)
        (first_below sig rules 0 (trees (slice_set ts i t))))
        (h.none t (normal-set sig f h.free ts i t all ∙ ap (λ u. app f (trees (slice_set ts i u))) n))
        ∙ below-set ts i 0 t r h.within h.dead e
        ∙ ap (λ k. Some (at_argument k r)) (let same : 0 + i ≡ i = omega arith in same);
  }

  -- one around the other
  around-both : (C D : Tree → Tree) (p q : List ℕ) → IsAround sig rules C p → IsAround sig rules D q
      → IsAround sig rules (λ t. C (D t)) (p ++ q)
  around-both C D p q h k = record {
    there = λ r t. ap (subterm (C (D t))) (append_assoc p q r) ∙ h.there (q ++ r) (D t) ∙ k.there r t;
    put = λ r u t. ap (λ w. replaced w u (C (D t))) (append_assoc p q r) ∙ h.put (q ++ r) u (D t) ∙ ap C (k.put r u t);
    normal = λ t. h.normal (D t) ∙ ap C (k.normal t);
    first = λ t r n e. h.first (D t) (under q r) (k.normal t ∙ ap D n) (k.first t r n e)
        ∙ ap (λ (l : List ℕ). Some (let x : Redex = record r { position = l } in x))
        (sym (append_assoc p q r.position));
  }

  -- ---- the term

  module _ (C : Tree → Tree) (levels : ℕ) (t : Tree) (k : Mark) (n : ℕ) (h : IsWithin sig rules C levels t k n) where
    pub within-there : (u : Tree) → subterm (C u) h.position ≡ Some u
    within-there u = ap (subterm (C u)) (sym (append-nil h.position)) ∙ h.around.there [] u

    within-put : (u v : Tree) → replaced h.position u (C v) ≡ C u
    within-put u v = ap (λ p. replaced p u (C v)) (sym (append-nil h.position)) ∙ h.around.put [] u v

    -- it can be rewritten itself
    pub within-rewritable : IsRewritable sig t
    within-rewritable =
        let deep = deep-replaced t t h.position (C t) (within-there t) in
        let same : depth (replaced h.position t (C t)) ≡ depth (C t) = ap depth (within-put t t) in
        record {
          normal = IsNormal-subterm sig h.position (C t) t (within-there t) h.rewritable.normal;
          formed = well_formed-subterm sig h.position (C t) t (within-there t) h.rewritable.formed;
          few_nodes = omega (arith, nodes-subterm h.position (C t) t (within-there t), h.rewritable.few_nodes);
          shallow = omega (arith, deep, same, h.rewritable.shallow);
        }

    pub levels-few : levels ≤ MAX_DEPTH
    levels-few =
        omega (arith, h.above, length-subterm h.position (C t) t (within-there t), h.rewritable.shallow)

    -- the nodes of the whole with another one in it
    pub within-nodes : (u : Tree) → node_count (C u) + node_count t ≡ node_count (C t) + node_count u
    within-nodes u =
        omega (arith, nodes-replaced u t h.position (C t) (within-there t), ap node_count (within-put u t))

    nodes-kept : (x u : Tree) (o c : ℕ) → o ≡ node_count (C x)
        → ((rest : ℕ) → o ≡ node_count x + rest → c ≡ node_count u + rest) → c ≡ node_count (C u)
    nodes-kept x u o c e kept =
        let few = nodes-subterm h.position (C t) t (within-there t) in
        let rest = node_count (C t) - node_count t in
        omega (
          arith,
          few,
          within-nodes x,
          within-nodes u,
          kept rest (omega (arith, e, few, within-nodes x)),
        )

    -- another one is in its place
    pub within-again : (u : Tree) (l : Mark) (o : ℕ) → IsRewritable sig (C u) → IsKnown sig rules l u
        → o ≡ node_count (C u) → IsWithin sig rules C levels u l o
    within-again u l o r known nodes = record {
      position = h.position;
      above = h.above;
      around = h.around;
      rewritable = r;
      right = known;
      counted = nodes;
    }

    -- ---- an argument of it

    module _ (f : ℕ) (ts : List Tree) (i : ℕ) (a : Tree) (m : Mark) (up : ℕ) (is : t ≡ app f (trees ts))
        (quiet : IsQuiet sig rules f ts i) (at : slice_get ts i ≡ Some a) (above : up ≡ levels + 1)
        (known : IsKnown sig rules m a) where
      same-whole : C (app f (trees (slice_set ts i a))) ≡ C t
      same-whole = ap (λ l. C (app f (trees l))) (set-there ts i a at) ∙ ap C (sym is)

      pub argument-within : IsWithin sig rules (λ u. C (app f (trees (slice_set ts i u)))) up a m n
      argument-within =
          let normal : IsNormal sig (app f (trees ts)) = subst (IsNormal sig) is within-rewritable.normal in
          record {
            position = h.position ++ i ∷ [];
            above = omega (arith, h.above, above, length-append h.position (i ∷ []));
            around = around-both C (λ u. app f (trees (slice_set ts i u))) h.position (i ∷ []) h.around
                (around-argument f ts i quiet (arguments-normal sig f ts (arguments-pass sig f ts normal).0));
            rewritable = subst (IsRewritable sig) (sym same-whole) h.rewritable;
            right = known;
            counted = h.counted ∙ ap node_count (sym same-whole);
          }

      -- its steps are those of the whole
      pub argument-leads : (b : Tree) (l : Mark) (o k : ℕ) (us : List Tree) (e : Mark)
          → ((D : Tree → Tree) → IsWithin sig rules D up a m n
          → IsWithin sig rules D up b l o × Leads sig rules k (D a) (D b))
          → us ≡ slice_set ts i b → (IsKnown sig rules l b → IsKnown sig rules e (app f (trees us)))
          → IsWithin sig rules C levels (app f (trees us)) e o × Leads sig rules k (C t) (C (app f (trees us)))
      argument-leads b l o k us e run same right =
          let both = run (λ u. C (app f (trees (slice_set ts i u)))) argument-within in
          let whole : C (app f (trees (slice_set ts i b))) ≡ C (app f (trees us)) =
          ap (λ l. C (app f (trees l))) (sym same) in (
            within-again (app f (trees us)) e o (subst (IsRewritable sig) whole both.0.rewritable) (right both.0.right)
                (both.0.counted ∙ ap node_count whole),
            λ left m. ap (rewriting_from sig rules (k + left) m) (sym same-whole) ∙ both.1 left m
                ∙ ap (rewriting_from sig rules left (k + m)) whole,
          )

    -- ---- a step of it

    module _ (signature : IsSignature sig) (sound : AreRewriteRules sig rules) (r : Redex)
        (first : first_redex sig rules t ≡ Some r) (x : Template) (has : r.match.rule.template ≡ Some x)
        (spliced : Tree) (instance : IsInstance x r.match.subst spliced) (fits : excess (spliced ∷ []) ≡ None)
        (small : excess (replaced (h.position ++ r.position) (normal sig spliced) (C t) ∷ []) ≡ None)
        (u : Tree) (result : u ≡ normal sig (replaced r.position (normal sig spliced) t)) where
      whole-first : first_redex sig rules (C t) ≡ Some (under h.position r)
      whole-first = h.around.first t r within-rewritable.normal first

      whole-step : step_at sig (C t) (under h.position r) ≡ Some (stepped (C u))
      whole-step =
          step-made sig (C t) (under h.position r) x spliced has instance (C u) fits small
          (ap C result ∙ sym (h.around.normal (replaced r.position (normal sig spliced) t))
          ∙ ap (normal sig) (sym (h.around.put r.position (normal sig spliced) t)))

      -- it leads to the whole with the new term in it, where what is known of that is right and its nodes are counted
      pub step-within : (l : Mark) (o c : ℕ) → IsKnown sig rules l u
          → o ≡ node_count (replaced (h.position ++ r.position) (normal sig spliced) (C t))
          → ((rest : ℕ) → o ≡ node_count (replaced r.position (normal sig spliced) t) + rest → c ≡ node_count u + rest)
          → IsWithin sig rules C levels u l c × Leads sig rules 1 (C t) (C u)
      step-within l o c known all kept =
          let x = replaced r.position (normal sig spliced) t in
          let same : o ≡ node_count (C x) = all ∙ ap node_count (h.around.put r.position (normal sig spliced) t) in (
            within-again u l c
                (IsRewritable-first_redex sig rules signature sound (C t) h.rewritable (under h.position r) (C u)
                whole-first whole-step)
                known (nodes-kept x u o c same kept),
            λ left m.
                let one : 1 + left ≡ suc left = omega arith in
                let sum : suc m ≡ 1 + m = omega arith in
                ap (λ k. rewriting_from sig rules k m (C t)) one
                ∙ ap (after_step sig rules left m (C t))
                (ap (option_and_then (step_at sig (C t))) whole-first ∙ whole-step)
                ∙ ap (λ k. rewriting_from sig rules left k (C u)) sum,
          )

  -- no step
  pub leads-none : (t : Tree) → Leads sig rules 0 t t
  leads-none t = λ left n.
      let none : 0 + left ≡ left = omega arith in
      let same : n ≡ 0 + n = omega arith in
      ap (λ k. rewriting_from sig rules k n t) none ∙ ap (λ k. rewriting_from sig rules left k t) same

  -- steps after steps
  pub leads-on : (k l : ℕ) (t u v : Tree) → Leads sig rules k t u → Leads sig rules l u v → Leads sig rules (k + l) t v
  leads-on k l t u v h g = λ left m.
      let all : (k + l) + left ≡ k + (l + left) = omega arith in
      let sum : l + (k + m) ≡ (k + l) + m = omega arith in
      ap (λ o. rewriting_from sig rules o m t) all ∙ h (l + left) m ∙ g left (k + m)
      ∙ ap (λ o. rewriting_from sig rules left o v) sum

  -- an application by its operation and its arguments
  pub quiet-at : (t : Tree) (i : ℕ) → IsQuietAt sig rules t i → (g : ℕ) (us : List Tree) → t ≡ app g (trees us)
      → IsQuiet sig rules g us i
  quiet-at t i (f, ts, is, h) g us e =
      let same : app f (trees ts) ≡ app g (trees us) = sym is ∙ e in
      let head : f ≡ g = cc in
      let all : trees ts ≡ trees us = cc in
      let list : ts ≡ us = sym (tree_list-trees ts) ∙ ap tree_list all ∙ tree_list-trees us in
      subst (λ l. IsQuiet sig rules g l i) list (subst (λ k. IsQuiet sig rules k ts i) head h)
