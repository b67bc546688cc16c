-- The next step of a term where a rule cancels.
use Rattle.std.proofs.Common.{◌≡◌, ◌∙◌, ap, sym, refl, subst, ℕ, zero, suc, ◌+◌, ◌<◌, ◌≤◌, true, false, ◌&&◌, not}
use Rattle.std.proofs.Common.{List, [], ◌∷◌, ◌++◌, length, arith, append-nil}
use Rattle.std.specs.Prelude.{Option, Some, None, slice_get, option_map, option_and_then, if◌then◌else◌}
use Rattle.std.specs.Option.{option_or}
use Rattle.std.specs.declared.cmp.Ordering.TheVariants.{Less, Equal, Greater}
use Rattle.std.proofs.lemmas.Bool.{and_parts, not-true}
use Rattle.std.specs.Borrow.{Bor}
use Rattle.std.specs.List.{remove, AllByRecursion}
use Rattle.std.proofs.Math.Bool.{and-false}
use Rattle.mp_term.specs.declared.name.Name.{Name}
use Rattle.mp_term.specs.Tree.{Tree, Trees, symbol, app, trees}
use Rattle.mp_term.specs.Order.{tree_cmp}
use Rattle.mp_term.specs.Size.{node_count, all_nodes, depth, greatest_depth}
use Rattle.mp_term.specs.Excess.{excess}
use Rattle.mp_term.specs.Signature.{Sig, IsSignature, is_assoc, is_comm}
use Rattle.mp_term.specs.Normal.{IsNormal, normal, in_order, collapsed}
use Rattle.mp_term.specs.NormalTest.{ascending, passes, all_pass, has_head}
use Rattle.mp_term.proofs.NormalSize.{node_count-normal, depth-normal, normal-normal}
use Rattle.mp_term.specs.OrderLaws.{tree_cmp_total, tree_same}
use Rattle.mp_term.proofs.Sorting.{tally, hit_itself, Ascends}
use Rattle.mp_pattern.specs.Admission.{Rule}
use Rattle.mp_pattern.specs.Instance.{IsInstance, all_instances}
use Rattle.mp_pattern.specs.Step.{stepped}
use Rattle.mp_pattern.specs.TemplateTree.{app_template, variable_template, templates}
use Rattle.mp_pattern.specs.Holds.{listed}
use Rattle.mp_pattern.specs.PatternTree.{plus, star, app_pattern, wild_pattern, patterns}
use Rattle.mp_pattern.specs.Value.{Subst, bag, value_of}
use Rattle.mp_theory.specs.OneList.{one_list}
use Rattle.mp_rewrite.specs.declared.taken.Places.{Places}
use Rattle.mp_rewrite.specs.declared.cancellation.Taken.TheVariants.{Symbol, Pair, Under}
use Rattle.mp_rewrite.specs.declared.cancellation.Cancellation.{Cancellation}
use Rattle.mp_rewrite.specs.declared.cancelled.Cancelled.{Cancelled}
use Rattle.mp_rewrite.specs.Computed.{Match, Redex, first_match, first_redex, step_at, next_step}
use Rattle.mp_rewrite.specs.Rewritable.{AreRewriteRules, IsRewritable}
use Rattle.mp_rewrite.specs.Cancellation.{taking, taking_rest, taken_terms, putting, put_terms, left_by}
use Rattle.mp_rewrite.specs.Cancellation.{after_cancellation}
use Rattle.mp_rewrite.specs.Cancellation.{AreApart, AreFirst, NoneLess, TakesAlone, IsCancelled, IsWithin, Cancels}
use Rattle.mp_rewrite.proofs.FirstRedexes.{root-Some}
use Rattle.mp_rewrite.proofs.LeastItems.{contribution-alone}
use Rattle.mp_rewrite.proofs.PutBack.{arguments-pass, arguments-normal, ascends-from, ascends-remove}
use Rattle.mp_rewrite.proofs.PutBack.{kept, passes-here, in_order-ascending}
use Rattle.mp_term.proofs.NormalTestLaws.{ascending-from}
use Rattle.mp_rewrite.proofs.Steps.{IsRewritable-first_redex}
use Rattle.mp_rewrite.proofs.StepsInPlace.{excess-none, step-made}
use Rattle.mp_rewrite.proofs.CancellationItems.{HasRest, IsForRest, star-rest, plus-rest, pair-first, under-first}
use Rattle.mp_rewrite.proofs.CancellationItems.{symbol-first}
use Rattle.mp_rewrite.proofs.CancellationItems.{app-trees, bound, bound-y, rest_bound, rest_bound-y}
use Rattle.mp_rewrite.proofs.CancellationSteps.{depth-remove, hit-apart}

-- ---- the substitution

-- the first substitution of the rule's one-list, which gives the rest its variable
pub record IsBound (sig : Sig) (r : Rule) (t : Tree) (y : List ℕ) (rest : List Tree) : Type 0 where
  pub s : Subst
  pub first : slice_get (one_list sig r t) 0 ≡ Some s
  pub value : value_of s y ≡ Some (bag rest)

-- what holds of each item of a list holds without one of them
all-remove : {X : Type 0} (P : X → Type 0) (xs : List X) (i : ℕ) → AllByRecursion P xs → AllByRecursion P (remove xs i)
all-remove P [] zero h = tt
all-remove P [] (suc i) h = tt
all-remove P (x ∷ xs) zero h = h.1
all-remove P (x ∷ xs) (suc i) h = (h.0, all-remove P xs i h.1)

pub all-left_by : {X : Type 0} (P : X → Type 0) (xs : List X) (p : Places) → AllByRecursion P xs
    → AllByRecursion P (left_by p xs)
all-left_by P xs p h = elim p.second as (λ o. AllByRecursion P
    (elim o [ None ↦ remove xs p.first | Some k ↦ remove (remove xs k) p.first ])) [
      | None ↦ all-remove P xs p.first h
      | Some k ↦ all-remove P (remove xs k) p.first (all-remove P xs k h)
    ]

pub ascends-left_by : (ts : List Tree) (p : Places) → Ascends tree_cmp ts → Ascends tree_cmp (left_by p ts)
ascends-left_by ts p h = elim p.second as (λ o. Ascends tree_cmp
    (elim o [ None ↦ remove ts p.first | Some k ↦ remove (remove ts k) p.first ])) [
      | None ↦ ascends-remove ts p.first h
      | Some k ↦ ascends-remove (remove ts k) p.first (ascends-remove ts k h)
    ]

stays-alone : (sig : Sig) (f : ℕ) (t : Tree) (ts : List Tree) → all_pass sig f (trees (t ∷ ts)) ≡ true
    → (is_assoc sig f && has_head f t) ≡ false
stays-alone sig f t ts h =
    let p = and_parts (passes sig t && not (is_assoc sig f && has_head f t)) (all_pass sig f (trees ts)) h in
    let q = and_parts (passes sig t) (not (is_assoc sig f && has_head f t)) p.0 in
    not-true (is_assoc sig f && has_head f t) q.1

-- an argument that stands there isn't opened, and is normal
unopened : (sig : Sig) (f : ℕ) (ts : List Tree) (b : Tree) → all_pass sig f (trees ts) ≡ true
    → 1 ≤ tally tree_cmp b ts → (IsNormal sig b) × ((is_assoc sig f && has_head f b) ≡ false)
unopened sig f [] b h n = absurd (omega (arith, n))
unopened sig f (t ∷ ts) b h n =
    let p = passes-here sig f t ts h in
    elim (tree_cmp b t) as (λ o. tree_cmp b t ≡ o
    → (IsNormal sig b) × ((is_assoc sig f && has_head f b) ≡ false)) [
      | Less ↦ λ e. unopened sig f ts b p.2 (omega (arith, n, hit-apart b t (λ q. less-equal (sym e ∙ q))))
      | Equal ↦ λ e. let s : t ≡ b = sym (tree_same b t e) in (
        subst (IsNormal sig) s p.0,
        subst (λ u. (is_assoc sig f && has_head f u) ≡ false) s (stays-alone sig f t ts h),
      )
      | Greater ↦ λ e. unopened sig f ts b p.2 (omega (arith, n, hit-apart b t (λ q. greater-equal (sym e ∙ q))))
    ] refl
  where
    less-equal : Less ≡ Equal → ⊥
    less-equal e = cc

    greater-equal : Greater ≡ Equal → ⊥
    greater-equal e = cc

-- ---- what is left

all_pass-remove : (sig : Sig) (f : ℕ) (ts : List Tree) (i : ℕ) → all_pass sig f (trees ts) ≡ true
    → all_pass sig f (trees (remove ts i)) ≡ true
all_pass-remove sig f [] zero h = refl
all_pass-remove sig f [] (suc i) h = refl
all_pass-remove sig f (t ∷ ts) zero h = (and_parts _ _ h).1
all_pass-remove sig f (t ∷ ts) (suc i) h =
    let b = and_parts _ _ h in
    ap (λ c. c && all_pass sig f (trees (remove ts i))) b.0 ∙ all_pass-remove sig f ts i b.1

left-passes : (sig : Sig) (f : ℕ) (ts : List Tree) (p : Places) → all_pass sig f (trees ts) ≡ true
    → all_pass sig f (trees (left_by p ts)) ≡ true
left-passes sig f ts p h = elim p.second as (λ o. all_pass sig f
    (trees (elim o [ None ↦ remove ts p.first | Some k ↦ remove (remove ts k) p.first ])) ≡ true) [
      | None ↦ all_pass-remove sig f ts p.first h
      | Some k ↦ all_pass-remove sig f (remove ts k) p.first (all_pass-remove sig f ts k h)
    ]

nodes-one : (ts : List Tree) (i : ℕ) → i < length ts → all_nodes (remove ts i) + 1 ≤ all_nodes ts
nodes-one [] i l = absurd (omega (arith, l))
nodes-one (symbol n ∷ ts) zero l = omega arith
nodes-one (app f us ∷ ts) zero l = omega arith
nodes-one (t ∷ ts) (suc i) l = omega (arith, nodes-one ts i (omega (arith, l)))

length-shorter : (ts : List Tree) (i k : ℕ) → i < k → k < length ts → i < length (remove ts k)
length-shorter [] i k l m = absurd (omega (arith, m))
length-shorter (t ∷ ts) i zero l m = absurd (omega (arith, l))
length-shorter (t ∷ ts) zero (suc k) l m = omega arith
length-shorter (t ∷ ts) (suc i) (suc k) l m = omega (arith, length-shorter ts i k (omega (arith, l)) (omega (arith, m)))

nodes-by : (ts : List Tree) (i : ℕ) (o : Option ℕ) → IsWithin (length ts) (record { first = i; second = o })
    → all_nodes (left_by (record { first = i; second = o }) ts) + 1 ≤ all_nodes ts
nodes-by ts i None w = nodes-one ts i w
nodes-by ts i (Some k) w =
    omega (arith, nodes-one ts k w.1, nodes-one (remove ts k) i (length-shorter ts i k w.0 w.1))

nodes-left_by : (ts : List Tree) (p : Places) → IsWithin (length ts) p → all_nodes (left_by p ts) + 1 ≤ all_nodes ts
nodes-left_by ts p h = nodes-by ts p.first p.second h

nodes-put : (o : Option (Bor Name)) (ts : List Tree) → all_nodes (put_terms o ++ ts) ≤ all_nodes ts + 1
nodes-put None ts = omega arith
nodes-put (Some n) ts = omega arith

depth-left_by : (ts : List Tree) (p : Places) → greatest_depth (trees (left_by p ts)) ≤ greatest_depth (trees ts)
depth-left_by ts p = elim p.second as (λ o. greatest_depth
    (trees (elim o [ None ↦ remove ts p.first | Some k ↦ remove (remove ts k) p.first ])) ≤ greatest_depth (trees ts)) [
      | None ↦ depth-remove ts p.first
      | Some k ↦ omega (arith, depth-remove ts k, depth-remove (remove ts k) p.first)
    ]

depth-put : (o : Option (Bor Name)) (ts : List Tree)
    → greatest_depth (trees (put_terms o ++ ts)) ≤ greatest_depth (trees ts)
depth-put None ts = omega arith
depth-put (Some n) ts = omega arith

module _ (sig : Sig) (r : Rule) (d : Cancellation) (ts : List Tree) (p : Places)
    (whole_normal : IsNormal sig (app d.op.0 (trees ts))) (comm : is_comm sig d.op.0 ≡ true) (h : Cancels r d)
    (first : AreFirst sig d ts p) where
  pass : (all_pass sig d.op.0 (trees ts) ≡ true) × (is_comm sig d.op.0 ≡ true → ascending ts ≡ true)
  pass = arguments-pass sig d.op.0 ts whole_normal

  for-rest : IsForRest sig d.op.0 (left_by p ts) (taking_rest d.leaves)
  for-rest = elim d.leaves as (λ b. (b ≡ true → 1 ≤ length (left_by p ts))
      → IsForRest sig d.op.0 (left_by p ts) (if b then plus else star)) [
        | true ↦ λ l. plus-rest sig d.op.0 (left_by p ts) comm (λ e. omega (arith, l refl, ap length e))
        | false ↦ λ l. star-rest sig d.op.0 (left_by p ts) comm
      ] first.left

  has-rest : HasRest sig d.op.0 ts (left_by p ts) (taking_rest d.leaves)
  has-rest = record {
    comm = comm;
    normal = whole_normal;
    up = ascends-from ts (pass.1 comm);
    rest_up = ascends-left_by ts p (ascends-from ts (pass.1 comm));
    rest_normal = all-left_by (IsNormal sig) ts p (arguments-normal sig d.op.0 ts pass.0);
    for_rest = for-rest;
  }

  pub cancellation-bound : IsBound sig r (app d.op.0 (trees ts)) h.y (left_by p ts)
  cancellation-bound = elim d.taken as (λ k. AreApart k h.x h.y
      → (r.pattern ≡ app_pattern d.op.0
      (patterns (taking k h.x ++ wild_pattern (taking_rest d.leaves) (Some h.y) ∷ [])))
      → TakesAlone sig d ts k
      → ((z : Tree) → tally tree_cmp z ts ≡ tally tree_cmp z (taken_terms k first.b) + tally tree_cmp z (left_by p ts))
      → NoneLess sig d ts k first.b
      → IsBound sig r (app d.op.0 (trees ts)) h.y (left_by p ts)) [
        | Symbol n ↦ λ a e o w l. record {
          s = rest_bound sig d.op.0 ts (left_by p ts) (taking_rest d.leaves) has-rest h.y n.now;
          first = symbol-first sig d.op.0 ts (left_by p ts) (taking_rest d.leaves) has-rest h.y n.now w r e h.condition;
          value = rest_bound-y sig d.op.0 ts (left_by p ts) (taking_rest d.leaves) has-rest h.y n.now;
        }
        | Pair ↦ λ a e o w l.
            let b = first.b in
            let there = unopened sig d.op.0 ts b pass.0
            (omega (arith, w b, hit_itself tree_cmp tree_cmp_total b)) in
            let alone = contribution-alone sig d.op.0 b there.1 in
            record {
              s = bound sig d.op.0 ts (left_by p ts) (taking_rest d.leaves) has-rest h.x h.y b a there.0 alone;
              first = pair-first sig d.op.0 ts (left_by p ts) (taking_rest d.leaves) has-rest h.x h.y b a there.0 alone
                  w l r e h.condition;
              value = bound-y sig d.op.0 ts (left_by p ts) (taking_rest d.leaves) has-rest h.x h.y b a there.0 alone;
            }
        | Under k ↦ λ a e o w l.
            let b = first.b in
            let there = unopened sig d.op.0 ts b pass.0
            (omega (arith, w b, hit_itself tree_cmp tree_cmp_total b)) in
            let alone = contribution-alone sig d.op.0 b there.1 in
            record {
              s = bound sig d.op.0 ts (left_by p ts) (taking_rest d.leaves) has-rest h.x h.y b a there.0 alone;
              first = under-first sig d.op.0 ts (left_by p ts) (taking_rest d.leaves) has-rest h.x h.y b a there.0 alone
                  k.0 o w l r e h.condition;
              value = bound-y sig d.op.0 ts (left_by p ts) (taking_rest d.leaves) has-rest h.x h.y b a there.0 alone;
            }
      ] h.apart h.pattern first.alone first.whole first.none_less

  -- the instance of the template
  abbrev pub cancelled_instance : Tree
  cancelled_instance = app d.op.0 (trees (put_terms d.put ++ left_by p ts))

  put-instances : (s : Subst) (o : Option (Bor Name)) → value_of s h.y ≡ Some (bag (left_by p ts))
      → all_instances s (templates (putting o ++ variable_template h.y ∷ [])) ≡ put_terms o ++ left_by p ts
  put-instances s None e = ap (λ v. listed v ++ []) e ∙ append-nil (left_by p ts)
  put-instances s (Some n) e = ap (λ v. symbol n.now ∷ (listed v ++ [])) e
      ∙ ap (λ l. symbol n.now ∷ l) (append-nil (left_by p ts))

  pub cancellation-instance : (s : Subst) → value_of s h.y ≡ Some (bag (left_by p ts))
      → IsInstance (app_template d.op.0 (templates (putting d.put ++ variable_template h.y ∷ []))) s cancelled_instance
  cancellation-instance s e = ap (λ l. app d.op.0 (trees l) ∷ []) (put-instances s d.put e)

  -- its normal form
  put-passes : (o : Option (Bor Name)) → all_pass sig d.op.0 (trees (put_terms o ++ left_by p ts)) ≡ true
  put-passes None = left-passes sig d.op.0 ts p pass.0
  put-passes (Some n) = ap (λ b. (true && not b) && all_pass sig d.op.0 (trees (left_by p ts)))
      (and-false (is_assoc sig d.op.0)) ∙ left-passes sig d.op.0 ts p pass.0

  pub normal-cancelled : normal sig cancelled_instance
      ≡ collapsed sig d.op.0 (in_order sig d.op.0 (put_terms d.put ++ left_by p ts))
  normal-cancelled = ap (λ l. collapsed sig d.op.0 (in_order sig d.op.0 l))
      (kept sig d.op.0 (put_terms d.put ++ left_by p ts) (put-passes d.put))

  -- it is no larger and no deeper than the term
  pub cancelled-few : node_count cancelled_instance ≤ node_count (app d.op.0 (trees ts))
  cancelled-few = omega (arith, nodes-left_by ts p first.within, nodes-put d.put (left_by p ts))

  pub cancelled-shallow : depth cancelled_instance ≤ depth (app d.op.0 (trees ts))
  cancelled-shallow = omega (arith, depth-left_by ts p, depth-put d.put (left_by p ts))

-- ---- the step

module _ (sig : Sig) (rules : List Rule) (t : Tree) (rewritable : IsRewritable sig t) (r : Rule) (later : List Rule)
    (d : Cancelled) (h : IsCancelled sig r t d)
    (least : first_match sig (r ∷ later) t ≡ first_match sig rules t) where
  pub at-root : IsBound sig r (app d.cancellation.op.0 (trees h.ts)) h.cancels.y (left_by d.places h.ts)
  at-root = cancellation-bound sig r d.cancellation h.ts d.places (subst (IsNormal sig) h.is rewritable.normal) h.comm
      h.cancels h.first

  abbrev cancelled_match : Match
  cancelled_match = record { rule = r; subst = at-root.s }

  -- the redex of the cancellation
  abbrev pub cancelled_redex : Redex
  cancelled_redex = record { position = []; «match» = cancelled_match }

  matched : first_match sig rules t ≡ Some cancelled_match
  matched =
      let here : slice_get (one_list sig r t) 0 ≡ Some at-root.s =
      ap (λ u. slice_get (one_list sig r u) 0) h.is ∙ at-root.first in
      sym least
      ∙ ap (λ o. option_or (option_map (λ s. record { rule = r; subst = s }) o) (first_match sig later t)) here

  pub first_redex-cancelled : first_redex sig rules t ≡ Some cancelled_redex
  first_redex-cancelled = root-Some sig rules t cancelled_match matched

  abbrev made_instance : Tree
  made_instance = app d.cancellation.op.0 (trees (after_cancellation d h.ts))

  instance-few : node_count made_instance ≤ node_count t
  instance-few = omega (
    arith,
    cancelled-few sig r d.cancellation h.ts d.places (subst (IsNormal sig) h.is rewritable.normal) h.comm h.cancels
        h.first,
    ap node_count h.is,
  )

  instance-shallow : depth made_instance ≤ depth t
  instance-shallow = omega (
    arith,
    cancelled-shallow sig r d.cancellation h.ts d.places (subst (IsNormal sig) h.is rewritable.normal) h.comm h.cancels
        h.first,
    ap depth h.is,
  )

  fits : (u : Tree) → node_count u ≤ node_count t → depth u ≤ depth t → excess (u ∷ []) ≡ None
  fits u n k = sym (excess-none u (node_count u) (depth u) refl (omega (arith, n, rewritable.few_nodes))
      (omega (arith, k, rewritable.shallow)) (omega arith))

  -- the step at it
  pub step_at-cancelled : (u : Tree)
      → u ≡ collapsed sig d.cancellation.op.0 (in_order sig d.cancellation.op.0 (after_cancellation d h.ts))
      → step_at sig t cancelled_redex ≡ Some (stepped u)
  step_at-cancelled u e =
      let x = app_template d.cancellation.op.0
      (templates (putting d.cancellation.put ++ variable_template h.cancels.y ∷ [])) in
      let instance = cancellation-instance sig r d.cancellation h.ts d.places
      (subst (IsNormal sig) h.is rewritable.normal) h.comm h.cancels h.first at-root.s at-root.value in
      let norm = normal-cancelled sig r d.cancellation h.ts d.places (subst (IsNormal sig) h.is rewritable.normal)
      h.comm h.cancels h.first in
      step-made sig t cancelled_redex x made_instance h.cancels.template instance u
      (fits made_instance instance-few instance-shallow)
      (fits (normal sig made_instance)
      (omega (arith, node_count-normal sig made_instance, instance-few))
      (omega (arith, depth-normal sig made_instance, instance-shallow)))
      (e ∙ sym norm ∙ sym (normal-normal sig made_instance))

  pub next_step-cancelled : (u : Tree)
      → u ≡ collapsed sig d.cancellation.op.0 (in_order sig d.cancellation.op.0 (after_cancellation d h.ts))
      → next_step sig rules t ≡ Some (stepped u)
  next_step-cancelled u e = ap (option_and_then (step_at sig t)) first_redex-cancelled ∙ step_at-cancelled u e

-- ---- the term that is made

app-heads : (f g : ℕ) (ts us : Trees) → app f ts ≡ app g us → f ≡ g
app-heads f g ts us e = cc

pub same-terms : (t : Tree) (f g : ℕ) (ts us : List Tree) → t ≡ app f (trees ts) → t ≡ app g (trees us) → ts ≡ us
same-terms t f g ts us e h = app-trees f g ts us (sym e ∙ h)

pub within-terms : (sig : Sig) (r : Rule) (t : Tree) (d : Cancelled) (h : IsCancelled sig r t d) (f : ℕ)
    (ts : List Tree)
    → t ≡ app f (trees ts) → IsWithin (length ts) d.places
within-terms sig r t d h f ts e =
    subst (λ l. IsWithin (length l) d.places) (same-terms t d.cancellation.op.0 f h.ts ts h.is e) h.first.within

ascending-left_by : (ts : List Tree) (p : Places) → ascending ts ≡ true → ascending (left_by p ts) ≡ true
ascending-left_by ts p h = ascending-from (left_by p ts) (ascends-left_by ts p (ascends-from ts h))

pub comm-op : (sig : Sig) (r : Rule) (t : Tree) (d : Cancelled) (h : IsCancelled sig r t d) (f : ℕ) (ts : List Tree)
    → t ≡ app f (trees ts) → is_comm sig f ≡ true
comm-op sig r t d h f ts e =
    subst (λ k. is_comm sig k ≡ true) (app-heads d.cancellation.op.0 f (trees h.ts) (trees ts) (sym h.is ∙ e)) h.comm

pub left-ascends : (sig : Sig) (r : Rule) (t : Tree) (d : Cancelled) (h : IsCancelled sig r t d) (f : ℕ)
    (ts left : List Tree)
    → IsNormal sig t → t ≡ app f (trees ts) → left ≡ left_by d.places ts → ascending left ≡ true
left-ascends sig r t d h f ts left n e l =
    subst (λ k. ascending k ≡ true) (sym l)
    (ascending-left_by ts d.places
    ((arguments-pass sig f ts (subst (IsNormal sig) e n)).1 (comm-op sig r t d h f ts e)))

-- where nothing is put in
pub made-none : (sig : Sig) (r : Rule) (t : Tree) (d : Cancelled) (h : IsCancelled sig r t d) (f : ℕ)
    (us left : List Tree)
    (u : Tree) → IsNormal sig t → t ≡ app f (trees us) → left ≡ left_by d.places us → d.cancellation.put ≡ None
    → u ≡ collapsed sig f left → (ts : List Tree) → t ≡ app d.cancellation.op.0 (trees ts)
    → u ≡ collapsed sig d.cancellation.op.0 (in_order sig d.cancellation.op.0 (after_cancellation d ts))
made-none sig r t d h f us left u n e l p m ts k =
    let head : f ≡ d.cancellation.op.0 = app-heads f d.cancellation.op.0 (trees us) (trees ts) (sym e ∙ k) in
    let same : us ≡ ts = same-terms t f d.cancellation.op.0 us ts e k in
    m ∙ ap (collapsed sig f) (sym (in_order-ascending sig f left (λ q. left-ascends sig r t d h f us left n e l)))
    ∙ ap (λ v. collapsed sig f (in_order sig f v)) (l ∙ ap (left_by d.places) same)
    ∙ ap (λ v. collapsed sig v (in_order sig v (left_by d.places ts))) head
    ∙ ap (λ o. collapsed sig d.cancellation.op.0 (in_order sig d.cancellation.op.0
    (put_terms o ++ left_by d.places ts))) (sym p)

-- where a symbol is
pub made-some : (sig : Sig) (r : Rule) (t : Tree) (d : Cancelled) (h : IsCancelled sig r t d) (f : ℕ)
    (us left all : List Tree) (u : Tree) (b : Bor Name) → t ≡ app f (trees us) → left ≡ left_by d.places us
    → d.cancellation.put ≡ Some b
    → all ≡ in_order sig f (symbol b.now ∷ left) → u ≡ collapsed sig f all → (ts : List Tree)
    → t ≡ app d.cancellation.op.0 (trees ts)
    → u ≡ collapsed sig d.cancellation.op.0 (in_order sig d.cancellation.op.0 (after_cancellation d ts))
made-some sig r t d h f us left all u b e l p a m ts k =
    let head : f ≡ d.cancellation.op.0 = app-heads f d.cancellation.op.0 (trees us) (trees ts) (sym e ∙ k) in
    let same : us ≡ ts = same-terms t f d.cancellation.op.0 us ts e k in
    m ∙ ap (collapsed sig f) a
    ∙ ap (λ v. collapsed sig f (in_order sig f (symbol b.now ∷ v))) (l ∙ ap (left_by d.places) same)
    ∙ ap (λ v. collapsed sig v (in_order sig v (symbol b.now ∷ left_by d.places ts))) head
    ∙ ap (λ o. collapsed sig d.cancellation.op.0 (in_order sig d.cancellation.op.0
    (put_terms o ++ left_by d.places ts))) (sym p)

-- ---- the turn

-- a rule that comes first, with the cancellation that it makes
abbrev pub IsFirstCancelled : Sig → List Rule → Tree → Cancelled → Type 0
IsFirstCancelled sig rules t d = (r : Rule) × (later : List Rule) × IsCancelled sig r t d
    × (first_match sig (r ∷ later) t ≡ first_match sig rules t)

module _ (sig : Sig) (rules : List Rule) (t : Tree) (rewritable : IsRewritable sig t) (d : Cancelled)
    (h : IsFirstCancelled sig rules t d) (u : Tree)
    (made : (ts : List Tree) → t ≡ app d.cancellation.op.0 (trees ts)
    → u ≡ collapsed sig d.cancellation.op.0 (in_order sig d.cancellation.op.0 (after_cancellation d ts))) where
  pub cancelled-turn : next_step sig rules t ≡ Some (stepped u)
  cancelled-turn = next_step-cancelled sig rules t rewritable h.0 h.1 d h.2 h.3 u (made h.2.ts h.2.is)

  pub cancelled-rewritable : IsSignature sig → AreRewriteRules sig rules → IsRewritable sig u
  cancelled-rewritable signature sound =
      IsRewritable-first_redex sig rules signature sound t rewritable
      (cancelled_redex sig rules t rewritable h.0 h.1 d h.2 h.3) u
      (first_redex-cancelled sig rules t rewritable h.0 h.1 d h.2 h.3)
      (step_at-cancelled sig rules t rewritable h.0 h.1 d h.2 h.3 u (made h.2.ts h.2.is))
