-- Values that are merged in turn: a provisional value is refined by a final one.
use Rattle.std.proofs.Common.{◌≡◌, ℕ, Bool, true, false, List, [], ◌∷◌, refl, ap, sym, ◌∙◌, subst, inl, inr, ◌⊎◌}
use Rattle.std.specs.Prelude.{Some, None, if◌then◌else◌, Option, option_map}
use Rattle.std.specs.Ordering.{is_eq}
use Rattle.std.specs.Cmp.{Equal-is}
use Rattle.std.specs.FinMap.{slice_cmp-IsAntisymmetric}
use Rattle.std.specs.Cmp.Lexicographic.{slice_cmp}
use Rattle.std.specs.List.{AllByRecursion}
use Rattle.std.proofs.lemmas.Cmp.{tied_itself, lists_total}
use Rattle.std.proofs.lemmas.Option.{none-some}
use Rattle.mp_term.specs.Tree.{Tree}
use Rattle.mp_term.specs.Order.{tree_cmp}
use Rattle.mp_term.specs.OrderLaws.{tree_cmp_total, tree_same}
use Rattle.mp_term.specs.Sorting.{sorted}
use Rattle.mp_term.proofs.Sorting.{sorted_again}
use Rattle.mp_pattern.specs.Value.{Value, one, seq, bag, Subst, value_of, same_name, same_terms, merge}
use Rattle.mp_pattern.proofs.NameLaws.{same_name-is}
use Rattle.mp_theory.specs.Solve.{bind}

-- the final value v agrees with the provisional value w: a multiset may turn out to be a tuple
abbrev pub Refines : Value → Value → Type 0
Refines (one t) (one u) = t ≡ u
Refines (seq ts) (seq us) = ts ≡ us
Refines (bag ts) (bag us) = ts ≡ us
Refines (bag ts) (seq us) = ts ≡ sorted tree_cmp us
Refines _ _ = ⊥

-- a value that agrees with one term is that term
pub refined_one : (t : Tree) (v : Value) → Refines (one t) v → v ≡ one t
refined_one t (one u) r = ap one (sym r)
refined_one t (seq m) r = absurd r
refined_one t (bag m) r = absurd r

-- a multiset ascends
abbrev pub IsArranged : Value → Type 0
IsArranged (bag ts) = sorted tree_cmp ts ≡ ts
IsArranged _ = Unit {0}

-- equality tests are sound and complete
pub same_terms-sound : (ts us : List Tree) → same_terms ts us ≡ true → ts ≡ us
same_terms-sound ts us e = slice_cmp-IsAntisymmetric tree_same ts us ((Equal-is (slice_cmp tree_cmp ts us)).0 e)

pub same_terms-complete : (ts us : List Tree) → ts ≡ us → same_terms ts us ≡ true
same_terms-complete ts us e = rw (← e, tied_itself (lists_total tree_cmp_total) ts) refl

-- sorting twice is sorting once
pub sorted-sorted : (ts : List Tree) → sorted tree_cmp (sorted tree_cmp ts) ≡ sorted tree_cmp ts
sorted-sorted ts = sorted_again tree_cmp tree_cmp_total tree_same ts

-- two values that a final one agrees with have a merge, which it agrees with
pub record Merged (w x v : Value) : Type 0 where
  pub value : Value
  pub is : merge w x ≡ Some value
  pub refines : Refines value v

-- values that agree with one final value have a merge
pub merge-complete : (w x v : Value) → Refines w v → Refines x v → Merged w x v
merge-complete (one t) (one u) (one v) p q =
    record { value = one t; is = rw (q ∙ sym p, tied_itself tree_cmp_total t) refl; refines = p }
merge-complete (seq ts) (seq us) (seq vs) p q =
    record { value = seq ts; is = rw (same_terms-complete ts us (p ∙ sym q)) refl; refines = p }
merge-complete (bag ts) (bag us) (bag vs) p q =
    record { value = bag ts; is = rw (same_terms-complete ts us (p ∙ sym q)) refl; refines = p }
merge-complete (bag ts) (bag us) (seq vs) p q =
    record { value = bag ts; is = rw (same_terms-complete ts us (p ∙ sym q)) refl; refines = p }
merge-complete (seq ts) (bag us) (seq vs) p q =
    let e : sorted tree_cmp ts ≡ sorted tree_cmp us = ap (sorted tree_cmp) p ∙ sym (sorted-sorted vs)
    ∙ ap (sorted tree_cmp) (sym q) in
    record {
      value = seq ts;
      is = rw (same_terms-complete (sorted tree_cmp ts) (sorted tree_cmp us) e) refl;
      refines = p;
    }
merge-complete (bag ts) (seq us) (seq vs) p q =
    let e : sorted tree_cmp ts ≡ sorted tree_cmp us = ap (sorted tree_cmp) p ∙ sorted-sorted vs
    ∙ ap (sorted tree_cmp) (sym q) in
    record {
      value = seq us;
      is = rw (same_terms-complete (sorted tree_cmp ts) (sorted tree_cmp us) e) refl;
      refines = q;
    }
merge-complete (one t) x (seq vs) p q = absurd p
merge-complete (one t) x (bag vs) p q = absurd p
merge-complete (one t) (seq us) (one v) p q = absurd q
merge-complete (one t) (bag us) (one v) p q = absurd q
merge-complete (seq ts) x (one v) p q = absurd p
merge-complete (seq ts) x (bag vs) p q = absurd p
merge-complete (seq ts) (one u) (seq vs) p q = absurd q
merge-complete (bag ts) x (one v) p q = absurd p
merge-complete (bag ts) (one u) (seq vs) p q = absurd q
merge-complete (bag ts) (one u) (bag vs) p q = absurd q
merge-complete (bag ts) (seq us) (bag vs) p q = absurd q

-- what a test that passed gives
pub from_if : (b : Bool) (a u : Value) → (if b then Some a else None) ≡ Some u → (b ≡ true) × (a ≡ u)
from_if true a u e = (refl, cc)
from_if false a u e = cc

-- what agrees with a merge agrees with both
pub merge-sound : (w x u v : Value) → IsArranged w → IsArranged x → merge w x ≡ Some u → Refines u v
    → Refines w v × Refines x v
merge-sound (one t) (one u) m v a b e r =
    let h = from_if (is_eq (tree_cmp t u)) (one t) m e in
    let k = subst (λ n. Refines n v) (sym h.1) r in
    (k, subst (λ n. Refines (one n) v) (tree_same t u ((Equal-is (tree_cmp t u)).0 h.0)) k)
merge-sound (seq ts) (seq us) m v a b e r =
    let h = from_if (same_terms ts us) (seq ts) m e in
    let k = subst (λ n. Refines n v) (sym h.1) r in
    (k, subst (λ n. Refines (seq n) v) (same_terms-sound ts us h.0) k)
merge-sound (bag ts) (bag us) m v a b e r =
    let h = from_if (same_terms ts us) (bag ts) m e in
    let k = subst (λ n. Refines n v) (sym h.1) r in
    (k, subst (λ n. Refines (bag n) v) (same_terms-sound ts us h.0) k)
merge-sound (seq ts) (bag us) m v a b e r =
    let h = from_if (same_terms (sorted tree_cmp ts) (sorted tree_cmp us)) (seq ts) m e in
    let k = subst (λ n. Refines n v) (sym h.1) r in
    (k, bag_from ts us v b (same_terms-sound _ _ h.0) k)
  where
    bag_from : (ts us : List Tree) (v : Value) → sorted tree_cmp us ≡ us → sorted tree_cmp ts ≡ sorted tree_cmp us
        → Refines (seq ts) v → Refines (bag us) v
    bag_from ts us (one v) b p k = absurd k
    bag_from ts us (seq vs) b p k = sym b ∙ sym p ∙ ap (sorted tree_cmp) k
    bag_from ts us (bag vs) b p k = absurd k
merge-sound (bag ts) (seq us) m v a b e r =
    let h = from_if (same_terms (sorted tree_cmp ts) (sorted tree_cmp us)) (seq us) m e in
    let k = subst (λ n. Refines n v) (sym h.1) r in
    (bag_to ts us v a (same_terms-sound _ _ h.0) k, k)
  where
    bag_to : (ts us : List Tree) (v : Value) → sorted tree_cmp ts ≡ ts → sorted tree_cmp ts ≡ sorted tree_cmp us
        → Refines (seq us) v → Refines (bag ts) v
    bag_to ts us (one v) b p k = absurd k
    bag_to ts us (seq vs) b p k = sym b ∙ p ∙ ap (sorted tree_cmp) k
    bag_to ts us (bag vs) b p k = absurd k
merge-sound (one t) (seq us) m v a b e r = cc
merge-sound (one t) (bag us) m v a b e r = cc
merge-sound (seq ts) (one u) m v a b e r = cc
merge-sound (bag ts) (one u) m v a b e r = cc

-- s has a final value for each binding, which agrees with it
abbrev pub Extends : Subst → Subst → Type 0
Extends env s = AllByRecursion (λ b. (v : Value) × (value_of s b.name ≡ Some v) × Refines b.value v) env

-- each multiset ascends
abbrev pub AllArranged : Subst → Type 0
AllArranged env = AllByRecursion (λ b. IsArranged b.value) env

-- the value can be bound, and s agrees with what comes out
pub record Bound (env s : Subst) (x : List ℕ) (w : Value) : Type 0 where
  pub env_after : Subst
  pub is : bind env x w ≡ Some env_after
  pub extends : Extends env_after s

-- a value that s agrees with can be bound, and s still agrees
pub bind-complete : (env s : Subst) (x : List ℕ) (w v : Value) → Extends env s → value_of s x ≡ Some v → Refines w v
    → Bound env s x w
bind-complete [] s x w v h e r = record {
  env_after = record { name = x; value = w } ∷ [];
  is = refl;
  extends = ((v, e, r), tt);
}
bind-complete (b ∷ env) s x w v h e r =
    elim (same_name b.name x) as (λ t. same_name b.name x ≡ t → Bound (b ∷ env) s x w) [
      | true ↦ λ q.
          let same : Some h.0.0 ≡ Some v = sym h.0.1 ∙ ap (value_of s) (same_name-is b.name x q) ∙ e in
          let m = merge-complete b.value w v (subst (Refines b.value) (let i : h.0.0 ≡ v = cc in i) h.0.2) r in
          record {
            env_after = record { name = b.name; value = m.value } ∷ env;
            is = rw (q, m.is) refl;
            extends = ((h.0.0, h.0.1, subst (Refines m.value) (let i : v ≡ h.0.0 = cc in i) m.refines), h.1);
          }
      | false ↦ λ q.
          let m = bind-complete env s x w v h.1 e r in
          record { env_after = b ∷ m.env_after; is = rw (q, m.is) refl; extends = (h.0, m.extends) }
    ] refl

-- what an `if` that gave a substitution went through
pub if_either : (t : Bool) (a b : Option Subst) (r : Subst) → (if t then a else b) ≡ Some r
    → ((t ≡ true) × (a ≡ Some r)) ⊎ ((t ≡ false) × (b ≡ Some r))
if_either true a b r e = inl (refl, e)
if_either false a b r e = inr (refl, e)

-- an `option_map` that gave a value
pub mapped : {A B : Type 0} (f : A → B) (a : Option A) (r : B) → option_map f a ≡ Some r
    → (x : A) × (a ≡ Some x) × (f x ≡ r)
mapped f None r e = absurd (none-some r e)
mapped f (Some x) r e = (x, refl, cc)

-- a binding that succeeded: what agrees with the result agreed with all before, and with the new value
pub bind-sound : (env s : Subst) (x : List ℕ) (w : Value) (after : Subst) → AllArranged env → IsArranged w
    → bind env x w ≡ Some after → Extends after s
    → Extends env s × ((v : Value) × (value_of s x ≡ Some v) × Refines w v)
bind-sound [] s x w after a b e h =
    let k = subst (λ r. Extends r s) (let i : after ≡ record { name = x; value = w } ∷ [] = cc in i) h in
    (tt, k.0)
bind-sound (c ∷ env) s x w after a b e h =
    elim (if_either (same_name c.name x) _ _ after e) [
      | inl q ↦
          let m = mapped (λ u. record { name = c.name; value = u } ∷ env) (merge c.value w) after q.1 in
          let k = subst (λ r. Extends r s) (sym m.2) h in
          let both = merge-sound c.value w m.0 k.0.0 a.0 b m.1 k.0.2 in
          (((k.0.0, k.0.1, both.0), k.1), (k.0.0, ap (value_of s) (sym (same_name-is c.name x q.0)) ∙ k.0.1, both.1))
      | inr q ↦
          let m = mapped (λ r. c ∷ r) (bind env x w) after q.1 in
          let k = subst (λ r. Extends r s) (sym m.2) h in
          let i = bind-sound env s x w m.0 a.1 b m.1 k.1 in
          ((k.0, i.0), i.1)
    ]
