-- The substitution of an item, variable by variable.
use Rattle.std.proofs.Common.{◌≡◌, ◌<◌, ◌≤◌, ◌+◌, ℕ, suc, List, [], ◌∷◌, ◌++◌, Bool, true, false, length, map}
use Rattle.std.proofs.Common.{refl, ap, sym, ◌∙◌, subst, arith, inl, inr, eqb-true}
use Rattle.std.specs.Prelude.{Option, Some, None, option_map, slice_get, if◌then◌else◌, nat_eq}
use Rattle.std.specs.List.{AllByRecursion, range_with_len}
use Rattle.std.proofs.lemmas.List.{length-map}
use Rattle.std.proofs.lemmas.Option.{slice_get_within, slice_get-map}
use Rattle.mp_term.specs.Search.{In}
use Rattle.mp_term.proofs.ListingLaws.{all_in}
use Rattle.mp_pattern.specs.Fits as fits
use Rattle.mp_pattern.specs.Fits.{Fits}
use Rattle.mp_pattern.specs.Plan.{Plan, Variable}
use Rattle.mp_pattern.specs.Value.{Value, Binding, Subst, Form, form_of, value_of, same_name}
use Rattle.mp_pattern.specs.Variables.{variable_form}
use Rattle.mp_table.specs.Table.{Table, subject_of}
use Rattle.mp_subst.specs.Bound.{Bound, value_in}
use Rattle.mp_subst.specs.Trail.{Trail, TrailEntry, GoesWith, last_value, bindings_from, subst_in}
use Rattle.mp_pattern.proofs.NameLaws.{same_name-itself}
use Rattle.mp_theory.specs.OneList.{Item}
use Rattle.mp_theory.proofs.FirstsLaws.{Distinct}
use Rattle.mp_theory.proofs.SecondSearch.{items-fit}
use Rattle.mp_search.specs.Reading.{name_among}
use Rattle.mp_search.specs.Wanted.{IsComplete}
use Rattle.mp_search.proofs.NumberLaws.{numbered, distinct-variables, in-slice_get}
use Rattle.mp_search.proofs.SubstLaws.{value_of-subst_from}
use Rattle.mp_cursor.specs.declared.matched.Matched.{Matched}
use Rattle.mp_cursor.specs.Matched.{IsMatched, all_items, trail_subst}
use Rattle.mp_pattern.proofs.PlanNodes.{plan-names}
use Rattle.mp_cursor.proofs.RangeLaws.{range-distinct, range-at}
use Rattle.mp_cursor.proofs.SliceLaws.{got-within}
use Rattle.mp_cursor.proofs.SoughtLaws.{items-of-pattern, normal-subject}

-- the value of a name that no other binding has
name-apart : (x : List ℕ) (s : Subst) (b : Binding) → AllByRecursion (λ z. same_name x z ≡ false) (map (λ c. c.name) s)
    → In b s → same_name x b.name ≡ false
name-apart x [] b h i = absurd i
name-apart x (c ∷ s) b h (inl q) = ap (λ d. same_name x d.name) q ∙ h.0
name-apart x (c ∷ s) b h (inr j) = name-apart x s b h.1 j

pub value-of : (s : Subst) (b : Binding) → Distinct same_name (map (λ c. c.name) s) → In b s
    → value_of s b.name ≡ Some b.value
value-of [] b d i = absurd i
value-of (c ∷ s) b d (inl q) =
    ap (λ e. if e then Some c.value else value_of s b.name)
    (ap (λ z. same_name c.name z.name) q ∙ same_name-itself c.name) ∙ ap (λ z. Some z.value) (sym q)
value-of (c ∷ s) b d (inr j) =
    ap (λ e. if e then Some c.value else value_of s b.name) (name-apart c.name s b d.0 j) ∙ value-of s b d.1 j

-- so each variable has a value of its form
names-complete : (f : List ℕ → Form) (s all : Subst) → ((b : Binding) → In b s → value_of all b.name ≡ Some b.value)
    → AllByRecursion (λ b. form_of b.value ≡ f b.name) s
    → AllByRecursion (λ (x : Variable). option_map form_of (value_of all x.name) ≡ Some x.form)
    (map {B = Variable} (λ y. record { name = y; form = f y }) (map (λ b. b.name) s))
names-complete f [] all h a = tt
names-complete f (b ∷ s) all h a = (
  ap (option_map form_of) (h b (inl refl)) ∙ ap Some a.0,
  names-complete f s all (λ c i. h c (inr i)) a.1,
)

-- a variable that no entry has isn't bound
unbound : (n v : ℕ) (es : List TrailEntry) → n ≤ v → AllByRecursion (λ e. e.var < n) es → last_value es v ≡ None
unbound n v [] h a = refl
unbound n v (e ∷ es) h a =
    rw (unbound n v es h a.1) (ap (λ b. if b then Some e.value else None) (differ (nat_eq e.var v) refl))
  where
    differ : (b : Bool) → nat_eq e.var v ≡ b → nat_eq e.var v ≡ false
    differ true q = absurd (omega (arith, eqb-true e.var v q, h, a.0))
    differ false q = q

-- the bindings of the variables are those of the substitution
bindings-same : (t : Table) (es : List TrailEntry) (k : ℕ) (xs : List Variable) (s : Subst)
    → map (λ b. b.name) s ≡ map (λ (x : Variable). x.name) xs
    → ((j : ℕ) → option_map (value_in t) (last_value es (k + j)) ≡ option_map (λ b. b.value) (slice_get s j))
    → bindings_from t es k xs ≡ s
bindings-same t es k [] [] e h = refl
bindings-same t es k [] (b ∷ s) e h = cc
bindings-same t es k (x ∷ xs) [] e h = cc
bindings-same t es k (x ∷ xs) (b ∷ s) e h =
    let name : b.name ≡ x.name = cc in
    let rest : map (λ (b : Binding). b.name) s ≡ map (λ (x : Variable). x.name) xs = cc in
    let here : option_map (value_in t) (last_value es k) ≡ Some b.value =
    subst (λ n. option_map (value_in t) (last_value es n) ≡ Some b.value) (omega arith) (h 0) in
    ap (λ bs. bs ++ bindings_from t es (suc k) xs) (one (last_value es k) here name)
    ∙ ap (λ bs. b ∷ bs) (bindings-same t es (suc k) xs s rest
    (λ j. subst (λ n. option_map (value_in t) (last_value es n) ≡ option_map (λ b. b.value) (slice_get s j))
    (omega arith) (h (suc j))))
  where
    one : (o : Option Bound) → option_map (value_in t) o ≡ Some b.value → b.name ≡ x.name
        → (elim o as (λ _. Subst) [ None ↦ [] | Some c ↦ record { name = x.name; value = value_in t c } ∷ [] ]) ≡ b ∷ []
    one None e n = cc
    one (Some c) e n =
        let v : value_in t c ≡ b.value = cc in
        ap (λ z. record { name = z; value = value_in t c } ∷ []) (sym n)
        ∙ ap (λ z. record { name = b.name; value = z } ∷ []) v

module _ (m : Matched) (h : IsMatched m) where
  -- an item fits
  pub item-fits : (i : Item) → In i (all_items m [])
      → Fits m.sig.now m.plan.now.pattern (subject_of m.table.now) i.1 i.0
  item-fits i k = all_in (λ j. Fits m.sig.now m.plan.now.pattern (subject_of m.table.now) j.1 j.0) (all_items m []) i
      (subst (AllByRecursion (λ j. Fits m.sig.now m.plan.now.pattern (subject_of m.table.now) j.1 j.0))
      (sym (items-of-pattern m h []))
      (items-fit m.sig.now m.plan.now.pattern (subject_of m.table.now) (normal-subject m h))) k

  item-distinct : (i : Item) → In i (all_items m []) → Distinct same_name (map (λ b. b.name) i.1)
  item-distinct i k = subst (Distinct same_name) (sym (item-fits i k).subst_of.names)
      (distinct-variables m.plan.now.pattern)

  pub item-complete : (i : Item) → In i (all_items m []) → IsComplete m.plan.now.variables i.1
  item-complete i k =
      let a = (item-fits i k).subst_of in
      subst (λ xs. IsComplete xs i.1)
      (ap (map {B = Variable} (λ y. record { name = y; form = variable_form m.sig.now m.plan.now.pattern y })) a.names
      ∙ sym (ap (λ (p : Plan). p.variables) h.plan))
      (names-complete (variable_form m.sig.now m.plan.now.pattern) i.1 i.1
      (λ b j. value-of i.1 b (item-distinct i k) j) a.forms)

  module _ (t : Trail) (W : fits.Table) (k : In {X = Item} (W, trail_subst m t) (all_items m []))
      (g : GoesWith m.table.now t) (n : t.vars ≡ length m.plan.now.variables) where
    abbrev s : Subst
    s = trail_subst m t

    names-same : map (λ b. b.name) s ≡ map (λ (x : Variable). x.name) m.plan.now.variables
    names-same = (item-fits (W, s) k).subst_of.names ∙ sym (plan-names m.sig.now m.plan.now.pattern m.plan.now h.plan)

    pub count-same : length s ≡ length m.plan.now.variables
    count-same = sym (length-map s (λ b. b.name)) ∙ ap length names-same
        ∙ length-map m.plan.now.variables (λ (x : Variable). x.name)

    -- the value of each variable
    pub binding-at : (v : ℕ)
        → option_map (value_in m.table.now) (last_value t.stack v) ≡ option_map (λ b. b.value) (slice_get s v)
    binding-at v = at (slice_get s v) refl
      where
        at : (o : Option Binding) → slice_get s v ≡ o
            → option_map (value_in m.table.now) (last_value t.stack v) ≡ option_map (λ b. b.value) o
        at None e =
            let beyond : t.vars ≤ v = omega (arith, got-within s v e, count-same, n) in
            ap (option_map (value_in m.table.now)) (unbound t.vars v t.stack beyond g.variables)
        at (Some b) e =
            let name = name_among (range_with_len 0 (length m.plan.now.variables)) m.plan.now.variables in
            let here : v < length m.plan.now.variables = omega (arith, slice_get_within s v b e, count-same) in
            let num = numbered (range_with_len 0 (length m.plan.now.variables)) m.plan.now.variables
            (map (λ (x : Variable). x.name) m.plan.now.variables) v v b.name refl
            (subst (Distinct same_name) names-same (item-distinct (W, s) k))
            (range-distinct 0 (length m.plan.now.variables))
            (range-at 0 (length m.plan.now.variables) v here ∙ ap Some (omega arith))
            (subst (λ ys. slice_get ys v ≡ Some b.name) names-same
            (slice_get-map (λ c. c.name) s v ∙ ap (option_map (λ c. c.name)) e)) in
            let known = value_of-subst_from m.table.now name b.name v num.0 num.1 [] t.stack in
            through (last_value t.stack v)
            (sym known ∙ value-of s b (item-distinct (W, s) k) (in-slice_get s v b e))
          where
            through : (o : Option Bound)
                → (elim o as (λ _. Option Value) [ None ↦ None | Some c ↦ Some (value_in m.table.now c) ])
                ≡ Some b.value
                → option_map (value_in m.table.now) o ≡ Some b.value
            through None q = cc
            through (Some c) q = q

    -- the substitution of the trail, as it is printed
    pub subst-read : subst_in m.table.now m.plan.now.variables t ≡ s
    subst-read = bindings-same m.table.now t.stack 0 m.plan.now.variables s names-same
        (λ j. subst (λ v. option_map (value_in m.table.now) (last_value t.stack v)
        ≡ option_map (λ b. b.value) (slice_get s j)) (omega arith) (binding-at j))
