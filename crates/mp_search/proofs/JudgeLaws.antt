-- What a verdict on a condition says of the substitutions that a trail may still become.
use Rattle.std.proofs.Common.{◌≡◌, ℕ, zero, suc, ◌+◌, ◌<◌, List, [], ◌∷◌, map, length, Bool, true, false, refl, ap, sym}
use Rattle.std.proofs.Common.{◌∙◌, subst, arith}
use Rattle.std.specs.Prelude.{Option, Some, None, option_map, slice_get, position, ◌||◌, if◌then◌else◌}
use Rattle.std.specs.Prelude.{IsSomeAnd, ⊤}
use Rattle.std.specs.List.{AllByRecursion, list_all, range_with_len}
use Rattle.std.proofs.lemmas.Bool.{and_from}
use Rattle.std.proofs.lemmas.Option.{slice_get_within}
use Rattle.mp_term.specs.Signature.{Sig}
use Rattle.mp_term.proofs.SignatureLaws.{position-first, position-behind}
use Rattle.mp_pattern.specs.CondTree.{Operand, var, ground, Cond}
use Rattle.mp_pattern.specs.Firsts.{is_known}
use Rattle.mp_pattern.specs.Holds.{holds}
use Rattle.mp_pattern.specs.Operands.{IsOperandOver, IsConditionOver}
use Rattle.mp_pattern.specs.Plan.{Variable, Plan}
use Rattle.mp_pattern.specs.Value.{Form, one_form, seq_form, bag_form, form_of, Value, Subst, value_of, merge}
use Rattle.mp_pattern.specs.Value.{same_name}
use Rattle.mp_pattern.specs.Variables.{variables}
use Rattle.mp_table.specs.Table.{Table}
use Rattle.mp_table.specs.declared.rank.Rank.{Rank}
use Rattle.mp_subst.specs.Bound.{Bound, value_from, value_in}
use Rattle.mp_subst.specs.Trail.{Trail, last_value, subst_in}
use Rattle.std.specs.Borrow.{Bor}
use Rattle.mp_pattern.specs.Admission.{meets}
use Rattle.mp_pattern.specs.CondView.{cond_tree}
use Rattle.mp_pattern.specs.declared.condition.Cond as declared
use Rattle.mp_theory.specs.OneList.{Item}
use Rattle.mp_cond.specs.Verdict.{AreHeld, same_form, is_in_form, is_settled, are_settled, verdict}
use Rattle.mp_cond.specs.Extension.{Extends}
use Rattle.mp_cond.specs.declared.verdict.Verdict.{Verdict}
use Rattle.mp_cond.specs.declared.verdict.Verdict.TheVariants.{Yes, No, Later}
use Rattle.mp_cond.proofs.CompleteLaws.{same_form-itself}
use Rattle.mp_theory.specs.Kept.{Keeps}
use Rattle.mp_theory.proofs.KeptValues.{kept-merge, conditions-early}
use Rattle.mp_term.specs.Search.{In}
use Rattle.mp_term.proofs.ListingLaws.{all_in}
use Rattle.mp_term.proofs.ListLaws.{all-get}
use Rattle.mp_theory.specs.Frames.{Next}
use Rattle.mp_theory.specs.Items.{items}
use Rattle.std.specs.Prelude.{filter}
use Rattle.mp_search.specs.declared.query.Query.{Query}
use Rattle.mp_search.specs.Query.{IsQuery}
use Rattle.mp_search.specs.Reading.{name_at, subst_of}
use Rattle.mp_search.specs.Says.{Says}
use Rattle.mp_search.specs.Wanted.{condition_of, good, IsComplete, AreComplete}
use Rattle.mp_search.proofs.NumberLaws.{same-swapped, distinct-variables, numbered}
use Rattle.mp_search.proofs.NumberedLaws.{names}
use Rattle.mp_search.proofs.SubstLaws.{value_of-subst_from}

-- the form of a bound is that of its value
form-from : (t : Table) (f : Form) (w : Option ℕ) (rs : List Rank) → form_of (value_from t f w rs) ≡ f
form-from t one_form None rs = refl
form-from t one_form (Some g) rs = refl
form-from t seq_form w rs = refl
form-from t bag_form w rs = refl

-- a known name is that of a variable
known-variable : (xs : List Variable) (x : List ℕ) → is_known same_name (map (λ v. v.name) xs) x ≡ true
    → (n : ℕ) × (v : Variable) × (position (λ v. same_name x v.name) xs ≡ Some n) × (slice_get xs n ≡ Some v)
known-variable [] x e = cc
known-variable (v ∷ xs) x e = elim (same_name x v.name) as (λ b. same_name x v.name ≡ b
    → (n : ℕ) × (u : Variable) × (position (λ u. same_name x u.name) (v ∷ xs) ≡ Some n)
    × (slice_get (v ∷ xs) n ≡ Some u)) [
      | true ↦ λ k. (0, v, position-first (λ u. same_name x u.name) v xs k, refl)
      | false ↦ λ k.
          let r = known-variable xs x (sym (ap (λ b. b || is_known same_name (map (λ u. u.name) xs) x)
          (same-swapped x v.name k)) ∙ e) in
          let next : r.0 + 1 ≡ suc r.0 = omega arith in (
            r.0 + 1,
            r.1,
            position-behind (λ u. same_name x u.name) v xs k ∙ ap (option_map (λ i. i + 1)) r.2,
            subst (λ n. slice_get (v ∷ xs) n ≡ Some r.1) (sym next) r.3,
          )
    ] refl

-- the numbers from k on
slice_get-range : (n k i : ℕ) → i < n → slice_get (range_with_len k n) i ≡ Some (k + i)
slice_get-range zero k i h = absurd (omega (arith, h))
slice_get-range (suc n) k zero h = let e : k ≡ k + 0 = omega arith in ap Some e
slice_get-range (suc n) k (suc i) h =
    let e : (k + 1) + i ≡ k + suc i = omega arith in slice_get-range n (k + 1) i (omega (arith, h)) ∙ ap Some e

module _ (q : Query) (h : IsQuery q) (t : Trail)
    (plain : q.vars.now ≡ range_with_len 0 (length q.plan.now.variables)) where
  -- the variables of the plan
  abbrev vars : List Variable
  vars = q.plan.now.variables

  -- the value of a variable of the plan is that of its number
  value-numbered : (n : ℕ) (v : Variable) → slice_get vars n ≡ Some v → value_of (subst_of q t) v.name
      ≡ elim (last_value t.stack n) as (λ _. Option Value) [ None ↦ None | Some b ↦ Some (value_in q.table.now b) ]
  value-numbered n v e =
      let within : n < length vars = slice_get_within vars n v e in
      let zero_on : 0 + n ≡ n = omega arith in
      let stands : slice_get q.vars.now n ≡ Some n =
      ap (λ ws. slice_get ws n) plain ∙ slice_get-range (length vars) 0 n within ∙ ap Some zero_on in
      let told = numbered q.vars.now vars (variables q.plan.now.pattern) n n v.name (names q h)
      (distinct-variables q.plan.now.pattern) h.distinct stands
      (subst (λ ys. slice_get ys n ≡ Some v.name) (names q h) (name-at vars n v e)) in
      value_of-subst_from q.table.now (name_at q) v.name n told.0 told.1 [] t.stack
    where
      name-at : (xs : List Variable) (n : ℕ) (v : Variable) → slice_get xs n ≡ Some v
          → slice_get (map (λ x. x.name) xs) n ≡ Some v.name
      name-at [] n v e = cc
      name-at (x ∷ xs) zero v e = let k : x ≡ v = cc in ap (λ y. Some y.name) k
      name-at (x ∷ xs) (suc n) v e = name-at xs n v e

  -- what the trail may still become extends it
  pub may_extend : (s : Subst) → Keeps (subst_of q t) s → IsComplete vars s → Extends q.table.now q.plan.now t s
  may_extend s k c n v b e l =
      let held : value_of (subst_of q t) v.name ≡ Some (value_in q.table.now b) =
      value-numbered n v e
      ∙ ap (λ o. elim o as (λ _. Option Value) [ None ↦ None | Some b ↦ Some (value_in q.table.now b) ]) l in
      let u = k v.name (value_in q.table.now b) held in
      let formed = all-get (λ x. option_map form_of (value_of s x.name) ≡ Some x.form) vars n v c e in
      let form : Some (form_of u.0) ≡ Some v.form = sym (ap (option_map form_of) u.1) ∙ formed in
      subst (λ o. IsSomeAnd o (λ w. (form_of w ≡ v.form) × (merge (value_in q.table.now b) w ≡ Some w))) (sym u.1)
      (let i : form_of u.0 ≡ v.form = cc in (i, kept-merge (value_in q.table.now b) u.0 u.2))

  -- where each variable has a value of its form, each operand is settled
  settled-operand : IsComplete vars (subst_of q t) → (a : Operand) → IsOperandOver (map (λ x. x.name) vars) a
      → is_settled q.plan.now t a ≡ true
  settled-operand c (ground u) o = refl
  settled-operand c (var x) o =
      let r = known-variable vars x o in
      let formed = all-get (λ x. option_map form_of (value_of (subst_of q t) x.name) ≡ Some x.form) vars r.0 r.1
      c r.3 in
      rw (r.2, r.3) (in_form r.1 (last_value t.stack r.0)
      (sym (ap (option_map form_of) (value-numbered r.0 r.1 r.3)) ∙ formed))
    where
      in_form : (v : Variable) (o : Option Bound)
          → option_map form_of (elim o as (λ _. Option Value) [ None ↦ None | Some b ↦ Some (value_in q.table.now b) ])
          ≡ Some v.form → is_in_form (Some v.form) o ≡ true
      in_form v None e = cc
      in_form v (Some b) e =
          let k : form_of (value_in q.table.now b) ≡ v.form = cc in
          let f : b.form ≡ v.form = sym (form-from q.table.now b.form b.wrap b.ranks) ∙ k in
          ap (same_form v.form) f ∙ same_form-itself v.form

  pub settled-all : IsComplete vars (subst_of q t) → (os : List Operand)
      → AllByRecursion (IsOperandOver (map (λ x. x.name) vars)) os → list_all (is_settled q.plan.now t) os ≡ true
  settled-all c [] o = refl
  settled-all c (a ∷ os) o = and_from _ _ (settled-operand c a o.0) (settled-all c os o.1)

-- what a verdict says
pub verdict-says : (sig : Sig) (t : Table) (p : Plan) (trail : Trail) (c : Cond) (s : Subst)
    → (are_settled p trail c ≡ true → holds sig s c ≡ holds sig (subst_in t p.variables trail) c)
    → Says sig c s (verdict sig t p trail c)
verdict-says sig t p trail c s h = elim (are_settled p trail c) as (λ b. are_settled p trail c ≡ b
    → Says sig c s (if b then (if holds sig (subst_in t p.variables trail) c then Yes else No) else Later)) [
      | true ↦ λ e. elim (holds sig (subst_in t p.variables trail) c) as
          (λ b. holds sig (subst_in t p.variables trail) c ≡ b → Says sig c s (if b then Yes else No))
          [ true ↦ λ k. h e ∙ k | false ↦ λ k. h e ∙ k ] refl
      | false ↦ λ e. tt
    ] refl

pub verdict-decided : (sig : Sig) (t : Table) (p : Plan) (trail : Trail) (c : Cond) → are_settled p trail c ≡ true
    → verdict sig t p trail c ≡ Later → ⊥
verdict-decided sig t p trail c e k =
    decided (holds sig (subst_in t p.variables trail) c)
    (sym (ap (λ b. if b then (if holds sig (subst_in t p.variables trail) c then Yes else No) else Later) e) ∙ k)
  where
    decided : (b : Bool) → (if b then Yes else No) ≡ Later → ⊥
    decided true q = cc
    decided false q = cc

-- what holds of a query with that condition
pub asked-at : (q : Query) (c : Cond) → IsQuery q → condition_of q ≡ Some c
    → (q.vars.now ≡ range_with_len 0 (length q.plan.now.variables))
    × IsConditionOver (map (λ v. v.name) q.plan.now.variables) c
asked-at q c h e = at q.condition e h.plain h.asked
  where
    at : (o : Option (Bor declared.Cond)) → option_map (λ d. cond_tree d.now) o ≡ Some c
        → (elim o as (λ _. Type 0) [ None ↦ ⊤ | Some d ↦ q.vars.now ≡ range_with_len 0 (length q.plan.now.variables) ])
        → (elim o as (λ _. Type 0) [
          | None ↦ ⊤
          | Some d ↦ IsConditionOver (map (λ v. v.name) q.plan.now.variables) (cond_tree d.now)
              × AreHeld q.table.now (cond_tree d.now)
        ])
        → (q.vars.now ≡ range_with_len 0 (length q.plan.now.variables))
        × IsConditionOver (map (λ v. v.name) q.plan.now.variables) c
    at None e p a = cc
    at (Some d) e p a =
        let k : cond_tree d.now ≡ c = cc in (p, subst (IsConditionOver (map (λ v. v.name) q.plan.now.variables)) k a.0)

-- the substitution is complete where there is a condition
pub complete-at : (q : Query) (c : Cond) (s : Subst) → condition_of q ≡ Some c → AreComplete q (([], s) ∷ [])
    → IsComplete q.plan.now.variables s
complete-at q c s e h = at q.condition e h
  where
    at : (o : Option (Bor declared.Cond)) → option_map (λ d. cond_tree d.now) o ≡ Some c
        → (elim o as (λ _. Type 0) [
          | None ↦ ⊤
          | Some d ↦ AllByRecursion (λ (i : Item). IsComplete q.plan.now.variables i.1) (([], s) ∷ [])
        ])
        → IsComplete q.plan.now.variables s
    at None e k = cc
    at (Some d) e k = k.0

-- what is complete among others is complete alone
complete_alone : (q : Query) (is : List Item) (i : Item) → In i is → AreComplete q is → AreComplete q (([], i.1) ∷ [])
complete_alone q is i m = elim q.condition as (λ o.
    (elim o as (λ _. Type 0) [
      | None ↦ ⊤
      | Some d ↦ AllByRecursion (λ (j : Item). IsComplete q.plan.now.variables j.1) is
    ])
    → (elim o as (λ _. Type 0) [
      | None ↦ ⊤
      | Some d ↦ AllByRecursion (λ (j : Item). IsComplete q.plan.now.variables j.1) (([], i.1) ∷ [])
    ])) [
      | None ↦ λ a. tt
      | Some d ↦ λ a. (all_in (λ (j : Item). IsComplete q.plan.now.variables j.1) is i a m, tt)
    ]

-- what is said of the condition is said of what the query asks
pub met-yes : (q : Query) (c : Cond) (s : Subst) (v : Verdict) → condition_of q ≡ Some c → Says q.sig.now c s v
    → v ≡ Yes → meets q.sig.now (condition_of q) s ≡ true
met-yes q c s v e h k = ap (λ o. meets q.sig.now o s) e ∙ subst (Says q.sig.now c s) k h

pub met-no : (q : Query) (c : Cond) (s : Subst) (v : Verdict) → condition_of q ≡ Some c → Says q.sig.now c s v → v ≡ No
    → meets q.sig.now (condition_of q) s ≡ false
met-no q c s v e h k = ap (λ o. meets q.sig.now o s) e ∙ subst (Says q.sig.now c s) k h

-- a verdict that is neither of the others
pub is-no : (v : Verdict) → (v ≡ Yes → ⊥) → (v ≡ Later → ⊥) → v ≡ No
is-no Yes a b = absurd (a refl)
is-no No a b = refl
is-no Later a b = absurd (b refl)

-- where the condition fails at each substitution that the trail may still become, no item that is complete is good
pub none-good : (q : Query) (k : ℕ) (n : Next) (s : Subst)
    → ((r : Subst) → Keeps s r → AreComplete q (([], r) ∷ []) → meets q.sig.now (condition_of q) r ≡ false)
    → AreComplete q (items q.sig.now k n s) → filter (good q) (items q.sig.now k n s) ≡ []
none-good q k n s h c = conditions-early q.sig.now (condition_of q) k n s
    (λ i m w. h i.1 w (complete_alone q (items q.sig.now k n s) i m c))
