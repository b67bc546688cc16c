-- The substitution of a trail, as it is bound.
use Rattle.std.proofs.Common.{◌≡◌, ℕ, List, [], ◌∷◌, ◌++◌, Bool, true, false, nat_eq, refl, ap, ◌∙◌}
use Rattle.std.proofs.Common.{eqb-true, eq-eqb}
use Rattle.std.specs.Prelude.{Option, Some, None, option_map, if◌then◌else◌}
use Rattle.mp_pattern.specs.Value.{Value, Subst, same_name, value_of, merge}
use Rattle.mp_pattern.proofs.NameLaws.{same_name-is, same_name-itself}
use Rattle.mp_table.specs.Table.{Table}
use Rattle.mp_subst.specs.Bound.{Bound, value_in}
use Rattle.mp_subst.specs.Trail.{Trail, TrailEntry, last_value, joined}
use Rattle.mp_theory.specs.Solve.{bind}
use Rattle.mp_pattern.specs.PatternTree.{Pattern, symbol_pattern, app_pattern, wild_pattern}
use Rattle.mp_search.specs.declared.query.Query.{Query}
use Rattle.mp_search.specs.Made.{HasValue}
use Rattle.mp_search.specs.Numbers.{IsNumberAt}
use Rattle.mp_search.specs.Reading.{name_at, set, subst_from, subst_of}

-- the value of a name that is set, and of another one
pub value_of-set : (s : Subst) (x : List ℕ) (v : Value) → value_of (set s x v) x ≡ Some v
value_of-set [] x v = rw (same_name-itself x) refl
value_of-set (b ∷ s) x v =
    elim (same_name b.name x) as (λ c. same_name b.name x ≡ c
    → value_of (if c then record { name = b.name; value = v } ∷ s else b ∷ set s x v) x ≡ Some v)
    [ true ↦ λ e. rw e refl | false ↦ λ e. rw e (value_of-set s x v) ] refl

pub value_of-set_other : (s : Subst) (y x : List ℕ) (v : Value) → same_name y x ≡ false
    → value_of (set s y v) x ≡ value_of s x
value_of-set_other [] y x v h = rw h refl
value_of-set_other (b ∷ s) y x v h =
    elim (same_name b.name y) as (λ c. same_name b.name y ≡ c
    → value_of (if c then record { name = b.name; value = v } ∷ s else b ∷ set s y v) x ≡ value_of (b ∷ s) x) [
      | true ↦ λ e.
          let i : b.name ≡ y = same_name-is b.name y e in
          let j : same_name b.name x ≡ false = ap (λ z. same_name z x) i ∙ h in
          rw j refl
      | false ↦ λ e. ap (λ o. if same_name b.name x then Some b.value else o) (value_of-set_other s y x v h)
    ] refl

-- a name is bound by setting it, to what it merges to where it is bound already
pub bind-set : (s : Subst) (x : List ℕ) (w : Value) → bind s x w ≡ option_map (set s x)
    (elim (value_of s x) [ None ↦ Some w | Some u ↦ merge u w ])
bind-set [] x w = refl
bind-set (b ∷ s) x w =
    elim (same_name b.name x) as (λ c. (if c then option_map (λ u. record { name = b.name; value = u } ∷ s)
    (merge b.value w) else option_map (λ r. b ∷ r) (bind s x w))
    ≡ option_map (λ v. if c then record { name = b.name; value = v } ∷ s else b ∷ set s x v)
    (elim (if c then Some b.value else value_of s x) [ None ↦ Some w | Some u ↦ merge u w ])) [
      | true ↦ refl
      | false ↦ ap (option_map (λ r. b ∷ r)) (bind-set s x w)
          ∙ after (elim (value_of s x) [ None ↦ Some w | Some u ↦ merge u w ])
    ]
  where
    after : (o : Option Value) → option_map (λ r. b ∷ r) (option_map (set s x) o) ≡ option_map (λ v. b ∷ set s x v) o
    after None = refl
    after (Some v) = refl

module _ (t : Table) (name : ℕ → Option (List ℕ)) where
  -- one entry more
  pub subst_from-more : (s : Subst) (es : List TrailEntry) (e : TrailEntry) (x : List ℕ) → name e.var ≡ Some x
      → subst_from t name s (es ++ e ∷ []) ≡ set (subst_from t name s es) x (value_in t e.value)
  subst_from-more s [] e x h =
      ap (λ o. elim o as (λ _. Subst) [ None ↦ s | Some y ↦ set s y (value_in t e.value) ]) h
  subst_from-more s (d ∷ es) e x h =
      subst_from-more (elim (name d.var) [ None ↦ s | Some y ↦ set s y (value_in t d.value) ]) es e x h

  module _ (x : List ℕ) (v : ℕ) (is : name v ≡ Some x) (only : (u : ℕ) → name u ≡ Some x → u ≡ v) where
    -- one entry less
    value_of-entry : (s : Subst) (e : TrailEntry)
        → value_of (elim (name e.var) [ None ↦ s | Some y ↦ set s y (value_in t e.value) ]) x
        ≡ (if nat_eq e.var v then Some (value_in t e.value) else value_of s x)
    value_of-entry s e = elim (nat_eq e.var v) as (λ b. nat_eq e.var v ≡ b
        → value_of (elim (name e.var) [ None ↦ s | Some y ↦ set s y (value_in t e.value) ]) x
        ≡ (if b then Some (value_in t e.value) else value_of s x)) [
          | true ↦ λ k.
              let i : name e.var ≡ Some x = ap name (eqb-true e.var v k) ∙ is in
              rw i (value_of-set s x (value_in t e.value))
          | false ↦ λ k. other k (name e.var) refl
        ] refl
      where
        other : nat_eq e.var v ≡ false → (o : Option (List ℕ)) → name e.var ≡ o
            → value_of (elim o [ None ↦ s | Some y ↦ set s y (value_in t e.value) ]) x ≡ value_of s x
        other k None i = refl
        other k (Some y) i =
            elim (same_name y x) as (λ b. same_name y x ≡ b
            → value_of (set s y (value_in t e.value)) x ≡ value_of s x) [
              | true ↦ λ j.
                  let same : e.var ≡ v = only e.var (i ∙ ap Some (same_name-is y x j)) in
                  let wrong : nat_eq e.var v ≡ true = eq-eqb e.var v same in
                  cc
              | false ↦ λ j. value_of-set_other s y x (value_in t e.value) j
            ] refl

    -- the value of a name is the last one of its number
    pub value_of-subst_from : (s : Subst) (es : List TrailEntry) → value_of (subst_from t name s es) x
        ≡ elim (last_value es v) [ None ↦ value_of s x | Some b ↦ Some (value_in t b) ]
    value_of-subst_from s [] = refl
    value_of-subst_from s (e ∷ es) =
        value_of-subst_from (elim (name e.var) [ None ↦ s | Some y ↦ set s y (value_in t e.value) ]) es
        ∙ elim (last_value es v) as (λ o. (elim o as (λ _. Option Value) [
          | None ↦ value_of (elim (name e.var) [ None ↦ s | Some y ↦ set s y (value_in t e.value) ]) x
          | Some b ↦ Some (value_in t b)
        ])
        ≡ (elim (elim o as (λ _. Option Bound) [
          | None ↦ if nat_eq e.var v then Some e.value else None
          | Some b ↦ Some b
        ]) as (λ _. Option Value) [ None ↦ value_of s x | Some b ↦ Some (value_in t b) ])) [
          | None ↦ value_of-entry s e ∙ chosen (nat_eq e.var v)
          | Some b ↦ refl
        ]
      where
        chosen : (c : Bool) → (if c then Some (value_in t e.value) else value_of s x)
            ≡ (elim (if c then Some e.value else None) as (λ _. Option Value)
            [ None ↦ value_of s x | Some b ↦ Some (value_in t b) ])
        chosen true = refl
        chosen false = refl

    -- so the name is bound as its number is
    pub bind-subst_from : (es : List TrailEntry) (w : Value) → bind (subst_from t name [] es) x w
        ≡ option_map (set (subst_from t name [] es) x) (joined t es v w)
    bind-subst_from es w = bind-set (subst_from t name [] es) x w
        ∙ ap (λ o. option_map (set (subst_from t name [] es) x)
        (elim o as (λ _. Option Value) [ None ↦ Some w | Some u ↦ merge u w ])) (value_of-subst_from [] es)
        ∙ ap (option_map (set (subst_from t name [] es) x)) (through (last_value es v))
      where
        through : (o : Option Bound)
            → (elim (elim o as (λ _. Option Value) [ None ↦ None | Some b ↦ Some (value_in t b) ])
            as (λ _. Option Value) [ None ↦ Some w | Some u ↦ merge u w ])
            ≡ (elim o as (λ _. Option Value) [ None ↦ Some w | Some b ↦ merge (value_in t b) w ])
        through None = refl
        through (Some b) = refl

-- the variable of a wildcard has the value of its number
pub has-value : (q : Query) (p : Pattern) (v : ℕ) (t : Trail) (b : Bound) → IsNumberAt q p (Some v)
    → last_value t.stack v ≡ Some b → HasValue p (subst_of q t) (value_in q.table.now b)
has-value q (symbol_pattern m) v t b n e = cc
has-value q (app_pattern g ps) v t b n e = cc
has-value q (wild_pattern w None) v t b n e = cc
has-value q (wild_pattern w (Some x)) v t b n e =
    value_of-subst_from q.table.now (name_at q) x v n.name n.only [] t.stack
    ∙ ap (λ o. elim o as (λ _. Option Value) [ None ↦ None | Some c ↦ Some (value_in q.table.now c) ]) e
