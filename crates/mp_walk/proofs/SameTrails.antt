-- Trails with the same values: what can be bound over the one can be bound over the other, to the same values.
use Rattle.std.proofs.Common.{◌≡◌, ℕ, List, [], ◌∷◌, Bool, true, false, refl, ap, sym, ◌∙◌, subst}
use Rattle.std.specs.Prelude.{Option, Some, None, option_map, option_and_then, if◌then◌else◌}
use Rattle.mp_term.specs.Listing.{In}
use Rattle.mp_term.specs.Signature.{Sig}
use Rattle.mp_pattern.specs.Value.{Value, Subst, value_of, same_name, merge}
use Rattle.mp_pattern.specs.Fits.{Table}
use Rattle.mp_pattern.proofs.NameLaws.{same_name-is, same_name-itself}
use Rattle.mp_pattern.proofs.PlanParts.{nothing-mapped}
use Rattle.mp_theory.specs.Solve.{Taken, bind, given, solve}
use Rattle.mp_theory.specs.Frames.{Next}
use Rattle.mp_theory.specs.Items.{items}
use Rattle.mp_theory.specs.Machine.{takes}
use Rattle.mp_theory.specs.OneList.{Item}
use Rattle.mp_theory.proofs.ItemTables.{items-exact}
use Rattle.mp_theory.proofs.Merging.{mapped}
use Rattle.mp_theory.proofs.Solving.{then_some}
use Rattle.mp_ac.specs.CommItems.{SameValues}

pub same-back : (r s : Subst) → SameValues r s → SameValues s r
same-back r s h x = sym (h x)

pub same-on : (r s t : Subst) → SameValues r s → SameValues s t → SameValues r t
same-on r s t h k x = h x ∙ k x

-- the value of a variable that is bound to w too
abbrev bound_value : Option Value → Value → Option Value
bound_value None w = Some w
bound_value (Some v) w = merge v w

-- r is s but for the value of x, which is that of s with w
record IsBound (s : Subst) (x : List ℕ) (w : Value) (r : Subst) : Type 0 where
  value : Value
  is : bound_value (value_of s x) w ≡ Some value
  values : (y : List ℕ) → value_of r y ≡ (if same_name x y then Some value else value_of s y)

bind-values : (s : Subst) (x : List ℕ) (w : Value) (r : Subst) → bind s x w ≡ Some r → IsBound s x w r
bind-values [] x w r e =
    let q : record { name = x; value = w } ∷ [] ≡ r = cc in
    record { value = w; is = refl; values = λ y. ap (λ s. value_of s y) (sym q) }
bind-values (b ∷ s) x w r e = by_name (same_name b.name x) refl e (λ q p. bind-values s x w q p)
  where
    by_name : (c : Bool) → same_name b.name x ≡ c
        → (if c then option_map (λ u. record { name = b.name; value = u } ∷ s) (merge b.value w)
        else option_map (λ q. b ∷ q) (bind s x w)) ≡ Some r
        → ((q : Subst) → bind s x w ≡ Some q → IsBound s x w q) → IsBound (b ∷ s) x w r
    by_name true p e go =
        let m = mapped (λ u. record { name = b.name; value = u } ∷ s) (merge b.value w) r e in
        let n : b.name ≡ x = same_name-is b.name x p in
        record {
          value = m.0;
          is = rw p m.1;
          values = λ y. ap (λ q. value_of q y) (sym m.2)
              ∙ ap (λ z. if same_name z y then Some m.0 else value_of s y) n ∙ other m.0 y (same_name x y) refl n;
        }
      where
        other : (u : Value) (y : List ℕ) (c : Bool) → same_name x y ≡ c → b.name ≡ x
            → (if same_name x y then Some u else value_of s y) ≡ (if same_name x y then Some u else value_of (b ∷ s) y)
        other u y true q n = rw q refl
        other u y false q n =
            let k : same_name b.name y ≡ false = ap (λ z. same_name z y) n ∙ q in
            rw (q, k) refl
    by_name false p e go =
        let m = mapped (λ q. b ∷ q) (bind s x w) r e in
        let h = go m.0 m.1 in
        record {
          value = h.value;
          is = rw p h.is;
          values = λ y. ap (λ q. value_of q y) (sym m.2)
              ∙ ap (λ o. if same_name b.name y then Some b.value else o) (h.values y)
              ∙ other h.value y (same_name b.name y) refl;
        }
      where
        other : (u : Value) (y : List ℕ) (c : Bool) → same_name b.name y ≡ c
            → (if same_name b.name y then Some b.value else (if same_name x y then Some u else value_of s y))
            ≡ (if same_name x y then Some u else (if same_name b.name y then Some b.value else value_of s y))
        other u y false q = rw q refl
        other u y true q =
            let n : b.name ≡ y = same_name-is b.name y q in
            let k : same_name x y ≡ false = by_test (same_name x y) refl n in
            rw (q, k) refl
          where
            by_test : (c : Bool) → same_name x y ≡ c → b.name ≡ y → same_name x y ≡ false
            by_test false k n = k
            by_test true k n =
                let z : b.name ≡ x = n ∙ sym (same_name-is x y k) in
                (let wrong : false ≡ true = sym p ∙ (ap (λ c. same_name c x) z ∙ same_name-itself x) in cc)

bind-none : (s : Subst) (x : List ℕ) (w : Value) → bind s x w ≡ None → bound_value (value_of s x) w ≡ None
bind-none [] x w e = cc
bind-none (b ∷ s) x w e = by_name (same_name b.name x) refl e (λ p. bind-none s x w p)
  where
    by_name : (c : Bool) → same_name b.name x ≡ c
        → (if c then option_map (λ u. record { name = b.name; value = u } ∷ s) (merge b.value w)
        else option_map (λ q. b ∷ q) (bind s x w)) ≡ None
        → (bind s x w ≡ None → bound_value (value_of s x) w ≡ None) → bound_value (value_of (b ∷ s) x) w ≡ None
    by_name true p e go = rw p (nothing-mapped (λ u. record { name = b.name; value = u } ∷ s) (merge b.value w) e)
    by_name false p e go = rw p (go (nothing-mapped (λ q. b ∷ q) (bind s x w) e))

bind-same : (s q : Subst) (x : List ℕ) (w : Value) (r : Subst) → SameValues s q → bind s x w ≡ Some r
    → (p : Subst) × (bind q x w ≡ Some p) × SameValues r p
bind-same s q x w r h e = by_bind (bind q x w) refl
  where
    by_bind : (o : Option Subst) → bind q x w ≡ o → (p : Subst) × (bind q x w ≡ Some p) × SameValues r p
    by_bind None k =
        let a = bind-values s x w r e in
        let z : Some a.value ≡ None = sym a.is ∙ ap (λ o. bound_value o w) (h x) ∙ bind-none q x w k in
        cc
    by_bind (Some p) k =
        let a = bind-values s x w r e in
        let b = bind-values q x w p k in
        let z : Some a.value ≡ Some b.value = sym a.is ∙ ap (λ o. bound_value o w) (h x) ∙ b.is in
        let v : a.value ≡ b.value = cc in (
          p,
          k,
          λ y. a.values y ∙ ap (λ u. if same_name x y then Some u else value_of s y) v
              ∙ ap (λ o. if same_name x y then Some b.value else o) (h y) ∙ sym (b.values y),
        )

-- a chain of options that gives something
two-steps : {A B C : Type 0} (o : Option A) (f : A → Option B) (g : B → Option C) (a : A) (b : B) (c : C) → o ≡ Some a
    → f a ≡ Some b → g b ≡ Some c → option_and_then (λ x. option_and_then g (f x)) o ≡ Some c
two-steps o f g a b c p q r = rw (p, q) r

module _ (sig : Sig) where
  -- takes are solved over both
  pub solve-same : (s q : Subst) (ts : List Taken) (r : Subst) → SameValues s q → solve sig s ts ≡ Some r
      → (p : Subst) × (solve sig q ts ≡ Some p) × SameValues r p
  solve-same s q [] r h e = (q, refl, (let z : s ≡ r = cc in subst (λ u. SameValues u q) z h))
  solve-same s q (t ∷ ts) r h e =
      let g = then_some (λ w. option_and_then (λ u. solve sig u ts) (bind s t.by.name w))
      (given sig t.by.under t.by.wildcard t.terms) r e in
      let b = then_some (λ u. solve sig u ts) (bind s t.by.name g.0) r g.2 in
      let c = bind-same s q t.by.name g.0 b.0 h b.1 in
      let k = solve-same b.0 c.0 ts r c.2 b.2 in (
        k.0,
        two-steps (given sig t.by.under t.by.wildcard t.terms) (bind q t.by.name)
            (λ u. solve sig u ts) g.0 c.0 k.0 g.1 c.1 k.1,
        k.2,
      )

  -- a search lists the same tables over both
  pub items-same : (k : ℕ) (n : Next) (s q : Subst) (W : Table) (r : Subst) → SameValues s q
      → In {X = Item} (W, r) (items sig k n s) → (p : Subst) × In {X = Item} (W, p) (items sig k n q) × SameValues r p
  items-same k n s q W r h i =
      let a = (items-exact sig k n s W r).0 i in
      let b = solve-same s q (takes n W) r h a.2 in
      (b.0, (items-exact sig k n q W b.0).1 (a.0, a.1, b.1), b.2)
