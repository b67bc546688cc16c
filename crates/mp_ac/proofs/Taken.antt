-- The order in which takes are bound is free, and so is whether they are bound one by one over a trail, or first by
-- themselves.
use Rattle.std.proofs.Common.{◌≡◌, ℕ, List, [], ◌∷◌, map, true, false, refl, ap, sym, ◌∙◌, subst}
use Rattle.std.specs.Prelude.{Option, Some, None, option_and_then}
use Rattle.std.specs.List.{AllByRecursion}
use Rattle.mp_term.specs.Listing.{In}
use Rattle.mp_term.specs.Signature.{Sig}
use Rattle.mp_term.proofs.ListingLaws.{all_in}
use Rattle.mp_pattern.proofs.NameLaws.{same_name-is, same_name-itself}
use Rattle.mp_pattern.specs.Value.{Value, one, seq, bag, Subst, value_of, same_name}
use Rattle.mp_theory.specs.Solve.{Taken, bind, solve}
use Rattle.mp_term.proofs.SearchLaws.{all-from_in}
use Rattle.mp_theory.proofs.Merging.{Refines, Extends, bind-complete, bind-sound}
use Rattle.mp_theory.proofs.SolveLaws.{Obeys, Solved, solve-complete}
use Rattle.mp_theory.proofs.FirstsLaws.{Distinct, distinct-firsts}
use Rattle.mp_theory.proofs.FitsSolves.{at_value}
use Rattle.mp_theory.proofs.Solving.{names, AllFinal, GivesFinal, all-arranged, arranged-final, bind-final}
use Rattle.mp_theory.proofs.Solving.{bind-names, solve-names, solve-sound, solve-final, IsFound, found-itself}
use Rattle.mp_theory.proofs.Solving.{extends-from_found}
use Rattle.mp_ac.specs.CommItems.{bind_all, SameValues, NoneTwice, IsTrail}

-- a value that agrees with one that agrees with it is that one
both_ways : (v w : Value) → Refines v w → Refines w v → v ≡ w
both_ways (one t) (one u) r q = ap one r
both_ways (seq t) (seq u) r q = ap seq r
both_ways (bag t) (bag u) r q = ap bag r
both_ways (bag t) (seq u) r q = absurd q
both_ways (one t) (seq u) r q = absurd r
both_ways (one t) (bag u) r q = absurd r
both_ways (seq t) (one u) r q = absurd r
both_ways (seq t) (bag u) r q = absurd r
both_ways (bag t) (one u) r q = absurd r

-- the value of a variable agrees with its value in what extends it
abbrev Agrees : Subst → List ℕ → Value → Type 0
Agrees s x a = (v : Value) × (value_of s x ≡ Some v) × Refines a v

-- substitutions that extend each other have the same values
pub same_values : (r s : Subst) → Extends r s → Extends s r → SameValues r s
same_values r s h k x = by_value (value_of r x) (value_of s x) refl refl
  where
    by_value : (a b : Option Value) → value_of r x ≡ a → value_of s x ≡ b → value_of r x ≡ value_of s x
    by_value None None p q = p ∙ sym q
    by_value (Some v) b p q =
        let i = at_value (Agrees s) r x v h p in
        let j = at_value (Agrees r) s x i.0 k i.1 in
        let same : Some j.0 ≡ Some v = sym j.1 ∙ p in
        let e : j.0 ≡ v = cc in
        p ∙ ap Some (both_ways v i.0 i.2 (subst (Refines i.0) e j.2)) ∙ sym i.1
    by_value None (Some w) p q =
        let j = at_value (Agrees r) s x w k q in
        let wrong : None ≡ Some j.0 = sym p ∙ j.1 in
        cc

-- names of which none stands twice are distinct, and back
pub distinct-once : (xs : List (List ℕ)) → NoneTwice xs → Distinct same_name xs
distinct-once [] h = tt
distinct-once (x ∷ xs) h =
    (all-from_in (λ y. same_name x y ≡ false) xs (λ y i. apart x y xs h.0 i), distinct-once xs h.1)
  where
    apart : (x y : List ℕ) (xs : List (List ℕ)) → (In x xs → ⊥) → In y xs → same_name x y ≡ false
    apart x y xs never i = elim (same_name x y) as (λ b. same_name x y ≡ b → b ≡ false) [
      | true ↦ λ e. absurd (never (subst (λ z. In z xs) (sym (same_name-is x y e)) i))
      | false ↦ λ e. refl
    ] refl

pub once-distinct : (xs : List (List ℕ)) → Distinct same_name xs → NoneTwice xs
once-distinct [] h = tt
once-distinct (x ∷ xs) h = (λ i. twice x xs h.0 i, once-distinct xs h.1)
  where
    twice : (x : List ℕ) (xs : List (List ℕ)) → AllByRecursion (λ y. same_name x y ≡ false) xs → In x xs → ⊥
    twice x xs a i = let e = all_in (λ y. same_name x y ≡ false) xs x a i in let k = same_name-itself x in cc

module _ (sig : Sig) where
  -- a trail has distinct names
  pub trail-distinct : (s : Subst) → IsTrail sig s → Distinct same_name (names s)
  trail-distinct s t = distinct-once (names s) t.distinct

  trail-of : (s : Subst) → AllFinal sig s → Distinct same_name (names s) → IsTrail sig s
  trail-of s f d = record { final = f; distinct = once-distinct (names s) d }

  -- a trail extends itself
  pub extends-itself : (s : Subst) → IsTrail sig s → Extends s s
  extends-itself s t = extends-from_found s s (found-itself s (trail-distinct s t))

  -- what solves takes over a trail is a trail
  pub trail-solved : (s r : Subst) (ts : List Taken) → IsTrail sig s → AllByRecursion (GivesFinal sig) ts
      → solve sig s ts ≡ Some r → IsTrail sig r
  trail-solved s r ts t g e = trail-of r (solve-final sig s ts r e t.final g)
      (subst (Distinct same_name) (sym (solve-names sig s ts r e))
      (distinct-firsts same_name (names s) (map (λ u. u.name) (map (λ u. u.by) ts)) (trail-distinct s t)))

  -- takes among those that were solved are solved, by what the former solution extends
  among-solved : (s r : Subst) (ts us : List Taken) → IsTrail sig s → AllByRecursion (GivesFinal sig) ts
      → ((t : Taken) → In t us → In t ts) → solve sig s ts ≡ Some r → Solved sig s r us
  among-solved s r ts us t g f e =
      let k = solve-sound sig s r ts r e t.final g (extends-itself r (trail-solved s r ts t g e)) in
      solve-complete sig s r us k.0 (all-from_in (Obeys sig r) us (λ u i. all_in (Obeys sig r) ts u k.1 (f u i)))

  -- the order of the takes is free, and how often each stands among them
  pub order_free : (s r : Subst) (ts us : List Taken) → IsTrail sig s → AllByRecursion (GivesFinal sig) ts
      → ((t : Taken) → In t us → In t ts) → ((t : Taken) → In t ts → In t us) → solve sig s ts ≡ Some r
      → (q : Subst) × (solve sig s us ≡ Some q) × SameValues q r
  order_free s r ts us t g f h e =
      let a = among-solved s r ts us t g f e in
      let k : AllByRecursion (GivesFinal sig) us = all-from_in (GivesFinal sig) us
      (λ u i. all_in (GivesFinal sig) ts u g (f u i)) in
      let b = among-solved s a.after us ts t k h a.is in
      let same : Some b.after ≡ Some r = sym b.is ∙ e in
      let q : b.after ≡ r = cc in
      (a.after, a.is, same_values a.after r a.extends (subst (λ w. Extends w a.after) q b.extends))

  -- values that agree with r can be bound, and what comes out still agrees
  record AllBound (s v r : Subst) : Type 0 where
    after : Subst
    is : bind_all s v ≡ Some after
    extends : Extends after r

  bind_all-complete : (s v r : Subst) → Extends s r → Extends v r → AllBound s v r
  bind_all-complete s [] r h k = record { after = s; is = refl; extends = h }
  bind_all-complete s (b ∷ v) r h k =
      let m = bind-complete s r b.name b.value k.0.0 h k.0.1 k.0.2 in
      let i = bind_all-complete m.env_after v r m.extends k.1 in
      record { after = i.after; is = rw m.is i.is; extends = i.extends }

  -- and what agrees with what comes out agreed with all
  bind_all-sound : (s v r q : Subst) → bind_all s v ≡ Some r → AllFinal sig s → AllFinal sig v → Extends r q
      → Extends s q × Extends v q
  bind_all-sound s [] r q e h k x = let p : s ≡ r = cc in (subst (λ w. Extends w q) (sym p) x, tt)
  bind_all-sound s (b ∷ v) r q e h k x = by_first (bind s b.name b.value) refl e
      (λ w m f. bind_all-sound w v r q m f k.1 x)
    where
      by_first : (o : Option Subst) → bind s b.name b.value ≡ o → option_and_then (λ w. bind_all w v) o ≡ Some r
          → ((w : Subst) → bind_all w v ≡ Some r → AllFinal sig w → Extends w q × Extends v q)
          → Extends s q × Extends (b ∷ v) q
      by_first None p m go = cc
      by_first (Some w) p m go =
          let i = go w m (bind-final sig s b.name b.value w p h k.0) in
          let j = bind-sound s q b.name b.value w (all-arranged sig s h) (arranged-final sig b.value k.0) p i.0 in
          (j.0, (j.1, i.1))

  -- the names of what is bound are distinct
  bind-distinct : (s : Subst) (x : List ℕ) (w : Value) (r : Subst) → bind s x w ≡ Some r → IsTrail sig s
      → Distinct same_name (names r)
  bind-distinct s x w r e t =
      subst (Distinct same_name) (sym (bind-names s x w r e))
      (distinct-firsts same_name (names s) (x ∷ []) (trail-distinct s t))

  bind_all-trail : (s v r : Subst) → bind_all s v ≡ Some r → IsTrail sig s → AllFinal sig v → IsTrail sig r
  bind_all-trail s [] r e t k = let p : s ≡ r = cc in subst (IsTrail sig) p t
  bind_all-trail s (b ∷ v) r e t k = by_first (bind s b.name b.value) refl e (λ w m u. bind_all-trail w v r m u k.1)
    where
      by_first : (o : Option Subst) → bind s b.name b.value ≡ o → option_and_then (λ w. bind_all w v) o ≡ Some r
          → ((w : Subst) → bind_all w v ≡ Some r → IsTrail sig w → IsTrail sig r) → IsTrail sig r
      by_first None p m go = cc
      by_first (Some w) p m go = go w m
          (trail-of w (bind-final sig s b.name b.value w p t.final k.0) (bind-distinct s b.name b.value w p t))

  -- takes that are solved over a trail are solved by themselves, and their values merge with those of the trail, to
  -- the same values
  pub over-alone : (s r : Subst) (ts : List Taken) → IsTrail sig s → AllByRecursion (GivesFinal sig) ts
      → solve sig s ts ≡ Some r
      → (v : Subst) × (q : Subst) × (solve sig [] ts ≡ Some v) × (bind_all s v ≡ Some q) × SameValues q r
  over-alone s r ts t g e =
      let k = solve-sound sig s r ts r e t.final g (extends-itself r (trail-solved s r ts t g e)) in
      let a = solve-complete sig [] r ts tt k.1 in
      let b = bind_all-complete s a.after r k.0 a.extends in
      let f : AllFinal sig a.after = solve-final sig [] ts a.after a.is tt g in
      let u : IsTrail sig b.after = bind_all-trail s a.after b.after b.is t f in
      let c = bind_all-sound s a.after b.after b.after b.is t.final f (extends-itself b.after u) in
      let o = solve-sound sig [] b.after ts a.after a.is tt g c.1 in
      let d = solve-complete sig s b.after ts c.0 o.1 in
      let same : Some d.after ≡ Some r = sym d.is ∙ e in
      let p : d.after ≡ r = cc in
      (a.after, b.after, a.is, b.is, same_values b.after r b.extends (subst (λ w. Extends w b.after) p d.extends))

  -- and back: where the values merge, the takes are solved over the trail
  pub alone-over : (s v q : Subst) (ts : List Taken) → IsTrail sig s → AllByRecursion (GivesFinal sig) ts
      → solve sig [] ts ≡ Some v → bind_all s v ≡ Some q
      → (r : Subst) × (solve sig s ts ≡ Some r) × SameValues r q
  alone-over s v q ts t g e m =
      let f : AllFinal sig v = solve-final sig [] ts v e tt g in
      let u : IsTrail sig q = bind_all-trail s v q m t f in
      let k = bind_all-sound s v q q m t.final f (extends-itself q u) in
      let o = solve-sound sig [] q ts v e tt g k.1 in
      let a = solve-complete sig s q ts k.0 o.1 in
      let back = solve-sound sig s a.after ts a.after a.is t.final g
      (extends-itself a.after (trail-solved s a.after ts t g a.is)) in
      let alone = solve-complete sig [] a.after ts tt back.1 in
      let same : Some alone.after ≡ Some v = sym alone.is ∙ e in
      let p : alone.after ≡ v = cc in
      let b = bind_all-complete s v a.after back.0 (subst (λ w. Extends w a.after) p alone.extends) in
      let again : Some b.after ≡ Some q = sym b.is ∙ m in
      let w : b.after ≡ q = cc in
      (a.after, a.is, same_values a.after q a.extends (subst (λ z. Extends z a.after) w b.extends))

  -- trails with the same values solve the same takes, to the same values
  over-same : (s q r : Subst) → IsTrail sig q → SameValues s q → Extends s r → Extends q r
  over-same s q r t e x = all_found q (found-itself q (trail-distinct q t))
    where
      all_found : (b : Subst) → AllByRecursion (IsFound q) b → Extends b r
      all_found [] f = tt
      all_found (b ∷ bs) f = (at_value (Agrees r) s b.name b.value x (e b.name ∙ f.0), all_found bs f.1)

  pub solved-same : (s q r : Subst) (ts : List Taken) → IsTrail sig s → IsTrail sig q → SameValues s q
      → AllByRecursion (GivesFinal sig) ts → solve sig s ts ≡ Some r
      → (p : Subst) × (solve sig q ts ≡ Some p) × SameValues r p
  solved-same s q r ts t u e g h =
      let k = solve-sound sig s r ts r h t.final g (extends-itself r (trail-solved s r ts t g h)) in
      let a = solve-complete sig q r ts (over-same s q r u e k.0) k.1 in
      let w = solve-sound sig q a.after ts a.after a.is u.final g
      (extends-itself a.after (trail-solved q a.after ts u g a.is)) in
      let b = solve-complete sig s a.after ts (over-same q s a.after t (λ x. sym (e x)) w.0) w.1 in
      let same : Some b.after ≡ Some r = sym b.is ∙ h in
      let p : b.after ≡ r = cc in
      (a.after, a.is, same_values r a.after (subst (λ z. Extends z a.after) p b.extends) a.extends)

  -- values that are the same merge to the same
  pub bind_all-same : (s v w r : Subst) → IsTrail sig s → AllFinal sig v → AllFinal sig w
      → Distinct same_name (names v) → Distinct same_name (names w) → SameValues v w → bind_all s v ≡ Some r
      → (q : Subst) × (bind_all s w ≡ Some q) × SameValues r q
  bind_all-same s v w r t f g d u e h =
      let a = bind_all-sound s v r r h t.final f (extends-itself r (bind_all-trail s v r h t f)) in
      let b = bind_all-complete s w r a.0 (over-same v w r (trail-of w g u) e a.1) in
      let k = bind_all-sound s w b.after b.after b.is t.final g
      (extends-itself b.after (bind_all-trail s w b.after b.is t g)) in
      let c = bind_all-complete s v b.after k.0 (over-same w v b.after (trail-of v f d) (λ x. sym (e x)) k.1) in
      let same : Some c.after ≡ Some r = sym c.is ∙ h in
      let p : c.after ≡ r = cc in
      (b.after, b.is, same_values r b.after (subst (λ z. Extends z b.after) p c.extends) b.extends)
