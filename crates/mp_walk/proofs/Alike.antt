-- The steps of the walk are those of the machine that searches below each commutative operation, in some order, over
-- trails with the same values.
use Rattle.std.proofs.Common.{◌≡◌, ℕ, List, [], ◌∷◌, map, Bool, true, false, ◌&&◌, refl}
use Rattle.std.proofs.Common.{ap, sym, ◌∙◌, inl, inr, subst}
use Rattle.std.specs.Prelude.{Option, flat_map, if◌then◌else◌}
use Rattle.std.specs.List.{AllByRecursion}
use Rattle.mp_term.specs.Listing.{In}
use Rattle.mp_term.specs.Signature.{Sig}
use Rattle.mp_term.proofs.SearchLaws.{in-map, from_in-map, in-flat, from_in-flat}
use Rattle.mp_pattern.specs.Fits.{Entry}
use Rattle.mp_pattern.specs.NetTokens.{NetToken, sym_token, enter_token, leave_token, wild_token, comm_token}
use Rattle.mp_pattern.specs.PatternTree.{Wildcard, is_sequence, Pattern, symbol_pattern, app_pattern, wild_pattern}
use Rattle.mp_pattern.specs.PatternTree.{Patterns, no_patterns}
use Rattle.mp_pattern.specs.Size.{all_pattern_nodes}
use Rattle.mp_pattern.specs.Value.{Subst}
use Rattle.mp_theory.specs.Frames.{Frame, child, settle, is_done}
use Rattle.mp_theory.specs.Items.{items}
use Rattle.mp_theory.specs.Machine.{said}
use Rattle.mp_theory.specs.OneList.{Item}
use Rattle.mp_theory.specs.Trail.{listed_by}
use Rattle.mp_theory.proofs.ItemLaws.{items-derivations, in-listed_by}
use Rattle.mp_ac.specs.CommItems.{IsTrail, SameValues}
use Rattle.mp_ac.specs.CommList.{below}
use Rattle.mp_ac.proofs.Below.{arguments-fine}
use Rattle.mp_ac.proofs.ListLaws.{IsSearched, comm_list-searched, comm_list-trail}
use Rattle.mp_walk.specs.TokenMachine.{Open, State, rest_of_open, taken_below, opened, numbered_wildcard}
use Rattle.mp_walk.specs.TokenMachine.{entries_for, told, below_items, steps_in, steps_by, token_steps, token_ends}
use Rattle.mp_walk.proofs.ByRule.{searched}
use Rattle.mp_walk.proofs.Kept.{IsFineOpen, rest-fine, taken_below-fine, told-trail}
use Rattle.mp_walk.proofs.SameTrails.{solve-same, items-same, same-back, same-on}

-- what a step puts out, and the state after it
abbrev pub out : List Entry → State → List Entry × State
out es s = (es, s)

abbrev pub at : List Open → Subst → State
at fs s = record { open_ones = fs; trail = s }

-- the open operation as the frame of a child that is asked what its entry says
abbrev pub asking : Open → Frame
asking f = record { under = f.under; children = no_patterns; left = f.left; owes = f.owes }

module _ (sig : Sig) where
  -- the steps of the walk, and those of the machine that searches below a commutative operation
  abbrev pub Own : Open → List Open → Subst → NetToken → List (List Entry × State)
  Own = steps_in sig (below_items sig)

  abbrev pub Other : Open → List Open → Subst → NetToken → List (List Entry × State)
  Other = steps_in sig (searched sig)

  -- what is left to the open operations is fine, and the trail is one
  pub record IsReady (s : State) : Type 0 where
    pub opens : AllByRecursion (IsFineOpen sig) s.open_ones
    pub trail : IsTrail sig s.trail

  -- the items below an application that has the entry
  abbrev pub Found : ℕ → Patterns → Entry → Subst → List Item
  Found g ps e s = items sig (all_pattern_nodes ps) (settle (below g ps (taken_below e) e.collapsed)) s

  found-searched : (g : ℕ) (ps : Patterns) (e : Entry) (s : Subst)
      → searched sig (app_pattern g ps) e s ≡ Found g ps e s
  found-searched g ps e s = items-derivations sig (all_pattern_nodes ps)
      (settle (below g ps (taken_below e) e.collapsed)) s

  pub own-listed : (f : Open) (g : ℕ) (ps : Patterns) (e : Entry) (s : Subst) → IsFineOpen sig f
      → In e (entries_for sig f (app_pattern g ps)) → IsTrail sig s
      → IsSearched (below_items sig (app_pattern g ps) e s) (Found g ps e s)
  own-listed f g ps e s h i t =
      comm_list-searched sig g ps (taken_below e) e.collapsed
      ((arguments-fine sig g (taken_below e)).1 (taken_below-fine sig f g ps e h i)) s t

  own-trail : (f : Open) (g : ℕ) (ps : Patterns) (e : Entry) (s : Subst) → IsFineOpen sig f
      → In e (entries_for sig f (app_pattern g ps)) → IsTrail sig s → (i : Item)
      → In i (below_items sig (app_pattern g ps) e s) → IsTrail sig i.1
  own-trail f g ps e s h i t j m =
      comm_list-trail sig g ps (taken_below e) e.collapsed
      ((arguments-fine sig g (taken_below e)).1 (taken_below-fine sig f g ps e h i)) s j t m

  -- what one step puts out at a symbol, a wildcard, an application that is entered, and a whole application
  abbrev pub sym_out : List ℕ → Open → List Open → Subst → Entry → List Entry × State
  sym_out n f fs s e = out (e ∷ []) (at (rest_of_open (symbol_pattern n) e f ∷ fs) s)

  abbrev pub wild_out : Wildcard → Option ℕ → Open → List Open → Entry → Subst → List Entry × State
  wild_out w x f fs e r = out (e ∷ []) (at (rest_of_open (numbered_wildcard w x) e f ∷ fs) r)

  abbrev pub wild_outs : Wildcard → Option ℕ → Open → List Open → Subst → Entry → List (List Entry × State)
  wild_outs w x f fs s e = listed_by (λ r. wild_out w x f fs e r ∷ []) (told sig f (numbered_wildcard w x) e s)

  abbrev pub enter_out : ℕ → Open → List Open → Subst → Entry → List Entry × State
  enter_out g f fs s e = out (e ∷ []) (at (opened g e ∷ rest_of_open (app_pattern g no_patterns) e f ∷ fs) s)

  abbrev pub comm_out : Pattern → Open → List Open → Entry → Item → List Entry × State
  comm_out p f fs e i = out (e ∷ i.0) (at (rest_of_open p e f ∷ fs) i.1)

  -- ---- states stay ready

  pub steps-ready : (f : Open) (fs : List Open) (s : Subst) (k : NetToken) (x : List Entry × State) → IsFineOpen sig f
      → AllByRecursion (IsFineOpen sig) fs → IsTrail sig s → In x (Own f fs s k) → IsReady x.1
  steps-ready f fs s (sym_token n) x h hs t i =
      let a = from_in-map (sym_out n f fs s) x (entries_for sig f (symbol_pattern n)) i in
      subst (λ y. IsReady y.1) (sym a.1) (record {
        opens = (rest-fine sig f (symbol_pattern n) (symbol_pattern n) a.0 h a.2, hs);
        trail = t;
      })
  steps-ready f fs s (wild_token w v) x h hs t i = by_test (f.collapsed && is_sequence w) i
    where
      p : Pattern
      p = numbered_wildcard w v

      by_test : (b : Bool) → In x (if b then [] else flat_map (wild_outs w v f fs s)
          (entries_for sig f (numbered_wildcard w v)))
          → IsReady x.1
      by_test true i = absurd i
      by_test false i =
          let a = from_in-flat (wild_outs w v f fs s) x (entries_for sig f (numbered_wildcard w v)) i in
          let l = in-listed_by (λ r. wild_out w v f fs a.0 r ∷ []) (told sig f (numbered_wildcard w v) a.0 s) x a.2 in
          elim l.2 [
            | inl e ↦ subst (λ y. IsReady y.1) (sym e) (record {
              opens = (rest-fine sig f (numbered_wildcard w v) (numbered_wildcard w v) a.0 h a.1, hs);
              trail = told-trail sig f w _ a.0 s l.0 h a.1 t l.1;
            })
            | inr j ↦ absurd j
          ]
  steps-ready f fs s (enter_token g) x h hs t i =
      let a = from_in-map (enter_out g f fs s) x (entries_for sig f (app_pattern g no_patterns)) i in
      subst (λ y. IsReady y.1) (sym a.1) (record {
        opens = (
          taken_below-fine sig f g no_patterns a.0 h a.2,
          (rest-fine sig f (app_pattern g no_patterns) (app_pattern g no_patterns) a.0 h a.2, hs),
        );
        trail = t;
      })
  steps-ready f fs s (leave_token g) x h hs t i = by_done (is_done f.left f.owes) i
    where
      by_done : (b : Bool) → In x (if b then out [] (at fs s) ∷ [] else []) → IsReady x.1
      by_done true (inl e) = subst (λ y. IsReady y.1) (sym e) (record { opens = hs; trail = t })
      by_done true (inr j) = absurd j
      by_done false j = absurd j
  steps-ready f fs s (comm_token (symbol_pattern n)) x h hs t i =
      absurd ((from_in-flat (λ e. map (comm_out (symbol_pattern n) f fs e) []) x
      (entries_for sig f (symbol_pattern n)) i).2)
  steps-ready f fs s (comm_token (wild_pattern w v)) x h hs t i =
      absurd ((from_in-flat (λ e. map (comm_out (wild_pattern w v) f fs e) []) x
      (entries_for sig f (wild_pattern w v)) i).2)
  steps-ready f fs s (comm_token (app_pattern g ps)) x h hs t i =
      let p : Pattern = app_pattern g ps in
      let a = from_in-flat (λ e. map (comm_out (app_pattern g ps) f fs e) (below_items sig (app_pattern g ps) e s)) x
      (entries_for sig f (app_pattern g ps)) i in
      let b = from_in-map (comm_out (app_pattern g ps) f fs a.0) x (below_items sig (app_pattern g ps) a.0 s) a.2 in
      subst (λ y. IsReady y.1) (sym b.1) (record {
        opens = (rest-fine sig f (app_pattern g ps) (app_pattern g ps) a.0 h a.1, hs);
        trail = own-trail f g ps a.0 s h a.1 t b.0 b.2;
      })

  -- ---- a step of the one machine is one of the other

  -- a step like x
  record HasAlike (x : List Entry × State) (ys : List (List Entry × State)) : Type 0 where
    step : List Entry × State
    stands : In step ys
    entries : x.0 ≡ step.0
    opens : x.1.open_ones ≡ step.1.open_ones
    values : SameValues x.1.trail step.1.trail

  alike-at : (x y : List Entry × State) (ys : List (List Entry × State)) → x ≡ y → HasAlike y ys → HasAlike x ys
  alike-at x y ys e h = subst (λ z. HasAlike z ys) (sym e) h

  -- each item of the one below is like one of the other, in an open operation
  abbrev HaveAlike : (Pattern → Entry → Subst → List Item) → (Pattern → Entry → Subst → List Item) → Subst → Subst
      → Open → Type 0
  HaveAlike B C s r f = (p : Pattern) (e : Entry) → In e (entries_for sig f p) → (i : Item) → In i (B p e s)
      → (j : Item) × In j (C p e r) × (i.0 ≡ j.0) × SameValues i.1 j.1

  -- so that each step of the one machine is like one of the other
  steps-alike : (B C : Pattern → Entry → Subst → List Item) (f : Open) (fs : List Open) (s r : Subst) (k : NetToken)
      (x : List Entry × State) → HaveAlike B C s r f → SameValues s r → In x (steps_in sig B f fs s k)
      → HasAlike x (steps_in sig C f fs r k)
  steps-alike B C f fs s r (sym_token n) x h v i =
      let a = from_in-map (sym_out n f fs s) x (entries_for sig f (symbol_pattern n)) i in
      alike-at x (sym_out n f fs s a.0) (steps_in sig C f fs r (sym_token n)) a.1 (record {
        step = sym_out n f fs r a.0;
        stands = in-map (sym_out n f fs r) a.0 (entries_for sig f (symbol_pattern n)) a.2;
        entries = refl;
        opens = refl;
        values = v;
      })
  steps-alike B C f fs s r (wild_token w y) x h v i = by_test (f.collapsed && is_sequence w) i
    where
      by_test : (b : Bool) → In x (if b then [] else flat_map (wild_outs w y f fs s)
          (entries_for sig f (numbered_wildcard w y)))
          → HasAlike x (if b then [] else flat_map (wild_outs w y f fs r) (entries_for sig f (numbered_wildcard w y)))
      by_test true i = absurd i
      by_test false i =
          let a = from_in-flat (wild_outs w y f fs s) x (entries_for sig f (numbered_wildcard w y)) i in
          let l = in-listed_by (λ q. wild_out w y f fs a.0 q ∷ []) (told sig f (numbered_wildcard w y) a.0 s) x a.2 in
          let b = solve-same sig s r (said (child (numbered_wildcard w y) (asking f) []) a.0) l.0 v l.1 in
          elim l.2 [
            | inl e ↦ alike-at x (wild_out w y f fs a.0 l.0)
                (flat_map (wild_outs w y f fs r) (entries_for sig f (numbered_wildcard w y))) e (record {
                  step = wild_out w y f fs a.0 b.0;
                  stands = in-flat (wild_outs w y f fs r) a.0 (wild_out w y f fs a.0 b.0)
                      (entries_for sig f (numbered_wildcard w y)) a.1
                      (subst (λ o. In (wild_out w y f fs a.0 b.0) (listed_by (λ q. wild_out w y f fs a.0 q ∷ []) o))
                      (sym b.1) (inl refl));
                  entries = refl;
                  opens = refl;
                  values = b.2;
                })
            | inr j ↦ absurd j
          ]
  steps-alike B C f fs s r (enter_token g) x h v i =
      let a = from_in-map (enter_out g f fs s) x (entries_for sig f (app_pattern g no_patterns)) i in
      alike-at x (enter_out g f fs s a.0) (steps_in sig C f fs r (enter_token g)) a.1 (record {
        step = enter_out g f fs r a.0;
        stands = in-map (enter_out g f fs r) a.0 (entries_for sig f (app_pattern g no_patterns)) a.2;
        entries = refl;
        opens = refl;
        values = v;
      })
  steps-alike B C f fs s r (leave_token g) x h v i = by_done (is_done f.left f.owes) i
    where
      by_done : (b : Bool) → In x (if b then out [] (at fs s) ∷ [] else [])
          → HasAlike x (if b then out [] (at fs r) ∷ [] else [])
      by_done true (inl e) = alike-at x (out [] (at fs s)) (out [] (at fs r) ∷ []) e
          (record { step = out [] (at fs r); stands = inl refl; entries = refl; opens = refl; values = v })
      by_done true (inr j) = absurd j
      by_done false j = absurd j
  steps-alike B C f fs s r (comm_token p) x h v i =
      let a = from_in-flat (λ e. map (comm_out p f fs e) (B p e s)) x (entries_for sig f p) i in
      let b = from_in-map (comm_out p f fs a.0) x (B p a.0 s) a.2 in
      let j = h p a.0 a.1 b.0 b.2 in
      alike-at x (comm_out p f fs a.0 b.0) (steps_in sig C f fs r (comm_token p)) b.1 (record {
        step = comm_out p f fs a.0 j.0;
        stands = in-flat (λ e. map (comm_out p f fs e) (C p e r)) a.0 (comm_out p f fs a.0 j.0) (entries_for sig f p)
            a.1 (in-map (comm_out p f fs a.0) j.0 (C p a.0 r) j.1);
        entries = ap (λ T. a.0 ∷ T) j.2;
        opens = refl;
        values = j.3;
      })

  -- the items below of the walk, and those of the search
  there-below : (f : Open) (s r : Subst) → IsFineOpen sig f → IsTrail sig s → SameValues s r
      → HaveAlike (below_items sig) (searched sig) s r f
  there-below f s r h t v (symbol_pattern n) e m i k = absurd k
  there-below f s r h t v (wild_pattern w y) e m i k = absurd k
  there-below f s r h t v (app_pattern g ps) e m i k =
      let j = (own-listed f g ps e s h m t).from i k in
      let q = items-same sig (all_pattern_nodes ps) (settle (below g ps (taken_below e) e.collapsed)) s r j.0.0 j.0.1 v
      j.1 in (
        (j.0.0, q.0),
        subst (In (j.0.0, q.0)) (sym (found-searched g ps e r)) q.1,
        j.2,
        same-on i.1 j.0.1 q.0 j.3 q.2,
      )

  back-below : (f : Open) (s r : Subst) → IsFineOpen sig f → IsTrail sig s → SameValues r s
      → HaveAlike (searched sig) (below_items sig) r s f
  back-below f s r h t v (symbol_pattern n) e m i k = absurd k
  back-below f s r h t v (wild_pattern w y) e m i k = absurd k
  back-below f s r h t v (app_pattern g ps) e m i k =
      let q = items-same sig (all_pattern_nodes ps) (settle (below g ps (taken_below e) e.collapsed)) r s i.0 i.1 v
      (subst (In i) (found-searched g ps e r) k) in
      let j = (own-listed f g ps e s h m t).found (i.0, q.0) q.1 in
      (j.0, j.1, sym j.2, same-on i.1 q.0 j.0.1 q.2 (same-back j.0.1 q.0 j.3))

  -- ---- runs

  -- the one state is ready and the other like it
  pub record AreAlike (s r : State) : Type 0 where
    pub opens : s.open_ones ≡ r.open_ones
    pub values : SameValues s.trail r.trail
    pub ready : IsReady s

  pub ends-alike : (s r : State) → s.open_ones ≡ r.open_ones → token_ends s ≡ token_ends r
  ends-alike s r e = ap (λ os. token_ends (at os s.trail)) e

  -- a step of the one has one of the other that puts out the same and leads to a state like it
  pub there : (s r : State) (k : NetToken) (x : List Entry × State) → AreAlike s r → In x (token_steps sig s k)
      → (y : List Entry × State) × In y (steps_by sig (searched sig) r k) × (x.0 ≡ y.0) × AreAlike x.1 y.1
  there s r k x a i = by_opens s.open_ones s.open_ones a.opens refl a.ready.opens i
    where
      by_opens : (os qs : List Open) → qs ≡ r.open_ones → qs ≡ os → AllByRecursion (IsFineOpen sig) os
          → In x (token_steps sig (at os s.trail) k)
          → (y : List Entry × State) × In y (steps_by sig (searched sig) r k) × (x.0 ≡ y.0) × AreAlike x.1 y.1
      by_opens [] qs e q h i = absurd i
      by_opens (f ∷ fs) qs e q h i =
          let l = steps-alike (below_items sig) (searched sig) f fs s.trail r.trail k x
          (there-below f s.trail r.trail h.0 a.ready.trail a.values) a.values i in (
            l.step,
            subst (λ os. In l.step (steps_by sig (searched sig) (at os r.trail) k)) (sym q
                ∙ e) l.stands,
            l.entries,
            record {
              opens = l.opens;
              values = l.values;
              ready =
                  steps-ready f fs s.trail k x h.0 h.1 a.ready.trail i;
            },
          )

  pub back : (r s : State) (k : NetToken) (x : List Entry × State) → AreAlike s r
      → In x (steps_by sig (searched sig) r k)
      → (y : List Entry × State) × In y (token_steps sig s k) × (x.0 ≡ y.0) × AreAlike y.1 x.1
  back r s k x a i = by_opens s.open_ones s.open_ones a.opens refl a.ready.opens
    where
      by_opens : (os qs : List Open) → qs ≡ r.open_ones → qs ≡ os → AllByRecursion (IsFineOpen sig) os
          → (y : List Entry × State) × In y (token_steps sig s k) × (x.0 ≡ y.0) × AreAlike y.1 x.1
      by_opens [] qs e q h = absurd (subst (λ os. In x (steps_by sig (searched sig) (at os r.trail) k)) (sym e ∙ q) i)
      by_opens (f ∷ fs) qs e q h =
          let j : In x (Other f fs r.trail k) = subst (λ os. In x (steps_by sig (searched sig) (at os r.trail) k))
          (sym e ∙ q) i in
          let v = same-back s.trail r.trail a.values in
          let l = steps-alike (searched sig) (below_items sig) f fs r.trail s.trail k x
          (back-below f s.trail r.trail h.0 a.ready.trail v) v j in (
            l.step,
            own (f ∷ fs) l.step (sym a_opens) l.stands,
            l.entries,
            record {
              opens = sym l.opens;
              values = same-back x.1.trail l.step.1.trail l.values;
              ready = steps-ready f fs s.trail k l.step h.0 h.1 a.ready.trail l.stands;
            },
          )
        where
          a_opens : s.open_ones ≡ f ∷ fs
          a_opens = a.opens ∙ sym e ∙ q

          own : (os : List Open) (y : List Entry × State) → os ≡ s.open_ones → In y (token_steps sig (at os s.trail) k)
              → In y (token_steps sig s k)
          own os y p j = subst (λ os. In y (token_steps sig (at os s.trail) k)) p j
