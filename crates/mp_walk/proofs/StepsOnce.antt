-- No step of a walk comes twice, and the steps of one token put out as much.
use Rattle.std.proofs.Common.{◌≡◌, ℕ, suc, List, [], ◌∷◌, map, length, Bool, true, false, ◌&&◌, refl, ap}
use Rattle.std.proofs.Common.{sym, ◌∙◌, inl, inr, subst, arith}
use Rattle.std.specs.Prelude.{Some, None, flat_map, if◌then◌else◌}
use Rattle.std.specs.declared.cmp.Ordering.{Ordering}
use Rattle.std.specs.declared.cmp.Ordering.TheVariants.{Less}
use Rattle.std.specs.Cmp.{IsTotalOrder}
use Rattle.std.specs.List.{AllByRecursion}
use Rattle.std.specs.List.Sorted.{IsStrictlySortedBy}
use Rattle.std.proofs.lemmas.List.{map-append}
use Rattle.mp_term.specs.Listing.{In}
use Rattle.mp_term.specs.Signature.{Sig}
use Rattle.mp_term.proofs.ListingLaws.{all_in, irreflexive}
use Rattle.mp_term.proofs.SearchLaws.{in-map, from_in-map, from_in-flat}
use Rattle.mp_pattern.specs.Fits.{Entry, Table}
use Rattle.mp_pattern.specs.NetTokens.{NetToken, sym_token, enter_token, leave_token, wild_token, comm_token}
use Rattle.mp_pattern.specs.PatternTree.{is_sequence, Pattern, symbol_pattern, app_pattern, wild_pattern}
use Rattle.mp_pattern.specs.PatternTree.{no_patterns}
use Rattle.mp_pattern.specs.Size.{all_pattern_nodes}
use Rattle.mp_pattern.specs.Value.{Subst}
use Rattle.mp_theory.specs.Frames.{child, settle, is_done}
use Rattle.mp_theory.specs.OneList.{Item, item_tables}
use Rattle.mp_theory.specs.Trail.{listed_by}
use Rattle.mp_theory.proofs.ItemLaws.{in-listed_by}
use Rattle.mp_theory.proofs.ItemTables.{items-exact}
use Rattle.mp_theory.proofs.Tables.{entry_cmp_total, choices-ascending}
use Rattle.mp_ac.specs.CommItems.{NoneTwice, IsTrail}
use Rattle.mp_ac.specs.CommList.{below}
use Rattle.mp_walk.specs.TokenMachine.{Open, State, taken_below, numbered_wildcard, entries_for, told, below_items}
use Rattle.mp_walk.specs.TokenMachine.{token_steps}
use Rattle.mp_walk.proofs.Alike.{IsReady, Own, sym_out, wild_out, wild_outs, enter_out, comm_out, out, at}
use Rattle.mp_walk.proofs.Alike.{asking, own-listed, steps-ready}
use Rattle.mp_walk.proofs.ForestLaws.{none-append}
use Rattle.mp_walk.proofs.Kept.{IsFineOpen}

-- what ascends strictly stands once
once-ascending : {X : Type 0} (cmp : X → X → Ordering) → IsTotalOrder cmp → (xs : List X) → IsStrictlySortedBy cmp xs
    → NoneTwice xs
unfolding IsStrictlySortedBy
once-ascending cmp total [] h = tt
once-ascending cmp total (x ∷ xs) h = (
  λ i. irreflexive cmp total x (all_in (λ y. cmp x y ≡ Less) xs x h.0 i),
  once-ascending cmp total xs h.1,
)

-- what is put out
abbrev outs : List (List Entry × State) → List (List Entry)
outs xs = map (λ x. x.0) xs

-- steps that each begin with an entry of their own
outs-once : (f : Entry → List Entry × State) (es : List Entry) → ((e : Entry) → (f e).0 ≡ e ∷ []) → NoneTwice es
    → NoneTwice (outs (map f es))
outs-once f [] h o = tt
outs-once f (e ∷ es) h o = (
  λ i.
      let a = from_in-map (λ (x : List Entry × State). x.0) (f e).0 (map f es) i in
      let b = from_in-map f a.0 es a.2 in
      let p : e ∷ [] ≡ b.0 ∷ [] = sym (h e) ∙ a.1 ∙ ap (λ (x : List Entry × State). x.0) b.1 ∙ h b.0 in
      let q : e ≡ b.0 = cc in
      o.0 (subst (λ z. In z es) (sym q) b.2),
  outs-once f es h o.1,
)

-- what begins with an entry
record BeginsWith (e : Entry) (T : List Entry) : Type 0 where
  rest : List Entry
  is : T ≡ e ∷ rest

flat-once : (F : Entry → List (List Entry × State)) (es : List Entry)
    → ((e : Entry) (x : List Entry × State) → In x (F e) → BeginsWith e x.0)
    → ((e : Entry) → In e es → NoneTwice (outs (F e))) → NoneTwice es → NoneTwice (outs (flat_map F es))
flat-once F [] h k o = tt
flat-once F (e ∷ es) h k o =
    subst NoneTwice (sym (map-append (λ (x : List Entry × State). x.0) (F e) (flat_map F es)))
    (none-append (outs (F e)) (outs (flat_map F es)) (k e (inl refl)) (flat-once F es h (λ d i. k d (inr i)) o.1)
    (λ T i j.
    let a = from_in-map (λ (x : List Entry × State). x.0) T (F e) i in
    let b = from_in-map (λ (x : List Entry × State). x.0) T (flat_map F es) j in
    let c = from_in-flat F b.0 es b.2 in
    let m = h e a.0 a.2 in
    let n = h c.0 b.0 c.2 in
    let p : e ∷ m.rest ≡ c.0 ∷ n.rest = sym m.is ∙ sym a.1 ∙ b.1 ∙ n.is in
    let q : e ≡ c.0 = cc in
    o.0 (subst (λ z. In z es) (sym q) c.1)))

module _ (sig : Sig) where
  entries-once : (f : Open) (p : Pattern) → NoneTwice (entries_for sig f p)
  entries-once f p = once-ascending _ entry_cmp_total (entries_for sig f p)
      (choices-ascending sig (child p (asking f) []))

  -- the items below an entry, each with the entry in front
  comm-once : (p : Pattern) (f : Open) (fs : List Open) (e : Entry) (is : List Item) → NoneTwice (item_tables is)
      → NoneTwice (outs (map (comm_out sig p f fs e) is))
  comm-once p f fs e [] h = tt
  comm-once p f fs e (i ∷ is) h = (
    λ m.
        let a = from_in-map (λ (x : List Entry × State). x.0) (e ∷ i.0) (map (comm_out sig p f fs e) is) m in
        let b = from_in-map (comm_out sig p f fs e) a.0 is a.2 in
        let q : e ∷ i.0 ≡ e ∷ b.0.0 = a.1 ∙ ap (λ (x : List Entry × State). x.0) b.1 in
        let r : i.0 ≡ b.0.0 = cc in
        h.0 (subst (λ T. In T (item_tables is)) (sym r) (in-map (λ (j : Item). j.0) b.0 is b.2)),
    comm-once p f fs e is h.1,
  )

  pub steps-once : (f : Open) (fs : List Open) (s : Subst) (k : NetToken) → IsFineOpen sig f → IsTrail sig s
      → NoneTwice (outs (Own sig f fs s k))
  steps-once f fs s (sym_token n) h t =
      outs-once (sym_out sig n f fs s) (entries_for sig f (symbol_pattern n)) (λ e. refl)
      (entries-once f (symbol_pattern n))
  steps-once f fs s (enter_token g) h t =
      outs-once (enter_out sig g f fs s) (entries_for sig f (app_pattern g no_patterns)) (λ e. refl)
      (entries-once f (app_pattern g no_patterns))
  steps-once f fs s (leave_token g) h t =
      elim (is_done f.left f.owes) as (λ b. NoneTwice (outs (if b then out [] (at fs s) ∷ [] else []))) [
        | true ↦ ((λ i. i), tt)
        | false ↦ tt
      ]
  steps-once f fs s (wild_token w y) h t =
      elim (f.collapsed && is_sequence w) as (λ b. NoneTwice (outs (if b then []
      else flat_map (wild_outs sig w y f fs s) (entries_for sig f (numbered_wildcard w y))))) [
        | true ↦ tt
        | false ↦ flat-once (wild_outs sig w y f fs s) (entries_for sig f (numbered_wildcard w y))
            (λ e x i.
            let l = in-listed_by (λ r. wild_out sig w y f fs e r ∷ [])
            (told sig f (numbered_wildcard w y) e s) x i in
            elim l.2 [
              | inl q ↦ record { rest = []; is = ap (λ (x : List Entry × State). x.0) q }
              | inr j ↦ absurd j
            ])
            (λ e i. elim (told sig f (numbered_wildcard w y) e s) as
            (λ o. NoneTwice (outs (listed_by (λ r. wild_out sig w y f fs e r ∷ []) o))) [
              | None ↦ tt
              | Some r ↦
                  ((λ i. i), tt)
            ])
            (entries-once f (numbered_wildcard w y))
      ]
  steps-once f fs s (comm_token (symbol_pattern n)) h t =
      flat-once (λ e. map (comm_out sig (symbol_pattern n) f fs e) []) (entries_for sig f (symbol_pattern n))
      (λ e x i. absurd i) (λ e i. tt) (entries-once f (symbol_pattern n))
  steps-once f fs s (comm_token (wild_pattern w y)) h t =
      flat-once (λ e. map (comm_out sig (wild_pattern w y) f fs e) []) (entries_for sig f (wild_pattern w y))
      (λ e x i. absurd i) (λ e i. tt) (entries-once f (wild_pattern w y))
  steps-once f fs s (comm_token (app_pattern g ps)) h t =
      flat-once (λ e. map (comm_out sig (app_pattern g ps) f fs e) (below_items sig (app_pattern g ps) e s))
      (entries_for sig f (app_pattern g ps))
      (λ e x i.
      let b = from_in-map (comm_out sig (app_pattern g ps) f fs e) x (below_items sig (app_pattern g ps) e s) i in
      record { rest = b.0.0; is = ap (λ (x : List Entry × State). x.0) b.1 })
      (λ e i. comm-once (app_pattern g ps) f fs e (below_items sig (app_pattern g ps) e s)
      (own-listed sig f g ps e s h i t).once)
      (entries-once f (app_pattern g ps))

  -- how many entries a token puts out
  abbrev width : NetToken → ℕ
  width (leave_token g) = 0
  width (comm_token (app_pattern g ps)) = suc (all_pattern_nodes ps)
  width k = 1

  steps-wide : (f : Open) (fs : List Open) (s : Subst) (k : NetToken) (x : List Entry × State) → IsFineOpen sig f
      → IsTrail sig s → In x (Own sig f fs s k) → length x.0 ≡ width k
  steps-wide f fs s (sym_token n) x h t i =
      let a = from_in-map (sym_out sig n f fs s) x (entries_for sig f (symbol_pattern n)) i in
      ap (λ (y : List Entry × State). length y.0) a.1 ∙ one a.0
    where
      one : (e : Entry) → length (e ∷ []) ≡ 1
      one e = omega arith
  steps-wide f fs s (enter_token g) x h t i =
      let a = from_in-map (enter_out sig g f fs s) x (entries_for sig f (app_pattern g no_patterns)) i in
      ap (λ (y : List Entry × State). length y.0) a.1 ∙ one a.0
    where
      one : (e : Entry) → length (e ∷ []) ≡ 1
      one e = omega arith
  steps-wide f fs s (leave_token g) x h t i = by_done (is_done f.left f.owes) i
    where
      by_done : (b : Bool) → In x (if b then out [] (at fs s) ∷ [] else []) → length x.0 ≡ 0
      by_done true (inl e) = ap (λ (y : List Entry × State). length y.0) e
      by_done true (inr j) = absurd j
      by_done false j = absurd j
  steps-wide f fs s (wild_token w y) x h t i = by_test (f.collapsed && is_sequence w) i
    where
      by_test : (b : Bool) → In x (if b then [] else flat_map (wild_outs sig w y f fs s)
          (entries_for sig f (numbered_wildcard w y)))
          → length x.0 ≡ 1
      by_test true i = absurd i
      by_test false i =
          let a = from_in-flat (wild_outs sig w y f fs s) x (entries_for sig f (numbered_wildcard w y)) i in
          let l = in-listed_by (λ r. wild_out sig w y f fs a.0 r ∷ [])
          (told sig f (numbered_wildcard w y) a.0 s) x a.2 in
          elim l.2 [
            | inl e ↦ (let q : length x.0 ≡ length (a.0 ∷ []) = ap
                (λ (z : List Entry × State). length z.0) e in omega arith)
            | inr j ↦ absurd j
          ]
  steps-wide f fs s (comm_token (symbol_pattern n)) x h t i =
      absurd ((from_in-flat (λ e. map (comm_out sig (symbol_pattern n) f fs e) []) x
      (entries_for sig f (symbol_pattern n)) i).2)
  steps-wide f fs s (comm_token (wild_pattern w y)) x h t i =
      absurd ((from_in-flat (λ e. map (comm_out sig (wild_pattern w y) f fs e) []) x
      (entries_for sig f (wild_pattern w y)) i).2)
  steps-wide f fs s (comm_token (app_pattern g ps)) x h t i =
      let a = from_in-flat (λ e. map (comm_out sig (app_pattern g ps) f fs e)
      (below_items sig (app_pattern g ps) e s)) x
      (entries_for sig f (app_pattern g ps)) i in
      let b = from_in-map (comm_out sig (app_pattern g ps) f fs a.0) x
      (below_items sig (app_pattern g ps) a.0 s) a.2 in
      let j = (own-listed sig f g ps a.0 s h a.1 t).from b.0 b.2 in
      let l = (items-exact sig (all_pattern_nodes ps)
      (settle (below g ps (taken_below a.0) a.0.collapsed)) s j.0.0 j.0.1).0 j.1 in
      let n : length b.0.0 ≡ length j.0.0 = ap (λ (T : Table). length T) j.2 in
      let m : length x.0 ≡ suc (length b.0.0) = ap (λ (z : List Entry × State). length z.0) b.1 in
      omega (arith, l.0)

  -- of a state
  pub state-once : (s : State) (k : NetToken) → IsReady sig s → NoneTwice (outs (token_steps sig s k))
  state-once s k h = elim s.open_ones as (λ os. AllByRecursion (IsFineOpen sig) os
      → NoneTwice (outs (token_steps sig (at os s.trail) k))) [
        | [] ↦ λ a. tt
        | f ∷ fs ↦ λ a. steps-once f fs s.trail k a.0 h.trail
      ] h.opens

  state-wide : (s : State) (k : NetToken) (x : List Entry × State) → IsReady sig s → In x (token_steps sig s k)
      → length x.0 ≡ width k
  state-wide s k x h i = (elim s.open_ones as (λ os. AllByRecursion (IsFineOpen sig) os
      → In x (token_steps sig (at os s.trail) k) → length x.0 ≡ width k) [
        | [] ↦ λ a j. absurd j
        | f ∷ fs ↦ λ a j. steps-wide f fs s.trail k x a.0 h.trail j
      ]) h.opens i

  pub state-even : (s : State) (k : NetToken) (x y : List Entry × State) → IsReady sig s
      → In x (token_steps sig s k)
      → In y (token_steps sig s k) → length x.0 ≡ length y.0
  state-even s k x y h i j = state-wide s k x h i ∙ sym (state-wide s k y h j)

  pub state-ready : (s : State) (k : NetToken) (x : List Entry × State) → IsReady sig s
      → In x (token_steps sig s k) → IsReady sig x.1
  state-ready s k x h i = (elim s.open_ones as (λ os. AllByRecursion (IsFineOpen sig) os
      → In x (token_steps sig (at os s.trail) k) → IsReady sig x.1) [
        | [] ↦ λ a j. absurd j
        | f ∷ fs ↦ λ a j. steps-ready sig f fs s.trail k x a.0 a.1 h.trail j
      ]) h.opens i
