-- A wildcard that takes all that is left has no entry above.
use Rattle.std.proofs.Common.{◌≡◌, ℕ, ◌<◌, ◌≤◌, List, [], ◌∷◌, length, Bool, true, false, refl, ap, sym}
use Rattle.std.proofs.Common.{◌∙◌, subst, take, arith}
use Rattle.std.specs.Prelude.{Option, if◌then◌else◌}
use Rattle.std.specs.Ordering.{is_lt, nat_cmp}
use Rattle.std.proofs.lemmas.Bool.{and_parts}
use Rattle.std.proofs.lemmas.Cmp.{by_ranked, ranked, tied_itself}
use Rattle.mp_term.specs.Order.{tree_cmp}
use Rattle.mp_term.specs.OrderLaws.{tree_cmp_total, tree_same}
use Rattle.mp_term.specs.Pieces.{same, is_piece, is_sublist}
use Rattle.mp_term.specs.Search.{In}
use Rattle.mp_term.specs.Signature.{Sig}
use Rattle.mp_term.specs.Tree.{Tree}
use Rattle.mp_term.proofs.PiecesLaws.{same-sound, length-without, sublist-from_piece}
use Rattle.mp_pattern.specs.DerivationOrder.{entry_cmp}
use Rattle.mp_pattern.specs.Fits.{Entry}
use Rattle.mp_pattern.specs.PatternTree.{Wildcard, Pattern, wild_pattern}
use Rattle.mp_pattern.specs.Variables.{comm_above}
use Rattle.mp_pattern.specs.View.{pattern_tree}
use Rattle.mp_theory.specs.Frames.{Frame, Next, child}
use Rattle.mp_theory.specs.Items.{above_entry}
use Rattle.mp_theory.specs.Machine.{reads, choices}
use Rattle.mp_theory.specs.Trail.{allows}
use Rattle.mp_theory.proofs.KeptValues.{filter-none}
use Rattle.mp_theory.proofs.Tables.{entry_cmp_total}
use Rattle.mp_theory.proofs.Walk.{choices-exact}
use Rattle.mp_search.specs.declared.level.Level.{Level}
use Rattle.mp_search.specs.declared.query.Query.{Query}
use Rattle.mp_search.specs.declared.stack.Place.{Place}
use Rattle.mp_search.specs.At.{IsAt}
use Rattle.mp_search.specs.Frames.{inner_of, stack_frames, place_after}
use Rattle.mp_search.specs.Reading.{entry_at}

-- a sublist is no longer
sublist-short : (l ts : List Tree) → is_sublist tree_cmp l ts ≡ true → length l ≤ length ts
sublist-short l ts h = omega (arith, length-without tree_cmp tree_cmp_total tree_same l ts h)

-- a sublist that is as long is the list
pub sublist-whole : (l ts : List Tree) → is_sublist tree_cmp l ts ≡ true → length l ≡ length ts → l ≡ ts
sublist-whole [] [] h n = refl
sublist-whole [] (t ∷ ts) h n = absurd (omega (arith, n))
sublist-whole (e ∷ l) [] h n = absurd (omega (arith, n))
sublist-whole (e ∷ l) (t ∷ ts) h n =
    elim (same tree_cmp t e) as (λ b. same tree_cmp t e ≡ b
    → (if b then is_sublist tree_cmp l ts else is_sublist tree_cmp (e ∷ l) ts) ≡ true → e ∷ l ≡ t ∷ ts) [
      | true ↦ λ q k. ap (λ x. x ∷ l) (sym (same-sound tree_cmp tree_cmp_total tree_same t e q))
          ∙ ap (λ xs. t ∷ xs) (sublist-whole l ts k (omega (arith, n)))
      | false ↦ λ q k. absurd (omega (arith, n, sublist-short (e ∷ l) ts k))
    ] refl h

-- a wildcard reads no list collapsed
plain : (sig : Sig) (w : Wildcard) (x : Option (List ℕ)) (f : Option ℕ) (e : Entry)
    → reads sig (wild_pattern w x) f e ≡ true → e.collapsed ≡ false
plain sig w x f e h = by_side e.collapsed refl
  where
    by_side : (c : Bool) → e.collapsed ≡ c → c ≡ false
    by_side true i = cc
    by_side false i = refl

pub same-entry : (d e : Entry) → d.terms ≡ e.terms → d.collapsed ≡ e.collapsed → d ≡ e
same-entry d e t c = rw (t, c) refl

module _ (sig : Sig) (w : Wildcard) (x : Option (List ℕ)) (f : Frame) (fs : List Frame) (e : Entry)
    (a : allows sig (child (wild_pattern w x) f fs) e ≡ true) (n : length e.terms ≡ length f.left) where
  parts : (is_piece tree_cmp (comm_above sig f.under) e.terms f.left ≡ true)
      × (reads sig (wild_pattern w x) f.under e ≡ true)
  parts = and_parts (is_piece tree_cmp (comm_above sig f.under) e.terms f.left)
      (reads sig (wild_pattern w x) f.under e) a

  among : (l : List Tree) → is_piece tree_cmp (comm_above sig f.under) l f.left ≡ true
      → is_sublist tree_cmp l f.left ≡ true
  among l = sublist-from_piece tree_cmp tree_cmp_total tree_same (comm_above sig f.under) l f.left

  no-above : (d : Entry) → In d (choices sig (child (wild_pattern w x) f fs)) → is_lt (entry_cmp e d) ≡ false
  no-above d i =
      let c = (choices-exact sig (wild_pattern w x) f fs d.terms d.collapsed).0 i in
      let s = among d.terms c.0 in
      let whole : e.terms ≡ f.left = sublist-whole e.terms f.left (among e.terms parts.0) n in
      by_length c.1 s whole (sublist-short d.terms f.left s)
    where
      by_length : reads sig (wild_pattern w x) f.under d ≡ true → is_sublist tree_cmp d.terms f.left ≡ true
          → e.terms ≡ f.left → length d.terms ≤ length f.left → is_lt (entry_cmp e d) ≡ false
      by_length r s whole m =
          by_ranked (length e.terms < length d.terms) (length e.terms ≡ length d.terms)
          (length d.terms < length e.terms) (nat_cmp (length e.terms) (length d.terms))
          (ranked (length e.terms) (length d.terms) (nat_cmp (length e.terms) (length d.terms)) refl)
          (λ q h. absurd (omega (arith, m, n, h)))
          (λ q h.
          let l : length d.terms ≡ length f.left = omega (arith, n, h) in
          let is : e ≡ d = same-entry e d (whole ∙ sym (sublist-whole d.terms f.left s l))
          (plain sig w x f.under e parts.1 ∙ sym (plain sig w x f.under d r)) in
          subst (λ z. is_lt (entry_cmp e z) ≡ false) is (ap is_lt (tied_itself entry_cmp_total e)))
          (λ q h. rw q refl)

  pub nothing-above : above_entry e (choices sig (child (wild_pattern w x) f fs)) ≡ []
  nothing-above = filter-none (λ d. is_lt (entry_cmp e d)) (choices sig (child (wild_pattern w x) f fs)) no-above

left_at : Next → List Tree
left_at (child p f fs) = f.left
left_at n = []

-- so it is at a place
pub nothing-above-at : (q : Query) (k : ℕ) (L : List Level) (p : Place) (w : Wildcard) (x : Option (List ℕ))
    (c : Pattern) (g : Frame) (fs : List Frame) → IsAt q (take k L) p → pattern_tree p.child.now ≡ wild_pattern w x
    → allows q.sig.now (place_after q (take k L)) (entry_at q.table.now L k) ≡ true
    → child c g fs ≡ place_after q (take k L) → length (entry_at q.table.now L k).terms ≡ length g.left
    → above_entry (entry_at q.table.now L k) (choices q.sig.now (place_after q (take k L))) ≡ []
unfolding left_at
nothing-above-at q k L p w x c g fs at i a s n =
    let e = entry_at q.table.now L k in
    let f = inner_of q (take k L) p in
    let outer = stack_frames q (take k L) p.outer.now in
    let lefts : g.left ≡ f.left = ap left_at (s ∙ sym at.stands) in
    subst (λ m. above_entry e (choices q.sig.now m) ≡ []) at.stands
    (subst (λ r. above_entry e (choices q.sig.now (child r f outer)) ≡ []) (sym i)
    (nothing-above q.sig.now w x f outer e
    (subst (λ r. allows q.sig.now (child r f outer) e ≡ true) i
    (subst (λ m. allows q.sig.now m e ≡ true) (sym at.stands) a)) (n ∙ ap length lefts)))
