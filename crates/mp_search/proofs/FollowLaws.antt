-- What a search counts on behind an entry that is bound, and what it finds there.
use Rattle.std.proofs.Common.{◌≡◌, ℕ, suc, ◌<◌, ◌≤◌, ◌+◌, ◌-◌, List, [], ◌∷◌, map, take, drop, length, Bool}
use Rattle.std.proofs.Common.{true, false, refl, ap, sym, ◌∙◌, subst, arith}
use Rattle.std.specs.Prelude.{filter, Option, Some, slice_get, slice_index_or, MatchBool}
use Rattle.mp_term.specs.Order.{tree_cmp}
use Rattle.mp_term.specs.Pieces.{without}
use Rattle.mp_pattern.specs.Fits.{Entry}
use Rattle.mp_pattern.specs.Value.{Subst}
use Rattle.mp_subst.specs.Trail.{Trail, cut, GoesWith}
use Rattle.mp_subst.proofs.TrailLaws.{cut-kept, cut-whole}
use Rattle.mp_theory.specs.Solve.{solve}
use Rattle.mp_theory.specs.Frames.{Next}
use Rattle.mp_theory.specs.Items.{items, behind}
use Rattle.mp_theory.specs.Machine.{onward, said}
use Rattle.mp_theory.specs.Narrow.{load}
use Rattle.mp_theory.specs.OneList.{Item}
use Rattle.mp_theory.specs.Trail.{allows}
use Rattle.mp_search.specs.declared.level.Level.{Level}
use Rattle.mp_search.specs.declared.mode.Mode.{Mode}
use Rattle.mp_search.specs.declared.query.Query.{Query}
use Rattle.mp_search.specs.declared.stack.Place.{Place}
use Rattle.mp_search.specs.Frames.{place_after, left_of, rest_at}
use Rattle.mp_search.specs.Reading.{table_of, entry_at, subst_of}
use Rattle.mp_search.specs.Wanted.{wanted, good, IsStanding, AreComplete}
use Rattle.mp_search.specs.At.{IsAtNode, HasTrail, Keeps, KeepsLevels, BindsOnly, items_from, items_with, own_at}
use Rattle.mp_search.proofs.OnlyLaws.{only-same, only-then}
use Rattle.mp_search.proofs.FoundLaws.{wanted-behind, wanted-none, first-map}
use Rattle.mp_search.proofs.LevelsLaws.{table-from, table-drop, place-suc, place-same, entry-kept, own-kept, nothing}
use Rattle.mp_search.proofs.LevelsLaws.{take-less}
use Rattle.mp_search.proofs.OnwardLaws.{node-suc, node-same, trail-same}
use Rattle.mp_search.proofs.StandingLaws.{by-bound, standing-suc, complete-suc}
use Rattle.mp_search.proofs.BindAtLaws.{one_more}

-- the answer of a search, and what it is about
abbrev pub Told : Bool → List Item → Option Item → Type 0
Told b is x = MatchBool b (slice_get is 0 ≡ x) (is ≡ [])

pub told-same : (b : Bool) (is js : List Item) (x y : Option Item) → is ≡ js → x ≡ y → Told b is x → Told b js y
told-same b is js x y p r h = subst (λ z. Told b js z) r (subst (λ z. Told b z x) p h)

told-behind : (b : Bool) (e : Entry) (is : List Item) (i : Item) → Told b is (Some i)
    → Told b (map (behind e) is) (Some (behind e i))
told-behind true e is i h = first-map (behind e) is i h
told-behind false e is i h = ap (map (behind e)) h

-- levels that take the same have the same tables behind
from-same : (q : Query) (k : ℕ) (xs ys : List Level) → table_of q.table.now xs ≡ table_of q.table.now ys
    → table_of q.table.now (drop k xs) ≡ table_of q.table.now (drop k ys)
from-same q k xs ys h = table-drop q.table.now k xs ∙ ap (drop k) h ∙ sym (table-drop q.table.now k ys)

module _ (q : Query) (k : ℕ) (L : List Level) (m : Mode) (s : Subst) where
  abbrev n : Next
  n = place_after q (take k L)

  abbrev e : Entry
  e = entry_at q.table.now L k

  abbrev j : ℕ
  j = length L - suc k

  -- nothing is wanted behind an entry where nothing good comes behind it
  pub nowhere : (r : Subst) → k < length L → solve q.sig.now s (said n e) ≡ Some r
      → (AreComplete q (items q.sig.now j (onward n e) r) → filter (good q) (items q.sig.now j (onward n e) r) ≡ [])
      → AreComplete q (items_with q k L s e)
      → wanted q m (table_of q.table.now (drop k L)) (items_with q k L s e) ≡ []
  nowhere r within b h c =
      let W = table_of q.table.now (drop (suc k) L) in
      ap (λ V. wanted q m V (items_with q k L s e)) (table-from q.table.now L k within)
      ∙ ap (wanted q m (e ∷ W)) (by-bound q.sig.now j n s r e b)
      ∙ wanted-behind q m e W (items q.sig.now j (onward n e) r)
      ∙ ap (map (behind e))
      (wanted-none q m W (items q.sig.now j (onward n e) r) (h (complete-suc q j n s r e b c)))

  -- what it counts on at the next node
  pub record IsReadyBehind (L1 : List Level) (t : Trail) : Type 0 where
    pub node : IsAtNode q (k + 1) L1
    pub trail : HasTrail q (k + 1) L1 t
    pub standing : IsStanding m (table_of q.table.now (drop (k + 1) L1)) (items_from q (k + 1) L1 (subst_of q t))
    pub complete : AreComplete q (items_from q (k + 1) L1 (subst_of q t))

  -- the items from the next node on are those behind the entry
  pub items-behind : (L1 : List Level) (r : Subst) → k < length L → length L1 ≡ length L
      → table_of q.table.now L1 ≡ table_of q.table.now L
      → items_from q (suc k) L1 r ≡ items q.sig.now j (onward n e) r
  items-behind L1 r within many same =
      ap (λ x. items q.sig.now (x - suc k) (place_after q (take (suc k) L1)) r) many
      ∙ ap (λ x. items q.sig.now j x r) (place-same q (suc k) L1 L same ∙ place-suc q k L within)

  pub ready : (L1 : List Level) (t : Trail) → k < length L → IsAtNode q k L → allows q.sig.now n e ≡ true
      → KeepsLevels q k L L1 → table_of q.table.now L1 ≡ table_of q.table.now L → HasTrail q (k + 1) L t
      → solve q.sig.now s (said n e) ≡ Some (subst_of q t)
      → IsStanding m (table_of q.table.now (drop k L)) (items_with q k L s e)
      → AreComplete q (items_with q k L s e) → IsReadyBehind L1 t
  ready L1 t within node allowed kept same trail bound standing complete =
      let r = subst_of q t in
      let W = table_of q.table.now (drop (suc k) L) in
      let is : items q.sig.now j (onward n e) r ≡ items_from q (suc k) L1 r =
      sym (items-behind L1 r within kept.many same) in
      let more = one_more k in
      let here : IsStanding m (e ∷ W) (items_with q k L s e) =
      subst (λ V. IsStanding m V (items_with q k L s e)) (table-from q.table.now L k within) standing in
      record {
        node = subst (λ i. IsAtNode q i L1) more
            (node-same q (suc k) L L1 (node-suc q k L within node allowed) kept.levels same);
        trail = trail-same q (k + 1) L L1 t trail (place-same q (k + 1) L1 L same) kept.many;
        standing = subst (λ i. IsStanding m (table_of q.table.now (drop i L1)) (items_from q i L1 r)) more
            (subst (λ V. IsStanding m V (items_from q (suc k) L1 r)) (sym (from-same q (suc k) L1 L same))
            (subst (IsStanding m W) is (standing-suc q.sig.now m j n s r e W bound here)));
        complete = subst (λ i. AreComplete q (items_from q i L1 r)) more
            (subst (AreComplete q) is (complete-suc q j n s r e bound complete));
      }

-- what is left behind the entry is what its level says
pub rest-kept : (q : Query) (k : ℕ) (L L1 : List Level) (p : Place) → take k L1 ≡ take k L → own_at L1 k ≡ own_at L k
    → rest_at q L1 k ≡ without tree_cmp (entry_at q.table.now L k).terms (left_of q (take k L) p.left)
    → rest_at q L1 k ≡ without tree_cmp (entry_at q.table.now L1 k).terms (left_of q (take k L1) p.left)
rest-kept q k L L1 p front own h = h
    ∙ ap (λ d. without tree_cmp d.terms (left_of q (take k L) p.left)) (sym (entry-kept q.table.now k L1 L own))
    ∙ ap (λ ls. without tree_cmp (entry_at q.table.now L1 k).terms (left_of q ls p.left)) (sym front)

-- the level of node k is kept from the next node on
pub own-more : (k : ℕ) (xs ys : List Level) → take (k + 1) xs ≡ take (k + 1) ys → own_at xs k ≡ own_at ys k
own-more k xs ys h = own-kept k xs ys (subst (λ i. take i xs ≡ take i ys) (sym (one_more k)) h)

-- what is found behind an entry
pub found : (q : Query) (k : ℕ) (m : Mode) (L L1 L2 : List Level) (b : Bool) (s r v : Subst) → k < length L
    → length L1 ≡ length L → length L2 ≡ length L1 → table_of q.table.now L1 ≡ table_of q.table.now L
    → take k L1 ≡ take k L → take (k + 1) L2 ≡ take (k + 1) L1
    → solve q.sig.now s (said (place_after q (take k L)) (entry_at q.table.now L k)) ≡ Some r
    → Told b (wanted q m (table_of q.table.now (drop (k + 1) L1)) (items_from q (k + 1) L1 r))
    (Some (table_of q.table.now (drop (k + 1) L2), v))
    → Told b
    (wanted q m (table_of q.table.now (drop k L)) (items_with q k L s (entry_at q.table.now L k)))
    (Some (table_of q.table.now (drop k L2), v))
found q k m L L1 L2 b s r v within l1 l2 same front1 front2 bound h =
    let e = entry_at q.table.now L k in
    let n = place_after q (take k L) in
    let j = length L - suc k in
    let W = table_of q.table.now (drop (suc k) L) in
    let back = sym (one_more k) in
    let h1 : Told b (wanted q m (table_of q.table.now (drop (suc k) L1)) (items_from q (suc k) L1 r))
    (Some (table_of q.table.now (drop (suc k) L2), v)) =
    subst
    (λ i. Told b (wanted q m (table_of q.table.now (drop i L1)) (items_from q i L1 r))
    (Some (table_of q.table.now (drop i L2), v))) back h in
    let is1 : wanted q m (table_of q.table.now (drop (suc k) L1)) (items_from q (suc k) L1 r)
    ≡ wanted q m W (items q.sig.now j (onward n e) r) =
    ap (λ V. wanted q m V (items_from q (suc k) L1 r)) (from-same q (suc k) L1 L same)
    ∙ ap (wanted q m W) (items-behind q k L m s L1 r within l1 same) in
    let is0 : wanted q m (table_of q.table.now (drop k L)) (items_with q k L s e)
    ≡ map (behind e) (wanted q m W (items q.sig.now j (onward n e) r)) =
    ap (λ V. wanted q m V (items_with q k L s e)) (table-from q.table.now L k within)
    ∙ ap (wanted q m (e ∷ W)) (by-bound q.sig.now j n s r e bound)
    ∙ wanted-behind q m e W (items q.sig.now j (onward n e) r) in
    let e2 : entry_at q.table.now L2 k ≡ e =
    entry-kept q.table.now k L2 L1 (own-more k L2 L1 front2) ∙ entries q L1 L k same in
    let x2 : Some (behind e (table_of q.table.now (drop (suc k) L2), v)) ≡ Some (table_of q.table.now (drop k L2), v) =
    ap (λ V. Some (V, v))
    (ap (λ x. x ∷ table_of q.table.now (drop (suc k) L2)) (sym e2)
    ∙ sym (table-from q.table.now L2 k (omega (arith, within, l1, l2)))) in
    told-same b _ _ _ _ (sym is0) x2 (told-behind b e _ _ (told-same b _ _ _ _ is1 refl h1))
  where
    entries : (q : Query) (xs ys : List Level) (k : ℕ) → table_of q.table.now xs ≡ table_of q.table.now ys
        → entry_at q.table.now xs k ≡ entry_at q.table.now ys k
    entries q xs ys k h = ap (λ T. slice_index_or T k nothing) h

-- what is kept of levels and of the trail
pub kept : (q : Query) (k : ℕ) (L L1 L2 : List Level) (t u v : Trail) → k < length L → KeepsLevels q k L L1
    → table_of q.table.now L1 ≡ table_of q.table.now L → cut (length t.stack) u ≡ t
    → t.spare + load (place_after q (take (k + 1) L)) ≤ u.spare + (load (place_after q (take k L)) + 3)
    → BindsOnly q.vars.now t u → Keeps q (k + 1) L1 L2 u v → Keeps q k L L2 t v
kept q k L L1 L2 t u v within l same c s o h = record {
  front = take-less k L2 L1 (subst (λ i. take i L2 ≡ take i L1) (sym (one_more k)) h.front) ∙ l.front;
  many = h.many ∙ l.many;
  levels = h.levels;
  cut = cut-kept t u v c h.cut;
  only = only-then q.vars.now t u v c h.cut o h.only;
  trail = h.trail;
  spare = omega (arith, within, s, ap load (place-same q (k + 1) L1 L same), l.many, h.spare);
}

-- what is kept of levels is kept with a trail that isn't changed
pub kept-levels : (q : Query) (k : ℕ) (old new : List Level) (t u : Trail) → KeepsLevels q k old new → u ≡ t
    → GoesWith q.table.now t → Keeps q k old new t u
kept-levels q k old new t u h e g = subst (λ v. Keeps q k old new t v) (sym e)
    (record {
      front = h.front;
      many = h.many;
      levels = h.levels;
      cut = cut-whole t;
      only = only-same q.vars.now t t refl;
      trail = g;
      spare = omega arith;
    })

-- what is kept after levels alone
pub kept-after : (q : Query) (k : ℕ) (old new last : List Level) (t u v : Trail) → KeepsLevels q k old new → u ≡ t
    → Keeps q k new last u v → Keeps q k old last t v
kept-after q k old new last t u v h e i = record {
  front = i.front ∙ h.front;
  many = i.many ∙ h.many;
  levels = i.levels;
  cut = subst (λ w. cut (length w.stack) v ≡ w) e i.cut;
  only = subst (λ w. BindsOnly q.vars.now w v) e i.only;
  trail = i.trail;
  spare = omega (arith, ap (λ w. w.spare) e, ap (λ ls. load (place_after q ls)) h.front, h.many, i.spare);
}
