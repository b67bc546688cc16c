-- The entries of a node, tried one after the other.
use Rattle.std.proofs.Common.{◌≡◌, ℕ, suc, ◌<◌, ◌≤◌, ◌-◌, List, [], ◌∷◌, ◌++◌, take, length, Bool, true, false}
use Rattle.std.proofs.Common.{refl, ap, sym, ◌∙◌, subst, arith, inl, inr}
use Rattle.std.specs.Prelude.{filter, flat_map, Some, None, slice_get, if◌then◌else◌, MatchBool, IsTrue, ⊤}
use Rattle.std.specs.declared.cmp.Ordering.TheVariants.{Less}
use Rattle.std.specs.Ordering.{is_lt}
use Rattle.std.specs.List.Sorted.{IsStrictlySortedBy}
use Rattle.std.proofs.lemmas.List.Kept.{IsStrictlySortedBy-filter}
use Rattle.std.proofs.lemmas.Cmp.{tied_itself}
use Rattle.std.proofs.lemmas.List.Elements.{filter-append}
use Rattle.mp_term.specs.Search.{In}
use Rattle.mp_term.proofs.ListingLaws.{all_in}
use Rattle.mp_term.proofs.TestLaws.{less-from}
use Rattle.mp_pattern.specs.Fits.{Entry, Table}
use Rattle.mp_pattern.specs.DerivationOrder.{entry_cmp}
use Rattle.mp_pattern.specs.Value.{Subst}
use Rattle.mp_subst.specs.Trail.{Trail}
use Rattle.mp_theory.specs.Items.{items, items_by, above_entry}
use Rattle.mp_theory.specs.Machine.{choices}
use Rattle.mp_theory.specs.OneList.{Item}
use Rattle.mp_theory.specs.Trail.{allows}
use Rattle.mp_theory.proofs.Tables.{entry_cmp_total}
use Rattle.mp_theory.proofs.TrailLaws.{choice-allowed}
use Rattle.mp_search.specs.declared.level.Level.{Level}
use Rattle.mp_search.specs.declared.query.Query.{Query}
use Rattle.mp_search.specs.declared.stack.Place.{Place}
use Rattle.mp_search.specs.declared.mode.Mode.TheVariants.{First}
use Rattle.mp_search.specs.Frames.{place_after}
use Rattle.mp_search.specs.Levels.{IsDrawable}
use Rattle.mp_search.specs.Query.{width}
use Rattle.mp_search.specs.Reading.{entry_at, subst_of}
use Rattle.mp_search.specs.Tried.{to_try}
use Rattle.mp_search.specs.Wanted.{good, wanted, AreComplete}
use Rattle.mp_search.specs.At.{IsDrawn, HasPool, KeepsLevels, drawn_at, draws_at, own_at, entries_from, items_with}
use Rattle.mp_search.specs.At.{items_from}
use Rattle.mp_search.proofs.FoundLaws.{above-all, wanted-first}
use Rattle.mp_search.proofs.LevelsLaws.{entry-kept, draws-kept}
use Rattle.mp_search.proofs.StandingLaws.{complete-by}

-- the first of ascending entries and those above it are all
pub tried-first : (b : Bool) (d : Entry) (es : List Entry) → IsStrictlySortedBy entry_cmp es
    → MatchBool b (slice_get es 0 ≡ Some d) (es ≡ []) → to_try b d es ≡ es
unfolding IsStrictlySortedBy
tried-first false d es up h = sym h
tried-first true d [] up h = cc
tried-first true d (e ∷ es) up h =
    let same : e ≡ d = cc in
    subst (λ z. z ∷ above_entry z (e ∷ es) ≡ e ∷ es) same
    (ap (λ o. e ∷ (if is_lt o then e ∷ above_entry e es else above_entry e es)) (tied_itself entry_cmp_total e)
    ∙ ap (λ ds. e ∷ ds) (above-all e es up.0))

-- those above an entry above e are above e
above-above : (e d : Entry) (es : List Entry) → entry_cmp e d ≡ Less
    → above_entry d (above_entry e es) ≡ above_entry d es
above-above e d [] h = refl
above-above e d (z ∷ zs) h =
    elim (is_lt (entry_cmp e z)) as
    (λ b. is_lt (entry_cmp e z) ≡ b → above_entry d (if b then z ∷ above_entry e zs else above_entry e zs)
    ≡ above_entry d (z ∷ zs)) [
      | true ↦ λ p. ap (λ ys. if is_lt (entry_cmp d z) then z ∷ ys else ys) (above-above e d zs h)
      | false ↦ λ p. above-above e d zs h ∙ elim (is_lt (entry_cmp d z)) as
          (λ b. is_lt (entry_cmp d z) ≡ b → above_entry d zs ≡ (if b then z ∷ above_entry d zs else above_entry d zs)) [
            | true ↦ λ r. let l : entry_cmp e z ≡ Less =
                entry_cmp_total.trans e d z h (less-from (entry_cmp d z) r) in
                let f : false ≡ true = sym p ∙ ap is_lt l in cc
            | false ↦ λ r. refl
          ] refl
    ] refl

first-above : (e d : Entry) (es : List Entry) → slice_get (above_entry e es) 0 ≡ Some d → entry_cmp e d ≡ Less
first-above e d [] h = cc
first-above e d (z ∷ zs) h =
    elim (is_lt (entry_cmp e z)) as
    (λ b. is_lt (entry_cmp e z) ≡ b
    → slice_get (if b then z ∷ above_entry e zs else above_entry e zs) 0 ≡ Some d → entry_cmp e d ≡ Less) [
      | true ↦ λ p k. let same : z ≡ d = cc in subst (λ y. entry_cmp e y ≡ Less) same (less-from (entry_cmp e z) p)
      | false ↦ λ p k. first-above e d zs k
    ] refl h

-- the first of those above e and those above it are all that are above e
pub tried-above : (b : Bool) (e d : Entry) (es : List Entry) → IsStrictlySortedBy entry_cmp es
    → MatchBool b (slice_get (above_entry e es) 0 ≡ Some d) (above_entry e es ≡ []) → to_try b d es ≡ above_entry e es
tried-above false e d es up h = sym h
tried-above true e d es up h = ap (λ ds. d ∷ ds) (sym (above-above e d es (first-above e d es h)))
    ∙ tried-first true d (above_entry e es)
    (IsStrictlySortedBy-filter entry_cmp (λ z. is_lt (entry_cmp e z)) es up) h

pub in-first : (d : Entry) (es : List Entry) → slice_get es 0 ≡ Some d → In d es
in-first d [] h = cc
in-first d (e ∷ es) h = let same : d ≡ e = cc in inl same

in-above : (d e : Entry) (es : List Entry) → In d (above_entry e es) → In d es
in-above d e [] h = h
in-above d e (z ∷ zs) h =
    elim (is_lt (entry_cmp e z)) as (λ b. In d (if b then z ∷ above_entry e zs else above_entry e zs) → In d (z ∷ zs)) [
      | true ↦ λ k. elim k [ inl p ↦ inl p | inr i ↦ inr (in-above d e zs i) ]
      | false ↦ λ k. inr (in-above d e zs k)
    ] h

-- an entry that is moved to is one of those that are drawn
pub moved-first : (b : Bool) (d : Entry) (es : List Entry) → MatchBool b (slice_get es 0 ≡ Some d) (es ≡ [])
    → IsTrue b → In d es
moved-first true d es h i = in-first d es h
moved-first false d es h i = cc

pub moved-above : (b : Bool) (e d : Entry) (es : List Entry)
    → MatchBool b (slice_get (above_entry e es) 0 ≡ Some d) (above_entry e es ≡ []) → IsTrue b → In d es
moved-above true e d es h i = in-above d e es (in-first d (above_entry e es) h)
moved-above false e d es h i = cc

-- levels with the same front draw and find the same

pub drawn-kept : (q : Query) (p : Place) (k : ℕ) (old new : List Level) → take k new ≡ take k old
    → draws_at new k ≡ draws_at old k → drawn_at q p new k ≡ drawn_at q p old k
drawn-kept q p k old new f d =
    ap (λ ls. elim (draws_at new k) [ None ↦ [] | Some w ↦ entries_from q ls p w ]) f
    ∙ ap (λ o. elim o [ None ↦ [] | Some w ↦ entries_from q (take k old) p w ]) d

pub with-kept : (q : Query) (k : ℕ) (old new : List Level) (s : Subst) (e : Entry) → take k new ≡ take k old
    → length new ≡ length old → items_with q k new s e ≡ items_with q k old s e
with-kept q k old new s e f m =
    ap (λ ls. items_by q.sig.now (length new - suc k) (place_after q ls) s e) f
    ∙ ap (λ j. items_by q.sig.now (j - suc k) (place_after q (take k old)) s e) m

pub pool-kept : (q : Query) (k : ℕ) (old new : List Level) → HasPool q old k → draws_at new k ≡ draws_at old k
    → HasPool q new k
pool-kept q k old new h d = subst
    (λ o. elim o as (λ _. Type 0) [ None ↦ ⊤ | Some w ↦ (length w.1 ≤ width q) × IsDrawable w.0 w.1 ]) (sym d) h

-- an entry that is drawn is drawn by levels that take and draw the same
pub member-kept : (q : Query) (p : Place) (k : ℕ) (old new next : List Level)
    → In (entry_at q.table.now new k) (drawn_at q p old k) → take k next ≡ take k old
    → draws_at new k ≡ draws_at old k → own_at next k ≡ own_at new k
    → In (entry_at q.table.now next k) (drawn_at q p next k)
member-kept q p k old new next h f d own =
    subst (λ z. In z (drawn_at q p next k)) (sym (entry-kept q.table.now k next new own))
    (subst (In (entry_at q.table.now new k)) (sym (drawn-kept q p k old next f (draws-kept k next new own ∙ d))) h)

-- the entry at hand and those above it are still to be tried, of those that were to be tried at first
pub record IsTrying (q : Query) (p : Place) (k : ℕ) (old new : List Level) (t u : Trail)
    (from found : Bool) : Type 0 where
  pub levels : KeepsLevels q k old new
  pub trail : u ≡ t
  pub draws : draws_at new k ≡ draws_at old k
  pub member : IsTrue found → In (entry_at q.table.now new k) (drawn_at q p old k)
  pub tried : filter (good q)
      (flat_map (items_with q k old (subst_of q t)) (to_try found (entry_at q.table.now new k) (drawn_at q p old k)))
      ≡ filter (good q)
      (flat_map (items_with q k old (subst_of q t)) (to_try from (entry_at q.table.now old k) (drawn_at q p old k)))

-- before any is tried
pub trying-init : (q : Query) (p : Place) (k : ℕ) (old : List Level) (t : Trail) (from : Bool) → KeepsLevels q k old old
    → (IsTrue from → In (entry_at q.table.now old k) (drawn_at q p old k)) → IsTrying q p k old old t t from from
trying-init q p k old t from l m = record { levels = l; trail = refl; draws = refl; member = m; tried = refl }

module _ (q : Query) (p : Place) (k : ℕ) (old new : List Level) (t u : Trail) (from : Bool)
    (h : IsTrying q p k old new t u from true) (d : IsDrawn q p old k (subst_of q t)) where
  abbrev e : Entry
  e = entry_at q.table.now new k

  abbrev es : List Entry
  es = drawn_at q p old k

  -- the entry at hand may stand there
  pub trying-allowed : allows q.sig.now (place_after q (take k new)) e ≡ true
  trying-allowed =
      subst (λ ls. allows q.sig.now (place_after q ls) e ≡ true) (sym h.levels.front)
      ((choice-allowed q.sig.now (place_after q (take k old)) e).0
      (all_in (λ z. In z (choices q.sig.now (place_after q (take k old)))) es e d.choices (h.member refl)))

  -- what comes behind it is complete where all that comes is
  pub trying-complete : k < length old → AreComplete q (items_from q k old (subst_of q t))
      → AreComplete q (items_with q k new (subst_of q u) e)
  trying-complete within c =
      let s = subst_of q t in
      let j = length old - suc k in
      let n = place_after q (take k old) in
      let more : length old - k ≡ suc j = omega (arith, within) in
      let all : AreComplete q (flat_map (items_by q.sig.now j n s) es) =
      subst (AreComplete q) (sym (d.leads j)) (subst (λ i. AreComplete q (items q.sig.now i n s)) more c) in
      subst (λ r. AreComplete q (items_with q k new (subst_of q r) e)) (sym h.trail)
      (subst (AreComplete q) (sym (with-kept q k old new s e h.levels.front h.levels.many))
      (complete-by q j n s e es (h.member refl) all))

  -- the first that is found behind it is the first of all
  pub trying-found : (W : Table) (x : Item)
      → slice_get (wanted q First W (items_with q k new (subst_of q u) e)) 0 ≡ Some x
      → slice_get (filter (good q)
      (flat_map (items_with q k old (subst_of q t)) (to_try from (entry_at q.table.now old k) es))) 0 ≡ Some x
  trying-found W x f =
      let s = subst_of q t in
      let g = items_with q k old s in
      let same : wanted q First W (items_with q k new (subst_of q u) e) ≡ filter (good q) (g e) =
      wanted-first q W (items_with q k new (subst_of q u) e)
      ∙ ap (λ r. filter (good q) (items_with q k new (subst_of q r) e)) h.trail
      ∙ ap (filter (good q)) (with-kept q k old new s e h.levels.front h.levels.many) in
      subst (λ is. slice_get is 0 ≡ Some x) h.tried
      (ap (λ is. slice_get is 0) (filter-append (good q) (g e) (flat_map g (above_entry e es)))
      ∙ first (filter (good q) (g e)) (filter (good q) (flat_map g (above_entry e es)))
      (ap (λ is. slice_get is 0) (sym same) ∙ f))
    where
      first : (xs ys : List Item) → slice_get xs 0 ≡ Some x → slice_get (xs ++ ys) 0 ≡ Some x
      first [] ys i = cc
      first (z ∷ zs) ys i = i

  module _ (next back : List Level) (v : Trail) (b : Bool) (W : Table) (keep : take k next ≡ take k new)
      (own : own_at next k ≡ own_at new k) (moves : KeepsLevels q k next back)
      (draws : draws_at back k ≡ draws_at next k)
      (choice : MatchBool b
      (slice_get (above_entry (entry_at q.table.now next k) (drawn_at q p next k)) 0
      ≡ Some (entry_at q.table.now back k))
      (above_entry (entry_at q.table.now next k) (drawn_at q p next k) ≡ [])) where
    -- nothing is found behind it, and so the ones above it are left
    same_drawn : drawn_at q p next k ≡ es
    same_drawn = drawn-kept q p k old next (keep ∙ h.levels.front) (draws-kept k next new own ∙ h.draws)

    moved : MatchBool b (slice_get (above_entry e es) 0 ≡ Some (entry_at q.table.now back k)) (above_entry e es ≡ [])
    moved = subst
        (λ ds. MatchBool b (slice_get (above_entry e ds) 0 ≡ Some (entry_at q.table.now back k))
        (above_entry e ds ≡ []))
        same_drawn
        (subst
        (λ z. MatchBool b (slice_get (above_entry z (drawn_at q p next k)) 0 ≡ Some (entry_at q.table.now back k))
        (above_entry z (drawn_at q p next k) ≡ [])) (entry-kept q.table.now k next new own) choice)

    left : to_try b (entry_at q.table.now back k) es ≡ above_entry e es
    left = tried-above b e (entry_at q.table.now back k) es d.ascending moved

    pub trying-next : length next ≡ length new → v ≡ u
        → wanted q First W (items_with q k new (subst_of q u) e) ≡ [] → IsTrying q p k old back t v from b
    trying-next many undone none =
        let s = subst_of q t in
        let g = items_with q k old s in
        let nothing : filter (good q) (g e) ≡ [] =
        ap (filter (good q)) (sym (with-kept q k old new s e h.levels.front h.levels.many))
        ∙ ap (λ r. filter (good q) (items_with q k new (subst_of q r) e)) (sym h.trail)
        ∙ sym (wanted-first q W (items_with q k new (subst_of q u) e)) ∙ none in
        record {
          levels = record {
            front = moves.front ∙ keep ∙ h.levels.front;
            many = moves.many ∙ many ∙ h.levels.many;
            levels = moves.levels;
          };
          trail = undone ∙ h.trail;
          draws = draws ∙ draws-kept k next new own ∙ h.draws;
          member = moved-above b e (entry_at q.table.now back k) es moved;
          tried = ap (λ ds. filter (good q) (flat_map g ds)) left
              ∙ ap (λ is. is ++ filter (good q) (flat_map g (above_entry e es))) (sym nothing)
              ∙ sym (filter-append (good q) (g e) (flat_map g (above_entry e es))) ∙ h.tried;
        }

    -- fewer are to be tried
    pub trying-falls : length (to_try b (entry_at q.table.now back k) (drawn_at q p back k))
        < length (to_try true e (drawn_at q p new k))
    trying-falls =
        let one : drawn_at q p back k ≡ es =
        drawn-kept q p k old back (moves.front ∙ keep ∙ h.levels.front)
        (draws ∙ draws-kept k next new own ∙ h.draws) in
        let two : drawn_at q p new k ≡ es = drawn-kept q p k old new h.levels.front h.draws in
        let fewer : length (to_try b (entry_at q.table.now back k) (drawn_at q p back k)) ≡ length (above_entry e es) =
        ap (λ ds. length (to_try b (entry_at q.table.now back k) ds)) one ∙ ap length left in
        let all : length (to_try true e (drawn_at q p new k)) ≡ suc (length (above_entry e es)) =
        ap (λ ds. length (to_try true e ds)) two in
        omega (arith, fewer, all)
