-- Where a search stands among the terms that the first child may take.
use Rattle.std.proofs.Common.{◌≡◌, ◌≤◌, ◌<◌, ◌+◌, ◌-◌, ℕ, List, [], ◌∷◌, ◌++◌, length, map, take, drop}
use Rattle.std.proofs.Common.{Bool, true, false, refl, ap, ap₂, sym, ◌∙◌, subst, arith, append_assoc, ◌⊎◌, inl, inr}
use Rattle.std.specs.Prelude.{Option, nat_lt, slice_get, slice_index_or, slice_set}
use Rattle.std.specs.List.{AllByRecursion}
use Rattle.std.specs.List.Sorted.{IsStrictlySortedBy}
use Rattle.std.specs.declared.cmp.Ordering.TheVariants.{Less}
use Rattle.std.proofs.lemmas.Bool.Decides.{nat_tests}
use Rattle.std.proofs.lemmas.List.{map-append}
use Rattle.mp_term.specs.Order.{tree_cmp}
use Rattle.mp_term.specs.Search.{In}
use Rattle.mp_term.specs.Tree.{Tree}
use Rattle.mp_term.proofs.SearchLaws.{in-map}
use Rattle.mp_term.proofs.ListLaws.{all-get}
use Rattle.mp_pattern.specs.Fits.{Table}
use Rattle.mp_pattern.specs.PatternTree.{Pattern}
use Rattle.mp_pattern.specs.Value.{Subst}
use Rattle.mp_pattern.specs.View.{pattern_tree}
use Rattle.mp_pattern.specs.declared.pattern.Pattern.{Pattern as own_pattern}
use Rattle.mp_table.specs.Table as plain
use Rattle.mp_table.specs.Table.{HasRank, HasRanks, rank_cmp, term_at, terms_at}
use Rattle.mp_table.specs.declared.rank.Rank.{Rank}
use Rattle.mp_table.proofs.RankLaws.{rank_order}
use Rattle.mp_subst.specs.Trail.{Trail}
use Rattle.mp_theory.specs.OneList.{Item, item_tables}
use Rattle.mp_theory.specs.Shape.{shape, table_of}
use Rattle.mp_search.specs.declared.level.Level.{Level}
use Rattle.mp_search.specs.declared.mode.Mode.{Mode}
use Rattle.mp_search.specs.declared.mode.Mode.TheVariants.{First, After, At}
use Rattle.mp_search.specs.declared.room.Room.{Room}
use Rattle.mp_search.specs.Levels.{AreLevels}
use Rattle.mp_search.specs.Wanted.{IsStanding}
use Rattle.mp_ac.specs.declared.pick.Pick.{Pick}
use Rattle.mp_ac.specs.declared.seek.Sought.{Sought}
use Rattle.mp_ac.specs.Asked.{levels_table}
use Rattle.mp_ac.specs.Candidates.{AreChoices, IsBarred}
use Rattle.mp_ac.specs.CommList.{behind_table}
use Rattle.mp_ac.specs.Numbered.{numbered_subst}
use Rattle.mp_ac.specs.Seek.{ArePicksOf, IsFoundOf, IsLeading, IsPickOf, IsSought, items_of_pick, items_sought}
use Rattle.mp_ac.specs.Seek.{picked, picks_table, sought_table}
use Rattle.mp_ac.specs.Stage.{IsOnward, looked_for}
use Rattle.mp_ac.proofs.BehindLaws.{table-in}
use Rattle.mp_ac.proofs.Parts.{part-first, part-get, part-none, part-split}
use Rattle.mp_ac.proofs.SeekLaws.{first-found, first-none, root_among}
use Rattle.mp_ac.proofs.SeekLaws.{root-behind, root-first, root-table}
use Rattle.mp_ac.proofs.StepLaws.{looked-in}

-- the terms of ranks that ascend ascend
module _ (t : plain.Table) (up : IsStrictlySortedBy tree_cmp t.terms) where
  terms-above : (r : Rank) (rs : List Rank) → HasRank t r → HasRanks t rs
      → AllByRecursion (λ q. rank_cmp r q ≡ Less) rs
      → AllByRecursion (λ u. tree_cmp (term_at t r) u ≡ Less) (terms_at t rs)
  terms-above r [] h k a = tt
  terms-above r (q ∷ rs) h k a = (rank_order t up r q h k.0 ∙ a.0, terms-above r rs h k.1 a.1)

  pub terms-ascend : (rs : List Rank) → HasRanks t rs → IsStrictlySortedBy rank_cmp rs
      → IsStrictlySortedBy tree_cmp (terms_at t rs)
  unfolding IsStrictlySortedBy
  terms-ascend [] h a = tt
  terms-ascend (r ∷ rs) h a = (terms-above r rs h.0 h.1 a.0, terms-ascend rs h.1 a.1)

-- a term that has the child's shape is that of a choice, or barred
pub choice-term : (t : plain.Table) (p : Pattern) (next : Option Pattern) (us : List Tree) (rs : List Rank)
    → AreChoices t p next us rs → (u : Tree) → In u us → shape p u ≡ true → In u (terms_at t rs) ⊎ IsBarred next us p u
choice-term t p next us rs h u i q =
    elim (h.all u i q) [
      | inl c ↦ inl (subst (λ v. In v (terms_at t rs)) c.2 (in-map (term_at t) c.0 rs c.1))
      | inr barred ↦ inr barred
    ]

module _ (x : Sought) (p : Pattern) (ps : List Pattern) (rs : List Rank) where
  -- the rank of a place
  abbrev pub rank_at : ℕ → Rank
  rank_at i = slice_index_or x.choices.now i (record { 0 = 0 })

  -- the items where the first child takes the term of the choice at the place
  abbrev pub items_at : Trail → ℕ → List Item
  items_at t i = items_of_pick x.asked p ps rs (numbered_subst x.asked.table.now t.stack) (rank_at i)

  -- and where it takes those from a place up to another one, in turn
  abbrev pub items_between : Trail → ℕ → ℕ → List Item
  items_between t i n = let a = x.asked in
      root_among a.sig.now p ps (terms_at a.table.now rs) a.owes (numbered_subst a.table.now t.stack)
      a.plan.now.pattern (terms_at a.table.now (take (n - i) (drop i x.choices.now)))

  -- the table of the children, of which the first one takes the term at the place
  abbrev pub table_at : ℕ → List Pick → List Level → Table
  table_at i ks ls = table_of p (term_at x.asked.table.now (rank_at i)) ++ sought_table x.asked x.choices.now ps ks ls

  -- where a search stands: what was looked for at first is what is looked for at the place, and then the items of the
  -- places behind it; the trail is that of the begin, and what holds of picks and levels still does
  pub record IsSeeking (own0 : Pick) (below0 : List Pick) (levels0 : List Level) (t : Trail) (mode0 : Mode)
      (own : Pick) (below : List Pick) (levels : List Level) (u : Trail) (mode : Mode) (at : ℕ) : Type 0 where
    pub within : own.from ≤ at
    pub own_kept : (us : List Tree) → IsPickOf x.asked.table.now us x.width x.choices.now p (slice_get ps 0) own0
        → IsPickOf x.asked.table.now us x.width x.choices.now p (slice_get ps 0) own
    pub below_kept : (us : List Tree) → ArePicksOf x.asked.table.now us x.width x.choices.now ps below0
        → ArePicksOf x.asked.table.now us x.width x.choices.now ps below
    pub rooms : map (λ k. k.rest.room) (own ∷ below) ≡ map (λ k. k.rest.room) (own0 ∷ below0)
    pub trail : u ≡ t
    pub count : length levels ≡ length levels0
    pub levels_hold : AreLevels x.asked.table.now x.width levels
    pub onward : IsOnward mode
    pub standing : at < own.end → IsStanding mode (table_at at below levels) (items_at t at)
    pub ahead : at < own.end
        → looked_for mode0 (sought_table x.asked x.choices.now (p ∷ ps) (own0 ∷ below0) levels0)
        (items_sought x.asked (p ∷ ps) rs (numbered_subst x.asked.table.now t.stack))
        ≡ looked_for mode (table_at at below levels) (items_at t at) ++ items_between t (at + 1) own.end
    pub none : own.end ≤ at
        → looked_for mode0 (sought_table x.asked x.choices.now (p ∷ ps) (own0 ∷ below0) levels0)
        (items_sought x.asked (p ∷ ps) rs (numbered_subst x.asked.table.now t.stack)) ≡ []

-- where the choices of the first child are a part of the list
module _ (x : Sought) (h : IsSought x) (p : Pattern) (lead : IsLeading x.asked.sig.now p) (ps : List Pattern)
    (leads : AllByRecursion (IsLeading x.asked.sig.now) ps) (rs : List Rank) (t : Trail) (k : Pick)
    (o : IsPickOf x.asked.table.now (terms_at x.asked.table.now rs) x.width x.choices.now p (slice_get ps 0) k) where
  abbrev tb : plain.Table
  tb = x.asked.table.now

  abbrev s : Subst
  s = numbered_subst tb t.stack

  abbrev all : List Item
  all = items_sought x.asked (p ∷ ps) rs s

  abbrev among : List Tree → List Item
  among = root_among x.asked.sig.now p ps (terms_at tb rs) x.asked.owes s x.asked.plan.now.pattern

  abbrev part : ℕ → List Rank
  part i = take (k.end - i) (drop i x.choices.now)

  terms-up : IsStrictlySortedBy tree_cmp (terms_at tb (part k.from))
  terms-up = terms-ascend tb h.asked.table.ascending (part k.from) o.choices.ranks o.choices.ascending

  -- all items are those of its terms
  all-among : all ≡ among (terms_at tb (part k.from))
  all-among = root-first x.asked.sig.now p ps (terms_at tb rs) x.asked.owes s x.asked.plan.now.pattern h.commutative
      lead.takes_one (λ q e. (all-get (IsLeading x.asked.sig.now) ps 0 q leads e).takes_one) (terms_at tb rs)
      (terms_at tb (part k.from)) (λ u i. i) terms-up
      (choice-term tb p (slice_get ps 0) (terms_at tb rs) (part k.from) o.choices)

  -- the first of them from a place on, and none at the end
  between-first : (i : ℕ) → i < k.end
      → items_between x p ps rs t i k.end ≡ items_at x p ps rs t i ++ items_between x p ps rs t (i + 1) k.end
  between-first i l = ap (λ us. among (terms_at tb us)) (part-first (record { 0 = 0 }) x.choices.now i k.end l o.within)

  between-none : (i : ℕ) → k.end ≤ i → items_between x p ps rs t i k.end ≡ []
  between-none i l = ap (λ us. among (terms_at tb us)) (part-none i k.end x.choices.now l)

  module _ (i : ℕ) (from : k.from ≤ i) (l : i < k.end) where
    abbrev u : Tree
    u = term_at tb (rank_at x p ps rs i)

    pub place-within : i < length x.choices.now
    place-within = omega (arith, l, o.within)

    pub place-shaped : shape p u ≡ true
    place-shaped = part-get (record { 0 = 0 }) (λ r. shape p (term_at tb r) ≡ true) x.choices.now k.from i k.end from l
        o.within o.choices.shaped

    pub place-held : HasRank tb (rank_at x p ps rs i)
    place-held = part-get (record { 0 = 0 }) (HasRank tb) x.choices.now k.from i k.end from l o.within
        o.choices.ranks

    abbrev split : (us : List Rank) × (part k.from ≡ us ++ rank_at x p ps rs i ∷ part (i + 1))
    split = part-split (record { 0 = 0 }) x.choices.now k.from i k.end from l o.within

    terms-split : terms_at tb (part k.from) ≡ terms_at tb split.0 ++ u ∷ terms_at tb (part (i + 1))
    terms-split = ap (terms_at tb) split.1 ∙ map-append (term_at tb) split.0 (rank_at x p ps rs i ∷ part (i + 1))

    -- behind an item of a term are the others of the term, and then those of the places behind
    behind-place : (V : Table) → In V (item_tables (items_at x p ps rs t i))
        → behind_table V all
        ≡ behind_table V (items_at x p ps rs t i) ++ items_between x p ps rs t (i + 1) k.end
    behind-place V m = ap (behind_table V) (all-among ∙ ap among terms-split)
        ∙ root-behind x.asked.sig.now p ps (terms_at tb rs) x.asked.owes s x.asked.plan.now.pattern
        (terms_at tb split.0) u (terms_at tb (part (i + 1))) V
        (subst (IsStrictlySortedBy tree_cmp) terms-split terms-up) m

    -- an item whose table begins with that of the term is one of the term
    in-place : (W : Table) → In (table_of p u ++ W) (item_tables all)
        → In (table_of p u ++ W) (item_tables (items_at x p ps rs t i))
    in-place W m = root-table x.asked.sig.now p ps (terms_at tb rs) x.asked.owes s x.asked.plan.now.pattern
        h.commutative (terms_at tb (part k.from)) u W place-shaped
        (subst (λ is. In (table_of p u ++ W) (item_tables is)) all-among m)

  -- the table of the picks begins with that of the first one
  table-first : (below : List Pick) (ls : List Level)
      → sought_table x.asked x.choices.now (p ∷ ps) (k ∷ below) ls ≡ table_at x p ps rs k.at below ls
  table-first below ls = append_assoc (table_of p (term_at tb (picked x.choices.now k)))
      (picks_table tb x.choices.now ps below) (levels_table x.asked ls)

  module _ (below : List Pick) (ls : List Level) where
    abbrev W : Table
    W = sought_table x.asked x.choices.now (p ∷ ps) (k ∷ below) ls

    -- where one stands at an item there are choices
    some-choice : In W (item_tables all) → k.from < k.end
    some-choice m = by_end (nat_lt k.from k.end) refl
      where
        by_end : (b : Bool) → nat_lt k.from k.end ≡ b → k.from < k.end
        by_end true e = grind (arith, nat_tests)
        by_end false e =
            let past : k.end ≤ k.from = grind (arith, nat_tests) in
            absurd (subst (λ is. In W (item_tables is)) (all-among ∙ between-none k.from past) m)

    -- where a search begins
    pub each-first : AreLevels tb x.width ls → (at : ℕ) → at ≡ k.from
        → IsSeeking x p ps rs k below ls t First k below ls t First at
    each-first a at e = record {
      within = omega (arith, e);
      own_kept = λ us i. i;
      below_kept = λ us i. i;
      rooms = refl;
      trail = refl;
      count = refl;
      levels_hold = a;
      onward = tt;
      standing = λ l. tt;
      ahead = λ l. all-among ∙ ap (λ i. items_between x p ps rs t i k.end) (sym e) ∙ between-first at l;
      none = λ l. all-among ∙ between-none k.from (omega (arith, e, l));
    }

    pub each-after : AreLevels tb x.width ls → In W (item_tables all) → (at : ℕ) → at ≡ k.at
        → IsSeeking x p ps rs k below ls t After k below ls t After at
    each-after a m at e =
        let some = some-choice m in
        let within = o.at some in
        let table : W ≡ table_at x p ps rs at below ls =
        table-first below ls ∙ ap (λ i. table_at x p ps rs i below ls) (sym e) in
        let from : k.from ≤ at = omega (arith, e, within.0) in
        let less : at < k.end = omega (arith, e, within.1) in
        let there : In (table_at x p ps rs at below ls) (item_tables (items_at x p ps rs t at)) =
        in-place at from less (sought_table x.asked x.choices.now ps below ls)
        (subst (λ V. In V (item_tables all)) table m) in
        record {
          within = from;
          own_kept = λ us i. i;
          below_kept = λ us i. i;
          rooms = refl;
          trail = refl;
          count = refl;
          levels_hold = a;
          onward = tt;
          standing = λ l. there;
          ahead = λ l. ap (λ V. behind_table V all) table
              ∙ behind-place at from less (table_at x p ps rs at below ls) there;
          none = λ l. absurd (omega (arith, less, l));
        }

    -- as it begins in either mode
    pub each-begin : (mode : Mode) → IsOnward mode → AreLevels tb x.width ls → IsStanding mode W all → (at : ℕ)
        → ((mode ≡ After) × (at ≡ k.at)) ⊎ ((mode ≡ After → ⊥) × (at ≡ k.from))
        → IsSeeking x p ps rs k below ls t mode k below ls t mode at
    each-begin First o a m at (inl e) = (let q : First ≡ After = e.0 in cc)
    each-begin First o a m at (inr e) = each-first a at e.1
    each-begin After o a m at (inl e) = each-after a m at e.1
    each-begin After o a m at (inr e) = absurd (e.0 refl)
    each-begin At o a m at e = absurd o

-- a pick of another choice, with room for as much
pub pick-moved : (t : plain.Table) (us : List Tree) (w : ℕ) (cs : List Rank) (p : Pattern) (next : Option Pattern)
    (k : Pick) (i : ℕ) (r : Room Rank) → r.room ≡ k.rest.room → k.from ≤ i → i < k.end → IsPickOf t us w cs p next k
    → IsPickOf t us w cs p next (record { from = k.from; end = k.end; at = i; rest = r })
pick-moved t us w cs p next k i r e a b o = record {
  onward = o.onward;
  within = o.within;
  at = λ l. (a, b);
  choices = o.choices;
  room = subst (λ n. w ≤ n) (sym e) o.room;
}

-- what comes of a search at the place
module _ (x : Sought) (h : IsSought x) (p : Pattern) (lead : IsLeading x.asked.sig.now p) (ps : List Pattern)
    (leads : AllByRecursion (IsLeading x.asked.sig.now) ps) (rs : List Rank) (t : Trail) (k0 k : Pick)
    (below0 below : List Pick) (ls0 ls : List Level) (u : Trail) (mode0 mode : Mode) (at : ℕ)
    (v : IsSeeking x p ps rs k0 below0 ls0 t mode0 k below ls u mode at)
    (begun : IsPickOf x.asked.table.now (terms_at x.asked.table.now rs) x.width x.choices.now p (slice_get ps 0) k0)
    (l : at < k.end) where
  pub own-pick : IsPickOf x.asked.table.now (terms_at x.asked.table.now rs) x.width x.choices.now p (slice_get ps 0) k
  own-pick = v.own_kept (terms_at x.asked.table.now rs) begun

  abbrev W0 : Table
  W0 = sought_table x.asked x.choices.now (p ∷ ps) (k0 ∷ below0) ls0

  abbrev whole : List Item
  whole = items_sought x.asked (p ∷ ps) rs (numbered_subst x.asked.table.now t.stack)

  module _ (r : Room Rank) (below1 : List Pick) (ls1 : List Level) where
    -- the first child with the term of the place
    abbrev pub own1 : Pick
    own1 = record { from = k.from; end = k.end; at = at; rest = r }

    -- what is found is found
    pub each-found : (f : Subst)
        → IsFoundOf mode (table_at x p ps rs at below ls) (table_at x p ps rs at below1 ls1) (items_at x p ps rs u at)
        f true
        → IsFoundOf mode0 W0 (sought_table x.asked x.choices.now (p ∷ ps) (own1 ∷ below1) ls1) whole f true
    each-found f found =
        let V = table_at x p ps rs at below1 ls1 in
        let here = subst (λ w. IsFoundOf mode (table_at x p ps rs at below ls) V (items_at x p ps rs w at) f true)
        v.trail found in
        subst (λ T. IsFoundOf mode0 W0 T whole f true) (sym (append_assoc
        (table_of p (term_at x.asked.table.now (rank_at x p ps rs at)))
        (picks_table x.asked.table.now x.choices.now ps below1) (levels_table x.asked ls1)))
        (first-found mode0 mode W0 (table_at x p ps rs at below ls) V whole (items_at x p ps rs t at)
        (items_between x p ps rs t (at + 1) k.end) (v.ahead l) f
        (behind-place x h p lead ps leads rs t k own-pick at v.within l V
        (table-in (items_at x p ps rs t at) (V, here.0.0)
        (looked-in mode (table_at x p ps rs at below ls) (items_at x p ps rs t at) (V, here.0.0) here.0.1))) here)

    -- where nothing is, the search goes on behind it
    pub each-next : (w : Trail) → w ≡ t → r.room ≡ k.rest.room
        → ((us : List Tree) → ArePicksOf x.asked.table.now us x.width x.choices.now ps below
        → ArePicksOf x.asked.table.now us x.width x.choices.now ps below1)
        → map (λ (c : Pick). c.rest.room) below1 ≡ map (λ (c : Pick). c.rest.room) below
        → length ls1 ≡ length ls → AreLevels x.asked.table.now x.width ls1
        → looked_for mode (table_at x p ps rs at below ls) (items_at x p ps rs u at) ≡ []
        → IsSeeking x p ps rs k0 below0 ls0 t mode0 own1 below1 ls1 w First (at + 1)
    each-next w same room kept rooms count levels none =
        let here = subst (λ w. looked_for mode (table_at x p ps rs at below ls) (items_at x p ps rs w at) ≡ []) v.trail
        none in
        let rest = first-none mode0 mode W0 (table_at x p ps rs at below ls) [] whole (items_at x p ps rs t at)
        (items_between x p ps rs t (at + 1) k.end) (v.ahead l) here in
        record {
          within = omega (arith, v.within);
          own_kept = λ us i. pick-moved x.asked.table.now us x.width x.choices.now p (slice_get ps 0) k at r room
              v.within l (v.own_kept us i);
          below_kept = λ us i. kept us (v.below_kept us i);
          rooms = ap₂ (λ (n : ℕ) ns. n ∷ ns) room rooms ∙ v.rooms;
          trail = same;
          count = count ∙ v.count;
          levels_hold = levels;
          onward = tt;
          standing = λ i. tt;
          ahead = λ i. rest ∙ between-first x h p lead ps leads rs t k own-pick (at + 1) i;
          none = λ i. rest ∙ between-none x h p lead ps leads rs t k own-pick (at + 1) i;
        }

-- a list of one item, and what follows
front-one : {X : Type 0} (xs ys : List X) (d : X) → length xs ≡ 1 → xs ++ ys ≡ slice_index_or xs 0 d ∷ ys
front-one [] ys d e = absurd (omega (arith, e))
front-one (z ∷ []) ys d e = refl
front-one (z ∷ w ∷ xs) ys d e = absurd (omega (arith, e))

front-set : {X : Type 0} (xs ys : List X) (x : X) → length xs ≡ 1 → slice_set xs 0 x ++ ys ≡ x ∷ ys
front-set [] ys x e = absurd (omega (arith, e))
front-set (z ∷ []) ys x e = refl
front-set (z ∷ w ∷ xs) ys x e = absurd (omega (arith, e))

-- picks of which the first one and the others have moved
pub picks-moved : (t : plain.Table) (us : List Tree) (w : ℕ) (cs : List Rank) (children : List own_pattern)
    (child : own_pattern) (later : List own_pattern) → children ≡ child ∷ later → (ks front back : List Pick)
    (d own1 : Pick) (back1 : List Pick) → ks ≡ front ++ back → length front ≡ 1
    → (IsPickOf t us w cs (pattern_tree child) (slice_get (map pattern_tree later) 0) (slice_index_or front 0 d)
    → IsPickOf t us w cs (pattern_tree child) (slice_get (map pattern_tree later) 0) own1)
    → (ArePicksOf t us w cs (map pattern_tree later) back → ArePicksOf t us w cs (map pattern_tree later) back1)
    → ArePicksOf t us w cs (map pattern_tree children) ks
    → ArePicksOf t us w cs (map pattern_tree children) (slice_set front 0 own1 ++ back1)
picks-moved t us w cs children child later c ks front back d own1 back1 k one f g h =
    let old = subst (λ js. ArePicksOf t us w cs (pattern_tree child ∷ map pattern_tree later) js)
    (k ∙ front-one front back d one) (subst (λ ds. ArePicksOf t us w cs (map pattern_tree ds) ks) c h) in
    subst (λ ds. ArePicksOf t us w cs (map pattern_tree ds) (slice_set front 0 own1 ++ back1)) (sym c)
    (subst (ArePicksOf t us w cs (pattern_tree child ∷ map pattern_tree later)) (sym (front-set front back1 own1 one))
    (f old.0, g old.1))
