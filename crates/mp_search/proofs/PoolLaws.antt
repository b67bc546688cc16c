-- What is drawn by bounds: fronts, or the sublists of a pool that has enough of each term.
use Rattle.std.proofs.Common.{◌≡◌, ℕ, zero, suc, ◌+◌, ◌*◌, ◌<◌, ◌≤◌, List, [], ◌∷◌, length, Bool, true, false, refl}
use Rattle.std.proofs.Common.{ap, sym, map}
use Rattle.std.proofs.Common.{◌∙◌, subst, arith, nat_eq, eq-eqb, eqb-true, mul-suc}
use Rattle.std.specs.Prelude.{Option, Some, None}
use Rattle.std.proofs.lemmas.Cmp.{tied_itself}
use Rattle.mp_term.proofs.PiecesLaws.{same-sound}
use Rattle.mp_pattern.specs.PatternTree.{Pattern, symbol_pattern, app_pattern, wild_pattern, patterns}
use Rattle.mp_subst.specs.Bound.{value_in}
use Rattle.mp_subst.specs.Trail.{Trail, last_value}
use Rattle.mp_search.specs.Bounds.{HasNoValue}
use Rattle.mp_search.specs.Numbers.{IsNumberAt}
use Rattle.mp_search.specs.Reading.{name_at, subst_of}
use Rattle.mp_search.proofs.SubstLaws.{value_of-subst_from}
use Rattle.std.specs.Prelude.{if◌then◌else◌}
use Rattle.std.specs.List.Sorted.{IsSorted}
use Rattle.std.specs.Ordering.{is_eq}
use Rattle.std.specs.declared.cmp.Ordering.TheVariants.{Less, Equal, Greater}
use Rattle.mp_term.specs.Order.{tree_cmp}
use Rattle.mp_term.specs.OrderLaws.{tree_cmp_total, tree_same}
use Rattle.mp_term.specs.Search.{In}
use Rattle.mp_term.specs.Sorting.{sorted}
use Rattle.mp_term.specs.Tree.{Tree}
use Rattle.mp_term.specs.Pieces.{same, is_piece, is_sublist}
use Rattle.mp_term.proofs.ListLaws.{bool_same}
use Rattle.mp_term.proofs.PiecesLaws.{length-without, sublist-from_piece}
use Rattle.mp_term.proofs.Sorting.{Ascends, ascends-sorted, hit, sorted-ascends}
use Rattle.mp_term.proofs.TestLaws.{equal-from}
use Rattle.mp_pattern.specs.View.{pattern_tree}
use Rattle.mp_pattern.specs.Value.{Value, Subst}
use Rattle.mp_pattern.specs.Variables.{comm_above}
use Rattle.mp_pattern.specs.Fits.{Entry}
use Rattle.mp_pattern.proofs.SortedLaws.{all-sorted}
use Rattle.mp_table.specs.Table.{Table, IsTable, HasRank, HasRanks, term_at, terms_at, rank_cmp}
use Rattle.mp_table.specs.declared.rank.Rank.{Rank}
use Rattle.mp_table.proofs.RankLaws.{rank_order, is_sublist-terms}
use Rattle.mp_subst.proofs.BoundLaws.{sorted-terms, ranks_same}
use Rattle.mp_subst.proofs.RankLists.{rank_same, rank_cmp_total}
use Rattle.mp_theory.specs.Frames.{Frame}
use Rattle.mp_theory.specs.Items.{items_by}
use Rattle.mp_theory.specs.Machine.{choices}
use Rattle.mp_theory.specs.OneList.{Item}
use Rattle.mp_theory.proofs.Cuts.{count, IsAscending, ascends-from, ascends-sublist, sorted-from, sublist-from_counts}
use Rattle.mp_theory.proofs.PoolLaws.{sublist-then}
use Rattle.mp_theory.proofs.Walk.{choices-exact}
use Rattle.mp_search.specs.declared.bounds.Bounds.{Bounds}
use Rattle.mp_search.specs.declared.level.Source.TheVariants.{Nothing, Front, Bag}
use Rattle.mp_search.specs.declared.query.Query.{Query}
use Rattle.mp_search.specs.declared.site.Site.{Site}
use Rattle.mp_search.specs.Bounds.{AreBounds}
use Rattle.mp_search.specs.Frames.{above}
use Rattle.mp_search.specs.Lacking.{AreLacking}
use Rattle.mp_search.specs.Portion.{is_at, occurrences, MayTake}
use Rattle.mp_search.specs.Query.{IsQuery}
use Rattle.mp_search.specs.Site.{IsSite, site_frame, site_place}
use Rattle.mp_search.proofs.DrawnLaws.{among-exact}
use Rattle.mp_search.proofs.LackLaws.{lacking-before}
use Rattle.mp_search.proofs.MadeLaws.{Draws}

module _ (t : Table) (h : IsTable t) where
  -- a term stands among terms as often as its rank among theirs
  hit-rank : (r s : Rank) → HasRank t r → HasRank t s → hit tree_cmp (term_at t r) (term_at t s) ≡ is_at r s
  hit-rank r s p k = ap (λ o. if is_eq o then 1 else 0) (rank_order t h.ascending r s p k)
      ∙ ap (λ b. if b then 1 else 0) (bool_same (is_eq (rank_cmp r s)) (nat_eq r.0 s.0)
      (λ e. eq-eqb r.0 s.0 (ap (λ o. o.0) (rank_same r s (equal-from (rank_cmp r s) e))))
      (λ e. let i : r ≡ s = ap (λ n. record { 0 = n }) (eqb-true r.0 s.0 e) in
      subst (λ z. is_eq (rank_cmp r z) ≡ true) i (ap is_eq (tied_itself rank_cmp_total r))))

  count-rank : (r : Rank) (rs : List Rank) → HasRank t r → HasRanks t rs
      → count (term_at t r) (terms_at t rs) ≡ occurrences r rs
  count-rank r [] p k = refl
  count-rank r (s ∷ rs) p k = omega (arith, hit-rank r s p k.0, count-rank r rs p k.1)

  -- a term that stands there has a rank
  count-found : (z : Tree) (rs : List Rank) → HasRanks t rs → 1 ≤ count z (terms_at t rs)
      → (r : Rank) × HasRank t r × (z ≡ term_at t r)
  count-found z [] k n = absurd (omega (arith, n))
  count-found z (r ∷ rs) k n = elim (tree_cmp z (term_at t r)) as (λ o. tree_cmp z (term_at t r) ≡ o
      → (s : Rank) × HasRank t s × (z ≡ term_at t s)) [
        | Less ↦ λ e. count-found z rs k.1 (omega (arith, n, missed z (term_at t r) (ap is_eq e)))
        | Equal ↦ λ e. (r, k.0, tree_same z (term_at t r) e)
        | Greater ↦ λ e. count-found z rs k.1 (omega (arith, n, missed z (term_at t r) (ap is_eq e)))
      ] refl
    where
      missed : (z u : Tree) → is_eq (tree_cmp z u) ≡ false → hit tree_cmp z u ≡ 0
      missed z u e = rw e refl

  -- ranks whose terms are in order are sorted
  pub sorted-ranks : (rs : List Rank) → HasRanks t rs → sorted tree_cmp (terms_at t rs) ≡ terms_at t rs
      → IsSorted rank_cmp rs
  sorted-ranks rs k e =
      let same : sorted rank_cmp rs ≡ rs =
      ranks_same t h (sorted rank_cmp rs) rs (all-sorted (HasRank t) rank_cmp rs k) k
      (sym (sorted-terms t h rs k) ∙ e) in
      sorted-ascends rank_cmp rank_cmp_total rs
      (subst (Ascends rank_cmp) same (ascends-sorted rank_cmp rank_cmp_total rs))

module _ (q : Query) (x : Site) (h : IsQuery q) (k : IsSite q x) (s : Subst) (b : Bounds) (a : AreBounds q x s b) where
  abbrev left : List Tree
  left = terms_at q.table.now x.left.now

  abbrev comm : Bool
  comm = comm_above q.sig.now (above x.under)

  -- an entry with an item is a piece of what is left
  there-item : (fs : List Frame) (e : Entry) → In e (choices q.sig.now (site_place q x fs))
      → (is_piece tree_cmp comm e.terms left ≡ true) × (length e.terms ≤ length left)
  there-item fs e c =
      let p = ((choices-exact q.sig.now (pattern_tree x.child.now) (site_frame q x) fs e.terms e.collapsed).0 c).0 in (
        p,
        omega (
          arith,
          length-without tree_cmp tree_cmp_total tree_same e.terms left
              (sublist-from_piece tree_cmp tree_cmp_total tree_same comm e.terms left p),
        ),
      )

  pub bounds-nothing : (pool : List Tree) → b.most < b.least → Draws q x s Nothing pool
  bounds-nothing pool n = record {
    pieces = λ l i. absurd i;
    all = λ fs j e i c m. let o = a.lengths fs j e i c m in absurd (omega (arith, n, o.0, o.1));
  }

  -- nothing is drawn where the later children are lacking
  pub lacking-nothing : (pool : List Tree) (ms : List Bool)
      → AreLacking q.sig.now s (above x.under) ms (patterns (map pattern_tree x.later.now)) left
      → Draws q x s Nothing pool
  lacking-nothing pool ms n = record {
    pieces = λ l i. absurd i;
    all = λ fs j e i c m.
        absurd (lacking-before q.sig.now j (pattern_tree x.child.now) (site_frame q x) fs e s ms i n c m);
  }

  pub bounds-front : (pool : List Tree) → comm ≡ false → Draws q x s (Front b.least b.most) pool
  bounds-front pool g = record {
    pieces = λ l i. subst (λ c. is_piece tree_cmp c l left ≡ true) (sym g)
        ((among-exact tree_cmp tree_cmp_total tree_same false b.least b.most l left).0 i).2;
    all = λ fs j e i c m.
        let o = a.lengths fs j e i c m in
        let p = there-item fs e c in
        (among-exact tree_cmp tree_cmp_total tree_same false b.least b.most e.terms left).1
        (o.0, omega (arith, o.1, p.1), subst (λ c. is_piece tree_cmp c e.terms left ≡ true) g p.0);
  }

  module _ (pool : List Rank) (held : HasRanks q.table.now pool) (g : comm ≡ true)
      (part : is_sublist rank_cmp pool x.left.now ≡ true)
      (looks : Bool) (single : looks ≡ true → b.most ≤ 1)
      (enough : (z : Rank) (m : ℕ) → MayTake q x s looks z → b.uses * m ≤ occurrences z x.left.now
      → m ≤ occurrences z pool) where
    abbrev some_terms : List Tree
    some_terms = terms_at q.table.now pool

    in_order : IsAscending left
    in_order = ascends-from left (subst (λ c. (if c then sorted tree_cmp left else left) ≡ left) g k.arranged)

    among : is_sublist tree_cmp some_terms left ≡ true
    among = is_sublist-terms q.table.now h.table.ascending pool x.left.now held k.left ∙ part

    -- the pool has enough of each term with which the child leads on, where that is looked at
    has_enough : (z : Tree) (m : ℕ) → ((r : Rank) → z ≡ term_at q.table.now r → 1 ≤ m → MayTake q x s looks r)
        → b.uses * m ≤ count z left → m ≤ count z some_terms
    has_enough z zero w n = omega arith
    has_enough z (suc m) w n =
        let f = count-found q.table.now h.table z x.left.now k.left (omega (arith, n, mul-suc b.uses m, a.some)) in
        let l = count-rank q.table.now h.table f.0 x.left.now f.1 k.left in
        let p = count-rank q.table.now h.table f.0 pool f.1 held in
        let there : b.uses * suc m ≤ occurrences f.0 x.left.now =
        subst (λ j. b.uses * suc m ≤ j) (ap (λ u. count u left) f.2 ∙ l) n in
        omega (arith, enough f.0 (suc m) (w f.0 f.2 (omega arith)) there, p, ap (λ u. count u some_terms) f.2)

    -- with each term of a choice with an item it does
    entry-leads : (fs : List Frame) (j : ℕ) (e : Entry) (i : Item) (z : Tree)
        → In e (choices q.sig.now (site_place q x fs)) → In i (items_by q.sig.now j (site_place q x fs) s e)
        → (r : Rank) → z ≡ term_at q.table.now r → 1 ≤ count z e.terms → MayTake q x s looks r
    entry-leads fs j e i z c m r k n = λ o. record {
      frames = fs;
      count = j;
      entry = e;
      item = i;
      choice = c;
      found = m;
      alone = alone e.terms (omega (arith, single o, (a.lengths fs j e i c m).1)) n ∙ ap (λ u. u ∷ []) k;
    }
      where
        alone : (l : List Tree) → length l ≤ 1 → 1 ≤ count z l → l ≡ z ∷ []
        alone [] f n = absurd (omega (arith, n))
        alone (t ∷ []) f n = elim (is_eq (tree_cmp z t)) as (λ c. is_eq (tree_cmp z t) ≡ c
            → 1 ≤ (if c then 1 else 0) + 0 → t ∷ [] ≡ z ∷ []) [
              | true ↦ λ e l. ap (λ u. u ∷ []) (sym (same-sound tree_cmp tree_cmp_total tree_same z t e))
              | false ↦ λ e l. absurd (omega (arith, l))
            ] refl n
        alone (t ∷ u ∷ l) f n = absurd (omega (arith, f))

    pub bounds-pool : Draws q x s (Bag b.least b.most) some_terms
    bounds-pool = record {
      pieces = λ l i. subst (λ c. is_piece tree_cmp c l left ≡ true) (sym g)
          (sublist-then l some_terms left in_order
          ((among-exact tree_cmp tree_cmp_total tree_same true b.least b.most l some_terms).0 i).2 among);
      all = λ fs j e i c m.
          let o = a.lengths fs j e i c m in
          let p = subst (λ c. is_piece tree_cmp c e.terms left ≡ true) g (there-item fs e c).0 in
          let sub = sublist-from_counts e.terms some_terms (ascends-sublist e.terms left p in_order)
          (ascends-sublist some_terms left among in_order)
          (λ z. has_enough z (count z e.terms) (entry-leads fs j e i z c m) (a.counts fs j e i z c m)) in
          (among-exact tree_cmp tree_cmp_total tree_same true b.least b.most e.terms some_terms).1 (
            o.0,
            omega (arith, o.1, length-without tree_cmp tree_cmp_total tree_same e.terms some_terms sub),
            sub,
          );
    }

    pub pool-sorted : IsSorted rank_cmp pool
    pool-sorted = sorted-ranks q.table.now h.table pool held
        (sorted-from some_terms (ascends-sublist some_terms left among in_order))

-- the ranks of a sublist are ones of the table
pub ranks-among : (t : Table) (rs ss : List Rank) → HasRanks t ss → is_sublist rank_cmp rs ss ≡ true → HasRanks t rs
ranks-among t [] ss h e = tt
ranks-among t (r ∷ rs) [] h e = cc
ranks-among t (r ∷ rs) (s ∷ ss) h e =
    elim (same rank_cmp s r) as (λ b. same rank_cmp s r ≡ b
    → (if b then is_sublist rank_cmp rs ss else is_sublist rank_cmp (r ∷ rs) ss) ≡ true → HasRanks t (r ∷ rs)) [
      | true ↦ λ q k. (
        subst (HasRank t) (same-sound rank_cmp rank_cmp_total rank_same s r q) h.0,
        ranks-among t rs ss h.1 k,
      )
      | false ↦ λ q k. ranks-among t (r ∷ rs) ss h.1 k
    ] refl e

-- a variable that isn't bound has no value
pub no-value : (q : Query) (p : Pattern) (v : ℕ) (t : Trail) → IsNumberAt q p (Some v) → last_value t.stack v ≡ None
    → HasNoValue p (subst_of q t)
no-value q (symbol_pattern k) v t n e = cc
no-value q (app_pattern g ps) v t n e = cc
no-value q (wild_pattern w None) v t n e = cc
no-value q (wild_pattern w (Some x)) v t n e =
    value_of-subst_from q.table.now (name_at q) x v n.name n.only [] t.stack
    ∙ ap (λ o. elim o as (λ _. Option Value) [ None ↦ None | Some c ↦ Some (value_in q.table.now c) ]) e
