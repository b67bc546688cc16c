-- The bounds of a child, by the shares of its later siblings.
use Rattle.std.proofs.Common.{◌≡◌, ℕ, zero, ◌+◌, ◌-◌, ◌*◌, ◌/◌, ◌<◌, ◌≤◌, List, length, sym, subst}
use Rattle.std.proofs.Common.{arith}
use Rattle.std.specs.Prelude.{Option, Some, None, option_map, IfSome, map}
use Rattle.std.proofs.Math.Nat.{le-div_iff_mul-le}
use Rattle.std.proofs.lemmas.List.{length-map}
use Rattle.mp_term.specs.Order.{tree_cmp}
use Rattle.mp_term.specs.OrderLaws.{tree_cmp_total, tree_same}
use Rattle.mp_term.specs.Search.{In}
use Rattle.mp_term.specs.Tree.{Tree}
use Rattle.mp_term.specs.Pieces.{without}
use Rattle.mp_term.proofs.PiecesLaws.{length-without, sublist-from_piece}
use Rattle.mp_pattern.specs.PatternTree.{Pattern, patterns}
use Rattle.mp_pattern.specs.SoundRule.{sum_most}
use Rattle.mp_pattern.specs.View.{pattern_tree}
use Rattle.mp_pattern.specs.Value.{Subst}
use Rattle.mp_pattern.specs.Variables.{comm_above}
use Rattle.mp_pattern.specs.Fits.{Entry}
use Rattle.mp_table.specs.Table.{term_at, terms_at}
use Rattle.mp_theory.specs.Bounds.{least, most}
use Rattle.mp_theory.specs.Frames.{Frame, Next, child}
use Rattle.mp_theory.specs.Items.{items_by}
use Rattle.mp_theory.specs.Machine.{choices}
use Rattle.mp_theory.specs.OneList.{Item}
use Rattle.mp_theory.proofs.Bounds.{AtMost, within}
use Rattle.mp_theory.proofs.Cuts.{count, count-without}
use Rattle.mp_theory.proofs.ReservedTerms.{lengths-left, uses-left, uses_lengths-left}
use Rattle.mp_theory.proofs.UpperBounds.{most-left, uses_most-left}
use Rattle.mp_theory.proofs.Walk.{choices-exact}
use Rattle.mp_search.specs.declared.bounds.Bounds.{Bounds}
use Rattle.mp_search.specs.declared.query.Query.{Query}
use Rattle.mp_search.specs.declared.shares.Shares.{Shares}
use Rattle.mp_search.specs.declared.site.Site.{Site}
use Rattle.mp_search.specs.Bounds.{TakesOne, IsFree, AreBounds}
use Rattle.mp_search.specs.Frames.{above}
use Rattle.mp_search.specs.Shares.{uses_in, rest_least, rest_most, IsUsed, AreShares}
use Rattle.mp_search.specs.Site.{site_frame, site_place}

module _ (q : Query) (x : Site) (s : Subst) where
  -- the child's variable, if it is free
  pub free-name : (v : Option ℕ) → IsFree q x s v → Option (List ℕ)
  free-name None f = None
  free-name (Some v) f = Some f.name

  pub free-used : (v : Option ℕ) (f : IsFree q x s v) → IsUsed q (free-name v f) v
  unfolding free-name
  free-used None f = tt
  free-used (Some v) f = f.number

  abbrev p : Pattern
  p = pattern_tree x.child.now

  abbrev walk : Pattern → List Frame → Next
  walk r fs = child r (site_frame q x) fs

  abbrev frame : Frame
  frame = site_frame q x

  abbrev left : List Tree
  left = terms_at q.table.now x.left.now

  -- the shares of an entry with an item
  share-item : (v : Option ℕ) (f : IsFree q x s v) (fs : List Frame) (k : ℕ) (e : Entry) (i : Item)
      → In e (choices q.sig.now (site_place q x fs)) → In i (items_by q.sig.now k (site_place q x fs) s e)
      → ((1 + uses_in (free-name v f) frame.children) * length e.terms
      + rest_least q.sig.now (free-name v f) s frame.under frame.children ≤ length left)
      × AtMost (length left) (sum_most (Some ((1 + uses_in (free-name v f) frame.children) * length e.terms))
      (rest_most q.sig.now (free-name v f) s frame.under frame.children))
  unfolding free-name
  share-item None f fs k e i c m =
      let sig = q.sig.now in
      let low = lengths-left sig k p frame fs s e i c m in
      let there = ((choices-exact sig p frame fs e.terms e.collapsed).0 c).0 in
      let apart = length-without tree_cmp tree_cmp_total tree_same e.terms left
      (sublist-from_piece tree_cmp tree_cmp_total tree_same (comm_above sig frame.under) e.terms left there) in (
        omega (arith, low),
        bounded (rest_most sig None s frame.under frame.children) (most-left sig k p frame fs s e i c m) apart,
      )
    where
      bounded : (o : Option ℕ) → AtMost (length (without tree_cmp e.terms left)) o
          → length e.terms + length (without tree_cmp e.terms left) ≡ length left
          → AtMost (length left) (sum_most (Some ((1 + 0) * length e.terms)) o)
      bounded None h a = tt
      bounded (Some n) h a = omega (arith, h, a)
  share-item (Some v) f fs k e i c m =
      let sig = q.sig.now in
      let d = subst (λ r. In e (choices sig (walk r fs))) f.child c in
      let j = subst (λ r. In i (items_by sig k (walk r fs) s e)) f.child m in (
        uses_lengths-left sig k f.wildcard f.name frame fs s e i f.required f.free d j,
        uses_most-left sig k f.wildcard f.name frame fs s e i f.required f.free d j,
      )

  -- and how often it has each term
  count-item : (v : Option ℕ) (f : IsFree q x s v) (fs : List Frame) (k : ℕ) (e : Entry) (i : Item) (z : Tree)
      → In e (choices q.sig.now (site_place q x fs)) → In i (items_by q.sig.now k (site_place q x fs) s e)
      → (1 + uses_in (free-name v f) frame.children) * count z e.terms ≤ count z left
  unfolding free-name
  count-item None f fs k e i z c m =
      let sig = q.sig.now in
      let there = ((choices-exact sig p frame fs e.terms e.collapsed).0 c).0 in
      omega (
        arith,
        count-without z e.terms left
            (sublist-from_piece tree_cmp tree_cmp_total tree_same (comm_above sig frame.under) e.terms left there),
      )
  count-item (Some v) f fs k e i z c m =
      let sig = q.sig.now in
      let d = subst (λ r. In e (choices sig (walk r fs))) f.child c in
      let j = subst (λ r. In i (items_by sig k (walk r fs) s e)) f.child m in
      omega (arith, uses-left sig z k f.wildcard f.name frame fs s e i f.required f.free d j)

  -- a child that takes one term has that bound
  pub bounds-one : TakesOne q.sig.now frame.under p → (b : Bounds) → b.uses ≡ 1 → b.least ≡ 1 → b.most ≡ 1
      → AreBounds q x s b
  bounds-one o b u l m = record {
    some = omega (arith, u);
    lengths = λ fs k e i c j.
        let w = within q.sig.now p frame.under e.terms e.collapsed
        ((choices-exact q.sig.now p frame fs e.terms e.collapsed).0 c).1 in
        let high : length e.terms ≤ 1 = subst (AtMost (length e.terms)) o.1 w.1 in
        (omega (arith, l, o.0, w.0), omega (arith, m, high));
    counts = λ fs k e i z c j.
        let there = ((choices-exact q.sig.now p frame fs e.terms e.collapsed).0 c).0 in
        let few : 1 * count z e.terms ≤ count z left = omega (
          arith,
          count-without z e.terms left
              (sublist-from_piece tree_cmp tree_cmp_total tree_same (comm_above q.sig.now frame.under) e.terms left
              there),
        ) in
        subst (λ n. n * count z e.terms ≤ count z left) (sym u) few;
  }

  -- so they are bounds
  pub bounds-are : (v : Option ℕ) (f : IsFree q x s v) (b : Bounds) (found : Shares)
      → AreShares q (free-name v f) s (above x.under) (patterns (map pattern_tree x.later.now)) (length x.left.now)
      found
      → b.uses ≡ found.uses + 1
      → ((l : ℕ) → IfSome found.after_most (λ t. t ≤ b.uses * l) → least p ≤ l → b.least ≤ l)
      → ((l : ℕ) → IfSome (most q.sig.now (above x.under) p) (λ m. l ≤ m) → l ≤ found.after_least / b.uses
      → l ≤ b.most)
      → AreBounds q x s b
  bounds-are v f b found a u low high =
      let sig = q.sig.now in
      let o = free-name v f in
      let size : length left ≡ length x.left.now = length-map x.left.now (term_at q.table.now) in
      let many : 1 + uses_in o frame.children ≡ b.uses = omega (arith, u, a.uses) in
      record {
        some = omega (arith, u);
        lengths = λ fs k e i c m.
            let w = within sig p frame.under e.terms e.collapsed
            ((choices-exact sig p frame fs e.terms e.collapsed).0 c).1 in
            let h = share-item v f fs k e i c m in
            let n : ℕ = length e.terms in
            let positive : zero < b.uses = omega (arith, u) in
            let all : b.uses * n + rest_least sig o s frame.under frame.children ≤ length x.left.now =
            subst (λ j. j * n + rest_least sig o s frame.under frame.children ≤ length x.left.now) many
            (omega (arith, h.0, size)) in
            let fits : n * b.uses ≤ found.after_least = omega (arith, all, a.least) in (
              low n (after b.uses n (rest_most sig o s frame.under frame.children) found.after_most a.most
                  (subst (λ j. AtMost (length x.left.now) (sum_most (Some (j * n)) (rest_most sig o s frame.under
                  frame.children))) many (subst (λ j. AtMost j (sum_most (Some ((1 + uses_in o frame.children) * n))
                  (rest_most sig o s frame.under frame.children))) size h.1))) w.0,
              high n (own n (most sig frame.under p) w.1) ((le-div_iff_mul-le positive).1 fits),
            );
        counts = λ fs k e i z c m.
            subst (λ j. j * count z e.terms ≤ count z left) many (count-item v f fs k e i z c m);
      }
    where
      own : (n : ℕ) (o : Option ℕ) → AtMost n o → IfSome o (λ m. n ≤ m)
      own n None h = tt
      own n (Some m) h = h

      after : (u n : ℕ) (r t : Option ℕ) → t ≡ option_map (λ m. length x.left.now - m) r
          → AtMost (length x.left.now) (sum_most (Some (u * n)) r) → IfSome t (λ j. j ≤ u * n)
      after u n None None e h = tt
      after u n None (Some t) e h = cc
      after u n (Some m) None e h = cc
      after u n (Some m) (Some t) e h = let k : t ≡ length x.left.now - m = cc in omega (arith, k, h)
