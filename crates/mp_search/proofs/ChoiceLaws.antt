-- The choices that are drawn for a child, list by list.
use Rattle.std.proofs.Common.{◌≡◌, List, [], ◌∷◌, ◌++◌, map, filter, Bool, true, false, ◌&&◌, not, refl, ap, sym}
use Rattle.std.proofs.Common.{◌∙◌, inl, subst}
use Rattle.std.specs.Prelude.{Some, slice_get, MatchBool}
use Rattle.std.proofs.lemmas.List.Elements.{filter-append}
use Rattle.mp_term.specs.Order.{tree_cmp, shortlex}
use Rattle.mp_term.specs.OrderLaws.{tree_cmp_total, tree_same, shortlex_total}
use Rattle.mp_term.specs.Search.{In}
use Rattle.mp_term.specs.Tree.{Tree}
use Rattle.mp_term.proofs.SearchLaws.{in-map, from_in-map, from_in-filter}
use Rattle.mp_pattern.specs.Fits.{Entry}
use Rattle.mp_pattern.specs.View.{pattern_tree}
use Rattle.mp_table.specs.Table.{Table, IsTable, HasRanks, terms_at, rank_cmp}
use Rattle.mp_table.specs.declared.rank.Rank.{Rank}
use Rattle.mp_theory.specs.Items.{above_entry}
use Rattle.mp_theory.specs.Machine.{entries, reads}
use Rattle.mp_theory.proofs.Walk.{from_in-entries}
use Rattle.mp_search.specs.declared.level.Level.{Level}
use Rattle.mp_search.specs.declared.query.Query.{Query}
use Rattle.mp_search.specs.declared.site.Site.{Site}
use Rattle.mp_search.specs.Drawn.{drawn, lists_above}
use Rattle.mp_search.specs.Frames.{above}
use Rattle.mp_search.specs.Levels.{draws_of, IsOver}
use Rattle.mp_search.specs.Reading.{entry_of}
use Rattle.mp_search.specs.Site.{lists_drawn, entries_read, entries_drawn}
use Rattle.mp_search.proofs.DrawnEntries.{mark_left, above-read}
use Rattle.mp_search.proofs.DrawnLaws.{drawn-ascending}
use Rattle.mp_search.proofs.DrawnTerms.{terms-same, drawn-terms, drawn-ranks, lists_above-terms}
use Rattle.mp_term.proofs.ListsAbove.{above-first, in-above, above-onward}
use Rattle.mp_subst.proofs.RankLists.{rank_same, rank_cmp_total}

-- the first of two lists
first-left : {X : Type 0} (x : X) (xs ys : List X) → slice_get xs 0 ≡ Some x → slice_get (xs ++ ys) 0 ≡ Some x
first-left x [] ys e = cc
first-left x (y ∷ xs) ys e = e

in-first : {X : Type 0} (x : X) (xs : List X) → slice_get xs 0 ≡ Some x → In x xs
in-first x [] e = cc
in-first x (y ∷ xs) e = let q : y ≡ x = cc in inl (sym q)

-- the collapsed entry comes next, or doesn't
abbrev collapsed_entry : List Tree → Entry
collapsed_entry l = record { terms = l; collapsed = true }

mark-read : (p : Entry → Bool) (l : List Tree) (c : Bool) (es : List Entry) → not c && p (collapsed_entry l) ≡ true
    → slice_get (filter p (mark_left l c) ++ es) 0 ≡ Some (collapsed_entry l)
mark-read p l true es h = cc
mark-read p l false es h = rw h refl

mark-unread : (p : Entry → Bool) (l : List Tree) (c : Bool) → not c && p (collapsed_entry l) ≡ false
    → filter p (mark_left l c) ≡ []
mark-unread p l true h = refl
mark-unread p l false h = rw h refl

-- ranks in a level that draws the same, and leaves the same
pub over-kept : (t : Table) (own new : Level) → IsOver t own → HasRanks t new.take.items.items
    → draws_of new ≡ draws_of own → new.rest.items.items ≡ own.rest.items.items → IsOver t new
over-kept t own new h k draws rest = (
  k,
  subst (HasRanks t) (sym (ap (λ d. d.1) draws)) h.1,
  subst (HasRanks t) (sym rest) h.2,
)

module _ (q : Query) (x : Site) (valid : IsTable q.table.now) (left : HasRanks q.table.now x.left.now) where
  -- the lists that are drawn depend on the draws alone
  pub drawn-kept : (own new : Level) → draws_of new ≡ draws_of own → lists_drawn x new ≡ lists_drawn x own
  drawn-kept own new draws = ap (λ d. drawn rank_cmp d.0 d.1 x.left.now) draws

  pub over-drawn : (own new : Level) → IsOver q.table.now own → In new.take.items.items (lists_drawn x own)
      → draws_of new ≡ draws_of own → new.rest.items.items ≡ own.rest.items.items → IsOver q.table.now new
  over-drawn own new h i draws rest = over-kept q.table.now own new h
      (drawn-ranks q.table.now valid own.source own.pool.items.items x.left.now h.1 left new.take.items.items i)
      draws rest

  -- one list more: its first entry is the first of all, or all come later
  pub read-step : (r : Bool) (es : List Entry) (e : Entry) (l : List Rank) (ls : List (List Rank))
      → es ≡ entries_read q x (l ∷ ls)
      → MatchBool r (slice_get (entries_read q x (l ∷ [])) 0 ≡ Some e) (entries_read q x (l ∷ []) ≡ [])
      → MatchBool r (slice_get es 0 ≡ Some e) (es ≡ entries_read q x ls)
  read-step r es e l ls same h = by_answer r h
    where
      parts : es ≡ entries_read q x (l ∷ []) ++ entries_read q x ls
      parts = same ∙ filter-append (reads q.sig.now (pattern_tree x.child.now) (above x.under))
          (entries (map (terms_at q.table.now) (l ∷ []))) (entries (map (terms_at q.table.now) ls))

      by_answer : (r : Bool)
          → MatchBool r (slice_get (entries_read q x (l ∷ [])) 0 ≡ Some e) (entries_read q x (l ∷ []) ≡ [])
          → MatchBool r (slice_get es 0 ≡ Some e) (es ≡ entries_read q x ls)
      by_answer true k = ap (λ us. slice_get us 0) parts
          ∙ first-left e (entries_read q x (l ∷ [])) (entries_read q x ls) k
      by_answer false k = parts ∙ ap (λ us. us ++ entries_read q x ls) k

  -- the first list, and the next one
  pub first-in : (own : Level) (l : List Rank) → slice_get (lists_drawn x own) 0 ≡ Some l → In l (lists_drawn x own)
  first-in own l e = in-first l (lists_drawn x own) e

  pub first-rest : (own : Level) (l : List Rank) → slice_get (lists_drawn x own) 0 ≡ Some l
      → lists_drawn x own ≡ l ∷ lists_above rank_cmp l (lists_drawn x own)
  first-rest own l e = above-first (shortlex rank_cmp) (shortlex_total rank_cmp_total) l (lists_drawn x own)
      (drawn-ascending rank_cmp rank_cmp_total rank_same own.source own.pool.items.items x.left.now) e

  pub next-in : (own : Level) (l m : List Rank)
      → slice_get (lists_above rank_cmp l (lists_drawn x own)) 0 ≡ Some m → In m (lists_drawn x own)
  next-in own l m e = in-above (shortlex rank_cmp) (shortlex_total rank_cmp_total) l m (lists_drawn x own) e

  pub next-rest : (own : Level) (l m : List Rank)
      → slice_get (lists_above rank_cmp l (lists_drawn x own)) 0 ≡ Some m
      → lists_above rank_cmp l (lists_drawn x own) ≡ m ∷ lists_above rank_cmp m (lists_drawn x own)
  next-rest own l m e = above-onward (shortlex rank_cmp) (shortlex_total rank_cmp_total) l m (lists_drawn x own)
      (drawn-ascending rank_cmp rank_cmp_total rank_same own.source own.pool.items.items x.left.now) e

  -- what is drawn is read list by list
  pub drawn-read : (own : Level) → IsOver q.table.now own
      → entries_drawn q x own ≡ entries_read q x (lists_drawn x own)
  drawn-read own h =
      ap (λ ls. filter (reads q.sig.now (pattern_tree x.child.now) (above x.under)) (entries ls))
      (drawn-terms q.table.now valid own.source own.pool.items.items x.left.now h.1 left)

  -- the list of an entry that is drawn is drawn
  pub list_drawn : (own : Level) → IsOver q.table.now own → In (entry_of q.table.now own) (entries_drawn q x own)
      → In own.take.items.items (lists_drawn x own)
  list_drawn own h i =
      let T = q.table.now in
      let ls = lists_drawn x own in
      let there : In (entry_of T own) (entries_read q x ls) = subst (In (entry_of T own)) (drawn-read own h) i in
      let k = from_in-filter (reads q.sig.now (pattern_tree x.child.now) (above x.under)) (entry_of T own)
      (entries (map (terms_at T) ls)) there in
      let m = from_in-map (terms_at T) (terms_at T own.take.items.items) ls
      (from_in-entries (entry_of T own) (map (terms_at T) ls) k.0) in
      subst (λ l. In l ls) (sym (terms-same T valid own.take.items.items m.0 h.0
      (drawn-ranks T valid own.source own.pool.items.items x.left.now h.1 left m.0 m.2) m.1)) m.2

  -- what comes after an entry
  pub above-drawn : (own : Level) → IsOver q.table.now own → In own.take.items.items (lists_drawn x own)
      → above_entry (entry_of q.table.now own) (entries_drawn q x own)
      ≡ filter (reads q.sig.now (pattern_tree x.child.now) (above x.under))
      (mark_left (terms_at q.table.now own.take.items.items) own.collapsed)
      ++ entries_read q x (lists_above rank_cmp own.take.items.items (lists_drawn x own))
  above-drawn own h i =
      let T = q.table.now in
      let p : Entry → Bool = reads q.sig.now (pattern_tree x.child.now) (above x.under) in
      let l = own.take.items.items in
      let pool = own.pool.items.items in
      let same = drawn-terms T valid own.source pool x.left.now h.1 left in
      above-read p (terms_at T l) own.collapsed
      (drawn tree_cmp own.source (terms_at T pool) (terms_at T x.left.now))
      (drawn-ascending tree_cmp tree_cmp_total tree_same own.source (terms_at T pool) (terms_at T x.left.now))
      (subst (In (terms_at T l)) (sym same) (in-map (terms_at T) l (lists_drawn x own) i))
      ∙ ap (λ ls. filter p (mark_left (terms_at T l) own.collapsed) ++ filter p (entries ls))
      (ap (lists_above tree_cmp (terms_at T l)) same
      ∙ lists_above-terms T valid l (lists_drawn x own) h.0
      (drawn-ranks T valid own.source pool x.left.now h.1 left))

  -- the child reads its list collapsed as well
  pub above-collapsed : (own : Level) → IsOver q.table.now own → In own.take.items.items (lists_drawn x own)
      → not own.collapsed && reads q.sig.now (pattern_tree x.child.now) (above x.under)
      (collapsed_entry (terms_at q.table.now own.take.items.items)) ≡ true
      → slice_get (above_entry (entry_of q.table.now own) (entries_drawn q x own)) 0
      ≡ Some (collapsed_entry (terms_at q.table.now own.take.items.items))
  above-collapsed own h i k =
      ap (λ es. slice_get es 0) (above-drawn own h i)
      ∙ mark-read (reads q.sig.now (pattern_tree x.child.now) (above x.under))
      (terms_at q.table.now own.take.items.items) own.collapsed
      (entries_read q x (lists_above rank_cmp own.take.items.items (lists_drawn x own))) k

  -- or doesn't: then come the entries with later lists
  pub above-uncollapsed : (own : Level) → IsOver q.table.now own → In own.take.items.items (lists_drawn x own)
      → not own.collapsed && reads q.sig.now (pattern_tree x.child.now) (above x.under)
      (collapsed_entry (terms_at q.table.now own.take.items.items)) ≡ false
      → above_entry (entry_of q.table.now own) (entries_drawn q x own)
      ≡ entries_read q x (lists_above rank_cmp own.take.items.items (lists_drawn x own))
  above-uncollapsed own h i k =
      above-drawn own h i
      ∙ ap (λ es. es ++ entries_read q x (lists_above rank_cmp own.take.items.items (lists_drawn x own)))
      (mark-unread (reads q.sig.now (pattern_tree x.child.now) (above x.under))
      (terms_at q.table.now own.take.items.items) own.collapsed k)
