-- No item comes behind one where each child that takes one term took its last one, and one wildcard takes the rest.
use Rattle.std.proofs.Common.{◌≡◌, ◌≤◌, ◌+◌, ◌-◌, ℕ, List, [], ◌∷◌, ◌++◌, length, map, take, drop, Bool, true}
use Rattle.std.proofs.Common.{ap, sym, ◌∙◌, subst, arith, append_assoc}
use Rattle.std.specs.Prelude.{Option, Some, slice_get}
use Rattle.std.specs.List.{AllByRecursion}
use Rattle.std.specs.List.Sorted.{IsStrictlySortedBy}
use Rattle.std.proofs.lemmas.List.{append_cancel_left, length-map, map-append}
use Rattle.mp_term.specs.Order.{tree_cmp}
use Rattle.mp_term.specs.OrderLaws.{tree_cmp_total, tree_same}
use Rattle.mp_term.specs.Pieces.{without}
use Rattle.mp_term.specs.Search.{In}
use Rattle.mp_term.specs.Signature.{Sig}
use Rattle.mp_term.specs.Tree.{Tree}
use Rattle.mp_term.proofs.ListingLaws.{all_in}
use Rattle.mp_term.proofs.PiecesLaws.{all-without}
use Rattle.mp_term.proofs.SearchLaws.{all-from_in}
use Rattle.mp_term.proofs.ListLaws.{all-get}
use Rattle.mp_pattern.specs.Fits.{Table}
use Rattle.mp_pattern.specs.PatternTree.{Wildcard, Pattern, app_pattern, wild_pattern, Patterns, no_patterns}
use Rattle.mp_pattern.specs.PatternTree.{more_patterns, patterns}
use Rattle.mp_pattern.specs.Value.{Subst}
use Rattle.mp_pattern.specs.Variables.{comm_above}
use Rattle.mp_pattern.specs.View.{pattern_tree}
use Rattle.mp_table.specs.Table as plain
use Rattle.mp_table.specs.Table.{IsTable, term_at, terms_at}
use Rattle.mp_table.specs.declared.rank.Rank.{Rank}
use Rattle.mp_subst.specs.Trail.{Trail}
use Rattle.mp_theory.specs.Items.{in_front}
use Rattle.mp_theory.specs.OneList.{item_tables}
use Rattle.mp_theory.specs.Shape.{shape, table_of}
use Rattle.mp_search.specs.declared.stage.Stage.TheVariants.{Standing}
use Rattle.mp_ac.specs.declared.pick.Pick.{Pick}
use Rattle.mp_ac.specs.declared.search.CommSearch.{CommSearch}
use Rattle.mp_ac.specs.Asked.{root_list}
use Rattle.mp_ac.specs.CommList.{behind_table, comm_list}
use Rattle.mp_ac.specs.Numbered.{numbered_subst}
use Rattle.mp_ac.specs.Planned.{plan_of}
use Rattle.mp_ac.specs.Search.{IsOver, ahead, all_items, given_of, kept_table, leading_of}
use Rattle.mp_ac.specs.Seek.{ArePicked, ArePicksOf, IsCommutative, IsLeading, picked, picks_table, with_children}
use Rattle.mp_ac.specs.Spent.{IsLast, IsSpent}
use Rattle.mp_ac.specs.Stage.{IsAmong, ahead_at}
use Rattle.mp_ac.specs.TakesOne.{items_among}
use Rattle.mp_ac.proofs.AmongLaws.{behind_table-among, behind_table-items_by, from_in-items_by, in-table}
use Rattle.mp_ac.proofs.SeekEach.{choice-term, terms-ascend}
use Rattle.mp_ac.proofs.Parts.{part-get, part-none, part-split}
use Rattle.mp_ac.proofs.SeekLaws.{root-first}
use Rattle.mp_ac.proofs.WildLaws.{wild-behind}

module _ (t : plain.Table) (table : IsTable t) (sig : Sig) (g : ℕ) (comm : comm_above sig (Some g) ≡ true)
    (w : Wildcard) (x : Option (List ℕ)) (us : List Tree) (n : ℕ) (cs : List Rank) where
  -- the children and then the wildcard
  abbrev and_wild : List Pattern → Patterns
  and_wild ps = patterns (ps ++ wild_pattern w x ∷ [])

  spent-list : (ps : List Pattern) (ks : List Pick) → AllByRecursion (IsLeading sig) ps
      → ArePicksOf t us n cs ps ks → ArePicked ps ks → AllByRecursion IsLast (take (length ps) ks)
      → (left : List Tree) (owes : Bool) (s : Subst) (W : Table) → AllByRecursion (λ u. In u us) left
      → In (picks_table t cs ps ks ++ W) (item_tables (comm_list sig g (and_wild ps) left owes s))
      → behind_table (picks_table t cs ps ks ++ W) (comm_list sig g (and_wild ps) left owes s) ≡ []
  spent-list [] ks lead o c l left owes s W within m = wild-behind sig g w x left owes W s
  spent-list (p ∷ ps) [] lead o c l left owes s W within m = absurd o
  spent-list (p ∷ ps) (k ∷ ks) lead o c l left owes s W within m =
      let d : Rank = record { 0 = 0 } in
      let qs = and_wild ps in
      let part : List Rank = take (k.end - k.from) (drop k.from cs) in
      let r : Rank = picked cs k in
      let u : Tree = term_at t r in
      let T : Table = table_of p u in
      let U : Table = picks_table t cs ps ks ++ W in
      let split = part-split d cs k.from k.at k.end c.0.0 c.0.1 o.0.within in
      let ended : k.end ≤ k.at + 1 = omega (arith, l.0) in
      let terms : terms_at t part ≡ terms_at t split.0 ++ u ∷ [] =
      ap (terms_at t) (split.1 ∙ ap (λ rs. split.0 ++ r ∷ rs) (part-none (k.at + 1) k.end cs ended))
      ∙ map-append (term_at t) split.0 (r ∷ []) in
      let up = terms-ascend t table.ascending part o.0.choices.ranks o.0.choices.ascending in
      let shaped : shape p u ≡ true = part-get d (λ q. shape p (term_at t q) ≡ true) cs k.from k.at k.end c.0.0 c.0.1
      o.0.within o.0.choices.shaped in
      let given = λ (v : Tree) (i : In v left). all_in (λ y. In y us) left v within i in
      let first : comm_list sig g (more_patterns p qs) left owes s
      ≡ items_among sig g p qs left owes s (terms_at t part) =
      root-first sig p ps left owes s (app_pattern g (more_patterns (wild_pattern w x) no_patterns)) comm
      lead.0.takes_one (λ q e. (all-get (IsLeading sig) ps 0 q lead.1 e).takes_one) us (terms_at t part) given up
      (λ v i. choice-term t p (slice_get ps 0) us part o.0.choices v (given v i)) in
      let assoc = append_assoc T (picks_table t cs ps ks) W in
      let among : In (T ++ U) (item_tables (items_among sig g p qs left owes s (terms_at t part))) =
      subst (λ V. In V (item_tables (items_among sig g p qs left owes s (terms_at t part)))) assoc
      (subst (λ is. In ((T ++ picks_table t cs ps ks) ++ W) (item_tables is)) first m) in
      let own = in-table sig g p qs left owes s (terms_at t part) u U shaped among in
      let f = from_in-items_by sig g p qs left owes s u (T ++ U) own in
      let later : List Tree = without tree_cmp (u ∷ []) left in
      let goes : In U (item_tables (comm_list sig g qs later owes f.after)) =
      subst (λ V. In V (item_tables (comm_list sig g qs later owes f.after)))
      (sym (append_cancel_left T U f.rest f.table)) f.goes_on in
      let rest = spent-list ps ks lead.1 o.1 c.1 l.1 later owes f.after W
      (all-without tree_cmp tree_cmp_total tree_same (λ y. In y us) (u ∷ []) left within) goes in
      ap (behind_table ((T ++ picks_table t cs ps ks) ++ W)) first
      ∙ ap (λ V. behind_table V (items_among sig g p qs left owes s (terms_at t part))) assoc
      ∙ ap (λ ts. behind_table (T ++ U) (items_among sig g p qs left owes s ts)) terms
      ∙ behind_table-among sig g p qs left owes s (terms_at t split.0) u [] (T ++ U)
      (subst (IsStrictlySortedBy tree_cmp) terms up) own
      ∙ ap (λ is. is ++ []) (behind_table-items_by sig g p qs left owes s u f.after U f.stands f.has_shape f.fills
      ∙ ap (map (in_front T)) rest)

picks-enough : (t : plain.Table) (us : List Tree) (n : ℕ) (cs : List Rank) (ps : List Pattern) (ks : List Pick)
    → ArePicksOf t us n cs ps ks → length ps ≤ length ks
picks-enough t us n cs [] ks h = omega arith
picks-enough t us n cs (p ∷ ps) [] h = absurd h
picks-enough t us n cs (p ∷ ps) (k ∷ ks) h = omega (arith, picks-enough t us n cs ps ks h.1)

-- each child has its pick
pub spent-count : (c : CommSearch) (t : Trail) → IsOver c t → length c.children.now ≤ length c.room.picks.items
spent-count c t h = subst (λ n. n ≤ length c.room.picks.items) (length-map c.children.now pattern_tree)
    (picks-enough c.table.now (terms_at c.table.now (given_of c)) c.room.width c.room.choices.items (leading_of c)
    c.room.picks.items h.picks)

module _ (c : CommSearch) (t : Trail) (h : IsOver c t) (stands : c.stage ≡ Standing)
    (spent : IsSpent (plan_of c.plan).plan (length c.children.now) c.room.picks.items) where
  -- nothing comes behind the item at hand
  pub spent-ahead : ahead c (numbered_subst c.table.now t.stack) ≡ []
  spent-ahead =
      let is = all_items c (numbered_subst c.table.now t.stack) in
      ap (λ st. ahead_at st (kept_table c) is) stands
      ∙ subst (λ q. IsCommutative c.sig.now q
      → In (kept_table c) (item_tables (root_list c.sig.now (with_children (leading_of c) q)
      (terms_at c.table.now (given_of c)) c.owes (numbered_subst c.table.now t.stack)))
      → behind_table (kept_table c) (root_list c.sig.now (with_children (leading_of c) q)
      (terms_at c.table.now (given_of c)) c.owes (numbered_subst c.table.now t.stack)) ≡ []) (sym spent.rest.is)
      (λ comm m. spent-list c.table.now h.asked.table c.sig.now spent.rest.op comm spent.rest.wildcard spent.rest.name
      (terms_at c.table.now (given_of c)) c.room.width c.room.choices.items (leading_of c) c.room.picks.items h.leading
      h.picks (h.picked stands) (subst (λ n. AllByRecursion IsLast (take n c.room.picks.items))
      (sym (length-map c.children.now pattern_tree)) spent.lasts) (terms_at c.table.now (given_of c)) c.owes
      (numbered_subst c.table.now t.stack) _
      (all-from_in (λ u. In u (terms_at c.table.now (given_of c))) (terms_at c.table.now (given_of c)) (λ u i. i)) m)
      h.commutative (subst (λ st. IsAmong st (kept_table c) is) stands h.among)
