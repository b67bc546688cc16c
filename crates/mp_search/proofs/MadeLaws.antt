-- What is drawn leads to all that comes, where each choice with an item is drawn.
use Rattle.std.proofs.Common.{◌≡◌, ℕ, List, [], ◌∷◌, Bool, true, false, refl}
use Rattle.std.proofs.Common.{sym}
use Rattle.std.proofs.Common.{◌⊎◌, inl, inr, subst}
use Rattle.std.specs.Prelude.{if◌then◌else◌}
use Rattle.std.proofs.lemmas.List.Kept.{IsStrictlySortedBy-filter}
use Rattle.mp_term.specs.Order.{tree_cmp, shortlex}
use Rattle.mp_term.specs.OrderLaws.{tree_cmp_total, tree_same, shortlex_total}
use Rattle.mp_term.specs.Search.{In}
use Rattle.mp_term.specs.Signature.{Sig}
use Rattle.mp_term.specs.Tree.{Tree}
use Rattle.mp_term.specs.Pieces.{is_piece}
use Rattle.mp_term.proofs.PiecesLaws.{in-distinct}
use Rattle.mp_term.proofs.SearchLaws.{in-filter, from_in-filter, all-from_in}
use Rattle.mp_pattern.specs.PatternTree.{Pattern}
use Rattle.mp_pattern.specs.View.{pattern_tree}
use Rattle.mp_pattern.specs.Value.{Subst}
use Rattle.mp_pattern.specs.Variables.{comm_above}
use Rattle.mp_pattern.specs.DerivationOrder.{entry_cmp}
use Rattle.mp_pattern.specs.Fits.{Entry}
use Rattle.mp_table.specs.Table.{HasRanks, terms_at}
use Rattle.mp_theory.specs.Frames.{Frame}
use Rattle.mp_theory.specs.Machine.{entries, reads, choices}
use Rattle.mp_theory.specs.OneList.{Item}
use Rattle.mp_theory.specs.Items.{items_by}
use Rattle.mp_theory.proofs.Leading.{leads-items}
use Rattle.mp_theory.proofs.Tables.{entries-ascending}
use Rattle.mp_theory.proofs.Walk.{in-entries, from_in-entries, choices-exact}
use Rattle.mp_search.specs.declared.level.Level.{Level}
use Rattle.mp_search.specs.declared.level.Source.{Source}
use Rattle.mp_search.specs.declared.level.Source.TheVariants.{Whole}
use Rattle.mp_search.specs.declared.query.Query.{Query}
use Rattle.mp_search.specs.declared.site.Site.{Site}
use Rattle.mp_search.specs.Drawn.{drawn}
use Rattle.mp_search.specs.Levels.{IsPool, IsDrawable}
use Rattle.mp_search.specs.Made.{IsMade, IsEnd, IsThere}
use Rattle.mp_search.specs.Query.{width}
use Rattle.mp_search.specs.Site.{site_frame, site_place, entries_drawn}
use Rattle.mp_search.proofs.DrawnLaws.{drawn-ascending, is_end, pool_there, same_list}

module _ (q : Query) (x : Site) where
  -- the terms that are left
  abbrev left : List Tree
  left = terms_at q.table.now x.left.now

  -- the lists that are drawn are there, and each choice with an item is drawn
  pub record Draws (s : Subst) (source : Source) (pool : List Tree) : Type 0 where
    pub pieces : (l : List Tree) → In l (drawn tree_cmp source pool left) → IsThere q x l
    pub all : (fs : List Frame) (k : ℕ) (e : Entry) (i : Item) → In e (choices q.sig.now (site_place q x fs))
        → In i (items_by q.sig.now k (site_place q x fs) s e) → In e.terms (drawn tree_cmp source pool left)

  pub made : (s : Subst) (l : Level) → Draws s l.source (terms_at q.table.now l.pool.items.items) → IsPool (width q) l
      → HasRanks q.table.now l.pool.items.items → IsMade q x s l
  made s l d h r =
      let sig : Sig = q.sig.now in
      let p : Pattern = pattern_tree x.child.now in
      let f : Frame = site_frame q x in
      let ls : List (List Tree) = drawn tree_cmp l.source (terms_at q.table.now l.pool.items.items) left in
      let sub = λ (fs : List Frame) (e : Entry) (i : In e (entries_drawn q x l)).
      (let k = from_in-filter (reads sig p f.under) e (entries ls) i in
      (choices-exact sig p f fs e.terms e.collapsed).1 (d.pieces e.terms (from_in-entries e ls k.0), k.1)) in
      record {
        leads = λ fs. leads-items sig (site_place q x fs) s (entries_drawn q x l)
            (IsStrictlySortedBy-filter entry_cmp (reads sig p f.under) (entries ls) (entries-ascending sig ls
            (drawn-ascending tree_cmp tree_cmp_total tree_same l.source
            (terms_at q.table.now l.pool.items.items) left)))
            (sub fs)
            (λ k e i c m. in-filter (reads sig p f.under) e (entries ls)
            (in-entries e.terms e.collapsed ls (d.all fs k e i c m))
            ((choices-exact sig p f fs e.terms e.collapsed).0 c).1);
        choices = all-from_in (λ e. In e (choices sig (site_place q x []))) (entries_drawn q x l) (sub []);
        pool = h;
        ranks = r;
      }

  -- the empty list, the pool, or both are drawn
  pub made-whole : (s : Subst) (l : Level) (empty whole : Bool) (ls : List (List Tree)) → l.source ≡ Whole empty whole
      → IsEnd q x ls whole l.pool.items.items
      → ((fs : List Frame) (k : ℕ) (e : Entry) (i : Item) → In e (choices q.sig.now (site_place q x fs))
      → In i (items_by q.sig.now k (site_place q x fs) s e)
      → ((empty ≡ true) × (e.terms ≡ [])) ⊎ In e.terms ls) → IsMade q x s l
  made-whole s l empty whole ls h d all =
      let pool : List Tree = terms_at q.table.now l.pool.items.items in
      let ends : List (List Tree) = drawn tree_cmp (Whole empty whole) pool left in
      let ready : Draws s (Whole empty whole) pool = record {
        pieces = λ m i. elim (is_end tree_cmp tree_cmp_total tree_same empty whole pool left m i) [
          | inl e ↦ subst (IsThere q x) (sym e) (nothing-there (comm_above q.sig.now (site_frame q x).under) left)
          | inr e ↦ subst (IsThere q x) (sym e.1) (d.there e.0)
        ];
        all = λ fs k e i c m. elim (all fs k e i c m) [
          | inl a ↦ subst (λ t. In t ends) (sym a.1) (empty_there empty whole pool a.0)
          | inr a ↦
              let p = ((choices-exact q.sig.now (pattern_tree x.child.now) (site_frame q x) fs e.terms e.collapsed).0
              c).0 in
              let o = d.only e.terms a p in
              subst (λ t. In t ends) (sym o.1)
              (pool_there tree_cmp tree_cmp_total tree_same empty whole pool left o.0)
        ];
      } in
      made s l (subst (λ b. Draws s b pool) (sym h) ready) (d.few, drawable l.source h) d.ranks
    where
      nothing-there : (b : Bool) (ts : List Tree) → is_piece tree_cmp b [] ts ≡ true
      nothing-there true ts = refl
      nothing-there false ts = refl

      empty_there : (empty whole : Bool) (pool : List Tree) → empty ≡ true
          → In [] (drawn tree_cmp (Whole empty whole) pool left)
      empty_there true whole pool e = in-distinct (shortlex tree_cmp) (shortlex_total tree_cmp_total)
          (same_list tree_cmp tree_cmp_total tree_same) []
          ([] ∷ (if whole then pool ∷ [] else [])) (inl refl)
      empty_there false whole pool e = cc

      drawable : (b : Source) → b ≡ Whole empty whole → IsDrawable b l.pool.items.items
      drawable b e = subst (λ c. IsDrawable c l.pool.items.items) (sym e) tt
