-- What is prepared at a node's site is drawn at the node.
use Rattle.std.proofs.Common.{◌≡◌, ℕ, List, [], take, ap, sym, ◌∙◌, subst}
use Rattle.std.specs.Prelude.{Some, slice_get}
use Rattle.std.specs.Borrow.{Bor}
use Rattle.std.specs.List.{AllByRecursion}
use Rattle.std.specs.List.Sorted.{IsStrictlySortedBy}
use Rattle.mp_term.specs.Search.{In}
use Rattle.mp_pattern.specs.DerivationOrder.{entry_cmp}
use Rattle.mp_pattern.specs.Value.{Subst}
use Rattle.mp_table.specs.Table.{terms_at}
use Rattle.mp_table.specs.declared.rank.Rank.{Rank}
use Rattle.mp_theory.specs.Items.{LeadsTo}
use Rattle.mp_theory.specs.Machine.{choices}
use Rattle.mp_search.specs.declared.level.Level.{Level}
use Rattle.mp_search.specs.declared.query.Query.{Query}
use Rattle.mp_search.specs.declared.stack.Place.{Place}
use Rattle.mp_search.specs.Frames.{left_of, stack_frames, place_after}
use Rattle.mp_search.specs.Levels.{IsPool}
use Rattle.mp_search.specs.Query.{width}
use Rattle.mp_search.specs.Site.{IsPrepared, site_place, entries_drawn}
use Rattle.mp_search.specs.At.{IsDrawn, drawn_at, site_of}
use Rattle.mp_search.proofs.OwnLaws.{drawn-own, ascending-own, own-pool}

pub prepared-drawn : (q : Query) (p : Place) (L N : List Level) (k node : ℕ) (left : Bor (List Rank)) (own : Level)
    (s : Subst) → slice_get N k ≡ Some own → take k N ≡ take k L
    → terms_at q.table.now left.now ≡ left_of q (take k L) p.left
    → site_place q (site_of p node left) (stack_frames q (take k L) p.outer.now) ≡ place_after q (take k L)
    → IsPrepared q (site_of p node left) s own
    → AllByRecursion (λ e. In e (choices q.sig.now (site_place q (site_of p node left) [])))
    (entries_drawn q (site_of p node left) own)
    → IsPool (width q) own → IsDrawn q p N k s
prepared-drawn q p L N k node left own s get front terms place leads among pool =
    let x = site_of p node left in
    let fs = stack_frames q (take k L) p.outer.now in
    let es : entries_drawn q x own ≡ drawn_at q p N k =
    sym (drawn-own q p N k node left own get (terms ∙ ap (λ ls. left_of q ls p.left) (sym front))) in
    let to : site_place q x fs ≡ place_after q (take k N) = place ∙ ap (place_after q) (sym front) in
    record {
      leads = subst (λ ds. LeadsTo q.sig.now (place_after q (take k N)) s ds
          (choices q.sig.now (place_after q (take k N)))) es
          (subst (λ n. LeadsTo q.sig.now n s (entries_drawn q x own) (choices q.sig.now n)) to (leads fs));
      choices = subst (AllByRecursion (λ e. In e (choices q.sig.now (place_after q (take k N))))) es
          (subst (λ n. AllByRecursion (λ e. In e (choices q.sig.now n)) (entries_drawn q x own)) to among);
      ascending = subst (IsStrictlySortedBy entry_cmp) es (ascending-own q p node left own);
      pool = own-pool q N k own get pool;
    }
