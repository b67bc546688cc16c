use Rattle.std.proofs.Common.{◌∙◌, sym, subst, map}
use Rattle.std.specs.Prelude.{Contains}
use Rattle.std.specs.Vec.Iter.{into_iter_items}
use Rattle.std.proofs.lemmas.List.Filters.{dedup_is}
use Rattle.mp_term.specs.View.{tree}
use Rattle.mp_term.specs.Order.{tree_cmp}
use Rattle.mp_term.specs.OrderLaws.{tree_cmp_total, tree_same}
use Rattle.mp_term.specs.Listing.{IsListing}
use Rattle.mp_pattern.proofs.Distinct.{IsListing-dedup}
use Rattle.mp_pattern.proofs.constant.term_listing.Goals as goal

pub loop-term-init : goal.loop-term-init
loop-term-init c =
    let rest = into_iter_items c.into_iter-term-iterator.result in
    let left = dedup_is _ _ _ c.dedup.ensures.filtered in
    rw c.new-listed.ensures
    (subst (λ l. IsListing tree_cmp (Contains (map tree c.args.terms.items)) (map tree l))
    (sym (c.into_iter-term-iterator.ensures.into_iter_gives.0 ∙ left))
    (IsListing-dedup tree_cmp tree_cmp_total tree_same tree c.args.terms.items c.sort_unstable.new.self.items
    c.sort_unstable.ensures.permutation c.sort_unstable.ensures.sorted))
