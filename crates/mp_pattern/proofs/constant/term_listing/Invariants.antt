use Rattle.std.proofs.Common.{◌++◌, map}
use Rattle.std.specs.Vec.Iter.{into_iter_items}
use Rattle.mp_term.specs.View.{tree}
use Rattle.mp_term.specs.Order.{tree_cmp}
use Rattle.mp_term.specs.Listing.{IsListing}
use Rattle.std.specs.Prelude.{Contains}
use Rattle.mp_pattern.proofs.constant.term_listing.Given as goal

abbrev pub invariant-loop-term : goal.invariant-loop-term
invariant-loop-term l =
    IsListing tree_cmp (Contains (map tree l.fn.terms.items)) (l.listed ++ map tree (into_iter_items l.term-iterator))
