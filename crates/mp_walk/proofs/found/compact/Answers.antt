use Rattle.std.proofs.Common.{subst, sym}
use Rattle.std.specs.Prelude.{Contains}
use Rattle.std.proofs.lemmas.List.Filters.{dedup_is}
use Rattle.mp_term.specs.Listing.{IsListing}
use Rattle.mp_walk.specs.Found.{found_cmp}
use Rattle.mp_walk.specs.Ranked.{pairs_of, AreOver}
use Rattle.mp_walk.proofs.FoundLaws.{AreOver-dedup, listing-dedup}
use Rattle.mp_walk.proofs.found.compact.Goals as goal

pub returns-then-not-ascending-clause-pairs : goal.returns-then-not-ascending-clause-pairs
returns-then-not-ascending-clause-pairs c =
    subst (λ rs. IsListing found_cmp (Contains (pairs_of c.args.found.now.items)) (pairs_of rs))
    (sym (dedup_is _ _ _ c.dedup.ensures.filtered))
    (listing-dedup c.args.found.now.items c.sort_unstable.new.self.items c.sort_unstable.ensures.permutation
    c.sort_unstable.ensures.sorted)

pub returns-then-not-ascending-clause-over : goal.returns-then-not-ascending-clause-over
returns-then-not-ascending-clause-over c = λ t over.
    subst (AreOver t) (sym (dedup_is _ _ _ c.dedup.ensures.filtered))
    (AreOver-dedup t c.args.found.now.items c.sort_unstable.new.self.items c.sort_unstable.ensures.permutation over)
