-- What a node's own level is given, where the levels are split at it.
use Rattle.std.proofs.Common.{◌≡◌, ℕ, ◌<◌, ◌+◌, List, take, length, ap, sym, ◌∙◌, subst, arith}
use Rattle.std.specs.Prelude.{IsSome, slice_get}
use Rattle.std.specs.Borrow.{Bor}
use Rattle.mp_pattern.specs.Subpatterns.{subpatterns}
use Rattle.mp_table.specs.Table.{terms_at, HasRanks}
use Rattle.mp_table.specs.declared.rank.Rank.{Rank}
use Rattle.mp_search.specs.declared.level.Level.{Level}
use Rattle.mp_search.specs.declared.query.Query.{Query}
use Rattle.mp_search.specs.declared.stack.Place.{Place}
use Rattle.mp_search.specs.Frames.{left_of, stack_frames, place_after}
use Rattle.mp_search.specs.Site.{IsSite, site_place}
use Rattle.mp_search.specs.At.{IsAt, IsAtNode, site_of}
use Rattle.mp_search.proofs.ChildLaws.{child-within, site-at, site-place}
use Rattle.mp_search.proofs.LevelsLaws.{length-take_within}

-- the plan has the node
pub split-within : (q : Query) (L : List Level) (p : Place) (k : ℕ) → k < length L → IsAtNode q k L
    → IsAt q (take k L) p → IsSome (slice_get (subpatterns q.plan.now.pattern) (q.first + k))
split-within q L p k within node at = subst (λ i. IsSome (slice_get (subpatterns q.plan.now.pattern) (q.first + i)))
    (length-take_within k L (omega (arith, within))) (child-within q (take k L) p node.query at)

-- the ranks that are left stand for what is left at the place
pub split-terms : (q : Query) (L B : List Level) (p : Place) (k : ℕ) (left : Bor (List Rank)) → B ≡ take k L
    → terms_at q.table.now left.now ≡ left_of q B p.left → terms_at q.table.now left.now ≡ left_of q (take k L) p.left
split-terms q L B p k left e h = h ∙ ap (λ ls. left_of q ls p.left) e

-- the child is a site there
pub split-site : (q : Query) (L B : List Level) (p : Place) (k node : ℕ) (left : Bor (List Rank)) → B ≡ take k L
    → k < length L → IsAtNode q k L → IsAt q (take k L) p → node ≡ q.first + k
    → terms_at q.table.now left.now ≡ left_of q B p.left → HasRanks q.table.now left.now
    → IsSite q (site_of p node left)
split-site q L B p k node left e within h at numbered terms ranks =
    site-at q (take k L) p h.query at node left
    (numbered ∙ ap (λ i. q.first + i) (sym (length-take_within k L (omega (arith, within)))))
    (split-terms q L B p k left e terms) h.narrow h.ordered ranks

-- which is the place
pub split-place : (q : Query) (L B : List Level) (p : Place) (k node : ℕ) (left : Bor (List Rank)) → B ≡ take k L
    → k < length L → IsAtNode q k L → IsAt q (take k L) p → node ≡ q.first + k
    → terms_at q.table.now left.now ≡ left_of q B p.left
    → site_place q (site_of p node left) (stack_frames q (take k L) p.outer.now) ≡ place_after q (take k L)
split-place q L B p k node left e within h at numbered terms =
    site-place q (take k L) p h.query at node left
    (numbered ∙ ap (λ i. q.first + i) (sym (length-take_within k L (omega (arith, within)))))
    (split-terms q L B p k left e terms)
