use Rattle.std.proofs.Common.{◌∙◌, ◌-◌, arith, length, ap, sym}
use Rattle.std.specs.Ordering.{is_lt}
use Rattle.std.proofs.lemmas.List.{length-map}
use Rattle.mp_walk.specs.Ranked.{ranked_cmp, pairs_of}
use Rattle.mp_walk.proofs.FoundRuns.{ascends-first, ascends-push_ranked}
use Rattle.mp_walk.proofs.found.follows.Goals as goal
use Rattle.mp_term.proofs.TestLaws.{less-from}

pub returns-then-count-eq0 : goal.returns-then-count-eq0
returns-then-count-eq0 c = λ b h.
    ascends-first (pairs_of c.args.found.now) c.args.pair.now.pair
    (length-map c.args.found.now (λ r. r.pair) ∙ c.if-count-eq0.true)

pub returns-else-count-eq0 : goal.returns-else-count-eq0
returns-else-count-eq0 c = λ b h.
    ascends-push_ranked c.args.found.now (length c.args.found.now - 1) c.index-found-count.result c.args.pair.now
    (omega (arith, c.if-count-eq0.false)) c.index-found-count.is
    (less-from (ranked_cmp c.index-found-count.result c.args.pair.now)
    (ap is_lt (sym c.cmp.ensures) ∙ sym c.is_lt.ensures ∙ b)) h
