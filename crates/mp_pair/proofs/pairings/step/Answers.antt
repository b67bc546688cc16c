use Rattle.std.proofs.Common.{◌-◌, ◌+◌, false, arith, length, take, subst}
use Rattle.std.specs.Prelude.{MatchBool}
use Rattle.std.proofs.lemmas.Cmp.{nat_list_cmp_total}
use Rattle.mp_choice.specs.Listed.{StandsAt}
use Rattle.mp_choice.proofs.Lexicographic.{lex}
use Rattle.mp_choice.proofs.Listed.{after-first, after-next}
use Rattle.mp_pair.specs.Pairings.{IsPairing}
use Rattle.mp_pair.specs.PairingList.{pairings_of}
use Rattle.mp_pair.specs.Bipartite.{lists}
use Rattle.mp_pair.specs.PairingSteps.{IsFirstAt, NoneAt}
use Rattle.mp_pair.proofs.Lists.{length-lists}
use Rattle.mp_pair.proofs.PairListing.{pairings_of-listing, next_pairing, last_empty, front_of}
use Rattle.mp_pair.proofs.pairings.step.Goals as goal

pub returns-then-count-eq0 : goal.returns-then-count-eq0
returns-then-count-eq0 c =
    after-next lex nat_list_cmp_total (IsPairing c.args.capacities.now (lists c.args.left.now))
    (pairings_of c.args.capacities.now (lists c.args.left.now))
    (pairings_of-listing c.args.capacities.now (lists c.args.left.now))
    false c.args.stage c.args.choice.now c.args.choice.now c.in-Standing.is
    (last_empty c.args.capacities.now (lists c.args.left.now) c.args.choice.now c.if-count-eq0.true
    (omega (arith, length-lists c.args.left.now)))

pub settle-requires-clause-front : goal.settle-requires-clause-front
settle-requires-clause-front c =
    front_of c.args.capacities.now (lists c.args.left.now) c.args.choice.now (length c.args.choice.now - 1)
    (subst (λ s. StandsAt (IsPairing c.args.capacities.now (lists c.args.left.now)) s c.args.choice.now)
    c.in-Standing.is c.requires.stands) (omega arith)

pub returns-in-Before : goal.returns-in-Before
returns-in-Before c =
    after-first lex nat_list_cmp_total (IsPairing c.args.capacities.now (lists c.args.left.now))
    (pairings_of c.args.capacities.now (lists c.args.left.now))
    (pairings_of-listing c.args.capacities.now (lists c.args.left.now))
    c.first.result c.args.stage c.args.choice.now c.first.new.choice c.in-Before.is c.first.ensures

pub returns-else-count-eq0 : goal.returns-else-count-eq0
returns-else-count-eq0 c =
    after-next lex nat_list_cmp_total (IsPairing c.args.capacities.now (lists c.args.left.now))
    (pairings_of c.args.capacities.now (lists c.args.left.now))
    (pairings_of-listing c.args.capacities.now (lists c.args.left.now))
    c.settle.result c.args.stage c.args.choice.now c.settle.new.choice c.in-Standing.is
    (next_pairing c.settle.result c.args.capacities.now (lists c.args.left.now) c.args.choice.now c.settle.new.choice
    (length c.args.choice.now - 1)
    (subst (λ s. StandsAt (IsPairing c.args.capacities.now (lists c.args.left.now)) s c.args.choice.now)
    c.in-Standing.is c.requires.stands) (omega arith)
    (subst (λ b. MatchBool c.settle.result
    (IsFirstAt c.args.capacities.now (lists c.args.left.now) (take (length c.args.choice.now - 1) c.args.choice.now)
    (b + 1) c.settle.new.choice) (NoneAt c.args.capacities.now (lists c.args.left.now)
    (take (length c.args.choice.now - 1) c.args.choice.now) (b + 1))) c.from-bound.ensures c.settle.ensures))
