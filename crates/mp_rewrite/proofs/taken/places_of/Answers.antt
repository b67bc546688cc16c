use Rattle.std.proofs.Common.{◌∙◌, sym, map, subst}
use Rattle.std.proofs.lemmas.List.{length-map}
use Rattle.mp_term.specs.View.{tree}
use Rattle.mp_rewrite.specs.Cancellation.{StandsNowhere}
use Rattle.mp_rewrite.proofs.PutBack.{ascends-from}
use Rattle.mp_rewrite.proofs.CancellationSteps.{first-symbol, first-pair, first-under}
use Rattle.mp_rewrite.proofs.CancelledNowhere.{no-pair, no-under}
use Rattle.mp_rewrite.proofs.taken.places_of.Goals as goal

pub returns-else-not-is_enough : goal.returns-else-not-is_enough
returns-else-not-is_enough c =
    first-symbol c.args.sig.now c.args.cancellation.now (map tree c.args.args.now) c.in-Symbol.name c.in-Symbol.is
    c.in-Some.first c.in-Some.ensures
    (λ q l. c.is_enough.ensures c.if-not-is_enough.false q (sym (length-map c.args.args.now tree) ∙ l))

pub returns-in_default-pair_place : goal.returns-in_default-pair_place
returns-in_default-pair_place c =
    let ts = map tree c.args.args.now in
    subst (StandsNowhere c.args.sig.now c.args.cancellation.now.op.0 ts) (sym c.in-Pair.is)
    (no-pair ts (ascends-from ts c.requires) c.in_default-pair_place.ensures)

pub returns-else-not-is_enough-2 : goal.returns-else-not-is_enough-2
returns-else-not-is_enough-2 c =
    first-pair c.args.sig.now c.args.cancellation.now (map tree c.args.args.now) c.in-Pair.is
    (ascends-from (map tree c.args.args.now) c.requires) c.in-Some-pair_place.first c.in-Some-pair_place.ensures
    c.both.result c.both.ensures
    (λ q l. c.is_enough-in-Pair.ensures c.if-not-is_enough-2.false q (sym (length-map c.args.args.now tree) ∙ l))

pub returns-in-Nowhere : goal.returns-in-Nowhere
returns-in-Nowhere c =
    let ts = map tree c.args.args.now in
    subst (StandsNowhere c.args.sig.now c.args.cancellation.now.op.0 ts) (sym c.in-Under.is) (
      sym c.is_assoc.ensures ∙ c.if-is_assoc.false,
      no-under c.args.cancellation.now.op.0 c.in-Under.inner.0 ts c.in-Nowhere.ensures,
    )

pub returns-else-not-is_enough-3 : goal.returns-else-not-is_enough-3
returns-else-not-is_enough-3 c =
    first-under c.args.sig.now c.args.cancellation.now (map tree c.args.args.now) c.in-Under.inner c.in-Under.is
    (sym c.is_assoc.ensures ∙ c.if-is_assoc.false) (ascends-from (map tree c.args.args.now) c.requires)
    (c.in-At.first, c.in-At.second) c.in-At.ensures c.both-in-At.result c.both-in-At.ensures
    (λ q l. c.is_enough-in-At.ensures c.if-not-is_enough-3.false q (sym (length-map c.args.args.now tree) ∙ l))
