use Rattle.std.proofs.Common.{◌≡◌, ◌∙◌, ap, sym, map, subst}
use Rattle.std.specs.Prelude.{Some, option_map}
use Rattle.mp_term.specs.View.{tree}
use Rattle.mp_rewrite.specs.Computed.{first_redex}
use Rattle.mp_pattern.specs.Planned.{planned_rule}
use Rattle.mp_rewrite.specs.Made.{redex_of}
use Rattle.mp_rewrite.proofs.Steps.{IsReady-first_redex, IsRewritable-first_redex}
use Rattle.mp_rewrite.specs.Known.{IsKnown}
use Rattle.mp_rewrite.proofs.CancellationTurns.{cancelled-turn, cancelled-rewritable}
use Rattle.mp_rewrite.proofs.turn.take_turn.Goals as goal

pub returns-in-Some-clause-turn : goal.returns-in-Some-clause-turn
returns-in-Some-clause-turn c =
    cancelled-turn c.args.sig.now (map planned_rule c.args.rules.now) (tree c.args.here.term) c.requires.here.rewritable
    c.in-Some.cancelled c.in-Some.ensures (tree c.in_ok-next.next.term) c.in_ok-next.ensures.term

pub returns-in-Some-clause-here : goal.returns-in-Some-clause-here
returns-in-Some-clause-here c =
    let sig = c.args.sig.now in
    let rules = map planned_rule c.args.rules.now in
    record {
      rewritable = cancelled-rewritable sig rules (tree c.args.here.term) c.requires.here.rewritable c.in-Some.cancelled
          c.in-Some.ensures (tree c.in_ok-next.next.term) c.in_ok-next.ensures.term c.signature_is_valid.ensures
          c.requires.rules;
      known = subst (λ m. IsKnown sig rules m (tree c.in_ok-next.next.term)) (sym c.in_ok-next.ensures.known) tt;
      nodes = c.in_ok-next.ensures.nodes c.requires.here.nodes;
    }

pub step_in_place-requires-clause-ready : goal.step_in_place-requires-clause-ready
step_in_place-requires-clause-ready c =
    let sig = c.args.sig.now in
    let rules = map planned_rule c.args.rules.now in
    let t = tree c.args.here.term in
    let first : first_redex sig rules t ≡ Some (redex_of c.in-Some-2.found.redex) =
    sym c.in_ok-found.ensures.redex ∙ ap (option_map (λ r. redex_of r.redex)) c.in-Some-2.is in
    IsReady-first_redex sig rules c.signature_is_valid.ensures c.requires.rules t c.requires.here.rewritable
    (redex_of c.in-Some-2.found.redex) first

pub returns-clause-here : goal.returns-clause-here
returns-clause-here c =
    let sig = c.args.sig.now in
    let rules = map planned_rule c.args.rules.now in
    let t = tree c.args.here.term in
    let x = redex_of c.in-Some-2.found.redex in
    let first : first_redex sig rules t ≡ Some x =
    sym c.in_ok-found.ensures.redex ∙ ap (option_map (λ r. redex_of r.redex)) c.in-Some-2.is in
    let next = c.in_ok-next-2 in
    record {
      rewritable = IsRewritable-first_redex sig rules c.signature_is_valid.ensures c.requires.rules t
          c.requires.here.rewritable x (tree next.next.term) first next.ensures.step;
      known = next.ensures.known rules (rw c.in-Some-2.is at c.in_ok-found.ensures.known);
      nodes = next.ensures.nodes;
    }
