use Rattle.std.proofs.Common.{◌≡◌, ◌∙◌, ap, sym, map}
use Rattle.std.specs.Prelude.{Some, option_map}
use Rattle.mp_term.specs.View.{tree}
use Rattle.mp_pattern.specs.Planned.{planned_rule}
use Rattle.mp_rewrite.specs.Computed.{first_redex}
use Rattle.mp_rewrite.specs.Made.{redex_of}
use Rattle.mp_rewrite.specs.MarkView.{mark_of}
use Rattle.mp_rewrite.specs.Known.{IsKnown}
use Rattle.mp_rewrite.proofs.Steps.{IsReady-first_redex}
use Rattle.mp_rewrite.proofs.Within.{within-rewritable, within-again}
use Rattle.mp_rewrite.proofs.below.first_step.Goals as goal

pub first_known_redex-requires-clause-normal : goal.first_known_redex-requires-clause-normal
first_known_redex-requires-clause-normal c =
    (within-rewritable c.args.sig.now (map planned_rule c.args.rules.now) c.requires.within.0 c.args.levels
    (tree c.args.here.term) _ _ c.requires.within.1).normal

pub first_known_redex-requires-clause-few : goal.first_known_redex-requires-clause-few
first_known_redex-requires-clause-few c =
    (within-rewritable c.args.sig.now (map planned_rule c.args.rules.now) c.requires.within.0 c.args.levels
    (tree c.args.here.term) _ _ c.requires.within.1).few_nodes

pub step_within-requires-clause-term : goal.step_within-requires-clause-term
step_within-requires-clause-term c =
    within-rewritable c.args.sig.now (map planned_rule c.args.rules.now) c.requires.within.0 c.args.levels
    (tree c.args.here.term) _ _ c.requires.within.1

pub step_within-requires-clause-ready : goal.step_within-requires-clause-ready
step_within-requires-clause-ready c =
    let sig = c.args.sig.now in
    let rules = map planned_rule c.args.rules.now in
    let t = tree c.args.here.term in
    let found = c.in-Some.found.redex in
    let first : first_redex sig rules t ≡ Some (redex_of found) =
    sym c.in_ok-first_known_redex.ensures.redex ∙ ap (option_map (λ r. redex_of r.redex)) c.in-Some.is in
    IsReady-first_redex sig rules c.signature_is_valid.ensures c.requires.rules t
    (within-rewritable sig rules c.requires.within.0 c.args.levels t _ _ c.requires.within.1) (redex_of found) first

pub returns-in_ok-below-in-Some-clause-run : goal.returns-in_ok-below-in-Some-clause-run
returns-in_ok-below-in-Some-clause-run c = λ C h.
    let sig = c.args.sig.now in
    let rules = map planned_rule c.args.rules.now in
    let t = tree c.args.here.term in
    let found = c.in-Some.found in
    let first : first_redex sig rules t ≡ Some (redex_of found.redex) =
    sym c.in_ok-first_known_redex.ensures.redex ∙ ap (option_map (λ r. redex_of r.redex)) c.in-Some.is in
    let known : IsKnown sig rules (mark_of found.known) t =
    rw c.in-Some.is at c.in_ok-first_known_redex.ensures.known in
    c.in_ok-below-in-Some.ensures.run rules c.requires.rules first C
    (within-again sig rules C c.args.levels t _ _ h t _ _ h.rewritable known h.counted)
