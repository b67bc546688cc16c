use Rattle.std.proofs.Common.{subst}
use Rattle.std.specs.Prelude.{ℕ, List}
use Rattle.mp_line.specs.Finds.{Finds}
use Rattle.mp_line.specs.LineTexts.{AreAcceptedText}
use Rattle.mp_line.proofs.ActionLaws.{no-word, led-through, accept-found, no-accept}
use Rattle.mp_line.proofs.action.split_action.Goals as goal

pub returns-in-Some : goal.returns-in-Some
returns-in-Some c =
    led-through c.args.text.now c.in-Some.token.now c.in-Some.number c.new-accepts.result c.in-Some.ensures
    c.new-accepts.ensures

pub returns-in_default-before : goal.returns-in_default-before
returns-in_default-before c =
    let parts = c.before_numbers.result in
    no-word c.args.text.now parts.0.now parts.1.now c.before_numbers.ensures c.in_default.ensures
    c.in_default-before.ensures

pub returns-in_default-2 : goal.returns-in_default-2
returns-in_default-2 c =
    let parts = c.before_numbers.result in
    no-accept c.args.text.now parts.0.now parts.1.now c.before_numbers.ensures c.in-Some-before.token.now
    c.in-Some-before.ensures
    (subst (Finds (λ (ns : List ℕ). ns) (AreAcceptedText parts.1.now)) c.in_default-2.is c.in_ok-accepts.ensures)

pub returns : goal.returns
returns c =
    let parts = c.before_numbers.result in
    accept-found c.args.text.now parts.0.now parts.1.now c.before_numbers.ensures c.in-Some-before.token.now
    c.in-Some-before.ensures c.in-Some-2.accepts
    (subst (Finds (λ (ns : List ℕ). ns) (AreAcceptedText parts.1.now)) c.in-Some-2.is c.in_ok-accepts.ensures)
