use Rattle.std.proofs.Common.{subst, sym, ◌∙◌, ap}
use Rattle.std.specs.Prelude.{ℕ, List}
use Rattle.mp_line.specs.Finds.{Finds}
use Rattle.mp_line.specs.LineTexts.{AreNumbersText, are_accepted}
use Rattle.mp_line.proofs.ActionLaws.{accepted-numbers, no-rules, rules-accepted}
use Rattle.mp_line.proofs.action.accepted.Goals as goal

pub returns-in_default : goal.returns-in_default
returns-in_default c = λ rules a.
    subst (Finds (λ (ns : List ℕ). ns) (AreNumbersText c.args.text.now)) c.in_default.is c.in_ok-numbers.ensures rules
    (accepted-numbers c.args.text.now rules a)

pub returns-then-is_right : goal.returns-then-is_right
returns-then-is_right c =
    rules-accepted c.args.text.now c.in-Some.numbers
    (subst (Finds (λ (ns : List ℕ). ns) (AreNumbersText c.args.text.now)) c.in-Some.is c.in_ok-numbers.ensures)
    (sym (c.are_accepted-is_right.ensures ∙ ap are_accepted c.as_slice.ensures) ∙ c.if-is_right.true)

pub returns-else-is_right : goal.returns-else-is_right
returns-else-is_right c =
    no-rules c.args.text.now c.in-Some.numbers
    (subst (Finds (λ (ns : List ℕ). ns) (AreNumbersText c.args.text.now)) c.in-Some.is c.in_ok-numbers.ensures)
    (sym (c.are_accepted-is_right.ensures ∙ ap are_accepted c.as_slice.ensures) ∙ c.if-is_right.false)
