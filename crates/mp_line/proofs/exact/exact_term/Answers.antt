use Rattle.std.proofs.lemmas.Bool.{MatchBool-at_true, MatchBool-at_false}
use Rattle.mp_term.specs.View.{tree}
use Rattle.mp_print.specs.Printing.{term_text}
use Rattle.mp_build.specs.Alone.{IsTermOf}
use Rattle.mp_line.proofs.ExactLaws.{exact-only, exact-none}
use Rattle.mp_line.proofs.exact.exact_term.Goals as goal

pub returns-then-is_same : goal.returns-then-is_same
returns-then-is_same c =
    let sig = c.args.sig.now in
    let made = rw c.in-Some.is at c.in_ok-term.ensures.value in
    exact-only (IsTermOf sig) (term_text sig) c.args.text.now
    (tree c.in-Some.term) (rw made at c.read_term.ensures.only) (rw made at c.read_term.ensures.found)
    (MatchBool-at_true _ _ c.if-is_same.true c.in_ok-is_same.ensures)

pub returns-else-is_same : goal.returns-else-is_same
returns-else-is_same c =
    let sig = c.args.sig.now in
    let made = rw c.in-Some.is at c.in_ok-term.ensures.value in
    exact-none (IsTermOf sig) (term_text sig) c.args.text.now (tree c.in-Some.term)
    (rw made at c.read_term.ensures.only) (MatchBool-at_false _ _ c.if-is_same.false c.in_ok-is_same.ensures)

pub returns-in_default : goal.returns-in_default
returns-in_default c =
    let fault = rw c.in_default.is at c.in_ok-term.ensures.fault in
    λ a h. (rw fault.1 at c.read_term.ensures.only a h.read)
