use Rattle.std.proofs.Common.{sym, ◌∙◌, true≢false}
use Rattle.mp_pattern.specs.View.{pattern_tree}
use Rattle.mp_print.specs.PrintedPattern.{pattern_text}
use Rattle.mp_build.specs.Alone.{IsPatternOf}
use Rattle.mp_line.proofs.ExactLaws.{exact-only, exact-none}
use Rattle.mp_line.proofs.exact.exact_pattern.Goals as goal

pub returns-then-is_same : goal.returns-then-is_same
returns-then-is_same c =
    let sig = c.args.sig.now in
    let made = rw c.in-Some.is at c.in_ok-pattern.ensures.value in
    let shown = c.content.ensures ∙ c.in_ok-printed.ensures in
    exact-only (IsPatternOf sig) (pattern_text sig) c.args.text.now
    (pattern_tree c.in-Some.pattern) (rw made at c.read_pattern.ensures.only) (rw made at c.read_pattern.ensures.found)
    (sym shown ∙ c.is_same.ensures.0 c.if-is_same.true)

pub returns-else-is_same : goal.returns-else-is_same
returns-else-is_same c =
    let sig = c.args.sig.now in
    let made = rw c.in-Some.is at c.in_ok-pattern.ensures.value in
    let shown = c.content.ensures ∙ c.in_ok-printed.ensures in
    exact-none (IsPatternOf sig) (pattern_text sig) c.args.text.now (pattern_tree c.in-Some.pattern)
    (rw made at c.read_pattern.ensures.only)
    (λ e. true≢false (sym (c.is_same.ensures.1 (shown ∙ e)) ∙ c.if-is_same.false))

pub returns-in_default : goal.returns-in_default
returns-in_default c =
    let fault = rw c.in_default.is at c.in_ok-pattern.ensures.fault in
    λ a h. (rw fault.1 at c.read_pattern.ensures.only a h.read)
