use Rattle.std.proofs.Common.{◌≡◌, true, false, sym, subst, ◌∙◌}
use Rattle.mp_pattern.specs.View.{pattern_tree}
use Rattle.mp_line.specs.Finds.{Finds}
use Rattle.mp_line.specs.LineTexts.{IsExactPattern}
use Rattle.mp_line.proofs.CommLaws.{no-pattern, comm-found, comm-none}
use Rattle.mp_line.proofs.comm.comm_pattern.Goals as goal

pub returns-in_default : goal.returns-in_default
returns-in_default c =
    no-pattern c.args.format c.args.sig.now c.args.text.now
    (subst (Finds pattern_tree
    (IsExactPattern c.args.sig.now c.args.text.now)) c.in_default.is c.in_ok-pattern.ensures)

pub returns-then-is_right : goal.returns-then-is_right
returns-then-is_right c =
    comm-found c.args.format c.args.sig.now c.args.text.now (pattern_tree c.in-Some.pattern)
    (subst (Finds pattern_tree
    (IsExactPattern c.args.sig.now c.args.text.now)) c.in-Some.is c.in_ok-pattern.ensures)
    (c.is_comm_tree-is_right.ensures.0 c.if-is_right.true)

pub returns-else-is_right : goal.returns-else-is_right
returns-else-is_right c =
    comm-none c.args.format c.args.sig.now c.args.text.now (pattern_tree c.in-Some.pattern)
    (subst (Finds pattern_tree
    (IsExactPattern c.args.sig.now c.args.text.now)) c.in-Some.is c.in_ok-pattern.ensures)
    (λ t. (let wrong : true ≡ false = sym (c.is_comm_tree-is_right.ensures.1 t) ∙ c.if-is_right.false in cc))
