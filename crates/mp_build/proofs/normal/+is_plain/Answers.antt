use Rattle.std.proofs.Common.{◌≡◌, ◌+◌, false, List, map, sym, ◌∙◌, arith, subst}
use Rattle.std.specs.Prelude.{◌||◌}
use Rattle.mp_term.specs.Signature.{is_assoc, is_comm, is_one}
use Rattle.mp_pattern.specs.Normal.{normal_patterns, IsNormalPattern}
use Rattle.mp_pattern.specs.PatternTree.{Pattern, app_pattern, patterns}
use Rattle.mp_pattern.specs.Size.{pattern_nodes, list_nodes}
use Rattle.mp_pattern.specs.View.{pattern_tree}
use Rattle.mp_build.proofs.Applied.{pattern_nodes-item}
use Rattle.mp_build.proofs.Plain.{normal_pattern-plain}
use Rattle.mp_build.proofs.normal.+is_plain.Goals as goal

pub loop-arg-init : goal.loop-arg-init
loop-arg-init t c =
    let sig = c.args.sig.now in
    let f = c.in-App.op.0 in
    let none : (is_assoc sig f || (is_comm sig f || is_one sig f)) ≡ false =
    sym c.has_equation.ensures ∙ c.if-has_equation.false in
    let P : List Pattern → Type 0 = λ ps. normal_patterns sig (patterns ps) ≡ ps
    → IsNormalPattern sig (app_pattern f (patterns c.in-App.args)) in
    rw c.in-App.is (subst P (sym c.as_slice-arg-items.ensures) (normal_pattern-plain sig f c.in-App.args none))

pub is_plain-requires : goal.is_plain-requires
is_plain-requires t c =
    let items = c.as_slice-arg-items.result.now in
    let whole : pattern_nodes (pattern_tree c.args.pattern.now) ≡ list_nodes (map pattern_tree items) + 1 =
    rw (c.in-App.is, c.as_slice-arg-items.ensures) (omega arith) in
    let small = pattern_nodes-item items c.loop-arg.arg-index c.arg-item.result (omega (arith, c.loop-arg-test.true))
    c.arg-item.is in
    (omega (arith, c.decreases, whole, small), tt)
