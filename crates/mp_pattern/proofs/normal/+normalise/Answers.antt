use Rattle.std.proofs.Common.{◌≡◌, ◌∙◌, ap, sym, map, drop, length, rules}
use Rattle.mp_pattern.specs.View.{pattern_tree}
use Rattle.mp_pattern.specs.PatternTree.{app_pattern, patterns}
use Rattle.mp_pattern.specs.Normal.{flattened, in_order, collapsed, normal_pattern, normal_patterns}
use Rattle.mp_pattern.proofs.NormalLaws.{normal_patterns-done}
use Rattle.mp_pattern.proofs.normal.+normalise.Goals as goal

pub returns-in-Some : goal.returns-in-Some
returns-in-Some t c =
    let sig = c.args.sig.now in
    let f = c.in-App.op.0 in
    let each = normal_patterns-done sig pattern_tree c.deref_mut-arg-items.result.now c.loop-arg.arg-items
    (drop (length c.loop-arg.arg-items) c.args-in-App.inside.items.items) c.in-App.args
    c.loop-arg.arg-index c.args-in-App.inside.items.len (search rules) (search rules) (search rules)
    c.loop-arg.invariant.1 (ap (map pattern_tree) c.deref_mut-arg-items.ensures.value ∙ c.args-in-App.view_is) in
    let flat : c.flatten.new.args ≡ flattened sig f (normal_patterns sig (patterns c.in-App.args)) =
    c.in_ok-flatten.ensures ∙ ap (flattened sig f) each in
    let normal : collapsed sig f c.put_in_order.new.args ≡ normal_pattern sig (app_pattern f (patterns c.in-App.args)) =
    ap (collapsed sig f) (c.put_in_order.ensures ∙ ap (in_order sig f) flat) in
    rw c.in-App.is (sym c.in-Some.ensures ∙ normal)

pub returns-in_default-take_only : goal.returns-in_default-take_only
returns-in_default-take_only t c =
    let sig = c.args.sig.now in
    let f = c.in-App.op.0 in
    let each = normal_patterns-done sig pattern_tree c.deref_mut-arg-items.result.now c.loop-arg.arg-items
    (drop (length c.loop-arg.arg-items) c.args-in-App.inside.items.items) c.in-App.args
    c.loop-arg.arg-index c.args-in-App.inside.items.len (search rules) (search rules) (search rules)
    c.loop-arg.invariant.1 (ap (map pattern_tree) c.deref_mut-arg-items.ensures.value ∙ c.args-in-App.view_is) in
    let flat : c.flatten.new.args ≡ flattened sig f (normal_patterns sig (patterns c.in-App.args)) =
    c.in_ok-flatten.ensures ∙ ap (flattened sig f) each in
    let normal : collapsed sig f c.put_in_order.new.args ≡ normal_pattern sig (app_pattern f (patterns c.in-App.args)) =
    ap (collapsed sig f) (c.put_in_order.ensures ∙ ap (in_order sig f) flat) in
    let kept = c.in_default-take_only.ensures in
    rw c.in-App.is (ap (λ ps. app_pattern f (patterns ps)) kept.0 ∙ sym kept.1 ∙ normal)
