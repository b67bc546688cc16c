use Rattle.std.proofs.Common.{◌≡◌, ◌∙◌, sym, false}
use Rattle.std.specs.declared.cmp.Ordering.TheVariants.{Equal}
use Rattle.std.specs.Ordering.{is_ne, ordering_then, nat_cmp}
use Rattle.mp_term.specs.Order.{shortlex}
use Rattle.mp_term.proofs.TestLaws.{equal-not_ne}
use Rattle.mp_pattern.specs.View.{pattern_tree}
use Rattle.mp_pattern.specs.Order.{class, pattern_cmp}
use Rattle.mp_pattern.specs.PatternOrderLaws.{app_pattern_cmp-same_head}
use Rattle.mp_pattern.proofs.order.+pattern_compare.Goals as goal

pub pattern_compare-returns-else-is_ne : goal.pattern_compare-returns-else-is_ne
pattern_compare-returns-else-is_ne t c =
    let f = c.in-App-App.f.0 in
    let g = c.in-App-App.g.0 in
    let order : c.compare_all.result ≡ shortlex pattern_cmp c.in-App-App.ps c.in-App-App.qs = cc in
    let heads : c.then-heads.result ≡ ordering_then
    (nat_cmp (class (pattern_tree c.args.a.now)) (class (pattern_tree c.args.b.now))) (nat_cmp f g) = cc in
    let equal : is_ne c.then-heads.result ≡ false = cc in
    let same : ordering_then (nat_cmp (class (pattern_tree c.args.a.now)) (class (pattern_tree c.args.b.now)))
    (nat_cmp f g) ≡ Equal = sym heads ∙ equal-not_ne c.then-heads.result equal in
    let at_apps = rw (c.in-App-App.is-0, c.in-App-App.is-1) at same in
    rw (c.in-App-App.is-0, c.in-App-App.is-1)
    (order ∙ sym (app_pattern_cmp-same_head f g c.in-App-App.ps c.in-App-App.qs at_apps))
