use Rattle.std.proofs.Common.{◌≡◌, ◌∙◌, sym}
use Rattle.mp_term.specs.Order.{tree_cmp, shortlex}
use Rattle.mp_term.specs.OrderLaws.{app_cmp-same_head}
use Rattle.mp_term.proofs.order.+compare.Goals as goal

pub compare-returns-else-f-g : goal.compare-returns-else-f-g
compare-returns-else-f-g t c =
    let e : c.compare_all.result ≡ shortlex tree_cmp c.in-App-App.ts c.in-App-App.us = cc in
    rw (c.in-App-App.is-0, c.in-App-App.is-1)
    (e ∙ sym (app_cmp-same_head c.in-App-App.f.0 c.in-App-App.g.0 c.in-App-App.ts c.in-App-App.us c.if-f-g.false))
