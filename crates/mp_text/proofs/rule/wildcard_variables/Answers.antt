use Rattle.std.proofs.Common.{arith, append_assoc}
use Rattle.std.proofs.lemmas.List.{map-append}
use Rattle.mp_term.proofs.ListLaws.{drop-item}
use Rattle.mp_text.proofs.rule.wildcard_variables.Goals as goal

pub loop-found-preserved : goal.loop-found-preserved
loop-found-preserved c =
    let here = drop-item _ c.loop-found.found-index c.found-item.result (omega arith) c.found-item.is in
    rw (c.in_ok-push.ensures.items, map-append, append_assoc) (rw here at c.loop-found.invariant)
