use Rattle.std.proofs.Common.{◌≡◌, ◌∙◌, ap, sym, true}
use Rattle.mp_term.specs.Sorting.{sorted}
use Rattle.mp_term.specs.Signature.{is_comm}
use Rattle.mp_term.proofs.Sorting.{sorted_is}
use Rattle.mp_pattern.specs.View.{pattern_tree}
use Rattle.mp_pattern.specs.Order.{pattern_cmp}
use Rattle.mp_pattern.specs.PatternOrderLaws.{pattern_cmp_total, pattern_same}
use Rattle.mp_pattern.proofs.normal.put_in_order.Goals as goal

pub returns-then-is_comm : goal.returns-then-is_comm
returns-then-is_comm c =
    let commutes : is_comm c.args.sig.now c.args.op.0 ≡ true = sym c.is_comm.ensures ∙ c.if-is_comm.true in
    rw commutes
    (sorted_is pattern_cmp pattern_cmp_total pattern_same pattern_tree _ _ c.sort_unstable.ensures.permutation
    c.sort_unstable.ensures.sorted ∙ ap (sorted pattern_cmp) c.args-2.view_is)
