use Rattle.std.proofs.Common.{ap, ◌∙◌}
use Rattle.mp_term.specs.Tree.{app, trees}
use Rattle.mp_term.specs.View.{tree}
use Rattle.mp_term.specs.Order.{tree_cmp}
use Rattle.mp_pattern.specs.Value.{same_terms}
use Rattle.mp_term.specs.Pieces.{same}
use Rattle.mp_one.specs.Lists.{trees_of}
use Rattle.mp_one.proofs.SameLaws.{same-same_head, same-swapped}
use Rattle.mp_one.proofs.trail_value.same_term.Goals as goal

pub returns-in_ok-same-in-Joined-Whole : goal.returns-in_ok-same-in-Joined-Whole
returns-in_ok-same-in-Joined-Whole c =
    let a = c.in-Joined-Whole in
    rw (a.is-0, a.is-1) (
    c.in_ok-same-in-Joined-Whole.ensures ∙ ap
    (λ ts. same tree_cmp (tree a.term.now) (app a.op.0 (trees (trees_of ts)))) c.deref-in-Joined-Whole.ensures.value
    ∙ same-swapped (tree a.term.now) (app a.op.0 (trees (trees_of a.terms.items))))

pub returns-else-op-other : goal.returns-else-op-other
returns-else-op-other c =
    let a = c.in-Joined-Joined in
    rw (a.is-0, a.is-1) (
    c.same_references.ensures ∙ ap (λ ts. same_terms (trees_of ts) (trees_of c.deref-in-Joined-Joined-2.result.now))
    c.deref-in-Joined-Joined.ensures.value
    ∙ ap (λ ts. same_terms (trees_of a.terms.items) (trees_of ts)) c.deref-in-Joined-Joined-2.ensures.value
    ∙ same-same_head a.op.0 a.other.0 (trees_of a.terms.items) (trees_of a.others.items) c.if-op-other.false)
