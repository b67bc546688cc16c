use Rattle.std.proofs.Common.{◌≡◌, ◌∙◌, ◌+◌, ◌++◌, ap, sym, subst, arith, [], ◌∷◌}
use Rattle.std.specs.Prelude.{None, Some, option_map}
use Rattle.mp_term.specs.View.{tree}
use Rattle.mp_term.specs.Excess.{excess}
use Rattle.mp_term.specs.Size.{node_count}
use Rattle.mp_term.specs.Normal.{normal, IsNormal}
use Rattle.mp_term.specs.Replaced.{replaced}
use Rattle.mp_term.proofs.NormalSize.{node_count-normal, depth-normal, normal-normal}
use Rattle.mp_pattern.specs.TemplateView.{template_tree}
use Rattle.mp_rewrite.specs.Made.{redex_of}
use Rattle.mp_rewrite.specs.MarkView.{mark_of}
use Rattle.mp_rewrite.specs.Within.{IsWhole}
use Rattle.mp_rewrite.proofs.Steps.{excess-None}
use Rattle.mp_rewrite.proofs.Within.{step-within}
use Rattle.mp_rewrite.proofs.below.step_within.Goals as goal

pub nodes_within-requires-clause-few : goal.nodes_within-requires-clause-few
nodes_within-requires-clause-few c =
    let new = c.in-Ok.ensures.term in
    let fits = excess-None (new.spliced ∷ []) (c.in-Ok.ensures.fits new.spliced new.instance) in
    rw new.result (omega (arith, fits.0, node_count-normal c.args.sig.now new.spliced))

pub nodes_within-requires-clause-shallow : goal.nodes_within-requires-clause-shallow
nodes_within-requires-clause-shallow c =
    let new = c.in-Ok.ensures.term in
    let fits = excess-None (new.spliced ∷ []) (c.in-Ok.ensures.fits new.spliced new.instance) in
    rw new.result (omega (arith, fits.1, depth-normal c.args.sig.now new.spliced))

pub put_in-requires-clause-new : goal.put_in-requires-clause-new
put_in-requires-clause-new c =
    let new = c.in-Ok.ensures.term in
    subst (IsNormal c.args.sig.now) (sym new.result) (normal-normal c.args.sig.now new.spliced)

pub returns-clause-run : goal.returns-clause-run
returns-clause-run c = λ rules sound first C h.
    let sig = c.args.sig.now in
    let t = tree c.args.into.term in
    let r = redex_of c.args.redex.now in
    let new = c.in-Ok.ensures.term in
    let here = c.in_ok-here.here in
    let x = template_tree c.in-Some.template in
    let has : r.match.rule.template ≡ Some x = ap (option_map template_tree) c.in-Some.is in
    let p : c.deref.result.now ≡ r.position = c.deref.ensures.value in
    let q : c.deref-2.result.now ≡ r.position = c.deref-2.ensures.value in
    let whole : IsWhole (C t) h.position c.deref.result.now c.args.levels t c.args.into.nodes = record {
      above = h.above;
      there = h.around.there c.deref.result.now t;
      counted = h.counted;
      few = h.rewritable.few_nodes;
      shallow = h.rewritable.shallow;
    } in
    let counted = c.in-Ok-nodes_within.ensures (C t) h.position whole in
    let small : excess (replaced (h.position ++ r.position) (normal sig new.spliced) (C t) ∷ []) ≡ None =
    sym (λ j. excess (replaced (h.position ++ p j) (new.result j) (C t) ∷ [])) ∙ counted.0 in
    step-within sig rules C c.args.levels t _ _ h c.signature_is_valid.ensures sound r first x has new.spliced
    new.instance (c.in-Ok.ensures.fits new.spliced new.instance) small (tree here.term)
    (c.in_ok-here.ensures.term ∙ (λ j. normal sig (replaced (q j) (new.result j) t))) (mark_of here.known)
    c.in-Ok-nodes_within.nodes here.nodes (c.in_ok-here.ensures.known rules h.right)
    (counted.1 ∙ (λ j. node_count (replaced (h.position ++ p j) (new.result j) (C t))))
    (λ rest e. c.in_ok-here.ensures.nodes rest
    (e ∙ sym (λ j. node_count (replaced (q j) (new.result j) t) + rest)))
