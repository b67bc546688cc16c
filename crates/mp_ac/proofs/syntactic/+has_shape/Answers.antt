use Rattle.std.proofs.Common.{ap, sym, ◌∙◌, arith}
use Rattle.std.proofs.lemmas.Bool.Decides.{nat_tests}
use Rattle.mp_pattern.specs.PatternTree.{patterns}
use Rattle.mp_pattern.specs.View.{pattern_tree}
use Rattle.mp_table.specs.Table.{term_at, terms_at}
use Rattle.mp_term.specs.Tree.{trees}
use Rattle.mp_theory.specs.Shape.{shapes}
use Rattle.mp_ac.proofs.SyntacticLaws.{shape-arguments, shapes-uneven}
use Rattle.mp_ac.proofs.syntactic.+has_shape.Goals as goal

pub has_shape-returns-then-op-own : goal.has_shape-returns-then-op-own
has_shape-returns-then-op-own t c =
    let us = terms_at c.args.table.now c.args-then-op-own.result.now in
    rw c.in-App.is (c.have_shapes.ensures ∙ ap (λ ps. shapes (patterns ps) (trees us)) c.as_slice.ensures
    ∙ shape-arguments c.in-App.op c.in-App-head.own (patterns c.in-App.args) (term_at c.args.table.now c.args.rank) us
    c.if-op-own.true c.in-App-head.ensures c.args-then-op-own.ensures.terms)

pub have_shapes-returns-in_default : goal.have_shapes-returns-in_default
have_shapes-returns-in_default t c =
    sym (shapes-uneven pattern_tree (term_at c.args.table.now) c.args.list.now c.args.ranks.now
    (λ e. grind (arith, nat_tests)))

pub have_shapes-returns-in_default-2 : goal.have_shapes-returns-in_default-2
have_shapes-returns-in_default-2 t c =
    sym (shapes-uneven pattern_tree (term_at c.args.table.now) c.args.list.now c.args.ranks.now
    (λ e. grind (arith, nat_tests)))
