use Rattle.std.proofs.Common.{rules, ◌≡◌, ◌≤◌, ◌<◌, true, map, length, ap, sym, ◌∙◌, subst, arith}
use Rattle.std.specs.Prelude.{Some}
use Rattle.std.specs.List.{list_any}
use Rattle.std.proofs.lemmas.Bool.Decides.{nat_tests}
use Rattle.mp_term.specs.Tree.{trees}
use Rattle.mp_pattern.specs.PatternTree.{patterns}
use Rattle.mp_pattern.specs.Size.{pattern_nodes, list_nodes}
use Rattle.mp_pattern.specs.Value.{same_name}
use Rattle.mp_pattern.specs.View.{pattern_tree, wildcard}
use Rattle.mp_table.specs.Table.{term_at, terms_at}
use Rattle.mp_theory.specs.Shape.{shape, shapes, takings, all_takings}
use Rattle.mp_ac.specs.Clash.{differ}
use Rattle.mp_ac.proofs.SyntacticLaws.{shapes-below}
use Rattle.mp_ac.proofs.TakingLaws as laws
use Rattle.mp_ac.proofs.clash.+clashes_with.Goals as goal

pub clashes_with-any_clashes_with-requires : goal.clashes_with-any_clashes_with-requires
clashes_with-any_clashes_with-requires t c =
    let ps = patterns c.in-App.args in
    let u = term_at c.args.table.now c.args.rank in
    let us = terms_at c.args.table.now c.args-in-App.result.now in
    let nodes = ap (λ p. pattern_nodes (pattern_tree p)) c.in-App.is in
    let same = ap list_nodes c.as_slice.ensures in
    let shaped = subst (λ qs. shapes (patterns qs) (trees us) ≡ true) (sym c.as_slice.ensures)
    (shapes-below c.in-App.field-0.0 ps u us c.args-in-App.ensures.terms
    (subst (λ p. shape (pattern_tree p) u ≡ true) c.in-App.is c.requires.shape)) in (
      omega (arith, c.decreases, nodes, same),
      (c.requires.table, (c.requires.taken, (c.args-in-App.ensures.within, shaped))),
    )

pub clashes_with-returns-then-eq : goal.clashes_with-returns-then-eq
clashes_with-returns-then-eq t c = λ a f name terms.
    let own = c.in-Wild-default-Some.own in
    let named = ap (λ x. same_name x own) name ∙ sym c.eq.ensures ∙ c.if-eq.true in
    let other = laws.wildcard-differs c.args.table.now c.requires.table c.args.taken c.args.rank c.requires.taken
    c.requires.rank a terms f (wildcard c.in-Wild-default-Some.field-0) own named in
    search (rules, other)

pub clashes_with-returns-in-App : goal.clashes_with-returns-in-App
clashes_with-returns-in-App t c = λ a f name terms.
    let u = term_at c.args.table.now c.args.rank in
    let us = terms_at c.args.table.now c.args-in-App.result.now in
    let g = c.in-App.field-0.0 in
    c.any_clashes_with.ensures a g name terms
    ∙ ap (λ qs. list_any (differ a) (all_takings g (patterns qs) (trees us))) c.as_slice.ensures
    ∙ ap (list_any (differ a)) (sym (laws.takings-below f g (patterns c.in-App.args) u us c.args-in-App.ensures.terms)
    ∙ ap (λ p. takings f (pattern_tree p) u) (sym c.in-App.is))

pub any_clashes_with-returns-then-clashes_with : goal.any_clashes_with-returns-then-clashes_with
any_clashes_with-returns-then-clashes_with t c = λ a g name terms.
    let list = c.args.list.now in
    let ranks = c.args.ranks.now in
    let some : 1 ≤ length list = grind (arith, nat_tests) in
    let any : 1 ≤ length ranks = grind (arith, nat_tests) in
    laws.any-first list c.first-item.result some c.first-item.is c.args.table.now ranks _ any g (differ a)
    c.clashes_with.result (c.clashes_with.ensures a (Some g) name terms) c.if-clashes_with.true

pub any_clashes_with-returns-else-clashes_with : goal.any_clashes_with-returns-else-clashes_with
any_clashes_with-returns-else-clashes_with t c = λ a g name terms.
    let list = c.args.list.now in
    let ranks = c.args.ranks.now in
    let some : 1 ≤ length list = grind (arith, nat_tests) in
    let any : 1 ≤ length ranks = grind (arith, nat_tests) in
    laws.any-later list c.first-item.result some c.first-item.is c.args.table.now ranks _ any g (differ a)
    c.clashes_with.result (c.clashes_with.ensures a (Some g) name terms) c.if-clashes_with.false
    c.any_clashes_with.result (c.any_clashes_with.ensures a g name terms)

pub any_clashes_with-returns-in_default-2 : goal.any_clashes_with-returns-in_default-2
any_clashes_with-returns-in_default-2 t c = λ a g name terms.
    let none : length c.args.ranks.now < 1 = grind (arith, nat_tests) in
    sym (ap (list_any (differ a)) (laws.takings-none g (term_at c.args.table.now)
    (patterns (map pattern_tree c.args.list.now)) c.args.ranks.now none))
