use Rattle.std.proofs.Common.{◌≡◌, ◌<◌, Bool, true, map, length, ap, sym, ◌∙◌, subst, arith}
use Rattle.std.specs.Prelude.{None}
use Rattle.std.specs.List.{list_any}
use Rattle.std.proofs.lemmas.Bool.Decides.{nat_tests}
use Rattle.mp_term.specs.Tree.{trees}
use Rattle.mp_pattern.specs.PatternTree.{patterns}
use Rattle.mp_pattern.specs.Size.{pattern_nodes, list_nodes}
use Rattle.mp_pattern.specs.View.{pattern_tree}
use Rattle.mp_table.specs.Table.{term_at, terms_at}
use Rattle.mp_theory.specs.Shape.{shape, shapes, takings, all_takings}
use Rattle.mp_theory.specs.Solve.{Taken}
use Rattle.mp_ac.specs.Clash.{differ}
use Rattle.mp_ac.proofs.SyntacticLaws.{shapes-below}
use Rattle.mp_ac.proofs.TakingLaws as laws
use Rattle.mp_ac.proofs.clash.+clash.Goals as goal

pub clash-any_clash-requires : goal.clash-any_clash-requires
clash-any_clash-requires t c =
    let ps = patterns c.in-App.args in
    let u = term_at c.args.table.now c.args.rank in
    let us = terms_at c.args.table.now c.args-in-App.result.now in
    let nodes = ap (λ p. pattern_nodes (pattern_tree p)) c.in-App.is in
    let same = ap list_nodes c.as_slice.ensures in
    let shaped = subst (λ qs. shapes (patterns qs) (trees us) ≡ true) (sym c.as_slice.ensures)
    (shapes-below c.in-App.field-0.0 ps u us c.args-in-App.ensures.terms
    (subst (λ p. shape (pattern_tree p) u ≡ true) c.in-App.is c.requires.shape)) in (
      omega (arith, c.decreases, nodes, same),
      (
        c.requires.table,
        (
          c.args-in-App.ensures.within,
          (c.requires.its, (shaped, c.requires.its_shape)),
        ),
      ),
    )

pub clash-returns-in-App : goal.clash-returns-in-App
clash-returns-in-App t c = λ f.
    let u = term_at c.args.table.now c.args.rank in
    let us = terms_at c.args.table.now c.args-in-App.result.now in
    let g = c.in-App.field-0.0 in
    let test : Taken → Bool = λ a. list_any (differ a) (takings None (pattern_tree c.args.other.now)
    (term_at c.args.table.now c.args.its)) in
    c.any_clash.ensures g
    ∙ ap (λ qs. list_any test (all_takings g (patterns qs) (trees us))) c.as_slice.ensures
    ∙ ap (list_any test) (sym (laws.takings-below f g (patterns c.in-App.args) u us c.args-in-App.ensures.terms)
    ∙ ap (λ p. takings f (pattern_tree p) u) (sym c.in-App.is))

pub any_clash-returns-in_default-2 : goal.any_clash-returns-in_default-2
any_clash-returns-in_default-2 t c = λ g.
    let none : length c.args.ranks.now < 1 = grind (arith, nat_tests) in
    let test : Taken → Bool = λ a. list_any (differ a) (takings None (pattern_tree c.args.other.now)
    (term_at c.args.table.now c.args.its)) in
    sym (ap (list_any test) (laws.takings-none g (term_at c.args.table.now)
    (patterns (map pattern_tree c.args.list.now)) c.args.ranks.now none))
