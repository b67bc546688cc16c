use Rattle.std.proofs.Common.{◌≡◌, ◌≤◌, ◌+◌, ◌-◌, ◌*◌, ℕ, List, true, length, map, take, drop, ap, sym, ◌∙◌, subst}
use Rattle.std.proofs.Common.{arith}
use Rattle.std.specs.Prelude.{Some, None, MatchBool}
use Rattle.std.proofs.lemmas.Bool.Decides.{nat_tests}
use Rattle.mp_term.specs.Listing.{In}
use Rattle.mp_term.specs.Tree.{trees}
use Rattle.mp_pattern.specs.PatternTree.{patterns}
use Rattle.mp_pattern.specs.Size.{pattern_nodes, list_nodes}
use Rattle.mp_pattern.specs.Variables.{variables}
use Rattle.mp_pattern.specs.View.{pattern_tree}
use Rattle.mp_pattern.proofs.OnePattern.{has_nodes}
use Rattle.mp_table.specs.Table.{term_at, terms_at}
use Rattle.mp_theory.specs.Filled.{filled, all_filled}
use Rattle.mp_theory.specs.Shape.{shape, shapes}
use Rattle.mp_ac.specs.CommPlan.{IsNumbered}
use Rattle.mp_ac.specs.Numbered.{numbered_subst}
use Rattle.mp_ac.proofs.NumberedLaws.{lies-same, lies-more, lies-then}
use Rattle.mp_ac.proofs.SyntacticLaws as laws
use Rattle.mp_ac.proofs.syntactic.+fill.Goals as goal

pub fill-fill_all-requires : goal.fill-fill_all-requires
fill-fill_all-requires t c =
    let f = c.in-App.field-0.0 in
    let ps = patterns c.in-App.args in
    let u = term_at c.args.table.now c.args.rank in
    let us = terms_at c.args.table.now c.args-in-App.result.now in
    let nodes = ap (λ p. pattern_nodes (pattern_tree p)) c.in-App.is in
    let same = ap list_nodes c.as_slice.ensures in
    let shaped = subst (λ qs. shapes (patterns qs) (trees us) ≡ true) (sym c.as_slice.ensures)
    (laws.shapes-below f ps u us c.args-in-App.ensures.terms
    (subst (λ p. shape (pattern_tree p) u ≡ true) c.in-App.is c.requires.shape)) in
    let named = subst (λ qs. (x : List ℕ) → In x (laws.names_in (patterns qs)) → IsNumbered x)
    (sym c.as_slice.ensures) (laws.names-children f ps
    (subst (λ p. (x : List ℕ) → In x (variables (pattern_tree p)) → IsNumbered x) c.in-App.is c.requires.names)) in (
      omega (arith, c.decreases, nodes, same),
      (
        c.args-in-App.ensures.within,
        (
          shaped,
          (
            named,
            (
              omega (arith, c.requires.spare, nodes, same),
              c.requires.trail,
            ),
          ),
        ),
      ),
    )

pub fill-returns-in-App-clause-filled : goal.fill-returns-in-App-clause-filled
fill-returns-in-App-clause-filled t c =
    let sig = c.args.sig.now in
    let s = numbered_subst c.args.table.now c.args.trail.now.stack in
    let u = term_at c.args.table.now c.args.rank in
    let us = terms_at c.args.table.now c.args-in-App.result.now in
    let e = ap (λ p. filled sig (pattern_tree p) u s) c.in-App.is
    ∙ laws.filled-below c.in-App.field-0.0 (patterns c.in-App.args) u us c.args-in-App.ensures.terms
    (subst (λ p. shape (pattern_tree p) u ≡ true) c.in-App.is c.requires.shape) sig s
    ∙ ap (λ qs. all_filled sig (patterns qs) (trees us) s) (sym c.as_slice.ensures) in
    let new = numbered_subst c.args.table.now c.fill_all.new.trail.stack in
    subst (λ o. MatchBool c.fill_all.result (o ≡ Some new) (o ≡ None)) (sym e) c.fill_all.ensures.filled

pub fill_all-fill-requires : goal.fill_all-fill-requires
fill_all-fill-requires t c =
    let list = c.args.list.now in
    let ranks = c.args.ranks.now in
    let tb = c.args.table.now in
    let first = c.first-item.result in
    let some : 1 ≤ length list = grind (arith, nat_tests) in
    let any : 1 ≤ length ranks = grind (arith, nat_tests) in
    let nodes = laws.nodes-is list first some c.first-item.is in (
      omega (arith, c.decreases, nodes),
      (
        (laws.ranks-first list first some c.first-item.is tb ranks _ any c.requires.ranks).0,
        (
          (laws.shapes-first list first some c.first-item.is tb ranks _ any c.requires.shapes).0,
          (
            laws.names-first list first some c.first-item.is c.requires.names,
            (omega (arith, c.requires.spare, nodes), c.requires.trail),
          ),
        ),
      ),
    )

pub fill_all-fill_all-requires : goal.fill_all-fill_all-requires
fill_all-fill_all-requires t c =
    let list = c.args.list.now in
    let ranks = c.args.ranks.now in
    let tb = c.args.table.now in
    let first = c.first-item.result in
    let some : 1 ≤ length list = grind (arith, nat_tests) in
    let any : 1 ≤ length ranks = grind (arith, nat_tests) in
    let nodes = laws.nodes-is list first some c.first-item.is in
    let kept = c.fill.ensures.kept in (
      omega (arith, c.decreases, nodes, has_nodes (pattern_tree first)),
      (
        (laws.ranks-first list first some c.first-item.is tb ranks (record { 0 = 0 }) any c.requires.ranks).1,
        (
          (laws.shapes-first list first some c.first-item.is tb ranks (record { 0 = 0 }) any c.requires.shapes).1,
          (
            laws.names-later list first some c.first-item.is c.requires.names,
            (omega (arith, c.requires.spare, nodes, kept.spare), kept.trail),
          ),
        ),
      ),
    )

pub fill_all-returns-then-fill-clause-kept : goal.fill_all-returns-then-fill-clause-kept
fill_all-returns-then-fill-clause-kept t c =
    let list = c.args.list.now in
    let some : 1 ≤ length list = grind (arith, nat_tests) in
    let nodes = laws.nodes-is list c.first-item.result some c.first-item.is in
    let m = 3 * pattern_nodes (pattern_tree c.first-item.result) in
    let n = 3 * list_nodes (map pattern_tree (take (length list - 1) (drop 1 list))) in
    lies-more c.args.table.now (m + n) (3 * list_nodes (map pattern_tree list)) c.args.trail.now c.fill_all.new.trail
    (omega (arith, nodes)) (lies-then c.args.table.now m n c.args.trail.now c.fill.new.trail c.fill_all.new.trail
    c.fill.ensures.kept c.fill_all.ensures.kept)

pub fill_all-returns-in_default-2-clause-filled : goal.fill_all-returns-in_default-2-clause-filled
fill_all-returns-in_default-2-clause-filled t c =
    laws.filled-none c.args.sig.now (term_at c.args.table.now) (patterns (map pattern_tree c.args.list.now))
    c.args.ranks.now (numbered_subst c.args.table.now c.args.trail.now.stack) (grind (arith, nat_tests))

pub fill-returns-in-Sym-clause-kept : goal.fill-returns-in-Sym-clause-kept
fill-returns-in-Sym-clause-kept t c = lies-same c.args.table.now _ c.args.trail.now c.requires.trail

pub fill-returns-else-suits-clause-kept : goal.fill-returns-else-suits-clause-kept
fill-returns-else-suits-clause-kept t c = lies-same c.args.table.now _ c.args.trail.now c.requires.trail

pub fill_all-returns-in_default-clause-kept : goal.fill_all-returns-in_default-clause-kept
fill_all-returns-in_default-clause-kept t c = lies-same c.args.table.now _ c.args.trail.now c.requires.trail

pub fill_all-returns-in_default-2-clause-kept : goal.fill_all-returns-in_default-2-clause-kept
fill_all-returns-in_default-2-clause-kept t c = lies-same c.args.table.now _ c.args.trail.now c.requires.trail
