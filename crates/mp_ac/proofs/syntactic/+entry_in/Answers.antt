use Rattle.std.proofs.Common.{◌≡◌, ◌≤◌, ◌∙◌, length, true, false, [], ◌∷◌, map, ap, sym, subst, arith}
use Rattle.std.proofs.lemmas.Bool.Decides.{nat_tests}
use Rattle.mp_term.specs.Tree.{trees}
use Rattle.mp_pattern.specs.Fits.{joined}
use Rattle.mp_pattern.specs.PatternTree.{patterns}
use Rattle.mp_pattern.specs.Size.{pattern_nodes, list_nodes}
use Rattle.mp_pattern.specs.View.{pattern_tree}
use Rattle.mp_table.specs.Table.{term_at, terms_at}
use Rattle.mp_theory.specs.Shape.{shape, shapes, table_of, tables_of}
use Rattle.mp_ac.proofs.SyntacticLaws as laws
use Rattle.mp_ac.proofs.syntactic.+entry_in.Goals as goal
use Rattle.mp_ac.proofs.syntactic.+entry_in.Goals.{entry_among-in_default-via-then-list-lt1}
use Rattle.mp_ac.proofs.syntactic.+entry_in.Goals.{entry_among-in_default-via-else-list-lt1+then-this-lt1}

pub entry_in-entry_among-requires : goal.entry_in-entry_among-requires
entry_in-entry_among-requires t c =
    let u = term_at c.args.table.now c.args.rank.now in
    let us = terms_at c.args.table.now c.args-in-App.result.now in (
      omega (
        arith,
        c.decreases,
        ap (λ p. pattern_nodes (pattern_tree p)) c.in-App.is,
        ap list_nodes c.as_slice.ensures,
      ),
      (
        c.args-in-App.ensures.within,
        subst (λ qs. shapes (patterns qs) (trees us) ≡ true) (sym c.as_slice.ensures)
            (laws.shapes-below c.in-App.field-0.0 (patterns c.in-App.args) u us c.args-in-App.ensures.terms
            (subst (λ p. shape (pattern_tree p) u ≡ true) c.in-App.is c.requires.shape)),
      ),
    )

pub entry_in-returns-in-App-clause-entry : goal.entry_in-returns-in-App-clause-entry
entry_in-returns-in-App-clause-entry t c =
    let u = term_at c.args.table.now c.args.rank.now in
    let us = terms_at c.args.table.now c.args-in-App.result.now in
    let e = ap (λ p. table_of (pattern_tree p) u) c.in-App.is
    ∙ laws.table-below c.in-App.field-0.0 (patterns c.in-App.args) u us c.args-in-App.ensures.terms
    (subst (λ p. shape (pattern_tree p) u ≡ true) c.in-App.is c.requires.shape)
    ∙ ap (λ qs. record { terms = u ∷ []; collapsed = false } ∷ joined (tables_of (patterns qs) (trees us)))
    (sym c.as_slice.ensures) in
    laws.entry-below (λ rs. record { terms = terms_at c.args.table.now rs.now; collapsed = false })
    (table_of (pattern_tree c.args.pattern.now) u)
    (joined (tables_of (patterns (map pattern_tree c.as_slice.result.now)) (trees us)))
    (record { terms = u ∷ []; collapsed = false }) c.args.node c.entry_among.result e c.if-node-eq0.false
    c.entry_among.ensures.entry

pub entry_among-returns-in_default-clause-entry : goal.entry_among-returns-in_default-clause-entry
entry_among-returns-in_default-clause-entry t c =
    let none : 1 ≤ length c.args.list.now → 1 ≤ length c.args.ranks.now → ⊥ = elim c.in_default.branch [
      | entry_among-in_default-via-then-list-lt1 w ↦ (λ a b. grind (arith, nat_tests))
      | entry_among-in_default-via-else-list-lt1+then-this-lt1 w ↦ (λ a b. grind (arith, nat_tests))
    ] in
    omega (
      arith,
      ap (λ us. length us) (laws.tables-none pattern_tree (term_at c.args.table.now) c.args.list.now c.args.ranks.now
          none),
    )
