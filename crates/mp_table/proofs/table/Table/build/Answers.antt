use Rattle.std.proofs.Common.{◌∙◌, List, length, ap, sym, subst, arith}
use Rattle.std.proofs.lemmas.List.{length-map}
use Rattle.mp_term.specs.View.{tree}
use Rattle.mp_table.specs.Pieces.{ArePieces}
use Rattle.mp_table.specs.Text.{shown, counts}
use Rattle.mp_table.specs.declared.node.Node.{Node}
use Rattle.mp_table.specs.declared.piece.Piece.{Piece}
use Rattle.mp_table.proofs.BuildLaws as built
use Rattle.mp_table.proofs.table.Table.build.Goals as goal

pub of_few-requires-clause-text : goal.of_few-requires-clause-text
of_few-requires-clause-text c =
    let value = c.deref_mut.ensures.value in
    built.is_text (tree c.args.subject.now) c.args.constants.now c.deref_mut.result.now
    (ap shown value ∙ c.in_ok-text.ensures.terms) (ap counts value ∙ c.in_ok-text.ensures.nodes)

pub of_pieces-requires-clause-text : goal.of_pieces-requires-clause-text
of_pieces-requires-clause-text c =
    let value = c.deref_mut-2.ensures.value in
    built.is_text (tree c.args.subject.now) c.args.constants.now c.deref_mut-2.result.now
    (ap shown value ∙ c.in_ok-text.ensures.terms) (ap counts value ∙ c.in_ok-text.ensures.nodes)

pub of_pieces-requires-clause-short : goal.of_pieces-requires-clause-short
of_pieces-requires-clause-short c =
    let text = c.in_ok-text.text.items in
    let few = built.few_places (counts text) (tree c.args.subject.now) c.args.constants.now
    c.in_ok-text.ensures.nodes c.requires.subject_nodes c.requires.constant_nodes in
    omega (arith, few, ap length c.deref_mut-2.ensures.value, length-map text (λ n. n.nodes))

pub returns-then-len-le-FEW-clause-table : goal.returns-then-len-le-FEW-clause-table
returns-then-len-le-FEW-clause-table c =
    let value = c.deref_mut.ensures.value in
    built.if_both _ _ _ c.of_few.result c.of_few.ensures.terms c.of_few.ensures.root (λ t made root.
    built.table_built (tree c.args.subject.now) c.args.constants.now c.deref_mut.result.now
    (ap shown value ∙ c.in_ok-text.ensures.terms) (ap counts value ∙ c.in_ok-text.ensures.nodes) made.0 made.1 t made.2
    root)

pub returns-then-len-le-FEW-clause-normal : goal.returns-then-len-le-FEW-clause-normal
returns-then-len-le-FEW-clause-normal c =
    let value = c.deref_mut.ensures.value in
    built.if_both _ _ _ c.of_few.result c.of_few.ensures.terms c.of_few.ensures.root (λ t made root.
    built.normal_built (tree c.args.subject.now) c.args.constants.now c.deref_mut.result.now
    (ap shown value ∙ c.in_ok-text.ensures.terms) (ap counts value ∙ c.in_ok-text.ensures.nodes) made.0 made.1 t made.2
    root c.args.sig.now c.requires.normal_subject c.requires.normal_constants)

pub returns-clause-table : goal.returns-clause-table
returns-clause-table c =
    let value = c.deref_mut-2.ensures.value in
    let text = c.deref_mut-2.result.now in
    let ps = c.deref-2.result.now in
    let pieces = subst (λ (l : List Node). ArePieces (shown l) ps) (c.deref.ensures.value ∙ sym value)
    (subst (λ (l : List Piece). ArePieces (shown c.deref.result.now) l) (sym c.deref-2.ensures.value)
    c.in_ok-found.ensures) in
    built.if_both _ _ _ c.of_pieces.result c.of_pieces.ensures.terms c.of_pieces.ensures.root
    (built.table_built (tree c.args.subject.now) c.args.constants.now text
    (ap shown value ∙ c.in_ok-text.ensures.terms) (ap counts value ∙ c.in_ok-text.ensures.nodes) ps pieces)

pub returns-clause-normal : goal.returns-clause-normal
returns-clause-normal c =
    let value = c.deref_mut-2.ensures.value in
    let text = c.deref_mut-2.result.now in
    let ps = c.deref-2.result.now in
    let pieces = subst (λ (l : List Node). ArePieces (shown l) ps) (c.deref.ensures.value ∙ sym value)
    (subst (λ (l : List Piece). ArePieces (shown c.deref.result.now) l) (sym c.deref-2.ensures.value)
    c.in_ok-found.ensures) in
    built.if_both _ _ _ c.of_pieces.result c.of_pieces.ensures.terms c.of_pieces.ensures.root (λ t is root.
    built.normal_built (tree c.args.subject.now) c.args.constants.now text
    (ap shown value ∙ c.in_ok-text.ensures.terms) (ap counts value ∙ c.in_ok-text.ensures.nodes) ps pieces t is root
    c.args.sig.now c.requires.normal_subject c.requires.normal_constants)
