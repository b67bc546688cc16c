use Rattle.std.proofs.Common.{◌∙◌, [], ◌∷◌, map, ap, sym, subst}
use Rattle.mp_term.specs.Size.{node_count}
use Rattle.mp_pattern.specs.View.{pattern_tree}
use Rattle.mp_search.specs.Reading.{table_of}
use Rattle.mp_search.specs.Wanted.{IsStanding}
use Rattle.mp_cursor.specs.Matched.{all_items}
use Rattle.mp_cursor.proofs.LookLaws as laws
use Rattle.mp_cursor.proofs.SubjectLaws.{root-term}
use Rattle.mp_cursor.proofs.look.look.Goals as goal

pub find-requires-clause-ready : goal.find-requires-clause-ready
find-requires-clause-ready c =
    laws.is-ready c.args.matched c.requires.matched c.numbers.result c.args.grounds c.args.condition c.from_ref.result
    c.from_ref-2.result c.root-root.result c.numbers.ensures
    (ap (map pattern_tree) c.from_ref.ensures.value ∙ ap (λ p. p ∷ []) c.pattern.ensures) c.from_ref-2.ensures.value
    c.root-root.ensures.rank c.nodes-width.result
    (c.nodes-width.ensures ∙ ap node_count (root-term c.args.matched.table.now c.root-root.result
    c.root-root.ensures.rank)) c.args.levels.now c.args.trail.now c.requires.grounds c.requires.decidable
    c.requires.levels c.requires.trail c.requires.vars c.requires.spare

pub find-requires-clause-standing : goal.find-requires-clause-standing
find-requires-clause-standing c =
    let m = c.args.matched in
    subst (IsStanding c.args.mode (table_of m.table.now c.args.levels.now))
    (ap (all_items m) (sym (laws.subst-same m c.requires.matched c.numbers.result c.args.grounds c.args.condition
    c.from_ref.result c.from_ref-2.result c.root-root.result c.numbers.ensures
    (ap (map pattern_tree) c.from_ref.ensures.value ∙ ap (λ p. p ∷ []) c.pattern.ensures) c.from_ref-2.ensures.value
    c.root-root.ensures.rank c.nodes-width.result
    (c.nodes-width.ensures ∙ ap node_count (root-term c.args.matched.table.now c.root-root.result
    c.root-root.ensures.rank)) c.args.trail.now))
    ∙ sym (laws.items-same m c.requires.matched c.numbers.result c.args.grounds c.args.condition
    c.from_ref.result c.from_ref-2.result c.root-root.result c.numbers.ensures
    (ap (map pattern_tree) c.from_ref.ensures.value ∙ ap (λ p. p ∷ []) c.pattern.ensures) c.from_ref-2.ensures.value
    c.root-root.ensures.rank c.nodes-width.result
    (c.nodes-width.ensures ∙ ap node_count (root-term c.args.matched.table.now c.root-root.result
    c.root-root.ensures.rank)) c.args.levels.now _ c.requires.count)) c.requires.standing

pub find-requires-clause-complete : goal.find-requires-clause-complete
find-requires-clause-complete c =
    laws.is-complete c.args.matched c.requires.matched c.numbers.result c.args.grounds c.args.condition
    c.from_ref.result c.from_ref-2.result c.root-root.result c.numbers.ensures
    (ap (map pattern_tree) c.from_ref.ensures.value ∙ ap (λ p. p ∷ []) c.pattern.ensures) c.from_ref-2.ensures.value
    c.root-root.ensures.rank c.nodes-width.result
    (c.nodes-width.ensures ∙ ap node_count (root-term c.args.matched.table.now c.root-root.result
    c.root-root.ensures.rank)) c.args.levels.now c.args.trail.now c.requires.count c.requires.fresh
