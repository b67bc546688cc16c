use Rattle.std.proofs.Common.{◌&&◌, ap, sym, ◌∙◌}
use Rattle.mp_term.specs.Pieces.{is_piece}
use Rattle.mp_pattern.specs.Variables.{comm_above}
use Rattle.mp_pattern.specs.View.{pattern_tree}
use Rattle.mp_table.specs.Table.{rank_cmp, terms_at}
use Rattle.mp_theory.specs.Machine as machine
use Rattle.mp_search.specs.Frames.{above}
use Rattle.mp_search.specs.Reading.{entry_of}
use Rattle.mp_search.proofs.DrawnTerms.{is_piece-terms}
use Rattle.mp_search.proofs.OpenLaws.{left-sorted}
use Rattle.mp_search.proofs.choice.is_choice.Goals as goal

pub is_piece-requires : goal.is_piece-requires
is_piece-requires c = λ e. left-sorted c.args.query.now c.args.site.now c.requires.query c.requires.site
    (sym c.is_comm_above-anywhere.ensures ∙ e)

pub returns-then-not-is_piece : goal.returns-then-not-is_piece
returns-then-not-is_piece c =
    let q = c.args.query.now in
    let take = c.args.own.now.take.items.items in
    let left = c.args.site.now.left.now in
    let same = is_piece-terms q.table.now c.requires.query.table (comm_above q.sig.now (above c.args.site.now.under))
    take left c.requires.over.0 c.requires.site.left
    ∙ (λ i. is_piece rank_cmp (sym c.is_comm_above-anywhere.ensures i) (sym c.as_slice-take.ensures i) left)
    ∙ sym c.is_piece.ensures ∙ c.if-not-is_piece.true in
    ap (λ b. b && machine.reads q.sig.now (pattern_tree c.args.site.now.child.now) (above c.args.site.now.under)
    (entry_of q.table.now c.args.own.now)) (sym same)

pub returns : goal.returns
returns c =
    let q = c.args.query.now in
    let take = c.args.own.now.take.items.items in
    let left = c.args.site.now.left.now in
    let same = is_piece-terms q.table.now c.requires.query.table (comm_above q.sig.now (above c.args.site.now.under))
    take left c.requires.over.0 c.requires.site.left
    ∙ (λ i. is_piece rank_cmp (sym c.is_comm_above-anywhere.ensures i) (sym c.as_slice-take.ensures i) left)
    ∙ sym c.is_piece.ensures ∙ c.if-not-is_piece.false in
    let read = machine.reads q.sig.now (pattern_tree c.args.site.now.child.now) (above c.args.site.now.under) in
    c.reads.ensures
    ∙ ap (λ l. read (record { terms = terms_at q.table.now l; collapsed = c.args.own.now.collapsed }))
    c.as_slice-take.ensures
    ∙ ap (λ b. b && read (entry_of q.table.now c.args.own.now)) (sym same)
