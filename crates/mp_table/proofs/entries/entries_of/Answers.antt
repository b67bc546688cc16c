use Rattle.std.proofs.Common.{◌≡◌, ◌∙◌, ◌<◌, ◌++◌, ◌∷◌, [], length, take, get_or, ap, sym, subst, arith}
use Rattle.std.proofs.lemmas.List.{take_all, take_more, length-map}
use Rattle.mp_term.specs.Tree.{symbol}
use Rattle.mp_term.specs.View.{tree}
use Rattle.mp_table.specs.declared.piece.Piece.{Piece}
use Rattle.mp_table.specs.Pieces.{piece_terms}
use Rattle.mp_table.specs.Reading.{AreEntriesOf, IsEntryOf}
use Rattle.mp_table.specs.Text.{shown}
use Rattle.mp_table.proofs.PieceLaws.{piece_at}
use Rattle.mp_table.proofs.ReadingLaws.{entries_push, entries_kept}
use Rattle.mp_table.proofs.entries.entries_of.Goals as goal

pub loop-piece-preserved : goal.loop-piece-preserved
loop-piece-preserved c =
    let os = shown c.args.text.now in
    let ps = c.args.pieces.now in
    let ts = piece_terms ps in
    let n = c.loop-piece.piece-index in
    let there : n < length ps = c.loop-piece-test.true in
    let long : length ts ≡ length ps = length-map ps (λ p. tree p.term.now) in
    let is = piece_at os ps c.requires.pieces.pieces n c.piece-item.result there
    ∙ ap (λ (p : Piece). get_or os p.start (symbol [])) (sym c.piece-item.is) in
    let new = c.entry_of.new.args.items in
    rw c.in_ok-push.ensures.items (subst (AreEntriesOf new ts (c.loop-piece.entries.items ++ _ ∷ []))
    (sym (take_more ts n (symbol []) (omega (arith, long, there))))
    (entries_push new ts c.loop-piece.entries.items (take n ts) _ (get_or ts n (symbol []))
    (entries_kept c.loop-piece.args.items new ts c.loop-piece.entries.items (take n ts) c.in_ok-entry_of.ensures.kept
    c.loop-piece.invariant)
    (subst (λ u. IsEntryOf new ts u c.in_ok-entry_of.field-0) (sym is)
    (c.in_ok-entry_of.ensures.entry ts c.requires.ranks))))

pub returns : goal.returns
returns c =
    let ps = c.args.pieces.now in
    let ts = piece_terms ps in
    subst (AreEntriesOf c.loop-piece.args.items ts c.loop-piece.entries.items)
    (take_all c.loop-piece.piece-index ts (omega (
      arith,
      length-map ps (λ p. tree p.term.now),
      c.loop-piece-test.false,
    ))) c.loop-piece.invariant
