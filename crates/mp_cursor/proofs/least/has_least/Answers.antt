use Rattle.std.proofs.Common.{◌≡◌, ◌∙◌, map, ap, sym, subst, arith}
use Rattle.std.specs.List.{AllByRecursion}
use Rattle.std.specs.Prelude.{◌↔◌, IsTrue}
use Rattle.std.proofs.lemmas.List.{length-map}
use Rattle.mp_term.specs.Size.{node_count}
use Rattle.mp_search.specs.Levels.{take_of}
use Rattle.mp_search.specs.Reading.{table_of}
use Rattle.mp_cursor.specs.Kept.{AreHeldTakes, HaveRoom}
use Rattle.mp_table.specs.Table.{subject_of}
use Rattle.mp_cursor.specs.Matched.{trail_subst}
use Rattle.mp_cursor.proofs.LeastLaws.{item-short, least-test}
use Rattle.mp_cursor.proofs.SliceLaws.{same-lengths}
use Rattle.mp_cursor.proofs.TableLaws.{IsShort, short-room, kept-roomy, kept-rooms, levels-roomy, levels-held}
use Rattle.mp_cursor.proofs.TableLaws.{table-takes, entry_from}
use Rattle.mp_cursor.proofs.least.has_least.Goals as goal

pub keep-requires : goal.keep-requires
keep-requires c =
    let m = c.args.matched in
    let n = node_count (subject_of m.table.now) in
    let ls = c.args.levels.now in
    record {
      room = short-room n m.table.now (map (λ k. k.take.room) c.args.kept.now) (map take_of ls)
          (length-map c.args.kept.now (λ k. k.take.room) ∙ c.requires.kept ∙ sym (length-map ls take_of))
          (kept-roomy n n c.args.kept.now (omega arith) c.requires.roomy)
          (subst (AllByRecursion (IsShort n)) (table-takes m.table.now ls)
          (item-short m (table_of m.table.now ls) (trail_subst m c.args.trail.now) c.requires.item));
    }

pub put_back-requires : goal.put_back-requires
put_back-requires c =
    let m = c.args.matched in
    let n = node_count (subject_of m.table.now) in
    let ls = c.args.levels.now in
    let ms = c.look.new.levels in
    record {
      room = subst (HaveRoom (map (λ l. l.take.room) ms)) (sym c.keep.ensures.takes)
          (short-room n m.table.now (map (λ l. l.take.room) ms) (map take_of ls)
          (length-map ms (λ l. l.take.room) ∙ c.look.ensures.count ∙ sym (length-map ls take_of))
          (levels-roomy m.table.now n ms c.look.ensures.levels)
          (subst (AllByRecursion (IsShort n)) (table-takes m.table.now ls)
          (item-short m (table_of m.table.now ls) (trail_subst m c.args.trail.now) c.requires.item)));
    }

pub returns-clause-least : goal.returns-clause-least
returns-clause-least c =
    let m = c.args.matched in
    let n = node_count (subject_of m.table.now) in
    let ls = c.args.levels.now in
    let ms = c.look.new.levels in
    let same : IsTrue c.are_kept-least.result ↔ (map take_of ms ≡ map take_of ls) = (
      λ h. c.are_kept-least.ensures.0 h ∙ c.keep.ensures.takes,
      λ e. c.are_kept-least.ensures.1 (e ∙ sym c.keep.ensures.takes),
    ) in
    least-test m c.requires.matched ls ms (trail_subst m c.args.trail.now) (trail_subst m c.look.new.trail)
    (table_of m.table.now ls) c.are_kept-least.result c.look.result
    (levels-held m.table.now n ls c.requires.levels) (levels-held m.table.now n ms c.look.ensures.levels)
    c.requires.item c.look.ensures.found same

pub returns-clause-table : goal.returns-clause-table
returns-clause-table c =
    let t = c.args.matched.table.now in
    table-takes t c.put_back.new.levels
    ∙ ap (map (entry_from t)) (c.put_back.ensures.takes ∙ c.keep.ensures.takes)
    ∙ sym (table-takes t c.args.levels.now)

pub returns-clause-count : goal.returns-clause-count
returns-clause-count c = same-lengths take_of take_of c.put_back.new.levels c.args.levels.now
    (c.put_back.ensures.takes ∙ c.keep.ensures.takes)

pub returns-clause-levels : goal.returns-clause-levels
returns-clause-levels c =
    let t = c.args.matched.table.now in
    let n = node_count (subject_of t) in
    c.put_back.ensures.levels t n c.look.ensures.levels
    (subst (AreHeldTakes t) (sym c.keep.ensures.takes) (levels-held t n c.args.levels.now c.requires.levels))

pub returns-clause-kept : goal.returns-clause-kept
returns-clause-kept c = same-lengths (λ k. k.take.room) (λ k. k.take.room) c.keep.new.kept c.args.kept.now
    c.keep.ensures.rooms

pub returns-clause-roomy : goal.returns-clause-roomy
returns-clause-roomy c = λ width a. kept-rooms width c.args.kept.now c.keep.new.kept c.keep.ensures.rooms a

pub returns-clause-room : goal.returns-clause-room
returns-clause-room c = ap (λ t. t.room) c.look.ensures.kept
