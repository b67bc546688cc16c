use Rattle.std.proofs.Common.{◌≡◌, ◌+◌, ◌∙◌, Some, ap, arith, length, map, suc, sym, subst, take}
use Rattle.std.specs.Prelude.{option_map, slice_get}
use Rattle.std.proofs.lemmas.Option.{slice_get-get_or}
use Rattle.mp_walk.specs.Course.{table_read}
use Rattle.mp_walk.specs.Entries.{entry_read}
use Rattle.mp_walk.specs.InstrView.{plain_instr}
use Rattle.mp_walk.specs.Levels.{read_of}
use Rattle.mp_walk.proofs.EntryLaws.{among-found, among-left, entries-held, level-at, none-some}
use Rattle.mp_walk.proofs.LevelLaws.{below-more}
use Rattle.mp_walk.proofs.entries.entry_among.Goals as goal

pub unreachable-requires : goal.unreachable-requires
unreachable-requires c =
    let l = c.level-item.result in
    let at = slice_get-get_or c.args.levels.now c.loop-level.level-index l c.loop-level-test.true
    ∙ ap Some (sym c.level-item.is) in
    let h = level-at c.args.set c.args.frames.now c.requires.levels.0 c.args.levels.now
    (length c.args.frames.now) c.requires.levels.1 c.requires.levels.2 c.loop-level.level-index l at in
    none-some _ c.in_default.ensures h.0.instr

pub entry_in-requires-clause-place : goal.entry_in-requires-clause-place
entry_in-requires-clause-place c =
    let l = c.level-item.result in
    let at = slice_get-get_or c.args.levels.now c.loop-level.level-index l c.loop-level-test.true
    ∙ ap Some (sym c.level-item.is) in
    let h = level-at c.args.set c.args.frames.now c.requires.levels.0 c.args.levels.now
    (length c.args.frames.now) c.requires.levels.1 c.requires.levels.2 c.loop-level.level-index l at in
    below-more l.frames (length c.args.frames.now) h.1 l.place h.0.place

pub entry_in-requires-clause-search : goal.entry_in-requires-clause-search
entry_in-requires-clause-search c =
    let l = c.level-item.result in
    let at = slice_get-get_or c.args.levels.now c.loop-level.level-index l c.loop-level-test.true
    ∙ ap Some (sym c.level-item.is) in
    let h = level-at c.args.set c.args.frames.now c.requires.levels.0 c.args.levels.now
    (length c.args.frames.now) c.requires.levels.1 c.requires.levels.2 c.loop-level.level-index l at in
    let held = c.instr.ensures ∙ ap (option_map (λ i. plain_instr i.now)) c.in-Some.is in
    (c.requires.levels.0, h.0.searched (plain_instr c.in-Some.instr.now) held)

pub returns-in-Ok : goal.returns-in-Ok
returns-in-Ok c = λ u.
    let t = c.args.set.table.now in
    let code = c.args.set.code.now.instrs in
    let read = read_of t c.args.frames.now u in
    let l = c.level-item.result in
    let at = slice_get-get_or c.args.levels.now c.loop-level.level-index l c.loop-level-test.true
    ∙ ap Some (sym c.level-item.is) in
    let held = c.instr.ensures ∙ ap (option_map (λ i. plain_instr i.now)) c.in-Some.is in
    let h = c.in-Ok.ensures u in (
      h.0,
      among-found code read c.args.levels.now c.loop-level.level-index l c.loop-level.rest c.args.node
          (entry_read t (c.in-Ok.entry.0.now, c.in-Ok.entry.1)) at (c.loop-level.invariant.behind u)
          (ap (λ T. slice_get T c.loop-level.rest) (entries-held code (read l) (plain_instr c.in-Some.instr.now) held)
          ∙ h.1),
    )

pub loop-level-preserved : goal.loop-level-preserved
loop-level-preserved c = record {
  behind = λ u.
      let t = c.args.set.table.now in
      let code = c.args.set.code.now.instrs in
      let read = read_of t c.args.frames.now u in
      let l = c.level-item.result in
      let at = slice_get-get_or c.args.levels.now c.loop-level.level-index l c.loop-level-test.true
      ∙ ap Some (sym c.level-item.is) in
      let held = c.instr.ensures ∙ ap (option_map (λ i. plain_instr i.now)) c.in-Some.is in
      let next : suc c.loop-level.level-index ≡ c.loop-level.level-index + 1 = omega arith in
      subst (λ n. c.in-Err.left + length (table_read code (map read (take n c.args.levels.now))) ≡ c.args.node) next
      (among-left code read c.args.levels.now c.loop-level.level-index l c.loop-level.rest c.in-Err.left c.args.node
      at (c.loop-level.invariant.behind u)
      (ap (λ T. c.in-Err.left + length T) (entries-held code (read l) (plain_instr c.in-Some.instr.now) held)
      ∙ c.in-Err.ensures u));
}
