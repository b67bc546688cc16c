use Rattle.std.proofs.Common.{◌∙◌, length, ap, sym, subst, refl, rules}
use Rattle.std.proofs.lemmas.List.{with_items_is, places}
use Rattle.mp_subst.specs.Trail.{length_at}
use Rattle.mp_search.specs.Levels.{AreLevels}
use Rattle.mp_search.proofs.OnwardLaws.{cut-back}
use Rattle.mp_ac.proofs.MovedLaws as laws
use Rattle.mp_ac.proofs.look.look_on.Goals as goal

pub returns-then-look : goal.returns-then-look
returns-then-look c =
    let a = c.args.asked in
    let same = with_items_is c.args.room.now.levels c.look.new.levels (search (rules, places)) in
    record {
      moved = laws.moved-look a c.args.args.now c.args.stage c.args.room.now c.args.trail.now c.requires.standing _ refl
          refl refl
          (ap length same ∙ c.look.ensures.count ∙ ap length c.deref_mut.ensures.value)
          (subst (AreLevels a.table.now c.args.room.now.width) (sym same) c.look.ensures.levels)
          c.in-Some.mode (sym c.in-Some.is ∙ c.mode.ensures) c.deref_mut.result.now c.look.new.levels
          c.deref_mut.ensures.value same c.look.new.trail c.if-look.ensures.found c.look.ensures.kept
          c.look.ensures.only c.look.ensures.spare c.look.ensures.trail;
    }

pub returns : goal.returns
returns c =
    let a = c.args.asked in
    let same = with_items_is c.args.room.now.levels c.look.new.levels (search (rules, places)) in
    let t = c.args.trail.now in
    record {
      moved = laws.moved-not a c.args.args.now c.args.stage c.args.room.now t c.requires.standing _ refl refl refl
          (ap length same ∙ c.look.ensures.count ∙ ap length c.deref_mut.ensures.value)
          (subst (AreLevels a.table.now c.args.room.now.width) (sym same) c.look.ensures.levels)
          c.undo.new.self
          (laws.none-look a c.args.args.now c.args.stage c.args.room.now t c.requires.standing
          c.in-Some.mode (sym c.in-Some.is ∙ c.mode.ensures) c.deref_mut.result.now c.deref_mut.ensures.value
          c.if-look.ensures.found)
          (cut-back t c.look.new.trail c.undo.new.self (length_at c.mark-mark.result) c.mark-mark.ensures
          c.look.ensures.kept c.undo.ensures.trail);
    }
