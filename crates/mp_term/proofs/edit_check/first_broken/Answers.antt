use Rattle.std.proofs.Common.{◌≡◌, ◌∙◌, ◌||◌, sym, false, take, arith}
use Rattle.std.proofs.lemmas.Grind.{common_steps}
use Rattle.std.proofs.lemmas.List.Folds.{list_any_more}
use Rattle.mp_term.specs.View.{tree}
use Rattle.mp_term.specs.EditFault.{breaks}
use Rattle.mp_term.proofs.EditFaultLaws.{siblings-fine}
use Rattle.mp_term.proofs.edit_check.first_broken.Goals.{else-not-is_seen-via-then-not-is_seen+else-breaks}
use Rattle.mp_term.proofs.edit_check.first_broken.Goals.{else-not-is_seen-via-else-not-is_seen}
use Rattle.mp_term.proofs.edit_check.first_broken.Goals as goal

pub loop-index-preserved : goal.loop-index-preserved
loop-index-preserved c =
    let sig = c.args.sig.now in
    let t = tree c.args.term.now in
    let es = c.args.edits.now in
    let i = c.loop-index.index in
    let e = c.index-edits-index.result in
    let fine : breaks sig t es e ≡ false =
    elim c.else-not-is_seen.branch [
      | else-not-is_seen-via-then-not-is_seen+else-breaks w ↦ sym w.breaks.ensures ∙ w.if-breaks.false
      | else-not-is_seen-via-else-not-is_seen w ↦
          siblings-fine sig t es (take i es) e (sym c.has_sibling-is_seen.ensures ∙ w.if-not-is_seen.false)
          c.loop-index.invariant.before
    ] in
    record {
      before = list_any_more (breaks sig t es) es i e c.loop-index-test.true
          ∙ (λ j. c.loop-index.invariant.before j || breaks sig t es (sym c.index-edits-index.is j)) ∙ fine;
      rest = grind (arith, common_steps);
    }
