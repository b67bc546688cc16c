use Rattle.std.proofs.Common.{◌∙◌, ◌+◌, ap, sym, take, drop}
use Rattle.std.specs.Prelude.{option_map}
use Rattle.std.specs.Option.{option_or}
use Rattle.mp_term.specs.declared.edit_fault.EditFault.TheVariants.{Overlap}
use Rattle.mp_term.specs.EditFault.{overlap_after}
use Rattle.mp_term.proofs.EditFaultLaws.{overlap_after-item}
use Rattle.mp_term.proofs.edit_check.first_overlap.Goals as goal

pub returns-in-Some : goal.returns-in-Some
returns-in-Some c =
    let es = c.args.edits.now in
    let i = c.loop-second.second in
    let rest = overlap_after (take (i + 1) es) (drop (i + 1) es) in
    ap (λ o. option_or (option_map (λ k. Overlap k i) o) rest) c.in-Some.ensures
    ∙ sym (overlap_after-item es i c.index-edits-second.result c.loop-second-test.true c.index-edits-second.is)
    ∙ c.loop-second.invariant

pub loop-second-preserved : goal.loop-second-preserved
loop-second-preserved c =
    let es = c.args.edits.now in
    let i = c.loop-second.second in
    let rest = overlap_after (take (i + 1) es) (drop (i + 1) es) in
    ap (λ o. option_or (option_map (λ k. Overlap k i) o) rest) c.in_default.ensures
    ∙ sym (overlap_after-item es i c.index-edits-second.result c.loop-second-test.true c.index-edits-second.is)
    ∙ c.loop-second.invariant
