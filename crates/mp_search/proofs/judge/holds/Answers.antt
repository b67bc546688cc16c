use Rattle.std.proofs.Common.{ap, sym}
use Rattle.std.specs.Prelude.{option_map}
use Rattle.mp_pattern.specs.CondView.{cond_tree}
use Rattle.mp_theory.proofs.KeptValues.{keeps-itself}
use Rattle.mp_search.specs.Reading.{subst_of}
use Rattle.mp_search.proofs.JudgeLaws.{complete-at, met-yes, met-no, is-no}
use Rattle.mp_search.proofs.judge.holds.Goals as goal

pub returns-in-Yes : goal.returns-in-Yes
returns-in-Yes c =
    let q = c.args.query.now in
    let s = subst_of q c.args.trail.now in
    let o = cond_tree c.in-Some.condition.now in
    let e = ap (option_map (λ d. cond_tree d.now)) c.in-Some.is in
    let d = complete-at q o s e c.requires.complete in
    sym (met-yes q o s c.judge.result e (c.judge.ensures.says s (keeps-itself s) d) c.in-Yes.is)

pub returns-in_default : goal.returns-in_default
returns-in_default c =
    let q = c.args.query.now in
    let s = subst_of q c.args.trail.now in
    let o = cond_tree c.in-Some.condition.now in
    let e = ap (option_map (λ d. cond_tree d.now)) c.in-Some.is in
    let d = complete-at q o s e c.requires.complete in
    sym (met-no q o s c.judge.result e (c.judge.ensures.says s (keeps-itself s) d)
    (is-no c.judge.result c.in_default.not-Yes (c.judge.ensures.decided d)))
