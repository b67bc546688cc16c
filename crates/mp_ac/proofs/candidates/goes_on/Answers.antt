use Rattle.std.proofs.Common.{suc, ap, sym, ◌∙◌, arith, add-one, drop}
use Rattle.std.specs.Prelude.{None, not, ◌||◌}
use Rattle.std.proofs.Math.Seq.{drop-cons}
use Rattle.mp_pattern.specs.View.{pattern_tree}
use Rattle.mp_table.specs.declared.rank.Rank.{Rank}
use Rattle.mp_ac.proofs.CandidateLaws.{goes_on}
use Rattle.mp_ac.proofs.candidates.goes_on.Goals as goal

pub returns-then-not-clash : goal.returns-then-not-clash
returns-then-not-clash c =
    let t = c.args.table.now in
    let p = pattern_tree c.args.child.now in
    let q = pattern_tree c.args.next.now in
    let its = c.args.its.now in
    let i = c.loop-own.own-index in
    let zero : Rank = record { 0 = 0 } in
    let rest = goes_on t p q (drop (suc i) its) c.args.rank in
    let here = ap (λ l. goes_on t p q l c.args.rank) (drop-cons its i zero (omega (arith, c.loop-own-test.true))) in
    let test = sym (c.clash.ensures None) ∙ c.if-not-clash.true in
    ap (λ b. not b || rest) (sym test) ∙ sym here ∙ c.loop-own.invariant

pub loop-own-preserved : goal.loop-own-preserved
loop-own-preserved c =
    let t = c.args.table.now in
    let p = pattern_tree c.args.child.now in
    let q = pattern_tree c.args.next.now in
    let its = c.args.its.now in
    let i = c.loop-own.own-index in
    let zero : Rank = record { 0 = 0 } in
    let rest = goes_on t p q (drop (suc i) its) c.args.rank in
    let here = ap (λ l. goes_on t p q l c.args.rank) (drop-cons its i zero (omega (arith, c.loop-own-test.true))) in
    let test = sym (c.clash.ensures None) ∙ c.if-not-clash.false in
    ap (λ n. goes_on t p q (drop n its) c.args.rank) (add-one i)
    ∙ ap (λ b. not b || rest) (sym test) ∙ sym here ∙ c.loop-own.invariant
