use Rattle.std.proofs.Common.{ap}
use Rattle.std.specs.Prelude.{option_map}
use Rattle.mp_pattern.specs.CondView.{cond_tree}
use Rattle.mp_search.proofs.JudgeLaws.{complete-at, met-no}
use Rattle.mp_search.proofs.judge.fails.Goals as goal

pub returns-in-No : goal.returns-in-No
returns-in-No c i s k d =
    let q = c.args.query.now in
    let o = cond_tree c.in-Some.condition.now in
    let e = ap (option_map (λ d. cond_tree d.now)) c.in-Some.is in
    met-no q o s c.judge.result e (c.judge.ensures.says s k (complete-at q o s e d)) c.in-No.is
