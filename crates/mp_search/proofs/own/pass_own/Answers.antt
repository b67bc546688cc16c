use Rattle.std.proofs.Common.{subst, []}
use Rattle.std.specs.Prelude.{MatchBool}
use Rattle.mp_search.specs.Passed.{IsPassed, IsShut}
use Rattle.mp_search.specs.Reading.{entry_of}
use Rattle.mp_search.specs.Site.{site_place}
use Rattle.mp_search.proofs.own.pass_own.Goals as goal

pub returns-clause-passed : goal.returns-clause-passed
returns-clause-passed c =
    let q = c.args.query.now in
    let T = c.args.trail.now in
    let U = c.pass.new.trail in
    let e = entry_of q.table.now c.pass.new.own in
    subst
    (λ x. MatchBool c.pass.result (IsPassed q (site_place q x []) T U e) (IsShut q (site_place q x []) T U e))
    c.site-site.ensures c.pass.ensures.passed
