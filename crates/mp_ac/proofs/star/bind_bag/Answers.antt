use Rattle.std.proofs.Common.{◌≡◌, ◌<◌, sym, subst, slice_index_or}
use Rattle.std.specs.Prelude.{MatchBool, None, Some}
use Rattle.mp_pattern.specs.Value.{bag}
use Rattle.mp_pattern.specs.declared.limits.TheConstants.{MAX_VARIABLES}
use Rattle.mp_table.specs.Table.{terms_at}
use Rattle.mp_ac.specs.Numbered.{numbered_subst}
use Rattle.mp_ac.proofs.NumberedLaws.{bind-numbered}
use Rattle.mp_ac.proofs.StarLaws.{bound-first, first-has}
use Rattle.mp_ac.proofs.star.bind_bag.Goals as goal

pub returns-in-len1-up-clause-bound : goal.returns-in-len1-up-clause-bound
returns-in-len1-up-clause-bound c =
    let t = c.args.table.now in
    let vs = c.args.vars.now in
    let old = c.args.trail.now in
    let new = c.bind.new.self in
    let ts = terms_at t c.args.ranks.now in
    let some = c.in-len1-up.len_at_least in
    subst (λ o. MatchBool c.bind.result (o ≡ Some (numbered_subst t new.stack)) (o ≡ None))
    (sym (bound-first vs 0 ts (numbered_subst t old.stack) some))
    (bind-numbered t old new (slice_index_or vs 0 0) (bag ts)
    (first-has (λ v. v < MAX_VARIABLES) vs 0 some c.requires.few) c.bind.result c.bind.ensures.bound
    c.bind.ensures.clash)
