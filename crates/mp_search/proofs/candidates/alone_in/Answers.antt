use Rattle.std.proofs.Common.{ap}
use Rattle.std.specs.Prelude.{option_map}
use Rattle.mp_subst.specs.Bound.{bound_of}
use Rattle.mp_search.proofs.PlacesLaws.{alone-known, one-item}
use Rattle.mp_search.proofs.candidates.alone_in.Goals as goal

pub returns-in-None-len1-clause-only : goal.returns-in-None-len1-clause-only
returns-in-None-len1-clause-only c = λ s f t h.
    let b = bound_of c.args.bound.now in
    alone-known c.args.table.now s f b.form b.wrap b.ranks _ t (ap (option_map (λ op. op.0)) c.in-None-len1.is-0)
    (one-item b.ranks (record { 0 = 0 }) c.in-None-len1.len_at_least c.in-None-len1.len_below) h
