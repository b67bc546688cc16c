use Rattle.std.proofs.Common.{◌≡◌, true, sym, subst, eq-eqb}
use Rattle.mp_table.specs.Table.{term_at}
use Rattle.mp_search.specs.Portion.{second_is}
use Rattle.mp_search.proofs.PlacesLaws.{second-rank}
use Rattle.mp_search.proofs.candidates.has_second.Goals as goal

pub returns-in-len1-up-later : goal.returns-in-len1-up-later
returns-in-len1-up-later c = λ e.
    let t = c.args.table.now in
    let there = subst (λ ts. second_is (term_at t c.args.second) ts ≡ true) (sym c.args-2.ensures.terms) e in
    eq-eqb _ _ (second-rank t c.requires.table c.args.second (record { 0 = 0 }) c.args-2.result.now c.requires.second
    c.args-2.ensures.within there)
