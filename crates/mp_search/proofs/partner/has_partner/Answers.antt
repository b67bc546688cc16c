use Rattle.std.proofs.Common.{◌≡◌, true, sym, subst}
use Rattle.mp_table.specs.Subterms.{arguments}
use Rattle.mp_table.specs.Table.{term_at}
use Rattle.mp_search.specs.Portion.{second_is}
use Rattle.mp_search.proofs.PartnerLaws.{second-term}
use Rattle.mp_search.proofs.partner.has_partner.Goals as goal

pub returns-in-len1-up-later : goal.returns-in-len1-up-later
returns-in-len1-up-later c = λ r i h.
    let t = c.args.table.now in
    let there = subst (λ ts. second_is h.term ts ≡ true) (sym c.args-2.ensures.terms) h.own in
    c.some_has_second.ensures r i
    (subst (λ u. second_is u (arguments (term_at t r)) ≡ true)
    (second-term t h.term c.args-2.result.now (record { 0 = 0 }) there) h.other)
