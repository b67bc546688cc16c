use Rattle.std.proofs.Common.{◌≡◌, true, false, inl, inr, sym, ◌∙◌, subst, arith}
use Rattle.mp_term.specs.Search.{In}
use Rattle.mp_table.specs.Subterms.{arguments}
use Rattle.mp_table.specs.Table.{HasRanks, term_at}
use Rattle.mp_search.specs.Portion.{second_is}
use Rattle.mp_search.proofs.PartLaws.{first-others}
use Rattle.mp_search.proofs.partner.+some_has_second.Goals as goal

pub has_second-requires-clause-rank : goal.has_second-requires-clause-rank
has_second-requires-clause-rank t c =
    (subst (HasRanks c.args.table.now)
    (first-others c.args.ranks.now (record { 0 = 0 }) c.in-len1-up.len_at_least) c.requires.ranks).0

pub some_has_second-requires : goal.some_has_second-requires
some_has_second-requires t c =
    let is = first-others c.args.ranks.now (record { 0 = 0 }) c.in-len1-up.len_at_least in (
      omega (arith, c.decreases, c.in-len1-up.len_at_least),
      (c.requires.table, ((subst (HasRanks c.args.table.now) is c.requires.ranks).1, c.requires.second)),
    )

pub returns-else-has_second : goal.returns-else-has_second
returns-else-has_second t c = λ r i e.
    let is = first-others c.args.ranks.now (record { 0 = 0 }) c.in-len1-up.len_at_least in
    elim (subst (In r) is i) [
      | inl k ↦
          let second = term_at c.args.table.now c.args.second in
          let there = subst (λ z. second_is second (arguments (term_at c.args.table.now z)) ≡ true) k e in
          let wrong : false ≡ true = sym c.if-has_second.false ∙ c.has_second.ensures there in
          cc
      | inr k ↦ c.some_has_second.ensures r k e
    ]
