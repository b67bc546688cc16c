use Rattle.std.proofs.Common.{[], ap, sym, subst, arith, ◌∙◌}
use Rattle.std.proofs.lemmas.List.{length-map}
use Rattle.mp_table.specs.Table.{rank_cmp, HasRanks, term_at}
use Rattle.mp_term.specs.Pieces.{without}
use Rattle.mp_search.specs.Reading.{entry_of}
use Rattle.mp_search.specs.Site.{site_place}
use Rattle.mp_search.proofs.NextLaws.{choice-stands, without-first}
use Rattle.mp_search.proofs.OwnLaws.{ranks-without}
use Rattle.mp_search.proofs.next.pass.Goals as goal

pub bind-requires-clause-allowed : goal.bind-requires-clause-allowed
bind-requires-clause-allowed c =
    let q = c.args.query.now in
    choice-stands q.sig.now (site_place q c.args.site.now []) (entry_of q.table.now c.take_next.new.own)
    c.if-not-take_next.ensures.choice

pub bind-requires-clause-spare : goal.bind-requires-clause-spare
bind-requires-clause-spare c =
    let q = c.args.query.now in
    let e = entry_of q.table.now c.take_next.new.own in
    let s = c.requires.spare e
    (choice-stands q.sig.now (site_place q c.args.site.now []) e c.if-not-take_next.ensures.choice) in
    omega (arith, s, length-map c.take_next.new.own.take.items.items (term_at q.table.now))

pub returns-clause-rest : goal.returns-clause-rest
returns-clause-rest c = λ h.
    let xs = c.args.site.now.left.now in
    let taken = c.take_next.ensures.taken c.if-not-take_next.false in
    c.refill.ensures.items ∙ sym (ap (λ rs. without rank_cmp rs xs) taken.1 ∙ without-first xs taken.0)

pub returns-clause-over : goal.returns-clause-over
returns-clause-over c =
    let t = c.args.query.now.table.now in
    let xs = c.args.site.now.left.now in
    let taken = c.take_next.ensures.taken c.if-not-take_next.false in
    let rest = c.refill.ensures.items ∙ sym (ap (λ rs. without rank_cmp rs xs) taken.1 ∙ without-first xs taken.0) in
    let o = c.take_next.ensures.over in (
      o.0,
      o.1,
      subst (HasRanks t) (sym rest)
          (ranks-without t c.take_next.new.own.take.items.items xs c.requires.site.left),
    )
