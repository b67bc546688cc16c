use Rattle.std.proofs.Common.{◌≡◌, [], ◌∷◌, sym, ap, ◌∙◌, subst}
use Rattle.std.specs.Prelude.{Some, slice_get, MatchBool}
use Rattle.mp_term.specs.Listing.{In}
use Rattle.mp_table.specs.Table.{HasRanks, rank_cmp}
use Rattle.mp_search.specs.Drawn.{lists_above}
use Rattle.mp_search.specs.Reading.{entry_of}
use Rattle.mp_search.specs.Site.{entries_read}
use Rattle.mp_search.proofs.ChoiceLaws as laws
use Rattle.mp_search.proofs.choice.first_choice.Goals as goal

pub returns-then-not-first_list-clause-choice : goal.returns-then-not-first_list-clause-choice
returns-then-not-first_list-clause-choice c =
    laws.drawn-read c.args.query.now c.args.site.now c.requires.query.table c.requires.site.left c.args.own.now
    c.requires.over ∙ ap (entries_read c.args.query.now c.args.site.now) c.if-not-first_list.ensures.list

pub returns-then-not-first_list-clause-over : goal.returns-then-not-first_list-clause-over
returns-then-not-first_list-clause-over c =
    laws.over-kept c.args.query.now.table.now c.args.own.now c.first_list.new.self c.requires.over
    (subst (HasRanks c.args.query.now.table.now) (sym c.if-not-first_list.ensures.kept) c.requires.over.0)
    c.first_list.ensures.draws c.first_list.ensures.rest

pub read_on-requires-clause-over : goal.read_on-requires-clause-over
read_on-requires-clause-over c =
    let q = c.args.query.now in
    let x = c.args.site.now in
    let own = c.args.own.now in
    let new = c.first_list.new.self in
    laws.over-drawn q x c.requires.query.table c.requires.site.left own new c.requires.over
    (laws.first-in q x c.requires.query.table c.requires.site.left own new.take.items.items
    c.if-not-first_list.ensures.list) c.first_list.ensures.draws c.first_list.ensures.rest

pub read_on-requires-clause-drawn : goal.read_on-requires-clause-drawn
read_on-requires-clause-drawn c =
    let q = c.args.query.now in
    let x = c.args.site.now in
    let own = c.args.own.now in
    let new = c.first_list.new.self in
    subst (In new.take.items.items)
    (sym (laws.drawn-kept q x c.requires.query.table c.requires.site.left own new c.first_list.ensures.draws))
    (laws.first-in q x c.requires.query.table c.requires.site.left own new.take.items.items
    c.if-not-first_list.ensures.list)

pub returns-clause-choice : goal.returns-clause-choice
returns-clause-choice c =
    let q = c.args.query.now in
    let x = c.args.site.now in
    let own = c.args.own.now in
    let l = c.first_list.new.self.take.items.items in
    let same = laws.drawn-kept q x c.requires.query.table c.requires.site.left own c.first_list.new.self
    c.first_list.ensures.draws in
    let all = laws.drawn-read q x c.requires.query.table c.requires.site.left own c.requires.over
    ∙ ap (entries_read q x) (laws.first-rest q x c.requires.query.table c.requires.site.left own l
    c.if-not-first_list.ensures.list
    ∙ ap (λ ls. l ∷ lists_above rank_cmp l ls) (sym same)) in
    subst (λ es. MatchBool c.read_on.result (slice_get es 0 ≡ Some (entry_of q.table.now c.read_on.new.own)) (es ≡ []))
    (sym all) c.read_on.ensures.choice
