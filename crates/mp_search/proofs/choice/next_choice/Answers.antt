use Rattle.std.proofs.Common.{◌≡◌, [], ◌∷◌, sym, ap, ◌∙◌, subst}
use Rattle.std.specs.Prelude.{Some, slice_get, MatchBool}
use Rattle.mp_term.specs.Listing.{In}
use Rattle.mp_table.specs.Table.{HasRanks, rank_cmp}
use Rattle.mp_search.specs.Drawn.{lists_above}
use Rattle.mp_search.specs.Reading.{entry_of}
use Rattle.mp_search.specs.Site.{entries_read}
use Rattle.mp_search.proofs.ChoiceLaws as laws
use Rattle.mp_search.proofs.choice.next_choice.Goals as goal

pub returns-then-reads_collapsed-clause-choice : goal.returns-then-reads_collapsed-clause-choice
returns-then-reads_collapsed-clause-choice c =
    let q = c.args.query.now in
    let x = c.args.site.now in
    let own = c.args.own.now in
    laws.above-collapsed q x c.requires.query.table c.requires.site.left own c.requires.over
    (laws.list_drawn q x c.requires.query.table c.requires.site.left own c.requires.over c.requires.drawn)
    (sym c.reads_collapsed.ensures ∙ c.if-reads_collapsed.true)

pub next_list-requires-clause-drawn : goal.next_list-requires-clause-drawn
next_list-requires-clause-drawn c =
    laws.list_drawn c.args.query.now c.args.site.now c.requires.query.table c.requires.site.left c.args.own.now
    c.requires.over c.requires.drawn

pub returns-then-not-next_list-clause-choice : goal.returns-then-not-next_list-clause-choice
returns-then-not-next_list-clause-choice c =
    let q = c.args.query.now in
    let x = c.args.site.now in
    let own = c.args.own.now in
    laws.above-uncollapsed q x c.requires.query.table c.requires.site.left own c.requires.over
    (laws.list_drawn q x c.requires.query.table c.requires.site.left own c.requires.over c.requires.drawn)
    (sym c.reads_collapsed.ensures ∙ c.if-reads_collapsed.false)
    ∙ ap (entries_read q x) c.if-not-next_list.ensures.list

pub returns-then-not-next_list-clause-over : goal.returns-then-not-next_list-clause-over
returns-then-not-next_list-clause-over c =
    laws.over-kept c.args.query.now.table.now c.args.own.now c.next_list.new.self c.requires.over
    (subst (HasRanks c.args.query.now.table.now) (sym c.if-not-next_list.ensures.kept) c.requires.over.0)
    c.next_list.ensures.draws c.next_list.ensures.rest

pub read_on-requires-clause-over : goal.read_on-requires-clause-over
read_on-requires-clause-over c =
    let q = c.args.query.now in
    let x = c.args.site.now in
    let own = c.args.own.now in
    let new = c.next_list.new.self in
    laws.over-drawn q x c.requires.query.table c.requires.site.left own new c.requires.over
    (laws.next-in q x c.requires.query.table c.requires.site.left own own.take.items.items new.take.items.items
    c.if-not-next_list.ensures.list) c.next_list.ensures.draws c.next_list.ensures.rest

pub read_on-requires-clause-drawn : goal.read_on-requires-clause-drawn
read_on-requires-clause-drawn c =
    let q = c.args.query.now in
    let x = c.args.site.now in
    let own = c.args.own.now in
    let new = c.next_list.new.self in
    subst (In new.take.items.items)
    (sym (laws.drawn-kept q x c.requires.query.table c.requires.site.left own new c.next_list.ensures.draws))
    (laws.next-in q x c.requires.query.table c.requires.site.left own own.take.items.items new.take.items.items
    c.if-not-next_list.ensures.list)

pub returns-clause-choice : goal.returns-clause-choice
returns-clause-choice c =
    let q = c.args.query.now in
    let x = c.args.site.now in
    let own = c.args.own.now in
    let l = own.take.items.items in
    let m = c.next_list.new.self.take.items.items in
    let same = laws.drawn-kept q x c.requires.query.table c.requires.site.left own c.next_list.new.self
    c.next_list.ensures.draws in
    let all = laws.above-uncollapsed q x c.requires.query.table c.requires.site.left own c.requires.over
    (laws.list_drawn q x c.requires.query.table c.requires.site.left own c.requires.over c.requires.drawn)
    (sym c.reads_collapsed.ensures ∙ c.if-reads_collapsed.false)
    ∙ ap (entries_read q x) (laws.next-rest q x c.requires.query.table c.requires.site.left own l m
    c.if-not-next_list.ensures.list
    ∙ ap (λ ls. m ∷ lists_above rank_cmp m ls) (sym same)) in
    subst (λ es. MatchBool c.read_on.result (slice_get es 0 ≡ Some (entry_of q.table.now c.read_on.new.own)) (es ≡ []))
    (sym all) c.read_on.ensures.choice
