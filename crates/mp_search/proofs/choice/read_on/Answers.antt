use Rattle.std.proofs.Common.{◌≡◌, ◌∷◌, length, sym, ap, ◌∙◌, subst, arith}
use Rattle.std.specs.Prelude.{Some, slice_get, MatchBool}
use Rattle.mp_term.specs.Listing.{In}
use Rattle.mp_table.specs.Table.{rank_cmp}
use Rattle.mp_search.specs.Drawn.{lists_above}
use Rattle.mp_search.specs.Reading.{entry_of}
use Rattle.mp_search.specs.Site.{lists_drawn, entries_read}
use Rattle.mp_search.proofs.ChoiceLaws as laws
use Rattle.mp_search.proofs.DrawnTerms.{drawn-ranks}
use Rattle.mp_search.proofs.choice.read_on.Goals as goal

pub returns-then-not-next_list-clause-over : goal.returns-then-not-next_list-clause-over
returns-then-not-next_list-clause-over c =
    let q = c.args.query.now in
    let x = c.args.site.now in
    let own = c.args.own.now in
    let new = c.next_list.new.self in
    laws.over-drawn q x c.requires.query.table c.requires.site.left own new c.requires.over
    (subst (λ l. In l (lists_drawn x own)) (sym c.if-not-next_list.ensures.kept) c.loop-found.invariant.drawn)
    (c.next_list.ensures.draws ∙ c.loop-found.invariant.draws) (c.next_list.ensures.rest ∙ c.loop-found.invariant.rest)

pub read_list-found-requires-in-loop-found-clause-take : goal.read_list-found-requires-in-loop-found-clause-take
read_list-found-requires-in-loop-found-clause-take c =
    let q = c.args.query.now in
    let x = c.args.site.now in
    let own = c.args.own.now in
    let l = c.loop-found.own.take.items.items in
    let m = c.next_list.new.self.take.items.items in
    let same = laws.drawn-kept q x c.requires.query.table c.requires.site.left own c.loop-found.own
    c.loop-found.invariant.draws in
    let next = subst (λ ls. slice_get (lists_above rank_cmp l ls) 0 ≡ Some m) same c.if-not-next_list.ensures.list in
    drawn-ranks q.table.now c.requires.query.table own.source own.pool.items.items x.left.now c.requires.over.1
    c.requires.site.left m (laws.next-in q x c.requires.query.table c.requires.site.left own l m next)

pub loop-found-smaller : goal.loop-found-smaller
loop-found-smaller c =
    let q = c.args.query.now in
    let x = c.args.site.now in
    let own = c.args.own.now in
    let l = c.loop-found.own.take.items.items in
    let m = c.next_list.new.self.take.items.items in
    let ls = lists_drawn x own in
    let same = laws.drawn-kept q x c.requires.query.table c.requires.site.left own c.loop-found.own
    c.loop-found.invariant.draws in
    let next = subst (λ ks. slice_get (lists_above rank_cmp l ks) 0 ≡ Some m) same c.if-not-next_list.ensures.list in
    let rest = laws.next-rest q x c.requires.query.table c.requires.site.left own l m next in
    omega (
      arith,
      ap length rest,
      ap (λ k. length (lists_above rank_cmp k ls)) c.read_list-found-in-loop-found.ensures.take,
    )

pub loop-found-preserved : goal.loop-found-preserved
loop-found-preserved c =
    let q = c.args.query.now in
    let x = c.args.site.now in
    let own = c.args.own.now in
    let l = c.loop-found.own.take.items.items in
    let m = c.next_list.new.self.take.items.items in
    let new = c.read_list-found-in-loop-found.new.own in
    let ls = lists_drawn x own in
    let es = entries_read q x (own.take.items.items ∷ lists_above rank_cmp own.take.items.items ls) in
    let same = laws.drawn-kept q x c.requires.query.table c.requires.site.left own c.loop-found.own
    c.loop-found.invariant.draws in
    let next = subst (λ ks. slice_get (lists_above rank_cmp l ks) 0 ≡ Some m) same c.if-not-next_list.ensures.list in
    let rest = laws.next-rest q x c.requires.query.table c.requires.site.left own l m next in
    let left : es ≡ entries_read q x (lists_above rank_cmp l ls) =
    rw c.loop-found-test.true at c.loop-found.invariant.choice in
    record {
      draws = c.read_list-found-in-loop-found.ensures.draws ∙ c.next_list.ensures.draws ∙ c.loop-found.invariant.draws;
      rest = c.read_list-found-in-loop-found.ensures.rest ∙ c.next_list.ensures.rest ∙ c.loop-found.invariant.rest;
      rooms = c.read_list-found-in-loop-found.ensures.rooms ∙ c.next_list.ensures.rooms ∙ c.loop-found.invariant.rooms;
      drawn = subst (λ k. In k ls) (sym c.read_list-found-in-loop-found.ensures.take)
          (laws.next-in q x c.requires.query.table c.requires.site.left own l m next);
      choice = subst (λ k. MatchBool c.read_list-found-in-loop-found.result
          (slice_get es 0 ≡ Some (entry_of q.table.now new)) (es ≡ entries_read q x (lists_above rank_cmp k ls)))
          (sym c.read_list-found-in-loop-found.ensures.take)
          (laws.read-step q x c.requires.query.table c.requires.site.left c.read_list-found-in-loop-found.result es
          (entry_of q.table.now new) m (lists_above rank_cmp m ls) (left ∙ ap (entries_read q x) rest)
          c.read_list-found-in-loop-found.ensures.choice);
    }

pub returns-clause-over : goal.returns-clause-over
returns-clause-over c =
    laws.over-drawn c.args.query.now c.args.site.now c.requires.query.table c.requires.site.left c.args.own.now
    c.loop-found.own c.requires.over c.loop-found.invariant.drawn c.loop-found.invariant.draws
    c.loop-found.invariant.rest
