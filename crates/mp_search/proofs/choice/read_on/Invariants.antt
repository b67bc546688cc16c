use Rattle.std.proofs.Common.{◌≡◌, ◌∷◌, length}
use Rattle.std.specs.Prelude.{Some, slice_get, MatchBool}
use Rattle.mp_term.specs.Listing.{In}
use Rattle.mp_table.specs.Table.{rank_cmp}
use Rattle.mp_search.specs.Drawn.{lists_above}
use Rattle.mp_search.specs.Levels.{rooms_of, draws_of}
use Rattle.mp_search.specs.Reading.{entry_of}
use Rattle.mp_search.specs.Site.{lists_drawn, entries_read}
use Rattle.mp_search.proofs.choice.read_on.Given as goal

abbrev pub invariant-loop-found : goal.invariant-loop-found
invariant-loop-found l =
    let own = l.fn.own.take.items.items in
    let ls = lists_drawn l.site l.fn.own in
    let es = entries_read l.query l.site (own ∷ lists_above rank_cmp own ls) in
    record {
      draws : draws_of l.own ≡ draws_of l.fn.own;
      rest : l.own.rest.items.items ≡ l.fn.own.rest.items.items;
      rooms : rooms_of l.own ≡ rooms_of l.fn.own;
      drawn : In l.own.take.items.items ls;
      choice : MatchBool l.found (slice_get es 0 ≡ Some (entry_of l.query.table.now l.own))
          (es ≡ entries_read l.query l.site (lists_above rank_cmp l.own.take.items.items ls));
    }

abbrev pub decreases-loop-found : goal.decreases-loop-found
decreases-loop-found l =
    length (lists_above rank_cmp l.own.take.items.items (lists_drawn l.site l.fn.own))
