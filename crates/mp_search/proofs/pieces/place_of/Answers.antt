use Rattle.std.proofs.Common.{ltb, rules, ap, sym, ◌∙◌, arith}
use Rattle.std.proofs.lemmas.List.{get_or_default}
use Rattle.std.proofs.lemmas.List.Sorted.{IsNonDecreasingBy-from_sort, IsPartitionedBy-ltb}
use Rattle.std.proofs.lemmas.List.Sorted.{IsPartitionPoint-from_clause}
use Rattle.mp_table.specs.declared.rank.Rank.{Rank}
use Rattle.mp_search.proofs.FirstPlace.{found-at, missing-from}
use Rattle.mp_search.proofs.pieces.place_of.Goals as goal
use Rattle.mp_search.proofs.pieces.place_of.Goals.{else-place-list-via-then-place-list+else-list-place}
use Rattle.mp_search.proofs.pieces.place_of.Goals.{else-place-list-via-else-place-list}

pub returns-then-list-place : goal.returns-then-list-place
returns-then-list-place c =
    let xs = c.args.list.now in
    let r = c.args.rank in
    let p = c.partition_point-place.result in
    let zero_rank : Rank = record { 0 = 0 } in
    let up = IsPartitionedBy-ltb (λ s. s.0) xs r.0 (IsNonDecreasingBy-from_sort (λ s. s.0) xs c.requires) in
    found-at r xs p (IsPartitionPoint-from_clause (λ s. ltb s.0 r.0) xs p c.partition_point-place.ensures.partitioned up
    (λ a r f k. search rules)) c.if-place-list.true
    (ap (λ s. s.0) (sym (get_or_default xs p zero_rank r c.if-place-list.true)) ∙ c.if-list-place.true)

pub returns : goal.returns
returns c =
    let xs = c.args.list.now in
    let r = c.args.rank in
    let p = c.partition_point-place.result in
    let zero_rank : Rank = record { 0 = 0 } in
    let rises = IsNonDecreasingBy-from_sort (λ s. s.0) xs c.requires in
    let up = IsPartitionedBy-ltb (λ s. s.0) xs r.0 rises in
    missing-from r xs p rises
    (IsPartitionPoint-from_clause (λ s. ltb s.0 r.0) xs p c.partition_point-place.ensures.partitioned up
    (λ a r f k. search rules))
    (λ l e. elim c.else-place-list.branch [
      | else-place-list-via-then-place-list+else-list-place w ↦
          w.if-list-place.false (ap (λ s. s.0) (get_or_default xs p zero_rank r l) ∙ e)
      | else-place-list-via-else-place-list w ↦ omega (arith, l, w.if-place-list.false)
    ])
