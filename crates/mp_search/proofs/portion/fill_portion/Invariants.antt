use Rattle.std.proofs.Common.{◌≡◌, ◌≤◌, ◌-◌, length, take, drop, true}
use Rattle.mp_term.specs.Pieces.{is_sublist}
use Rattle.mp_table.specs.Table.{rank_cmp}
use Rattle.mp_table.specs.declared.rank.Rank.{Rank}
use Rattle.mp_search.specs.Portion.{MayTake}
use Rattle.mp_search.specs.Reading.{subst_of}
use Rattle.mp_search.proofs.PortionLaws.{HasEnough}
use Rattle.mp_search.proofs.portion.fill_portion.Given as goal

abbrev pub invariant-loop-place : goal.invariant-loop-place
invariant-loop-place l = record {
  within : l.place ≤ length l.list;
  few : length l.room.items.items ≤ l.place;
  part : is_sublist rank_cmp l.room.items.items (take l.place l.list) ≡ true;
  enough : (z : Rank) → MayTake l.query l.site (subst_of l.query l.trail) l.looks z
      → HasEnough z l.count l.list l.room.items.items (drop l.place l.list);
  room : l.room.room ≡ l.initial.room.room;
}

abbrev pub decreases-loop-place : goal.decreases-loop-place
decreases-loop-place l = l.end - l.place
