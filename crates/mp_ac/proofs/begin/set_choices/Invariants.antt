use Rattle.std.proofs.Common.{◌≡◌, length}
use Rattle.mp_table.specs.Table.{HasRanks, terms_at}
use Rattle.mp_ac.specs.Args.{args_of}
use Rattle.mp_ac.specs.CommRoom.{IsOfTable}
use Rattle.mp_ac.specs.Store.{IsStoreOf}
use Rattle.mp_ac.proofs.PicksLaws.{HavePicks}
use Rattle.mp_ac.proofs.begin.set_choices.Given as goal

abbrev pub invariant-loop-index : goal.invariant-loop-index
invariant-loop-index l = record {
  store : IsStoreOf l.table l.plans l.store;
  room : IsOfTable l.table l.room;
  choices : HasRanks l.table l.room.choices.items;
  count : length l.room.picks.items ≡ length l.fn.room.picks.items;
  width : l.room.width ≡ l.fn.room.width;
  levels : l.room.levels ≡ l.fn.room.levels;
  grounds : l.room.grounds ≡ l.fn.room.grounds;
  picks : HavePicks l.table (terms_at l.table (args_of l.node.args)) l.room.width l.plans l.numbers
      l.room.choices.items l.room.picks.items l.index;
}
