use Rattle.std.proofs.Common.{sym, subst}
use Rattle.std.specs.List.{AllByRecursion}
use Rattle.mp_ac.specs.CommRoom.{IsOfTable}
use Rattle.mp_ac.proofs.store.CommStore.new.Goals as goal

pub returns : goal.returns
returns c t x = record {
  found = c.new.ensures t x;
  rooms = subst (AllByRecursion (IsOfTable t)) (sym c.new-2.ensures.items) tt;
}
