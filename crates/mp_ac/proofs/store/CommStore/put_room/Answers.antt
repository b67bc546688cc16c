use Rattle.std.proofs.Common.{[], ◌∷◌, sym, subst}
use Rattle.std.specs.List.{AllByRecursion}
use Rattle.mp_term.proofs.ListLaws.{all-append}
use Rattle.mp_ac.specs.CommRoom.{IsOfTable}
use Rattle.mp_ac.proofs.store.CommStore.put_room.Goals as goal

pub returns : goal.returns
returns c = λ t x h k. record {
  found = c.forget.ensures t x h.found;
  rooms = subst (AllByRecursion (IsOfTable t)) (sym c.in_ok-push.ensures.items)
      (all-append (IsOfTable t) c.args.self.now.rooms.items (c.args.room ∷ []) h.rooms (k, tt));
}
