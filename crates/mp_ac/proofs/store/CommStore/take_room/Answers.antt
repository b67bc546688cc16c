use Rattle.std.proofs.Common.{◌∷◌, [], subst}
use Rattle.std.specs.List.{AllByRecursion}
use Rattle.mp_term.proofs.ListLaws.{all-split}
use Rattle.mp_ac.specs.CommRoom.{IsOfTable}
use Rattle.mp_ac.proofs.store.CommStore.take_room.Goals as goal

pub returns-then-is_for-clause-room : goal.returns-then-is_for-clause-room
returns-then-is_for-clause-room c t x s =
    c.is_for.ensures c.if-is_for.true t (all-split (IsOfTable t) c.pop.new.self.items (c.in-Some.room ∷ [])
    (subst (AllByRecursion (IsOfTable t)) c.in-Some.ensures.items s.rooms)).1.0
