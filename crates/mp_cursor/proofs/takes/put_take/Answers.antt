use Rattle.std.proofs.Common.{◌≤◌, [], false, subst, length}
use Rattle.std.proofs.lemmas.Option.{get_or_from_slice_get}
use Rattle.mp_cursor.proofs.takes.put_take.Goals as goal

pub set-requires : goal.set-requires
set-requires c = subst (λ e. length e.0 ≤ c.args.level.now.take.room)
    (get_or_from_slice_get c.args.entries.now c.args.index (c.in-Some.ranks.now, c.in-Some.collapsed) ([], false)
    c.in-Some.ensures)
    c.requires.room
