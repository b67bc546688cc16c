use Rattle.std.proofs.Common.{length}
use Rattle.mp_tests.proofs.items.write_items.Given as goal

abbrev pub decreases-loop-cursor : goal.decreases-loop-cursor
decreases-loop-cursor l = length l.cursor.to_come
