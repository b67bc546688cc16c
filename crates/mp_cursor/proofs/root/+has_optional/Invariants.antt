use Rattle.std.proofs.Common.{length}
use Rattle.mp_cursor.proofs.root.+has_optional.Given as goal

abbrev pub decreases-has_optional : goal.decreases-has_optional
decreases-has_optional l = length l.children.now
