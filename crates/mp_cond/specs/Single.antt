-- The term of a value that is one term.
use Rattle.std.specs.Prelude.{Option, Some, None}
use Rattle.mp_term.specs.Tree.{Tree}
use Rattle.mp_pattern.specs.Value.{Value, one}

-- the term, where the value is one
abbrev pub single : Option Value → Option Tree
single (Some (one t)) = Some t
single _ = None
