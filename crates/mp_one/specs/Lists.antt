-- What contracts see of lists of references to terms.
use Rattle.std.specs.Prelude.{List, map}
use Rattle.std.specs.Borrow.{Bor}
use Rattle.mp_term.specs.declared.term.Term.{Term}
use Rattle.mp_term.specs.Tree.{Tree}
use Rattle.mp_term.specs.View.{tree}

-- the terms that a list of references points to
abbrev pub trees_of : List (Bor Term) → List Tree
trees_of ts = map (λ t. tree t.now) ts
