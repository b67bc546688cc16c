-- The tree that a term is read as.
use Rattle.mp_term.specs.Tree.{Tree, symbol, app, trees}
use Rattle.mp_term.specs.declared.term.Term.{Term}
use Rattle.mp_term.specs.declared.term.Term.TheVariants.{Sym, App}

-- a symbol as the bytes of its name, and an application by its operation's number
abbrev pub tree : Term → Tree
tree (Sym n) = symbol n
tree (App f ts) = app f.0 (trees ts)
