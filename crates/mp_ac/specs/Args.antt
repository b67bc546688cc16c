-- What the children of a node take together.
use Rattle.std.specs.Prelude.{List, [], ◌∷◌}
use Rattle.mp_table.specs.declared.rank.Rank.{Rank}
use Rattle.mp_ac.specs.declared.args.Args.{Args}
use Rattle.mp_ac.specs.declared.args.Args.TheVariants.{Alone, These}

-- their ranks
abbrev pub args_of : Args → List Rank
args_of (Alone r) = r ∷ []
args_of (These rs) = rs.now
