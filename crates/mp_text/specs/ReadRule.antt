-- Rules that are read without a tree of their pattern.
use Rattle.std.specs.Prelude.{◌≡◌, List, []}
use Rattle.mp_parser.specs.Tokens.{Placed}
use Rattle.mp_parser.specs.Syntax.{Spot, Tree, Statement}
use Rattle.mp_parser.specs.Machine.{Top, AfterExpr, InStatement, OfRule, heading, run}
use Rattle.mp_build.specs.Scope.{Variable}
use Rattle.mp_build.specs.Wildcards.{PatternWildcard}

-- a rule's keyword, its name, a colon and its pattern are passed
abbrev pub IsRuleStartRead : Spot → Tree → List Placed → List Placed → Type 0
IsRuleStartRead name e old new = (done : List Statement)
    → run done Top old ≡ run done (AfterExpr (InStatement (heading OfRule name)) [] e) new

-- the variable of a wildcard
abbrev pub wildcard_variable : PatternWildcard → Variable
wildcard_variable w = record { name = w.wildcard.name; extent = w.extent }
