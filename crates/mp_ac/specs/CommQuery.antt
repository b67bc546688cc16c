-- What a search below a commutative node may count on.
use Rattle.std.specs.Prelude.{◌≡◌, ◌≤◌, ℕ, List, length, map, Some, None, slice_get}
use Rattle.std.specs.List.{AllByRecursion}
use Rattle.mp_term.specs.Normal.{IsNormal}
use Rattle.mp_term.specs.Size.{all_nodes}
use Rattle.mp_term.specs.Tree.{Tree}
use Rattle.mp_pattern.specs.PatternTree.{Patterns, app_pattern, patterns}
use Rattle.mp_pattern.specs.View.{pattern_tree}
use Rattle.mp_pattern.specs.Fits.{arranged}
use Rattle.mp_pattern.specs.Plan.{IsPlanOf}
use Rattle.mp_pattern.specs.Subpatterns.{subpatterns}
use Rattle.mp_table.specs.Table.{IsTable, HasRanks, terms_at}
use Rattle.mp_search.specs.declared.query.Query.{Query}
use Rattle.mp_search.specs.Frames.{above}
use Rattle.mp_search.specs.Grounds.{ground_of, AreGrounds}
use Rattle.mp_search.specs.Query.{HoldsGround}

-- the terms that are to be taken
abbrev pub args_of : Query → List Tree
args_of q = terms_at q.table.now q.start.left.now

-- the search starts at the children of g, in the plan of that pattern, and asks for no condition; what it is to take
-- stands in order, and there is room for it; the table is one of normal terms, the pattern's symbols and defaults among
-- them; and each variable has a number of its own in the trail
pub record IsCommQuery (q : Query) (g : ℕ) (ps : Patterns) : Type 0 where
  pub plan : IsPlanOf q.sig.now (app_pattern g ps) q.plan.now
  pub first : q.first ≡ 1
  pub vars : length q.vars.now ≡ length q.plan.now.variables
  pub distinct : (i j v : ℕ) → slice_get q.vars.now i ≡ Some v → slice_get q.vars.now j ≡ Some v → i ≡ j
  pub table : IsTable q.table.now
  pub normal : AllByRecursion (IsNormal q.sig.now) q.table.now.terms
  pub holds : AllByRecursion (λ p. HoldsGround q.table.now (ground_of p)) (subpatterns (app_pattern g ps))
  pub grounds : AreGrounds q.table.now (subpatterns (app_pattern g ps)) q.grounds.now
  pub condition : q.condition ≡ None
  pub wide : all_nodes (args_of q) ≤ q.width
  pub under : above q.start.under ≡ Some g
  pub children : patterns (map pattern_tree q.start.children.now) ≡ ps
  pub left : HasRanks q.table.now q.start.left.now
  pub ordered : arranged q.sig.now (Some g) (args_of q) ≡ args_of q
