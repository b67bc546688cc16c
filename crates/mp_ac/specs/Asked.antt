-- What a search below a node counts on, and what it looks for.
use Rattle.std.specs.Prelude.{◌≡◌, ◌<◌, ◌≤◌, ◌+◌, ◌*◌, ℕ, Bool, List, [], take, length, slice_get, Some}
use Rattle.std.specs.List.{AllByRecursion}
use Rattle.mp_term.specs.Normal.{IsNormal}
use Rattle.mp_term.specs.Signature.{Sig}
use Rattle.mp_term.specs.Size.{all_nodes}
use Rattle.mp_term.specs.Tree.{Tree}
use Rattle.mp_pattern.specs.Fits as fits
use Rattle.mp_pattern.specs.Fits.{arranged}
use Rattle.mp_pattern.specs.PatternTree.{Pattern, symbol_pattern, app_pattern, wild_pattern}
use Rattle.mp_pattern.specs.Plan.{IsPlanOf}
use Rattle.mp_pattern.specs.Subpatterns.{subpatterns}
use Rattle.mp_pattern.specs.Value.{Subst}
use Rattle.mp_table.specs.Table.{Table, IsTable, HasRanks, terms_at}
use Rattle.mp_table.specs.declared.rank.Rank.{Rank}
use Rattle.mp_subst.specs.Trail.{Trail, GoesWith}
use Rattle.mp_theory.specs.OneList.{Item}
use Rattle.mp_search.specs.declared.level.Level.{Level}
use Rattle.mp_search.specs.Grounds.{ground_of}
use Rattle.mp_search.specs.Query.{HoldsGround}
use Rattle.mp_search.specs.Reading.{name_among, subst_from, table_of}
use Rattle.mp_ac.specs.declared.asked.Asked.{Asked}
use Rattle.mp_ac.specs.CommList.{comm_list}
use Rattle.mp_ac.specs.CommPlan.{IsApplication, nodes_below, root_op}

-- the plan is that of its pattern, an application, and the table is one of normal terms, the pattern's symbols and
-- defaults among them; each variable has a number of its own in the trail
pub record IsAsked (a : Asked) : Type 0 where
  pub application : IsApplication a.plan.now.pattern
  pub plan : IsPlanOf a.sig.now a.plan.now.pattern a.plan.now
  pub table : IsTable a.table.now
  pub normal : AllByRecursion (IsNormal a.sig.now) a.table.now.terms
  pub holds : AllByRecursion (λ p. HoldsGround a.table.now (ground_of p)) (subpatterns a.plan.now.pattern)
  pub vars : length a.vars.now ≡ length a.plan.now.variables
  pub distinct : (i j v : ℕ) → slice_get a.vars.now i ≡ Some v → slice_get a.vars.now j ≡ Some v → i ≡ j

-- the terms may be the arguments of an application of the operation, in order
pub record AreGiven (sig : Sig) (p : Pattern) (t : Table) (rs : List Rank) : Type 0 where
  pub ranks : HasRanks t rs
  pub arranged : arranged sig (root_op p) (terms_at t rs) ≡ terms_at t rs

-- how much of the trail's room a search takes at most: the nodes of the terms, and three for each node below
abbrev pub cost : Pattern → List Tree → ℕ
cost p ts = all_nodes ts + 3 * nodes_below p

-- the trail goes with the table, has the variables, and has room for the search
pub record IsTrailFor (ns : List ℕ) (p : Pattern) (t : Table) (rs : List Rank) (u : Trail) : Type 0 where
  pub goes : GoesWith t u
  pub vars : AllByRecursion (λ v. v < u.vars) ns
  pub spare : cost p (terms_at t rs) ≤ u.spare

-- the items of a commutative pattern's root over the substitution
abbrev pub root_list : Sig → Pattern → List Tree → Bool → Subst → List Item
root_list sig (app_pattern g ps) ts owes s = comm_list sig g ps ts owes s
root_list sig (symbol_pattern n) ts owes s = []
root_list sig (wild_pattern w x) ts owes s = []

-- those of what is asked
abbrev pub all_items : Asked → List Rank → Subst → List Item
all_items a rs s = root_list a.sig.now a.plan.now.pattern (terms_at a.table.now rs) a.owes s

-- the substitution of the trail, by the plan's own variables
abbrev pub trail_subst : Asked → Trail → Subst
trail_subst a u = subst_from a.table.now (name_among a.vars.now a.plan.now.variables) [] u.stack

-- the table that the levels have, one for each node below
abbrev pub levels_table : Asked → List Level → fits.Table
levels_table a ls = table_of a.table.now (take (nodes_below a.plan.now.pattern) ls)
