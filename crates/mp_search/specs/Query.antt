-- What a search may count on.
use Rattle.std.specs.Prelude.{◌≡◌, ◌<◌, ◌≤◌, ◌+◌, ◌-◌, ◌*◌, ⊤, ℕ, List, map, length, drop, Option, Some, None}
use Rattle.std.specs.Prelude.{IsSome, take, slice_get}
use Rattle.std.specs.List.{AllByRecursion, range_with_len}
use Rattle.mp_term.specs.Normal.{IsNormal}
use Rattle.mp_term.specs.Tree.{Tree}
use Rattle.mp_pattern.specs.PatternTree.{patterns}
use Rattle.mp_pattern.specs.View.{pattern_tree}
use Rattle.mp_pattern.specs.Plan.{IsPlanOf}
use Rattle.mp_pattern.specs.Subpatterns.{subpatterns, all_subpatterns}
use Rattle.mp_pattern.specs.Fits.{arranged}
use Rattle.mp_pattern.specs.CondView.{cond_tree}
use Rattle.mp_pattern.specs.Operands.{IsConditionOver}
use Rattle.mp_cond.specs.Verdict.{AreHeld}
use Rattle.mp_table.specs.Table.{Table, IsTable, HasRanks, terms_at, rank_of}
use Rattle.mp_subst.specs.Trail.{Trail, GoesWith}
use Rattle.mp_theory.specs.Narrow.{load}
use Rattle.mp_search.specs.declared.query.Query.{Query}
use Rattle.mp_search.specs.declared.level.Level.{Level}
use Rattle.mp_search.specs.Levels.{AreLevels}
use Rattle.mp_search.specs.Frames.{above, place_after}
use Rattle.mp_search.specs.Grounds.{ground_of, AreGrounds}

-- the table holds the term, if there is one
abbrev pub HoldsGround : Table → Option Tree → Type 0
HoldsGround t None = ⊤
HoldsGround t (Some u) = IsSome (rank_of t u)

-- the variables of the trail are numbered as those of the plan, where there is a condition
abbrev pub ArePlain : Query → Type 0
ArePlain q = elim q.condition [ None ↦ ⊤ | Some c ↦ q.vars.now ≡ range_with_len 0 (length q.plan.now.variables) ]

-- the condition, where there is one, is over the variables of the plan, and the table holds its ground terms
abbrev pub IsAsked : Query → Type 0
IsAsked q = elim q.condition [
  | None ↦ ⊤
  | Some c ↦ IsConditionOver (map (λ x. x.name) q.plan.now.variables) (cond_tree c.now)
      × AreHeld q.table.now (cond_tree c.now)
]

-- the plan is that of its pattern, and the table is one of terms that are normal over the signature, symbols and
-- defaults of the pattern among them; the children with which the search starts are those of the plan's nodes from
-- `first` on, and what they are to take stands as their operation arranges it; each variable has a number of its own in
-- the trail, and the condition can be decided
pub record IsQuery (q : Query) : Type 0 where
  pub plan : IsPlanOf q.sig.now q.plan.now.pattern q.plan.now
  pub table : IsTable q.table.now
  pub normal : AllByRecursion (IsNormal q.sig.now) q.table.now.terms
  pub holds : AllByRecursion (λ p. HoldsGround q.table.now (ground_of p)) (subpatterns q.plan.now.pattern)
  pub grounds : AreGrounds q.table.now (subpatterns q.plan.now.pattern) q.grounds.now
  pub children : all_subpatterns (patterns (map pattern_tree q.start.children.now))
      ≡ drop q.first (subpatterns q.plan.now.pattern)
  pub left : HasRanks q.table.now q.start.left.now
  pub arranged : arranged q.sig.now (above q.start.under) (terms_at q.table.now q.start.left.now)
      ≡ terms_at q.table.now q.start.left.now
  pub vars : length q.vars.now ≡ length q.plan.now.variables
  pub distinct : (i j v : ℕ) → slice_get q.vars.now i ≡ Some v → slice_get q.vars.now j ≡ Some v → i ≡ j
  pub plain : ArePlain q
  pub asked : IsAsked q

-- for how many ranks there is room at a node
abbrev pub width : Query → ℕ
width q = q.width

-- from node k on there is room for the search: in the levels, and on the trail, which goes with the table
pub record IsReady (q : Query) (k : ℕ) (ls : List Level) (t : Trail) : Type 0 where
  pub query : IsQuery q
  pub levels : AreLevels q.table.now (width q) ls
  pub narrow : load (place_after q (take k ls)) ≤ width q
  pub trail : GoesWith q.table.now t
  pub vars : AllByRecursion (λ v. v < t.vars) q.vars.now
  pub spare : load (place_after q (take k ls)) + 3 * (length ls - k) ≤ t.spare
