-- Values by ranks in a table.
use Rattle.std.specs.Prelude.{◌≡◌, ℕ, true, List, [], ◌∷◌, Option, Some, None}
use Rattle.mp_term.specs.Tree.{Tree, app, trees}
use Rattle.mp_term.specs.declared.term.OpId.{OpId}
use Rattle.mp_pattern.specs.CondTree.{Operand}
use Rattle.mp_pattern.specs.Value.{Value, one, seq, bag, Subst}
use Rattle.mp_table.specs.Table.{Table, term_at, terms_at, HasRanks, rank_of, IsTable}
use Rattle.mp_table.specs.declared.rank.Rank.{Rank}
use Rattle.mp_subst.specs.Bound.{Bound}
use Rattle.mp_subst.specs.Trail.{Trail, last_value, GoesWith, subst_in}
use Rattle.mp_cond.specs.declared.ranked.Ranked.{Ranked}
use Rattle.mp_cond.specs.declared.ranked.Ranked.TheVariants.{One, Wrap, Seq, Bag}
use Rattle.mp_cond.specs.declared.ranks.Ranks.{Ranks}
use Rattle.mp_cond.specs.Verdict.{is_settled, IsHeld}

-- the application of an operation to the terms of ranks
abbrev pub app_at : Table → OpId → List Rank → Tree
app_at t op rs = app op.0 (trees (terms_at t rs))

-- the value
abbrev pub value_at : Table → Ranked → Value
value_at t (One r) = one (term_at t r)
value_at t (Wrap op rs) = one (app_at t op rs.now)
value_at t (Seq rs) = seq (terms_at t rs.now)
value_at t (Bag rs) = bag (terms_at t rs.now)

-- the operation that is applied to the terms of the ranks, if there is one
abbrev pub wrap_of : Ranked → Option OpId
wrap_of (Wrap op rs) = Some op
wrap_of _ = None

-- the ranks
abbrev pub ranks_of : Ranked → List Rank
ranks_of (One r) = r ∷ []
ranks_of (Wrap op rs) = rs.now
ranks_of (Seq rs) = rs.now
ranks_of (Bag rs) = rs.now

-- the table doesn't hold the application, if there is one
abbrev pub IsMissing : Table → Option OpId → List Rank → Type 0
IsMissing t None rs = Unit {0}
IsMissing t (Some op) rs = rank_of t (app_at t op rs) ≡ None

-- the table has the ranks, and doesn't hold the application, if there is one
pub record IsIn (t : Table) (a : Ranked) : Type 0 where
  pub ranks : HasRanks t (ranks_of a)
  pub wrap : IsMissing t (wrap_of a) (ranks_of a)

-- the value of the variable of that number
abbrev pub bound_at : Trail → Option ℕ → Option Bound
bound_at trail None = None
bound_at trail (Some n) = last_value trail.stack n

-- the variables that the trail has bound, with their values
abbrev pub subst_of : Ranks → Subst
subst_of v = subst_in v.table.now v.plan.now.variables v.trail.now

-- the trail goes with the table, in which the operand's value has ranks
pub record IsOperandIn (v : Ranks) (a : Operand) : Type 0 where
  pub table : IsTable v.table.now
  pub trail : GoesWith v.table.now v.trail.now
  pub held : IsHeld v.table.now a
  pub settled : is_settled v.plan.now v.trail.now a ≡ true
