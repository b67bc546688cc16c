-- How a search begins.
use Rattle.std.specs.Prelude.{◌≡◌, ◌⊎◌, ℕ, true, List, [], ◌∷◌, ◌++◌, slice_get}
use Rattle.std.specs.List.{AllByRecursion}
use Rattle.mp_term.specs.Signature.{Sig}
use Rattle.mp_pattern.specs.PatternTree.{Pattern, app_pattern, patterns}
use Rattle.mp_term.specs.Tree.{Tree}
use Rattle.mp_table.specs.declared.rank.Rank.{Rank}
use Rattle.mp_table.specs.Table.{Table}
use Rattle.mp_ac.specs.declared.comm_plan.CommPlan.{CommPlan}
use Rattle.mp_ac.specs.declared.comm_plans.CommPlans.{CommPlans}
use Rattle.mp_ac.specs.Candidates.{AreChoices}
use Rattle.mp_ac.specs.CommPlan.{IsCommPlanOf}
use Rattle.mp_ac.specs.CommPlans.{AreLeads}
use Rattle.mp_ac.specs.TakesOne.{takes_one}

-- the pattern's leading children take one term each and stand by these numbers, and the plan is that of the others
pub record AreParts (sig : Sig) (x : CommPlans) (p : Pattern) (ns : List ℕ) (c : CommPlan) : Type 0 where
  pub op : ℕ
  pub leading : List Pattern
  pub others : List Pattern
  pub is : p ≡ app_pattern op (patterns (leading ++ others))
  pub each : AllByRecursion (λ q. takes_one sig q ≡ true) leading
  pub leads : AreLeads x ns leading
  pub plan : IsCommPlanOf sig (app_pattern op (patterns others)) c

-- one of these leading children has no choice among the terms
abbrev pub IsBlocked : Table → List Tree → List Pattern → Type 0
IsBlocked t us [] = ⊥
IsBlocked t us (p ∷ ps) =
    (rs : List Rank) × AreChoices t p (slice_get ps 0) us rs × ((rs ≡ []) ⊎ IsBlocked t us ps)

-- one of the pattern's leading children has no choice among the terms
pub record AreNone (sig : Sig) (t : Table) (p : Pattern) (us : List Tree) : Type 0 where
  pub op : ℕ
  pub leading : List Pattern
  pub others : List Pattern
  pub is : p ≡ app_pattern op (patterns (leading ++ others))
  pub each : AllByRecursion (λ q. takes_one sig q ≡ true) leading
  pub blocked : IsBlocked t us leading
