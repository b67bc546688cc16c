-- Commutative patterns that are prepared together: their leading children by numbers, and the plans of the others.
use Rattle.std.specs.Prelude.{◌≡◌, ◌≤◌, ◌+◌, ℕ, true, List, [], ◌∷◌, ◌++◌, take, drop, length, slice_get}
use Rattle.std.specs.Prelude.{⊤, IsSome, Option, Some, option_and_then, option_map}
use Rattle.std.specs.List.{AllByRecursion}
use Rattle.mp_term.specs.Signature.{Sig}
use Rattle.mp_pattern.specs.PatternTree.{Pattern, app_pattern, Patterns, pattern_list, patterns}
use Rattle.mp_pattern.specs.View.{pattern_tree}
use Rattle.mp_pattern.specs.declared.pattern.Pattern as declared
use Rattle.mp_ac.specs.CommPlan.{IsCommPlanOf}
use Rattle.mp_ac.specs.TakesOne.{takes_one}
use Rattle.mp_ac.specs.declared.comm_plan.CommPlan.{CommPlan}
use Rattle.mp_ac.specs.declared.comm_plans.CommPlans.{CommPlans}
use Rattle.mp_ac.specs.declared.comm_plans.Lead.{Lead}
use Rattle.mp_ac.specs.declared.comm_plans.Prepared.{Prepared}

-- the child of the number
abbrev pub child_at : CommPlans → ℕ → Option Pattern
child_at x n = option_map pattern_tree (slice_get x.children.items n)

-- the leading child of the number is this one, and the other one stands behind it, if there is one
pub record IsLead (x : CommPlans) (n : ℕ) (p : Pattern) (q : Option Pattern) : Type 0 where
  pub lead : Lead
  pub held : slice_get x.leads.items n ≡ Some lead
  pub child : child_at x lead.child ≡ Some p
  pub next : q ≡ option_and_then (child_at x) lead.next
  pub next_held : (m : ℕ) → lead.next ≡ Some m → IsSome (child_at x m)

-- the numbers are those of the leading children
abbrev pub AreLeads : CommPlans → List ℕ → List Pattern → Type 0
AreLeads x [] [] = ⊤
AreLeads x (n ∷ ns) (p ∷ ps) = IsLead x n p (slice_get ps 0) × AreLeads x ns ps
AreLeads x _ _ = ⊥

-- each plan is that of its own pattern over the signature
abbrev pub AreTails : Sig → List CommPlan → Type 0
AreTails sig = AllByRecursion (λ c. IsCommPlanOf sig c.plan.pattern c)

-- the plans that are kept are plans over the signature
abbrev pub ArePlans : Sig → CommPlans → Type 0
ArePlans sig x = AreTails sig x.tails.items

-- the pattern is prepared: its leading children take one term each and stand by their numbers, and the others have
-- a plan
pub record IsPrepared (sig : Sig) (x : CommPlans) (p : Pattern) (r : Prepared) : Type 0 where
  pub op : ℕ
  pub children : Patterns
  pub is : p ≡ app_pattern op children
  pub few : r.count ≤ length (pattern_list children)
  pub each : AllByRecursion (λ q. takes_one sig q ≡ true) (take r.count (pattern_list children))
  pub leads : AreLeads x (take r.count (drop r.from x.numbers.items)) (take r.count (pattern_list children))
  pub within : r.from + r.count ≤ length x.numbers.items
  pub plan : CommPlan
  pub held : slice_get x.tails.items r.tail ≡ Some plan
  pub tail : IsCommPlanOf sig (app_pattern op (patterns (drop r.count (pattern_list children)))) plan

-- y holds what x holds, and behind its numbers those of the leading children
pub record AreAdded (x y : CommPlans) (ps : List Pattern) : Type 0 where
  pub children : (cs : List declared.Pattern) × (y.children.items ≡ x.children.items ++ cs)
  pub leads : (ls : List Lead) × (y.leads.items ≡ x.leads.items ++ ls)
  pub numbers : (ns : List ℕ) × (y.numbers.items ≡ x.numbers.items ++ ns) × AreLeads y ns ps
  pub tails : y.tails ≡ x.tails
  pub list : y.list ≡ x.list

-- the last plan is that of the pattern
pub record IsLast (sig : Sig) (cs : List CommPlan) (p : Pattern) : Type 0 where
  pub front : List CommPlan
  pub plan : CommPlan
  pub is : cs ≡ front ++ plan ∷ []
  pub of : IsCommPlanOf sig p plan

-- so many of the children take one term each, and the last plan is that of the operation over the others
pub record IsLed (sig : Sig) (cs : List CommPlan) (op : ℕ) (ps : List Pattern) (n : ℕ) : Type 0 where
  pub few : n ≤ length ps
  pub each : AllByRecursion (λ q. takes_one sig q ≡ true) (take n ps)
  pub last : IsLast sig cs (app_pattern op (patterns (drop n ps)))
