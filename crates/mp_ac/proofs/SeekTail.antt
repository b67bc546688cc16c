-- The search where no child is left that takes one term is that for the children of the plan.
use Rattle.std.proofs.Common.{◌≡◌, ◌<◌, ◌≤◌, ◌+◌, ℕ, List, [], length, Bool, refl, ap, sym, subst}
use Rattle.std.specs.Prelude.{MatchBool, Some, drop, slice_get}
use Rattle.std.specs.List.{AllByRecursion}
use Rattle.mp_pattern.specs.Fits.{Table}
use Rattle.mp_pattern.specs.PatternTree.{Pattern, symbol_pattern, app_pattern, wild_pattern}
use Rattle.mp_pattern.specs.PatternLists.{patterns-pattern_list}
use Rattle.mp_pattern.specs.Value.{Subst}
use Rattle.mp_pattern.specs.declared.limits.TheConstants.{MAX_VARIABLES}
use Rattle.mp_table.specs.Table.{terms_at}
use Rattle.mp_table.specs.declared.rank.Rank.{Rank}
use Rattle.mp_subst.specs.Trail.{Trail, cut}
use Rattle.mp_search.specs.declared.mode.Mode.{Mode}
use Rattle.mp_search.specs.At.{BindsOnly}
use Rattle.mp_search.specs.Wanted.{IsStanding}
use Rattle.mp_ac.specs.declared.seek.Sought.{Sought}
use Rattle.mp_ac.specs.Asked.{IsTrailFor, all_items, cost, root_list, trail_subst}
use Rattle.mp_ac.specs.CommList.{behind_table}
use Rattle.mp_ac.specs.Numbered.{IsTrailOf, numbered_subst}
use Rattle.mp_ac.specs.Seek.{IsFoundOf, IsSought, items_sought, seek_cost, with_children}
use Rattle.mp_ac.specs.Stage.{looked_for}
use Rattle.mp_ac.proofs.StepLaws.{step-finds, step-standing}

pub with_children-none : (p : Pattern) → with_children [] p ≡ p
with_children-none (app_pattern g ps) = ap (λ qs. app_pattern g qs) (patterns-pattern_list ps)
with_children-none (symbol_pattern n) = refl
with_children-none (wild_pattern w x) = refl

below-all : (vs : List ℕ) (m n : ℕ) → m ≡ n → AllByRecursion (λ v. v < n) vs → AllByRecursion (λ v. v < m) vs
below-all vs m n e h = subst (λ k. AllByRecursion (λ v. v < k) vs) (sym e) h

module _ (x : Sought) (h : IsSought x) (rs : List Rank) (u : Trail) where
  items-none : (s : Subst) → items_sought x.asked [] rs s ≡ all_items x.asked rs s
  items-none s = ap (λ p. root_list x.asked.sig.now p (terms_at x.asked.table.now rs) x.asked.owes s)
      (with_children-none x.asked.plan.now.pattern)

  cost-none : seek_cost x.asked [] rs ≡ cost x.asked.plan.now.pattern (terms_at x.asked.table.now rs)
  cost-none = ap (λ p. cost p (terms_at x.asked.table.now rs)) (with_children-none x.asked.plan.now.pattern)

  pub tail-trail : IsTrailOf x.asked.table.now u → seek_cost x.asked [] rs ≤ u.spare
      → IsTrailFor x.asked.vars.now x.asked.plan.now.pattern x.asked.table.now rs u
  tail-trail t s = record {
    goes = t.goes;
    vars = below-all x.asked.vars.now u.vars MAX_VARIABLES t.vars h.few;
    spare = subst (λ n. n ≤ u.spare) cost-none s;
  }

  pub tail-standing : (mode : Mode) (W : Table)
      → IsStanding mode W (items_sought x.asked [] rs (numbered_subst x.asked.table.now u.stack))
      → IsStanding mode W (all_items x.asked rs (trail_subst x.asked u))
  tail-standing mode W s = step-standing x.asked h.asked h.names h.few rs u mode W
      (subst (IsStanding mode W) (items-none (numbered_subst x.asked.table.now u.stack)) s)

  pub tail-finds : (mode : Mode) (W V : Table) (v : Trail) (found : Bool) → cut (length u.stack) v ≡ u
      → BindsOnly x.asked.vars.now u v
      → (let is = looked_for mode W (all_items x.asked rs (trail_subst x.asked u)) in
      MatchBool found ((slice_get is 0 ≡ Some (V, trail_subst x.asked v))
      × (behind_table V (all_items x.asked rs (trail_subst x.asked u)) ≡ drop 1 is)) (is ≡ []))
      → IsFoundOf mode W V (items_sought x.asked [] rs (numbered_subst x.asked.table.now u.stack))
      (numbered_subst x.asked.table.now v.stack) found
  tail-finds mode W V v found kept binds f =
      subst (λ is. IsFoundOf mode W V is (numbered_subst x.asked.table.now v.stack) found)
      (sym (items-none (numbered_subst x.asked.table.now u.stack)))
      (step-finds x.asked h.asked h.names h.few rs u mode W V v found kept binds f)

  pub tail-spare : (m n : ℕ) → m ≤ n + cost x.asked.plan.now.pattern (terms_at x.asked.table.now rs)
      → m ≤ n + seek_cost x.asked [] rs
  tail-spare m n e = subst (λ k. m ≤ n + k) (sym cost-none) e
