-- What a search for the items of a commutative node goes by, where its first children take one term each and the others
-- have a plan of their own.
use Rattle.std.specs.Prelude.{◌≡◌, ◌<◌, ◌≤◌, ◌-◌, ⊤, ℕ, Bool, true, List, [], ◌∷◌, ◌++◌, take, drop, length, map}
use Rattle.std.specs.Prelude.{Option, Some, slice_index_or, MatchBool, slice_get}
use Rattle.std.specs.List.{AllByRecursion}
use Rattle.mp_term.specs.Listing.{In}
use Rattle.mp_term.specs.Signature.{Sig}
use Rattle.mp_term.specs.Tree.{Tree}
use Rattle.mp_pattern.specs.Fits as fits
use Rattle.mp_pattern.specs.declared.limits.TheConstants.{MAX_VARIABLES}
use Rattle.mp_pattern.specs.NetTokens.{numbered}
use Rattle.mp_pattern.specs.Subpatterns.{subpatterns}
use Rattle.mp_pattern.specs.PatternTree.{Pattern, symbol_pattern, app_pattern, wild_pattern, pattern_list}
use Rattle.mp_pattern.specs.PatternTree.{patterns}
use Rattle.mp_pattern.specs.Value.{Subst}
use Rattle.mp_pattern.specs.Variables.{variables, comm_above}
use Rattle.mp_table.specs.Table.{Table, HasRanks, term_at, terms_at}
use Rattle.mp_table.specs.declared.rank.Rank.{Rank}
use Rattle.mp_theory.specs.OneList.{Item}
use Rattle.mp_theory.specs.Shape.{shape, table_of}
use Rattle.mp_search.specs.declared.level.Level.{Level}
use Rattle.mp_search.specs.declared.mode.Mode.{Mode}
use Rattle.mp_search.specs.Grounds.{AreGrounds}
use Rattle.mp_ac.specs.declared.asked.Asked.{Asked}
use Rattle.mp_ac.specs.declared.pick.Pick.{Pick}
use Rattle.mp_ac.specs.declared.seek.Sought.{Sought}
use Rattle.mp_ac.specs.Asked.{IsAsked, cost, levels_table, root_list}
use Rattle.mp_ac.specs.Candidates.{AreChoices}
use Rattle.mp_ac.specs.CommItems.{SameValues}
use Rattle.mp_ac.specs.CommList.{behind_table}
use Rattle.mp_ac.specs.CommPlan.{IsNumbered, root_op}
use Rattle.mp_ac.specs.Stage.{looked_for}
use Rattle.mp_ac.specs.TakesOne.{items_by, takes_one}

-- the pattern with these children in front of its own
abbrev pub with_children : List Pattern → Pattern → Pattern
with_children ps (app_pattern g zs) = app_pattern g (patterns (ps ++ pattern_list zs))
with_children ps (symbol_pattern n) = symbol_pattern n
with_children ps (wild_pattern w x) = wild_pattern w x

-- the items where these children and those of the plan take the terms together
abbrev pub items_sought : Asked → List Pattern → List Rank → Subst → List Item
items_sought a ps rs s = root_list a.sig.now (with_children ps a.plan.now.pattern) (terms_at a.table.now rs) a.owes s

-- the rank that is picked among the choices
abbrev pub picked : List Rank → Pick → Rank
picked cs k = slice_index_or cs k.at (record { 0 = 0 })

-- the table of the children that took what is picked
abbrev pub picks_table : Table → List Rank → List Pattern → List Pick → fits.Table
picks_table t cs [] ks = []
picks_table t cs (p ∷ ps) [] = []
picks_table t cs (p ∷ ps) (k ∷ ks) = table_of p (term_at t (picked cs k)) ++ picks_table t cs ps ks

-- and of all nodes
abbrev pub sought_table : Asked → List Rank → List Pattern → List Pick → List Level → fits.Table
sought_table a cs ps ks ls = picks_table a.table.now cs ps ks ++ levels_table a ls

-- the choices of the child, behind which the next one stands, are a part of the list, of which one is picked if there
-- is any; and there is room for so many ranks
pub record IsPickOf (t : Table) (us : List Tree) (w : ℕ) (cs : List Rank) (p : Pattern) (next : Option Pattern)
    (k : Pick) : Type 0 where
  pub onward : k.from ≤ k.end
  pub within : k.end ≤ length cs
  pub at : k.from < k.end → (k.from ≤ k.at) × (k.at < k.end)
  pub choices : AreChoices t p next us (take (k.end - k.from) (drop k.from cs))
  pub room : w ≤ k.rest.room

-- so it is with each of the children
abbrev pub ArePicksOf : Table → List Tree → ℕ → List Rank → List Pattern → List Pick → Type 0
ArePicksOf t us w cs [] ks = ⊤
ArePicksOf t us w cs (p ∷ ps) [] = ⊥
ArePicksOf t us w cs (p ∷ ps) (k ∷ ks) = IsPickOf t us w cs p (slice_get ps 0) k × ArePicksOf t us w cs ps ks

-- each of the children takes one of its choices
abbrev pub ArePicked : List Pattern → List Pick → Type 0
ArePicked [] ks = ⊤
ArePicked (p ∷ ps) [] = ⊥
ArePicked (p ∷ ps) (k ∷ ks) = ((k.from ≤ k.at) × (k.at < k.end)) × ArePicked ps ks

-- each of the children takes the term that is picked, which has its shape
abbrev pub AreTaken : Table → List Rank → List Pattern → List Pick → Type 0
AreTaken t cs [] ks = ⊤
AreTaken t cs (p ∷ ps) [] = ⊥
AreTaken t cs (p ∷ ps) (k ∷ ks) =
    ((k.at < length cs) × (shape p (term_at t (picked cs k)) ≡ true)) × AreTaken t cs ps ks

-- the child takes one term, and its variables are named by numbers
pub record IsLeading (sig : Sig) (p : Pattern) : Type 0 where
  pub takes_one : takes_one sig p ≡ true
  pub names : (x : List ℕ) → In x (variables p) → IsNumbered x

-- the operation is commutative
abbrev pub IsCommutative : Sig → Pattern → Type 0
IsCommutative sig p = comm_above sig (root_op p) ≡ true

-- what a search goes by: the children of the plan are those of a commutative operation, and the variables of the plan
-- are named by their numbers, which are within the limit
pub record IsSought (s : Sought) : Type 0 where
  pub asked : IsAsked s.asked
  pub commutative : IsCommutative s.asked.sig.now s.asked.plan.now.pattern
  pub names : map numbered s.asked.vars.now ≡ variables s.asked.plan.now.pattern
  pub few : AllByRecursion (λ v. v < MAX_VARIABLES) s.asked.vars.now
  pub grounds : AreGrounds s.asked.table.now (subpatterns s.asked.plan.now.pattern) s.grounds.now
  pub choices : HasRanks s.asked.table.now s.choices.now

-- of the items that are looked for, the first one is found, whose table is V, and the substitution has its values, and
-- behind it come the others; or there is none
abbrev pub IsFoundOf : Mode → fits.Table → fits.Table → List Item → Subst → Bool → Type 0
IsFoundOf mode W V is s found =
    MatchBool found
    (((r : Subst) × (slice_get (looked_for mode W is) 0 ≡ Some (V, r)) × SameValues r s)
    × (behind_table V is ≡ drop 1 (looked_for mode W is)))
    (looked_for mode W is ≡ [])

-- how much of the trail's room it takes at most: the nodes of the terms, and three for each node of the children
abbrev pub seek_cost : Asked → List Pattern → List Rank → ℕ
seek_cost a ps rs = cost (with_children ps a.plan.now.pattern) (terms_at a.table.now rs)

-- the items of a commutative pattern's root with these children in front of its own, where the first one takes the term
abbrev pub root_by : Sig → Pattern → Pattern → List Pattern → List Tree → Bool → Subst → Tree → List Item
root_by sig (app_pattern g zs) p ps ts owes s t = items_by sig g p (patterns (ps ++ pattern_list zs)) ts owes s t
root_by sig (symbol_pattern n) p ps ts owes s t = []
root_by sig (wild_pattern w x) p ps ts owes s t = []

-- those of what is asked, where it takes the term of the rank
abbrev pub items_of_pick : Asked → Pattern → List Pattern → List Rank → Subst → Rank → List Item
items_of_pick a p ps rs s r =
    root_by a.sig.now a.plan.now.pattern p ps (terms_at a.table.now rs) a.owes s (term_at a.table.now r)
