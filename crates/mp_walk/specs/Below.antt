-- What a walk does below a commutative application, in whose operation around it the term of a rank stands first.
use Rattle.std.specs.Prelude.{◌≡◌, ◌≤◌, ◌<◌, ◌+◌, ◌-◌, ◌*◌, ⊤, ℕ, Bool, true, List, [], ◌∷◌, ◌++◌, drop, length, map}
use Rattle.std.specs.Prelude.{slice_get, nat_eq}
use Rattle.std.specs.Prelude.{Box, Option, Some, None, MatchBool, IsSome}
use Rattle.std.specs.Global.{Global}
use Rattle.std.specs.List.{AllByRecursion}
use Rattle.mp_term.specs.Normal.{IsNormal}
use Rattle.mp_term.specs.NormalTest.{has_head}
use Rattle.mp_term.specs.Size.{node_count}
use Rattle.mp_term.specs.Tree.{Tree}
use Rattle.mp_pattern.specs.Constants.{pattern_constants}
use Rattle.mp_pattern.specs.Fits as fits
use Rattle.mp_pattern.specs.Fits.{no_sequence}
use Rattle.mp_pattern.specs.NetTokens.{comm_token}
use Rattle.mp_pattern.specs.PatternTree.{Pattern, Patterns, app_pattern}
use Rattle.mp_pattern.specs.Value.{Subst}
use Rattle.mp_pattern.specs.View.{pattern_tree}
use Rattle.mp_table.specs.Table.{Table, HasRank, term_at, rank_of}
use Rattle.mp_subst.specs.Trail.{Trail, cut}
use Rattle.mp_theory.specs.OneList.{Item}
use Rattle.mp_ac.specs.declared.search.CommSearch.{CommSearch}
use Rattle.mp_ac.specs.Asked.{root_list}
use Rattle.mp_ac.specs.Candidates.{given_terms}
use Rattle.mp_ac.specs.CommItems.{SameValues}
use Rattle.mp_ac.specs.CommPlan.{IsNumberedPattern, nodes_below}
use Rattle.mp_ac.specs.CommPlans.{IsPrepared}
use Rattle.mp_ac.specs.Search as search
use Rattle.mp_ac.specs.Search.{IsOver, ahead, item_table, mark_of, table_of}
use Rattle.mp_ac.specs.Seek.{IsCommutative}
use Rattle.mp_walk.specs.declared.comm.Below.{Below}
use Rattle.mp_walk.specs.TokenMachine.{Open}
use Rattle.mp_ac.specs.Numbered.{IsTrailOf, numbered_subst}
use Rattle.mp_walk.specs.Ways.{Step, first_entry, item_step, ways_from}

-- the pattern
abbrev pub pattern_of : Below → Pattern
pattern_of b = pattern_tree b.pattern.now

-- the term that stands first
abbrev pub term_of : Below → Tree
term_of b = term_at b.table.now b.rank

-- the search that is kept in a box
abbrev pub unboxed : Option (Box CommSearch Global) → Option CommSearch
unboxed None = None
unboxed (Some b) = Some b.value

-- the table below the item at which a search stands, and the items that come after it
abbrev pub below_table : Option CommSearch → fits.Table
below_table None = []
below_table (Some c) = item_table c

abbrev pub below_ahead : Option CommSearch → Subst → List Item
below_ahead None s = []
below_ahead (Some c) s = ahead c s

-- the pattern is prepared, an application of that operation, which is commutative, and its variables are named by
-- numbers; the terms of the table are normal, and it holds the pattern's symbols and defaults, and the rank
pub record IsBelow (b : Below) : Type 0 where
  pub numbered : IsNumberedPattern (pattern_of b)
  pub commutative : IsCommutative b.sig.now (pattern_of b)
  pub prepared : IsPrepared b.sig.now b.plans.now (pattern_of b) b.prepared
  pub children : Patterns
  pub application : pattern_of b ≡ app_pattern b.op.0 children
  pub collapses : b.collapses ≡ no_sequence children
  pub normal : AllByRecursion (IsNormal b.sig.now) b.table.now.terms
  pub held : AllByRecursion (λ u. IsSome (rank_of b.table.now u)) (pattern_constants (pattern_of b))
  pub rank : HasRank b.table.now b.rank

-- how much of the trail's room a search takes at most
abbrev pub cost_of : Below → ℕ
cost_of b = node_count (term_of b) + 3 * nodes_below (pattern_of b)

-- a search goes by the trail, which is that of its begin
pub record IsSearchOf (b : Below) (u : Trail) (c : CommSearch) : Type 0 where
  pub over : IsOver c u
  pub mark : mark_of c ≡ length u.stack
  pub table : table_of c ≡ b.table.now
  pub cost : search.cost_of c ≤ cost_of b

abbrev pub IsSearch : Below → Trail → Option CommSearch → Type 0
IsSearch b u None = ⊤
IsSearch b u (Some c) = IsSearchOf b u c

-- what the children take together by a way: the arguments of the term, or the term alone
abbrev pub taken_by : Tree → ℕ → List Tree
taken_by t way = given_terms t (nat_eq way 1)

-- a way is one of two, and the first one only where the term is an application of the operation
pub record IsWayOf (b : Below) (way : ℕ) : Type 0 where
  pub few : way < 2
  pub headed : way ≡ 0 → has_head b.op.0 (term_of b) ≡ true

-- the way of the search at hand is that before the next one
abbrev pub IsAtWay : ℕ → Option CommSearch → Type 0
IsAtWay next None = ⊤
IsAtWay next (Some c) = (1 ≤ next) × (next ≤ 2)

-- the items of a way
abbrev pub items_by_way : Below → ℕ → Subst → List Item
items_by_way b way s = root_list b.sig.now (pattern_of b) (taken_by (term_of b) way) (nat_eq way 1) s

-- the steps of the token that are still to come in an open operation
abbrev pub left_steps : Below → Open → List Open → ℕ → Option CommSearch → Subst → List Step
left_steps b f gs next o s =
    map (item_step f gs (pattern_of b) (first_entry f.left (next - 1))) (below_ahead o s)
    ++ ways_from b.sig.now f gs s (comm_token (pattern_of b)) next

-- the trail is that of the mark with more on it
pub record IsAbove (b : Below) (n : ℕ) (u v : Trail) : Type 0 where
  pub long : n ≤ length v.stack
  pub cut : cut n v ≡ u
  pub trail : IsTrailOf b.table.now v

-- the first of the items that are to come is found, and taken off, and the trail has its values; or there is none
abbrev pub IsNextItem : Bool → Option CommSearch → Option CommSearch → Trail → Trail → Table → Type 0
IsNextItem found old new u v t =
    let s = numbered_subst t u.stack in
    MatchBool found
    (((r : Subst) × (slice_get (below_ahead old s) 0 ≡ Some (below_table new, r))
    × SameValues r (numbered_subst t v.stack))
    × (below_ahead new s ≡ drop 1 (below_ahead old s)))
    (below_ahead old s ≡ [])

-- the step of the item at hand
abbrev pub step_at : Below → Open → List Open → ℕ → Option CommSearch → Subst → Step
step_at b f gs next o r = item_step f gs (pattern_of b) (first_entry f.left (next - 1)) (below_table o, r)

-- a step is taken, the first of those that were left, and the trail has its values; or none is left
abbrev pub IsStepBelow : Below → Bool → (ℕ × Option CommSearch) → (ℕ × Option CommSearch) → Trail → Trail → Type 0
IsStepBelow b found old new u v =
    (f : Open) (gs : List Open) → f.left ≡ term_of b ∷ drop 1 f.left →
    let s = numbered_subst b.table.now u.stack in
    MatchBool found
    ((r : Subst) × (left_steps b f gs old.0 old.1 s ≡ step_at b f gs new.0 new.1 r ∷ left_steps b f gs new.0 new.1 s)
    × SameValues r (numbered_subst b.table.now v.stack))
    (left_steps b f gs old.0 old.1 s ≡ [])
