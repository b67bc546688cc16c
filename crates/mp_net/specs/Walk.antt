-- The walk of the subject of a table, and what a rule's variables take of what it reads.
use Rattle.std.specs.Prelude.{◌≡◌, ◌≤◌, ℕ, true, List, [], ◌∷◌, map, drop, length, Option, Some}
use Rattle.std.specs.Prelude.{slice_get, option_map, option_and_then}
use Rattle.std.specs.List.{AllByRecursion}
use Rattle.mp_term.specs.Signature.{Sig}
use Rattle.mp_term.specs.Tree.{Tree, symbol, app, Trees, no_trees, more_trees}
use Rattle.mp_pattern.specs.PatternTree.{Pattern, symbol_pattern, app_pattern, wild_pattern, Patterns, no_patterns}
use Rattle.mp_pattern.specs.PatternTree.{more_patterns}
use Rattle.mp_pattern.specs.Value.{one, Subst}
use Rattle.mp_pattern.specs.Admission.{Rule}
use Rattle.mp_pattern.specs.Lists.{Pair}
use Rattle.mp_table.specs.Table.{Table, term_at, HasRank}
use Rattle.mp_table.specs.Reading.{IsHeadOf}
use Rattle.mp_net.specs.Net as net
use Rattle.mp_theory.specs.Shape.{shape}
use Rattle.mp_net.specs.AllList.{tested}
use Rattle.mp_net.specs.declared.visit.Seen.{Seen}
use Rattle.mp_net.specs.declared.taken.Taken.{Taken}

-- a node that was read, with its term
abbrev pub visit_of : Table → Seen → net.Visit
visit_of t s = record { tree = term_at t s.rank; inside = s.inside }

-- the nodes that were read
abbrev pub visits : Table → List Seen → List net.Visit
visits t ss = map (visit_of t) ss

-- the table has the rank, and the head is that of its term
abbrev pub IsSeen : Table → Seen → Type 0
IsSeen t s = HasRank t s.rank × IsHeadOf s.head (term_at t s.rank)

-- the table has the ranks of what variables take
abbrev pub AreHeld : Table → List Taken → Type 0
AreHeld t xs = AllByRecursion (λ x. HasRank t x.rank) xs

-- what variables take, as a substitution
abbrev pub taken_subst : Table → List Taken → Subst
taken_subst t xs = map (λ x. record { name = x.name.now; value = one (term_at t x.rank) }) xs

abbrev mutual
  -- what was read begins with the nodes of the pattern on the tree, and is that behind them
  pub IsRead : Pattern → Tree → List net.Visit → List net.Visit → Type 0
  IsRead p t [] rest = ⊥
  IsRead (symbol_pattern n) t (v ∷ vs) rest = rest ≡ vs
  IsRead (wild_pattern w x) t (v ∷ vs) rest = (v.tree ≡ t) × ((v.inside ≤ length vs) × (rest ≡ drop v.inside vs))
  IsRead (app_pattern f ps) (symbol n) (v ∷ vs) rest = ⊥
  IsRead (app_pattern f ps) (app g ts) (v ∷ vs) rest = AreRead ps ts vs rest

  -- so it is with patterns on trees, one after the other
  pub AreRead : Patterns → Trees → List net.Visit → List net.Visit → Type 0
  AreRead no_patterns no_trees vs rest = rest ≡ vs
  AreRead no_patterns (more_trees t ts) vs rest = ⊥
  AreRead (more_patterns p ps) no_trees vs rest = ⊥
  AreRead (more_patterns p ps) (more_trees t ts) vs rest =
      (ws : List net.Visit) × IsRead p t vs ws × AreRead ps ts ws rest

-- the pair of the rule of that number, which has the shape, where it admits one
abbrev pub tested_pair : Sig → Tree → List Rule → ℕ → Option Pair
tested_pair sig t rules k = option_and_then (λ r. option_map (λ s. (k, s)) (tested sig t r)) (slice_get rules k)

-- the rule of that number has the shape, and what was read is its pattern on the tree
abbrev pub IsFound : List Rule → Tree → List net.Visit → ℕ → Type 0
IsFound rules t vs k = (r : Rule) × (slice_get rules k ≡ Some r) × (shape r.pattern t ≡ true) × IsRead r.pattern t vs []
