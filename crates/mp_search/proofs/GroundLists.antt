-- What is known of the nodes of a pattern, one after the other.
use Rattle.std.proofs.Common.{◌≡◌, ℕ, zero, suc, ◌<◌, ◌≤◌, ◌+◌, List, [], ◌∷◌, map, length, get_or, drop, refl}
use Rattle.std.proofs.Common.{length-append, arith}
use Rattle.std.specs.Prelude.{Option, Some, None}
use Rattle.mp_term.proofs.ListLaws.{drop-item}
use Rattle.mp_term.specs.Tree.{Tree}
use Rattle.mp_pattern.specs.PatternTree as plain
use Rattle.mp_pattern.specs.PatternTree.{patterns}
use Rattle.mp_pattern.specs.declared.pattern.Pattern.{Pattern}
use Rattle.mp_pattern.specs.Subpatterns.{subpatterns, all_subpatterns}
use Rattle.mp_pattern.specs.View.{pattern_tree}
use Rattle.mp_table.specs.Table.{Table, rank_of}
use Rattle.mp_search.specs.declared.grounds.Ground.TheVariants.{Open, Absent, At}
use Rattle.mp_search.specs.Grounds.{ground_of, IsGround, AreGrounds, ground_in}

-- how many nodes there are: in a pattern of a list, and in those from it on
abbrev nodes_of : Pattern → ℕ
nodes_of p = length (subpatterns (pattern_tree p))

abbrev nodes_in : List Pattern → ℕ
nodes_in ps = length (all_subpatterns (patterns (map pattern_tree ps)))

nodes_in-cons : (p : Pattern) (ps : List Pattern) → nodes_in (p ∷ ps) ≡ nodes_of p + nodes_in ps
nodes_in-cons p ps = length-append (subpatterns (pattern_tree p)) (all_subpatterns (patterns (map pattern_tree ps)))

pub nodes-element : (ps : List Pattern) (i : ℕ) (d : Pattern) → i < length ps → nodes_of (get_or ps i d) ≤ nodes_in ps
nodes-element [] i d h = absurd (omega arith)
nodes-element (p ∷ ps) zero d h = omega (arith, nodes_in-cons p ps)
nodes-element (p ∷ ps) (suc i) d h = omega (arith, nodes_in-cons p ps, nodes-element ps i d (omega arith))

pub nodes-from : (ps : List Pattern) (i : ℕ) (p : Pattern) → i < length ps → p ≡ get_or ps i p
    → nodes_of p ≤ nodes_in (drop i ps)
nodes-from ps i p h e = rw (drop-item ps i p h e) (omega (arith, nodes_in-cons p (drop (i + 1) ps)))

-- what is found is what is known
is_ground : (t : Table) (o : Option Tree) → IsGround t o (elim o [
  | None ↦ Open
  | Some u ↦ elim (rank_of t u) [ None ↦ Absent | Some r ↦ At (record { 0 = r }) ]
])
is_ground t None = tt
is_ground t (Some u) =
    elim (rank_of t u) as
    (λ r. rank_of t u ≡ r → IsGround t (Some u) (elim r [ None ↦ Absent | Some r ↦ At (record { 0 = r }) ]))
    [ None ↦ λ e. e | Some r ↦ λ e. e ] refl

pub are_grounds : (t : Table) (ps : List plain.Pattern) → AreGrounds t ps (map (ground_in t) ps)
are_grounds t [] = tt
are_grounds t (p ∷ ps) = (is_ground t (ground_of p), are_grounds t ps)
