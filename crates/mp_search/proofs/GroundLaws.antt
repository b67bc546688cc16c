-- What is known of a node before any search.
use Rattle.std.proofs.Common.{◌≡◌, true, false, ℕ, zero, suc, List, [], ◌∷◌, refl, ap, subst}
use Rattle.std.specs.Prelude.{Option, Some, None, slice_get, IsSome}
use Rattle.std.proofs.lemmas.Option.{slice_get_within, get_or_from_slice_get}
use Rattle.mp_term.specs.Tree.{Tree, symbol}
use Rattle.mp_pattern.specs.PatternTree.{Pattern}
use Rattle.mp_table.specs.Table.{Table, term_at, HasRank}
use Rattle.mp_table.proofs.RankLaws.{slice_get-rank_of}
use Rattle.mp_table.specs.declared.rank.Rank.{Rank}
use Rattle.mp_search.specs.declared.grounds.Ground.{Ground}
use Rattle.mp_search.specs.declared.grounds.Ground.TheVariants.{Open, Absent, At}
use Rattle.mp_search.specs.Grounds.{ground_of, IsGround, AreGrounds}
use Rattle.mp_search.specs.Query.{HoldsGround}

-- what is known of the node at a place
pub ground-at : (t : Table) (ps : List Pattern) (gs : List Ground) (i : ℕ) (p : Pattern) → AreGrounds t ps gs
    → slice_get ps i ≡ Some p → (g : Ground) × (slice_get gs i ≡ Some g) × IsGround t (ground_of p) g
ground-at t [] gs i p h e = cc
ground-at t (q ∷ ps) [] i p h e = absurd h
ground-at t (q ∷ ps) (g ∷ gs) zero p h e =
    let k : q ≡ p = cc in (g, refl, subst (λ r. IsGround t (ground_of r) g) k h.0)
ground-at t (q ∷ ps) (g ∷ gs) (suc i) p h e = ground-at t ps gs i p h.1 e

-- a rank that is known has the term
pub ground-term : (t : Table) (o : Option Tree) (r : Rank) → IsGround t o (At r) → Some (term_at t r) ≡ o
ground-term t None r h = absurd h
ground-term t (Some u) r h =
    ap Some (get_or_from_slice_get t.terms r.0 u (symbol []) (slice_get-rank_of t u r.0 h))

pub ground-within : (t : Table) (o : Option Tree) (r : Rank) → IsGround t o (At r) → HasRank t r
ground-within t None r h = absurd h
ground-within t (Some u) r h = slice_get_within t.terms r.0 u (slice_get-rank_of t u r.0 h)

-- where there is none, the table holds each that there is
pub ground-none : (t : Table) (o : Option Tree) (g : Ground) → HoldsGround t o → IsGround t o g
    → ((r : Rank) → g ≡ At r → ⊥) → None ≡ o
ground-none t None g k h n = refl
ground-none t (Some u) Open k h n = absurd h
ground-none t (Some u) Absent k h n = let e : false ≡ true = subst IsSome h k in cc
ground-none t (Some u) (At r) k h n = absurd (n r refl)
