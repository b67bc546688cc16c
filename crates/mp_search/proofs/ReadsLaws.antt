-- The tests of what a node may take.
use Rattle.std.proofs.Common.{◌≡◌, ℕ, Bool, true, false, List, [], ◌∷◌, map, length, nat_eq, refl, ap}
use Rattle.std.proofs.Common.{sym}
use Rattle.std.proofs.Common.{◌∙◌, arith, subst, eqb-true, eq-eqb, slice_index_or}
use Rattle.std.specs.Prelude.{Option, Some, None, IsSome, is_some}
use Rattle.std.specs.declared.cmp.Ordering.{Ordering}
use Rattle.std.specs.declared.cmp.Ordering.TheVariants.{Less, Equal, Greater}
use Rattle.std.specs.Ordering.{nat_cmp, is_eq, ordering_then}
use Rattle.std.specs.List.{AllByRecursion}
use Rattle.mp_term.specs.Tree.{Tree}
use Rattle.mp_term.specs.Order.{tree_cmp}
use Rattle.mp_term.specs.OrderLaws.{nat_same}
use Rattle.mp_term.specs.Normal.{IsNormal}
use Rattle.mp_term.specs.NormalTest.{passes}
use Rattle.mp_term.specs.Signature.{Sig}
use Rattle.mp_term.proofs.ListLaws.{bool_same, all-get}
use Rattle.mp_pattern.specs.PatternTree.{Wildcard, dot, kind, plus, star, optional, counted, wild_pattern}
use Rattle.mp_pattern.specs.Value.{same_terms}
use Rattle.mp_table.specs.Table.{Table, HasRank, HasRanks, IsTable, term_at, terms_at, rank_of}
use Rattle.mp_table.specs.declared.rank.Rank.{Rank}
use Rattle.mp_table.proofs.RankLaws.{ranks_cmp, slice_get-rank_of}
use Rattle.mp_theory.specs.Machine.{default_passes, reads}
use Rattle.mp_theory.specs.Solve.{given}
use Rattle.std.proofs.Math.Bool.{and-true}
use Rattle.mp_theory.proofs.Wildcards.{final-passes}
use Rattle.mp_search.specs.Grounds.{ground_of}
use Rattle.mp_search.specs.Query.{HoldsGround}

-- numbers are equal where they compare so
eq_cmp : (m n : ℕ) → nat_eq m n ≡ is_eq (ordering_then (nat_cmp m n) Equal)
eq_cmp m n = bool_same (nat_eq m n) (is_eq (ordering_then (nat_cmp m n) Equal))
    (λ e. let i : m ≡ n = eqb-true m n e in subst (λ k. is_eq (ordering_then (nat_cmp m k) Equal) ≡ true) i (tied m))
    (λ e. eq-eqb m n (nat_same m n (equal (nat_cmp m n) e)))
  where
    tied : (m : ℕ) → is_eq (ordering_then (nat_cmp m m) Equal) ≡ true
    tied m = grind arith

    equal : (o : Ordering) → is_eq (ordering_then o Equal) ≡ true → o ≡ Equal
    equal Less e = cc
    equal Equal e = refl
    equal Greater e = cc

module _ (t : Table) (h : IsTable t) where
  -- one term is another where their ranks are equal
  pub same_terms-ranks : (rs : List Rank) (s z : Rank) → HasRanks t rs → HasRank t s → length rs ≡ 1
      → nat_eq (slice_index_or rs 0 z).0 s.0 ≡ same_terms (terms_at t rs) (term_at t s ∷ [])
  same_terms-ranks [] s z k l e = cc
  same_terms-ranks (r ∷ []) s z k l e =
      eq_cmp r.0 s.0 ∙ sym (ap is_eq (ranks_cmp t h.ascending (r ∷ []) (s ∷ []) k (l, tt)))
  same_terms-ranks (r ∷ q ∷ rs) s z k l e = cc

-- a default that the table holds is normal
pub default_passes-held : (sig : Sig) (t : Table) (x : Option (List ℕ)) (w : Wildcard) (ts : List Tree)
    → AllByRecursion (IsNormal sig) t.terms → HoldsGround t (ground_of (wild_pattern w x))
    → default_passes sig x w ts ≡ true
default_passes-held sig t (Some x) (optional d) [] n h = held (rank_of t d) refl h
  where
    held : (o : Option ℕ) → rank_of t d ≡ o → IsSome o → passes sig d ≡ true
    held None e k = cc
    held (Some r) e k =
        final-passes sig d (all-get (IsNormal sig) t.terms r d n (slice_get-rank_of t d r e))
default_passes-held sig t (Some x) (optional d) (u ∷ us) n h = refl
default_passes-held sig t None (optional d) ts n h = refl
default_passes-held sig t (Some x) dot ts n h = refl
default_passes-held sig t (Some x) (kind k) ts n h = refl
default_passes-held sig t (Some x) plus ts n h = refl
default_passes-held sig t (Some x) star ts n h = refl
default_passes-held sig t (Some x) (counted m c) ts n h = refl
default_passes-held sig t None dot ts n h = refl
default_passes-held sig t None (kind k) ts n h = refl
default_passes-held sig t None plus ts n h = refl
default_passes-held sig t None star ts n h = refl
default_passes-held sig t None (counted m c) ts n h = refl

-- a list that isn't of one term
pub same_terms-other : {X : Type 0} (f : X → Tree) (ts : List X) (u : Tree) → (length ts ≡ 1 → ⊥)
    → false ≡ same_terms (map f ts) (u ∷ [])
same_terms-other f [] u h = refl
same_terms-other f (t ∷ []) u h = absurd (h refl)
same_terms-other f (t ∷ s ∷ ts) u h = elim (tree_cmp (f t) u) as (λ o. false ≡ is_eq (ordering_then o Greater))
    [ Less ↦ refl | Equal ↦ refl | Greater ↦ refl ]

-- a wildcard that isn't collapsed reads what it is given
pub reads-wild : (sig : Sig) (w : Wildcard) (x : Option (List ℕ)) (f : Option ℕ) (ts : List Tree) (b : Bool) → b ≡ false
    → default_passes sig x w ts ≡ true
    → is_some (given sig f w ts) ≡ reads sig (wild_pattern w x) f (record { terms = ts; collapsed = b })
reads-wild sig w x f ts b h d = rw (h, d) (sym (and-true (is_some (given sig f w ts))))
