-- Pairs that ascend as they are found.
use Rattle.std.proofs.Common.{◌≡◌, ℕ, zero, suc, List, [], ◌∷◌, ◌++◌, length, get_or}
use Rattle.std.proofs.Common.{arith, sym, ap, ◌∙◌, Bool, subst}
use Rattle.std.specs.Prelude.{◌↔◌, Contains, IsTrue}
use Rattle.std.specs.List.Sorted.{IsStrictlySortedBy}
use Rattle.std.specs.declared.cmp.Ordering.TheVariants.{Less}
use Rattle.std.proofs.lemmas.List.{get_or-map, length-map, map_push}
use Rattle.mp_term.proofs.ListLaws.{all-append, all-index}
use Rattle.mp_pattern.specs.Lists.{Pair}
use Rattle.mp_table.specs.Table.{Table}
use Rattle.mp_walk.specs.Found.{found_cmp}
use Rattle.mp_walk.specs.FoundOrder.{found_cmp_total}
use Rattle.mp_walk.specs.Ranked.{Ranked, ranked_cmp, pairs_of, AreOver}
use Rattle.mp_walk.proofs.FoundLaws.{contains-pushed}

-- a pair behind the last one that is greater keeps them ascending
pub ascends-push : (ps : List Pair) (n : ℕ) (d q : Pair) → length ps ≡ suc n → found_cmp (get_or ps n d) q ≡ Less
    → IsStrictlySortedBy found_cmp ps → IsStrictlySortedBy found_cmp (ps ++ q ∷ [])
unfolding IsStrictlySortedBy
ascends-push [] n d q e l h = absurd (omega (arith, e))
ascends-push (p ∷ []) zero d q e l h = ((l, tt), (tt, tt))
ascends-push (p ∷ []) (suc n) d q e l h = absurd (omega (arith, e))
ascends-push (p ∷ r ∷ ps) zero d q e l h = absurd (omega (arith, e))
ascends-push (p ∷ r ∷ ps) (suc n) d q e l h =
    let below = all-index (λ z. found_cmp p z ≡ Less) (r ∷ ps) n d h.0 (omega (arith, e)) in (
      all-append (λ z. found_cmp p z ≡ Less) (r ∷ ps) (q ∷ []) h.0
          (found_cmp_total.trans p (get_or (r ∷ ps) n d) q below l, tt),
      ascends-push (r ∷ ps) n d q (omega (arith, e)) l h.1,
    )

-- the same of pairs with their tables
pub ascends-push_ranked : (rs : List Ranked) (n : ℕ) (r q : Ranked) → length rs ≡ suc n → r ≡ get_or rs n r
    → ranked_cmp r q ≡ Less → IsStrictlySortedBy found_cmp (pairs_of rs)
    → IsStrictlySortedBy found_cmp (pairs_of rs ++ q.pair ∷ [])
ascends-push_ranked rs n r q e is l h =
    let last : get_or (pairs_of rs) n r.pair ≡ r.pair =
    get_or-map (λ z. z.pair) rs n r r.pair (omega (arith, e)) ∙ ap (λ z. z.pair) (sym is) in
    ascends-push (pairs_of rs) n r.pair q.pair (length-map rs (λ z. z.pair) ∙ e)
    (ap (λ p. found_cmp p q.pair) last ∙ l) h

-- none ascend, and so does one alone
pub ascends-none : IsStrictlySortedBy found_cmp []
unfolding IsStrictlySortedBy
ascends-none = tt

pub ascends-first : (ps : List Pair) (q : Pair) → length ps ≡ zero → IsStrictlySortedBy found_cmp (ps ++ q ∷ [])
unfolding IsStrictlySortedBy
ascends-first [] q e = (tt, tt)
ascends-first (p ∷ ps) q e = absurd (omega (arith, e))

-- ---- one more pair

module _ (t : Table) (before : List Pair) (q : Ranked) where
  -- the pairs are those that were, and are ready for one more over their table
  pub record IsReadyFor (ascending : Bool) (left : List Ranked) : Type 0 where
    pub ascends : IsTrue ascending → IsStrictlySortedBy found_cmp (pairs_of left)
    pub next : IsTrue ascending → IsStrictlySortedBy found_cmp (pairs_of left ++ q.pair ∷ [])
    pub over : AreOver t left
    pub table : q.table ≡ t
    pub same : (p : Pair) → Contains (pairs_of left) p ↔ Contains before p

  -- what is kept of them
  abbrev pub IsKept : Bool → List Ranked → Type 0
  IsKept ascending rs = (IsTrue ascending → IsStrictlySortedBy found_cmp (pairs_of rs)) × AreOver t rs

  module _ (ascending : Bool) (left rs : List Ranked) (h : IsReadyFor ascending left) where
    -- where there is no room for the pair
    pub kept-failed : rs ≡ left → IsKept ascending rs
    kept-failed e = subst (IsKept ascending) (sym e) (h.ascends, h.over)

    module _ (e : rs ≡ left ++ q ∷ []) where
      pairs-pushed : pairs_of rs ≡ pairs_of left ++ q.pair ∷ []
      pairs-pushed = ap pairs_of e ∙ map_push (λ r. r.pair) left q

      -- and with it
      pub kept-pushed : IsKept ascending rs
      kept-pushed = (
        λ b. subst (IsStrictlySortedBy found_cmp) (sym pairs-pushed) (h.next b),
        subst (AreOver t) (sym e) (all-append (λ r. r.table ≡ t) left (q ∷ []) h.over (h.table, tt)),
      )

      pub same-pushed : (p : Pair) → Contains (pairs_of rs) p ↔ Contains (before ++ q.pair ∷ []) p
      same-pushed = subst (λ ps. (p : Pair) → Contains ps p ↔ Contains (before ++ q.pair ∷ []) p) (sym pairs-pushed)
          (contains-pushed before (pairs_of left) q.pair h.same)
