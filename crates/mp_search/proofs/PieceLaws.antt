-- The test whether ranks are a piece of others.
use Rattle.std.proofs.Common.{◌≡◌, ℕ, ◌-◌, ◌<◌, ◌≤◌, List, [], ◌∷◌, length, drop, true, false, refl}
use Rattle.std.proofs.Common.{length-drop, eqb-true, eq-eqb, nat_eq, arith}
use Rattle.std.specs.declared.cmp.Ordering.{Ordering}
use Rattle.std.proofs.Math.ListN.{drop_of_length-le}
use Rattle.std.proofs.lemmas.Bool.{and_parts}
use Rattle.mp_term.specs.Pieces.{same, without, is_sublist, is_prefix}
use Rattle.mp_term.proofs.PiecesLaws.{same-itself}
use Rattle.mp_term.proofs.ListLaws.{bool_same}
use Rattle.mp_table.specs.Table.{rank_cmp}
use Rattle.mp_table.specs.declared.rank.Rank.{Rank}
use Rattle.mp_subst.proofs.RankLists.{rank_same, rank_cmp_total}

-- at the end of the list the items stand in it where all of them were found
pub is_sublist-end : {X : Type 0} (cmp : X → X → Ordering) (k : ℕ) (es : List X) (i : ℕ) (xs : List X) → k ≤ length es
    → length xs ≤ i → nat_eq k (length es) ≡ is_sublist cmp (drop k es) (drop i xs)
is_sublist-end {X = X} cmp k es i xs h l = rw (drop_of_length-le xs {i = i} l) (at (drop k es) (length-drop k es))
  where
    at : (ds : List X) → length ds ≡ length es - k → nat_eq k (length es) ≡ is_sublist cmp ds []
    at [] q = eq-eqb k (length es) (omega (arith, h, q))
    at (d ∷ ds) q = bool_same (nat_eq k (length es)) false (λ e. absurd (omega (arith, eqb-true k (length es) e, q)))
        (λ e. cc)

-- a list that ends begins with nothing more
pub is_prefix-end : {X : Type 0} (cmp : X → X → Ordering) (i : ℕ) (rs ss : List X) → i < length rs → length ss ≤ i
    → is_prefix cmp (drop i rs) (drop i ss) ≡ false
is_prefix-end {X = X} cmp i rs ss h l = rw (drop_of_length-le ss {i = i} l) (at (drop i rs) (length-drop i rs))
  where
    at : (ds : List X) → length ds ≡ length rs - i → is_prefix cmp ds [] ≡ false
    at [] q = absurd (omega (arith, h, q))
    at (d ∷ ds) q = refl

-- a prefix is as long as the list at most
pub length-prefix : {X : Type 0} (cmp : X → X → Ordering) (l ts : List X) → is_prefix cmp l ts ≡ true
    → length l ≤ length ts
length-prefix cmp [] ts h = omega arith
length-prefix cmp (e ∷ l) [] h = cc
length-prefix cmp (e ∷ l) (t ∷ ts) h =
    omega (arith, length-prefix cmp l ts (and_parts (same cmp t e) (is_prefix cmp l ts) h).1)

-- without it the items behind it are left
pub without-prefix : {X : Type 0} (cmp : X → X → Ordering) (l ts : List X) → is_prefix cmp l ts ≡ true
    → without cmp l ts ≡ drop (length l) ts
without-prefix cmp [] ts h = refl
without-prefix cmp (e ∷ l) [] h = cc
without-prefix cmp (e ∷ l) (t ∷ ts) h =
    let r = and_parts (same cmp t e) (is_prefix cmp l ts) h in rw r.0 (without-prefix cmp l ts r.1)

-- a list is a sublist of itself
pub itself-sublist : (rs : List Rank) → is_sublist rank_cmp rs rs ≡ true
itself-sublist [] = refl
itself-sublist (r ∷ rs) = rw (same-itself rank_cmp rank_cmp_total rank_same r) (itself-sublist rs)
