-- Ranks compare as their terms, and a rank is found where its term stands.
use Rattle.std.proofs.Common.{◌≡◌, ◌≢◌, ℕ, zero, suc, ◌+◌, ◌<◌, ◌≤◌, List, [], ◌∷◌, length, get_or, Bool, true, false}
use Rattle.std.proofs.Common.{refl}
use Rattle.std.proofs.Common.{ap, sym, ◌∙◌, arith}
use Rattle.std.specs.Prelude.{Some, None, position, option_map, nat_lt, slice_get, ◌&&◌}
use Rattle.std.specs.Prelude.{if◌then◌else◌}
use Rattle.std.specs.declared.cmp.Ordering.{Ordering}
use Rattle.std.specs.declared.cmp.Ordering.TheVariants.{Less, Equal, Greater}
use Rattle.std.specs.Ordering.{nat_cmp, eq_by_cmp, is_eq, ordering_then, ordering_reverse}
use Rattle.std.specs.Cmp.Lexicographic.{slice_cmp}
use Rattle.std.specs.List.{AllWithin}
use Rattle.std.specs.List.Sorted.{IsStrictlySortedBy}
use Rattle.std.proofs.lemmas.Bool.Decides.{nat_tests}
use Rattle.std.proofs.lemmas.Cmp.{tied_itself}
use Rattle.std.proofs.lemmas.List.{get_or_default}
use Rattle.std.proofs.lemmas.List.Quantifiers.{position-Some}
use Rattle.std.proofs.lemmas.Map.Keys.{Less-from_sorted}
use Rattle.std.proofs.lemmas.Option.{slice_get-get_or, get_or_from_slice_get}
use Rattle.mp_term.specs.Order.{tree_cmp}
use Rattle.mp_term.specs.Pieces.{same, without, is_sublist, is_prefix}
use Rattle.mp_term.specs.OrderLaws.{tree_cmp_total, nat_same, tree_same}
use Rattle.mp_term.specs.Tree.{Tree, symbol}
use Rattle.mp_term.proofs.SignatureLaws.{position-first, position-behind}
use Rattle.mp_term.proofs.TestLaws.{equal-from}
use Rattle.mp_table.specs.Table.{Table, term_at, terms_at, HasRank, HasRanks, rank_of, rank_cmp}
use Rattle.mp_table.specs.declared.rank.Rank.{Rank}
use Rattle.mp_table.proofs.Ascending.{items_cmp}

module _ (t : Table) (up : IsStrictlySortedBy tree_cmp t.terms) where
  -- lists of ranks compare as their terms
  pub ranks_cmp : (rs ss : List Rank) → HasRanks t rs → HasRanks t ss
      → slice_cmp tree_cmp (terms_at t rs) (terms_at t ss) ≡ slice_cmp rank_cmp rs ss
  ranks_cmp [] [] h k = refl
  ranks_cmp [] (s ∷ ss) h k = refl
  ranks_cmp (r ∷ rs) [] h k = refl
  ranks_cmp (r ∷ rs) (s ∷ ss) h k =
      ap (λ o. ordering_then o (slice_cmp tree_cmp (terms_at t rs) (terms_at t ss)))
      (items_cmp tree_cmp tree_cmp_total t.terms up (symbol []) r.0 s.0 h.0 k.0)
      ∙ ap (ordering_then (nat_cmp r.0 s.0)) (ranks_cmp rs ss h.1 k.1)

  pub rank_order : (r s : Rank) → HasRank t r → HasRank t s → tree_cmp (term_at t r) (term_at t s) ≡ rank_cmp r s
  rank_order r s h k = items_cmp tree_cmp tree_cmp_total t.terms up (symbol []) r.0 s.0 h k

  rank_same : (r s : Rank) → HasRank t r → HasRank t s → same tree_cmp (term_at t r) (term_at t s) ≡ same rank_cmp r s
  rank_same r s h k = ap is_eq (rank_order r s h k)

  -- what is left
  pub without-terms : (rs ss : List Rank) → HasRanks t rs → HasRanks t ss
      → without tree_cmp (terms_at t rs) (terms_at t ss) ≡ terms_at t (without rank_cmp rs ss)
  without-terms [] ss h k = refl
  without-terms (r ∷ rs) [] h k = refl
  without-terms (r ∷ rs) (s ∷ ss) h k =
      ap (λ b. if b then without tree_cmp (terms_at t rs) (terms_at t ss) else term_at t s ∷ without tree_cmp
      (terms_at t
      (r ∷ rs)) (terms_at t ss)) (rank_same s r k.0 h.0)
      ∙ elim (same rank_cmp s r) as (λ b. (if b then without tree_cmp (terms_at t rs) (terms_at t ss) else term_at t s ∷
      without tree_cmp (terms_at t (r ∷ rs)) (terms_at t ss))
      ≡ terms_at t (if b then without rank_cmp rs ss else s ∷ without rank_cmp (r ∷ rs) ss)) [
        | true ↦ without-terms rs ss h.1 k.1
        | false ↦ ap (λ us. term_at t s ∷ us) (without-terms (r ∷ rs) ss h k.1)
      ]

  -- whether the terms stand in the list
  pub is_sublist-terms : (rs ss : List Rank) → HasRanks t rs → HasRanks t ss
      → is_sublist tree_cmp (terms_at t rs) (terms_at t ss) ≡ is_sublist rank_cmp rs ss
  is_sublist-terms [] ss h k = refl
  is_sublist-terms (r ∷ rs) [] h k = refl
  is_sublist-terms (r ∷ rs) (s ∷ ss) h k =
      ap (λ b. if b then is_sublist tree_cmp (terms_at t rs) (terms_at t ss) else is_sublist tree_cmp (terms_at t
      (r ∷ rs)) (terms_at t ss)) (rank_same s r k.0 h.0)
      ∙ elim (same rank_cmp s r) as (λ b. (if b then is_sublist tree_cmp (terms_at t rs) (terms_at t ss) else is_sublist
      tree_cmp (terms_at t (r ∷ rs)) (terms_at t ss))
      ≡ (if b then is_sublist rank_cmp rs ss else is_sublist rank_cmp (r ∷ rs) ss)) [
        | true ↦ is_sublist-terms rs ss h.1 k.1
        | false ↦ is_sublist-terms (r ∷ rs) ss h k.1
      ]

  -- whether the list begins with the terms
  pub is_prefix-terms : (rs ss : List Rank) → HasRanks t rs → HasRanks t ss
      → is_prefix tree_cmp (terms_at t rs) (terms_at t ss) ≡ is_prefix rank_cmp rs ss
  is_prefix-terms [] ss h k = refl
  is_prefix-terms (r ∷ rs) [] h k = refl
  is_prefix-terms (r ∷ rs) (s ∷ ss) h k =
      ap (λ b. b && is_prefix tree_cmp (terms_at t rs) (terms_at t ss)) (rank_same s r k.0 h.0)
      ∙ ap (λ b. same rank_cmp s r && b) (is_prefix-terms rs ss h.1 k.1)

-- numbers that differ decide
pub differs : (m n : ℕ) (o : Ordering) → m ≢ n → ordering_then (nat_cmp m n) o ≡ nat_cmp m n
differs m n o h = elim (nat_cmp m n) as (λ r. nat_cmp m n ≡ r → ordering_then r o ≡ r) [
  | Less ↦ λ e. refl
  | Equal ↦ λ e. absurd (h (nat_same m n e))
  | Greater ↦ λ e. refl
] refl

-- the first item that passes a test
some : {X : Type 0} (p : X → Bool) (xs : List X) (i : ℕ) (d : X) → i < length xs → p (get_or xs i d) ≡ true
    → ((k : ℕ) → k < i → p (get_or xs k d) ≡ false) → position p xs ≡ Some i
some p [] i d h e before = absurd (omega arith)
some p (x ∷ xs) zero d h e before = position-first p x xs e
some p (x ∷ xs) (suc i) d h e before =
    let one_more : i + 1 ≡ suc i = omega arith in
    position-behind p x xs (before 0 (omega arith))
    ∙ ap (option_map (λ k. k + 1)) (some p xs i d (omega arith) e (λ k l. before (suc k) (omega arith)))
    ∙ ap Some one_more

none : {X : Type 0} (p : X → Bool) (xs : List X) (d : X) → ((k : ℕ) → k < length xs → p (get_or xs k d) ≡ false)
    → position p xs ≡ None
none p [] d h = refl
none p (x ∷ xs) d h =
    position-behind p x xs (h 0 (omega arith))
    ∙ ap (option_map (λ k. k + 1)) (none p xs d (λ k l. h (suc k) (omega arith)))

other : (o r : Ordering) → o ≡ ordering_reverse r → r ≢ Equal → is_eq o ≡ false
other o Less e h = rw e refl
other o Equal e h = absurd (h refl)
other o Greater e h = rw e refl

-- a tree isn't another one
unlike : (u v : Tree) → tree_cmp v u ≢ Equal → eq_by_cmp tree_cmp u v ≡ false
unlike u v h = other (tree_cmp u v) (tree_cmp v u) (tree_cmp_total.antisymm u v) h

below-from_get : (ts : List Tree) (r : ℕ) (u : Tree) → slice_get ts r ≡ Some u → r < length ts
below-from_get [] r u e = cc
below-from_get (v ∷ ts) zero u e = omega arith
below-from_get (v ∷ ts) (suc r) u e = omega (arith, below-from_get ts r u e)

module _ (t : Table) (u : Tree) where
  -- the term stands at a rank
  pub rank_of-found : IsStrictlySortedBy tree_cmp t.terms → (r : Rank) → HasRank t r → tree_cmp (term_at t r) u ≡ Equal
      → rank_of t u ≡ Some r.0
  rank_of-found up r h e =
      let same : term_at t r ≡ u = tree_same _ _ e in
      some (eq_by_cmp tree_cmp u) t.terms r.0 (symbol []) h
      (ap (λ v. eq_by_cmp tree_cmp u v) same ∙ ap is_eq (tied_itself tree_cmp_total u))
      (λ k l. unlike u (get_or t.terms k (symbol [])) (λ q.
      let less : tree_cmp (get_or t.terms k (symbol [])) u ≡ Less =
      ap (tree_cmp (get_or t.terms k (symbol []))) (sym same)
      ∙ Less-from_sorted tree_cmp t.terms k r.0 (symbol []) up l h in
      let wrong : Less ≡ Equal = sym less ∙ q in cc))

  -- all terms are less or greater
  pub rank_of-missed : (low high : ℕ) → high ≤ low → AllWithin (λ v. tree_cmp v u ≡ Less) t.terms 0 low
      → AllWithin (λ v. tree_cmp v u ≡ Greater) t.terms high (length t.terms) → rank_of t u ≡ None
  rank_of-missed low high h less greater =
      none (eq_by_cmp tree_cmp u) t.terms (symbol []) (λ k l. unlike u (get_or t.terms k (symbol [])) (λ q.
      elim (nat_lt k low) as (λ b. nat_lt k low ≡ b → ⊥) [
        | true ↦ λ b.
            let wrong : Less ≡ Equal =
            sym (less k (symbol []) (omega arith) (grind (arith, nat_tests))) ∙ q in cc
        | false ↦ λ b.
            let past : low ≤ k = grind (arith, nat_tests) in
            let wrong : Greater ≡ Equal = sym (greater k (symbol []) (omega arith) l) ∙ q in cc
      ] refl))

  -- a term that is less has lesser ones before it
  pub less_up_to : IsStrictlySortedBy tree_cmp t.terms → (m : ℕ) → m < length t.terms
      → tree_cmp (get_or t.terms m (symbol [])) u ≡ Less → AllWithin (λ v. tree_cmp v u ≡ Less) t.terms 0 (m + 1)
  less_up_to up m h e k d low high =
      elim (nat_lt k m) as (λ b. nat_lt k m ≡ b → tree_cmp (get_or t.terms k d) u ≡ Less) [
        | true ↦ λ b.
            tree_cmp_total.trans (get_or t.terms k d) (get_or t.terms m d) u
            (Less-from_sorted tree_cmp t.terms k m d up (grind (arith, nat_tests)) h)
            (ap (λ v. tree_cmp v u) (get_or_default t.terms m d (symbol []) h) ∙ e)
        | false ↦ λ b.
            let same : k ≡ m = grind (arith, nat_tests) in
            ap (λ n. tree_cmp (get_or t.terms n d) u) same
            ∙ ap (λ v. tree_cmp v u) (get_or_default t.terms m d (symbol []) h) ∙ e
      ] refl

  -- and a term that is greater has greater ones behind it
  pub greater_from : IsStrictlySortedBy tree_cmp t.terms → (m : ℕ) → m < length t.terms
      → tree_cmp (get_or t.terms m (symbol [])) u ≡ Greater
      → AllWithin (λ v. tree_cmp v u ≡ Greater) t.terms m (length t.terms)
  greater_from up m h e k d low high =
      let here : tree_cmp (get_or t.terms m d) u ≡ Greater =
      ap (λ v. tree_cmp v u) (get_or_default t.terms m d (symbol []) h) ∙ e in
      elim (nat_lt m k) as (λ b. nat_lt m k ≡ b → tree_cmp (get_or t.terms k d) u ≡ Greater) [
        | true ↦ λ b.
            tree_cmp_total.antisymm (get_or t.terms k d) u
            ∙ ap ordering_reverse (tree_cmp_total.trans u (get_or t.terms m d) (get_or t.terms k d)
            (tree_cmp_total.antisymm u (get_or t.terms m d) ∙ ap ordering_reverse here)
            (Less-from_sorted tree_cmp t.terms m k d up (grind (arith, nat_tests)) high))
        | false ↦ λ b.
            let same : k ≡ m = grind (arith, nat_tests) in ap (λ n. tree_cmp (get_or t.terms n d) u) same ∙ here
      ] refl

  -- where the term stands
  pub slice_get-rank_of : (r : ℕ) → rank_of t u ≡ Some r → slice_get t.terms r ≡ Some u
  slice_get-rank_of r e =
      let p = position-Some (eq_by_cmp tree_cmp u) t.terms r (symbol []) e in
      let same : u ≡ get_or t.terms r (symbol []) = tree_same _ _ (equal-from _ p.1) in
      slice_get-get_or t.terms r (symbol []) p.0 ∙ ap Some (sym same)

  pub rank_of-slice_get : IsStrictlySortedBy tree_cmp t.terms → (r : ℕ) → slice_get t.terms r ≡ Some u
      → rank_of t u ≡ Some r
  rank_of-slice_get up r e =
      let is : get_or t.terms r (symbol []) ≡ u = get_or_from_slice_get t.terms r u (symbol []) e in
      rank_of-found up (record { 0 = r }) (below-from_get t.terms r u e)
      (ap (λ v. tree_cmp v u) is ∙ tied_itself tree_cmp_total u)
