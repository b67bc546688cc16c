-- The classes of the next item, looked at in turn.
use Rattle.std.proofs.Common.{◌≡◌, ℕ, ◌<◌, ◌≤◌, List, [], ◌∷◌, ◌++◌, sym, ◌∙◌, ◌⊎◌, inl, inr, arith, length}
use Rattle.std.proofs.Common.{get_or, subst}
use Rattle.std.specs.Prelude.{Contains}
use Rattle.std.specs.List.Sorted.{IsStrictlyIncreasing}
use Rattle.std.proofs.lemmas.List.{get_or_default}
use Rattle.std.proofs.lemmas.Map.Keys.{sorted_from_strictly_increasing, below_from_sorted}
use Rattle.mp_pair.specs.PairingSteps.{HasRoom, IsDeadEnd, IsNextClass, HasNoClass}

module _ (cs : List ℕ) (left : List (List ℕ)) (front : List ℕ) (bound : ℕ) (classes : List ℕ)
    (is : (d : List ℕ) → classes ≡ get_or left (length front) d) where
  -- the classes before k from the bound on lead nowhere
  abbrev pub Passed : ℕ → Type 0
  Passed k = (j : ℕ) → j < k → bound ≤ get_or classes j 0 → IsDeadEnd cs left (front ++ get_or classes j 0 ∷ [])

  -- so a class that stands before k leads nowhere
  passed : (k other : ℕ) (d : List ℕ) → Passed k → (c : Contains (get_or left (length front) d) other)
      → ((j : ℕ) → j < length classes → get_or classes j 0 ≡ other → j < k) → bound ≤ other
      → IsDeadEnd cs left (front ++ other ∷ [])
  passed k other d p c before l =
      let m : Contains classes other = subst (λ xs. Contains xs other) (sym (is d)) c in
      let e : get_or classes m.0 0 ≡ other = get_or_default classes m.0 0 other m.1 ∙ m.2 in
      subst (λ x. IsDeadEnd cs left (front ++ x ∷ [])) e (p m.0 (before m.0 m.1 e) (subst (λ x. bound ≤ x) (sym e) l))

  -- a class that leads on, where those before it don't, is the next class
  pub next-found : (k : ℕ) → IsStrictlyIncreasing classes → k < length classes → bound ≤ get_or classes k 0
      → HasRoom cs front (get_or classes k 0) → Passed k → IsNextClass cs left front bound (get_or classes k 0)
  next-found k a h l r p = record {
    one = λ d. subst (λ xs. Contains xs (get_or classes k 0)) (is d)
        (k, h, get_or_default classes k (get_or classes k 0) 0 h);
    from = l;
    room = r;
    least = λ other d c b n. passed k other d p c
        (λ j m e. before j m (subst (λ x. x < get_or classes k 0) (sym e) n)) b;
  }
    where
      before : (j : ℕ) → j < length classes → get_or classes j 0 < get_or classes k 0 → j < k
      before j m n = by_place (let c : (j < k) ⊎ ((j ≡ k) ⊎ (k < j)) = grind arith in c)
        where
          by_place : (j < k) ⊎ ((j ≡ k) ⊎ (k < j)) → j < k
          by_place (inl q) = q
          by_place (inr (inl q)) = absurd (let w : get_or classes k 0 < get_or classes k 0 =
              subst (λ i. get_or classes i 0 < get_or classes k 0) q n in omega arith)
          by_place (inr (inr q)) = absurd (omega
              (arith, below_from_sorted classes k j 0 (sorted_from_strictly_increasing classes a) q m))

  -- where no class leads on there is none
  pub none-found : (k : ℕ) → length classes ≤ k → Passed k → HasNoClass cs left front bound
  none-found k h p other d c b = passed k other d p c (λ j m e. omega arith) b
