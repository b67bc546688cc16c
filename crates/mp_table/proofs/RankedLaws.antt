-- The ranks of the places of a text are told one by one.
use Rattle.std.proofs.Common.{◌≡◌, ◌∙◌, ℕ, ◌+◌, ◌<◌, List, [], length, get_or, set, true, false, refl, ap, subst}
use Rattle.std.proofs.Common.{arith}
use Rattle.std.specs.Prelude.{nat_eq}
use Rattle.std.proofs.lemmas.Bool.Decides.{nat_tests}
use Rattle.std.proofs.lemmas.List.{get_or-set_other, get_or-set_same, length-set}
use Rattle.mp_term.specs.Tree.{Tree, symbol}
use Rattle.mp_table.specs.Pieces.{AreSomeRanks}

module _ (ts us : List Tree) where
  -- one rank more
  pub some_ranks-set : (rs : List ℕ) (place r : ℕ) → place < length ts
      → get_or us r (symbol []) ≡ get_or ts place (symbol []) → AreSomeRanks ts us rs
      → AreSomeRanks ts us (set rs place r)
  some_ranks-set rs place r within is known = record {
    many = length-set rs place r ∙ known.many;
    terms = λ i d h k.
        elim (nat_eq i place) as (λ b. nat_eq i place ≡ b
        → get_or us (get_or (set rs place r) i d) (symbol []) ≡ get_or ts i (symbol [])) [
          | true ↦ λ e.
              let same : place ≡ i = grind (arith, nat_tests) in
              ap (λ n. get_or us n (symbol [])) (subst (λ j. get_or (set rs place r) j d ≡ r) same
              (get_or-set_same rs place r d (omega (arith, within, known.many))))
              ∙ is ∙ ap (λ j. get_or ts j (symbol [])) same
          | false ↦ λ e.
              let other : get_or (set rs place r) i d ≡ get_or rs i d =
              get_or-set_other rs place i r d
              (λ same. let no : nat_eq i place ≡ true = grind (arith, nat_tests) in cc) in
              ap (λ n. get_or us n (symbol [])) other
              ∙ known.terms i d h (omega (arith, k, other))
        ] refl;
  }

-- one number more that is below a bound
pub within-set : (rs : List ℕ) (place r n : ℕ) → place < length rs → r < n
    → ((i d : ℕ) → i < place → get_or rs i d < n) → (i d : ℕ) → i < place + 1 → get_or (set rs place r) i d < n
within-set rs place r n within below known i d h =
    elim (nat_eq i place) as (λ b. nat_eq i place ≡ b → get_or (set rs place r) i d < n) [
      | true ↦ λ e.
          let same : place ≡ i = grind (arith, nat_tests) in
          let at : get_or (set rs place r) i d ≡ r =
          subst (λ j. get_or (set rs place r) j d ≡ r) same (get_or-set_same rs place r d within) in
          omega (arith, at, below)
      | false ↦ λ e.
          let other : get_or (set rs place r) i d ≡ get_or rs i d =
          get_or-set_other rs place i r d (λ same. let no : nat_eq i place ≡ true = grind (arith, nat_tests) in cc) in
          omega (arith, other, known i d (grind (arith, nat_tests, h)))
    ] refl

-- one number more is below a bound
pub within-more : (rs : List ℕ) (place n : ℕ) → ((d : ℕ) → get_or rs place d < n)
    → ((i d : ℕ) → i < place → get_or rs i d < n) → (i d : ℕ) → i < place + 1 → get_or rs i d < n
within-more rs place n here known i d h =
    elim (nat_eq i place) as (λ b. nat_eq i place ≡ b → get_or rs i d < n) [
      | true ↦ λ e.
          let same : place ≡ i = grind (arith, nat_tests) in
          subst (λ j. get_or rs j d < n) same (here d)
      | false ↦ λ e. known i d (grind (arith, nat_tests, h))
    ] refl
