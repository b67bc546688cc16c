-- What is bound are variables of the query.
use Rattle.std.proofs.Common.{◌≡◌, ℕ, zero, suc, ◌≤◌, List, [], ◌∷◌, ◌++◌, take, drop, length, Bool, true, false, refl}
use Rattle.std.proofs.Common.{ap, sym, ◌∙◌, subst, arith}
use Rattle.std.specs.Prelude.{IsTrue, IsFalse}
use Rattle.std.specs.List.{AllByRecursion}
use Rattle.mp_term.specs.Listing.{In}
use Rattle.mp_term.proofs.ListLaws.{all-append}
use Rattle.mp_pattern.specs.Value.{Value}
use Rattle.mp_table.specs.Table.{Table}
use Rattle.mp_subst.specs.Trail.{Trail, TrailEntry, cut, IsBind}
use Rattle.mp_subst.proofs.TrailLaws.{length-kept}
use Rattle.mp_search.specs.At.{BindsOnly}

drop-append : {X : Type 0} (xs ys : List X) → drop (length xs) (xs ++ ys) ≡ ys
drop-append [] ys = refl
drop-append (x ∷ xs) ys = drop-append xs ys

drop-whole : {X : Type 0} (xs : List X) → drop (length xs) xs ≡ []
drop-whole [] = refl
drop-whole (x ∷ xs) = drop-whole xs

-- what is beyond a shorter front, by what is beyond a longer one
drop-between : {X : Type 0} (n : ℕ) (xs ys : List X) → n ≤ length xs → take (length xs) ys ≡ xs
    → drop n ys ≡ drop n xs ++ drop (length xs) ys
drop-between zero [] ys h e = refl
drop-between zero (x ∷ xs) [] h e = cc
drop-between zero (x ∷ xs) (y ∷ ys) h e =
    let head : y ≡ x = cc in
    let tail : take (length xs) ys ≡ xs = cc in
    ap (λ z. z ∷ ys) head ∙ ap (λ zs. x ∷ zs) (drop-between zero xs ys (omega arith) tail)
drop-between (suc n) [] ys h e = absurd (omega (arith, h))
drop-between (suc n) (x ∷ xs) [] h e = cc
drop-between (suc n) (x ∷ xs) (y ∷ ys) h e =
    let tail : take (length xs) ys ≡ xs = cc in
    drop-between n xs ys (omega (arith, h)) tail

-- where nothing is bound
pub only-same : (vs : List ℕ) (t u : Trail) → u ≡ t → BindsOnly vs t u
only-same vs t u e = subst (λ es. AllByRecursion (λ d. In d.var vs) es)
    (sym (ap (λ r. drop (length t.stack) r.stack) e ∙ drop-whole t.stack)) tt

-- where one of them is, or nothing
pub only-bound : (vs : List ℕ) (table : Table) (t u : Trail) (v : ℕ) (w : Value) (r : Bool)
    → (IsTrue r → IsBind table t u v w) → (IsFalse r → u ≡ t) → In v vs → BindsOnly vs t u
only-bound vs table t u v w false h k i = only-same vs t u (k refl)
only-bound vs table t u v w true h k i =
    let b = h refl in
    let e : TrailEntry = record { var = v; value = b.bound; spare = t.spare } in
    subst (λ es. AllByRecursion (λ d. In d.var vs) es)
    (sym (ap (drop (length t.stack)) b.stack ∙ drop-append t.stack (e ∷ []))) (i, tt)

-- and where it goes on so
pub only-then : (vs : List ℕ) (t u v : Trail) → cut (length t.stack) u ≡ t → cut (length u.stack) v ≡ u
    → BindsOnly vs t u → BindsOnly vs u v → BindsOnly vs t v
only-then vs t u v e f h k = subst (λ es. AllByRecursion (λ d. In d.var vs) es)
    (sym (drop-between (length t.stack) u.stack v.stack (length-kept t u e) (ap (λ r. r.stack) f)))
    (all-append (λ d. In d.var vs) (drop (length t.stack) u.stack) (drop (length u.stack) v.stack) h k)
