-- The steps of a walk over rules, over plain lists.
use Rattle.std.proofs.Common.{◌≡◌, ◌≤◌, ℕ, zero, suc, List, [], ◌∷◌, ◌++◌, length, drop, take}
use Rattle.std.proofs.Common.{◌-◌, ◌∙◌, refl, ap, sym, arith, append_assoc, append-nil, take_all}
use Rattle.std.specs.Prelude.{◌≢◌, Option, Some, None, IsSome, option_map, slice_get, slice_index_or}
use Rattle.std.specs.List.{AllByRecursion}
use Rattle.mp_term.specs.Normal.{IsNormal}
use Rattle.mp_term.specs.Signature.{Sig}
use Rattle.mp_term.specs.Tree.{Tree, symbol}
use Rattle.mp_walk.specs.Instrs.{Instr}
use Rattle.mp_many.specs.RuleWalk.{Item, given}
use Rattle.mp_many.specs.WalkItems.{accepts_at, each_with, rule_items}

-- the subject of a table of normal terms is normal
pub subject-normal : (sig : Sig) (ts : List Tree) (n : ℕ) → AllByRecursion (IsNormal sig) ts
    → IsNormal sig (slice_index_or ts n (symbol []))
subject-normal sig [] n h = refl
subject-normal sig (t ∷ ts) zero h = h.0
subject-normal sig (t ∷ ts) (suc n) h = subject-normal sig ts n h.1

-- nothing is left behind the last rule
last-given : (ns : List ℕ) (o : Option Item) → length ns ≤ 1 → drop 1 (given ns o) ≡ []
last-given ns None h = refl
last-given [] (Some i) h = refl
last-given (n ∷ []) (Some i) h = refl
last-given (n ∷ m ∷ ns) (Some i) h = absurd (omega (arith, h))

some-given : (ns : List ℕ) (i : Item) → ns ≢ [] → IsSome (slice_get (given ns (Some i)) 0)
some-given [] i h = absurd (h refl)
some-given (n ∷ ns) i h = refl

-- the first of the rules of the next leaf
pub record IsNext (code : List Instr) (old new : List ℕ) (last next : Option Item) (leaves : List Item) : Type 0 where
  pub item : slice_get (given new next) 0 ≡ slice_get (drop 1 (given old last) ++ rule_items code leaves) 0
  pub some : IsSome (slice_get (given new next) 0)
  pub to_come : drop 1 (given new next) ++ rule_items code (drop 1 leaves)
      ≡ drop 1 (drop 1 (given old last) ++ rule_items code leaves)

front-given : (ns : List ℕ) (i : Item) (is : List Item) → ns ≢ []
    → slice_get (each_with ns i.1) 0 ≡ slice_get (each_with ns i.1 ++ is) 0
front-given [] i is h = absurd (h refl)
front-given (n ∷ ns) i is h = refl

drop-given : (ns : List ℕ) (i : Item) (is : List Item) → ns ≢ []
    → drop 1 (each_with ns i.1) ++ is ≡ drop 1 (each_with ns i.1 ++ is)
drop-given [] i is h = absurd (h refl)
drop-given (n ∷ ns) i is h = refl

pub next-leaf : (code : List Instr) (old new : List ℕ) (item next : Option Item) (to_come : List Item) (leaf : ℕ)
    → length old ≤ 1 → next ≡ slice_get to_come 0 → option_map (λ (i : Item). i.0) next ≡ Some leaf
    → new ≡ accepts_at code leaf → AllByRecursion (λ i. accepts_at code i.0 ≢ []) to_come
    → IsNext code old new item next to_come
next-leaf code old new item None to_come leaf short e l a all = cc
next-leaf code old new item (Some i) [] leaf short e l a all = cc
next-leaf code old new item (Some i) (j ∷ to_come) leaf short e l a all =
    let same : i ≡ j = (let w : Some i ≡ Some j = e in cc) in
    let number : i.0 ≡ leaf = (let w : Some i.0 ≡ Some leaf = l in cc) in
    let here : new ≡ accepts_at code j.0 = a ∙ ap (accepts_at code) (sym number ∙ ap (λ (x : Item). x.0) same) in
    let full : new ≢ [] = λ n. all.0 (sym here ∙ n) in
    let rest = rule_items code to_come in
    record {
      item =
          front-given new i rest full
          ∙ (λ k. slice_get (each_with (here k) (same k).1 ++ rest) 0)
          ∙ ap (λ xs. slice_get (xs ++ (each_with (accepts_at code j.0) j.1 ++ rest)) 0)
          (sym (last-given old item short));
      some = some-given new i full;
      to_come =
          drop-given new i rest full
          ∙ (λ k. drop 1 (each_with (here k) (same k).1 ++ rest))
          ∙ ap (λ xs. drop 1 (xs ++ (each_with (accepts_at code j.0) j.1 ++ rest)))
          (sym (last-given old item short));
    }

-- where no rule is left, and no leaf to come, nothing is
pub nothing-given : (o : Option Item) → given [] o ≡ []
nothing-given None = refl
nothing-given (Some i) = refl

pub last-leaf : (code : List Instr) (old : List ℕ) (item : Option Item) (to_come : List Item) → length old ≤ 1
    → (IsSome (slice_get to_come 0) → ⊥) → slice_get (drop 1 (given old item) ++ rule_items code to_come) 0 ≡ None
last-leaf code old item [] short none = ap (λ xs. slice_get (xs ++ []) 0) (last-given old item short)
last-leaf code old item (j ∷ to_come) short none = absurd (none refl)

-- one of the rules of a leaf that are left is given
pub front-next : (all front ns : List ℕ) → all ≡ front ++ ns
    → all ≡ (front ++ take 1 ns) ++ take (length ns - 1) (drop 1 ns)
front-next all front [] e = e ∙ ap (λ xs. xs ++ []) (sym (append-nil front))
front-next all front (n ∷ ns) e =
    e ∙ sym (append_assoc front (n ∷ []) ns)
    ∙ ap (λ xs. (front ++ n ∷ []) ++ xs) (sym (take_all (length (n ∷ ns) - 1) ns (omega arith)))
