-- Levels with the same front, and what they stand for.
use Rattle.std.proofs.Common.{◌≡◌, ℕ, zero, suc, ◌<◌, ◌≤◌, List, [], ◌∷◌, length, take, drop, refl, ap, sym}
use Rattle.std.proofs.Common.{◌∙◌, arith, false}
use Rattle.std.specs.Prelude.{Some, None, slice_get, option_map}
use Rattle.mp_pattern.specs.Fits as fits
use Rattle.mp_table.specs.Table.{Table, terms_at}
use Rattle.mp_theory.specs.Frames.{Next}
use Rattle.mp_theory.specs.Items.{onward_all}
use Rattle.mp_theory.specs.Machine.{onward}
use Rattle.mp_search.specs.declared.level.Level.{Level}
use Rattle.mp_search.specs.declared.query.Query.{Query}
use Rattle.mp_search.specs.Levels.{draws_of, take_of}
use Rattle.mp_search.specs.Frames.{place_after, start_of}
use Rattle.mp_search.specs.Reading.{entry_of, table_of, entry_at}
use Rattle.mp_search.specs.At.{draws_at, own_at}

-- an entry of no node
abbrev pub nothing : fits.Entry
nothing = record { terms = []; collapsed = false }

pub take-less : {X : Type 0} (k : ℕ) (xs ys : List X) → take (suc k) xs ≡ take (suc k) ys → take k xs ≡ take k ys
take-less zero xs ys h = refl
take-less (suc k) [] [] h = refl
take-less (suc k) [] (y ∷ ys) h = cc
take-less (suc k) (x ∷ xs) [] h = cc
take-less (suc k) (x ∷ xs) (y ∷ ys) h =
    let e : x ≡ y = cc in
    let t : take (suc k) xs ≡ take (suc k) ys = cc in
    ap (λ z. z ∷ take k xs) e ∙ ap (λ zs. y ∷ zs) (take-less k xs ys t)

pub take-suc_less : {X : Type 0} (k : ℕ) (xs : List X) → take k (take (suc k) xs) ≡ take k (take k xs)
take-suc_less zero xs = refl
take-suc_less (suc k) [] = refl
take-suc_less (suc k) (x ∷ xs) = ap (λ ys. x ∷ ys) (take-suc_less k xs)

pub take-again : {X : Type 0} (k : ℕ) (xs : List X) → take k (take k xs) ≡ take k xs
take-again zero xs = refl
take-again (suc k) [] = refl
take-again (suc k) (x ∷ xs) = ap (λ ys. x ∷ ys) (take-again k xs)

pub length-take_within : {X : Type 0} (k : ℕ) (xs : List X) → k ≤ length xs → length (take k xs) ≡ k
length-take_within zero xs h = refl
length-take_within (suc k) [] h = absurd (omega (arith, h))
length-take_within (suc k) (x ∷ xs) h = ap suc (length-take_within k xs (omega (arith, h)))

pub get-kept : {X : Type 0} (j k : ℕ) (xs ys : List X) → j < k → take k xs ≡ take k ys → slice_get xs j ≡ slice_get ys j
get-kept j zero xs ys h p = absurd (omega (arith, h))
get-kept j (suc k) [] [] h p = refl
get-kept j (suc k) [] (y ∷ ys) h p = cc
get-kept j (suc k) (x ∷ xs) [] h p = cc
get-kept zero (suc k) (x ∷ xs) (y ∷ ys) h p = let e : x ≡ y = cc in ap Some e
get-kept (suc j) (suc k) (x ∷ xs) (y ∷ ys) h p = let e : take k xs ≡ take k ys = cc in
    get-kept j k xs ys (omega (arith, h)) e

-- the tables of levels

pub table-take : (t : Table) (k : ℕ) (ls : List Level) → table_of t (take k ls) ≡ take k (table_of t ls)
table-take t zero ls = refl
table-take t (suc k) [] = refl
table-take t (suc k) (l ∷ ls) = ap (λ T. entry_of t l ∷ T) (table-take t k ls)

pub table-drop : (t : Table) (k : ℕ) (ls : List Level) → table_of t (drop k ls) ≡ drop k (table_of t ls)
table-drop t zero ls = refl
table-drop t (suc k) [] = refl
table-drop t (suc k) (l ∷ ls) = table-drop t k ls

pub length-table : (t : Table) (ls : List Level) → length (table_of t ls) ≡ length ls
length-table t [] = refl
length-table t (l ∷ ls) = ap suc (length-table t ls)

pub table-from : (t : Table) (ls : List Level) (k : ℕ) → k < length ls
    → table_of t (drop k ls) ≡ entry_at t ls k ∷ table_of t (drop (suc k) ls)
table-from t [] k h = absurd (omega arith)
table-from t (l ∷ ls) zero h = refl
table-from t (l ∷ ls) (suc k) h = table-from t ls k (omega arith)

onward-suc : (t : Table) (n : Next) (ls : List Level) (k : ℕ) → k < length ls
    → onward_all n (table_of t (take (suc k) ls)) ≡ onward (onward_all n (table_of t (take k ls))) (entry_at t ls k)
onward-suc t n [] k h = absurd (omega arith)
onward-suc t n (l ∷ ls) zero h = refl
onward-suc t n (l ∷ ls) (suc k) h = onward-suc t (onward n (entry_of t l)) ls k (omega arith)

-- the place after one level more
pub place-suc : (q : Query) (k : ℕ) (ls : List Level) → k < length ls
    → place_after q (take (suc k) ls) ≡ onward (place_after q (take k ls)) (entry_at q.table.now ls k)
place-suc q k ls h = onward-suc q.table.now (start_of q) ls k h

-- levels that take the same lead to the same place
pub place-same : (q : Query) (j : ℕ) (xs ys : List Level) → table_of q.table.now xs ≡ table_of q.table.now ys
    → place_after q (take j xs) ≡ place_after q (take j ys)
place-same q j xs ys h = ap (onward_all (start_of q))
    (table-take q.table.now j xs ∙ ap (take j) h ∙ sym (table-take q.table.now j ys))

-- what a level draws from and takes

pub entry-own : (t : Table) (ls : List Level) (k : ℕ)
    → entry_at t ls k ≡ elim (own_at ls k) [
      | None ↦ nothing
      | Some o ↦ record { terms = terms_at t o.1.0; collapsed = o.1.1 }
    ]
entry-own t [] k = refl
entry-own t (l ∷ ls) zero = refl
entry-own t (l ∷ ls) (suc k) = entry-own t ls k

pub draws-own : (ls : List Level) (k : ℕ) → draws_at ls k ≡ option_map (λ o. o.0) (own_at ls k)
draws-own [] k = refl
draws-own (l ∷ ls) zero = refl
draws-own (l ∷ ls) (suc k) = draws-own ls k

pub entry-kept : (t : Table) (k : ℕ) (xs ys : List Level) → own_at xs k ≡ own_at ys k
    → entry_at t xs k ≡ entry_at t ys k
entry-kept t k xs ys h = entry-own t xs k
    ∙ ap
    (λ w. elim w [ None ↦ nothing | Some o ↦ record { terms = terms_at t o.1.0; collapsed = o.1.1 } ]) h
    ∙ sym (entry-own t ys k)

pub draws-kept : (k : ℕ) (xs ys : List Level) → own_at xs k ≡ own_at ys k → draws_at xs k ≡ draws_at ys k
draws-kept k xs ys h = draws-own xs k ∙ ap (option_map (λ o. o.0)) h ∙ sym (draws-own ys k)

-- the level behind the front is kept with it
pub own-kept : (k : ℕ) (xs ys : List Level) → take (suc k) xs ≡ take (suc k) ys → own_at xs k ≡ own_at ys k
own-kept k xs ys h = ap (option_map (λ l. (draws_of l, take_of l))) (get-kept k (suc k) xs ys (omega arith) h)
