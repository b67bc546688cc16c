-- Places in the search, and how they move.
use Rattle.std.proofs.Common.{◌≡◌, ℕ, zero, suc, ◌<◌, ◌≤◌, ◌+◌, List, [], ◌∷◌, ◌++◌, cond, refl, sym, ap, ◌⊎◌, inl, inr}
use Rattle.std.proofs.Common.{arith, length, take, get_or}
use Rattle.std.specs.Prelude.{Contains, count_by, ◌==◌}
use Rattle.std.specs.declared.cmp.Ordering.TheVariants.{Less}
use Rattle.std.specs.List.{AllZip}
use Rattle.std.proofs.lemmas.Slice.Zip.{AllZip-long}
use Rattle.std.proofs.lemmas.List.Sums.{sum_by-take-drop}
use Rattle.mp_choice.proofs.Lexicographic.{lex, less_cases}
use Rattle.mp_pair.specs.PairingSteps.{Below}

-- how often the class is in the list
abbrev pub uses : ℕ → List ℕ → ℕ
uses class xs = count_by (λ c. c == class) xs

-- no list is below itself
pub not_below_itself : (xs : List ℕ) → Below xs xs 0 → ⊥
not_below_itself [] h = h
not_below_itself (x ∷ xs) (inl l) = omega arith
not_below_itself (x ∷ xs) (inr h) = not_below_itself xs h.1

-- of two lists of one length the lesser is below the other
pub below_from_less : (xs ys : List ℕ) → length xs ≡ length ys → lex xs ys ≡ Less → Below xs ys 0
below_from_less [] [] e l = cc
below_from_less [] (y ∷ ys) e l = absurd (omega arith)
below_from_less (x ∷ xs) [] e l = absurd (omega arith)
below_from_less (x ∷ xs) (y ∷ ys) e l = made (less_cases x y xs ys l) (λ m. below_from_less xs ys (omega arith) m)
  where
    made : (x < y) ⊎ ((x ≡ y) × (lex xs ys ≡ Less)) → (lex xs ys ≡ Less → Below xs ys 0) → Below (x ∷ xs) (y ∷ ys) 0
    made (inl q) f = inl q
    made (inr q) f = inr (q.0, f q.1)

-- a further choice raises the place
pub below-push : (xs front : List ℕ) (bound class : ℕ) → bound ≤ class → Below xs front bound
    → Below xs (front ++ class ∷ []) 0
below-push [] front bound class l h = absurd h
below-push (x ∷ xs) [] bound class l h = inl (omega arith)
below-push (x ∷ xs) (y ∷ ys) bound class l (inl q) = inl q
below-push (x ∷ xs) (y ∷ ys) bound class l (inr q) = inr (q.0, below-push xs ys bound class l q.1)

-- what it passes has this front and a class between
pub passed-push : (xs front : List ℕ) (bound class : ℕ) → Below xs (front ++ class ∷ []) 0
    → Below xs front bound ⊎ ((take (length front) xs ≡ front) × (length front < length xs) ×
    (bound ≤ get_or xs (length front) 0) × (get_or xs (length front) 0 < class))
passed-push [] [] bound class h = absurd h
passed-push [] (y ∷ ys) bound class h = absurd h
passed-push (x ∷ xs) [] bound class (inl q) = made (let c : (x < bound) ⊎ (bound ≤ x) = grind arith in c)
  where
    made : (x < bound) ⊎ (bound ≤ x)
        → (x < bound) ⊎ ((take 0 (x ∷ xs) ≡ []) × (0 < length (x ∷ xs)) × (bound ≤ x) × (x < class))
    made (inl l) = inl l
    made (inr l) = inr (refl, omega arith, l, q)
passed-push (x ∷ []) [] bound class (inr q) = absurd q.1
passed-push (x ∷ z ∷ xs) [] bound class (inr q) = absurd (let l : z < 0 = q.1 in omega arith)
passed-push (x ∷ xs) (y ∷ ys) bound class (inl q) = inl (inl q)
passed-push (x ∷ xs) (y ∷ ys) bound class (inr q) = made (passed-push xs ys bound class q.1)
  where
    made : Below xs ys bound ⊎ ((take (length ys) xs ≡ ys) × (length ys < length xs) ×
        (bound ≤ get_or xs (length ys) 0) × (get_or xs (length ys) 0 < class)) →
        Below (x ∷ xs) (y ∷ ys) bound ⊎ ((take (length (y ∷ ys)) (x ∷ xs) ≡ y ∷ ys) ×
        (length (y ∷ ys) < length (x ∷ xs)) × (bound ≤ get_or (x ∷ xs) (length (y ∷ ys)) 0) ×
        (get_or (x ∷ xs) (length (y ∷ ys)) 0 < class))
    made (inl b) = inl (inr (q.0, b))
    made (inr r) = inr (
      (let e : take (length ys) xs ≡ ys = r.0 in let f : x ≡ y = q.0 in cc),
      omega (arith, r.1),
      r.2,
      r.3,
    )

-- going back raises the place
pub below-back : (xs front : List ℕ) (last bound : ℕ) → Below xs (front ++ last ∷ []) bound → Below xs front (last + 1)
below-back [] front last bound h = below_none front h
  where
    below_none : (front : List ℕ) → Below [] (front ++ last ∷ []) bound → Below [] front (last + 1)
    below_none [] h = h
    below_none (y ∷ ys) h = h
below-back (x ∷ xs) [] last bound (inl q) = omega arith
below-back (x ∷ xs) [] last bound (inr q) = omega (arith, q.0)
below-back (x ∷ xs) (y ∷ ys) last bound (inl q) = inl q
below-back (x ∷ xs) (y ∷ ys) last bound (inr q) = inr (q.0, below-back xs ys last bound q.1)

-- what it passes has the whole front
pub passed-back : (xs front : List ℕ) (last bound : ℕ) → length front + 1 < length xs → Below xs front (last + 1)
    → Below xs (front ++ last ∷ []) bound ⊎
    ((take (suc (length front)) xs ≡ front ++ last ∷ []) × (bound ≤ get_or xs (suc (length front)) 0))
passed-back [] front last bound l h = absurd (omega arith)
passed-back (x ∷ []) [] last bound l h = absurd (omega arith)
passed-back (x ∷ z ∷ xs) [] last bound l h =
    made (let c : (x < last) ⊎ (x ≡ last) = grind arith in c) (let d : (z < bound) ⊎ (bound ≤ z) = grind arith in d)
  where
    made : (x < last) ⊎ (x ≡ last) → (z < bound) ⊎ (bound ≤ z)
        → ((x < last) ⊎ ((x ≡ last) × (z < bound))) ⊎ ((x ∷ [] ≡ last ∷ []) × (bound ≤ z))
    made (inl q) d = inl (inl q)
    made (inr q) (inl d) = inl (inr (q, d))
    made (inr q) (inr d) = inr (ap (λ k. k ∷ []) q, d)
passed-back (x ∷ xs) (y ∷ ys) last bound l (inl q) = inl (inl q)
passed-back (x ∷ xs) (y ∷ ys) last bound l (inr q) = made (passed-back xs ys last bound (omega arith) q.1)
  where
    made : Below xs (ys ++ last ∷ []) bound ⊎
        ((take (suc (length ys)) xs ≡ ys ++ last ∷ []) × (bound ≤ get_or xs (suc (length ys)) 0))
        → Below (x ∷ xs) (y ∷ ys ++ last ∷ []) bound ⊎
        ((take (suc (length (y ∷ ys))) (x ∷ xs) ≡ y ∷ ys ++ last ∷ []) ×
        (bound ≤ get_or (x ∷ xs) (suc (length (y ∷ ys))) 0))
    made (inl b) = inl (inr (q.0, b))
    made (inr r) = inr ((let e : take (suc (length ys)) xs ≡ ys ++ last ∷ [] = r.0 in let f : x ≡ y = q.0 in cc), r.1)

-- the choice at k is one of the classes of the item at k
pub all_zip-at : (left : List (List ℕ)) (xs : List ℕ) (k : ℕ) (d : List ℕ) → AllZip Contains left xs → k < length xs
    → Contains (get_or left k d) (get_or xs k 0)
all_zip-at [] [] k d w h = absurd (omega arith)
all_zip-at [] (x ∷ xs) k d w h = absurd w
all_zip-at (l ∷ ls) [] k d w h = absurd w
all_zip-at (l ∷ ls) (x ∷ xs) zero d w h = w.0
all_zip-at (l ∷ ls) (x ∷ xs) (suc k) d w h = all_zip-at ls xs k d w.1 (omega arith)

-- there is one choice for each item
pub zip_length : (left : List (List ℕ)) (xs : List ℕ) → AllZip Contains left xs → length left ≡ length xs
zip_length left xs w = sym (AllZip-long Contains left xs w)

-- one item more, and one of its classes
pub zip-push : (k : ℕ) (left : List (List ℕ)) (front : List ℕ) (class : ℕ) (d : List ℕ) → k ≡ length front
    → k < length left → AllZip Contains (take k left) front → Contains (get_or left k d) class
    → AllZip Contains (take (suc k) left) (front ++ class ∷ [])
zip-push k [] front class d e h w c = absurd (omega arith)
zip-push zero (l ∷ ls) [] class d e h w c = (c, tt)
zip-push zero (l ∷ ls) (x ∷ xs) class d e h w c = absurd (omega arith)
zip-push (suc k) (l ∷ ls) [] class d e h w c = absurd (omega arith)
zip-push (suc k) (l ∷ ls) (x ∷ xs) class d e h w c = (w.0, zip-push k ls xs class d (omega arith) (omega arith) w.1 c)

-- the choices of the first items are one of its classes for each of these
pub zip-drop : (k : ℕ) (left : List (List ℕ)) (front : List ℕ) → AllZip Contains (take k left) front → (j : ℕ) → j ≤ k
    → AllZip Contains (take j left) (take j front)
zip-drop k left front w zero h = nothing left front
  where
    nothing : (left : List (List ℕ)) (front : List ℕ) → AllZip Contains (take 0 left) (take 0 front)
    nothing left front = tt
zip-drop zero left front w (suc j) h = absurd (omega arith)
zip-drop (suc k) [] [] w (suc j) h = tt
zip-drop (suc k) [] (x ∷ xs) w (suc j) h = absurd w
zip-drop (suc k) (l ∷ ls) [] w (suc j) h = absurd w
zip-drop (suc k) (l ∷ ls) (x ∷ xs) w (suc j) h = (w.0, zip-drop k ls xs w.1 j (omega arith))

-- a class is in a front no more often than in the list
pub uses_front : (class k : ℕ) (xs : List ℕ) → uses class (take k xs) ≤ uses class xs
uses_front class k xs = omega (arith, sum_by-take-drop (λ c. cond (c == class) 1 0) xs k)
