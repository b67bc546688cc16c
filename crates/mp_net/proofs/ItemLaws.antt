-- Rules with what they still ask.
use Rattle.std.proofs.Common.{◌≡◌, ℕ, zero, suc, ◌+◌, List, [], ◌∷◌, ◌++◌, ◌≤◌, refl, ap, sym, ◌∙◌, map, length}
use Rattle.std.proofs.Common.{take, drop, arith}
use Rattle.std.specs.Prelude.{Some, None, slice_get, option_map}
use Rattle.mp_net.specs.Net as net
use Rattle.mp_net.specs.Items.{opens, items_from, first_of}
use Rattle.mp_net.specs.NetOf.{opening}
use Rattle.mp_term.proofs.ListLaws.{drop-held, drop-none}

-- and through a map
pub held-map : {X Y : Type 0} (f : X → Y) (xs : List X) (k : ℕ) → slice_get (map f xs) k ≡ option_map f (slice_get xs k)
held-map f [] k = refl
held-map f (x ∷ xs) zero = refl
held-map f (x ∷ xs) (suc k) = held-map f xs k

pub more_anythings : (a b : ℕ) (m : List net.Mark)
    → net.anythings (a + b) ++ m ≡ net.anythings b ++ (net.anythings a ++ m)
more_anythings a zero m = ap (λ k. net.anythings k ++ m) (omega arith)
more_anythings a (suc b) m = ap (λ k. net.anythings k ++ m) (more a b)
    ∙ ap (λ k. net.anything ∷ k) (more_anythings a b m)
  where
    more : (a b : ℕ) → a + suc b ≡ suc (a + b)
    more a b = omega arith

-- a rule that asks something next
pub first-held : (r free k : ℕ) (g : net.Mark) (xs : List net.Mark) → free ≡ 0 → Some g ≡ slice_get xs k
    → Some (g, record { rule = r; rest = drop (k + 1) xs }) ≡ first_of r (net.anythings free ++ drop k xs)
first-held r free k g xs z e =
    let one : k + 1 ≡ suc k = omega arith in
    ap (λ j. Some (g, record { rule = r; rest = drop j xs })) one ∙ ap (first_of r) (sym (drop-held xs k g (sym e)))
    ∙ ap (λ n. first_of r (net.anythings n ++ drop k xs)) (sym z)

pub first-none : (r free k : ℕ) (xs : List net.Mark) → free ≡ 0 → None ≡ slice_get xs k
    → None ≡ first_of r (net.anythings free ++ drop k xs)
first-none r free k xs z e = ap (first_of r) (sym (drop-none xs k (sym e)))
    ∙ ap (λ n. first_of r (net.anythings n ++ drop k xs)) (sym z)

-- what stands at a place, by what is behind it
pub held-drop : {X : Type 0} (xs : List X) (k : ℕ) (x : X) (ys : List X) → drop k xs ≡ x ∷ ys → slice_get xs k ≡ Some x
held-drop [] zero x ys e = cc
held-drop [] (suc k) x ys e = cc
held-drop (z ∷ zs) zero x ys e = let p : z ∷ zs ≡ x ∷ ys = e in cc
held-drop (z ∷ zs) (suc k) x ys e = held-drop zs k x ys e

pub drop-next : {X : Type 0} (xs : List X) (k : ℕ) (x : X) (ys : List X) → drop k xs ≡ x ∷ ys → drop (suc k) xs ≡ ys
drop-next [] zero x ys e = cc
drop-next [] (suc k) x ys e = cc
drop-next (z ∷ zs) zero x ys e = let p : z ∷ zs ≡ x ∷ ys = e in cc
drop-next (z ∷ zs) (suc k) x ys e = drop-next zs k x ys e

-- the rules of numbers one after the other, as they begin
pub items-from : (marks ms : List (List net.Mark)) (i n : ℕ) → drop i marks ≡ ms → n ≤ length ms
    → opens marks (items_from i n) ≡ opening i (take n ms)
items-from marks ms i zero e h = refl
items-from marks [] i (suc n) e h = absurd (omega (arith, h))
items-from marks (m ∷ ms) i (suc n) e h =
    let g : slice_get marks i ≡ Some m = held-drop marks i m ms e in
    ap (λ o. record { rule = i; rest = net.held_or [] o } ∷ opens marks (items_from (suc i) n)) g
    ∙ ap (λ os. record { rule = i; rest = m } ∷ os)
    (items-from marks ms (suc i) n (drop-next marks i m ms e) (omega (arith, h)))

-- one rule more
pub items_from-more : (i n : ℕ)
    → items_from i (n + 1) ≡ items_from i n ++ record { rule = i + n; free = 0; at = 0 } ∷ []
items_from-more i zero =
    let e : i ≡ i + 0 = omega arith in
    ap (λ r. record { rule = r; free = 0; at = 0 } ∷ []) e
items_from-more i (suc n) =
    let e : suc n + 1 ≡ suc (n + 1) = omega arith in
    let k : suc i + n ≡ i + suc n = omega arith in
    ap (items_from i) e ∙ ap (λ is. record { rule = i; free = 0; at = 0 } ∷ is) (items_from-more (suc i) n
    ∙ ap (λ r. items_from (suc i) n ++ record { rule = r; free = 0; at = 0 } ∷ []) k)
