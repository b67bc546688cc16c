-- The steps of the making of groups and states, over plain lists.
use Rattle.std.proofs.Common.{◌≡◌, ◌<◌, ◌≤◌, ℕ, zero, suc, ◌+◌, List, [], ◌∷◌, ◌++◌, length, take, drop, set}
use Rattle.std.proofs.Common.{get_or, Bool}
use Rattle.std.proofs.Common.{true, false, refl, ap, sym, ◌∙◌, subst, arith, append_assoc, drop-cons}
use Rattle.std.proofs.Common.{nat_lt}
use Rattle.std.specs.Prelude.{Option, Some, None, if◌then◌else◌, flat_map, slice_get}
use Rattle.std.proofs.lemmas.List.{length-append}
use Rattle.std.proofs.lemmas.Bool.Decides.{nat_tests}
use Rattle.std.proofs.Math.Seq.{drop-append_seam, take-append_seam}
use Rattle.mp_pattern.specs.NetTokens.{NetToken, same_token}
use Rattle.mp_walk.specs.Instrs.{Instr}
use Rattle.mp_walk.specs.Walkable.{Path}
use Rattle.mp_many.specs.Laid.{Numbered, left_after, ended, target, each_laid, unlinked, linked}
use Rattle.mp_many.specs.Groups.{Group, entered, left_at}
use Rattle.mp_many.proofs.GroupLaws.{AreWithin}

-- ---- one list more

pub drop-next : {X : Type 0} (xs : List X) (i : ℕ) (d : X) → i < length xs → drop i xs ≡ get_or xs i d ∷ drop (i + 1) xs
drop-next xs i d h = let e : suc i ≡ i + 1 = omega arith in
    drop-cons xs i d h ∙ ap (λ j. get_or xs i d ∷ drop j xs) e

-- the list of the next number
left-step : (lists : List Path) (place : ℕ) (ns : List ℕ) (i : ℕ) → i < length ns → left_at lists place (drop i ns)
    ≡ (get_or ns i 0, drop place (get_or lists (get_or ns i 0) [])) ∷ left_at lists place (drop (i + 1) ns)
left-step lists place ns i h = ap (left_at lists place) (drop-next ns i 0 h)

pub within-step : (lists : List Path) (ns : List ℕ) (i : ℕ) → i < length ns → AreWithin lists (drop i ns)
    → (get_or ns i 0 < length lists) × AreWithin lists (drop (i + 1) ns)
within-step lists ns i h w =
    let v : AreWithin lists (get_or ns i 0 ∷ drop (i + 1) ns) = subst (AreWithin lists) (drop-next ns i 0 h) w in
    (v.0, v.1)

-- what ends of it, where it has no token at the place
abbrev pub ended_by : ℕ → Option NetToken → List ℕ
ended_by n None = n ∷ []
ended_by n (Some k) = []

ended-by : (n place : ℕ) (l : Path) → ended (n, drop place l) ≡ ended_by n (slice_get l place)
ended-by n zero [] = refl
ended-by n (suc place) [] = refl
ended-by n zero (k ∷ l) = refl
ended-by n (suc place) (k ∷ l) = ended-by n place l

pub ended-step : (lists : List Path) (place : ℕ) (ns : List ℕ) (i : ℕ) → i < length ns
    → flat_map ended (left_at lists place (drop i ns))
    ≡ ended_by (get_or ns i 0) (slice_get (get_or lists (get_or ns i 0) []) place)
    ++ flat_map ended (left_at lists place (drop (i + 1) ns))
ended-step lists place ns i h = ap (flat_map ended) (left-step lists place ns i h)
    ∙ ap (λ ms. ms ++ flat_map ended (left_at lists place (drop (i + 1) ns)))
    (ended-by (get_or ns i 0) place (get_or lists (get_or ns i 0) []))

-- ---- more numbers

-- a group of another token is passed
pub entered-pass : (gs : List Group) (k : NetToken) (n : List ℕ) (i : ℕ) (d : Group) → i < length gs
    → same_token (get_or gs i d).0 k ≡ false → entered gs k n ≡ take i gs ++ entered (drop i gs) k n
    → entered gs k n ≡ take (i + 1) gs ++ entered (drop (i + 1) gs) k n
entered-pass gs k n i d h s e = e ∙ passed gs i h s
  where
    passed : (hs : List Group) (j : ℕ) → j < length hs → same_token (get_or hs j d).0 k ≡ false
        → take j hs ++ entered (drop j hs) k n ≡ take (j + 1) hs ++ entered (drop (j + 1) hs) k n
    passed [] j h s = absurd (omega (arith, h))
    passed (g ∷ hs) zero h s = rw s refl
    passed (g ∷ hs) (suc j) h s =
        let q : suc (j + 1) ≡ suc j + 1 = omega arith in
        ap (λ xs. g ∷ xs) (passed hs j (omega (arith, h)) s)
        ∙ ap (λ m. take m (g ∷ hs) ++ entered (drop m (g ∷ hs)) k n) q

-- the group with more numbers
abbrev pub pushed : Group → List ℕ → Group
pushed g n = (g.0, g.1 ++ n)

-- the numbers are entered into the group of their token
pub entered-at : (gs : List Group) (k : NetToken) (n : List ℕ) (i : ℕ) (d : Group) → i < length gs
    → same_token (get_or gs i d).0 k ≡ true → entered gs k n ≡ take i gs ++ entered (drop i gs) k n
    → entered gs k n ≡ set gs i (pushed (get_or gs i d) n)
entered-at gs k n i d h s e = e ∙ found gs i h s
  where
    found : (hs : List Group) (j : ℕ) → j < length hs → same_token (get_or hs j d).0 k ≡ true
        → take j hs ++ entered (drop j hs) k n ≡ set hs j (pushed (get_or hs j d) n)
    found [] j h s = absurd (omega (arith, h))
    found (g ∷ hs) zero h s = rw s refl
    found (g ∷ hs) (suc j) h s = ap (λ xs. g ∷ xs) (found hs j (omega (arith, h)) s)

-- or into a new one
pub entered-new : (gs : List Group) (k : NetToken) (n : List ℕ) (i : ℕ) → i ≡ length gs
    → entered gs k n ≡ take i gs ++ entered (drop i gs) k n → entered gs k n ≡ gs ++ ((k, n) ∷ [])
entered-new gs k n i h e = e ∙ ended gs i h
  where
    ended : (hs : List Group) (j : ℕ) → j ≡ length hs → take j hs ++ entered (drop j hs) k n ≡ hs ++ ((k, n) ∷ [])
    ended [] zero h = refl
    ended [] (suc j) h = absurd (omega (arith, h))
    ended (g ∷ hs) zero h = absurd (omega (arith, h))
    ended (g ∷ hs) (suc j) h = ap (λ xs. g ∷ xs) (ended hs j (omega (arith, h)))

-- ---- one group more

target-within : {X : Type 0} (n i : ℕ) (xs : List X) → i < length xs → target n (drop i xs) ≡ Some n
target-within n i [] h = absurd (omega (arith, h))
target-within n zero (x ∷ xs) h = refl
target-within n (suc i) (x ∷ xs) h = target-within n i xs (omega (arith, h))

target-past : {X : Type 0} (n i : ℕ) (xs : List X) → length xs ≤ i → target n (drop i xs) ≡ None
target-past n zero [] h = refl
target-past n (suc i) [] h = refl
target-past n zero (x ∷ xs) h = absurd (omega (arith, h))
target-past n (suc i) (x ∷ xs) h = target-past n i xs (omega (arith, h))

less-from : (i m : ℕ) → nat_lt i m ≡ true → i < m
less-from i m e = grind (arith, nat_tests)

most-from : (i m : ℕ) → nat_lt i m ≡ false → m ≤ i
most-from i m e = grind (arith, nat_tests)

-- whether there is a target further on
pub target-more : {X : Type 0} (n i : ℕ) (xs : List X)
    → target n (drop i xs) ≡ (if nat_lt i (length xs) then Some n else None)
target-more n i xs =
    elim (nat_lt i (length xs)) as (λ b. nat_lt i (length xs) ≡ b
    → target n (drop i xs) ≡ (if b then Some n else None)) [
      | true ↦ λ e. target-within n i xs (less-from i (length xs) e)
      | false ↦ λ e. target-past n i xs (most-from i (length xs) e)
    ] refl

-- the rows of one group, linked, are the states of its token and below it
pub laid-step : (below : List Numbered → ℕ → List Instr) (ls : List Numbered) (ks js : List NetToken) (k : NetToken)
    (rows made done : List Instr) (own : ℕ) (more : Bool)
    → ks ≡ k ∷ js → own ≡ length rows
    → ((m : ℕ) → target m js ≡ (if more then Some m else None))
    → made ≡ (rows ++ (unlinked k (left_after k ls) ∷ []))
    ++ below (left_after k ls) (suc (length (rows ++ (unlinked k (left_after k ls) ∷ []))))
    → done ≡ take own made ++ linked own more (drop own made)
    → done ++ each_laid below ls js (suc (length done)) ≡ rows ++ each_laid below ls ks (suc (length rows))
laid-step below ls ks js k rows made done own more e o t m f =
    let first = unlinked k (left_after k ls) in
    let n = length rows in
    let states = below (left_after k ls) (suc (suc n)) in
    let size : suc (length (rows ++ (first ∷ []))) ≡ suc (suc n) = omega (arith, length-append rows (first ∷ [])) in
    let made_is : made ≡ rows ++ (first ∷ states) =
    m ∙ ap (λ i. (rows ++ (first ∷ [])) ++ below (left_after k ls) i) size ∙ append_assoc rows (first ∷ []) states in
    let front : take own made ≡ rows =
    ap (λ i. take i made) o ∙ ap (take n) made_is ∙ take-append_seam rows (first ∷ states) in
    let back : drop own made ≡ first ∷ states =
    ap (λ i. drop i made) o ∙ ap (drop n) made_is ∙ drop-append_seam rows (first ∷ states) in
    let row : Instr = record {
      token = k;
      down = target (suc (suc n)) states;
      over = target (suc (suc n) + length states) js;
      accepts = flat_map ended (left_after k ls);
    } in
    let done_is : done ≡ rows ++ (row ∷ states) =
    f ∙ (λ i. front i ++ linked (o i) more (back i))
    ∙ ap (λ v. rows ++ (record {
      token = k;
      down = target (suc (suc n)) states;
      over = v;
      accepts = flat_map ended (left_after k ls);
    } ∷ states)) (sym (t (suc (suc n) + length states))) in
    let after : suc (length done) ≡ suc (suc n) + length states =
    let q = ap length done_is in omega (arith, q, length-append rows (row ∷ states)) in
    (λ i. done_is i ++ each_laid below ls js (after i))
    ∙ append_assoc rows (row ∷ states) (each_laid below ls js (suc (suc n) + length states))
    ∙ ap (λ xs. rows ++ each_laid below ls xs (suc n)) (sym e)

-- what ends there, by whether the list goes on
pub ended-past : (n place : ℕ) (l : Path) → length l ≤ place → ended_by n (slice_get l place) ≡ n ∷ []
ended-past n zero [] h = refl
ended-past n (suc place) [] h = refl
ended-past n zero (k ∷ l) h = absurd (omega (arith, h))
ended-past n (suc place) (k ∷ l) h = ended-past n place l (omega (arith, h))

pub ended-within : (n place : ℕ) (l : Path) → place < length l → ended_by n (slice_get l place) ≡ []
ended-within n place [] h = absurd (omega (arith, h))
ended-within n zero (k ∷ l) h = refl
ended-within n (suc place) (k ∷ l) h = ended-within n place l (omega (arith, h))
