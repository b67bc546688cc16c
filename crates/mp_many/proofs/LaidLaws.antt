-- The tree of numbered lists has a state for each prefix.
use Rattle.std.proofs.Common.{◌≡◌, ℕ, zero, suc, ◌+◌, List, [], ◌∷◌, ◌++◌, map, length, true, false, ◌&&◌}
use Rattle.std.proofs.Common.{refl}
use Rattle.std.proofs.Common.{ap, sym, ◌∙◌, arith}
use Rattle.std.specs.Prelude.{if◌then◌else◌, flat_map}
use Rattle.std.proofs.lemmas.List.{length-append, length-map, map-append}
use Rattle.std.proofs.lemmas.Grind.{flat_map-append}
use Rattle.mp_pattern.specs.NetTokens.{NetToken, same_token}
use Rattle.mp_many.specs.Prefixes.{heads, rest_after, rests, prefixes_within, same_tokens, accepted_by}
use Rattle.mp_many.specs.Laid.{Numbered, bare, left_after, ended, target, each_laid, laid, numbered_from}
use Rattle.mp_walk.specs.Walkable.{Path}

-- what is left of lists, without numbers
pub bare-left : (k : NetToken) (ls : List Numbered) → bare (left_after k ls) ≡ rests k (bare ls)
bare-left k [] = refl
bare-left k (l ∷ ls) = map-append (λ m. m.1) (map (λ ks. (l.0, ks)) (rest_after k l.1)) (left_after k ls)
    ∙ (λ i. bare-rest l.1 i ++ bare-left k ls i)
  where
    bare-rest : (js : Path) → bare (map (λ ks. (l.0, ks)) (rest_after k js)) ≡ rest_after k js
    bare-rest [] = refl
    bare-rest (j ∷ js) =
        elim (same_token j k) as (λ b. bare (map (λ ks. (l.0, ks)) (if b then js ∷ [] else []))
        ≡ (if b then js ∷ [] else [])) [ true ↦ refl | false ↦ refl ]

pub bare-numbered : (n : ℕ) (ls : List Path) → bare (numbered_from n ls) ≡ ls
bare-numbered n [] = refl
bare-numbered n (l ∷ ls) = ap (λ ms. l ∷ ms) (bare-numbered (suc n) ls)

-- the prefixes that begin with the tokens ks
abbrev pub led : ℕ → List Numbered → List NetToken → List Path
led d ls ks = flat_map (λ k. (k ∷ []) ∷ map (λ q. k ∷ q) (prefixes_within d (rests k (bare ls)))) ks

-- so many states are below each
abbrev Counts : ℕ → Type 0
Counts d = (ls : List Numbered) (n : ℕ) → length (laid d ls n) ≡ length (prefixes_within d (bare ls))

length-each : (d : ℕ) → Counts d → (ls : List Numbered) (ks : List NetToken) (n : ℕ)
    → length (each_laid (laid d) ls ks n) ≡ length (led d ls ks)
length-each d below ls [] n = refl
length-each d below ls (k ∷ ks) n =
    let left = left_after k ls in
    let states = laid d left (suc n) in
    let e : length states ≡ length (prefixes_within d (rests k (bare ls))) =
    below left (suc n) ∙ ap (λ ms. length (prefixes_within d ms)) (bare-left k ls) in
    let r = length-each d below ls ks (suc n + length states) in
    omega (
      arith,
      e,
      r,
      length-append states (each_laid (laid d) ls ks (suc n + length states)),
      length-append (map (λ q. k ∷ q) (prefixes_within d (rests k (bare ls)))) (led d ls ks),
      length-map (prefixes_within d (rests k (bare ls))) (λ q. k ∷ q),
    )

-- there are as many states as prefixes
pub length-laid : (d : ℕ) → Counts d
length-laid zero ls n = refl
length-laid (suc d) ls n = length-each d (length-laid d) ls (heads (bare ls)) n

-- whether there is a target depends on the number of what is behind alone
pub target-length : {X Y : Type 0} (n : ℕ) (xs : List X) (ys : List Y) → length xs ≡ length ys
    → target n xs ≡ target n ys
target-length n [] [] e = refl
target-length n [] (y ∷ ys) e = absurd (omega (arith, e))
target-length n (x ∷ xs) [] e = absurd (omega (arith, e))
target-length n (x ∷ xs) (y ∷ ys) e = refl

-- ---- the lists that are a prefix

-- the numbers of the lists that are ks
abbrev pub among : List Numbered → Path → List ℕ
among ls ks = flat_map (λ l. if same_tokens l.1 ks then l.0 ∷ [] else []) ls

pub among-left : (k : NetToken) (ks : Path) (ls : List Numbered) → among ls (k ∷ ks) ≡ among (left_after k ls) ks
among-left k ks [] = refl
among-left k ks (l ∷ ls) = (λ i. first l.1 i ++ among-left k ks ls i)
    ∙ sym (flat_map-append (λ m. if same_tokens m.1 ks then m.0 ∷ [] else [])
    (map (λ js. (l.0, js)) (rest_after k l.1)) (left_after k ls))
  where
    first : (js : Path) → (if same_tokens js (k ∷ ks) then l.0 ∷ [] else [])
        ≡ among (map (λ is. (l.0, is)) (rest_after k js)) ks
    first [] = refl
    first (j ∷ js) =
        elim (same_token j k) as (λ b. (if b && same_tokens js ks then l.0 ∷ [] else [])
        ≡ among (map (λ is. (l.0, is)) (if b then js ∷ [] else [])) ks) [
          | true ↦ elim (same_tokens js ks) as (λ c. (if c then l.0 ∷ [] else [])
              ≡ (if c then l.0 ∷ [] else []) ++ []) [ true ↦ refl | false ↦ refl ]
          | false ↦ refl
        ]

pub ended-among : (ls : List Numbered) → flat_map ended ls ≡ among ls []
ended-among [] = refl
ended-among ((n, []) ∷ ls) = ap (λ ns. n ∷ ns) (ended-among ls)
ended-among ((n, k ∷ ks) ∷ ls) = ended-among ls

pub accepted_by-among : (n : ℕ) (ls : List Path) (p : Path) → accepted_by n ls p ≡ among (numbered_from n ls) p
accepted_by-among n [] p = refl
accepted_by-among n (l ∷ ls) p =
    elim (same_tokens l p) as (λ b. (if b then n ∷ accepted_by (suc n) ls p else accepted_by (suc n) ls p)
    ≡ (if b then n ∷ [] else []) ++ among (numbered_from (suc n) ls) p) [
      | true ↦ ap (λ ns. n ∷ ns) (accepted_by-among (suc n) ls p)
      | false ↦ accepted_by-among (suc n) ls p
    ]
