-- Entering lists one after the other into groups by their first tokens groups them.
use Rattle.std.proofs.Common.{◌≡◌, ◌<◌, ℕ, zero, suc, List, [], ◌∷◌, ◌++◌, map, length, drop, get_or, Bool, true}
use Rattle.std.proofs.Common.{false}
use Rattle.std.proofs.Common.{refl, ap, sym, ◌∙◌, subst, append-nil, append_assoc}
use Rattle.std.specs.Prelude.{if◌then◌else◌, flat_map, ◌||◌}
use Rattle.std.specs.List.{AllByRecursion}
use Rattle.std.proofs.lemmas.List.{map-append}
use Rattle.std.proofs.lemmas.Bool.{or_parts}
use Rattle.std.proofs.lemmas.Grind.{flat_map-append}
use Rattle.mp_pattern.specs.Firsts.{is_known, add_new, firsts_after}
use Rattle.mp_pattern.specs.NetTokens.{NetToken, same_token}
use Rattle.mp_pattern.specs.NetTokenLaws.{same_token-is, same_token-itself}
use Rattle.mp_pattern.proofs.PlanLaws.{firsts_after-append}
use Rattle.mp_theory.proofs.FirstsLaws.{Distinct, distinct-firsts}
use Rattle.mp_walk.specs.Walkable.{Path}
use Rattle.mp_many.specs.Prefixes.{head_of, heads, rest_after}
use Rattle.mp_many.specs.Laid.{Numbered, bare, left_after}
use Rattle.mp_many.specs.Groups.{Group, entered, grouped, left_at}
use Rattle.mp_many.proofs.TokenLists.{same_token-turned}

-- the groups with a list entered, if it has a token
abbrev pub entered_first : List Group → Numbered → List Group
entered_first gs (n, []) = gs
entered_first gs (n, k ∷ ks) = entered gs k (n ∷ [])

-- and with lists entered in turn
abbrev pub entered_all : List Group → List Numbered → List Group
entered_all gs [] = gs
entered_all gs (l ∷ ls) = entered_all (entered_first gs l) ls

-- ---- what is known of tokens in order of first occurrence

known-push : (ys : List NetToken) (y x : NetToken) → is_known same_token (ys ++ (y ∷ [])) x ≡ false
    → (is_known same_token ys x ≡ false) × (same_token y x ≡ false)
known-push [] y x e = (refl, (or_parts (same_token y x) false e).0)
known-push (z ∷ ys) y x e =
    let both = or_parts (same_token z x) (is_known same_token (ys ++ (y ∷ [])) x) e in
    let r = known-push ys y x both.1 in
    (rw (both.0, r.0) refl, r.1)

pub unknown-firsts : (ys xs : List NetToken) (x : NetToken)
    → is_known same_token (firsts_after same_token ys xs) x ≡ false
    → (is_known same_token ys x ≡ false) × AllByRecursion (λ y. same_token y x ≡ false) xs
unknown-firsts ys [] x e = (e, tt)
unknown-firsts ys (y ∷ xs) x e =
    let r = unknown-firsts (add_new same_token ys y) xs x e in
    let h = at (is_known same_token ys y) refl r.0 in
    (h.0, (h.1, r.1))
  where
    at : (b : Bool) → is_known same_token ys y ≡ b → is_known same_token (if b then ys else ys ++ (y ∷ [])) x ≡ false
        → (is_known same_token ys x ≡ false) × (same_token y x ≡ false)
    at false k u = known-push ys y x u
    at true k u = (u, apart (same_token y x) refl)
      where
        apart : (b : Bool) → same_token y x ≡ b → b ≡ false
        apart false s = refl
        apart true s = let z : y ≡ x = same_token-is y x s in
            let w : is_known same_token ys x ≡ true = subst (λ t. is_known same_token ys t ≡ true) z k in cc

-- nothing is left after a token with which no list begins
left-none : (k : NetToken) (ls : List Numbered)
    → AllByRecursion (λ j. same_token j k ≡ false) (flat_map head_of (bare ls)) → left_after k ls ≡ []
left-none k [] h = refl
left-none k ((n, []) ∷ ls) h = left-none k ls h
left-none k ((n, j ∷ js) ∷ ls) h = rw h.0 (left-none k ls h.1)

-- ---- one list more

bare-push : (ls : List Numbered) (l : Numbered) → bare (ls ++ (l ∷ [])) ≡ bare ls ++ (l.1 ∷ [])
bare-push ls l = map-append (λ m. m.1) ls (l ∷ [])

heads-push : (ls : List Numbered) (l : Numbered)
    → heads (bare (ls ++ (l ∷ []))) ≡ firsts_after same_token (heads (bare ls)) (head_of l.1 ++ [])
heads-push ls l = ap heads (bare-push ls l)
    ∙ ap (firsts_after same_token []) (flat_map-append head_of (bare ls) (l.1 ∷ []))
    ∙ firsts_after-append same_token [] (flat_map head_of (bare ls)) (head_of l.1 ++ [])

left-push : (k : NetToken) (ls : List Numbered) (l : Numbered)
    → left_after k (ls ++ (l ∷ [])) ≡ left_after k ls ++ (map (λ ks. (l.0, ks)) (rest_after k l.1) ++ [])
left-push k ls l = flat_map-append (λ m. map (λ ks. (m.0, ks)) (rest_after k m.1)) ls (l ∷ [])

-- the numbers of the lists that begin with k
abbrev pub numbers_after : NetToken → List Numbered → List ℕ
numbers_after k ls = map (λ l. l.0) (left_after k ls)

numbers-other : (k j : NetToken) (n : ℕ) (js : Path) (ls : List Numbered) → same_token j k ≡ false
    → numbers_after k (ls ++ ((n, j ∷ js) ∷ [])) ≡ numbers_after k ls
numbers-other k j n js ls e = ap (map (λ l. l.0)) (left-push k ls (n, j ∷ js))
    ∙ rw e (ap (map (λ l. l.0)) (append-nil (left_after k ls)))

numbers-own : (k j : NetToken) (n : ℕ) (js : Path) (ls : List Numbered) → same_token j k ≡ true
    → numbers_after k (ls ++ ((n, j ∷ js) ∷ [])) ≡ numbers_after k ls ++ (n ∷ [])
numbers-own k j n js ls e = ap (map (λ l. l.0)) (left-push k ls (n, j ∷ js))
    ∙ rw e (map-append (λ l. l.0) (left_after k ls) ((n, js) ∷ []))

module _ (j : NetToken) (n : ℕ) (js : Path) (ls : List Numbered) where
  -- the lists with one more
  abbrev more : List Numbered
  more = ls ++ ((n, j ∷ js) ∷ [])

  abbrev group : NetToken → Group
  group k = (k, numbers_after k ls)

  abbrev group_more : NetToken → Group
  group_more k = (k, numbers_after k more)

  -- the groups of other tokens stay
  others : (ks : List NetToken) → AllByRecursion (λ k. same_token j k ≡ false) ks → map group_more ks ≡ map group ks
  others [] h = refl
  others (k ∷ ks) h = λ i. (k, numbers-other k j n js ls h.0 i) ∷ others ks h.1 i

  -- a token that is there already
  enter-known : (ks : List NetToken) → Distinct same_token ks → is_known same_token ks j ≡ true
      → map group_more ks ≡ entered (map group ks) j (n ∷ [])
  enter-known [] d e = cc
  enter-known (k ∷ ks) d e = at (same_token k j) refl e (enter-known ks d.1)
    where
      at : (b : Bool) → same_token k j ≡ b → (b || is_known same_token ks j) ≡ true
          → (is_known same_token ks j ≡ true → map group_more ks ≡ entered (map group ks) j (n ∷ []))
          → group_more k ∷ map group_more ks
          ≡ (if b then (k, numbers_after k ls ++ n ∷ []) ∷ map group ks
          else group k ∷ entered (map group ks) j (n ∷ []))
      at true s e r =
          let z : k ≡ j = same_token-is k j s in
          let t : same_token j k ≡ true = subst (λ x. same_token j x ≡ true) (sym z) (same_token-itself j) in
          let apart : AllByRecursion (λ i. same_token j i ≡ false) ks =
          subst (λ x. AllByRecursion (λ i. same_token x i ≡ false) ks) z d.0 in
          λ i. (k, numbers-own k j n js ls t i) ∷ others ks apart i
      at false s e r = λ i. (k, numbers-other k j n js ls (same_token-turned k j s) i) ∷ r e i

  -- and a new one
  enter-new : (ks : List NetToken) → is_known same_token ks j ≡ false → left_after j ls ≡ []
      → map group_more (ks ++ (j ∷ [])) ≡ entered (map group ks) j (n ∷ [])
  enter-new [] e none = ap (λ ns. (j, ns) ∷ [])
      (numbers-own j j n js ls (same_token-itself j) ∙ ap (λ ms. map (λ l. l.0) ms ++ (n ∷ [])) none)
  enter-new (k ∷ ks) e none =
      let both = or_parts (same_token k j) (is_known same_token ks j) e in
      rw both.0 (λ i. (k, numbers-other k j n js ls (same_token-turned k j both.0) i) ∷ enter-new ks both.1 none i)

  enter-token : map group_more (add_new same_token (heads (bare ls)) j) ≡ entered (grouped ls) j (n ∷ [])
  enter-token = at (is_known same_token (heads (bare ls)) j) refl
    where
      at : (b : Bool) → is_known same_token (heads (bare ls)) j ≡ b
          → map group_more (if b then heads (bare ls) else heads (bare ls) ++ (j ∷ []))
          ≡ entered (grouped ls) j (n ∷ [])
      at true k = enter-known (heads (bare ls)) (distinct-firsts same_token [] (flat_map head_of (bare ls)) tt) k
      at false k = enter-new (heads (bare ls)) k
          (left-none j ls (unknown-firsts [] (flat_map head_of (bare ls)) j k).1)

-- the group of a token
abbrev group_in : List Numbered → NetToken → Group
group_in ls k = (k, numbers_after k ls)

-- the groups of no more tokens
same-groups : (n : ℕ) (ls : List Numbered) (ks : List NetToken)
    → map (group_in (ls ++ ((n, []) ∷ []))) ks ≡ map (group_in ls) ks
same-groups n ls [] = refl
same-groups n ls (k ∷ ks) =
    λ i. (k, ap (map (λ l. l.0)) (left-push k ls (n, []) ∙ append-nil (left_after k ls)) i) ∷ same-groups n ls ks i

-- one more list is entered into its group
grouped-push : (ls : List Numbered) (l : Numbered) → grouped (ls ++ (l ∷ [])) ≡ entered_first (grouped ls) l
grouped-push ls (n, []) = ap (map (group_in (ls ++ ((n, []) ∷ [])))) (heads-push ls (n, []))
    ∙ same-groups n ls (heads (bare ls))
grouped-push ls (n, j ∷ js) =
    ap (map (group_in (ls ++ ((n, j ∷ js) ∷ [])))) (heads-push ls (n, j ∷ js)) ∙ enter-token j n js ls

grouped-append : (front ls : List Numbered) → entered_all (grouped front) ls ≡ grouped (front ++ ls)
grouped-append front [] = ap grouped (sym (append-nil front))
grouped-append front (l ∷ ls) = ap (λ gs. entered_all gs ls) (sym (grouped-push front l))
    ∙ grouped-append (front ++ (l ∷ [])) ls ∙ ap grouped (append_assoc front (l ∷ []) ls)

-- lists that are entered in turn are grouped
pub entered-grouped : (ls : List Numbered) → entered_all [] ls ≡ grouped ls
entered-grouped ls = grouped-append [] ls

-- ---- the lists of a group

-- the numbers are those of lists
abbrev pub AreWithin : List Path → List ℕ → Type 0
AreWithin lists ns = AllByRecursion (λ n. n < length lists) ns

-- a list of a group goes on at the next place
drop-more : (k : NetToken) (place : ℕ) (l : Path) (j : NetToken) (js : Path) → drop place l ≡ j ∷ js
    → drop (suc place) l ≡ js
drop-more k place [] j js e = by_place place e
  where
    by_place : (m : ℕ) → drop m [] ≡ j ∷ js → [] ≡ js
    by_place zero e = cc
    by_place (suc m) e = cc
drop-more k zero (i ∷ l) j js e = cc
drop-more k (suc place) (i ∷ l) j js e = drop-more k place l j js e

pub left-numbers : (lists : List Path) (place : ℕ) (k : NetToken) (ns : List ℕ)
    → left_at lists (suc place) (numbers_after k (left_at lists place ns)) ≡ left_after k (left_at lists place ns)
left-numbers lists place k [] = refl
left-numbers lists place k (n ∷ ns) =
    at (drop place (get_or lists n [])) refl (left-numbers lists place k ns)
  where
    rest : List Numbered
    rest = left_after k (left_at lists place ns)

    at : (l : Path) → drop place (get_or lists n []) ≡ l → left_at lists (suc place) (map (λ l. l.0) rest) ≡ rest
        → left_at lists (suc place) (map (λ l. l.0) (map (λ ks. (n, ks)) (rest_after k l) ++ rest))
        ≡ map (λ ks. (n, ks)) (rest_after k l) ++ rest
    at [] e ih = ih
    at (j ∷ js) e ih =
        elim (same_token j k) as (λ b. left_at lists (suc place)
        (map (λ l. l.0) (map (λ ks. (n, ks)) (if b then js ∷ [] else []) ++ rest))
        ≡ map (λ ks. (n, ks)) (if b then js ∷ [] else []) ++ rest) [
          | true ↦ (λ i. (n, drop-more k place (get_or lists n []) j js e i) ∷ ih i)
          | false ↦ ih
        ]

pub numbers-within : (lists : List Path) (place : ℕ) (k : NetToken) (ns : List ℕ) → AreWithin lists ns
    → AreWithin lists (numbers_after k (left_at lists place ns))
numbers-within lists place k [] h = tt
numbers-within lists place k (n ∷ ns) h = at (drop place (get_or lists n [])) (numbers-within lists place k ns h.1)
  where
    at : (l : Path) → AreWithin lists (numbers_after k (left_at lists place ns))
        → AreWithin lists (map (λ l. l.0)
        (map (λ ks. (n, ks)) (rest_after k l) ++ left_after k (left_at lists place ns)))
    at [] r = r
    at (j ∷ js) r =
        elim (same_token j k) as (λ b. AreWithin lists (map (λ l. l.0)
        (map (λ ks. (n, ks)) (if b then js ∷ [] else []) ++ left_after k (left_at lists place ns))))
        [ true ↦ (h.0, r) | false ↦ r ]
