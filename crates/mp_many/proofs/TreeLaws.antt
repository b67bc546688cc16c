-- The table of the tree of lists: where its states lead, and that its paths are the lists.
use Rattle.std.proofs.Common.{◌≡◌, ◌<◌, ◌≤◌, ℕ, zero, suc, ◌+◌, List, [], ◌∷◌, ◌++◌, map, length, Bool, true, false}
use Rattle.std.proofs.Common.{refl}
use Rattle.std.proofs.Common.{ap, sym, ◌∙◌, ◌⊎◌, inl, inr, subst, arith, append_assoc}
use Rattle.std.specs.Prelude.{Option, Some, IsSome, if◌then◌else◌, flat_map, slice_get, option_to_list, ◌||◌}
use Rattle.std.specs.List.{AllByRecursion}
use Rattle.std.proofs.lemmas.List.{length-append}
use Rattle.std.proofs.lemmas.Grind.{flat_map-append}
use Rattle.mp_term.specs.Listing.{In}
use Rattle.mp_term.proofs.ListLaws.{all-append}
use Rattle.mp_term.proofs.ListingLaws.{all_in}
use Rattle.mp_term.proofs.SearchLaws.{in-left, in-right, from_in-append, in-map, from_in-map, in-flat, from_in-flat}
use Rattle.mp_pattern.specs.Firsts.{is_known}
use Rattle.mp_pattern.specs.NetTokens.{NetToken, same_token}
use Rattle.mp_pattern.specs.NetTokenLaws.{same_token-is, same_token-itself}
use Rattle.mp_theory.proofs.FirstsLaws.{from_in-firsts_after}
use Rattle.mp_ac.specs.CommItems.{NoneTwice}
use Rattle.mp_walk.specs.CodeForest.{leaf, forest_of}
use Rattle.mp_walk.specs.Forests.{lists}
use Rattle.mp_walk.specs.Instrs.{Instr, instr_at, targets}
use Rattle.mp_walk.specs.Walkable.{Path}
use Rattle.mp_walk.proofs.ForestLaws.{none-append}
use Rattle.mp_walk.proofs.CodePaths.{IsForward, forest-step}
use Rattle.mp_many.specs.Prefixes.{head_of, heads, rest_after}
use Rattle.mp_many.specs.Laid.{Numbered, bare, left_after, ended, target, each_laid, laid}
use Rattle.mp_many.proofs.GroupLaws.{unknown-firsts}
use Rattle.mp_many.proofs.StateLaws.{AllFrom, all_from-append, get-seam}

-- ---- targets

from_in-target : {X : Type 0} (t n : ℕ) (xs : List X) → In t (option_to_list (target n xs))
    → (t ≡ n) × (1 ≤ length xs)
from_in-target t n [] h = absurd h
from_in-target t n (x ∷ xs) (inl e) = (e, omega arith)
from_in-target t n (x ∷ xs) (inr h) = absurd h

none-target : {X : Type 0} (n : ℕ) (xs : List X) → NoneTwice (option_to_list (target n xs))
none-target n [] = tt
none-target n (x ∷ xs) = ((λ h. h), tt)

-- the targets of states lie behind the first of them, and each once
pub record AreInside (n : ℕ) (is : List Instr) : Type 0 where
  pub inside : (t : ℕ) → In t (flat_map targets is) → (n < t) × (t < n + length is)
  pub once : NoneTwice (flat_map targets is)
  pub forward : AllFrom (λ m i. (t : ℕ) → In t (targets i) → m < t) n is

each-some : (below : List Numbered → ℕ → List Instr) (ls : List Numbered) (ks : List NetToken) (n : ℕ)
    → 1 ≤ length ks → 1 ≤ length (each_laid below ls ks n)
each-some below ls [] n h = absurd (omega (arith, h))
each-some below ls (k ∷ ks) n h = omega arith

module _ (below : List Numbered → ℕ → List Instr) (are : (ls : List Numbered) (n : ℕ) → AreInside n (below ls n))
    (ls : List Numbered) where
  each-inside : (ks : List NetToken) (n : ℕ) → AreInside n (each_laid below ls ks n)
  each-inside [] n = record { inside = λ t h. absurd h; once = tt; forward = tt }
  each-inside (k ∷ ks) n = joined (are (left_after k ls) (suc n))
      (each-inside ks (suc n + length (below (left_after k ls) (suc n))))
    where
      left : List Numbered
      left = left_after k ls

      states : List Instr
      states = below left (suc n)

      next : ℕ
      next = suc n + length states

      rest : List Instr
      rest = each_laid below ls ks next

      row : Instr
      row = record { token = k; down = target (suc n) states; over = target next ks; accepts = flat_map ended left }

      size : length (row ∷ (states ++ rest)) ≡ suc (length states + length rest)
      size = omega (arith, length-append states rest)

      -- a target of the row itself
      own : (t : ℕ) → In t (targets row)
          → ((t ≡ suc n) × (1 ≤ length states)) ⊎ ((t ≡ next) × (1 ≤ length rest))
      own t h = elim (from_in-append t (option_to_list row.down) (option_to_list row.over) h) [
        | inl i ↦ inl (from_in-target t (suc n) states i)
        | inr i ↦ (let e = from_in-target t next ks i in inr (e.0, each-some below ls ks next e.1))
      ]

      joined : AreInside (suc n) states → AreInside next rest → AreInside n (row ∷ (states ++ rest))
      joined a b = record {
        inside = λ t h.
            elim (from_in-append t (targets row) (flat_map targets (states ++ rest)) h) [
              | inl i ↦ elim (own t i) [
                | inl e ↦ (omega (arith, e.0), omega (arith, e.0, e.1, size))
                | inr e ↦ (omega (arith, e.0), omega (arith, e.0, e.1, size))
              ]
              | inr i ↦ elim (parts t i) [
                | inl j ↦ (let f = a.inside t j in (omega (arith, f.0), omega (arith, f.1, size)))
                | inr j ↦ (let f = b.inside t j in (omega (arith, f.0), omega (arith, f.1, size)))
              ]
            ];
        once = none-append (targets row) (flat_map targets (states ++ rest)) own_once
            (subst NoneTwice (sym (flat_map-append targets states rest))
            (none-append (flat_map targets states) (flat_map targets rest) a.once b.once
            (λ t i j. let f = a.inside t i in let g = b.inside t j in omega (arith, f.1, g.0))))
            (λ t i j. elim (own t i) [
              | inl e ↦ elim (parts t j) [
                | inl s ↦ (let f = a.inside t s in omega (arith, f.0, e.0))
                | inr s ↦ (let f = b.inside t s in omega (arith, f.0, e.0))
              ]
              | inr e ↦ elim (parts t j) [
                | inl s ↦ (let f = a.inside t s in omega (arith, f.1, e.0))
                | inr s ↦ (let f = b.inside t s in omega (arith, f.0, e.0))
              ]
            ]);
        forward = (
          (λ t i. elim (own t i) [ inl e ↦ omega (arith, e.0) | inr e ↦ omega (arith, e.0) ]),
          all_from-append (λ m i. (t : ℕ) → In t (targets i) → m < t) (suc n) states rest a.forward b.forward,
        );
      }
        where
          parts : (t : ℕ) → In t (flat_map targets (states ++ rest))
              → In t (flat_map targets states) ⊎ In t (flat_map targets rest)
          parts t h = from_in-append t (flat_map targets states) (flat_map targets rest)
              (subst (In t) (flat_map-append targets states rest) h)

          own_once : NoneTwice (targets row)
          own_once = none-append (option_to_list row.down) (option_to_list row.over) (none-target (suc n) states)
              (none-target next ks)
              (λ t i j. let e = from_in-target t (suc n) states i in let f = from_in-target t next ks j in
              omega (arith, e.0, e.1, f.0))

pub laid-inside : (d : ℕ) (ls : List Numbered) (n : ℕ) → AreInside n (laid d ls n)
laid-inside zero ls n = record { inside = λ t h. absurd h; once = tt; forward = tt }
laid-inside (suc d) ls n = each-inside (laid d) (laid-inside d) ls (heads (bare ls)) n

-- ---- lists of at most so many tokens

abbrev pub AreShort : ℕ → List Numbered → Type 0
AreShort d ls = AllByRecursion (λ l. length l.1 ≤ d) ls

pub short-left : (d : ℕ) (k : NetToken) (ls : List Numbered) → AreShort (suc d) ls → AreShort d (left_after k ls)
short-left d k [] h = tt
short-left d k ((n, []) ∷ ls) h = short-left d k ls h.1
short-left d k ((n, j ∷ js) ∷ ls) h = at (same_token j k) (short-left d k ls h.1)
  where
    at : (b : Bool) → AreShort d (left_after k ls)
        → AreShort d (map (λ ks. (n, ks)) (if b then js ∷ [] else []) ++ left_after k ls)
    at true r = (omega (arith, h.0), r)
    at false r = r

-- the first token of a list is one of the heads
known-head : (ls : List Numbered) (n : ℕ) (k : NetToken) (ks : Path) → In {X = Numbered} (n, k ∷ ks) ls
    → is_known same_token (heads (bare ls)) k ≡ true
known-head ls n k ks i = at (is_known same_token (heads (bare ls)) k) refl
  where
    at : (b : Bool) → is_known same_token (heads (bare ls)) k ≡ b → b ≡ true
    at true e = refl
    at false e =
        let u = (unknown-firsts [] (flat_map head_of (bare ls)) k e).1 in
        let j : In k (flat_map head_of (bare ls)) =
        in-flat head_of (k ∷ ks) k (bare ls) (in-map (λ (l : Numbered). l.1) (n, k ∷ ks) ls i) (inl refl) in
        let f = all_in (λ y. same_token y k ≡ false) (flat_map head_of (bare ls)) k u j in
        let g = same_token-itself k in cc

-- where a list goes on, there are states for it
known-some : (ks : List NetToken) (k : NetToken) → is_known same_token ks k ≡ true → 1 ≤ length ks
known-some [] k e = cc
known-some (j ∷ ks) k e = omega arith

target-some : {X : Type 0} (n : ℕ) (xs : List X) → 1 ≤ length xs → target n xs ≡ Some n
target-some n [] h = absurd (omega (arith, h))
target-some n (x ∷ xs) h = refl

laid-some : (d : ℕ) (ls : List Numbered) (n m : ℕ) (k : NetToken) (ks : Path) → AreShort d ls
    → In {X = Numbered} (m, k ∷ ks) ls → 1 ≤ length (laid d ls n)
laid-some zero ls n m k ks short i =
    absurd (let e = all_in (λ (l : Numbered). length l.1 ≤ 0) ls (m, k ∷ ks) short i in omega (arith, e))
laid-some (suc d) ls n m k ks short i =
    each-some (laid d) ls (heads (bare ls)) n (known-some (heads (bare ls)) k (known-head ls m k ks i))

-- what is left of a list
left-in : (ls : List Numbered) (n : ℕ) (k : NetToken) (ks : Path) → In {X = Numbered} (n, k ∷ ks) ls
    → In {X = Numbered} (n, ks) (left_after k ls)
left-in ls n k ks i = in-flat (λ (l : Numbered). map (λ ks. (l.0, ks)) (rest_after k l.1)) (n, k ∷ ks) (n, ks) ls i
    (let e = same_token-itself k in rw e (inl refl))

-- ---- each state accepts or leads down

leads-at : (d : ℕ) (left : List Numbered) (n : ℕ) (l : Numbered) → AreShort d left → In l left
    → flat_map ended left ≡ [] → IsSome (target (suc n) (laid d left (suc n)))
leads-at d left n (m, []) short i e =
    absurd (subst (In m) e (in-flat ended (m, []) m left i (inl refl)))
leads-at d left n (m, k ∷ ks) short i e =
    subst IsSome (sym (target-some (suc n) (laid d left (suc n)) (laid-some d left (suc n) m k ks short i))) refl

-- a list begins with each head
head-left : (ls : List Numbered) (k : NetToken) → In k (heads (bare ls)) → (l : Numbered) × In l (left_after k ls)
head-left ls k h = elim (from_in-firsts_after same_token k [] (flat_map head_of (bare ls)) h) [
  | inl i ↦ absurd i
  | inr i ↦ (let a = from_in-flat head_of k (bare ls) i in
      let b = from_in-map (λ (l : Numbered). l.1) a.0 ls a.1 in at a.0 b.0 b.1 b.2 a.2)
]
  where
    at : (q : Path) (l : Numbered) → q ≡ l.1 → In l ls → In k (head_of q) → (m : Numbered) × In m (left_after k ls)
    at [] l e i j = absurd j
    at (x ∷ q) l e i (inr j) = absurd j
    at (x ∷ q) l e i (inl s) =
        let z : (l.0, k ∷ q) ≡ l = λ r. (l.0, (ap (λ y. y ∷ q) s ∙ e) r) in
        ((l.0, q), left-in ls l.0 k q (subst (λ y. In {X = Numbered} y ls) (sym z) i))

pub laid-leads : (d : ℕ) (ls : List Numbered) (n : ℕ) → AreShort d ls
    → AllByRecursion (λ i. i.accepts ≡ [] → IsSome i.down) (laid d ls n)
laid-leads zero ls n short = tt
laid-leads (suc d) ls n short = each (heads (bare ls)) n (λ k i. i) (λ left m. laid-leads d left m)
  where
    each : (ks : List NetToken) (m : ℕ) → ((k : NetToken) → In k ks → In k (heads (bare ls)))
        → ((left : List Numbered) (j : ℕ) → AreShort d left
        → AllByRecursion (λ i. i.accepts ≡ [] → IsSome i.down) (laid d left j))
        → AllByRecursion (λ i. i.accepts ≡ [] → IsSome i.down) (each_laid (laid d) ls ks m)
    each [] m among ih = tt
    each (k ∷ ks) m among ih =
        let left = left_after k ls in
        let short_left = short-left d k ls short in
        let l = head-left ls k (among k (inl refl)) in (
          (λ e. leads-at d left m l.0 short_left l.1 e),
          all-append (λ i. i.accepts ≡ [] → IsSome i.down) (laid d left (suc m))
              (each_laid (laid d) ls ks (suc m + length (laid d left (suc m)))) (ih left (suc m) short_left)
              (each ks (suc m + length (laid d left (suc m))) (λ j i. among j (inr i)) ih),
        )

-- ---- the lists are paths

abbrev Listed : Type 0
Listed = ℕ × Path

module _ (code : List Instr) (forward : IsForward code) where
  -- the list is a path to an instruction that accepts, from a target on
  abbrev pub IsReached : Option ℕ → Path → Type 0
  IsReached t ks = (m : ℕ) × In {X = Listed} (m, ks) (lists (forest_of code t))

  -- from an instruction on: its own token alone, what goes on below it, and what is reached beside it
  reached-own : (n : ℕ) (i : Instr) → instr_at code n ≡ Some i → (r : ℕ) (rs : List ℕ) → i.accepts ≡ r ∷ rs
      → IsReached (Some n) (i.token ∷ [])
  reached-own n i held r rs e = (
    n,
    subst (λ f. In {X = Listed} (n, i.token ∷ []) (lists f))
        (sym (forest-step code forward n i held))
        (in-left {X = Listed} (n, i.token ∷ []) (map (λ m. (m, i.token ∷ [])) (leaf n i.accepts)) _
        (in-map (λ m. (m, i.token ∷ [])) n (leaf n i.accepts) (subst (λ z. In n (leaf n z)) (sym e) (inl refl)))),
  )

  reached-below : (n : ℕ) (i : Instr) → instr_at code n ≡ Some i → (ks : Path) → IsReached i.down ks
      → IsReached (Some n) (i.token ∷ ks)
  reached-below n i held ks h = (
    h.0,
    subst (λ f. In {X = Listed} (h.0, i.token ∷ ks) (lists f))
        (sym (forest-step code forward n i held))
        (in-right {X = Listed} (h.0, i.token ∷ ks) (map (λ m. (m, i.token ∷ [])) (leaf n i.accepts)) _
        (in-left {X = Listed} (h.0, i.token ∷ ks)
        (map (λ (l : Listed). (l.0, i.token ∷ l.1)) (lists (forest_of code i.down))) (lists (forest_of code i.over))
        (in-map (λ (l : Listed). (l.0, i.token ∷ l.1)) (h.0, ks) (lists (forest_of code i.down)) h.1))),
  )

  reached-beside : (n : ℕ) (i : Instr) → instr_at code n ≡ Some i → (ks : Path) → IsReached i.over ks
      → IsReached (Some n) ks
  reached-beside n i held ks h = (
    h.0,
    subst (λ f. In {X = Listed} (h.0, ks) (lists f))
        (sym (forest-step code forward n i held))
        (in-right {X = Listed} (h.0, ks) (map (λ m. (m, i.token ∷ [])) (leaf n i.accepts)) _
        (in-right {X = Listed} (h.0, ks)
        (map (λ (l : Listed). (l.0, i.token ∷ l.1)) (lists (forest_of code i.down))) (lists (forest_of code i.over))
        h.1)),
  )

  -- a list of which states stand in the table is reached from the first of them
  abbrev AreReached : ℕ → Type 0
  AreReached d = (ls : List Numbered) (before after : List Instr) (n : ℕ) → AreShort d ls
      → n ≡ suc (length before) → code ≡ before ++ (laid d ls n ++ after)
      → (m : ℕ) (k : NetToken) (ks : Path) → In {X = Numbered} (m, k ∷ ks) ls → IsReached (Some n) (k ∷ ks)

  module _ (d : ℕ) (below : AreReached d) (ls : List Numbered) (short : AreShort (suc d) ls)
      (after : List Instr) (m : ℕ) (k : NetToken) (ks : Path) (listed : In {X = Numbered} (m, k ∷ ks) ls) where
    -- with the token of an instruction
    here : (before : List Instr) (n : ℕ) (hs : List NetToken) → n ≡ suc (length before)
        → code ≡ before ++ (each_laid (laid d) ls (k ∷ hs) n ++ after) → (js : Path) → js ≡ ks
        → IsReached (Some n) (k ∷ js)
    here before n hs at whole [] e =
        let left = left_after k ls in
        let states = laid d left (suc n) in
        let i : Instr = record {
          token = k;
          down = target (suc n) states;
          over = target (suc n + length states) hs;
          accepts = flat_map ended left;
        } in
        let held : instr_at code n ≡ Some i = ap (instr_at code) at ∙ ap (λ z. slice_get z (length before)) whole
        ∙ get-seam before i ((states ++ each_laid (laid d) ls hs (suc n + length states)) ++ after) in
        let own : In {X = Numbered} (m, []) left =
        subst (λ z. In {X = Numbered} (m, z) left) (sym e) (left-in ls m k ks listed) in
        let accepts : In m (flat_map ended left) = in-flat ended (m, []) m left own (inl refl) in
        by_accepts i held (flat_map ended left) refl accepts
      where
        by_accepts : (i : Instr) → instr_at code n ≡ Some i → (rs : List ℕ) → i.accepts ≡ rs → In m rs
            → IsReached (Some n) (i.token ∷ [])
        by_accepts i held [] e h = absurd h
        by_accepts i held (r ∷ rs) e h = reached-own n i held r rs e
    here before n hs at whole (j ∷ js) e =
        let left = left_after k ls in
        let states = laid d left (suc n) in
        let rest = each_laid (laid d) ls hs (suc n + length states) in
        let i : Instr = record {
          token = k;
          down = target (suc n) states;
          over = target (suc n + length states) hs;
          accepts = flat_map ended left;
        } in
        let held : instr_at code n ≡ Some i = ap (instr_at code) at ∙ ap (λ z. slice_get z (length before)) whole
        ∙ get-seam before i ((states ++ rest) ++ after) in
        let own : In {X = Numbered} (m, j ∷ js) left =
        subst (λ z. In {X = Numbered} (m, z) left) (sym e) (left-in ls m k ks listed) in
        let short_left = short-left d k ls short in
        let size : suc n ≡ suc (length (before ++ (i ∷ []))) = omega (arith, at, length-append before (i ∷ [])) in
        let parts : code ≡ (before ++ (i ∷ [])) ++ (states ++ (rest ++ after)) =
        whole ∙ ap (λ z. before ++ (i ∷ z)) (append_assoc states rest after)
        ∙ sym (append_assoc before (i ∷ []) (states ++ (rest ++ after))) in
        let r = below left (before ++ (i ∷ [])) (rest ++ after) (suc n) short_left size parts m j js own in
        reached-below n i held (j ∷ js) (subst (λ t. IsReached t (j ∷ js))
        (sym (target-some (suc n) states (laid-some d left (suc n) m j js short_left own))) r)

    each-reached : (hs : List NetToken) (before : List Instr) (n : ℕ) → n ≡ suc (length before)
        → code ≡ before ++ (each_laid (laid d) ls hs n ++ after) → is_known same_token hs k ≡ true
        → IsReached (Some n) (k ∷ ks)
    each-reached [] before n at whole e = cc
    each-reached (h ∷ hs) before n at whole e =
        by_token (same_token h k) refl e (λ b j s w u. each-reached hs b j s w u)
      where
        states : List Instr
        states = laid d (left_after h ls) (suc n)

        next : ℕ
        next = suc n + length states

        row : Instr
        row = record {
          token = h;
          down = target (suc n) states;
          over = target next hs;
          accepts = flat_map ended (left_after h ls);
        }

        rest : List Instr
        rest = each_laid (laid d) ls hs next

        by_token : (b : Bool) → same_token h k ≡ b → (b || is_known same_token hs k) ≡ true
            → ((before : List Instr) (n : ℕ) → n ≡ suc (length before)
            → code ≡ before ++ (each_laid (laid d) ls hs n ++ after) → is_known same_token hs k ≡ true
            → IsReached (Some n) (k ∷ ks)) → IsReached (Some n) (k ∷ ks)
        by_token true s u ih =
            let z : h ≡ k = same_token-is h k s in
            here before n hs at (whole ∙ ap (λ y. before ++ (each_laid (laid d) ls (y ∷ hs) n ++ after)) z) ks refl
        by_token false s u ih =
            let held : instr_at code n ≡ Some row = ap (instr_at code) at
            ∙ ap (λ z. slice_get z (length before)) whole ∙ get-seam before row ((states ++ rest) ++ after) in
            let size : next ≡ suc (length (before ++ (row ∷ states))) =
            omega (arith, at, length-append before (row ∷ states)) in
            let parts : code ≡ (before ++ (row ∷ states)) ++ (rest ++ after) =
            whole ∙ ap (λ z. before ++ (row ∷ z)) (append_assoc states rest after)
            ∙ sym (append_assoc before (row ∷ states) (rest ++ after)) in
            reached-beside n row held (k ∷ ks) (subst (λ t. IsReached t (k ∷ ks))
            (sym (target-some next hs (known-some hs k u))) (ih (before ++ (row ∷ states)) next size parts u))

  pub laid-reached : (d : ℕ) → AreReached d
  laid-reached zero ls before after n short at whole m k ks i =
      absurd (let e = all_in (λ (l : Numbered). length l.1 ≤ 0) ls (m, k ∷ ks) short i in omega (arith, e))
  laid-reached (suc d) ls before after n short at whole m k ks i =
      each-reached d (laid-reached d) ls short after m k ks i (heads (bare ls)) before n at whole
      (known-head ls m k ks i)
