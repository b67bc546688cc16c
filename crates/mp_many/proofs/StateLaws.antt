-- Each state of the tree is the prefix at its place, with its first child, its next sibling and the rules it accepts.
use Rattle.std.proofs.Common.{◌≡◌, ℕ, zero, suc, ◌+◌, List, [], ◌∷◌, ◌++◌, map, length, drop, true, false, refl}
use Rattle.std.proofs.Common.{ap, sym, ◌∙◌, inl, inr, subst, arith, append_assoc, append-nil}
use Rattle.std.specs.Prelude.{Some, flat_map, slice_get, ⊤}
use Rattle.std.specs.List.{AllByRecursion}
use Rattle.std.proofs.lemmas.List.{length-append, length-map, map-append}
use Rattle.std.proofs.Math.Seq.{drop-append_seam}
use Rattle.mp_term.specs.Listing.{In}
use Rattle.mp_term.proofs.ListLaws.{all-append}
use Rattle.mp_term.proofs.ListingLaws.{all_in}
use Rattle.mp_term.specs.Signature.{Sig}
use Rattle.mp_pattern.specs.Admission.{Rule}
use Rattle.mp_pattern.specs.NetTokens.{NetToken, same_token}
use Rattle.mp_theory.proofs.FirstsLaws.{Distinct, distinct-firsts}
use Rattle.mp_walk.specs.Instrs.{Instr}
use Rattle.mp_walk.specs.Walkable.{Path}
use Rattle.mp_many.specs.Prefixes.{head_of, heads, rests, prefixes_within, same_tokens, child_among, next_child}
use Rattle.mp_many.specs.Prefixes.{accepted_by, token_lists, token_count, prefixes, IsState}
use Rattle.mp_many.specs.Laid.{Numbered, bare, left_after, ended, target, each_laid, laid, numbered_from}
use Rattle.mp_many.proofs.TokenLists.{same_tokens-itself, same_token-turned, is_child, NoChild, child-below}
use Rattle.mp_many.proofs.TokenLists.{other-child}
use Rattle.mp_many.proofs.TokenLists.{child-skipped, child-none}
use Rattle.mp_many.proofs.LaidLaws.{bare-left, bare-numbered, led, length-laid, target-length, among, among-left}
use Rattle.mp_many.proofs.LaidLaws.{ended-among, accepted_by-among}

-- ---- items with their numbers

-- P holds of each item with its number, the first of which is n
abbrev pub AllFrom : {X : Type 0} → (ℕ → X → Type 0) → ℕ → List X → Type 0
AllFrom P n [] = ⊤
AllFrom P n (x ∷ xs) = P n x × AllFrom P (suc n) xs

pub all_from-append : {X : Type 0} (P : ℕ → X → Type 0) (n : ℕ) (xs ys : List X) → AllFrom P n xs
    → AllFrom P (n + length xs) ys → AllFrom P n (xs ++ ys)
all_from-append P n [] ys h k = let e : n + 0 ≡ n = omega arith in subst (λ m. AllFrom P m ys) e k
all_from-append P n (x ∷ xs) ys h k =
    let e : n + suc (length xs) ≡ suc n + length xs = omega arith in
    (h.0, all_from-append P (suc n) xs ys h.1 (subst (λ m. AllFrom P m ys) e k))

pub all_from-at : {X : Type 0} (P : ℕ → X → Type 0) (n i : ℕ) (xs : List X) (x : X) → AllFrom P n xs
    → slice_get xs i ≡ Some x → P (n + i) x
all_from-at P n i [] x h e = cc
all_from-at P n zero (y ∷ ys) x h e =
    let same : y ≡ x = let w : Some y ≡ Some x = e in cc in
    let m : n ≡ n + 0 = omega arith in
    subst (P (n + 0)) same (subst (λ k. P k y) m h.0)
all_from-at P n (suc i) (y ∷ ys) x h e =
    let m : suc n + i ≡ n + suc i = omega arith in
    subst (λ k. P k x) m (all_from-at P (suc n) i ys x h.1 e)

-- the item where two lists meet
pub get-seam : {X : Type 0} (xs : List X) (y : X) (ys : List X) → slice_get (xs ++ (y ∷ ys)) (length xs) ≡ Some y
get-seam [] y ys = refl
get-seam (x ∷ xs) y ys = get-seam xs y ys

-- ---- prefixes below one

-- the lists with the tokens `above` in front
abbrev pub put : Path → List Path → List Path
put above qs = map (λ q. above ++ q) qs

-- the lists with k in front
abbrev pub onto : NetToken → List Path → List Path
onto k qs = map (λ q. k ∷ q) qs

put-onto : (above : Path) (k : NetToken) (qs : List Path) → put above (onto k qs) ≡ put (above ++ (k ∷ [])) qs
put-onto above k [] = refl
put-onto above k (q ∷ qs) = λ i. sym (append_assoc above (k ∷ []) q) i ∷ put-onto above k qs i

put-nothing : (qs : List Path) → put [] qs ≡ qs
put-nothing [] = refl
put-nothing (q ∷ qs) = ap (λ rs. q ∷ rs) (put-nothing qs)

-- no prefix is empty
full-onto : (k : NetToken) (qs : List Path) → AllByRecursion (λ q. same_tokens q [] ≡ false) (onto k qs)
full-onto k [] = tt
full-onto k (q ∷ qs) = (refl, full-onto k qs)

full-led : (d : ℕ) (ls : List Numbered) (ks : List NetToken)
    → AllByRecursion (λ q. same_tokens q [] ≡ false) (led d ls ks)
full-led d ls [] = tt
full-led d ls (k ∷ ks) = (
  refl,
  all-append (λ q. same_tokens q [] ≡ false)
      (onto k (prefixes_within d (rests k (bare ls)))) (led d ls ks)
      (full-onto k (prefixes_within d (rests k (bare ls)))) (full-led d ls ks),
)

pub full-prefixes : (d : ℕ) (ls : List Numbered)
    → AllByRecursion (λ q. same_tokens q [] ≡ false) (prefixes_within d (bare ls))
full-prefixes zero ls = tt
full-prefixes (suc d) ls = full-led d ls (heads (bare ls))

-- the first prefix is a single token
pub first-prefix : (d : ℕ) (ls : List Path) (q : Path) (qs : List Path) → prefixes_within d ls ≡ q ∷ qs
    → (k : NetToken) × (q ≡ k ∷ [])
first-prefix zero ls q qs e = cc
first-prefix (suc d) ls q qs e = by_heads (heads ls) e
  where
    by_heads : (ks : List NetToken)
        → flat_map (λ k. (k ∷ []) ∷ map (λ ks. k ∷ ks) (prefixes_within d (rests k ls))) ks ≡ q ∷ qs
        → (k : NetToken) × (q ≡ k ∷ [])
    by_heads [] e = cc
    by_heads (k ∷ ks) e = (k, let h : q ≡ k ∷ [] = cc in h)

-- what begins with another token is no child
onto-apart : (above : Path) (k j : NetToken) (ms : Path) (qs : List Path) → same_token k j ≡ false
    → NoChild (above ++ (j ∷ ms)) (put above (onto k qs))
onto-apart above k j ms [] e = tt
onto-apart above k j ms (q ∷ qs) e =
    (child-below above k q (j ∷ ms) ∙ other-child k j q ms e, onto-apart above k j ms qs e)

led-apart : (above : Path) (d : ℕ) (ls : List Numbered) (k : NetToken) (ms : Path) (ks : List NetToken)
    → AllByRecursion (λ j. same_token k j ≡ false) ks → NoChild (above ++ (k ∷ ms)) (put above (led d ls ks))
led-apart above d ls k ms [] h = tt
led-apart above d ls k ms (j ∷ ks) h =
    let qs = prefixes_within d (rests j (bare ls)) in
    let apart = same_token-turned k j h.0 in (
      child-below above j [] (k ∷ ms) ∙ other-child j k [] ms apart,
      subst (NoChild (above ++ (k ∷ ms))) (sym (map-append (λ q. above ++ q) (onto j qs) (led d ls ks)))
          (all-append (λ q. is_child (above ++ (k ∷ ms)) q ≡ false) (put above (onto j qs)) (put above (led d ls ks))
          (onto-apart above j k ms qs apart) (led-apart above d ls k ms ks h.1)),
    )

-- nor is what goes two tokens beyond
deeper-apart : (above : Path) (k : NetToken) (qs : List Path) → AllByRecursion (λ q. same_tokens q [] ≡ false) qs
    → NoChild above (put above (onto k qs))
deeper-apart above k [] h = tt
deeper-apart above k ([] ∷ qs) h = absurd (let f : true ≡ false = h.0 in cc)
deeper-apart above k ((j ∷ q) ∷ qs) h = (
  ap (λ p. is_child p (above ++ (k ∷ j ∷ q))) (sym (append-nil above)) ∙ child-below above k (j ∷ q) [],
  deeper-apart above k qs h.1,
)

-- the first child below a prefix
first-child : (above : Path) (k : NetToken) (d : ℕ) (ls : List Path) (m : ℕ) (rest : List Path)
    → NoChild (above ++ (k ∷ [])) rest
    → child_among m (put above (onto k (prefixes_within d ls)) ++ rest) (above ++ (k ∷ []))
    ≡ target m (prefixes_within d ls)
first-child above k d ls m rest free = by_form (prefixes_within d ls) refl
  where
    by_form : (qs : List Path) → prefixes_within d ls ≡ qs
        → child_among m (put above (onto k qs) ++ rest) (above ++ (k ∷ [])) ≡ target m qs
    by_form [] e = child-none (above ++ (k ∷ [])) m rest free
    by_form (q ∷ qs) e =
        let f = first-prefix d ls q qs e in
        let c : is_child (above ++ (k ∷ [])) (above ++ (k ∷ q)) ≡ true =
        ap (λ r. is_child (above ++ (k ∷ [])) (above ++ (k ∷ r))) f.1 ∙ child-below above k (f.0 ∷ []) (k ∷ [])
        ∙ same_tokens-itself (k ∷ []) in
        rw c refl

-- the first of what stands beside one another
first-sibling : (above : Path) (d : ℕ) (ls : List Numbered) (ks : List NetToken) (m : ℕ) (rest : List Path)
    → NoChild above rest → child_among m (put above (led d ls ks) ++ rest) above ≡ target m ks
first-sibling above d ls [] m rest free = child-none above m rest free
first-sibling above d ls (k ∷ ks) m rest free =
    let c : is_child above (above ++ (k ∷ [])) ≡ true =
    ap (λ p. is_child p (above ++ (k ∷ []))) (sym (append-nil above)) ∙ child-below above k [] [] in
    rw c refl

-- ---- the states

module _ (all lists : List Path) where
  -- the state of the number, among prefixes of lists
  pub record IsStateOf (number : ℕ) (i : Instr) : Type 0 where
    pub parent : Path
    pub prefix : slice_get ([] ∷ all) number ≡ Some (parent ++ (i.token ∷ []))
    pub down : i.down ≡ next_child all (parent ++ (i.token ∷ [])) 0
    pub over : i.over ≡ next_child all parent number
    pub accepts : i.accepts ≡ accepted_by 0 lists (parent ++ (i.token ∷ []))

  -- where the states of what is left of lists stand, below a prefix: among all prefixes theirs come behind some, none
  -- of which goes one token beyond one of theirs, and before some, none of which goes one beyond what is above
  record Stands (ls : List Numbered) (above : Path) (ks : List NetToken) (own before after : List Path)
      (n : ℕ) : Type 0 where
    pub number : n ≡ suc (length before)
    pub whole : all ≡ before ++ (put above own ++ after)
    pub free_before : (k : NetToken) (ms : Path) → In k ks → NoChild (above ++ (k ∷ ms)) before
    pub free_after : (ms : Path) → NoChild (above ++ ms) after
    pub accepted : (js : Path) → accepted_by 0 lists (above ++ js) ≡ among ls js

  abbrev AreStates : ℕ → Type 0
  AreStates d = (ls : List Numbered) (above : Path) (before after : List Path) (n : ℕ)
      → Stands ls above (heads (bare ls)) (prefixes_within d (bare ls)) before after n
      → AllFrom IsStateOf n (laid d ls n)

  module _ (d : ℕ) (below : AreStates d) (ls : List Numbered) (above : Path) where
    module _ (k : NetToken) (ks : List NetToken) (before after : List Path) (n : ℕ)
        (distinct : Distinct same_token (k ∷ ks))
        (st : Stands ls above (k ∷ ks) (led d ls (k ∷ ks)) before after n) where
      abbrev own : Path
      own = above ++ (k ∷ [])

      abbrev left : List Numbered
      left = left_after k ls

      abbrev states : List Instr
      states = laid d left (suc n)

      abbrev deeper : List Path
      deeper = prefixes_within d (rests k (bare ls))

      abbrev inner : List Path
      inner = put above (onto k deeper)

      abbrev beside : List Path
      beside = put above (led d ls ks)

      size : length states ≡ length deeper
      size = length-laid d left (suc n) ∙ ap (λ ms. length (prefixes_within d ms)) (bare-left k ls)

      whole : all ≡ before ++ (own ∷ (inner ++ (beside ++ after)))
      whole = st.whole
          ∙ ap (λ z. before ++ (own ∷ (z ++ after))) (map-append (λ q. above ++ q) (onto k deeper) (led d ls ks))
          ∙ ap (λ z. before ++ (own ∷ z)) (append_assoc inner beside after)

      with_own : all ≡ (before ++ (own ∷ [])) ++ (inner ++ (beside ++ after))
      with_own = whole ∙ sym (append_assoc before (own ∷ []) (inner ++ (beside ++ after)))

      length_own : length (before ++ (own ∷ [])) ≡ n
      length_own = let e = length-append before (own ∷ []) in omega (arith, e, st.number)

      own_apart : (ms : Path) → is_child (above ++ (k ∷ ms)) own ≡ false
      own_apart ms = child-below above k [] (k ∷ ms)

      before_apart : (ms : Path) → NoChild (above ++ (k ∷ ms)) (before ++ (own ∷ []))
      before_apart ms = all-append (λ q. is_child (above ++ (k ∷ ms)) q ≡ false) before (own ∷ [])
          (st.free_before k ms (inl refl)) (own_apart ms, tt)

      after_apart : (ms : Path) → NoChild (above ++ (k ∷ ms)) (beside ++ after)
      after_apart ms = all-append (λ q. is_child (above ++ (k ∷ ms)) q ≡ false) beside after
          (led-apart above d ls k ms ks distinct.0) (st.free_after (k ∷ ms))

      above_free : NoChild above after
      above_free = subst (λ p. NoChild p after) (append-nil above) (st.free_after [])

      prefix_is : slice_get ([] ∷ all) n ≡ Some own
      prefix_is = ap (slice_get ([] ∷ all)) st.number ∙ ap (λ z. slice_get z (length before)) whole
          ∙ get-seam before own (inner ++ (beside ++ after))

      down_is : target (suc n) states ≡ next_child all own 0
      down_is = target-length (suc n) states deeper size
          ∙ sym (first-child above k d (rests k (bare ls)) (suc n) (beside ++ after) (after_apart []))
          ∙ (let e : suc n ≡ 1 + length (before ++ (own ∷ [])) = omega (arith, length_own) in
          ap (λ m. child_among m (inner ++ (beside ++ after)) own) e)
          ∙ sym (child-skipped own 1 (before ++ (own ∷ [])) (inner ++ (beside ++ after)) (before_apart []))
          ∙ ap (λ z. child_among 1 z own) (sym with_own)

      over_is : target (suc n + length states) ks ≡ next_child all above n
      over_is = sym (first-sibling above d ls ks (suc n + length states) after above_free)
          ∙ (let e : suc n + length states ≡ suc n + length inner =
          let f = length-map (onto k deeper) (λ q. above ++ q) in
          let g = length-map deeper (λ q. k ∷ q) in omega (arith, size, f, g) in
          ap (λ m. child_among m (beside ++ after) above) e)
          ∙ sym (child-skipped above (suc n) inner (beside ++ after)
          (deeper-apart above k deeper (subst (λ ms. AllByRecursion (λ q. same_tokens q [] ≡ false)
          (prefixes_within d ms)) (bare-left k ls) (full-prefixes d left))))
          ∙ ap (λ z. child_among (suc n) z above) (sym rest_is)
        where
          rest_is : drop n all ≡ inner ++ (beside ++ after)
          rest_is = ap (λ m. drop m all) (sym length_own) ∙ ap (drop (length (before ++ (own ∷ [])))) with_own
              ∙ drop-append_seam (before ++ (own ∷ [])) (inner ++ (beside ++ after))

      accepts_are : flat_map ended left ≡ accepted_by 0 lists own
      accepts_are = ended-among left ∙ sym (among-left k [] ls) ∙ sym (st.accepted (k ∷ []))

      -- the state of k itself
      state_of : IsStateOf n (record {
        token = k;
        down = target (suc n) states;
        over = target (suc n + length states) ks;
        accepts = flat_map ended left;
      })
      state_of = record {
        parent = above;
        prefix = prefix_is;
        down = down_is;
        over = over_is;
        accepts = accepts_are;
      }

      -- where those below it stand
      stands_below : Stands left own (heads (bare left)) (prefixes_within d (bare left)) (before ++ (own ∷ []))
          (beside ++ after) (suc n)
      stands_below = record {
        number = omega (arith, length_own);
        whole = with_own ∙ ap (λ z. (before ++ (own ∷ [])) ++ (z ++ (beside ++ after)))
            (put-onto above k deeper ∙ ap (λ ms. put own (prefixes_within d ms)) (sym (bare-left k ls)));
        free_before = λ j ms i. subst (λ p. NoChild p (before ++ (own ∷ [])))
            (sym (append_assoc above (k ∷ []) (j ∷ ms))) (before_apart (j ∷ ms));
        free_after = λ ms. subst (λ p. NoChild p (beside ++ after)) (sym (append_assoc above (k ∷ []) ms))
            (after_apart ms);
        accepted = λ js. ap (accepted_by 0 lists) (append_assoc above (k ∷ []) js) ∙ st.accepted (k ∷ js)
            ∙ among-left k js ls;
      }

      -- and where those beside it stand
      stands_beside : Stands ls above ks (led d ls ks) (before ++ (own ∷ inner)) after (suc n + length states)
      stands_beside = record {
        number =
            let e = length-append before (own ∷ inner) in
            let f = length-map (onto k deeper) (λ q. above ++ q) in
            let g = length-map deeper (λ q. k ∷ q) in
            omega (arith, e, f, g, size, st.number);
        whole = whole ∙ sym (append_assoc before (own ∷ inner) (beside ++ after));
        free_before = λ j ms i.
            let apart = all_in (λ j. same_token k j ≡ false) ks j distinct.0 i in
            all-append (λ q. is_child (above ++ (j ∷ ms)) q ≡ false) before (own ∷ inner)
            (st.free_before j ms (inr i))
            (child-below above k [] (j ∷ ms) ∙ other-child k j [] ms apart, onto-apart above k j ms deeper apart);
        free_after = st.free_after;
        accepted = st.accepted;
      }

    each-states : (ks : List NetToken) (before after : List Path) (n : ℕ) → Distinct same_token ks
        → Stands ls above ks (led d ls ks) before after n → AllFrom IsStateOf n (each_laid (laid d) ls ks n)
    each-states [] before after n distinct st = tt
    each-states (k ∷ ks) before after n distinct st =
        let inside = laid d (left_after k ls) (suc n) in (
          state_of k ks before after n distinct st,
          all_from-append IsStateOf (suc n) inside (each_laid (laid d) ls ks (suc n + length inside))
              (below (left_after k ls) (above ++ (k ∷ []))
              (before ++ ((above ++ (k ∷ [])) ∷ [])) (put above (led d ls ks) ++ after) (suc n)
              (stands_below k ks before after n distinct st))
              (each-states ks (before ++ ((above ++ (k ∷ []))
              ∷ put above (onto k (prefixes_within d (rests k (bare ls)))))) after (suc n + length inside) distinct.1
              (stands_beside k ks before after n distinct st)),
        )

  laid-states : (d : ℕ) → AreStates d
  laid-states zero ls above before after n st = tt
  laid-states (suc d) ls above before after n st =
      each-states d (laid-states d) ls above (heads (bare ls)) before after n
      (distinct-firsts same_token [] (flat_map head_of (bare ls)) tt) st

-- the states of rules
pub states-are : (sig : Sig) (rules : List Rule) → let ls = token_lists sig rules in
    AllFrom (IsState sig rules) 1 (laid (token_count ls) (numbered_from 0 ls) 1)
states-are sig rules =
    let ls = token_lists sig rules in
    let d = token_count ls in
    let all = prefixes sig rules in
    whole (laid d (numbered_from 0 ls) 1) 1 (laid-states all ls d (numbered_from 0 ls) [] [] [] 1 (record {
      number = refl;
      whole = ap (prefixes_within d) (sym (bare-numbered 0 ls))
          ∙ sym (append-nil (put [] (prefixes_within d (bare (numbered_from 0 ls)))) ∙ put-nothing _);
      free_before = λ k ms i. tt;
      free_after = λ ms. tt;
      accepted = accepted_by-among 0 ls;
    }))
  where
    whole : (is : List Instr) (n : ℕ)
        → AllFrom (IsStateOf (prefixes sig rules) (token_lists sig rules)) n is → AllFrom (IsState sig rules) n is
    whole [] n h = tt
    whole (i ∷ is) n h = (
      record {
        parent = h.0.parent;
        prefix = h.0.prefix;
        down = h.0.down;
        over = h.0.over;
        accepts = h.0.accepts;
      },
      whole is (suc n) h.1,
    )
