-- The wildcards of the variables of a path, occurrence by occurrence.
use Rattle.std.proofs.Common.{◌≡◌, ℕ, suc, ◌+◌, ◌<◌, List, [], ◌∷◌, ◌++◌, map, length, Bool, true, false}
use Rattle.std.proofs.Common.{refl, ap, sym, ◌∙◌, inl, inr, subst, arith, length-append, take}
use Rattle.std.specs.Prelude.{◌||◌, ◌&&◌, not, Option, Some, None, if◌then◌else◌, nat_eq, nat_lt, nat_le, slice_get}
use Rattle.std.specs.List.{list_any}
use Rattle.std.specs.Option.{option_map_or}
use Rattle.std.proofs.lemmas.Bool.{and_parts, and_from, or_right, not-true, not_from_false, ltb-true}
use Rattle.std.proofs.lemmas.Bool.{eqb-true, eq-eqb, lt-ltb, leb-true, le-leb, false_from_ne_true}
use Rattle.std.proofs.lemmas.List.{map-append, append_assoc, append-nil, take-append-le}
use Rattle.std.proofs.Math.Seq.{take-length}
use Rattle.mp_io.specs.Devices.{Text}
use Rattle.mp_term.specs.Listing.{In}
use Rattle.mp_term.proofs.SearchLaws.{in-right, from_in-append, from_in-map}
use Rattle.mp_pattern.specs.declared.limits.TheConstants.{MAX_VARIABLES}
use Rattle.mp_pattern.specs.Clash.{same_shape}
use Rattle.mp_pattern.specs.Firsts.{is_known, firsts_after, fresh_after}
use Rattle.mp_pattern.specs.NetTokens.{numbered, wild_token, sym_token, enter_token, leave_token, comm_token, NetToken}
use Rattle.mp_pattern.specs.PatternTree.{Wildcard, Pattern, symbol_pattern, app_pattern, wild_pattern, Patterns}
use Rattle.mp_pattern.specs.PatternTree.{no_patterns, more_patterns}
use Rattle.mp_pattern.specs.Value.{same_name}
use Rattle.mp_pattern.specs.Variables.{Use, uses, all_uses}
use Rattle.mp_pattern.proofs.ClashLaws.{same_shape-same, same_shape-itself}
use Rattle.mp_pattern.proofs.ItemLaws.{slice_get-found, slice_get-second}
use Rattle.mp_pattern.proofs.NameLaws.{same_name-is, same_name-itself}
use Rattle.mp_pattern.proofs.PlanLaws.{firsts_after-append}
use Rattle.mp_theory.proofs.FirstItems.{known-in}
use Rattle.mp_theory.proofs.FirstsLaws.{firsts_after-fresh, from_in-firsts_after}
use Rattle.mp_walk.specs.Walkable.{numbered_names}
use Rattle.mp_program.specs.TokenPaths.{are_numbered_from, differ, some_differ, token_uses}
use Rattle.mp_program.proofs.ListLaws.{list_any-none}
use Rattle.mp_walk.proofs.NumberedNames.{length-numbered_names}
use Rattle.mp_program.proofs.NameLaws.{numbered-front, numbered-names}
use Rattle.mp_program.proofs.PathLaws.{use_names}
use Rattle.mp_vm.specs.Looks.{place_of, placed, placed_in, all_placed_in, token_places, with_look, with_looks}
use Rattle.mp_vm.specs.Looks.{HasLooks}
use Rattle.mp_vm.proofs.PlaceLaws.{place_of-number, named-place_of, known-place_of}

-- ---- the occurrences of a token

mutual
  placed-uses : (f : Option ℕ) (p : Pattern) → map placed (uses f p) ≡ placed_in p
  placed-uses f (symbol_pattern n) = refl
  placed-uses f (app_pattern g ps) = placed-all_uses (Some g) ps
  placed-uses f (wild_pattern w None) = refl
  placed-uses f (wild_pattern w (Some x)) = refl

  placed-all_uses : (f : Option ℕ) (ps : Patterns) → map placed (all_uses f ps) ≡ all_placed_in ps
  placed-all_uses f no_patterns = refl
  placed-all_uses f (more_patterns p ps) =
      map-append placed (uses f p) (all_uses f ps)
      ∙ ap (λ us. us ++ map placed (all_uses f ps)) (placed-uses f p)
      ∙ ap (λ us. placed_in p ++ us) (placed-all_uses f ps)

pub placed-token_uses : (k : NetToken) → map placed (token_uses k) ≡ token_places k
placed-token_uses (sym_token n) = refl
placed-token_uses (enter_token f) = refl
placed-token_uses (leave_token f) = refl
placed-token_uses (wild_token w None) = refl
placed-token_uses (wild_token w (Some n)) = refl
placed-token_uses (comm_token p) = placed-uses None p

-- ---- right occurrences

-- the variables in order of first occurrence
abbrev pub first_names : List Use → List Text
first_names us = firsts_after same_name [] (use_names us)

-- the variables first occur as v0, v1 and so on; there are at most MAX_VARIABLES, each with one wildcard
abbrev pub are_right_uses : List Use → Bool
are_right_uses us = are_numbered_from 0 (first_names us)
    && (nat_le (length (first_names us)) MAX_VARIABLES && not (some_differ us))

-- ---- lists

pub any-in : {X : Type 0} (p : X → Bool) (xs : List X) (x : X) → In x xs → p x ≡ true → list_any p xs ≡ true
any-in p [] x i h = absurd i
any-in p (y ∷ xs) x (inl e) h = ap (λ b. b || list_any p xs) (ap p (sym e) ∙ h)
any-in p (y ∷ xs) x (inr i) h = or_right (p y) (list_any p xs) (any-in p xs x i h)

-- ---- names

numbered-at : (n : ℕ) (xs : List Text) (x : Text) (ys : List Text) → are_numbered_from n (xs ++ x ∷ ys) ≡ true
    → x ≡ numbered (n + length xs)
numbered-at n [] x ys h =
    same_name-is x (numbered n) (and_parts (same_name x (numbered n)) _ h).0
    ∙ ap numbered (let e : n ≡ n + 0 = omega arith in e)
numbered-at n (y ∷ xs) x ys h =
    numbered-at (suc n) xs x ys (and_parts (same_name y (numbered n)) _ h).1
    ∙ ap numbered (let e : suc n + length xs ≡ n + suc (length xs) = omega arith in e)

first_names-append : (us vs : List Use)
    → first_names (us ++ vs) ≡ firsts_after same_name (first_names us) (use_names vs)
first_names-append us vs = ap (firsts_after same_name []) (map-append (λ (u : Use). u.name) us vs)
    ∙ firsts_after-append same_name [] (use_names us) (use_names vs)

-- those of all begin with those of the first ones
first_names-front : (us vs : List Use)
    → first_names (us ++ vs) ≡ first_names us ++ fresh_after same_name (first_names us) (use_names vs)
first_names-front us vs = first_names-append us vs ∙ firsts_after-fresh same_name (first_names us) (use_names vs)

-- ---- occurrences that differ

differ-in : (us : List Use) (v u : Use) (rest : List Use) → In v us → differ v u ≡ true
    → some_differ (us ++ u ∷ rest) ≡ true
differ-in [] v u rest i h = absurd i
differ-in (x ∷ us) v u rest (inl e) h = ap (λ b. b || some_differ (us ++ u ∷ rest))
    (any-in (differ x) (us ++ u ∷ rest) u (in-right u us (u ∷ rest) (inl refl)) (ap (λ y. differ y u) (sym e) ∙ h))
differ-in (x ∷ us) v u rest (inr i) h =
    or_right (list_any (differ x) (us ++ u ∷ rest)) (some_differ (us ++ u ∷ rest)) (differ-in us v u rest i h)

none-differ : (us : List Use) → ((u v : Use) → In u us → In v us → differ u v ≡ false) → some_differ us ≡ false
none-differ [] h = refl
none-differ (u ∷ us) h = ap (λ b. b || some_differ us) (list_any-none (differ u) us (λ v i. h u v (inl refl) (inr i)))
    ∙ none-differ us (λ x y i j. h x y (inr i) (inr j))

differ-front : (us vs : List Use) → some_differ (us ++ vs) ≡ false → some_differ us ≡ false
differ-front us vs h = false_from_ne_true (some_differ us) (λ e. (
    let wrong : true ≡ false = sym (more us e) ∙ h in cc
    ))
  where
    any-more : (p : Use → Bool) (us : List Use) → list_any p us ≡ true → list_any p (us ++ vs) ≡ true
    any-more p [] e = cc
    any-more p (u ∷ us) e = elim (p u) as (λ b. (b || list_any p us) ≡ true → (b || list_any p (us ++ vs)) ≡ true)
        [ true ↦ λ e. refl | false ↦ λ e. any-more p us e ] e

    more : (us : List Use) → some_differ us ≡ true → some_differ (us ++ vs) ≡ true
    more [] e = cc
    more (u ∷ us) e = by_test (list_any (differ u) us) refl e (more us)
      where
        by_test : (b : Bool) → list_any (differ u) us ≡ b → (b || some_differ us) ≡ true
            → (some_differ us ≡ true → some_differ (us ++ vs) ≡ true)
            → (list_any (differ u) (us ++ vs) || some_differ (us ++ vs)) ≡ true
        by_test true q e go = ap (λ b. b || some_differ (us ++ vs)) (any-more (differ u) us q)
        by_test false q e go = or_right (list_any (differ u) (us ++ vs)) (some_differ (us ++ vs)) (go e)

-- right occurrences begin with right ones
pub right-front : (us vs : List Use) → are_right_uses (us ++ vs) ≡ true → are_right_uses us ≡ true
right-front us vs h =
    let rest = fresh_after same_name (first_names us) (use_names vs) in
    let a = and_parts (are_numbered_from 0 (first_names (us ++ vs))) _ h in
    let b = and_parts (nat_le (length (first_names (us ++ vs))) MAX_VARIABLES) _ a.1 in
    let split = first_names-front us vs in
    let few = leb-true (length (first_names (us ++ vs))) MAX_VARIABLES b.0 in
    let count : length (first_names (us ++ vs)) ≡ length (first_names us) + length rest =
    ap length split ∙ length-append (first_names us) rest in
    and_from (are_numbered_from 0 (first_names us)) _
    (numbered-front 0 (first_names us) rest (ap (are_numbered_from 0) (sym split) ∙ a.0))
    (and_from (nat_le (length (first_names us)) MAX_VARIABLES) _
    (le-leb (length (first_names us)) MAX_VARIABLES (omega (arith, few, count)))
    (not_from_false (some_differ us) (differ-front us vs (not-true (some_differ (us ++ vs)) b.1))))

-- ---- wildcards by places

-- no occurrence
pub no-looks : HasLooks [] []
no-looks = record { few = omega arith; names = refl; looks = λ u i. absurd i }

-- occurrences with one wildcard for each variable are right
pub right-looks : (us : List Use) (ws : List Wildcard) → HasLooks us ws → are_right_uses us ≡ true
right-looks us ws h =
    let count : length (first_names us) ≡ length ws = ap length h.names ∙ length-numbered_names (length ws) in
    and_from (are_numbered_from 0 (first_names us)) _ (ap (are_numbered_from 0) h.names ∙ numbered-names (length ws))
    (and_from (nat_le (length (first_names us)) MAX_VARIABLES) _
    (le-leb (length (first_names us)) MAX_VARIABLES (omega (arith, count, h.few)))
    (not_from_false (some_differ us) (none-differ us alike)))
  where
    alike : (u v : Use) → In u us → In v us → differ u v ≡ false
    alike u v i j = by_test (same_name u.name v.name) refl
      where
        by_test : (b : Bool) → same_name u.name v.name ≡ b → (b && not (same_shape u.wildcard v.wildcard)) ≡ false
        by_test false e = refl
        by_test true e =
            let both : Some u.wildcard ≡ Some v.wildcard = sym (h.looks u i)
            ∙ (ap (λ x. slice_get ws (place_of x)) (same_name-is u.name v.name e) ∙ h.looks v j) in
            let same : u.wildcard ≡ v.wildcard = cc in
            ap (λ w. not (same_shape u.wildcard w)) (sym same) ∙ ap not (same_shape-itself u.wildcard)

-- a variable is known where its place is below their number
pub known-looks : (us : List Use) (ws : List Wildcard) (h : HasLooks us ws) (x : Text)
    → is_known same_name (first_names us) x ≡ nat_lt (place_of x) (length ws)
known-looks us ws h x = ap (λ ys. is_known same_name ys x) h.names ∙ known-place_of (length ws) x h.few

-- the variables with one more occurrence
names-more : (us : List Use) (ws : List Wildcard) (h : HasLooks us ws) (u : Use) (b : Bool)
    → nat_lt (place_of u.name) (length ws) ≡ b
    → first_names (us ++ u ∷ []) ≡ (if b then numbered_names (length ws) else numbered_names (length ws) ++ u.name ∷ [])
names-more us ws h u b e =
    first_names-append us (u ∷ [])
    ∙ ap (λ c. if c then first_names us else first_names us ++ u.name ∷ []) (known-looks us ws h u.name ∙ e)
    ∙ ap (λ ys. if b then ys else ys ++ u.name ∷ []) h.names

-- one more occurrence that goes with the others
with-look : (us : List Use) (ws vs : List Wildcard) (u : Use) → HasLooks us ws → with_look ws (placed u) ≡ Some vs
    → HasLooks (us ++ u ∷ []) vs
with-look us ws vs u h e = by_old (nat_lt (place_of u.name) (length ws)) refl e
  where
    old : (w : Wildcard) → nat_lt (place_of u.name) (length ws) ≡ true → slice_get ws (place_of u.name) ≡ Some w
        → same_shape w u.wildcard ≡ true → HasLooks (us ++ u ∷ []) ws
    old w less at same = record {
      few = h.few;
      names = names-more us ws h u true less;
      looks = λ v i. elim (from_in-append v us (u ∷ []) i) [
        | inl j ↦ h.looks v j
        | inr j ↦ elim j [
          | inl q ↦ ap (λ (x : Use). slice_get ws (place_of x.name)) q
              ∙ at ∙ ap Some (same_shape-same w u.wildcard same) ∙ ap (λ (x : Use). Some x.wildcard) (sym q)
          | inr n ↦ absurd n
        ]
      ];
    }

    new : nat_lt (place_of u.name) (length ws) ≡ false → place_of u.name ≡ length ws → length ws < MAX_VARIABLES
        → HasLooks (us ++ u ∷ []) (ws ++ u.wildcard ∷ [])
    new less at few =
        let count : length (ws ++ u.wildcard ∷ []) ≡ suc (length ws) =
        omega (arith, length-append ws (u.wildcard ∷ [])) in
        let named : u.name ≡ numbered (length ws) =
        sym (named-place_of u.name (omega (arith, at, few))) ∙ ap numbered at in
        record {
          few = omega (arith, count, few);
          names = names-more us ws h u false less ∙ ap (λ x. numbered_names (length ws) ++ x ∷ []) named
              ∙ ap numbered_names (sym count);
          looks = λ v i. elim (from_in-append v us (u ∷ []) i) [
            | inl j ↦ slice_get-found ws (u.wildcard ∷ []) (place_of v.name) v.wildcard (h.looks v j)
            | inr j ↦ elim j [
              | inl q ↦ ap (λ (x : Use). slice_get (ws ++ u.wildcard ∷ []) (place_of x.name)) q
                  ∙ slice_get-second ws (u.wildcard ∷ []) 0 (place_of u.name) (omega (arith, at))
                  ∙ ap (λ (x : Use). Some x.wildcard) (sym q)
              | inr n ↦ absurd n
            ]
          ];
        }

    by_shape : (w : Wildcard) → nat_lt (place_of u.name) (length ws) ≡ true → slice_get ws (place_of u.name) ≡ Some w
        → (b : Bool) → same_shape w u.wildcard ≡ b → (if b then Some ws else None) ≡ Some vs
        → HasLooks (us ++ u ∷ []) vs
    by_shape w less at true q e =
        let same : ws ≡ vs = cc in subst (HasLooks (us ++ u ∷ [])) same (old w less at q)
    by_shape w less at false q e = cc

    by_place : nat_lt (place_of u.name) (length ws) ≡ true → (o : Option Wildcard)
        → slice_get ws (place_of u.name) ≡ o
        → (if option_map_or (λ w. same_shape w u.wildcard) o false then Some ws else None) ≡ Some vs
        → HasLooks (us ++ u ∷ []) vs
    by_place less None at e = cc
    by_place less (Some w) at e = by_shape w less at (same_shape w u.wildcard) refl e

    by_next : nat_lt (place_of u.name) (length ws) ≡ false → (b : Bool)
        → (nat_eq (place_of u.name) (length ws) && nat_lt (place_of u.name) MAX_VARIABLES) ≡ b
        → (if b then Some (ws ++ u.wildcard ∷ []) else None) ≡ Some vs → HasLooks (us ++ u ∷ []) vs
    by_next less false q e = cc
    by_next less true q e =
        let p = and_parts (nat_eq (place_of u.name) (length ws)) _ q in
        let at = eqb-true (place_of u.name) (length ws) p.0 in
        let few = ltb-true (place_of u.name) MAX_VARIABLES p.1 in
        let same : ws ++ u.wildcard ∷ [] ≡ vs = cc in
        subst (HasLooks (us ++ u ∷ [])) same (new less at (omega (arith, at, few)))

    by_old : (b : Bool) → nat_lt (place_of u.name) (length ws) ≡ b
        → (if b then (if option_map_or (λ w. same_shape w u.wildcard) (slice_get ws (place_of u.name)) false
        then Some ws else None) else (if nat_eq (place_of u.name) (length ws)
        && nat_lt (place_of u.name) MAX_VARIABLES then Some (ws ++ u.wildcard ∷ []) else None)) ≡ Some vs
        → HasLooks (us ++ u ∷ []) vs
    by_old true less e = by_place less (slice_get ws (place_of u.name)) refl e
    by_old false less e = by_next less
        (nat_eq (place_of u.name) (length ws) && nat_lt (place_of u.name) MAX_VARIABLES) refl e

-- where occurrences are right, each goes with those before it
keeps-look : (us : List Use) (ws : List Wildcard) (u : Use) (rest : List Use) → HasLooks us ws
    → are_right_uses (us ++ u ∷ rest) ≡ true → with_look ws (placed u) ≡ None → ⊥
keeps-look us ws u rest h right none = by_old (nat_lt (place_of u.name) (length ws)) refl none
  where
    first : (are_numbered_from 0 (first_names (us ++ u ∷ rest)) ≡ true)
        × ((nat_le (length (first_names (us ++ u ∷ rest))) MAX_VARIABLES
        && not (some_differ (us ++ u ∷ rest))) ≡ true)
    first = and_parts (are_numbered_from 0 (first_names (us ++ u ∷ rest))) _ right

    second : (nat_le (length (first_names (us ++ u ∷ rest))) MAX_VARIABLES ≡ true)
        × (not (some_differ (us ++ u ∷ rest)) ≡ true)
    second = and_parts (nat_le (length (first_names (us ++ u ∷ rest))) MAX_VARIABLES) _ first.1

    -- its variable is known, with another wildcard
    old : nat_lt (place_of u.name) (length ws) ≡ true
        → (if option_map_or (λ w. same_shape w u.wildcard) (slice_get ws (place_of u.name)) false
        then Some ws else None) ≡ None → ⊥
    old less e =
        let i = known-in same_name same_name-is (first_names us) u.name (known-looks us ws h u.name ∙ less) in
        elim (from_in-firsts_after same_name u.name [] (use_names us) i) [
          | inl n ↦ absurd n
          | inr j ↦
              let v = from_in-map (λ (x : Use). x.name) u.name us j in
              let at : slice_get ws (place_of u.name) ≡ Some v.0.wildcard =
              ap (λ x. slice_get ws (place_of x)) v.1 ∙ h.looks v.0 v.2 in
              by_shape v.0 v.1 v.2 (same_shape v.0.wildcard u.wildcard) refl
              (sym (ap (λ o. if option_map_or (λ w. same_shape w u.wildcard) o false then Some ws else None) at) ∙ e)
        ]
      where
        by_shape : (v : Use) → u.name ≡ v.name → In v us → (b : Bool) → same_shape v.wildcard u.wildcard ≡ b
            → (if b then Some ws else None) ≡ None → ⊥
        by_shape v named i true q e = cc
        by_shape v named i false q e =
            let same : same_name v.name u.name ≡ true = ap (λ x. same_name x u.name) (sym named)
            ∙ same_name-itself u.name in
            let apart : differ v u ≡ true = and_from (same_name v.name u.name) _ same
            (not_from_false (same_shape v.wildcard u.wildcard) q) in
            let wrong : true ≡ false = sym (differ-in us v u rest i apart)
            ∙ not-true (some_differ (us ++ u ∷ rest)) second.1 in cc

    -- it isn't, and is the next one
    new : nat_lt (place_of u.name) (length ws) ≡ false
        → (if nat_eq (place_of u.name) (length ws) && nat_lt (place_of u.name) MAX_VARIABLES
        then Some (ws ++ u.wildcard ∷ []) else None) ≡ None → ⊥
    new less e =
        let own = use_names (u ∷ rest) in
        let more = fresh_after same_name (numbered_names (length ws) ++ u.name ∷ []) (use_names rest) in
        let split : first_names (us ++ u ∷ rest) ≡ (numbered_names (length ws) ++ u.name ∷ []) ++ more =
        first_names-append us (u ∷ rest)
        ∙ ap (λ c. firsts_after same_name (if c then first_names us else first_names us ++ u.name ∷ [])
        (use_names rest)) (known-looks us ws h u.name ∙ less)
        ∙ ap (λ ys. firsts_after same_name (ys ++ u.name ∷ []) (use_names rest)) h.names
        ∙ firsts_after-fresh same_name (numbered_names (length ws) ++ u.name ∷ []) (use_names rest) in
        let whole : first_names (us ++ u ∷ rest) ≡ numbered_names (length ws) ++ (u.name ∷ more) =
        split ∙ append_assoc (numbered_names (length ws)) (u.name ∷ []) more in
        let named : u.name ≡ numbered (0 + length (numbered_names (length ws))) =
        numbered-at 0 (numbered_names (length ws)) u.name more (ap (are_numbered_from 0) (sym whole) ∙ first.0) in
        let count : length (first_names (us ++ u ∷ rest)) ≡ length (numbered_names (length ws)) + suc (length more) =
        ap length whole ∙ length-append (numbered_names (length ws)) (u.name ∷ more) in
        let few = leb-true (length (first_names (us ++ u ∷ rest))) MAX_VARIABLES second.0 in
        let size = length-numbered_names (length ws) in
        let number : 0 + length (numbered_names (length ws)) ≡ length ws = omega (arith, size) in
        let room : length ws < MAX_VARIABLES = omega (arith, count, few, size) in
        let at : place_of u.name ≡ length ws =
        ap place_of (named ∙ ap numbered number) ∙ place_of-number (length ws) room in
        let test : (nat_eq (place_of u.name) (length ws) && nat_lt (place_of u.name) MAX_VARIABLES) ≡ true =
        and_from (nat_eq (place_of u.name) (length ws)) _ (eq-eqb (place_of u.name) (length ws) at)
        (lt-ltb (place_of u.name) MAX_VARIABLES (omega (arith, at, room))) in
        let wrong : Some (ws ++ u.wildcard ∷ []) ≡ None =
        sym (ap (λ b. if b then Some (ws ++ u.wildcard ∷ []) else None) test) ∙ e in cc

    by_old : (b : Bool) → nat_lt (place_of u.name) (length ws) ≡ b
        → (if b then (if option_map_or (λ w. same_shape w u.wildcard) (slice_get ws (place_of u.name)) false
        then Some ws else None) else (if nat_eq (place_of u.name) (length ws)
        && nat_lt (place_of u.name) MAX_VARIABLES then Some (ws ++ u.wildcard ∷ []) else None)) ≡ None → ⊥
    by_old true less e = old less e
    by_old false less e = new less e

-- further occurrences that go with the others
pub with-looks : (us : List Use) (ws : List Wildcard) (more : List Use) (vs : List Wildcard) → HasLooks us ws
    → with_looks ws (map placed more) ≡ Some vs → HasLooks (us ++ more) vs
with-looks us ws [] vs h e =
    let same : ws ≡ vs = cc in
    subst (HasLooks (us ++ [])) same (subst (λ (l : List Use). HasLooks l ws) (sym (append-nil us)) h)
with-looks us ws (u ∷ more) vs h e = by_look (with_look ws (placed u)) refl e
    (λ ys k q. subst (λ (l : List Use). HasLooks l vs) (append_assoc us (u ∷ []) more)
    (with-looks (us ++ u ∷ []) ys more vs k q))
  where
    by_look : (o : Option (List Wildcard)) → with_look ws (placed u) ≡ o
        → (elim o as (λ _. Option (List Wildcard)) [ None ↦ None | Some ys ↦ with_looks ys (map placed more) ])
        ≡ Some vs
        → ((ys : List Wildcard) → HasLooks (us ++ u ∷ []) ys → with_looks ys (map placed more) ≡ Some vs
        → HasLooks (us ++ (u ∷ more)) vs) → HasLooks (us ++ (u ∷ more)) vs
    by_look None q e go = cc
    by_look (Some ys) q e go = go ys (with-look us ws ys u h q) e

-- and ones that don't: then no path that begins so is right
pub keeps-looks : (us : List Use) (ws : List Wildcard) (more : List Use) → HasLooks us ws
    → are_right_uses (us ++ more) ≡ true → with_looks ws (map placed more) ≡ None → ⊥
keeps-looks us ws [] h right e = (let wrong : Some ws ≡ None = e in cc)
keeps-looks us ws (u ∷ more) h right e = by_look (with_look ws (placed u)) refl e
    (λ ys k q. keeps-looks (us ++ u ∷ []) ys more k
    (ap are_right_uses (append_assoc us (u ∷ []) more) ∙ right) q)
  where
    by_look : (o : Option (List Wildcard)) → with_look ws (placed u) ≡ o
        → (elim o as (λ _. Option (List Wildcard)) [ None ↦ None | Some ys ↦ with_looks ys (map placed more) ]) ≡ None
        → ((ys : List Wildcard) → HasLooks (us ++ u ∷ []) ys → with_looks ys (map placed more) ≡ None → ⊥) → ⊥
    by_look None q e go = keeps-look us ws u more h right q
    by_look (Some ys) q e go = go ys (with-look us ws ys u h q) e

-- ---- the wildcards that were there

kept-more : {X : Type 0} (xs ys zs : List X) → take (length xs) ys ≡ xs → take (length ys) zs ≡ ys
    → take (length xs) zs ≡ xs
kept-more [] ys zs h k = refl
kept-more (x ∷ xs) [] zs h k = (let wrong : [] ≡ x ∷ xs = h in cc)
kept-more (x ∷ xs) (y ∷ ys) [] h k = (let wrong : [] ≡ y ∷ ys = k in cc)
kept-more (x ∷ xs) (y ∷ ys) (z ∷ zs) h k =
    let both : y ∷ take (length xs) ys ≡ x ∷ xs = h in
    let first : y ≡ x = cc in
    let rest : take (length xs) ys ≡ xs = cc in
    let pair : z ∷ take (length ys) zs ≡ y ∷ ys = k in
    let next : z ≡ y = cc in
    let more : take (length ys) zs ≡ ys = cc in
    λ i. (next ∙ first) i ∷ kept-more xs ys zs rest more i

look-kept : (ws : List Wildcard) (u : ℕ × Wildcard) (vs : List Wildcard) → with_look ws u ≡ Some vs
    → take (length ws) vs ≡ ws
look-kept ws u vs e = by_old (nat_lt u.0 (length ws)) e
  where
    by_known : (b : Bool) → (if b then Some ws else None) ≡ Some vs → take (length ws) vs ≡ ws
    by_known true e = (let both : Some ws ≡ Some vs = e in let same : ws ≡ vs = cc in
        ap (take (length ws)) (sym same) ∙ take-length ws)
    by_known false e = (let wrong : None ≡ Some vs = e in cc)

    by_new : (b : Bool) → (if b then Some (ws ++ u.1 ∷ []) else None) ≡ Some vs → take (length ws) vs ≡ ws
    by_new true e = (let both : Some (ws ++ u.1 ∷ []) ≡ Some vs = e in let same : ws ++ u.1 ∷ [] ≡ vs = cc in
        ap (take (length ws)) (sym same) ∙ take-append-le (length ws) ws (u.1 ∷ []) (omega arith) ∙ take-length ws)
    by_new false e = (let wrong : None ≡ Some vs = e in cc)

    by_old : (b : Bool)
        → (if b then (if option_map_or (λ w. same_shape w u.1) (slice_get ws u.0) false then Some ws else None) else
        (if nat_eq u.0 (length ws) && nat_lt u.0 MAX_VARIABLES then Some (ws ++ u.1 ∷ []) else None)) ≡ Some vs
        → take (length ws) vs ≡ ws
    by_old true e = by_known (option_map_or (λ w. same_shape w u.1) (slice_get ws u.0) false) e
    by_old false e = by_new (nat_eq u.0 (length ws) && nat_lt u.0 MAX_VARIABLES) e

-- further occurrences keep the wildcards that are there
pub looks-kept : (ws : List Wildcard) (us : List (ℕ × Wildcard)) (vs : List Wildcard) → with_looks ws us ≡ Some vs
    → take (length ws) vs ≡ ws
looks-kept ws [] vs e = (let both : Some ws ≡ Some vs = e in let same : ws ≡ vs = cc in
    ap (take (length ws)) (sym same) ∙ take-length ws)
looks-kept ws (u ∷ us) vs e = by_look (with_look ws u) refl e (λ zs k. looks-kept zs us vs k)
  where
    by_look : (o : Option (List Wildcard)) → with_look ws u ≡ o
        → (elim o as (λ _. Option (List Wildcard)) [ None ↦ None | Some zs ↦ with_looks zs us ]) ≡ Some vs
        → ((zs : List Wildcard) → with_looks zs us ≡ Some vs → take (length zs) vs ≡ zs) → take (length ws) vs ≡ ws
    by_look None k e rest = (let wrong : None ≡ Some vs = e in cc)
    by_look (Some zs) k e rest = kept-more ws zs vs (look-kept ws u zs k) (rest zs e)
