-- Naming the variables by their numbers changes no table.
use Rattle.std.proofs.Common.{◌≡◌, ℕ, zero, suc, ◌+◌, ◌<◌, ◌≤◌, List, [], ◌∷◌, ◌++◌, map, filter, length, Bool, true}
use Rattle.std.proofs.Common.{false, refl, ap, sym, ◌∙◌, inl, inr, subst, arith}
use Rattle.std.specs.Prelude.{◌&&◌, not, is_some, Option, Some, None, ◌^◌, flat_map, filter_map, option_map}
use Rattle.std.specs.Prelude.{option_and_then, if◌then◌else◌, decimal}
use Rattle.std.specs.List.{AllByRecursion, cons_option}
use Rattle.std.proofs.lemmas.Fmt.{decimal_injective}
use Rattle.std.proofs.lemmas.List.{map-append}
use Rattle.mp_term.specs.Order.{tree_cmp}
use Rattle.mp_term.specs.Listing.{In}
use Rattle.mp_term.specs.Signature.{Sig}
use Rattle.mp_term.specs.Tree.{Tree}
use Rattle.mp_pattern.specs.PatternTree.{Wildcard, dot, kind, plus, star, counted, optional, Pattern, symbol_pattern}
use Rattle.mp_pattern.specs.PatternTree.{app_pattern, wild_pattern, no_patterns, more_patterns}
use Rattle.mp_pattern.specs.Size.{pattern_nodes}
use Rattle.mp_pattern.specs.Variables.{Use, uses, variables, comm_above}
use Rattle.mp_pattern.specs.Value.{Value, Subst, Binding, same_name, merge}
use Rattle.mp_pattern.specs.Fits.{Entry, Table, is_left_out}
use Rattle.mp_pattern.proofs.NameLaws.{same_name-is, same_name-itself}
use Rattle.mp_theory.specs.Solve.{Taken, bind, given, solve}
use Rattle.mp_theory.specs.Frames.{Frame, Next, ended, refused, child, is_done, settle, start}
use Rattle.mp_term.specs.Search.{words}
use Rattle.mp_term.specs.Pieces.{pieces}
use Rattle.mp_theory.specs.Machine.{entries, default_passes, is_ended, entered, taken_out, onward, said, takes, reads}
use Rattle.mp_theory.specs.Machine.{choices, HasShape}
use Rattle.mp_theory.specs.Trail.{derivations}
use Rattle.mp_theory.specs.OneList.{item_tables}
use Rattle.mp_term.proofs.SearchLaws.{words-sound, words-complete, in-map}
use Rattle.mp_theory.proofs.Tables.{shape-accounts}
use Rattle.mp_theory.proofs.TrailLaws.{derivations-is}
use Rattle.mp_pattern.specs.NetTokens.{number_in, numbered, renamed, all_renamed}
use Rattle.mp_walk.proofs.ByRule.{renamed-sequence, flat-same}
use Rattle.mp_theory.proofs.FirstItems.{in-firsts_after}

-- so many names stand before one at most
pub number_in-most : (vs : List (List ℕ)) (x : List ℕ) → number_in vs x ≤ length vs
number_in-most [] x = omega arith
number_in-most (v ∷ vs) x = elim (same_name v x) as
    (λ b. (if b then 0 else number_in vs x + 1) ≤ length (v ∷ vs))
    [ true ↦ omega arith | false ↦ omega (arith, number_in-most vs x) ]

-- known names have different numbers
number-injective : (vs : List (List ℕ)) (x y : List ℕ) → In x vs → In y vs → number_in vs x ≡ number_in vs y → x ≡ y
number-injective [] x y i j e = absurd i
number-injective (v ∷ vs) x y i j e = by_tests (same_name v x) (same_name v y) refl refl e
    (λ k l m. number-injective vs x y k l m)
  where
    behind : (z : List ℕ) → same_name v z ≡ false → In z (v ∷ vs) → In z vs
    behind z p (inl q) = (let w : false ≡ true = sym p ∙ (ap (same_name v) q ∙ same_name-itself v) in cc)
    behind z p (inr q) = q

    by_tests : (a b : Bool) → same_name v x ≡ a → same_name v y ≡ b
        → (if a then 0 else number_in vs x + 1) ≡ (if b then 0 else number_in vs y + 1)
        → (In x vs → In y vs → number_in vs x ≡ number_in vs y → x ≡ y) → x ≡ y
    by_tests true true p q e go = sym (same_name-is v x p) ∙ same_name-is v y q
    by_tests true false p q e go = absurd (omega arith)
    by_tests false true p q e go = absurd (omega arith)
    by_tests false false p q e go = go (behind x p i) (behind y q j) (omega arith)

module _ (sig : Sig) (vs : List (List ℕ)) (few : length vs < 2 ^ 64) where
  abbrev pub new_name : List ℕ → List ℕ
  new_name y = numbered (number_in vs y)

  -- known names are the same exactly where their new names are
  pub same_new : (x y : List ℕ) → In x vs → In y vs → same_name (new_name x) (new_name y) ≡ same_name x y
  same_new x y i j = by_tests (same_name (new_name x) (new_name y)) (same_name x y) refl refl
    where
      by_tests : (a b : Bool) → same_name (new_name x) (new_name y) ≡ a → same_name x y ≡ b
          → same_name (new_name x) (new_name y) ≡ same_name x y
      by_tests true true p q = p ∙ sym q
      by_tests false false p q = p ∙ sym q
      by_tests true false p q =
          let e : 118 ∷ decimal (number_in vs x)
          ≡ 118 ∷ decimal (number_in vs y) = same_name-is (new_name x) (new_name y) p in
          let d : decimal (number_in vs x) ≡ decimal (number_in vs y) = cc in
          let n : number_in vs x ≡ number_in vs y = decimal_injective (number_in vs x) (number_in vs y)
          (omega (arith, number_in-most vs x)) (omega (arith, number_in-most vs y)) d in
          let w : false ≡ true = sym q ∙ (ap (same_name x) (sym (number-injective vs x y i j n))
          ∙ same_name-itself x) in
          cc
      by_tests false true p q = (let w : false ≡ true = sym p
          ∙ (ap (λ z. same_name (new_name x) (new_name z)) (sym (same_name-is x y q))
          ∙ same_name-itself (new_name x)) in cc)

  abbrev pub new_binding : Binding → Binding
  new_binding b = record { name = new_name b.name; value = b.value }

  abbrev pub new_subst : Subst → Subst
  new_subst s = map new_binding s

  abbrev pub new_taken : Taken → Taken
  new_taken t = record {
    by = record {
      name = new_name t.by.name;
      wildcard = t.by.wildcard;
      under =
          t.by.under;
    };
    terms = t.terms;
  }

  abbrev Known : Subst → Type 0
  Known s = AllByRecursion (λ b. In b.name vs) s

  abbrev KnownTakes : List Taken → Type 0
  KnownTakes ts = AllByRecursion (λ t. In t.by.name vs) ts

  bind-new : (s : Subst) (x : List ℕ) (w : Value) → Known s → In x vs
      → bind (new_subst s) (new_name x) w ≡ option_map new_subst (bind s x w)
  bind-new [] x w k i = refl
  bind-new (b ∷ s) x w k i =
      rw (same_new b.name x k.0 i) (elim (same_name b.name x) as (λ c.
      (if c then option_map (λ u. record { name = new_name b.name; value = u } ∷ new_subst s)
      (merge b.value w) else option_map (λ r. new_binding b ∷ r) (bind (new_subst s) (new_name x) w))
      ≡ option_map new_subst (if c then option_map (λ u. record { name = b.name; value = u } ∷ s)
      (merge b.value w) else option_map (λ r. b ∷ r) (bind s x w))) [
        | true ↦ elim (merge b.value w) as (λ o.
            option_map (λ u. record { name = new_name b.name; value = u } ∷ new_subst s) o
            ≡ option_map new_subst (option_map
            (λ u. record { name = b.name; value = u } ∷ s) o)) [ None ↦ refl | Some u ↦ refl ]
        | false ↦ ap (option_map (λ r. new_binding b ∷ r)) (bind-new s x w k.1 i)
            ∙ elim (bind s x w) as (λ o. option_map (λ r. new_binding b ∷ r) (option_map new_subst o)
            ≡ option_map new_subst (option_map (λ r. b ∷ r) o)) [ None ↦ refl | Some r ↦ refl ]
      ])

  known-bind : (s : Subst) (x : List ℕ) (w : Value) (r : Subst) → bind s x w ≡ Some r → Known s → In x vs → Known r
  known-bind [] x w r e k i = let p : record { name = x; value = w } ∷ [] ≡ r = cc in subst Known p (i, tt)
  known-bind (b ∷ s) x w r e k i = by_test (same_name b.name x) e (λ q f. known-bind s x w q f k.1 i)
    where
      by_test : (c : Bool) → (if c then option_map (λ u. record { name = b.name; value = u } ∷ s)
          (merge b.value w) else option_map (λ q. b ∷ q) (bind s x w)) ≡ Some r
          → ((q : Subst) → bind s x w ≡ Some q → Known q) → Known r
      by_test true e go = by_merge (merge b.value w) e
        where
          by_merge : (o : Option Value) → option_map (λ u. record { name = b.name; value = u } ∷ s) o ≡ Some r → Known r
          by_merge None e = cc
          by_merge (Some u) e = let p : record { name = b.name; value = u } ∷ s ≡ r = cc in subst Known p (k.0, k.1)
      by_test false e go = by_rest (bind s x w) refl e
        where
          by_rest : (o : Option Subst) → bind s x w ≡ o → option_map (λ q. b ∷ q) o ≡ Some r → Known r
          by_rest None p e = cc
          by_rest (Some q) p e = let z : b ∷ q ≡ r = cc in subst Known z (k.0, go q p)

  solve-new : (s : Subst) (ts : List Taken) → Known s → KnownTakes ts
      → solve sig (new_subst s) (map new_taken ts) ≡ option_map new_subst (solve sig s ts)
  solve-new s [] k h = refl
  solve-new s (t ∷ ts) k h =
      elim (given sig t.by.under t.by.wildcard t.terms) as
      (λ o. option_and_then (λ w. option_and_then (λ r. solve sig r (map new_taken ts))
      (bind (new_subst s) (new_name t.by.name) w)) o
      ≡ option_map new_subst (option_and_then
      (λ w. option_and_then (λ r. solve sig r ts) (bind s t.by.name w)) o)) [
        | None ↦ refl
        | Some w ↦ ap (option_and_then (λ r. solve sig r (map new_taken ts))) (bind-new s t.by.name w k h.0)
            ∙ after (bind s t.by.name w) (λ r e. solve-new r ts (known-bind s t.by.name w r e k h.0) h.1)
      ]
    where
      after : (o : Option Subst) → ((r : Subst) → o ≡ Some r
          → solve sig (new_subst r) (map new_taken ts) ≡ option_map new_subst (solve sig r ts))
          → option_and_then (λ r. solve sig r (map new_taken ts)) (option_map new_subst o)
          ≡ option_map new_subst (option_and_then (λ r. solve sig r ts) o)
      after None go = refl
      after (Some r) go = go r refl

  -- places with their patterns renamed
  abbrev new_frame : Frame → Frame
  new_frame f = record { under = f.under; children = all_renamed vs f.children; left = f.left; owes = f.owes }

  abbrev new_next : Next → Next
  new_next ended = ended
  new_next refused = refused
  new_next (child p f fs) = child (renamed vs p) (new_frame f) (map new_frame fs)

  settle-new : (fs : List Frame) → settle (map new_frame fs) ≡ new_next (settle fs)
  settle-new [] = refl
  settle-new (f ∷ fs) =
      elim f.children as (λ c. settle (record {
        under = f.under;
        children = all_renamed vs c;
        left = f.left;
        owes =
            f.owes;
      } ∷ map new_frame fs) ≡ new_next
      (elim c [
        | no_patterns ↦ if is_done f.left f.owes then settle fs else refused
        | more_patterns p ps ↦ child p
            (record f { children = ps }) fs
      ])) [
        | no_patterns ↦ elim (is_done f.left f.owes) as
            (λ b. (if b then settle (map new_frame fs) else refused)
            ≡ new_next (if b then settle fs else refused)) [ true ↦ settle-new fs | false ↦ refl ]
        | more_patterns p ps ↦ refl
      ]

  left-new : (w : Wildcard) (x y : Option (List ℕ)) (l : List Tree)
      → is_left_out (wild_pattern w x) l ≡ is_left_out (wild_pattern w y) l
  left-new dot x y l = refl
  left-new (counted n b) x y l = refl
  left-new (kind k) x y l = refl
  left-new plus x y l = refl
  left-new star x y l = refl
  left-new (optional d) x y [] = refl
  left-new (optional d) x y (t ∷ l) = refl

  onward-new : (n : Next) (e : Entry) → onward (new_next n) e ≡ new_next (onward n e)
  onward-new ended e = refl
  onward-new refused e = refl
  onward-new (child (symbol_pattern m) f fs) e = settle-new (taken_out (symbol_pattern m) e f ∷ fs)
  onward-new (child (app_pattern g ps) f fs) e =
      settle-new (entered (app_pattern g ps) e (taken_out (app_pattern g ps) e f ∷ fs))
  onward-new (child (wild_pattern w x) f fs) e =
      rw (left-new w (option_map new_name x) x e.terms) (settle-new (taken_out (wild_pattern w x) e f ∷ fs))

  filter-same : (a b : Entry → Bool) (xs : List Entry) → ((x : Entry) → a x ≡ b x) → filter a xs ≡ filter b xs
  filter-same a b [] h = refl
  filter-same a b (x ∷ xs) h = rw (h x) (elim (b x) as
      (λ c. (if c then x ∷ filter a xs else filter a xs)
      ≡ (if c then x ∷ filter b xs else filter b xs)) [
        | true ↦ ap (λ ys. x ∷ ys)
            (filter-same a b xs h)
        | false ↦ filter-same a b xs h
      ])

  passes-new : (x : Option (List ℕ)) (w : Wildcard) (l : List Tree)
      → default_passes sig (option_map new_name x) w l ≡ default_passes sig x w l
  passes-new None w l = refl
  passes-new (Some x) dot l = refl
  passes-new (Some x) (kind k) l = refl
  passes-new (Some x) plus l = refl
  passes-new (Some x) star l = refl
  passes-new (Some x) (counted n b) l = refl
  passes-new (Some x) (optional d) [] = refl
  passes-new (Some x) (optional d) (t ∷ l) = refl

  reads-new : (p : Pattern) (u : Option ℕ) (e : Entry) → reads sig (renamed vs p) u e ≡ reads sig p u e
  reads-new (symbol_pattern n) u e = refl
  reads-new (wild_pattern w x) u e = ap (λ b. not e.collapsed && (is_some (given sig u w e.terms) && b))
      (passes-new x w e.terms)
  reads-new (app_pattern g ps) u e = rw (renamed-sequence vs ps) refl

  choices-new : (n : Next) → choices sig (new_next n) ≡ choices sig n
  choices-new ended = refl
  choices-new refused = refl
  choices-new (child p f fs) = filter-same (reads sig (renamed vs p) f.under) (reads sig p f.under)
      (entries (pieces tree_cmp (comm_above sig f.under) f.left)) (λ e. reads-new p f.under e)

  ended-new : (n : Next) → is_ended (new_next n) ≡ is_ended n
  ended-new ended = refl
  ended-new refused = refl
  ended-new (child p f fs) = refl

  said-new : (n : Next) (e : Entry) → said (new_next n) e ≡ map new_taken (said n e)
  said-new ended e = refl
  said-new refused e = refl
  said-new (child (symbol_pattern m) f fs) e = refl
  said-new (child (app_pattern g ps) f fs) e = refl
  said-new (child (wild_pattern w None) f fs) e = refl
  said-new (child (wild_pattern w (Some x)) f fs) e = refl

  takes-new : (n : Next) (T : Table) → takes (new_next n) T ≡ map new_taken (takes n T)
  takes-new n [] = refl
  takes-new n (e ∷ T) =
      ap (λ ts. ts ++ takes (onward (new_next n) e) T) (said-new n e)
      ∙ ap (λ m. map new_taken (said n e) ++ takes m T) (onward-new n e)
      ∙ ap (λ ts. map new_taken (said n e) ++ ts) (takes-new (onward n e) T)
      ∙ sym (map-append new_taken (said n e) (takes (onward n e) T))

  abbrev Words : ℕ → Next → List Table
  Words k n = words (choices sig) onward is_ended k n

  words-new : (k : ℕ) (n : Next) → Words k (new_next n) ≡ Words k n
  words-new zero n = rw (ended-new n) refl
  words-new (suc k) n =
      ap (flat_map (λ e. map (λ w. e ∷ w) (Words k (onward (new_next n) e)))) (choices-new n)
      ∙ flat-same (λ e. map (λ w. e ∷ w) (Words k (onward (new_next n) e)))
      (λ e. map (λ w. e ∷ w) (Words k (onward n e))) (choices sig n)
      (λ e. ap (λ m. map (λ w. e ∷ w) (Words k m)) (onward-new n e)
      ∙ ap (map (λ w. e ∷ w)) (words-new k (onward n e)))

  -- tables with what solves them, by two searches that solve the same ones
  kept-same : (f g : Table → Option Subst) (Ts : List Table)
      → ((T : Table) → In T Ts → f T ≡ option_map new_subst (g T))
      → item_tables (filter_map (λ T. option_map (λ r. (T, r)) (f T)) Ts)
      ≡ item_tables (filter_map (λ T. option_map (λ r. (T, r)) (g T)) Ts)
  kept-same f g [] h = refl
  kept-same f g (T ∷ Ts) h =
      rw (h T (inl refl)) (elim (g T) as (λ o.
      item_tables (cons_option (option_map (λ r. (T, r)) (option_map new_subst o))
      (filter_map (λ U. option_map (λ r. (U, r)) (f U)) Ts))
      ≡ item_tables (cons_option (option_map (λ r. (T, r)) o)
      (filter_map (λ U. option_map (λ r. (U, r)) (g U)) Ts))) [
        | None ↦ kept-same f g Ts (λ U i. h U (inr i))
        | Some r ↦ ap (λ Us. T ∷ Us) (kept-same f g Ts (λ U i. h U (inr i)))
      ])

  known-by : (ts : List Taken) (us : List Use) → map (λ t. t.by) ts ≡ us → ((u : Use) → In u us → In u.name vs)
      → KnownTakes ts
  known-by [] us e h = tt
  known-by (t ∷ ts) [] e h = cc
  known-by (t ∷ ts) (u ∷ us) e h =
      let p : t.by ≡ u = cc in
      let q : map (λ t. t.by) ts ≡ us = cc in
      (subst (λ z. In z.name vs) (sym p) (h u (inl refl)), known-by ts us q (λ v i. h v (inr i)))

-- the search for the renamed pattern lists the tables of the pattern
pub renamed-listed : (sig : Sig) (p : Pattern) (t : Tree) → length (variables p) < 2 ^ 64
    → item_tables (derivations sig (pattern_nodes p) (settle (start (renamed (variables p) p) t)) [] [])
    ≡ item_tables (derivations sig (pattern_nodes p) (settle (start p t)) [] [])
renamed-listed sig p t few =
    let vs : List (List ℕ) = variables p in
    let n : Next = settle (start p t) in
    let f : Table → Option Subst = λ T. solve sig [] (takes (settle (start (renamed (variables p) p) t)) T) in
    let g : Table → Option Subst = λ T. solve sig [] (takes (settle (start p t)) T) in
    ap item_tables (derivations-is sig (pattern_nodes p) (settle (start (renamed (variables p) p) t)) [] [])
    ∙ ap (λ Ts. item_tables (filter_map (λ T. option_map (λ r. (T, r)) (f T)) Ts))
    (words-new sig (variables p) few (pattern_nodes p) (settle (start p t)))
    ∙ kept-same sig (variables p) few f g (words (choices sig) onward is_ended (pattern_nodes p) (settle (start p t)))
    (λ T i.
    let a = (words-sound (choices sig) onward is_ended (pattern_nodes p) (settle (start p t)) T i).1 in
    let k = known-by sig (variables p) few (takes (settle (start p t)) T) (uses None p) (shape-accounts sig p t T a).1
    (λ u j. in-firsts_after same_name same_name-is [] (map (λ v. v.name) (uses None p)) u.name
    (inr (in-map (λ v. v.name) u (uses None p) j))) in
    ap (solve sig []) (takes-new sig (variables p) few (settle (start p t)) T)
    ∙ solve-new sig (variables p) few [] (takes (settle (start p t)) T) tt k)
    ∙ ap item_tables (sym (derivations-is sig (pattern_nodes p) (settle (start p t)) [] []))

-- what solves the takes of the renamed pattern is what solves those of the pattern, with its variables renamed
pub renamed-solved : (sig : Sig) (p : Pattern) (t : Tree) (few : length (variables p) < 2 ^ 64) (T : Table) (r : Subst)
    → HasShape sig (renamed (variables p) p) t T
    → solve sig [] (takes (settle (start (renamed (variables p) p) t)) T) ≡ Some r
    → (s : Subst) × HasShape sig p t T × (solve sig [] (takes (settle (start p t)) T) ≡ Some s)
    × (new_subst sig (variables p) few s ≡ r)
renamed-solved sig p t few T r shape h =
    let w = words-complete (choices sig) onward is_ended (settle (start (renamed (variables p) p) t)) T shape in
    let a = (words-sound (choices sig) onward is_ended (length T) (settle (start p t)) T
    (subst (In T) (words-new sig (variables p) few (length T) (settle (start p t))) w)).1 in
    let k = known-by sig (variables p) few (takes (settle (start p t)) T) (uses None p) (shape-accounts sig p t T a).1
    (λ u j. in-firsts_after same_name same_name-is [] (map (λ v. v.name) (uses None p)) u.name
    (inr (in-map (λ v. v.name) u (uses None p) j))) in
    let b = inverse (solve sig [] (takes (settle (start p t)) T))
    (sym (ap (solve sig []) (takes-new sig (variables p) few (settle (start p t)) T)
    ∙ solve-new sig (variables p) few [] (takes (settle (start p t)) T) tt k) ∙ h) in
    (b.0, a, b.1, b.2)
  where
    inverse : (o : Option Subst) → option_map (new_subst sig (variables p) few) o ≡ Some r
        → (s : Subst) × (o ≡ Some s) × (new_subst sig (variables p) few s ≡ r)
    inverse None e = cc
    inverse (Some s) e = (s, refl, cc)
