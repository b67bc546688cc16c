-- Bounds on what rules ask for.
use Rattle.std.proofs.Common.{◌≡◌, ℕ, zero, suc, ◌+◌, ◌^◌, ◌<◌, ◌≤◌, List, [], ◌∷◌, ◌++◌, true, false}
use Rattle.std.proofs.Common.{refl, ap, sym}
use Rattle.std.proofs.Common.{◌∙◌, inl, inr, subst, map, length, length-append, drop, arith}
use Rattle.std.specs.Prelude.{Some, None, if◌then◌else◌, slice_get, option_map}
use Rattle.std.specs.List.{AllByRecursion, cons_option}
use Rattle.mp_term.specs.Listing.{In}
use Rattle.mp_term.proofs.ListLaws.{all-append, all-also}
use Rattle.mp_pattern.specs.PatternTree.{Pattern, symbol_pattern, app_pattern, wild_pattern, Patterns, no_patterns}
use Rattle.mp_pattern.specs.PatternTree.{more_patterns, pattern_list}
use Rattle.mp_pattern.specs.Size.{pattern_nodes, all_pattern_nodes}
use Rattle.mp_pattern.proofs.OnePattern.{has_nodes}
use Rattle.mp_net.specs.Net as net
use Rattle.mp_net.specs.View.{mark_of, open_of}
use Rattle.mp_net.specs.Items.{opens, items_from, first_of}
use Rattle.mp_net.specs.Short.{IsShort, AreShort}
use Rattle.mp_net.specs.Turned.{asked, heads_of, below_each, AreAsked}
use Rattle.mp_net.specs.Entered.{unless_empty}
use Rattle.mp_net.specs.declared.mark.Mark.{Mark}
use Rattle.mp_net.specs.declared.item.Item.{Item}
use Rattle.mp_net.proofs.TurnLaws.{ruled, first-some}
use Rattle.mp_net.specs.declared.limits.TheConstants.{MAX_STATES}

-- the mark has fewer than `MAX_STATES` arguments
abbrev pub IsNarrow : net.Mark → Type 0
IsNarrow g = net.arity g < MAX_STATES

length-anythings : (k : ℕ) → length (net.anythings k) ≡ k
length-anythings zero = refl
length-anythings (suc k) = ap (λ n. suc n) (length-anythings k)

narrow-anythings : (k : ℕ) → AllByRecursion IsNarrow (net.anythings k)
narrow-anythings zero = tt
narrow-anythings (suc k) = (omega arith, narrow-anythings k)

-- what is short by a bound is so by a greater one
pub all_short-more : (n k : ℕ) → n ≤ k → (os : List net.Open) → AreShort n os → AreShort k os
all_short-more n k w os a =
    all-also (λ o. IsShort n o.rest) (λ o. IsShort k o.rest) (λ o h. (omega (arith, w, h.0), h.1)) os a

-- what goes on below a head asks for fewer places than `MAX_STATES` more
short-below : (n : ℕ) (h : net.Mark) (os : List net.Open) → IsNarrow h → AreShort n os
    → AreShort (n + MAX_STATES) (net.going (net.below h) os)
short-below n h [] w a = tt
short-below n h (o ∷ os) w a = by_rest (short-below n h os w a.1) o.rest a.0
  where
    by_rest : AreShort (n + MAX_STATES) (net.going (net.below h) os) → (m : List net.Mark) → IsShort n m
        → AreShort (n + MAX_STATES)
        (cons_option (option_map (ruled o.rule) (net.below h m)) (net.going (net.below h) os))
    by_rest i [] s = i
    by_rest i (net.anything ∷ m) s =
        let k = net.arity h in
        let c : length (net.anythings k ++ m) ≡ k + length m =
        length-append (net.anythings k) m ∙ ap (λ j. j + length m) (length-anythings k) in
        let l = s.0 in
        ((omega (arith, c, l, w), all-append IsNarrow (net.anythings k) m (narrow-anythings k) s.1.1), i)
    by_rest i (net.named j ∷ m) s =
        let l = s.0 in
        let shorter : length m < n + MAX_STATES = omega (arith, l) in
        elim (net.same_mark (net.named j) h) as
        (λ b. AreShort (n + MAX_STATES)
        (cons_option (option_map (ruled o.rule) (if b then Some m else None)) (net.going (net.below h) os)))
        [ true ↦ ((shorter, s.1.1), i) | false ↦ i ]
    by_rest i (net.entered f j ∷ m) s =
        let l = s.0 in
        let shorter : length m < n + MAX_STATES = omega (arith, l) in
        elim (net.same_mark (net.entered f j) h) as
        (λ b. AreShort (n + MAX_STATES)
        (cons_option (option_map (ruled o.rule) (if b then Some m else None)) (net.going (net.below h) os)))
        [ true ↦ ((shorter, s.1.1), i) | false ↦ i ]

short-behind : (n : ℕ) (os : List net.Open) → AreShort n os → AreShort n (net.going net.behind os)
short-behind n [] a = tt
short-behind n (o ∷ os) a = by_rest (short-behind n os a.1) o.rest a.0
  where
    by_rest : AreShort n (net.going net.behind os) → (m : List net.Mark) → IsShort n m
        → AreShort n (cons_option (option_map (ruled o.rule) (net.behind m)) (net.going net.behind os))
    by_rest i [] s = i
    by_rest i (net.anything ∷ m) s = let l = s.0 in ((omega (arith, l), s.1.1), i)
    by_rest i (net.named j ∷ m) s = i
    by_rest i (net.entered f j ∷ m) s = i

-- a head that is asked for has few arguments
narrow-asked : (n : ℕ) (os : List net.Open) (g : net.Mark) → AreShort n os → In g (heads_of os) → IsNarrow g
narrow-asked n [] g a i = absurd i
narrow-asked n (o ∷ os) g a i = by_rest (narrow-asked n os g a.1) o.rest a.0 i
  where
    here : (h : net.Mark) → IsNarrow h → (In g (heads_of os) → IsNarrow g) → In g (h ∷ heads_of os) → IsNarrow g
    here h w r (inl e) = subst IsNarrow (sym e) w
    here h w r (inr j) = r j

    by_rest : (In g (heads_of os) → IsNarrow g) → (m : List net.Mark) → IsShort n m
        → In g (cons_option (asked m) (heads_of os)) → IsNarrow g
    by_rest r [] s i = r i
    by_rest r (net.anything ∷ m) s i = r i
    by_rest r (net.named k ∷ m) s i = here (net.named k) s.1.0 r i
    by_rest r (net.entered f k ∷ m) s i = here (net.entered f k) s.1.0 r i

pub narrow-heads : (n : ℕ) (os : List net.Open) (hs : List Mark) → AreShort n os → AreAsked os hs
    → AllByRecursion (λ h. IsNarrow (mark_of h)) hs
narrow-heads n os hs a h = all-also (λ g. In (mark_of g) (heads_of os)) (λ g. IsNarrow (mark_of g))
    (λ g i. narrow-asked n os (mark_of g) a i) hs h

-- the rules of the states that a state leads to
pub short-led : (n : ℕ) (ms : List (List net.Mark)) (os : List net.Open) (hs : List Mark) (is : List Item)
    → AreShort n os → AreAsked os hs → opens ms is ≡ net.going net.behind os
    → AllByRecursion (AreShort (n + MAX_STATES)) (below_each os (map mark_of hs) ++ map (opens ms) (unless_empty is))
short-led n ms os hs is a h e =
    all-append (AreShort (n + MAX_STATES)) (below_each os (map mark_of hs)) (map (opens ms) (unless_empty is))
    (each hs (narrow-heads n os hs a h)) (by_items is e)
  where
    each : (hs : List Mark) → AllByRecursion (λ h. IsNarrow (mark_of h)) hs
        → AllByRecursion (AreShort (n + MAX_STATES)) (below_each os (map mark_of hs))
    each [] w = tt
    each (h ∷ hs) w = (short-below n (mark_of h) os w.0 a, each hs w.1)

    more : (n : ℕ) → n ≤ n + MAX_STATES
    more n = omega arith

    by_items : (is : List Item) → opens ms is ≡ net.going net.behind os
        → AllByRecursion (AreShort (n + MAX_STATES)) (map (opens ms) (unless_empty is))
    by_items [] k = tt
    by_items (i ∷ is) k = (
      subst (AreShort (n + MAX_STATES)) (sym k)
          (all_short-more n (n + MAX_STATES) (more n) (net.going net.behind os) (short-behind n os a)),
      tt,
    )

-- below each head the places of which a rule asks nothing can be counted
pub wildcard-fits : (ms : List (List net.Mark)) (h : Mark) (x : Item) (o : net.Open) (hs : List Mark)
    → Some (mark_of h, open_of ms x) ≡ first_of o.rule o.rest → IsShort (2 ^ 32) o.rest
    → AllByRecursion (λ g. IsNarrow (mark_of g)) hs → AllByRecursion (λ g. x.free + net.arity (mark_of g) < 2 ^ 64) hs
wildcard-fits ms h x o hs f s w =
    let u = open_of ms x in
    let behind = drop x.at (net.held_or [] (slice_get ms x.rule)) in
    let e : o ≡ ruled u.rule (mark_of h ∷ u.rest) = first-some o u (mark_of h) f in
    let l : length o.rest ≡ suc (length u.rest) = ap (λ p. length p.rest) e in
    let c : length u.rest ≡ x.free + length behind =
    length-append (net.anythings x.free) behind ∙ ap (λ j. j + length behind) (length-anythings x.free) in
    let few : x.free < 2 ^ 32 = omega (arith, s.0, l, c) in
    all-also (λ g. IsNarrow (mark_of g)) (λ g. x.free + net.arity (mark_of g) < 2 ^ 64)
    (λ g k. omega (arith, few, k)) hs w

-- rules as they begin
held-short : (ms : List (List net.Mark)) (i : ℕ) → AllByRecursion (IsShort MAX_STATES) ms
    → IsShort MAX_STATES (net.held_or [] (slice_get ms i))
held-short [] i a = (omega arith, tt)
held-short (m ∷ ms) zero a = a.0
held-short (m ∷ ms) (suc i) a = held-short ms i a.1

pub starts-short : (ms : List (List net.Mark)) (i n : ℕ) → AllByRecursion (IsShort MAX_STATES) ms
    → AreShort MAX_STATES (opens ms (items_from i n))
starts-short ms i zero a = tt
starts-short ms i (suc n) a = (held-short ms i a, starts-short ms (suc i) n a)

mutual
  -- a pattern in a list is a node at least
  length-patterns : (ps : Patterns) → length (pattern_list ps) ≤ all_pattern_nodes ps
  length-patterns no_patterns = omega arith
  length-patterns (more_patterns p ps) = let a = has_nodes p in let b = length-patterns ps in omega (arith, a, b)

mutual
  -- few nodes have few arguments each
  pub narrow-marks : (p : Pattern) → pattern_nodes p < MAX_STATES → AllByRecursion IsNarrow (net.marks p)
  narrow-marks (symbol_pattern n) h = (omega arith, tt)
  narrow-marks (app_pattern f ps) h =
      let a = length-patterns ps in
      (omega (arith, h, a), narrow-all_marks ps (omega (arith, h)))
  narrow-marks (wild_pattern w x) h = (omega arith, tt)

  narrow-all_marks : (ps : Patterns) → all_pattern_nodes ps < MAX_STATES → AllByRecursion IsNarrow (net.all_marks ps)
  narrow-all_marks no_patterns h = tt
  narrow-all_marks (more_patterns p ps) h =
      all-append IsNarrow (net.marks p) (net.all_marks ps) (narrow-marks p (omega (arith, h)))
      (narrow-all_marks ps (omega (arith, h)))
