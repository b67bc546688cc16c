-- A normal form is formed where its pattern is: its operations allow the arguments that normalising leaves, and its
-- symbols stay.
use Rattle.std.proofs.Common.{◌≡◌, ℕ, zero, suc, ◌+◌, ◌≤◌, Bool, true, false, ◌&&◌, ◌||◌, not, List, [], ◌∷◌, ◌++◌}
use Rattle.std.proofs.Common.{Option, Some, None, refl, ap, sym, ◌∙◌, subst, arith, eqb-true}
use Rattle.std.specs.Prelude.{⊤, nat_eq, nat_le, slice_get, if◌then◌else◌}
use Rattle.std.specs.List.{AllByRecursion}
use Rattle.std.proofs.lemmas.Bool.{leb-true, le-leb, and_parts, and_from, not-true}
use Rattle.mp_term.specs.declared.signature.OpDecl.{OpDecl}
use Rattle.mp_term.specs.Sorting.{sorted}
use Rattle.mp_term.specs.Signature.{Sig, holds_of, all_in_order, is_assoc, is_comm, is_one}
use Rattle.mp_term.proofs.SortedMeasures.{measure-sorted}
use Rattle.mp_term.proofs.WellFormedNormal.{in_order-at, assoc-not_fixed}
use Rattle.mp_term.proofs.ListLaws.{all-flat_map}
use Rattle.mp_pattern.specs.PatternTree.{Wildcard, dot, kind, plus, star, optional, counted, most, Pattern}
use Rattle.mp_pattern.specs.PatternTree.{symbol_pattern, app_pattern, wild_pattern, Patterns, no_patterns}
use Rattle.mp_pattern.specs.PatternTree.{more_patterns, pattern_list, patterns}
use Rattle.mp_pattern.specs.PatternLists.{pattern_list-patterns}
use Rattle.mp_pattern.specs.Order.{pattern_cmp}
use Rattle.mp_pattern.specs.Normal.{is_loose, unwrapped, parts, flattened, in_order, collapsed, normal_pattern}
use Rattle.mp_pattern.specs.Normal.{normal_patterns}
use Rattle.mp_pattern.specs.SoundRule.{pattern_least, pattern_most, fewest, sum_most, greatest, reaches}
use Rattle.mp_pattern.specs.SoundRule.{allows_patterns, IsFormed, AreFormed}
use Rattle.mp_pattern.specs.EachWildcard.{EachWildcard, AllEachWildcard}
use Rattle.mp_pattern.specs.SoundRule.{IsSoundWildcard, HasSymbols, HaveSymbols}
use Rattle.mp_pattern.proofs.NormalLaws.{all-in_order}
use Rattle.mp_pattern.proofs.SortedLaws.{all-sorted}
use Rattle.mp_term.specs.Tree.{Tree, symbol, app, Trees, no_trees, more_trees, tree_list, trees}
use Rattle.mp_term.specs.Order.{tree_cmp}
use Rattle.mp_term.specs.Normal as terms

-- ---- greatest numbers

-- the first is at most the second, where None is above all numbers
abbrev pub LeMost : Option ℕ → Option ℕ → Type 0
LeMost a None = ⊤
LeMost None (Some n) = ⊥
LeMost (Some m) (Some n) = m ≤ n

le_most-refl : (a : Option ℕ) → LeMost a a
le_most-refl None = tt
le_most-refl (Some n) = omega arith

le_most-sum : (a b c d : Option ℕ) → LeMost a c → LeMost b d → LeMost (sum_most a b) (sum_most c d)
le_most-sum a b None d h k = tt
le_most-sum a b (Some m) None h k = tt
le_most-sum None b (Some m) (Some n) h k = absurd h
le_most-sum (Some i) None (Some m) (Some n) h k = absurd k
le_most-sum (Some i) (Some j) (Some m) (Some n) h k = omega arith

sum_most-swap : (a b c : Option ℕ) → sum_most a (sum_most b c) ≡ sum_most b (sum_most a c)
sum_most-swap None None c = refl
sum_most-swap None (Some n) c = refl
sum_most-swap (Some m) None c = refl
sum_most-swap (Some m) (Some n) None = refl
sum_most-swap (Some m) (Some n) (Some o) = ap Some (swap m n o)
  where
    swap : (m n o : ℕ) → m + (n + o) ≡ n + (m + o)
    swap m n o = omega arith

sum_most-assoc : (a b c : Option ℕ) → sum_most (sum_most a b) c ≡ sum_most a (sum_most b c)
sum_most-assoc None b c = refl
sum_most-assoc (Some m) None c = refl
sum_most-assoc (Some m) (Some n) None = refl
sum_most-assoc (Some m) (Some n) (Some o) = ap Some (assoc m n o)
  where
    assoc : (m n o : ℕ) → (m + n) + o ≡ m + (n + o)
    assoc m n o = omega arith

sum_most-zero : (a : Option ℕ) → sum_most (Some 0) a ≡ a
sum_most-zero None = refl
sum_most-zero (Some n) = ap Some (zero-sum n)
  where
    zero-sum : (n : ℕ) → 0 + n ≡ n
    zero-sum n = omega arith

-- the greatest number of one pattern
one-most : (a : Option ℕ) → LeMost a (sum_most a (Some 0))
one-most None = tt
one-most (Some n) = omega arith

reaches-more : (n : ℕ) (a b : Option ℕ) → LeMost a b → reaches n a ≡ true → reaches n b ≡ true
reaches-more n a None l h = refl
reaches-more n None (Some m) l h = absurd l
reaches-more n (Some k) (Some m) l h = le-leb n m (omega (arith, leb-true n k h))

-- what reaches a number that isn't 0 reaches 1
reaches-one : (n : ℕ) (a : Option ℕ) → 1 ≤ n → reaches n a ≡ true → LeMost (Some 1) a
reaches-one n None le h = tt
reaches-one n (Some m) le h = omega (arith, leb-true n m h)

greatest-append : (assoc : Bool) (ps qs : List Pattern)
    → greatest assoc (ps ++ qs) ≡ sum_most (greatest assoc ps) (greatest assoc qs)
greatest-append assoc [] qs = sym (sum_most-zero (greatest assoc qs))
greatest-append assoc (p ∷ ps) qs =
    ap (sum_most (pattern_most assoc p)) (greatest-append assoc ps qs)
    ∙ sym (sum_most-assoc (pattern_most assoc p) (greatest assoc ps) (greatest assoc qs))

-- ---- one pattern

-- a pattern that isn't loose takes one argument at least
least-plain : (p : Pattern) → is_loose p ≡ false → pattern_least p ≡ 1
least-plain (symbol_pattern n) h = refl
least-plain (app_pattern f ps) h = refl
least-plain (wild_pattern dot x) h = refl
least-plain (wild_pattern (kind k) x) h = refl
least-plain (wild_pattern plus x) h = refl
least-plain (wild_pattern star x) h = cc
least-plain (wild_pattern (optional t) x) h = cc
least-plain (wild_pattern (counted n b) x) h = cc

-- and may take one
most-plain : (assoc : Bool) (p : Pattern) → is_loose p ≡ false → LeMost (Some 1) (pattern_most assoc p)
most-plain assoc (symbol_pattern n) h = omega arith
most-plain assoc (app_pattern f ps) h = omega arith
most-plain true (wild_pattern dot x) h = tt
most-plain false (wild_pattern dot x) h = omega arith
most-plain assoc (wild_pattern (kind k) x) h = omega arith
most-plain assoc (wild_pattern plus x) h = tt
most-plain assoc (wild_pattern star x) h = tt
most-plain assoc (wild_pattern (optional t) x) h = cc
most-plain assoc (wild_pattern (counted n b) x) h = cc

-- an operation allows other patterns that may take as many arguments, and at least as few
allows-alike : (ps qs : List Pattern) (d : OpDecl) → LeMost (greatest d.assoc ps) (greatest d.assoc qs)
    → fewest qs ≡ fewest ps → allows_patterns ps d ≡ true → allows_patterns qs d ≡ true
allows-alike ps qs d more few h =
    let p = and_parts (reaches d.least (greatest d.assoc ps)) (not d.fixed || nat_le (fewest ps) d.least) h in
    and_from (reaches d.least (greatest d.assoc qs)) (not d.fixed || nat_le (fewest qs) d.least)
    (reaches-more d.least (greatest d.assoc ps) (greatest d.assoc qs) more p.0)
    (ap (λ n. not d.fixed || nat_le n d.least) few ∙ p.1)

module _ (sig : Sig) where
  -- ---- arguments in normal form

  -- what is collapsed isn't loose
  pub is_loose-collapsed : (f : ℕ) (ps : List Pattern) → is_loose (collapsed sig f ps) ≡ false
  is_loose-collapsed f [] = refl
  is_loose-collapsed f (p ∷ []) = go (is_one sig f && not (is_loose p)) refl
    where
      go : (b : Bool) → (is_one sig f && not (is_loose p)) ≡ b
          → is_loose (if b then p else app_pattern f (more_patterns p no_patterns)) ≡ false
      go true e = not-true (is_loose p) (and_parts (is_one sig f) (not (is_loose p)) e).1
      go false e = refl
  is_loose-collapsed f (p ∷ q ∷ ps) = refl

  least-normal_pattern : (p : Pattern) → pattern_least (normal_pattern sig p) ≡ pattern_least p
  least-normal_pattern (symbol_pattern n) = refl
  least-normal_pattern (app_pattern f ps) = let l = in_order sig f (flattened sig f (normal_patterns sig ps)) in
      least-plain (collapsed sig f l) (is_loose-collapsed f l)
  least-normal_pattern (wild_pattern w x) = refl

  most-normal_pattern : (assoc : Bool) (p : Pattern)
      → LeMost (pattern_most assoc p) (pattern_most assoc (normal_pattern sig p))
  most-normal_pattern assoc (symbol_pattern n) = omega arith
  most-normal_pattern assoc (app_pattern f ps) = let l = in_order sig f (flattened sig f (normal_patterns sig ps)) in
      most-plain assoc (collapsed sig f l) (is_loose-collapsed f l)
  most-normal_pattern assoc (wild_pattern w x) = le_most-refl (most assoc w)

  fewest-normal_patterns : (ps : Patterns) → fewest (normal_patterns sig ps) ≡ fewest (pattern_list ps)
  fewest-normal_patterns no_patterns = refl
  fewest-normal_patterns (more_patterns p ps) = λ i. least-normal_pattern p i + fewest-normal_patterns ps i

  greatest-normal_patterns : (assoc : Bool) (ps : Patterns)
      → LeMost (greatest assoc (pattern_list ps)) (greatest assoc (normal_patterns sig ps))
  greatest-normal_patterns assoc no_patterns = omega arith
  greatest-normal_patterns assoc (more_patterns p ps) =
      le_most-sum (pattern_most assoc p) (greatest assoc (pattern_list ps)) (pattern_most assoc (normal_pattern sig p))
      (greatest assoc (normal_patterns sig ps)) (most-normal_pattern assoc p) (greatest-normal_patterns assoc ps)

  -- the operation is held, and allows a number of arguments that the patterns may take
  abbrev Allowed : ℕ → List Pattern → Type 0
  Allowed f ps = holds_of (allows_patterns ps) (slice_get sig.ops f) ≡ true

  -- other arguments that each operation allows which allows the first
  allowed-alike : (f : ℕ) (ps qs : List Pattern)
      → ((d : OpDecl) → slice_get sig.ops f ≡ Some d → allows_patterns ps d ≡ true → allows_patterns qs d ≡ true)
      → Allowed f ps → Allowed f qs
  allowed-alike f ps qs step h = go (slice_get sig.ops f) refl h
    where
      go : (o : Option OpDecl) → slice_get sig.ops f ≡ o → holds_of (allows_patterns ps) o ≡ true
          → holds_of (allows_patterns qs) o ≡ true
      go None e k = k
      go (Some d) e k = step d e k

  allowed-normal_patterns : (f : ℕ) (ps : Patterns) → Allowed f (pattern_list ps) → Allowed f (normal_patterns sig ps)
  allowed-normal_patterns f ps =
      allowed-alike f (pattern_list ps) (normal_patterns sig ps)
      (λ d e. allows-alike (pattern_list ps) (normal_patterns sig ps) d (greatest-normal_patterns d.assoc ps)
      (fewest-normal_patterns ps))

  -- ---- arguments in order

  fewest-sorted : (ps : List Pattern) → fewest (sorted pattern_cmp ps) ≡ fewest ps
  fewest-sorted = measure-sorted (λ p n. pattern_least p + n) (λ p q n. omega arith) fewest (λ p ps. refl) pattern_cmp

  greatest-sorted : (assoc : Bool) (ps : List Pattern) → greatest assoc (sorted pattern_cmp ps) ≡ greatest assoc ps
  greatest-sorted assoc = measure-sorted (λ p o. sum_most (pattern_most assoc p) o)
      (λ p q o. sum_most-swap (pattern_most assoc p) (pattern_most assoc q) o) (greatest assoc)
      (λ p ps. refl) pattern_cmp

  allowed-in_order : (f : ℕ) (ps : List Pattern) → Allowed f ps → Allowed f (in_order sig f ps)
  allowed-in_order f ps h =
      elim (is_comm sig f) as (λ v. Allowed f (if v then sorted pattern_cmp ps else ps)) [
        | true ↦ allowed-alike f ps (sorted pattern_cmp ps)
            (λ d e k.
            (λ i. reaches d.least (greatest-sorted d.assoc ps i)
            && (not d.fixed || nat_le (fewest-sorted ps i) d.least)) ∙ k) h
        | false ↦ h
      ]

  -- ---- arguments of an associative operation

  flattened-same : (f : ℕ) (ps : List Pattern) → is_assoc sig f ≡ false → flattened sig f ps ≡ ps
  flattened-same f [] q = refl
  flattened-same f (p ∷ ps) q = let e : parts sig f p ≡ p ∷ [] = rw q refl in rw (e, flattened-same f ps q) refl

  each-formed : (ps : Patterns) → AreFormed sig ps → AllByRecursion (IsFormed sig) (pattern_list ps)
  each-formed no_patterns h = tt
  each-formed (more_patterns p ps) h = (h.0, each-formed ps h.1)

  all-formed : (ps : List Pattern) → AllByRecursion (IsFormed sig) ps → AreFormed sig (patterns ps)
  all-formed [] h = tt
  all-formed (p ∷ ps) h = (h.0, all-formed ps h.1)

  formed-unwrapped : (f : ℕ) (p : Pattern) → IsFormed sig p → AllByRecursion (IsFormed sig) (unwrapped f p)
  formed-unwrapped f (symbol_pattern n) h = (h, tt)
  formed-unwrapped f (app_pattern g ps) h =
      elim (nat_eq f g) as (λ b. AllByRecursion (IsFormed sig) (if b then pattern_list ps else (app_pattern g ps ∷ [])))
      [ true ↦ each-formed ps h.1 | false ↦ (h, tt) ]
  formed-unwrapped f (wild_pattern w x) h = (h, tt)

  formed-parts : (f : ℕ) (p : Pattern) → IsFormed sig p → AllByRecursion (IsFormed sig) (parts sig f p)
  formed-parts f p h = elim (is_assoc sig f) as
      (λ b. AllByRecursion (IsFormed sig) (if b then unwrapped f p else (p ∷ [])))
      [ true ↦ formed-unwrapped f p h | false ↦ (h, tt) ]

  module _ (f : ℕ) (d : OpDecl) (held : slice_get sig.ops f ≡ Some d) (assoc : is_assoc sig f ≡ true)
      (some : 1 ≤ d.least) where
    assoc-held : d.assoc ≡ true
    assoc-held = sym (ap (holds_of (λ c. c.assoc)) held) ∙ assoc

    -- the arguments of an application of f may be one or more
    one-argument : (g : ℕ) (us : Patterns) → f ≡ g → Allowed g (pattern_list us)
        → LeMost (Some 1) (greatest true (pattern_list us))
    one-argument g us same h =
        let us_list = pattern_list us in
        let a : allows_patterns us_list d ≡ true =
        ap (holds_of (allows_patterns us_list)) (sym held ∙ ap (slice_get sig.ops) same) ∙ h in
        let r = (and_parts (reaches d.least (greatest d.assoc us_list))
        (not d.fixed || nat_le (fewest us_list) d.least) a).0 in
        subst (λ b. LeMost (Some 1) (greatest b us_list)) assoc-held
        (reaches-one d.least (greatest d.assoc us_list) some r)

    -- what an argument gives may take as many arguments
    most-unwrapped : (p : Pattern) → IsFormed sig p → LeMost (pattern_most true p) (greatest true (unwrapped f p))
    most-unwrapped (symbol_pattern n) h = omega arith
    most-unwrapped (app_pattern g us) h = go (nat_eq f g) refl
      where
        go : (b : Bool) → nat_eq f g ≡ b
            → LeMost (Some 1) (greatest true (if b then pattern_list us else (app_pattern g us ∷ [])))
        go true e = one-argument g us (eqb-true f g e) h.0
        go false e = omega arith
    most-unwrapped (wild_pattern w x) h = one-most (most true w)

    greatest-flattened : (ps : List Pattern) → AllByRecursion (IsFormed sig) ps
        → LeMost (greatest true ps) (greatest true (flattened sig f ps))
    greatest-flattened [] h = omega arith
    greatest-flattened (p ∷ ps) h =
        let own : parts sig f p ≡ unwrapped f p = ap (λ b. if b then unwrapped f p else (p ∷ [])) assoc in
        subst (LeMost (greatest true (p ∷ ps)))
        (sym (ap (λ l. greatest true (l ++ flattened sig f ps)) own
        ∙ greatest-append true (unwrapped f p) (flattened sig f ps)))
        (le_most-sum (pattern_most true p) (greatest true ps) (greatest true (unwrapped f p))
        (greatest true (flattened sig f ps)) (most-unwrapped p h.0) (greatest-flattened ps h.1))

  -- flattening takes nothing away that an open count asks for
  reaches-flattened : (f : ℕ) (d : OpDecl) → slice_get sig.ops f ≡ Some d → is_assoc sig f ≡ true → (ps : List Pattern)
      → AllByRecursion (IsFormed sig) ps
      → (n : ℕ) → d.least ≡ n → reaches n (greatest true ps) ≡ true
      → reaches n (greatest true (flattened sig f ps)) ≡ true
  reaches-flattened f d held assoc ps h zero e k = zero-reaches (greatest true (flattened sig f ps))
    where
      zero-reaches : (a : Option ℕ) → reaches 0 a ≡ true
      zero-reaches None = refl
      zero-reaches (Some n) = le-leb 0 n (omega arith)
  reaches-flattened f d held assoc ps h (suc n) e k =
      reaches-more (suc n) (greatest true ps) (greatest true (flattened sig f ps))
      (greatest-flattened f d held assoc (omega arith) ps h) k

  -- ---- normal forms

  module _ (ordered : all_in_order sig.ops ≡ true) where
    allowed-flattened : (f : ℕ) (ps : List Pattern) → AllByRecursion (IsFormed sig) ps → Allowed f ps
        → Allowed f (flattened sig f ps)
    allowed-flattened f ps h a = by_assoc (is_assoc sig f) refl
      where
        step : is_assoc sig f ≡ true → (d : OpDecl) → slice_get sig.ops f ≡ Some d → allows_patterns ps d ≡ true
            → allows_patterns (flattened sig f ps) d ≡ true
        step q d e k =
            let assoc : d.assoc ≡ true = sym (ap (holds_of (λ c. c.assoc)) e) ∙ q in
            let free = assoc-not_fixed d (in_order-at sig.ops f d ordered e) assoc in
            let flat = flattened sig f ps in
            let r = (and_parts (reaches d.least (greatest d.assoc ps))
            (not d.fixed || nat_le (fewest ps) d.least) k).0 in
            and_from (reaches d.least (greatest d.assoc flat)) (not d.fixed || nat_le (fewest flat) d.least)
            (subst (λ b. reaches d.least (greatest b flat) ≡ true) (sym assoc)
            (reaches-flattened f d e q ps h d.least refl
            (subst (λ b. reaches d.least (greatest b ps) ≡ true) assoc r)))
            (ap (λ b. not b || nat_le (fewest flat) d.least) free)

        by_assoc : (b : Bool) → is_assoc sig f ≡ b → Allowed f (flattened sig f ps)
        by_assoc true e = allowed-alike f ps (flattened sig f ps) (step e) a
        by_assoc false e = subst (Allowed f) (sym (flattened-same f ps e)) a

    formed-collapsed : (f : ℕ) (ps : List Pattern) → Allowed f ps → AllByRecursion (IsFormed sig) ps
        → IsFormed sig (collapsed sig f ps)
    formed-collapsed f [] a h = (a, tt)
    formed-collapsed f (p ∷ []) a h = elim (is_one sig f && not (is_loose p)) as
        (λ b. IsFormed sig (if b then p else app_pattern f (more_patterns p no_patterns)))
        [ true ↦ h.0 | false ↦ (a, h) ]
    formed-collapsed f (p ∷ q ∷ ps) a h =
        (subst (Allowed f) (sym (pattern_list-patterns (p ∷ q ∷ ps))) a, all-formed (p ∷ q ∷ ps) h)

    mutual
      -- the normal form of a formed pattern is formed
      pub IsFormed-normal_pattern : (p : Pattern) → IsFormed sig p → IsFormed sig (normal_pattern sig p)
      IsFormed-normal_pattern (symbol_pattern n) h = h
      IsFormed-normal_pattern (app_pattern f ps) h =
          let l = normal_patterns sig ps in
          let each = formed-normal_patterns ps h.1 in
          let flat = flattened sig f l in
          formed-collapsed f (in_order sig f flat)
          (allowed-in_order f flat (allowed-flattened f l each (allowed-normal_patterns f ps h.0)))
          (all-in_order (IsFormed sig) sig f flat
          (all-flat_map (IsFormed sig) (IsFormed sig) (parts sig f) (formed-parts f) l each))
      IsFormed-normal_pattern (wild_pattern w x) h = h

      formed-normal_patterns : (ps : Patterns) → AreFormed sig ps
          → AllByRecursion (IsFormed sig) (normal_patterns sig ps)
      formed-normal_patterns no_patterns h = tt
      formed-normal_patterns (more_patterns p ps) h = (IsFormed-normal_pattern p h.0, formed-normal_patterns ps h.1)

-- ---- the wildcards of a formed pattern

-- what holds of each sound wildcard holds of those of a formed pattern
module _ (sig : Sig) (Q : Wildcard → Type 0) (each : (w : Wildcard) → IsSoundWildcard sig w → Q w) where
  mutual
    pub EachWildcard-IsFormed : (p : Pattern) → IsFormed sig p → EachWildcard Q p
    EachWildcard-IsFormed (symbol_pattern n) h = tt
    EachWildcard-IsFormed (app_pattern f ps) h = AllEachWildcard-AreFormed ps h.1
    EachWildcard-IsFormed (wild_pattern w x) h = each w h.0

    AllEachWildcard-AreFormed : (ps : Patterns) → AreFormed sig ps → AllEachWildcard Q ps
    AllEachWildcard-AreFormed no_patterns h = tt
    AllEachWildcard-AreFormed (more_patterns p ps) h = (EachWildcard-IsFormed p h.0, AllEachWildcard-AreFormed ps h.1)

-- ---- terms

module _ (sig : Sig) where
  each-symbols : (ts : Trees) → HaveSymbols sig ts → AllByRecursion (HasSymbols sig) (tree_list ts)
  each-symbols no_trees h = tt
  each-symbols (more_trees t ts) h = (h.0, each-symbols ts h.1)

  all-symbols : (ts : List Tree) → AllByRecursion (HasSymbols sig) ts → HaveSymbols sig (trees ts)
  all-symbols [] h = tt
  all-symbols (t ∷ ts) h = (h.0, all-symbols ts h.1)

  symbols-unwrapped : (f : ℕ) (t : Tree) → HasSymbols sig t → AllByRecursion (HasSymbols sig) (terms.unwrapped f t)
  symbols-unwrapped f (symbol n) h = (h, tt)
  symbols-unwrapped f (app g ts) h = elim (nat_eq f g) as
      (λ b. AllByRecursion (HasSymbols sig) (if b then tree_list ts else (app g ts ∷ [])))
      [ true ↦ each-symbols ts h | false ↦ (h, tt) ]

  symbols-parts : (f : ℕ) (t : Tree) → HasSymbols sig t → AllByRecursion (HasSymbols sig) (terms.parts sig f t)
  symbols-parts f t h = elim (is_assoc sig f) as
      (λ b. AllByRecursion (HasSymbols sig) (if b then terms.unwrapped f t else (t ∷ [])))
      [ true ↦ symbols-unwrapped f t h | false ↦ (h, tt) ]

  symbols-in_order : (f : ℕ) (ts : List Tree) → AllByRecursion (HasSymbols sig) ts
      → AllByRecursion (HasSymbols sig) (terms.in_order sig f ts)
  symbols-in_order f ts h = elim (is_comm sig f) as
      (λ b. AllByRecursion (HasSymbols sig) (if b then sorted tree_cmp ts else ts))
      [ true ↦ all-sorted (HasSymbols sig) tree_cmp ts h | false ↦ h ]

  symbols-collapsed : (f : ℕ) (ts : List Tree) → AllByRecursion (HasSymbols sig) ts
      → HasSymbols sig (terms.collapsed sig f ts)
  symbols-collapsed f [] h = tt
  symbols-collapsed f (t ∷ []) h = elim (is_one sig f) as
      (λ b. HasSymbols sig (if b then t else app f (more_trees t no_trees))) [ true ↦ h.0 | false ↦ h ]
  symbols-collapsed f (t ∷ u ∷ ts) h = all-symbols (t ∷ u ∷ ts) h

  mutual
    -- the symbols of a normal form are those of the term
    pub HasSymbols-normal : (t : Tree) → HasSymbols sig t → HasSymbols sig (terms.normal sig t)
    HasSymbols-normal (symbol n) h = h
    HasSymbols-normal (app f ts) h =
        let flat = terms.flattened sig f (terms.normals sig ts) in
        symbols-collapsed f (terms.in_order sig f flat)
        (symbols-in_order f flat
        (all-flat_map (HasSymbols sig) (HasSymbols sig) (terms.parts sig f) (symbols-parts f) (terms.normals sig ts)
        (symbols-normals ts h)))

    symbols-normals : (ts : Trees) → HaveSymbols sig ts → AllByRecursion (HasSymbols sig) (terms.normals sig ts)
    symbols-normals no_trees h = tt
    symbols-normals (more_trees t ts) h = (HasSymbols-normal t h.0, symbols-normals ts h.1)
