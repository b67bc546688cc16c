-- Normalising raises no sum over a pattern's nodes, and keeps one that doesn't count applications.
use Rattle.std.proofs.Common.{◌≡◌, ℕ, ◌+◌, ◌≤◌, true, false, ◌&&◌, not, List, [], ◌∷◌, ◌++◌, map, refl, ap, sym, ◌∙◌}
use Rattle.std.proofs.Common.{arith}
use Rattle.std.specs.Prelude.{nat_eq, Some, None, Option, if◌then◌else◌}
use Rattle.std.specs.Ordering.{nat_cmp}
use Rattle.std.specs.Cmp.Lexicographic.{slice_cmp}
use Rattle.std.proofs.lemmas.List.{map-append}
use Rattle.mp_term.specs.Sorting.{sorted}
use Rattle.mp_term.specs.Signature.{Sig, is_assoc, is_comm, is_one}
use Rattle.mp_term.proofs.Sorting.{tally}
use Rattle.mp_term.proofs.SortedMeasures.{IsJoin, sums, joined_all, joined-append, joined-sorted}
use Rattle.mp_pattern.specs.PatternTree.{Pattern, symbol_pattern, app_pattern, wild_pattern, Patterns, no_patterns}
use Rattle.mp_pattern.specs.PatternTree.{more_patterns, pattern_list, patterns}
use Rattle.mp_pattern.specs.PatternLists.{patterns-pattern_list}
use Rattle.mp_pattern.specs.Size.{pattern_nodes, all_pattern_nodes}
use Rattle.mp_pattern.specs.Order.{pattern_cmp}
use Rattle.mp_pattern.specs.Normal.{is_loose, unwrapped, parts, flattened, in_order, collapsed, normal_pattern}
use Rattle.mp_pattern.specs.Normal.{normal_patterns}
use Rattle.mp_pattern.specs.Variables.{Use, uses, all_uses}
use Rattle.mp_pattern.proofs.SortedLaws.{total}

-- x is at most y, and y itself where a is 0
abbrev pub IsWithin : ℕ → ℕ → ℕ → Type 0
IsWithin a x y = (x ≤ y) × (a ≡ 0 → x ≡ y)

-- m of an application is what its arguments give together, and a for its own node
abbrev pub IsMeasure : (ℕ → ℕ → ℕ) → (Pattern → ℕ) → ℕ → Type 0
IsMeasure join m a = (f : ℕ) (ps : List Pattern) → m (app_pattern f (patterns ps)) ≡ joined_all join m ps + a

-- it is the sum of m over its arguments
abbrev pub IsSum : (Pattern → ℕ) → ℕ → Type 0
IsSum = IsMeasure ◌+◌

module _ (sig : Sig) (join : ℕ → ℕ → ℕ) (j : IsJoin join) (m : Pattern → ℕ) (a : ℕ) (measure : IsMeasure join m a) where
  abbrev all : List Pattern → ℕ
  all = joined_all join m

  within-single : (p : Pattern) → IsWithin a (all (p ∷ [])) (m p)
  within-single p = (omega (arith, j.alone (m p)), λ z. j.alone (m p))

  within-unwrapped : (f : ℕ) (p : Pattern) → IsWithin a (all (unwrapped f p)) (m p)
  within-unwrapped f (symbol_pattern n) = within-single (symbol_pattern n)
  within-unwrapped f (app_pattern g ps) =
      let own : m (app_pattern g ps) ≡ all (pattern_list ps) + a =
      rw patterns-pattern_list at (measure g (pattern_list ps)) in
      elim (nat_eq f g) as (λ b. IsWithin a (all (if b then pattern_list ps else (app_pattern g ps ∷ [])))
      (m (app_pattern g ps))) [
        | true ↦ (omega (arith, own), λ z. omega (arith, own, z))
        | false ↦ within-single (app_pattern g ps)
      ]
  within-unwrapped f (wild_pattern w x) = within-single (wild_pattern w x)

  within-parts : (f : ℕ) (p : Pattern) → IsWithin a (all (parts sig f p)) (m p)
  within-parts f p = elim (is_assoc sig f) as (λ b. IsWithin a (all (if b then unwrapped f p else (p ∷ []))) (m p))
      [ true ↦ within-unwrapped f p | false ↦ within-single p ]

  within-joined : (k l n o : ℕ) → IsWithin a k l → IsWithin a n o → IsWithin a (join k n) (join l o)
  within-joined k l n o g h = (j.rises k l n o g.0 h.0, λ z i. join (g.1 z i) (h.1 z i))

  within-flattened : (f : ℕ) (ps : List Pattern) → IsWithin a (all (flattened sig f ps)) (all ps)
  within-flattened f [] = (omega arith, λ z. refl)
  within-flattened f (p ∷ ps) =
      rw (joined-append join m j (parts sig f p) (flattened sig f ps))
      (within-joined _ _ _ _ (within-parts f p) (within-flattened f ps))

  all-in_order : (f : ℕ) (ps : List Pattern) → all (in_order sig f ps) ≡ all ps
  all-in_order f ps = elim (is_comm sig f) as (λ b. all (if b then sorted pattern_cmp ps else ps) ≡ all ps)
      [ true ↦ joined-sorted join m j pattern_cmp ps | false ↦ refl ]

  within-collapsed : (f : ℕ) (ps : List Pattern) → IsWithin a (m (collapsed sig f ps)) (all ps + a)
  within-collapsed f [] = (omega (arith, measure f []), λ z. measure f [])
  within-collapsed f (p ∷ []) =
      elim (is_one sig f && not (is_loose p)) as
      (λ b. IsWithin a (m (if b then p else app_pattern f (more_patterns p no_patterns))) (all (p ∷ []) + a)) [
        | true ↦ (omega (arith, j.alone (m p)), λ z. omega (arith, j.alone (m p), z))
        | false ↦ (omega (arith, measure f (p ∷ [])), λ z. measure f (p ∷ []))
      ]
  within-collapsed f (p ∷ q ∷ ps) = (omega (arith, measure f (p ∷ q ∷ ps)), λ z. measure f (p ∷ q ∷ ps))

  mutual
    pub within-normal : (p : Pattern) → IsWithin a (m (normal_pattern sig p)) (m p)
    within-normal (symbol_pattern n) = (omega arith, λ z. refl)
    within-normal (app_pattern f ps) =
        let l = flattened sig f (normal_patterns sig ps) in
        let own : m (app_pattern f ps) ≡ all (pattern_list ps) + a =
        rw patterns-pattern_list at (measure f (pattern_list ps)) in
        let made = within-collapsed f (in_order sig f l) in
        let order = all-in_order f l in
        let flat = within-flattened f (normal_patterns sig ps) in
        let each = all-within ps in (
          omega (arith, own, made.0, order, flat.0, each.0),
          λ z.
              omega (arith, own, made.1 z, order, flat.1 z, each.1 z),
        )
    within-normal (wild_pattern w x) = (omega arith, λ z. refl)

    all-within : (ps : Patterns) → IsWithin a (all (normal_patterns sig ps)) (all (pattern_list ps))
    all-within no_patterns = (omega arith, λ z. refl)
    all-within (more_patterns p ps) = within-joined _ _ _ _ (within-normal p) (all-within ps)

pub within-normal_pattern : (sig : Sig) (m : Pattern → ℕ) (a : ℕ) → IsSum m a → (p : Pattern)
    → IsWithin a (m (normal_pattern sig p)) (m p)
within-normal_pattern sig = within-normal sig ◌+◌ sums

all_pattern_nodes-patterns : (ps : List Pattern) → all_pattern_nodes (patterns ps) ≡ total pattern_nodes ps
all_pattern_nodes-patterns [] = refl
all_pattern_nodes-patterns (p ∷ ps) = ap (λ n. pattern_nodes p + n) (all_pattern_nodes-patterns ps)

-- a normal form has no more nodes than the pattern
pub pattern_nodes-normal_pattern : (sig : Sig) (p : Pattern) → pattern_nodes (normal_pattern sig p) ≤ pattern_nodes p
pattern_nodes-normal_pattern sig p =
    (within-normal_pattern sig pattern_nodes 1 (λ f ps. ap (λ n. n + 1) (all_pattern_nodes-patterns ps)) p).0

-- the names of the variables at their occurrences
abbrev pub names : Option ℕ → Pattern → List (List ℕ)
names f p = map (λ u. u.name) (uses f p)

-- how often a name occurs in a pattern
abbrev pub occurrences : List ℕ → Pattern → ℕ
occurrences z p = tally (slice_cmp nat_cmp) z (names None p)

pub tally-append : (z : List ℕ) (xs ys : List (List ℕ))
    → tally (slice_cmp nat_cmp) z (xs ++ ys) ≡ tally (slice_cmp nat_cmp) z xs + tally (slice_cmp nat_cmp) z ys
tally-append z [] ys = omega arith
tally-append z (x ∷ xs) ys = omega (arith, tally-append z xs ys)

-- the operation above makes no difference
names-under : (f g : Option ℕ) (p : Pattern) → names f p ≡ names g p
names-under f g (symbol_pattern n) = refl
names-under f g (app_pattern h ps) = refl
names-under f g (wild_pattern w (Some x)) = refl
names-under f g (wild_pattern w None) = refl

occurrences-patterns : (z : List ℕ) (f : Option ℕ) (ps : List Pattern)
    → tally (slice_cmp nat_cmp) z (map (λ u. u.name) (all_uses f (patterns ps))) ≡ total (occurrences z) ps
occurrences-patterns z f [] = refl
occurrences-patterns z f (p ∷ ps) =
    ap (tally (slice_cmp nat_cmp) z) (map-append (λ (u : Use). u.name) (uses f p) (all_uses f (patterns ps))
    ∙ ap (λ xs. xs ++ map (λ u. u.name) (all_uses f (patterns ps))) (names-under f None p))
    ∙ tally-append z (names None p) (map (λ u. u.name) (all_uses f (patterns ps)))
    ∙ ap (λ n. occurrences z p + n) (occurrences-patterns z f ps)

-- each name occurs in a normal form as often as in the pattern
pub occurrences-normal_pattern : (sig : Sig) (z : List ℕ) (p : Pattern)
    → occurrences z (normal_pattern sig p) ≡ occurrences z p
occurrences-normal_pattern sig z p =
    (within-normal_pattern sig (occurrences z) 0
    (λ f ps. occurrences-patterns z (Some f) ps ∙ sym (add_zero (total (occurrences z) ps))) p).1 refl
  where
    add_zero : (n : ℕ) → n + 0 ≡ n
    add_zero n = omega arith
