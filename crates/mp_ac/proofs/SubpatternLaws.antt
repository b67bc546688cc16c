-- The subpatterns of a list of patterns, by those of its first pattern.
use Rattle.std.proofs.Common.{◌≡◌, ℕ, zero, suc, ◌≤◌, ◌<◌, ◌+◌, ◌-◌, List, [], ◌∷◌, ◌++◌, map, length, take, drop}
use Rattle.std.proofs.Common.{refl, ap, ◌∙◌, subst, arith}
use Rattle.std.specs.Prelude.{Some, slice_get, slice_index_or}
use Rattle.mp_pattern.specs.declared.pattern.Pattern as declared
use Rattle.mp_pattern.specs.declared.pattern.Pattern.TheVariants.{Sym, App, Wild}
use Rattle.mp_pattern.specs.PatternTree.{Pattern, Patterns, symbol_pattern, app_pattern, wild_pattern}
use Rattle.mp_pattern.specs.PatternTree.{patterns}
use Rattle.mp_pattern.specs.Size.{pattern_nodes, all_pattern_nodes}
use Rattle.mp_pattern.specs.Subpatterns.{subpatterns, all_subpatterns}
use Rattle.mp_pattern.specs.View.{pattern_tree}
use Rattle.mp_pattern.proofs.ItemLaws.{slice_get-found, slice_get-second}
use Rattle.mp_pattern.proofs.OnePattern.{has_nodes}
use Rattle.mp_term.specs.declared.term.OpId.{OpId}
use Rattle.mp_search.proofs.PartLaws.{first-pattern}

-- those below the root
abbrev pub inner : Pattern → List Pattern
inner (symbol_pattern n) = []
inner (app_pattern g ps) = all_subpatterns ps
inner (wild_pattern w x) = []

inner-is : (p : Pattern) → subpatterns p ≡ p ∷ inner p
inner-is (symbol_pattern n) = refl
inner-is (app_pattern g ps) = refl
inner-is (wild_pattern w x) = refl

module _ (list : List declared.Pattern) (first : declared.Pattern) (some : 1 ≤ length list)
    (is : first ≡ slice_index_or list 0 first) where
  abbrev pub later : List declared.Pattern
  later = take (length list - 1) (drop 1 list)

  abbrev all : List declared.Pattern → List Pattern
  all ps = all_subpatterns (patterns (map pattern_tree ps))

  abbrev nodes : List declared.Pattern → ℕ
  nodes ps = all_pattern_nodes (patterns (map pattern_tree ps))

  all-is : all list ≡ pattern_tree first ∷ (inner (pattern_tree first) ++ all later)
  all-is = ap all_subpatterns (first-pattern list first some is)
      ∙ ap (λ ps. ps ++ all later) (inner-is (pattern_tree first))

  -- the measure falls at the children, and at the later patterns
  nodes-is : nodes list ≡ pattern_nodes (pattern_tree first) + nodes later
  nodes-is = ap all_pattern_nodes (first-pattern list first some is)

  pub children-fall : (g : ℕ) (ps : Patterns) → pattern_tree first ≡ app_pattern g ps
      → all_pattern_nodes ps < nodes list
  children-fall g ps e = omega (arith, nodes-is, ap pattern_nodes e)

  pub later-fall : nodes later < nodes list
  later-fall = omega (arith, nodes-is, has_nodes (pattern_tree first))

  -- a node below the first pattern, and one behind it
  pub inner-found : (n : ℕ) (p : Pattern) → (n ≡ 0 → ⊥) → slice_get (inner (pattern_tree first)) (n - 1) ≡ Some p
      → slice_get (all list) n ≡ Some p
  inner-found zero p some e = absurd (some refl)
  inner-found (suc n) p some e = ap (λ ps. slice_get ps (suc n)) all-is
      ∙ slice_get-found (inner (pattern_tree first)) (all later) n p
      (subst (λ m. slice_get (inner (pattern_tree first)) m ≡ Some p) (omega arith) e)

  pub later-found : (n k : ℕ) → (n ≡ 0 → ⊥) → n - 1 ≡ length (inner (pattern_tree first)) + k
      → slice_get (all list) n ≡ slice_get (all later) k
  later-found zero k some e = absurd (some refl)
  later-found (suc n) k some e = ap (λ ps. slice_get ps (suc n)) all-is
      ∙ slice_get-second (inner (pattern_tree first)) (all later) k n (omega (arith, e))

  -- how many there are
  pub later-less : (n k l : ℕ) → (n ≡ 0 → ⊥) → n - 1 ≡ length (inner (pattern_tree first)) + k
      → k ≡ length (all later) + l → n ≡ length (all list) + l
  later-less n k l some e f =
      let m : length (all list) ≡ suc (length (inner (pattern_tree first) ++ all later)) = ap
      (λ ps. length ps) all-is in
      let s = length-both (inner (pattern_tree first)) (all later) in
      let p : 1 ≤ n = positive n some in
      omega (arith, m, s, e, f, p)
    where
      length-both : {X : Type 0} (xs ys : List X) → length (xs ++ ys) ≡ length xs + length ys
      length-both [] ys = omega arith
      length-both (x ∷ xs) ys = omega (arith, length-both xs ys)

      positive : (n : ℕ) → (n ≡ 0 → ⊥) → 1 ≤ n
      positive zero h = absurd (h refl)
      positive (suc n) h = omega arith

-- what is below a pattern that is no application
pub inner-none : (p : declared.Pattern) → ((g : OpId) (ps : List Pattern) → p ≡ App g ps → ⊥)
    → inner (pattern_tree p) ≡ []
inner-none (Sym n) h = refl
inner-none (App g ps) h = absurd (h g ps refl)
inner-none (Wild w x) h = refl
