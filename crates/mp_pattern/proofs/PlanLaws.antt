-- How many nodes, occurrences and variables a pattern has, and what a search for a clash has found.
use Rattle.std.proofs.Common.{◌≡◌, ℕ, ◌+◌, ◌<◌, ◌≤◌, Bool, true, false, List, [], ◌∷◌, ◌++◌, length, map, take, drop}
use Rattle.std.proofs.Common.{get_or, refl, ap, sym, ◌∙◌, arith, length-append}
use Rattle.std.specs.Prelude.{Option, Some, None, if◌then◌else◌}
use Rattle.std.specs.List.{list_any}
use Rattle.std.proofs.lemmas.List.{drop_more, map_more, length-map, length-take-le}
use Rattle.mp_pattern.specs.PatternTree.{Pattern, symbol_pattern, app_pattern, wild_pattern, Patterns, no_patterns}
use Rattle.mp_pattern.specs.PatternTree.{more_patterns}
use Rattle.mp_pattern.specs.Size.{pattern_nodes, all_pattern_nodes}
use Rattle.mp_pattern.specs.Subpatterns.{subpatterns, all_subpatterns}
use Rattle.mp_pattern.specs.Firsts.{is_known, add_new, firsts_after}
use Rattle.mp_pattern.specs.Value.{same_name}
use Rattle.mp_pattern.specs.Variables.{Use, uses, all_uses, variables}
use Rattle.mp_pattern.specs.Clash.{clashes, first_clash_after}

mutual
  -- a pattern has a subpattern for each node
  pub length-subpatterns : (p : Pattern) → length (subpatterns p) ≡ pattern_nodes p
  length-subpatterns (symbol_pattern n) = refl
  length-subpatterns (app_pattern f ps) = omega (arith, length-all_subpatterns ps)
  length-subpatterns (wild_pattern w x) = refl

  length-all_subpatterns : (ps : Patterns) → length (all_subpatterns ps) ≡ all_pattern_nodes ps
  length-all_subpatterns no_patterns = refl
  length-all_subpatterns (more_patterns p ps) =
      omega (arith, length-append (subpatterns p) (all_subpatterns ps), length-subpatterns p, length-all_subpatterns ps)

mutual
  -- no node is the place of two occurrences of variables
  length-uses : (f : Option ℕ) (p : Pattern) → length (uses f p) ≤ pattern_nodes p
  length-uses f (symbol_pattern n) = omega arith
  length-uses f (app_pattern g ps) = omega (arith, length-all_uses (Some g) ps)
  length-uses f (wild_pattern w None) = omega arith
  length-uses f (wild_pattern w (Some x)) = omega arith

  length-all_uses : (f : Option ℕ) (ps : Patterns) → length (all_uses f ps) ≤ all_pattern_nodes ps
  length-all_uses f no_patterns = omega arith
  length-all_uses f (more_patterns p ps) = omega
      (arith, length-append (uses f p) (all_uses f ps), length-uses f p, length-all_uses f ps)

length-add_new : (ys : List (List ℕ)) (x : List ℕ) → length (add_new same_name ys x) ≤ length ys + 1
length-add_new ys x = elim (is_known same_name ys x) as
    (λ b. length (if b then ys else (ys ++ (x ∷ []))) ≤ length ys + 1)
    [ true ↦ omega arith | false ↦ omega (arith, length-append ys (x ∷ [])) ]

-- the first items of two lists, one after the other
pub firsts_after-append : {X : Type 0} (same : X → X → Bool) (known first second : List X)
    → firsts_after same known (first ++ second) ≡ firsts_after same (firsts_after same known first) second
firsts_after-append same known [] second = refl
firsts_after-append same known (x ∷ xs) second = firsts_after-append same (add_new same known x) xs second

length-firsts_after : (ys xs : List (List ℕ)) → length (firsts_after same_name ys xs) ≤ length ys + length xs
length-firsts_after ys [] = omega arith
length-firsts_after ys (x ∷ xs) = omega (arith, length-firsts_after (add_new same_name ys x) xs, length-add_new ys x)

-- a pattern has no more variables than nodes
pub length-variables : (p : Pattern) → length (variables p) ≤ pattern_nodes p
length-variables p =
    omega (
      arith,
      length-firsts_after [] (map (λ (u : Use). u.name) (uses None p)),
      length-map (uses None p) (λ (u : Use). u.name),
      length-uses None p,
    )

module _ {X : Type 0} (f : X → Pattern) (xs : List X) (i : ℕ) (x : X) (within : i < length xs)
    (is : x ≡ get_or xs i x) where
  at_item : map f (drop i xs) ≡ f x ∷ map f (drop (i + 1) xs)
  at_item = ap (map f) (drop_more xs i x within ∙ ap (λ y. y ∷ drop (i + 1) xs) (sym is))

  -- the search goes on behind an item that doesn't clash with one before it
  pub first_clash_after-more : list_any (λ q. clashes q (f x)) (map f (take i xs)) ≡ false
      → first_clash_after (map f (take i xs)) (map f (drop i xs))
      ≡ first_clash_after (map f (take (i + 1) xs)) (map f (drop (i + 1) xs))
  first_clash_after-more none =
      ap (first_clash_after (map f (take i xs))) at_item
      ∙ ap (λ b. if b then Some (length (map f (take i xs))) else first_clash_after (map f (take i xs) ++ f x ∷ [])
      (map f (drop (i + 1) xs))) none
      ∙ ap (λ ys. first_clash_after ys (map f (drop (i + 1) xs)))
      (sym (map_more f xs i x within ∙ ap (λ y. map f (take i xs) ++ f y ∷ []) (sym is)))

  -- and ends at one that does
  pub first_clash_after-found : list_any (λ q. clashes q (f x)) (map f (take i xs)) ≡ true
      → first_clash_after (map f (take i xs)) (map f (drop i xs)) ≡ Some i
  first_clash_after-found some =
      ap (first_clash_after (map f (take i xs))) at_item
      ∙ ap (λ b. if b then Some (length (map f (take i xs))) else first_clash_after (map f (take i xs) ++ f x ∷ [])
      (map f (drop (i + 1) xs))) some
      ∙ ap Some (length-map (take i xs) f ∙ length-take-le i xs (omega arith))
