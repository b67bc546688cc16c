-- The nets of rules, group by group, and the rules that aren't syntactic.
use Rattle.std.proofs.Common.{◌≡◌, ◌≤◌, ℕ, ◌+◌, List, [], ◌∷◌, ◌++◌, Bool, true, false, not, cond, length}
use Rattle.std.proofs.Common.{map}
use Rattle.std.proofs.Common.{drop, refl, ap, sym, ◌∙◌, subst, append_assoc, arith}
use Rattle.std.specs.Prelude.{Option, Some, None, position}
use Rattle.std.specs.List.{AllByRecursion, position_from}
use Rattle.std.proofs.lemmas.List.{length-append, length-drop, drop_all, drop-drop, append-nil}
use Rattle.std.proofs.lemmas.Iterator.Adapters.{position_from-zero}
use Rattle.mp_pattern.specs.PatternTree.{Pattern, symbol_pattern, app_pattern, wild_pattern, Patterns, no_patterns}
use Rattle.mp_pattern.specs.PatternTree.{more_patterns}
use Rattle.mp_pattern.specs.Size.{pattern_nodes, all_pattern_nodes}
use Rattle.mp_net.specs.Net as net
use Rattle.mp_net.specs.Net.{marks, all_marks}
use Rattle.mp_net.specs.NetOf.{IsGroup, AreNets}
use Rattle.mp_net.specs.declared.build.Net.{Net}

mutual
  -- a mark for each node
  pub length-marks : (p : Pattern) → length (marks p) ≡ pattern_nodes p
  length-marks (symbol_pattern n) = refl
  length-marks (app_pattern f ps) = let e = length-all_marks ps in omega (arith, e)
  length-marks (wild_pattern w x) = refl

  pub length-all_marks : (ps : Patterns) → length (all_marks ps) ≡ all_pattern_nodes ps
  length-all_marks no_patterns = refl
  length-all_marks (more_patterns p ps) =
      let e = length-marks p in
      let k = length-all_marks ps in
      omega (arith, e, k, length-append (marks p) (all_marks ps))

-- there are no more nets than rules
pub length-nets : (i : ℕ) (ms : List (List net.Mark)) (ns : List Net) → AreNets i ms ns → length ns ≤ length ms
length-nets i ms [] h = omega arith
length-nets i ms (n ∷ ns) h =
    let k = length-nets (i + h.0) (drop h.0 ms) ns h.2 in
    omega (arith, k, h.1.some, h.1.within, length-drop h.0 ms)

-- nets that make nets of the rules with those of the rules from i on
abbrev pub AreFront : ℕ → List (List net.Mark) → List Net → Type 0
AreFront i ms ns = (rest : List Net) → AreNets i (drop i ms) rest → AreNets 0 ms (ns ++ rest)

-- a group more
pub front-more : (ms : List (List net.Mark)) (i count : ℕ) (n : Net) (ns : List Net) → AreFront i ms ns
    → IsGroup i (drop i ms) count n → AreFront (i + count) ms (ns ++ n ∷ [])
front-more ms i count n ns f g = λ rest h.
    subst (AreNets 0 ms) (sym (append_assoc ns (n ∷ []) rest))
    (f (n ∷ rest) (count, g, subst (λ ds. AreNets (i + count) ds rest) (sym (drop-drop count i ms)) h))

-- all groups
pub front-all : (ms : List (List net.Mark)) (i : ℕ) (ns : List Net) → AreFront i ms ns → length ms ≤ i → AreNets 0 ms ns
front-all ms i ns f h = subst (AreNets 0 ms) (append-nil ns) (f [] (drop_all i ms h))

position_from-map : {X Y : Type 0} (p : Y → Bool) (f : X → Y) (i : ℕ) (xs : List X)
    → position_from p i (map f xs) ≡ position_from (λ x. p (f x)) i xs
position_from-map p f i [] = refl
position_from-map p f i (x ∷ xs) = ap (cond (p (f x)) (Some i)) (position_from-map p f (i + 1) xs)

-- the first item of a mapped list that passes
pub position-map : {X Y : Type 0} (p : Y → Bool) (f : X → Y) (xs : List X)
    → position p (map f xs) ≡ position (λ x. p (f x)) xs
position-map p f xs = position_from-zero p (map f xs) ∙ position_from-map p f 0 xs
    ∙ sym (position_from-zero (λ x. p (f x)) xs)

none-here : (b : Bool) (i : ℕ) (o : Option ℕ) → cond (not b) (Some i) o ≡ None → (b ≡ true) × (o ≡ None)
none-here true i o e = (refl, e)
none-here false i o e = cc

none-from : {X : Type 0} (p : X → Bool) (i : ℕ) (xs : List X) → position_from (λ x. not (p x)) i xs ≡ None
    → AllByRecursion (λ x. p x ≡ true) xs
none-from p i [] e = tt
none-from p i (x ∷ xs) e =
    let h = none-here (p x) i (position_from (λ y. not (p y)) (i + 1) xs) e in
    (h.0, none-from p (i + 1) xs h.1)

-- where none fails the test, all pass it
pub position-none : {X : Type 0} (p : X → Bool) (xs : List X) → position (λ x. not (p x)) xs ≡ None
    → AllByRecursion (λ x. p x ≡ true) xs
position-none p xs e = none-from p 0 xs (sym (position_from-zero (λ x. not (p x)) xs) ∙ e)
