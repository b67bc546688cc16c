-- What is kept of the nodes of a plan, and the subpatterns at their places.
use Rattle.std.proofs.Common.{◌≡◌, ◌+◌, ◌<◌, ℕ, List, ◌∷◌, length, map, drop, get_or}
use Rattle.std.proofs.Common.{Bor, refl, ap, sym, ◌∙◌, arith}
use Rattle.std.specs.Slice.{IsItemAt}
use Rattle.std.specs.Prelude.{Option, Some, None, option_map, slice_get}
use Rattle.std.specs.Option.{option_and_then}
use Rattle.std.proofs.lemmas.List.{drop_more}
use Rattle.std.proofs.lemmas.Option.{slice_get-get_or, slice_get_past}
use Rattle.mp_pattern.specs.PatternTree.{Pattern, symbol_pattern, app_pattern, wild_pattern, Patterns}
use Rattle.mp_pattern.specs.PatternTree.{more_patterns, patterns}
use Rattle.mp_pattern.specs.Plan.{Node, label_variable, nodes}
use Rattle.mp_pattern.specs.PlanView.{stored, variable_label}
use Rattle.mp_pattern.specs.declared.plan.Node.{Node as KeptNode}
use Rattle.mp_pattern.specs.Size.{pattern_nodes}
use Rattle.mp_pattern.specs.Subpatterns.{subpatterns, all_subpatterns}
use Rattle.mp_pattern.proofs.ItemLaws.{slice_get-found, slice_get-second}
use Rattle.mp_pattern.proofs.NodeLaws.{label_of, plan_node, plan-length}
use Rattle.mp_pattern.proofs.PlanLaws.{length-subpatterns}

-- what is kept of a node that is got
pub stored-got : (ns : List KeptNode) (i : ℕ) (r : Option (Bor KeptNode)) → IsItemAt ns i r
    → option_map (λ n. stored n.now) r ≡ option_map stored (slice_get ns i)
stored-got ns i None g = ap (option_map stored) (sym (slice_get_past ns i g.3))
stored-got ns i (Some p) g = ap (option_map stored) (sym (slice_get-get_or ns i p.now g.3.0 ∙ ap Some (sym g.1)))

-- a subpattern of the first of several patterns
pub first-found : (p : Pattern) (ps : Patterns) (i : ℕ) (q : Pattern) → slice_get (subpatterns p) i ≡ Some q
    → slice_get (all_subpatterns (more_patterns p ps)) i ≡ Some q
first-found p ps i q found = slice_get-found (subpatterns p) (all_subpatterns ps) i q found

-- one of those behind it
pub first-passed : (p : Pattern) (ps : Patterns) (i rest : ℕ) → i ≡ pattern_nodes p + rest
    → slice_get (all_subpatterns (more_patterns p ps)) i ≡ slice_get (all_subpatterns ps) rest
first-passed p ps i rest is =
    slice_get-second (subpatterns p) (all_subpatterns ps) rest i (omega (arith, is, length-subpatterns p))

-- the patterns from a place on, where that of the place is given
module _ {X : Type 0} (f : X → Pattern) (xs : List X) (i : ℕ) (x : X) (within : i < length xs)
    (is : x ≡ get_or xs i x) where
  pub patterns-item : patterns (map f (drop i xs)) ≡ more_patterns (f x) (patterns (map f (drop (i + 1) xs)))
  patterns-item = ap (λ l. patterns (map f l)) (drop_more xs i x within ∙ ap (λ y. y ∷ drop (i + 1) xs) (sym is))

module _ (xs : List (List ℕ)) where
  -- a label is that of its pattern with the number in it
  variable_label-label_of : (q : Pattern) → variable_label q (label_variable (label_of xs q)) ≡ label_of xs q
  variable_label-label_of (symbol_pattern s) = refl
  variable_label-label_of (app_pattern f ps) = refl
  variable_label-label_of (wild_pattern w x) = refl

  -- the label of a node whose subpattern is found
  pub label-found : (p : Pattern) (i : ℕ) (q : Pattern) → slice_get (subpatterns p) i ≡ Some q
      → Some (variable_label q
      (option_and_then (λ (m : Node). label_variable m.label) (slice_get (nodes xs None 0 p) i)))
      ≡ option_map (λ (m : Node). m.label) (slice_get (nodes xs None 0 p) i)
  label-found p i q found =
      let m = plan_node xs None p i q found in
      ap (λ o. Some (variable_label q (option_and_then (λ (m : Node). label_variable m.label) o))) m.1
      ∙ ap (λ l. Some (variable_label q (label_variable l))) m.2.label
      ∙ ap Some (variable_label-label_of q ∙ sym m.2.label) ∙ ap (option_map (λ (m : Node). m.label)) (sym m.1)

  -- there is no node behind the last one
  pub label-none : (p : Pattern) (i rest : ℕ) → i ≡ pattern_nodes p + rest
      → None ≡ option_map (λ (m : Node). m.label) (slice_get (nodes xs None 0 p) i)
  label-none p i rest is =
      ap (option_map (λ (m : Node). m.label))
      (sym (slice_get_past (nodes xs None 0 p) i (omega (arith, is, length-subpatterns p, plan-length xs p))))
