-- The names at the wildcards of a pattern are those of the occurrences of its variables, and which names are known.
use Rattle.std.proofs.Common.{◌≡◌, ◌+◌, ◌∙◌, ℕ, Bool, true, false, List, [], ◌∷◌, ◌++◌, map, refl, ap, ap₂}
use Rattle.std.proofs.Common.{drop, sym}
use Rattle.std.specs.Prelude.{◌||◌, Option, Some, None, slice_get}
use Rattle.std.proofs.lemmas.Option.{get_or_from_slice_get, slice_get_within}
use Rattle.std.proofs.lemmas.List.{map-append}
use Rattle.mp_term.proofs.ListLaws.{drop-item}
use Rattle.mp_pattern.specs.Firsts.{firsts_after, is_known}
use Rattle.mp_pattern.specs.PatternTree.{Pattern, symbol_pattern, app_pattern, wild_pattern, Patterns, no_patterns}
use Rattle.mp_pattern.specs.PatternTree.{more_patterns}
use Rattle.mp_pattern.specs.Value.{same_name}
use Rattle.mp_pattern.specs.Variables.{Use, uses, all_uses, variables}
use Rattle.mp_pattern.specs.UsedNames.{used_names, all_used_names}

mutual
  pub names-uses : (f : Option ℕ) (p : Pattern) → map (λ (u : Use). u.name) (uses f p) ≡ used_names p
  names-uses f (symbol_pattern n) = refl
  names-uses f (wild_pattern w None) = refl
  names-uses f (wild_pattern w (Some x)) = refl
  names-uses f (app_pattern g ps) = all_names-uses (Some g) ps

  pub all_names-uses : (f : Option ℕ) (ps : Patterns) → map (λ (u : Use). u.name) (all_uses f ps) ≡ all_used_names ps
  all_names-uses f no_patterns = refl
  all_names-uses f (more_patterns p ps) =
      map-append (λ (u : Use). u.name) (uses f p) (all_uses f ps)
      ∙ ap₂ (λ (xs ys : List (List ℕ)). xs ++ ys) (names-uses f p) (all_names-uses f ps)

-- what is known among some is known among more
pub is_known-more : {X : Type 0} (same : X → X → Bool) (known more : List X) (x : X) → is_known same known x ≡ true
    → is_known same (known ++ more) x ≡ true
is_known-more same [] more x h = cc
is_known-more same (y ∷ known) more x h =
    elim (same y x) as (λ b. (b || is_known same known x) ≡ true → (b || is_known same (known ++ more) x) ≡ true)
    [ true ↦ λ k. refl | false ↦ λ k. is_known-more same known more x k ] h

-- whether a name is known, by the next of those that are known
pub is_known-next : (known : List (List ℕ)) (i : ℕ) (other name : List ℕ) → slice_get known i ≡ Some other
    → is_known same_name (drop i known) name ≡ same_name other name || is_known same_name (drop (i + 1) known) name
is_known-next known i other name at = ap (λ l. is_known same_name l name)
    (drop-item known i other (slice_get_within known i other at) (sym (get_or_from_slice_get known i other other at)))

-- each at its first place, they are the variables
pub firsts-used_names : (p : Pattern) → firsts_after same_name [] (used_names p) ≡ variables p
firsts-used_names p = ap (firsts_after same_name []) (sym (names-uses None p))
