-- What a search that begins counts on.
use Rattle.std.proofs.Common.{◌≡◌, ◌+◌, ℕ, List, length, map}
use Rattle.std.proofs.Common.{ap, sym, ◌∙◌, subst}
use Rattle.std.specs.Prelude.{Some, slice_get, option_map}
use Rattle.std.proofs.lemmas.Option.{slice_get-map}
use Rattle.mp_pattern.specs.NetTokens.{numbered}
use Rattle.mp_pattern.specs.PatternTree.{Pattern}
use Rattle.mp_pattern.specs.Size.{pattern_nodes}
use Rattle.mp_pattern.specs.Subpatterns.{subpatterns}
use Rattle.mp_pattern.specs.Value.{same_name}
use Rattle.mp_pattern.specs.Variables.{variables}
use Rattle.mp_pattern.proofs.PlanLaws.{length-subpatterns}
use Rattle.mp_theory.proofs.FirstsLaws.{Distinct}
use Rattle.mp_search.proofs.NumberLaws.{distinct-variables, distinct-places}
use Rattle.mp_ac.specs.CommPlan.{IsApplication, nodes_below}

-- an application has one node more than there are below its root
pub count-subpatterns : (p : Pattern) → IsApplication p → length (subpatterns p) ≡ nodes_below p + 1
count-subpatterns p a =
    length-subpatterns p ∙ ap pattern_nodes a.is ∙ ap (λ q. nodes_below q + 1) (sym a.is)

-- the numbers of a plan's variables are distinct
pub distinct-numbers : (p : Pattern) (vs : List ℕ) → map numbered vs ≡ variables p → (i j v : ℕ)
    → slice_get vs i ≡ Some v → slice_get vs j ≡ Some v → i ≡ j
distinct-numbers p vs e i j v a b = distinct-places (map numbered vs) i j (numbered v)
    (subst (Distinct same_name) (sym e) (distinct-variables p))
    (slice_get-map numbered vs i ∙ ap (option_map numbered) a)
    (slice_get-map numbered vs j ∙ ap (option_map numbered) b)
