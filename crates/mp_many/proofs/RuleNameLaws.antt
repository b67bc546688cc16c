-- The variables of the pattern of each rule.
use Rattle.std.proofs.Common.{◌≡◌, ◌<◌, ◌∙◌, ℕ, zero, suc, List, [], ◌∷◌, map, length, get_or, ap, sym, arith}
use Rattle.std.specs.Prelude.{IfSome, slice_get}
use Rattle.mp_pattern.specs.Admission.{Rule}
use Rattle.mp_pattern.specs.RuleView.{rule_tree}
use Rattle.mp_pattern.specs.Variables.{variables}
use Rattle.mp_pattern.specs.View.{pattern_tree}
use Rattle.mp_pattern.specs.declared.rule.Rule as code

-- what stands at a place of the variables of rules
pub variables-at : (rules : List Rule) (all : List (List (List ℕ))) (n : ℕ) (d : List (List ℕ)) → n < length rules
    → all ≡ map (λ r. variables r.pattern) rules → d ≡ get_or all n d
    → IfSome (slice_get rules n) (λ r. d ≡ variables r.pattern)
variables-at [] all n d h e is = absurd (omega (arith, h))
variables-at (r ∷ rs) [] n d h e is = (let wrong = ap length e in absurd (omega (arith, wrong)))
variables-at (r ∷ rs) (x ∷ xs) zero d h e is =
    let both : x ∷ xs ≡ variables r.pattern ∷ map (λ r. variables r.pattern) rs = e in
    let head : x ≡ variables r.pattern = cc in
    is ∙ head
variables-at (r ∷ rs) (x ∷ xs) (suc n) d h e is =
    let both : x ∷ xs ≡ variables r.pattern ∷ map (λ r. variables r.pattern) rs = e in
    let rest : xs ≡ map (λ r. variables r.pattern) rs = cc in
    variables-at rs xs n d (omega (arith, h)) rest is

-- and of rules as the code has them
pub names-at : (rules : List code.Rule) (all : List (List (List ℕ))) (n : ℕ) (x : List (List ℕ)) (r : code.Rule)
    → n < length rules → all ≡ map (λ (r : Rule). variables r.pattern) (map rule_tree rules) → x ≡ get_or all n x
    → r ≡ get_or rules n r → x ≡ variables (pattern_tree r.pattern)
names-at [] all n x r h e w z = absurd (omega (arith, h))
names-at (s ∷ rs) [] n x r h e w z = (let wrong = ap length e in absurd (omega (arith, wrong)))
names-at (s ∷ rs) (y ∷ ys) zero x r h e w z =
    let both : y ∷ ys
    ≡ variables (pattern_tree s.pattern) ∷ map (λ (r : Rule). variables r.pattern) (map rule_tree rs) = e in
    let head : y ≡ variables (pattern_tree s.pattern) = cc in
    w ∙ head ∙ ap (λ (q : code.Rule). variables (pattern_tree q.pattern)) (sym z)
names-at (s ∷ rs) (y ∷ ys) (suc n) x r h e w z =
    let both : y ∷ ys
    ≡ variables (pattern_tree s.pattern) ∷ map (λ (r : Rule). variables r.pattern) (map rule_tree rs) = e in
    let rest : ys ≡ map (λ (r : Rule). variables r.pattern) (map rule_tree rs) = cc in
    names-at rs ys n x r (omega (arith, h)) rest w z
