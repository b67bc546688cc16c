-- Where a child stands among the nodes of a plan.
use Rattle.std.proofs.Common.{◌≡◌, ℕ, zero, suc, List, [], ◌∷◌, ◌++◌, take, drop, length, refl, ap, sym, ◌∙◌}
use Rattle.std.specs.Prelude.{Some, slice_get, map}
use Rattle.mp_pattern.specs.PatternTree.{Pattern, symbol_pattern, app_pattern, wild_pattern, patterns}
use Rattle.mp_pattern.specs.View.{pattern_tree}
use Rattle.mp_pattern.specs.Subpatterns.{subpatterns, all_subpatterns}
use Rattle.mp_search.specs.declared.query.Query.{Query}
use Rattle.mp_search.specs.declared.site.Site.{Site}
use Rattle.mp_search.specs.Site.{IsSite}

-- the first item of a list that stands at a place of another
pub front_at : {X : Type 0} (x : X) (xs zs : List X) (n k : ℕ) → x ∷ xs ≡ take n (drop k zs) → slice_get zs k ≡ Some x
front_at x xs [] zero zero e = cc
front_at x xs [] (suc n) zero e = cc
front_at x xs [] zero (suc k) e = cc
front_at x xs [] (suc n) (suc k) e = cc
front_at x xs (z ∷ zs) zero zero e = cc
front_at x xs (z ∷ zs) (suc n) zero e = let i : z ≡ x = cc in ap Some i
front_at x xs (z ∷ zs) n (suc k) e = front_at x xs zs n k e

-- the subpatterns but for the first, which is the pattern
abbrev pub rest_of : Pattern → List Pattern
rest_of (app_pattern f ps) = all_subpatterns ps
rest_of _ = []

pub subpatterns-first : (p : Pattern) → subpatterns p ≡ p ∷ rest_of p
subpatterns-first (symbol_pattern n) = refl
subpatterns-first (app_pattern f ps) = refl
subpatterns-first (wild_pattern w x) = refl

-- the child of a site stands at its node
pub site-node : (q : Query) (x : Site) → IsSite q x
    → slice_get (subpatterns q.plan.now.pattern) x.node ≡ Some (pattern_tree x.child.now)
site-node q x h =
    let p : Pattern = pattern_tree x.child.now in
    let later : List Pattern = all_subpatterns (patterns (map pattern_tree x.later.now)) in
    front_at p (rest_of p ++ later) (subpatterns q.plan.now.pattern) (length (subpatterns p ++ later)) x.node
    (ap (λ ps. ps ++ later) (sym (subpatterns-first p)) ∙ h.children)
