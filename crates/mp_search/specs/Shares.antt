-- How many of the terms that are left the later siblings of a child take.
use Rattle.std.specs.Prelude.{◌≡◌, ⊤, ℕ, ◌-◌, Bool, false, List, length, take, drop, Option, Some, None, option_map}
use Rattle.mp_term.specs.Signature.{Sig}
use Rattle.mp_pattern.specs.PatternTree.{Pattern, wild_pattern, Patterns}
use Rattle.mp_pattern.specs.Subpatterns.{subpatterns, all_subpatterns}
use Rattle.mp_pattern.specs.Value.{Subst, value_of}
use Rattle.mp_theory.specs.Known.{contributed, is_optional, is_use, all_least_known, all_most_known, uses_of}
use Rattle.mp_theory.specs.Known.{others_least, others_most}
use Rattle.mp_search.specs.declared.query.Query.{Query}
use Rattle.mp_search.specs.declared.shares.Shares.{Shares}
use Rattle.mp_search.specs.Numbers.{IsNumberOf}

-- the child is a use of the variable, if there is one
abbrev pub is_use_of : Option (List ℕ) → Pattern → Bool
is_use_of None p = false
is_use_of (Some x) p = is_use x p

-- how many of the children are uses of the variable, if there is one
abbrev pub uses_in : Option (List ℕ) → Patterns → ℕ
uses_in None ps = 0
uses_in (Some x) ps = uses_of x ps

-- the least number of terms that the others take, as far as is known
abbrev pub rest_least : Sig → Option (List ℕ) → Subst → Option ℕ → Patterns → ℕ
rest_least sig None s f ps = all_least_known sig s f ps
rest_least sig (Some x) s f ps = others_least sig x s f ps

-- the greatest number, if there is a bound
abbrev pub rest_most : Sig → Option (List ℕ) → Subst → Option ℕ → Patterns → Option ℕ
rest_most sig None s f ps = all_most_known sig s f ps
rest_most sig (Some x) s f ps = others_most sig x s f ps

-- the variable has the number, or there is neither
abbrev pub IsUsed : Query → Option (List ℕ) → Option ℕ → Type 0
IsUsed q None None = ⊤
IsUsed q (Some x) (Some v) = IsNumberOf q x v
IsUsed q _ _ = ⊥

-- the child is an optional wildcard
abbrev pub is_optional_child : Pattern → Bool
is_optional_child (wild_pattern w x) = is_optional w
is_optional_child p = false

-- how many terms the value of the child's variable contributes, if it has one
abbrev pub length_known : Sig → Subst → Option ℕ → Pattern → Option ℕ
length_known sig s f (wild_pattern w (Some x)) = option_map (λ v. length (contributed sig f v)) (value_of s x)
length_known sig s f p = None

-- the children stand in the plan from that node on
abbrev pub StandFrom : Query → ℕ → Patterns → Type 0
StandFrom q node ps = all_subpatterns ps
    ≡ take (length (all_subpatterns ps)) (drop node (subpatterns q.plan.now.pattern))

-- the uses of the variable among the children, and how many of the terms the others leave where they take as few as
-- they can, and as many
pub record AreShares (q : Query) (o : Option (List ℕ)) (s : Subst) (f : Option ℕ) (ps : Patterns) (terms : ℕ)
    (found : Shares) : Type 0 where
  pub uses : found.uses ≡ uses_in o ps
  pub least : found.after_least ≡ terms - rest_least q.sig.now o s f ps
  pub most : found.after_most ≡ option_map (λ m. terms - m) (rest_most q.sig.now o s f ps)
