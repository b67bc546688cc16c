-- The substitution that a list of takes gives: each use of a variable gives a value, and the values of one variable are
-- merged in turn.
use Rattle.std.specs.Prelude.{ℕ, Bool, true, not, ◌&&◌, List, [], ◌∷◌, length, Option, Some, None, if◌then◌else◌}
use Rattle.std.specs.Prelude.{option_map, option_and_then}
use Rattle.mp_term.specs.Tree.{Tree, app, trees}
use Rattle.mp_term.specs.NormalTest.{has_head}
use Rattle.mp_term.specs.Signature.{Sig, in_kind, is_assoc}
use Rattle.mp_pattern.specs.PatternTree.{Wildcard, dot, kind, plus, star, counted, meets_count, optional}
use Rattle.mp_pattern.specs.Value.{Value, one, seq, bag, Subst, same_name, merge}
use Rattle.mp_pattern.specs.Variables.{Use, comm_above}

-- a variable's use and what it takes
pub record Taken : Type 0 where
  pub by : Use
  pub terms : List Tree

-- the value merged with that of the variable, or a new binding at the end
abbrev pub bind : Subst → List ℕ → Value → Option Subst
bind [] x w = Some (record { name = x; value = w } ∷ [])
bind (b ∷ s) x w =
    if same_name b.name x then option_map (λ u. record { name = b.name; value = u } ∷ s)
    (merge b.value w) else option_map (λ r. b ∷ r) (bind s x w)

module _ (sig : Sig) where
  -- under f the term alone is a contribution: it isn't headed by f, where f is associative
  abbrev pub is_alone : Option ℕ → Tree → Bool
  is_alone None t = true
  is_alone (Some f) t = not (is_assoc sig f && has_head f t)

  -- the term that contributes the list under f
  abbrev pub contributor : Option ℕ → List Tree → Option Value
  contributor f [] = None
  contributor f (t ∷ []) = if is_alone f t then Some (one t) else None
  contributor None (t ∷ u ∷ ts) = None
  contributor (Some f) (t ∷ u ∷ ts) = if is_assoc sig f then Some (one (app f (trees (t ∷ u ∷ ts)))) else None

  -- a tuple, or under a commutative operation a multiset
  abbrev pub sequence : Option ℕ → List Tree → Value
  sequence f ts = if comm_above sig f then bag ts else seq ts

  -- the one term, if it is a symbol of the kind
  abbrev pub of_kind : ℕ → List Tree → Option Value
  of_kind k (t ∷ []) = if in_kind sig k t then Some (one t) else None
  of_kind k _ = None

  -- the value that a wildcard gives its variable by taking the list
  abbrev pub given : Option ℕ → Wildcard → List Tree → Option Value
  given f dot ts = contributor f ts
  given f (kind k) ts = of_kind k ts
  given f plus [] = None
  given f plus (t ∷ ts) = Some (sequence f (t ∷ ts))
  given f star ts = Some (sequence f ts)
  given f (counted n fixed) ts = if meets_count n fixed (length ts) then Some (sequence f ts) else None
  given f (optional d) [] = Some (one d)
  given f (optional d) (t ∷ ts) = contributor f (t ∷ ts)

  -- the takes in turn over a substitution: each gives a value, which is bound
  abbrev pub solve : Subst → List Taken → Option Subst
  solve s [] = Some s
  solve s (t ∷ ts) = option_and_then (λ w. option_and_then (λ r. solve r ts) (bind s t.by.name w))
      (given t.by.under t.by.wildcard t.terms)
