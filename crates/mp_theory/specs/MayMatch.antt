-- A look whether a child may take a term alone, as far as the term's heads and the substitution so far tell.
use Rattle.std.specs.Prelude.{ℕ, Bool, true, false, ◌&&◌, ◌||◌, not, List, [], ◌∷◌, Option, Some, None}
use Rattle.mp_term.specs.Order.{tree_cmp}
use Rattle.mp_term.specs.Pieces.{same}
use Rattle.mp_term.specs.Tree.{Tree, symbol}
use Rattle.mp_term.specs.NormalTest.{has_head}
use Rattle.mp_term.specs.Signature.{Sig, in_kind, is_one}
use Rattle.mp_pattern.specs.PatternTree.{Wildcard, dot, kind, optional, Pattern, symbol_pattern, app_pattern}
use Rattle.mp_pattern.specs.PatternTree.{wild_pattern, Patterns, no_patterns, more_patterns}
use Rattle.mp_pattern.specs.Value.{Subst}
use Rattle.mp_pattern.specs.Variables.{comm_above, assoc_above}
use Rattle.mp_pattern.specs.Fits.{no_sequence}
use Rattle.mp_theory.specs.Machine.{arguments}
use Rattle.mp_theory.specs.Known.{known}

-- some child is an optional wildcard
abbrev pub has_optional : Patterns → Bool
has_optional no_patterns = false
has_optional (more_patterns (wild_pattern (optional d) x) ps) = true
has_optional (more_patterns p ps) = has_optional ps

-- the list is the term alone
abbrev pub is_alone_in : List Tree → Tree → Bool
is_alone_in (u ∷ []) t = same tree_cmp u t
is_alone_in _ t = false

module _ (sig : Sig) where
  -- a child under f takes exactly one term
  abbrev pub takes_one : Option ℕ → Pattern → Bool
  takes_one f (wild_pattern dot x) = not (assoc_above sig f)
  takes_one f (wild_pattern (kind k) x) = true
  takes_one f (wild_pattern w x) = false
  takes_one f p = true

  -- each child does
  abbrev pub each_takes_one : Option ℕ → Patterns → Bool
  each_takes_one f no_patterns = true
  each_takes_one f (more_patterns p ps) = takes_one f p && each_takes_one f ps

  -- the children take their terms in order, one each
  abbrev pub is_plain : Option ℕ → Patterns → Bool
  is_plain f ps = not (comm_above sig f) && each_takes_one f ps

  -- an application of g to the children may stand for the one term that they take together
  abbrev pub may_collapse : ℕ → Patterns → Bool
  may_collapse g ps = is_one sig g && (no_sequence ps && has_optional ps)

  -- the wildcard is of no kind, or of the symbol's
  abbrev pub is_of_its_kind : Wildcard → Tree → Bool
  is_of_its_kind (kind k) t = in_kind sig k t
  is_of_its_kind w t = true

  module _ (s : Subst) where
    -- what a child is known to take is the term alone, if it is known
    abbrev pub is_as_known : Option ℕ → Pattern → Tree → Bool
    is_as_known f p t = elim (known sig s f p) [ None ↦ true | Some l ↦ is_alone_in l t ]

    abbrev mutual
      -- the child under f may take the term alone
      pub may_match : Option ℕ → Pattern → Tree → Bool
      may_match f (symbol_pattern n) t = same tree_cmp (symbol n) t
      may_match f (wild_pattern w x) t = is_of_its_kind w t && is_as_known f (wild_pattern w x) t
      may_match f (app_pattern g ps) t = may_collapse g ps
          || (has_head g t && (not (is_plain (Some g) ps) || each_may_match (Some g) ps (arguments (t ∷ []))))

      -- each child may take the term at its place
      pub each_may_match : Option ℕ → Patterns → List Tree → Bool
      each_may_match f no_patterns [] = true
      each_may_match f (more_patterns p ps) (t ∷ ts) = may_match f p t && each_may_match f ps ts
      each_may_match f _ _ = false
