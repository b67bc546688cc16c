-- The variables of a pattern, and their forms.
use Rattle.std.specs.Prelude.{◌≡◌, ℕ, Bool, true, false, ◌&&◌, not, List, [], ◌∷◌, ◌++◌, map, filter, Option, Some}
use Rattle.std.specs.Prelude.{None, if◌then◌else◌}
use Rattle.std.specs.List.{AllByRecursion, list_any}
use Rattle.mp_term.specs.Signature.{Sig, is_assoc, is_comm}
use Rattle.mp_pattern.specs.PatternTree.{Wildcard, is_sequence, Pattern, symbol_pattern, app_pattern, wild_pattern}
use Rattle.mp_pattern.specs.PatternTree.{Patterns, no_patterns, more_patterns}
use Rattle.mp_pattern.specs.Firsts.{firsts_after}
use Rattle.mp_pattern.specs.Value.{Form, one_form, seq_form, bag_form, form_of, IsFinal, Subst, same_name}

-- an occurrence of a variable: its name, its wildcard, and the operation directly above
pub record Use : Type 0 where
  pub name : List ℕ
  pub wildcard : Wildcard
  pub under : Option ℕ

abbrev mutual
  -- the occurrences of variables in p, which stands under f, in preorder
  pub uses : Option ℕ → Pattern → List Use
  uses f (symbol_pattern n) = []
  uses f (app_pattern g ps) = all_uses (Some g) ps
  uses f (wild_pattern w None) = []
  uses f (wild_pattern w (Some x)) = record { name = x; wildcard = w; under = f } ∷ []

  -- those in each child of f
  pub all_uses : Option ℕ → Patterns → List Use
  all_uses f no_patterns = []
  all_uses f (more_patterns p ps) = uses f p ++ all_uses f ps

-- the variables in order of first occurrence
abbrev pub variables : Pattern → List (List ℕ)
variables p = firsts_after same_name [] (map (λ u. u.name) (uses None p))

module _ (sig : Sig) where
  -- the operation is commutative; at the root there is none
  abbrev pub comm_above : Option ℕ → Bool
  comm_above None = false
  comm_above (Some f) = is_comm sig f

  -- the operation is associative; at the root there is none
  abbrev pub assoc_above : Option ℕ → Bool
  assoc_above None = false
  assoc_above (Some f) = is_assoc sig f

  -- a tuple where some sequence wildcard stands directly under an operation that isn't commutative, else a multiset
  -- where there is a sequence wildcard
  abbrev pub form_among : List Use → List ℕ → Form
  form_among us x =
      let mine = filter (λ u. same_name x u.name && is_sequence u.wildcard) us in
      if list_any (λ u. not (comm_above u.under)) mine then seq_form else
      (if list_any (λ _. true) mine then bag_form else one_form)

  -- the form of a variable of p
  abbrev pub variable_form : Pattern → List ℕ → Form
  variable_form p = form_among (uses None p)

  -- s has exactly the variables of p in order, each with a final value of its form
  pub record IsSubstOf (p : Pattern) (s : Subst) : Type 0 where
    pub names : map (λ b. b.name) s ≡ variables p
    pub forms : AllByRecursion (λ b. form_of b.value ≡ variable_form p b.name) s
    pub final : AllByRecursion (λ b. IsFinal sig b.value) s
