-- The rules on the paths of a program's instructions.
use Rattle.std.specs.Prelude.{ℕ, suc, Bool, true, false, ◌&&◌, ◌||◌, not, List, [], ◌∷◌, ◌++◌, length, map, flat_map}
use Rattle.std.specs.Prelude.{Option, Some, None, slice_get, nat_eq, nat_le, if◌then◌else◌}
use Rattle.std.specs.List.{list_any, list_all}
use Rattle.std.specs.Option.{option_map_or}
use Rattle.mp_io.specs.Devices.{Text}
use Rattle.mp_term.specs.Signature.{Sig, is_comm}
use Rattle.mp_pattern.specs.declared.limits.TheConstants.{MAX_VARIABLES}
use Rattle.mp_pattern.specs.Clash.{same_shape}
use Rattle.mp_pattern.specs.CondTree.{Operand, var, ground, Cond, less, negation, all_of, any_of, Conds, no_conds}
use Rattle.mp_pattern.specs.CondTree.{more_conds}
use Rattle.mp_pattern.specs.Firsts.{firsts_after, is_known}
use Rattle.mp_pattern.specs.NetTokens.{NetToken, enter_token, leave_token, wild_token, comm_token, numbered}
use Rattle.mp_pattern.specs.Operands.{operands}
use Rattle.mp_pattern.specs.PatternTree.{is_sequence, is_loose}
use Rattle.mp_pattern.specs.Value.{same_name}
use Rattle.mp_pattern.specs.Variables.{Use, uses}
use Rattle.mp_walk.specs.SoundTokens.{path_nodes}
use Rattle.mp_walk.specs.TokenMachine.{numbered_wildcard}
use Rattle.mp_walk.specs.Walkable.{Path}
use Rattle.mp_program.specs.Program.{ProgramRule}

-- ---- a path by itself

-- a plus, star, counted or optional wildcard
abbrev pub is_loose_token : NetToken → Bool
is_loose_token (wild_token w x) = is_loose w
is_loose_token _ = false

-- the first token isn't such a wildcard
abbrev pub has_plain_root : Path → Bool
has_plain_root [] = true
has_plain_root (k ∷ ks) = not (is_loose_token k)

-- the begin of an application of a commutative operation
abbrev pub enters_comm : Sig → NetToken → Bool
enters_comm sig (enter_token f) = is_comm sig f
enters_comm sig _ = false

-- the occurrences of variables in a token; the variable of the number n is called vn
abbrev pub token_uses : NetToken → List Use
token_uses (wild_token w x) = uses None (numbered_wildcard w x)
token_uses (comm_token p) = uses None p
token_uses _ = []

-- those in a path, in order
abbrev pub path_uses : Path → List Use
path_uses ks = flat_map token_uses ks

-- the variables in order of first occurrence
abbrev pub path_variables : Path → List Text
path_variables ks = firsts_after same_name [] (map (λ u. u.name) (path_uses ks))

-- the names are those of the numbers from n on
abbrev pub are_numbered_from : ℕ → List Text → Bool
are_numbered_from n [] = true
are_numbered_from n (x ∷ xs) = same_name x (numbered n) && are_numbered_from (suc n) xs

-- occurrences of one variable with other wildcards: of another class, kind, count or default
abbrev pub differ : Use → Use → Bool
differ u v = same_name u.name v.name && not (same_shape u.wildcard v.wildcard)

-- two of the occurrences are such
abbrev pub some_differ : List Use → Bool
some_differ [] = false
some_differ (u ∷ us) = list_any (differ u) us || some_differ us

-- the first token is no plus, star, counted or optional wildcard; no commutative operation is entered; there are so
-- many nodes at most; the variables first occur as v0, v1 and so on; there are at most MAX_VARIABLES, each with one
-- wildcard
abbrev pub is_right_path : Sig → ℕ → Path → Bool
is_right_path sig most ks = has_plain_root ks && (not (list_any (enters_comm sig) ks)
    && (nat_le (path_nodes ks) most && (are_numbered_from 0 (path_variables ks)
    && (nat_le (length (path_variables ks)) MAX_VARIABLES && not (some_differ (path_uses ks))))))

-- ---- open operations

-- the operations that are open behind a token, the innermost first, where fs are before it; none where a `leave`
-- doesn't name the innermost one
abbrev pub open_after : List ℕ → NetToken → Option (List ℕ)
open_after fs (enter_token g) = Some (g ∷ fs)
open_after [] (leave_token g) = None
open_after (f ∷ fs) (leave_token g) = if nat_eq f g then Some fs else None
open_after fs _ = Some fs

-- those that are open behind tokens
abbrev pub open_along : List ℕ → Path → Option (List ℕ)
open_along fs [] = Some fs
open_along fs (k ∷ ks) = elim (open_after fs k) [ None ↦ None | Some gs ↦ open_along gs ks ]

-- an operation is open exactly where the instruction leads down
abbrev pub is_balanced : Option (List ℕ) → Bool → Bool
is_balanced None leads_down = false
is_balanced (Some []) leads_down = not leads_down
is_balanced (Some (f ∷ fs)) leads_down = leads_down

-- ---- the rules that a path accepts

-- the variable of an operand, if it is one
abbrev pub operand_names : Operand → List Text
operand_names (var x) = x ∷ []
operand_names (ground t) = []

-- the variables of a condition, each as often as it stands there
abbrev pub cond_names : Cond → List Text
cond_names c = flat_map operand_names (operands c)

abbrev mutual
  -- those that are operands of `less`
  pub less_names : Cond → List Text
  less_names (less a b) = operand_names a ++ operand_names b
  less_names (negation c) = less_names c
  less_names (all_of cs) = all_less_names cs
  less_names (any_of cs) = all_less_names cs
  less_names _ = []

  -- so in each condition
  pub all_less_names : Conds → List Text
  all_less_names no_conds = []
  all_less_names (more_conds c cs) = less_names c ++ all_less_names cs

-- a variable of a plus, star or counted wildcard
abbrev pub is_sequence_name : List Use → Text → Bool
is_sequence_name us x = list_any (λ u. same_name u.name x && is_sequence u.wildcard) us

-- the test names variables of the path only, and those that it compares by `less` stand for one term
abbrev pub suits_test : Path → Option Cond → Bool
suits_test ks None = true
suits_test ks (Some c) = list_all (is_known same_name (path_variables ks)) (cond_names c)
    && not (list_any (is_sequence_name (path_uses ks)) (less_names c))

-- the test of a rule, where it has one
abbrev pub test_of : List Cond → Option ℕ → Option Cond
test_of tests None = None
test_of tests (Some n) = slice_get tests n

-- the rule of the number exists, and has as many variables as the path and a test that suits it
abbrev pub may_accept : List Cond → List ProgramRule → Path → ℕ → Bool
may_accept tests rules ks n = option_map_or
    (λ r. nat_eq (length r.vars) (length (path_variables ks)) && suits_test ks (test_of tests r.test))
    (slice_get rules n) false
