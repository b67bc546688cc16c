-- What holds of each token of a table that may be walked, and how many nodes the tokens stand for.
use Rattle.std.specs.Prelude.{◌≡◌, ◌<◌, ℕ, ◌+◌, true, false, List, [], ◌∷◌, Option, Some, None, ⊤}
use Rattle.mp_term.specs.Listing.{In}
use Rattle.mp_term.specs.Signature.{Sig, is_comm}
use Rattle.mp_pattern.specs.declared.limits.TheConstants.{MAX_VARIABLES}
use Rattle.mp_pattern.specs.NetTokens.{NetToken, sym_token, enter_token, leave_token, wild_token, comm_token, numbered}
use Rattle.mp_pattern.specs.PatternTree.{Pattern, Patterns, app_pattern}
use Rattle.mp_pattern.specs.PlanFault.{plan_fault}
use Rattle.mp_pattern.specs.Size.{pattern_nodes}
use Rattle.mp_pattern.specs.Sound.{DefaultIsNormal, DefaultsAreNormal, holds_ops}
use Rattle.mp_pattern.specs.Variables.{variables}

-- the nodes of a pattern that a token stands for
abbrev pub token_nodes : NetToken → ℕ
token_nodes (leave_token g) = 0
token_nodes (comm_token p) = pattern_nodes p
token_nodes _ = 1

-- those of tokens one after the other
abbrev pub path_nodes : List NetToken → ℕ
path_nodes [] = 0
path_nodes (k ∷ ks) = token_nodes k + path_nodes ks

-- the number of a variable is within the limit
abbrev pub IsVariableNumber : Option ℕ → Type 0
IsVariableNumber None = ⊤
IsVariableNumber (Some v) = v < MAX_VARIABLES

-- a name is that of a number within the limit
pub record IsNumbered (x : List ℕ) : Type 0 where
  pub number : ℕ
  pub name : x ≡ numbered number
  pub few : number < MAX_VARIABLES

-- the pattern is an application of a commutative operation and has a plan, its operations are held, its defaults are
-- normal, and its variables have the names of numbers
pub record IsSoundComm (sig : Sig) (p : Pattern) : Type 0 where
  pub op : ℕ
  pub children : Patterns
  pub is : p ≡ app_pattern op children
  pub comm : is_comm sig op ≡ true
  pub planned : plan_fault p ≡ None
  pub held : holds_ops sig p ≡ true
  pub defaults : DefaultsAreNormal sig p
  pub names : (x : List ℕ) → In x (variables p) → IsNumbered x

-- an operation that is entered or left isn't commutative, a default is normal, and the numbers of variables are within
-- the limit
abbrev pub IsSoundToken : Sig → NetToken → Type 0
IsSoundToken sig (sym_token n) = ⊤
IsSoundToken sig (enter_token g) = is_comm sig g ≡ false
IsSoundToken sig (leave_token g) = is_comm sig g ≡ false
IsSoundToken sig (wild_token w x) = DefaultIsNormal sig w × IsVariableNumber x
IsSoundToken sig (comm_token p) = IsSoundComm sig p
