-- What holds of each program that is valid, as its run needs it.
use Rattle.std.specs.Prelude.{◌≡◌, ◌≤◌, ⊤, ℕ, true}
use Rattle.std.specs.List.{AllByRecursion}
use Rattle.mp_term.specs.Listing.{In}
use Rattle.mp_term.specs.Signature.{Sig}
use Rattle.mp_term.specs.Size.{node_count}
use Rattle.mp_pattern.specs.declared.limits.TheConstants.{MAX_OPERAND_NODES}
use Rattle.mp_pattern.specs.CondTree.{Operand, var, ground, Cond}
use Rattle.mp_pattern.specs.EachWildcard.{EachWildcard}
use Rattle.mp_pattern.specs.Limits.{DefaultIsSmall}
use Rattle.mp_pattern.specs.NetTokens.{NetToken, sym_token, enter_token, leave_token, wild_token, comm_token}
use Rattle.mp_pattern.specs.Operands.{operands}
use Rattle.mp_pattern.specs.PatternTree.{Wildcard}
use Rattle.mp_walk.specs.CodeForest.{code_forest}
use Rattle.mp_walk.specs.Forests.{lists}
use Rattle.mp_walk.specs.Instrs.{accepts_at}
use Rattle.mp_walk.specs.Walkable.{Path, IsWalkable}
use Rattle.mp_program.specs.Program.{Program}
use Rattle.mp_program.specs.TokenPaths.{may_accept}

-- what holds of each wildcard of a token
abbrev pub EachOfToken : (Wildcard → Type 0) → NetToken → Type 0
EachOfToken Q (sym_token n) = ⊤
EachOfToken Q (enter_token f) = ⊤
EachOfToken Q (leave_token f) = ⊤
EachOfToken Q (wild_token w x) = Q w
EachOfToken Q (comm_token p) = EachWildcard Q p

-- an operand that is a term is small
abbrev pub IsSmallOperand : Operand → Type 0
IsSmallOperand (var x) = ⊤
IsSmallOperand (ground t) = node_count t ≤ MAX_OPERAND_NODES

-- so are those of a test
abbrev pub HasSmallOperands : Cond → Type 0
HasSmallOperands c = AllByRecursion IsSmallOperand (operands c)

-- the instructions may be walked, each rule suits the paths that accept it, and defaults and operands are small
pub record IsRunnable (sig : Sig) (p : Program) : Type 0 where
  pub walkable : IsWalkable sig p.code
  pub accepted : (n r : ℕ) (path : Path) → In {X = ℕ × Path} (n, path) (lists (code_forest p.code))
      → In r (accepts_at p.code n) → may_accept p.tests p.rules path r ≡ true
  pub defaults : (n : ℕ) (path : Path) → In {X = ℕ × Path} (n, path) (lists (code_forest p.code))
      → AllByRecursion (EachOfToken DefaultIsSmall) path
  pub operands : AllByRecursion HasSmallOperands p.tests
