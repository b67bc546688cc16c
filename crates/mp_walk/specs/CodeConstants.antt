-- The constants of a table of instructions: the terms that its tokens bring to a walk beside the subject. A token of a
-- symbol brings none: it is told by its name.
use Rattle.std.specs.Prelude.{◌≤◌, List, [], IsSome, flat_map}
use Rattle.std.specs.List.{AllByRecursion}
use Rattle.mp_term.specs.Listing.{In}
use Rattle.mp_term.specs.Normal.{IsNormal}
use Rattle.mp_term.specs.Signature.{Sig}
use Rattle.mp_term.specs.Size.{all_nodes, node_count}
use Rattle.mp_term.specs.Tree.{Tree}
use Rattle.mp_pattern.specs.Constants.{default_of, pattern_constants}
use Rattle.mp_pattern.specs.declared.limits.TheConstants.{MAX_TERM_NODES}
use Rattle.mp_pattern.specs.NetTokens.{NetToken, sym_token, enter_token, leave_token, wild_token, comm_token}
use Rattle.mp_table.specs.declared.limits.TheConstants.{MAX_CONSTANT_NODES}
use Rattle.mp_table.specs.Table.{Table, rank_of, subject_of}
use Rattle.mp_walk.specs.Instrs.{Instr}

-- the default of a token, or the symbols and the defaults of its pattern
abbrev pub token_constants : NetToken → List Tree
token_constants (sym_token n) = []
token_constants (enter_token f) = []
token_constants (leave_token f) = []
token_constants (wild_token w x) = default_of w
token_constants (comm_token p) = pattern_constants p

-- those of all tokens, in the order of the instructions
abbrev pub code_constants : List Instr → List Tree
code_constants code = flat_map (λ i. token_constants i.token) code

-- terms for the table of any subject: they are normal, a table has room for them, and each constant of the instructions
-- is among them
pub record AreCodeConstants (sig : Sig) (code : List Instr) (ts : List Tree) : Type 0 where
  pub normal : AllByRecursion (IsNormal sig) ts
  pub few : all_nodes ts ≤ MAX_CONSTANT_NODES
  pub held : AllByRecursion (λ u. In u ts) (code_constants code)

-- a table on whose subject the instructions may be walked: the terms are normal, the subject isn't too large, and each
-- constant of the instructions is held
pub record IsCodeTable (sig : Sig) (code : List Instr) (t : Table) : Type 0 where
  pub normal : AllByRecursion (IsNormal sig) t.terms
  pub few : node_count (subject_of t) ≤ MAX_TERM_NODES
  pub constants : AllByRecursion (λ u. IsSome (rank_of t u)) (code_constants code)
