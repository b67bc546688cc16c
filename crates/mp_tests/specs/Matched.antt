-- What a test matches.
use Rattle.std.specs.Prelude.{◌≤◌}
use Rattle.std.specs.List.{AllByRecursion}
use Rattle.mp_term.specs.Tree.{Tree}
use Rattle.mp_term.specs.Signature.{Sig}
use Rattle.mp_term.specs.Normal.{IsNormal}
use Rattle.mp_term.specs.Size.{node_count}
use Rattle.mp_pattern.specs.declared.limits.TheConstants.{MAX_TERM_NODES}
use Rattle.mp_pattern.specs.Planned.{RulePlan, IsPlanned}
use Rattle.mp_table.specs.Table.{Table, IsTableOf}

-- the rule is planned over the signature, the subject is normal and within its limit, and the table is one of normal
-- terms: that of the subject and the constants
pub record IsMatched (sig : Sig) (p : RulePlan) (u : Tree) (t : Table) : Type 0 where
  pub planned : IsPlanned sig p
  pub subject : IsNormal sig u
  pub few : node_count u ≤ MAX_TERM_NODES
  pub table : IsTableOf u p.constants t
  pub normal : AllByRecursion (IsNormal sig) t.terms
