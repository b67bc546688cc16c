-- What rewriting asks of rules and of a term.
use Rattle.std.specs.Prelude.{◌≡◌, ◌≤◌, true, is_some, List}
use Rattle.std.specs.List.{AllByRecursion}
use Rattle.mp_term.specs.declared.limits.TheConstants.{MAX_TERM_NODES, MAX_DEPTH}
use Rattle.mp_term.specs.Tree.{Tree}
use Rattle.mp_term.specs.Size.{node_count, depth}
use Rattle.mp_term.specs.Signature.{Sig, well_formed}
use Rattle.mp_term.specs.Normal.{IsNormal}
use Rattle.mp_pattern.specs.Admission.{Rule}
use Rattle.mp_pattern.specs.SoundRule.{AreSoundRules}

-- the rule has a template
abbrev pub HasTemplate : Rule → Type 0
HasTemplate r = is_some r.template ≡ true

-- the rules are sound, and each has a template
pub record AreRewriteRules (sig : Sig) (rules : List Rule) : Type 0 where
  pub sound : AreSoundRules sig rules
  pub templates : AllByRecursion HasTemplate rules

-- the term is normal and well formed, and within the limits of a term
pub record IsRewritable (sig : Sig) (t : Tree) : Type 0 where
  pub normal : IsNormal sig t
  pub formed : well_formed sig t ≡ true
  pub few_nodes : node_count t ≤ MAX_TERM_NODES
  pub shallow : depth t ≤ MAX_DEPTH
