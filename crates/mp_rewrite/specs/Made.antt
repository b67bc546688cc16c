-- What a step that is made at a redex asks.
use Rattle.std.specs.Prelude.{◌≡◌, true, is_some, Some}
use Rattle.mp_term.specs.Tree.{Tree}
use Rattle.mp_term.specs.Positions.{subterm}
use Rattle.mp_term.specs.Signature.{Sig, well_formed}
use Rattle.mp_pattern.specs.TemplateTree.{Template}
use Rattle.mp_pattern.specs.Instance.{IsInstance}
use Rattle.mp_rewrite.specs.Computed as computed
use Rattle.mp_rewrite.specs.Matched.{match_of}
use Rattle.mp_rewrite.specs.declared.redex.Redex.{Redex}

-- a redex as plain data
abbrev pub redex_of : Redex → computed.Redex
redex_of r = record { position = r.position.items; «match» = match_of r.found }

-- the position names a subterm, and the rule makes a well formed term of the substitution
pub record IsReady (sig : Sig) (t : Tree) (r : computed.Redex) : Type 0 where
  pub there : is_some (subterm t r.position) ≡ true
  pub template : Template
  pub has_template : r.match.rule.template ≡ Some template
  pub spliced : Tree
  pub instance : IsInstance template r.match.subst spliced
  pub formed : well_formed sig spliced ≡ true
