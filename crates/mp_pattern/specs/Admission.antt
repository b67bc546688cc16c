-- What a rule admits on a subject, and the least table of what it admits.
use Rattle.std.specs.Prelude.{◌≡◌, ℕ, Bool, true, List, [], ◌∷◌, Option, Some, None}
use Rattle.std.specs.declared.cmp.Ordering.TheVariants.{Less}
use Rattle.mp_term.specs.Tree.{Tree}
use Rattle.mp_term.specs.Signature.{Sig}
use Rattle.mp_pattern.specs.PatternTree.{Pattern}
use Rattle.mp_pattern.specs.TemplateTree.{Template}
use Rattle.mp_pattern.specs.CondTree.{Cond}
use Rattle.mp_pattern.specs.Value.{Subst}
use Rattle.mp_pattern.specs.Fits.{Table, Fits}
use Rattle.mp_pattern.specs.DerivationOrder.{table_cmp}
use Rattle.mp_pattern.specs.Holds.{holds}

-- a rule: its name, its pattern, and perhaps a template and a condition
pub record Rule : Type 0 where
  pub name : List ℕ
  pub pattern : Pattern
  pub template : Option Template
  pub condition : Option Cond

-- the condition, where there is one, holds of the substitution
abbrev pub meets : Sig → Option Cond → Subst → Bool
meets sig None s = true
meets sig (Some c) s = holds sig s c

module _ (sig : Sig) where
  -- some table fits with s, and the condition holds of s
  pub record Admits (r : Rule) (t : Tree) (s : Subst) : Type 0 where
    pub table : Table
    pub fits : Fits sig r.pattern t s table
    pub condition : meets sig r.condition s ≡ true

  -- T is the least table that fits with s
  pub record IsLeast (p : Pattern) (t : Tree) (s : Subst) (T : Table) : Type 0 where
    pub fits : Fits sig p t s T
    pub least : (U : Table) → Fits sig p t s U → table_cmp U T ≡ Less → ⊥

  -- each table is the least of the substitution at its place
  abbrev pub AreLeast : Pattern → Tree → List Subst → List Table → Type 0
  AreLeast p t [] [] = Unit {0}
  AreLeast p t (s ∷ ss) (T ∷ Ts) = IsLeast p t s T × AreLeast p t ss Ts
  AreLeast p t _ _ = ⊥
