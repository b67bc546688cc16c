-- Of which signatures, terms, patterns and conditions the printed text is read again: every check and every limit of
-- the reader, said of plain trees that need not be normal.
use Rattle.std.specs.Prelude.{◌≡◌, ◌≤◌, ℕ, true, false, List, length, Option, Some, None, ⊤}
use Rattle.std.specs.List.{AllByRecursion}
use Rattle.mp_term.specs.declared.signature.OpDecl.{OpDecl}
use Rattle.mp_term.specs.Tree.{Tree}
use Rattle.mp_term.specs.Size.{node_count, depth}
use Rattle.mp_term.specs.Names.{is_name, is_sign}
use Rattle.mp_term.specs.Signature.{Sig, IsSignature, well_formed}
use Rattle.mp_pattern.specs.declared.limits.TheConstants.{MAX_TERM_NODES, MAX_PATTERN_NODES, MAX_VARIABLES, MAX_DEPTH}
use Rattle.mp_pattern.specs.PatternTree.{Pattern}
use Rattle.mp_pattern.specs.Normal.{is_loose}
use Rattle.mp_pattern.specs.Size.{pattern_nodes}
use Rattle.mp_pattern.specs.Depth.{pattern_depth}
use Rattle.mp_pattern.specs.Variables.{variables}
use Rattle.mp_pattern.specs.Clash.{first_clash}
use Rattle.mp_pattern.specs.CondTree.{Cond}
use Rattle.mp_pattern.specs.SoundRule.{HasSymbols, IsFormed}
use Rattle.mp_build.specs.Scope.{Scope}
use Rattle.mp_build.specs.SoundCondition.{IsScopedCondition}
use Rattle.mp_round_trip.specs.OpenBrackets.{condition_depth}

-- the sign, where there is one, is a sign
abbrev pub IsSpelledSign : Option (List ℕ) → Type 0
IsSpelledSign None = ⊤
IsSpelledSign (Some sign) = is_sign sign ≡ true

-- an operation: its name is a name, and its sign is one
pub record IsSpelledOp (d : OpDecl) : Type 0 where
  pub name : is_name d.name ≡ true
  pub sign : IsSpelledSign d.sign

-- a signature: so are its operations, and the name of each kind is a name
pub record IsSpelledSignature (sig : Sig) : Type 0 where
  pub signature : IsSignature sig
  pub ops : AllByRecursion IsSpelledOp sig.ops
  pub kinds : AllByRecursion (λ k. is_name k.name ≡ true) sig.kinds

module _ (sig : Sig) where
  -- a term: well formed, with symbols that are names and no operation's, and within the limits of terms
  pub record IsReadableTerm (t : Tree) : Type 0 where
    pub formed : well_formed sig t ≡ true
    pub symbols : HasSymbols sig t
    pub few_nodes : node_count t ≤ MAX_TERM_NODES
    pub shallow : depth t ≤ MAX_DEPTH

  -- a pattern: what holds of the pattern of a rule, but that it need not be normal
  pub record IsReadablePattern (p : Pattern) : Type 0 where
    pub formed : IsFormed sig p
    pub plain_root : is_loose p ≡ false
    pub no_clash : first_clash p ≡ None
    pub few_nodes : pattern_nodes p ≤ MAX_PATTERN_NODES
    pub few_variables : length (variables p) ≤ MAX_VARIABLES
    pub shallow : pattern_depth p ≤ MAX_DEPTH

  -- a condition over the variables that may be named: it is one, with at most MAX_DEPTH brackets open at once
  pub record IsReadableCondition (scope : Scope) (c : Cond) : Type 0 where
    pub sound : IsScopedCondition sig scope c
    pub shallow : condition_depth c ≤ MAX_DEPTH
