-- What a program accepts on a subject.
use Rattle.std.specs.Prelude.{◌≡◌, ◌↔◌, ℕ, Bool, true, List, Option, Some, slice_get}
use Rattle.mp_term.specs.Listing.{In, IsListing}
use Rattle.mp_term.specs.Signature.{Sig}
use Rattle.mp_term.specs.Tree.{Tree}
use Rattle.mp_pattern.specs.Admission.{meets}
use Rattle.mp_pattern.specs.Fits as fits
use Rattle.mp_pattern.specs.Fits.{Fits}
use Rattle.mp_pattern.specs.Lists.{Pair, pair_cmp}
use Rattle.mp_pattern.specs.PatternTree.{Pattern}
use Rattle.mp_pattern.specs.Value.{Subst}
use Rattle.mp_table.specs.Table.{Table}
use Rattle.mp_walk.specs.CodeConstants.{IsCodeTable}
use Rattle.mp_walk.specs.CodeForest.{code_forest}
use Rattle.mp_walk.specs.Forests.{lists}
use Rattle.mp_walk.specs.Instrs.{accepts_at}
use Rattle.mp_walk.specs.NamedItems.{with_names}
use Rattle.mp_walk.specs.Walkable.{Path, StandsFor}
use Rattle.mp_program.specs.Program.{ProgramRule, Program}
use Rattle.mp_program.specs.TokenPaths.{test_of}

module _ (sig : Sig) (p : Program) (t : Tree) where
  -- the pair is of the rule and the leaf: along the path to this the table fits the pattern for which the path stands
  -- with a substitution of which the rule's test holds, and this is it, its variables called as in the rule line
  pub record IsGivenBy (leaf : ℕ) (T : fits.Table) (q : Pair) : Type 0 where
    pub rule : ProgramRule
    pub numbered : slice_get p.rules q.0 ≡ Some rule
    pub path : Path
    pub leads : In {X = ℕ × Path} (leaf, path) (lists (code_forest p.code))
    pub pattern : Pattern
    pub stands : StandsFor sig path pattern
    pub subst : Subst
    pub fits : Fits sig pattern t subst T
    pub test : meets sig (test_of p.tests rule.test) subst ≡ true
    pub named : q.1 ≡ with_names rule.vars subst

  -- some instruction accepts the pair's rule and gives it with some table
  pub record IsProgramPair (q : Pair) : Type 0 where
    pub leaf : ℕ
    pub accepts : In q.0 (accepts_at p.code leaf)
    pub table : fits.Table
    pub given : IsGivenBy leaf table q

  -- the list is of exactly these pairs, strictly ascending
  abbrev pub IsProgramList : List Pair → Type 0
  IsProgramList = IsListing pair_cmp IsProgramPair

-- the rule is one that the instruction accepts
abbrev pub IsAcceptedAt : Program → ProgramRule → ℕ → Type 0
IsAcceptedAt p r leaf = (n : ℕ) × In n (accepts_at p.code leaf) × (slice_get p.rules n ≡ Some r)

-- the answer of a rule's test at an item: whether the test, where there is one, holds of each substitution with which
-- the table fits the pattern of the path
abbrev pub IsTestedBy : Sig → Program → Tree → ProgramRule → (ℕ × fits.Table) → Bool → Type 0
IsTestedBy sig p t r i answer = (path : Path) (pattern : Pattern) (s : Subst)
    → In {X = ℕ × Path} (i.0, path) (lists (code_forest p.code)) → StandsFor sig path pattern
    → Fits sig pattern t s i.1 → meets sig (test_of p.tests r.test) s ≡ answer

-- this is the pair of the item and the rule of the number, where its test holds
abbrev pub IsPairOf : Sig → Program → Tree → (ℕ × fits.Table) → ℕ → Option Pair → Type 0
IsPairOf sig p t i n o = (q : Pair) → ((q.0 ≡ n) × IsGivenBy sig p t i.0 i.1 q) ↔ (o ≡ Some q)

-- a program may be run on the table's subject: its instructions may be walked on it
abbrev pub IsProgramTable : Sig → Program → Table → Type 0
IsProgramTable sig p = IsCodeTable sig p.code
