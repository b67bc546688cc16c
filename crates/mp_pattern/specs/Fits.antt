-- When a take table fits a pattern, a subject and a substitution.
use Rattle.std.specs.Prelude.{◌≡◌, ◌⊎◌, ℕ, Bool, true, false, ◌&&◌, ◌||◌, not, List, [], ◌∷◌, length, flat_map, Option}
use Rattle.std.specs.Prelude.{Some, None, ⊤, if◌then◌else◌}
use Rattle.mp_term.specs.Tree.{Tree, symbol, app, trees}
use Rattle.mp_term.specs.Order.{tree_cmp}
use Rattle.mp_term.specs.Sorting.{sorted}
use Rattle.mp_term.specs.Signature.{Sig, is_one, in_kind}
use Rattle.mp_term.specs.Normal.{IsNormal}
use Rattle.mp_pattern.specs.PatternTree.{Wildcard, dot, kind, plus, star, optional, counted, meets_count, is_sequence}
use Rattle.mp_pattern.specs.PatternTree.{Pattern, symbol_pattern, app_pattern, wild_pattern, Patterns, no_patterns}
use Rattle.mp_pattern.specs.PatternTree.{more_patterns}
use Rattle.mp_pattern.specs.Value.{Value, one, seq, bag, Subst, value_of}
use Rattle.mp_pattern.specs.Variables.{IsSubstOf, comm_above}
use Rattle.mp_pattern.specs.Contribution.{contribution}

-- what a node takes, and of an application whether it is collapsed
pub record Entry : Type 0 where
  pub terms : List Tree
  pub collapsed : Bool

-- an entry of nothing
abbrev pub nothing : Entry
nothing = record { terms = []; collapsed = false }

-- one entry for each node of a pattern in preorder
abbrev pub Table : Type 0
Table = List Entry

-- the lists one after the other
abbrev pub joined : {X : Type 0} → List (List X) → List X
joined = flat_map (λ xs. xs)

-- an optional wildcard that takes the empty list
abbrev pub is_left_out : Pattern → List Tree → Bool
is_left_out (wild_pattern (optional d) x) [] = true
is_left_out _ _ = false

-- some optional child takes the empty list
abbrev pub some_left_out : Patterns → List (List Tree) → Bool
some_left_out (more_patterns p ps) (l ∷ ls) = is_left_out p l || some_left_out ps ls
some_left_out _ _ = false

-- no child is a plus, star or counted wildcard
abbrev pub no_sequence : Patterns → Bool
no_sequence no_patterns = true
no_sequence (more_patterns (wild_pattern w x) ps) = not (is_sequence w) && no_sequence ps
no_sequence (more_patterns p ps) = no_sequence ps

module _ (sig : Sig) where
  -- under a commutative operation a list is taken in order
  abbrev pub arranged : Option ℕ → List Tree → List Tree
  arranged f ts = if comm_above sig f then sorted tree_cmp ts else ts

  -- a wildcard under f, at the value v of its variable, takes l
  abbrev pub WildTakes : Option ℕ → Wildcard → Value → List Tree → Type 0
  WildTakes f dot (one v) l = contribution sig f v ≡ Some l
  WildTakes f (kind k) (one v) l = (l ≡ v ∷ []) × (in_kind sig k v ≡ true)
  WildTakes f plus (seq m) l = (l ≡ arranged f m) × (l ≡ [] → ⊥)
  WildTakes f plus (bag m) l = (l ≡ m) × (l ≡ [] → ⊥)
  WildTakes f star (seq m) l = l ≡ arranged f m
  WildTakes f star (bag m) l = l ≡ m
  WildTakes f (counted n fixed) (seq m) l = (l ≡ arranged f m) × (meets_count n fixed (length l) ≡ true)
  WildTakes f (counted n fixed) (bag m) l = (l ≡ m) × (meets_count n fixed (length l) ≡ true)
  WildTakes f (optional d) (one v) l = (contribution sig f v ≡ Some l) ⊎ ((l ≡ []) × (v ≡ d))
  WildTakes _ _ _ _ = ⊥

  -- some normal term contributes l under f
  abbrev pub IsContributed : Option ℕ → List Tree → Type 0
  IsContributed f l = (v : Tree) × IsNormal sig v × (contribution sig f v ≡ Some l)

  -- an unnamed wildcard under f takes l
  abbrev pub UnnamedTakes : Option ℕ → Wildcard → List Tree → Type 0
  UnnamedTakes f dot l = IsContributed f l
  UnnamedTakes f (kind k) l = (v : Tree) × (l ≡ v ∷ []) × (in_kind sig k v ≡ true)
  UnnamedTakes f plus l = (arranged f l ≡ l) × (l ≡ [] → ⊥)
  UnnamedTakes f star l = arranged f l ≡ l
  UnnamedTakes f (counted n fixed) l = (arranged f l ≡ l) × (meets_count n fixed (length l) ≡ true)
  UnnamedTakes f (optional d) l = IsContributed f l ⊎ (l ≡ [])

  -- an application of g to what its children take together; `fit` says that the children fit with the takes and the
  -- tables
  pub record ByArguments (g : ℕ) (l : List Tree) (T : Table)
      (fit : List (List Tree) → List Table → Type 0) : Type 0 where
    pub takes : List (List Tree)
    pub tables : List Table
    pub children : fit takes tables
    pub node : l ≡ app g (trees (arranged (Some g) (joined takes))) ∷ []
    pub table : T ≡ record { terms = l; collapsed = false } ∷ joined tables

  -- an application of g that stands for the one term which its children take together
  pub record Collapsed (g : ℕ) (ps : Patterns) (l : List Tree) (T : Table)
      (fit : List (List Tree) → List Table → Type 0) : Type 0 where
    pub takes : List (List Tree)
    pub tables : List Table
    pub children : fit takes tables
    pub identity : is_one sig g ≡ true
    pub plain : no_sequence ps ≡ true
    pub left_out : some_left_out ps takes ≡ true
    pub term : Tree
    pub node : l ≡ term ∷ []
    pub together : joined takes ≡ term ∷ []
    pub table : T ≡ record { terms = l; collapsed = true } ∷ joined tables

  -- a wildcard under f takes l, where its variable, if it has one, has its value in s
  abbrev pub ByValue : Subst → Option ℕ → Wildcard → Option (List ℕ) → List Tree → Type 0
  ByValue s f w (Some x) l = (v : Value) × (value_of s x ≡ Some v) × WildTakes f w v l
  ByValue s f w None l = UnnamedTakes f w l

  -- the lines of the table, where `line` is that of the wildcards
  module _ (line : Option ℕ → Wildcard → Option (List ℕ) → List Tree → Type 0) where
    abbrev mutual
      -- p under f takes l, with the table T
      pub TakesBy : Option ℕ → Pattern → List Tree → Table → Type 0
      TakesBy f (symbol_pattern n) l T = (l ≡ symbol n ∷ []) × (T ≡ record { terms = l; collapsed = false } ∷ [])
      TakesBy f (wild_pattern w x) l T = line f w x l × (T ≡ record { terms = l; collapsed = false } ∷ [])
      TakesBy f (app_pattern g ps) l T = ByArguments g l T (λ ls Ts. AllTakeBy g ps ls Ts)
          ⊎ Collapsed g ps l T (λ ls Ts. AllTakeBy g ps ls Ts)

      -- each child of g takes its list, with its table
      pub AllTakeBy : ℕ → Patterns → List (List Tree) → List Table → Type 0
      AllTakeBy g no_patterns [] [] = ⊤
      AllTakeBy g (more_patterns p ps) (l ∷ ls) (T ∷ Ts) = TakesBy (Some g) p l T × AllTakeBy g ps ls Ts
      AllTakeBy g _ _ _ = ⊥

  -- p under f takes l with the table T, where each variable has its value in s
  abbrev pub Takes : Subst → Option ℕ → Pattern → List Tree → Table → Type 0
  Takes s = TakesBy (ByValue s)

  -- the table T fits the pattern p, the subject t and the substitution s
  pub record Fits (p : Pattern) (t : Tree) (s : Subst) (T : Table) : Type 0 where
    pub subst_of : IsSubstOf sig p s
    pub takes : Takes s None p (t ∷ []) T
