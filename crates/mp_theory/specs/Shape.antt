-- The matching of syntactic patterns, node against node.
use Rattle.std.specs.Prelude.{ℕ, Bool, true, false, ◌&&◌, List, [], ◌∷◌, ◌++◌, Option, Some, None, nat_eq}
use Rattle.mp_term.specs.Tree.{Tree, symbol, app, Trees, no_trees, more_trees}
use Rattle.mp_term.specs.Signature.{Sig, in_kind}
use Rattle.mp_pattern.specs.PatternTree.{Wildcard, kind, Pattern, symbol_pattern}
use Rattle.mp_pattern.specs.PatternTree.{app_pattern, wild_pattern, Patterns, no_patterns, more_patterns}
use Rattle.mp_pattern.specs.Value.{same_name}
use Rattle.mp_pattern.specs.Fits.{Table, joined}
use Rattle.mp_theory.specs.Solve.{Taken}

abbrev mutual
  -- the symbols and operations of the pattern stand in the tree, and below each wildcard is anything
  pub shape : Pattern → Tree → Bool
  shape (symbol_pattern m) (symbol n) = same_name m n
  shape (symbol_pattern m) (app g ts) = false
  shape (app_pattern f ps) (symbol n) = false
  shape (app_pattern f ps) (app g ts) = nat_eq f g && shapes ps ts
  shape (wild_pattern w x) t = true

  -- so it is with each pattern and the tree at its place
  pub shapes : Patterns → Trees → Bool
  shapes no_patterns no_trees = true
  shapes no_patterns (more_trees t ts) = false
  shapes (more_patterns p ps) no_trees = false
  shapes (more_patterns p ps) (more_trees t ts) = shape p t && shapes ps ts

-- what a wildcard asks of the tree that it takes
abbrev pub suits : Sig → Wildcard → Tree → Bool
suits sig (kind k) t = in_kind sig k t
suits sig _ t = true

module _ (sig : Sig) where
  abbrev mutual
    -- what stands below a kind is of the kind
    pub of_kinds : Pattern → Tree → Bool
    of_kinds (symbol_pattern m) t = true
    of_kinds (app_pattern f ps) (symbol n) = true
    of_kinds (app_pattern f ps) (app g ts) = all_of_kinds ps ts
    of_kinds (wild_pattern w x) t = suits sig w t

    pub all_of_kinds : Patterns → Trees → Bool
    all_of_kinds no_patterns ts = true
    all_of_kinds (more_patterns p ps) no_trees = true
    all_of_kinds (more_patterns p ps) (more_trees t ts) = of_kinds p t && all_of_kinds ps ts

abbrev mutual
  -- each use of a variable with the tree that stands below it
  pub takings : Option ℕ → Pattern → Tree → List Taken
  takings f (symbol_pattern m) t = []
  takings f (app_pattern g ps) (symbol n) = []
  takings f (app_pattern g ps) (app h ts) = all_takings g ps ts
  takings f (wild_pattern w None) t = []
  takings f (wild_pattern w (Some x)) t = record {
    by = record { name = x; wildcard = w; under = f };
    terms = t ∷ [];
  } ∷ []

  pub all_takings : ℕ → Patterns → Trees → List Taken
  all_takings g no_patterns ts = []
  all_takings g (more_patterns p ps) no_trees = []
  all_takings g (more_patterns p ps) (more_trees t ts) = takings (Some g) p t ++ all_takings g ps ts

abbrev mutual
  -- the take table: each node takes the tree at its place
  pub table_of : Pattern → Tree → Table
  table_of (symbol_pattern m) t = record { terms = t ∷ []; collapsed = false } ∷ []
  table_of (app_pattern g ps) (symbol n) = []
  table_of (app_pattern g ps) (app h ts) = record {
    terms = app h ts ∷ [];
    collapsed = false;
  } ∷ joined (tables_of ps ts)
  table_of (wild_pattern w x) t = record { terms = t ∷ []; collapsed = false } ∷ []

  pub tables_of : Patterns → Trees → List Table
  tables_of no_patterns ts = []
  tables_of (more_patterns p ps) no_trees = []
  tables_of (more_patterns p ps) (more_trees t ts) = table_of p t ∷ tables_of ps ts
