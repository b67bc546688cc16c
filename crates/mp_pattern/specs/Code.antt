-- A pattern as a term that gives it back, and that compares as the pattern does.
use Rattle.std.specs.Prelude.{◌≡◌, ℕ, Bool, true, false, [], List, Option, Some, None, refl, nat_eq, if◌then◌else◌}
use Rattle.std.proofs.Common.{ap}
use Rattle.std.specs.Coded.{Coded, code_by, coded×, coded_ℕ}
use Rattle.mp_term.specs.Tree.{Tree, symbol, app, Trees, no_trees, more_trees}
use Rattle.mp_term.specs.Code.{coded_tree}
use Rattle.mp_pattern.specs.PatternTree.{Wildcard, dot, kind, plus, star, optional, counted, Pattern, symbol_pattern}
use Rattle.mp_pattern.specs.PatternTree.{app_pattern, wild_pattern, Patterns, no_patterns, more_patterns}
use Rattle.mp_pattern.specs.Order.{class, wildcard_class}

-- the variable of a wildcard
abbrev pub name_tree : Option (List ℕ) → Tree
name_tree (Some x) = symbol x
name_tree None = app 0 no_trees

-- the kind, the default or the count of a wildcard, where it has one: an open count has an argument
abbrev pub part_tree : Wildcard → Tree
part_tree (kind k) = app k no_trees
part_tree (optional t) = t
part_tree (counted n fixed) = app n (if fixed then no_trees else more_trees (symbol []) no_trees)
part_tree _ = symbol []

abbrev mutual
  -- a symbol, or an application of the pattern's class to the parts of the pattern
  pub as_tree : Pattern → Tree
  as_tree (symbol_pattern n) = symbol n
  as_tree (app_pattern f ps) = app (class (app_pattern f ps)) (more_trees (app f (as_trees ps)) no_trees)
  as_tree (wild_pattern w x) = app (wildcard_class w) (more_trees (name_tree x) (more_trees (part_tree w) no_trees))

  -- those of a list
  pub as_trees : Patterns → Trees
  as_trees no_patterns = no_trees
  as_trees (more_patterns p ps) = more_trees (as_tree p) (as_trees ps)

-- the number of an application
abbrev head_number : Tree → ℕ
head_number (symbol n) = 0
head_number (app k ts) = k

-- an application without arguments
abbrev is_constant : Tree → Bool
is_constant (app k no_trees) = true
is_constant _ = false

-- the wildcard of a class
abbrev to_wildcard : ℕ → Tree → Wildcard
to_wildcard c t =
    if nat_eq c 2 then kind (head_number t)
    else if nat_eq c 3 then dot
    else if nat_eq c 4 then optional t
    else if nat_eq c 5 then counted (head_number t) (is_constant t)
    else if nat_eq c 6 then plus
    else star

abbrev mutual
  -- the pattern of a term
  pub to_pattern : Tree → Pattern
  to_pattern (symbol n) = symbol_pattern n
  to_pattern (app c (more_trees (app f ts) no_trees)) = app_pattern f (to_patterns ts)
  to_pattern (app c (more_trees (symbol x) (more_trees t ts))) = wild_pattern (to_wildcard c t) (Some x)
  to_pattern (app c (more_trees x (more_trees t ts))) = wild_pattern (to_wildcard c t) None
  to_pattern _ = symbol_pattern []

  -- those of a list
  to_patterns : Trees → Patterns
  to_patterns no_trees = no_patterns
  to_patterns (more_trees t ts) = more_patterns (to_pattern t) (to_patterns ts)

pub to_wildcard-part : (w : Wildcard) → to_wildcard (wildcard_class w) (part_tree w) ≡ w
to_wildcard-part dot = refl
to_wildcard-part (counted n true) = refl
to_wildcard-part (counted n false) = refl
to_wildcard-part w = refl

mutual
  pub to_pattern-as_tree : (p : Pattern) → to_pattern (as_tree p) ≡ p
  to_pattern-as_tree (symbol_pattern n) = refl
  to_pattern-as_tree (app_pattern f ps) = ap (app_pattern f) (to_patterns-as_trees ps)
  to_pattern-as_tree (wild_pattern w (Some x)) = ap (λ v. wild_pattern v (Some x)) (to_wildcard-part w)
  to_pattern-as_tree (wild_pattern w None) = ap (λ v. wild_pattern v None) (to_wildcard-part w)

  to_patterns-as_trees : (ps : Patterns) → to_patterns (as_trees ps) ≡ ps
  to_patterns-as_trees no_patterns = refl
  to_patterns-as_trees (more_patterns p ps) = λ i. more_patterns (to_pattern-as_tree p i) (to_patterns-as_trees ps i)

-- the codes of wildcards and of patterns
abbrev pub coded_wildcard : Coded Wildcard
coded_wildcard = code_by (ℕ × Tree) (coded× coded_ℕ coded_tree) (λ w. (wildcard_class w, part_tree w))
    (λ c. to_wildcard c.0 c.1) to_wildcard-part

abbrev pub coded_pattern : Coded Pattern
coded_pattern = code_by Tree coded_tree as_tree to_pattern to_pattern-as_tree
