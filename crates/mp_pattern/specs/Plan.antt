-- Plans: a pattern with its nodes and its variables, each by its number.
use Rattle.std.specs.Prelude.{◌≡◌, ℕ, ◌+◌, List, [], ◌∷◌, ◌++◌, map, position, Option, Some, None}
use Rattle.mp_term.specs.Signature.{Sig}
use Rattle.mp_pattern.specs.PatternTree.{Wildcard, Pattern, symbol_pattern, app_pattern, wild_pattern, Patterns}
use Rattle.mp_pattern.specs.PatternTree.{no_patterns, more_patterns}
use Rattle.mp_pattern.specs.Size.{pattern_nodes}
use Rattle.mp_pattern.specs.Value.{Form, same_name}
use Rattle.mp_pattern.specs.Variables.{variables, variable_form}

-- what stands at a node: a symbol, an operation, or a wildcard with the number of its variable
pub data Label : Type 0 where
  symbol_label : List ℕ → Label
  app_label : ℕ → Label
  wild_label : Wildcard → Option ℕ → Label

-- the number of the variable of a label
abbrev pub label_variable : Label → Option ℕ
label_variable (symbol_label s) = None
label_variable (app_label f) = None
label_variable (wild_label w x) = x

-- a node: its label, the number of the node after its subpattern, and the number of its parent
pub record Node : Type 0 where
  pub label : Label
  pub end : ℕ
  pub parent : Option ℕ

-- a variable with its form
pub record Variable : Type 0 where
  pub name : List ℕ
  pub form : Form

-- a pattern, and its nodes and its variables, each at its number
pub record Plan : Type 0 where
  pub pattern : Pattern
  pub nodes : List Node
  pub variables : List Variable

-- the number of a variable among xs, from 0
abbrev pub variable_number : List (List ℕ) → Option (List ℕ) → Option ℕ
variable_number xs None = None
variable_number xs (Some x) = position (same_name x) xs

module _ (xs : List (List ℕ)) where
  abbrev mutual
    -- the nodes of p in preorder, where the root has this parent and the number n, and the variables are xs
    pub nodes : Option ℕ → ℕ → Pattern → List Node
    nodes above n (symbol_pattern s) = record { label = symbol_label s; end = n + 1; parent = above } ∷ []
    nodes above n (app_pattern f ps) = record {
      label = app_label f;
      end = n + pattern_nodes (app_pattern f ps);
      parent = above;
    } ∷ all_nodes n (n + 1) ps
    nodes above n (wild_pattern w x) = record {
      label = wild_label w (variable_number xs x);
      end = n + 1;
      parent = above;
    } ∷ []

    -- those of the arguments of the node m, the first of which has the number n
    pub all_nodes : ℕ → ℕ → Patterns → List Node
    all_nodes m n no_patterns = []
    all_nodes m n (more_patterns p ps) = nodes (Some m) n p ++ all_nodes m (n + pattern_nodes p) ps

-- the pattern with its nodes in preorder from 0, and the variables in order of first occurrence, with their forms over
-- the signature
abbrev pub plan_of : Sig → Pattern → Plan
plan_of sig p = record {
  pattern = p;
  nodes = nodes (variables p) None 0 p;
  variables = map (λ x. record { name = x; form = variable_form sig p x }) (variables p);
}

-- the plan is that of the pattern over the signature
abbrev pub IsPlanOf : Sig → Pattern → Plan → Type 0
IsPlanOf sig p plan = plan ≡ plan_of sig p
