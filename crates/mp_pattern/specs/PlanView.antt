-- The records that the nodes and the variables of a plan are read as.
use Rattle.std.specs.Prelude.{ℕ, List, map, Option, None}
use Rattle.mp_pattern.specs.Value as plain_value
use Rattle.mp_pattern.specs.Plan as plain
use Rattle.mp_pattern.specs.declared.entry.Form.{Form}
use Rattle.mp_pattern.specs.declared.entry.Form.TheVariants.{One, Seq, Bag}
use Rattle.mp_pattern.specs.declared.plan.PlanNode.{PlanNode}
use Rattle.mp_pattern.specs.declared.plan.PlanNode.TheVariants as shown
use Rattle.mp_pattern.specs.declared.plan.Node.{Node}
use Rattle.mp_pattern.specs.declared.plan.Variable.{Variable}
use Rattle.mp_pattern.specs.PatternTree.{Pattern, symbol_pattern, app_pattern, wild_pattern}
use Rattle.mp_pattern.specs.View.{wildcard}

-- a form
abbrev pub form : Form → plain_value.Form
form One = plain_value.one_form
form Seq = plain_value.seq_form
form Bag = plain_value.bag_form

-- what stands at a node, as a reader is shown it: the number of its operation, or the wildcard of its shape
abbrev pub shown_label : PlanNode → plain.Label
shown_label (shown.Sym n) = plain.symbol_label n.now
shown_label (shown.App f) = plain.app_label f.0
shown_label (shown.Wild w x) = plain.wild_label (wildcard w.now) x

-- what stands at the root of a pattern, whose variable has this number
abbrev pub variable_label : Pattern → Option ℕ → plain.Label
variable_label (symbol_pattern s) x = plain.symbol_label s
variable_label (app_pattern f ps) x = plain.app_label f
variable_label (wild_pattern w y) x = plain.wild_label w x

-- the number among xs of the variable of the root of a pattern, where the root is a wildcard that has one
abbrev pub root_variable : List (List ℕ) → Pattern → Option ℕ
root_variable xs (symbol_pattern s) = None
root_variable xs (app_pattern f ps) = None
root_variable xs (wild_pattern w x) = plain.variable_number xs x

-- what is kept of a node: the number of the node after its subpattern, that of its parent, and that of its variable
pub record Kept : Type 0 where
  pub end : ℕ
  pub parent : Option ℕ
  pub variable : Option ℕ

-- the same of a node as it is stored
abbrev pub stored : Node → Kept
stored n = record { end = n.end; parent = n.parent; variable = n.variable }

-- and of a node of a plan
abbrev pub kept_of : plain.Node → Kept
kept_of n = record { end = n.end; parent = n.parent; variable = plain.label_variable n.label }

-- the names of variables
abbrev pub names_of : List Variable → List (List ℕ)
names_of = map (λ v. v.name)

-- a variable with its form
abbrev pub variable : Variable → plain.Variable
variable v = record { name = v.name; form = form v.form }
