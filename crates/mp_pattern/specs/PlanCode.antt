-- A plan as pairs of its pattern and lists that give it back.
use Rattle.std.specs.Prelude.{◌≡◌, ℕ, zero, suc, ◌⊎◌, List, Option, refl}
use Rattle.std.proofs.Common.{inl, inr}
use Rattle.std.specs.Coded.{Coded, code_by, coded×, coded⊎, coded_ℕ, coded_list, coded_option}
use Rattle.mp_pattern.specs.PatternTree.{Wildcard, Pattern}
use Rattle.mp_pattern.specs.Code.{coded_wildcard, coded_pattern}
use Rattle.mp_pattern.specs.Value.{Form, one_form, seq_form, bag_form}
use Rattle.mp_pattern.specs.Plan.{Label, symbol_label, app_label, wild_label, Node, Variable, Plan}

-- a form as its place
abbrev form_number : Form → ℕ
form_number one_form = 0
form_number seq_form = 1
form_number bag_form = 2

-- and back
abbrev form_at : ℕ → Form
form_at zero = one_form
form_at (suc zero) = seq_form
form_at (suc (suc _)) = bag_form

pub form_at-form_number : (f : Form) → form_at (form_number f) ≡ f
form_at-form_number one_form = refl
form_at-form_number seq_form = refl
form_at-form_number bag_form = refl

-- a label as the symbol, the operation, or the wildcard with its variable
abbrev Labelled : Type 0
Labelled = List ℕ ⊎ (ℕ ⊎ (Wildcard × Option ℕ))

abbrev label_parts : Label → Labelled
label_parts (symbol_label n) = inl n
label_parts (app_label f) = inr (inl f)
label_parts (wild_label w x) = inr (inr (w, x))

-- and back
abbrev label_from : Labelled → Label
label_from (inl n) = symbol_label n
label_from (inr (inl f)) = app_label f
label_from (inr (inr p)) = wild_label p.0 p.1

pub label_from-label_parts : (l : Label) → label_from (label_parts l) ≡ l
label_from-label_parts (symbol_label n) = refl
label_from-label_parts (app_label f) = refl
label_from-label_parts (wild_label w x) = refl

-- the codes of labels, nodes, forms and variables
abbrev pub coded_label : Coded Label
coded_label =
    code_by Labelled (coded⊎ (coded_list coded_ℕ) (coded⊎ coded_ℕ (coded× coded_wildcard (coded_option coded_ℕ))))
    label_parts label_from label_from-label_parts

abbrev pub coded_node : Coded Node
coded_node = code_by (Label × (ℕ × Option ℕ)) (coded× coded_label (coded× coded_ℕ (coded_option coded_ℕ)))
    (λ n. (n.label, (n.end, n.parent))) (λ p. record { label = p.0; end = p.1.0; parent = p.1.1 }) (λ _. refl)

abbrev pub coded_form : Coded Form
coded_form = code_by ℕ coded_ℕ form_number form_at form_at-form_number

abbrev pub coded_variable : Coded Variable
coded_variable = code_by (List ℕ × Form) (coded× (coded_list coded_ℕ) coded_form) (λ v. (v.name, v.form))
    (λ p. record { name = p.0; form = p.1 }) (λ _. refl)

-- the code of plans
abbrev pub coded_plan : Coded Plan
coded_plan =
    code_by (Pattern × (List Node × List Variable))
    (coded× coded_pattern (coded× (coded_list coded_node) (coded_list coded_variable)))
    (λ p. (p.pattern, (p.nodes, p.variables)))
    (λ p. record { pattern = p.0; nodes = p.1.0; variables = p.1.1 })
    (λ _. refl)
