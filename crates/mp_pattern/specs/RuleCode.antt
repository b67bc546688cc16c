-- A rule as nested pairs that give it back.
use Rattle.std.specs.Prelude.{ℕ, List, Option, refl}
use Rattle.std.specs.Coded.{Coded, code_by, coded×, coded_ℕ, coded_list, coded_option}
use Rattle.mp_pattern.specs.PatternTree.{Pattern}
use Rattle.mp_pattern.specs.Code.{coded_pattern}
use Rattle.mp_pattern.specs.TemplateTree.{Template}
use Rattle.mp_pattern.specs.TemplateCode.{coded_template}
use Rattle.mp_pattern.specs.CondTree.{Cond}
use Rattle.mp_pattern.specs.CondCode.{coded_cond}
use Rattle.mp_pattern.specs.Admission.{Rule}

-- a name, a pattern, and perhaps a template and a condition
abbrev pub Pieces : Type 0
Pieces = List ℕ × (Pattern × (Option Template × Option Cond))

-- the fields of a rule
abbrev pub pieces : Rule → Pieces
pieces r = (r.name, (r.pattern, (r.template, r.condition)))

-- the rule of the fields
abbrev pub from_pieces : Pieces → Rule
from_pieces p = record { name = p.0; pattern = p.1.0; template = p.1.1.0; condition = p.1.1.1 }

-- the code of rules
abbrev pub coded_rule : Coded Rule
coded_rule =
    code_by Pieces
    (coded× (coded_list coded_ℕ)
    (coded× coded_pattern (coded× (coded_option coded_template) (coded_option coded_cond)))) pieces from_pieces
    (λ _. refl)
