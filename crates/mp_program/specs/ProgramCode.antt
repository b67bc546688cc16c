-- A rule of a program as nested pairs that give it back.
use Rattle.std.specs.Prelude.{ℕ, List, Option, refl}
use Rattle.std.specs.Coded.{Coded, code_by, coded×, coded_ℕ, coded_list, coded_option}
use Rattle.mp_program.specs.Program.{ProgramRule}

-- the code of rules
abbrev pub coded_program_rule : Coded ProgramRule
coded_program_rule =
    code_by (List ℕ × (List (List ℕ) × Option ℕ))
    (coded× (coded_list coded_ℕ) (coded× (coded_list (coded_list coded_ℕ)) (coded_option coded_ℕ)))
    (λ r. (r.name, (r.vars, r.test)))
    (λ p. record { name = p.0; vars = p.1.0; test = p.1.1 })
    (λ _. refl)
