-- An instruction as nested pairs that give it back.
use Rattle.std.specs.Prelude.{ℕ, List, Option, refl}
use Rattle.std.specs.Coded.{Coded, code_by, coded×, coded_ℕ, coded_list, coded_option}
use Rattle.mp_pattern.specs.NetTokens.{NetToken}
use Rattle.mp_pattern.specs.NetTokenCode.{coded_net_token}
use Rattle.mp_walk.specs.Instrs.{Instr}

-- the code of instructions
abbrev pub coded_instr : Coded Instr
coded_instr =
    code_by (NetToken × (Option ℕ × (Option ℕ × List ℕ)))
    (coded× coded_net_token (coded× (coded_option coded_ℕ) (coded× (coded_option coded_ℕ) (coded_list coded_ℕ))))
    (λ i. (i.token, (i.down, (i.over, i.accepts))))
    (λ p. record { token = p.0; down = p.1.0; over = p.1.1.0; accepts = p.1.1.1 })
    (λ _. refl)
