-- A program that is prepared to be run on several subjects.
use Rattle.std.specs.Prelude.{List, refl}
use Rattle.std.specs.Coded.{Coded, code_by, coded×, coded_list}
use Rattle.mp_term.specs.Signature.{Sig}
use Rattle.mp_term.specs.SigCode.{coded_sig}
use Rattle.mp_pattern.specs.CondCode.{coded_cond}
use Rattle.mp_pattern.specs.CondTree.{Cond}
use Rattle.mp_walk.specs.Instrs.{Instr}
use Rattle.mp_walk.specs.InstrCode.{coded_instr}
use Rattle.mp_program.specs.Program.{Program, ProgramRule}
use Rattle.mp_program.specs.ProgramCode.{coded_program_rule}

-- the signature and the program
pub record Prepared : Type 0 where
  pub sig : Sig
  pub program : Program

-- a prepared program as nested pairs that give it back
abbrev pub coded_prepared : Coded Prepared
coded_prepared = code_by (Sig × (List ProgramRule × (List Cond × List Instr)))
    (coded× coded_sig
    (coded× (coded_list coded_program_rule) (coded× (coded_list coded_cond) (coded_list coded_instr))))
    (λ p. (p.sig, (p.program.rules, (p.program.tests, p.program.code))))
    (λ q. record { sig = q.0; program = record { rules = q.1.0; tests = q.1.1.0; code = q.1.1.1 } })
    (λ _. refl)
