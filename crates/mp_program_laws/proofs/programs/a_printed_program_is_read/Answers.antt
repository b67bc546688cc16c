use Rattle.std.proofs.Common.{◌≡◌, refl}
use Rattle.std.specs.Prelude.{None}
use Rattle.mp_print.specs.PrintedCond.{cond_text}
use Rattle.mp_program.specs.declared.format.Format.{Format}
use Rattle.mp_program.specs.declared.format.Format.TheVariants.{One, Two}
use Rattle.mp_program.specs.FormText.{program_text}
use Rattle.mp_program.specs.Reading.{IsProgramOf}
use Rattle.mp_program_laws.proofs.FormAgain.{again-one}
use Rattle.mp_program_laws.proofs.programs.a_printed_program_is_read.Goals as goal

pub returns : goal.returns
returns c = λ sig bytes p spelled h. (
    let law = c.printed_condition_is_read.ensures in
    let by_format : (n : Format) → h.form.format ≡ n → IsProgramOf sig (program_text sig p) p =
    λ n e. elim n as (λ m. h.form.format ≡ m → IsProgramOf sig (program_text sig p) p) [
      | One ↦ λ one. again-one sig spelled (λ d r. law.passes sig None (cond_text sig d) d spelled r)
          (λ d r. law.readable sig None d spelled r) bytes p h one
      | Two ↦ λ two. c.a_program_has_one_spelling.ensures.again sig bytes p h two
    ] e in
    by_format h.form.format refl
    )
