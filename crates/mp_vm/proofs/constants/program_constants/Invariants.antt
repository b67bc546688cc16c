use Rattle.std.proofs.Common.{◌≡◌, ◌++◌, drop, map, flat_map}
use Rattle.std.specs.Prelude.{Some}
use Rattle.mp_term.specs.View.{tree}
use Rattle.mp_pattern.specs.CondView.{cond_tree}
use Rattle.mp_pattern.specs.Constants.{condition_constants}
use Rattle.mp_walk.specs.InstrView.{plain_instr}
use Rattle.mp_program.specs.ProgramView.{program_view}
use Rattle.mp_vm.specs.ProgramConstants.{token_terms, program_constants}
use Rattle.mp_vm.proofs.constants.program_constants.Given as goal

abbrev pub invariant-loop-instr : goal.invariant-loop-instr
invariant-loop-instr l =
    map tree l.found.items ++ flat_map (λ i. token_terms i.token) (map plain_instr (drop l.instr-index l.instr-items))
    ≡ flat_map (λ i. token_terms i.token) l.program.code

abbrev pub invariant-loop-test : goal.invariant-loop-test
invariant-loop-test l =
    map tree l.found.items
    ++ flat_map (λ c. condition_constants (Some c)) (map cond_tree (drop l.test-index l.test-items))
    ≡ program_constants (program_view l.program)
