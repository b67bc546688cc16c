use Rattle.std.proofs.Common.{◌≡◌, ◌++◌, drop, map}
use Rattle.mp_matches.specs.PairsListed.{named}
use Rattle.mp_program.specs.ProgramView.{rule_view}
use Rattle.mp_command.proofs.names.program_names.Given as goal

abbrev pub invariant-loop-rule : goal.invariant-loop-rule
invariant-loop-rule l =
    named l.names.items ++ map (λ r. r.name) (map rule_view (drop l.rule-index l.rules))
    ≡ map (λ r. r.name) (map rule_view l.rules)
