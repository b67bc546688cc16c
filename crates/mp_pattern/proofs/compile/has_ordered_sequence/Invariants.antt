use Rattle.std.proofs.Common.{◌≡◌, ◌&&◌, not, drop, map}
use Rattle.std.specs.Prelude.{filter}
use Rattle.std.specs.List.{list_any}
use Rattle.mp_pattern.specs.Value.{same_name}
use Rattle.mp_pattern.specs.PatternTree.{is_sequence}
use Rattle.mp_pattern.specs.Variables.{comm_above}
use Rattle.mp_pattern.specs.UseView.{occurrence}
use Rattle.mp_pattern.proofs.compile.has_ordered_sequence.Given as goal

abbrev pub invariant-loop-occurrence : goal.invariant-loop-occurrence
invariant-loop-occurrence l =
    list_any (λ u. not (comm_above l.sig u.under))
    (filter (λ u. same_name l.name u.name && is_sequence u.wildcard)
    (map occurrence (drop l.occurrence-index l.occurrences)))
    ≡ list_any (λ u. not (comm_above l.sig u.under))
    (filter (λ u. same_name l.name u.name && is_sequence u.wildcard) (map occurrence l.occurrences))
