use Rattle.std.proofs.Common.{◌≡◌, drop}
use Rattle.std.specs.Prelude.{find, bytes_eq}
use Rattle.mp_term.proofs.edited.edit_at.Given as goal

abbrev pub invariant-loop-edit : goal.invariant-loop-edit
invariant-loop-edit l = find (λ e. bytes_eq e.position l.position) (drop l.edit-index l.edits)
    ≡ find (λ e. bytes_eq e.position l.position) l.edits
