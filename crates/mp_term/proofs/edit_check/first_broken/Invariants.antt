use Rattle.std.proofs.Common.{◌≡◌, ◌+◌, false, take, drop}
use Rattle.std.specs.Prelude.{option_map, position}
use Rattle.std.specs.List.{list_any}
use Rattle.mp_term.specs.View.{tree}
use Rattle.mp_term.specs.EditFault.{breaks}
use Rattle.mp_term.proofs.edit_check.first_broken.Given as goal

abbrev pub invariant-loop-index : goal.invariant-loop-index
invariant-loop-index l = record {
  before : list_any (breaks l.sig (tree l.term) l.edits) (take l.index l.edits) ≡ false;
  rest : option_map (λ k. l.index + k) (position (breaks l.sig (tree l.term) l.edits) (drop l.index l.edits))
      ≡ position (breaks l.sig (tree l.term) l.edits) l.edits;
}
