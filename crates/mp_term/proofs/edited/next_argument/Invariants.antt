use Rattle.std.proofs.Common.{◌≡◌, ◌≤◌, ◌<◌, [], ◌∷◌, ◌++◌, take}
use Rattle.std.specs.Prelude.{IfSome, IfNone}
use Rattle.mp_term.specs.EditWalk.{AreUntouched}
use Rattle.mp_term.proofs.edited.next_argument.Given as goal

abbrev pub invariant-loop-edit : goal.invariant-loop-edit
invariant-loop-edit l = record {
  within : l.stop ≤ l.end;
  untouched : AreUntouched (take l.edit-index l.edits) l.position l.from l.stop;
  index : IfSome l.next (λ r. r.0 ≡ l.stop);
  low : IfSome l.next (λ r. l.from ≤ r.0);
  high : IfSome l.next (λ r. r.0 < l.end);
  place : IfSome l.next (λ r. r.1.now ≡ l.position ++ r.0 ∷ []);
  none : IfNone l.next (l.stop ≡ l.end);
}
