use Rattle.std.proofs.Common.{◌≡◌, ◌≤◌, ◌++◌, List, length, take, drop, true}
use Rattle.mp_term.specs.Signature.{is_comm}
use Rattle.mp_term.specs.Normal.{in_order}
use Rattle.mp_term.specs.NormalTest.{ascending}
use Rattle.mp_pattern.specs.Admission.{Rule}
use Rattle.mp_rewrite.proofs.MarkLaws.{AllKnown}
use Rattle.mp_rewrite.proofs.in_place.insert_parts.Given as goal

abbrev pub invariant-loop-op : goal.invariant-loop-op
invariant-loop-op l = record {
  terms : in_order l.sig l.op.0 (take l.index l.all.terms ++ (l.more ++ drop l.index l.all.terms))
      ≡ in_order l.sig l.op.0
      (take l.index l.fn.args.terms ++ (l.fn.parts.terms ++ drop l.index l.fn.args.terms));
  same : length l.all.known ≡ length l.all.terms;
  same_more : length l.more_known ≡ length l.more;
  within : l.index ≤ length l.all.terms;
  ascending : is_comm l.sig l.op.0 ≡ true → ascending l.all.terms ≡ true;
  known : (rules : List Rule) → AllKnown l.sig rules l.fn.args.known l.fn.args.terms
      → AllKnown l.sig rules l.fn.parts.known l.fn.parts.terms
      → AllKnown l.sig rules l.all.known l.all.terms × AllKnown l.sig rules l.more_known l.more;
}

abbrev pub decreases-loop-op : goal.decreases-loop-op
decreases-loop-op l = length l.more
