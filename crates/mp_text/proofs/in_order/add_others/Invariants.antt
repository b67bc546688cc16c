use Rattle.std.proofs.Common.{ℕ, List, length}
use Rattle.mp_parser.specs.Parsing.{ahead}
use Rattle.mp_text.specs.InOrder.{IsDraftRead}
use Rattle.mp_text.proofs.in_order.add_others.Given as goal

-- the draft is that of what was read: of some bytes, and of all of which it was so before
abbrev pub invariant-loop-alloc : goal.invariant-loop-alloc
invariant-loop-alloc l = ((bytes : List ℕ) × IsDraftRead bytes l.parser l.draft)
    × ((bytes : List ℕ) → IsDraftRead bytes l.initial.parser l.initial.draft → IsDraftRead bytes l.parser l.draft)

abbrev pub decreases-loop-alloc : goal.decreases-loop-alloc
decreases-loop-alloc l = length (ahead l.parser)
