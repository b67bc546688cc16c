use Rattle.std.proofs.Common.{◌≡◌, ◌-◌, ◌++◌, suc, drop, length}
use Rattle.mp_many.specs.Groups.{left_at}
use Rattle.mp_many.specs.Laid.{bare, each_laid, laid}
use Rattle.mp_many.specs.Prefixes.{heads}
use Rattle.mp_many.proofs.states.+push_states.Given as goal

abbrev pub decreases-push_states : goal.decreases-push_states
decreases-push_states l = l.most

abbrev pub invariant-loop-index : goal.invariant-loop-index
invariant-loop-index l =
    let ls = left_at l.lists l.place l.numbers in
    let ks = heads (bare ls) in
    let now = l.states in
    let begun = l.fn.states in
    now ++ each_laid (laid (l.most - 1)) ls (drop l.index ks) (suc (length now))
    ≡ begun ++ each_laid (laid (l.most - 1)) ls ks (suc (length begun))
