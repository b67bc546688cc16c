use Rattle.std.proofs.Common.{◌≡◌, ◌+◌, ◌-◌, ◌++◌, [], suc, drop, get_or, length}
use Rattle.mp_many.proofs.ChainLaws.{chain}
use Rattle.mp_many.proofs.states.push_chain.Given as goal

abbrev pub invariant-loop-index : goal.invariant-loop-index
invariant-loop-index l =
    let ks = get_or l.lists l.number [] in
    let now = l.states in
    let begun = l.fn.states in
    now ++ chain ((l.place + l.most) - l.index) l.number (drop l.index ks) (suc (length now))
    ≡ begun ++ chain l.most l.number (drop l.place ks) (suc (length begun))
