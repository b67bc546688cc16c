use Rattle.std.proofs.Common.{◌∙◌, ◌++◌, suc, length, sym, ap, subst}
use Rattle.mp_many.specs.Groups.{count_from, left_at}
use Rattle.mp_many.specs.Laid.{laid}
use Rattle.mp_many.proofs.GroupLaws.{AreWithin}
use Rattle.mp_many.proofs.CodeLaws.{count-within, count-left}
use Rattle.mp_many.proofs.tree.states_of.Goals as goal

pub push_states-requires-clause-numbers : goal.push_states-requires-clause-numbers
push_states-requires-clause-numbers c =
    subst (AreWithin c.args.lists.now)
    (sym (c.deref.ensures.value ∙ c.in_ok-numbers.ensures ∙ ap (count_from 0) c.len.ensures))
    (count-within c.args.lists.now)

pub returns : goal.returns
returns c =
    let lists = c.args.lists.now in
    let most = c.count-most.result in
    let numbers = c.deref.ensures.value ∙ c.in_ok-numbers.ensures ∙ ap (count_from 0) c.len.ensures in
    c.in_ok-push_states.ensures
    ∙ ap (λ is. is ++ laid most (left_at lists 0 c.deref.result.now) (suc (length is))) c.in_ok-states.ensures
    ∙ (λ i. laid (c.count-most.ensures i) ((ap (left_at lists 0) numbers ∙ count-left lists) i) 1)
