use Rattle.std.proofs.Common.{◌≡◌, ◌∙◌, ◌+◌, ◌-◌, [], ◌∷◌, ◌++◌, suc, length, map, sym, ap, subst, arith}
use Rattle.std.proofs.lemmas.List.{length-append}
use Rattle.mp_many.specs.Groups.{left_at}
use Rattle.mp_many.specs.GroupView.{group_of, numbers_of}
use Rattle.mp_many.specs.Laid.{laid, unlinked}
use Rattle.mp_many.specs.TokenView.{read_token}
use Rattle.mp_many.proofs.GroupLaws.{AreWithin}
use Rattle.mp_many.proofs.CodeLaws.{group-within, group-step, groups-done}
use Rattle.mp_many.proofs.states.+push_states.Goals as goal

pub push_state-requires : goal.push_state-requires
push_state-requires t c =
    let lists = c.args.lists.now in
    group-within c.args.place lists c.args.numbers.now c.deref-group-items.result.now c.loop-index.index
    c.group-item.result (ap (map group_of) c.deref-group-items.ensures.value ∙ c.in_ok-groups.ensures)
    c.loop-index-test.true c.group-item.is c.requires.numbers

pub push_states-requires : goal.push_states-requires
push_states-requires t c =
    let lists = c.args.lists.now in
    let within = group-within c.args.place lists c.args.numbers.now c.deref-group-items.result.now c.loop-index.index
    c.group-item.result (ap (map group_of) c.deref-group-items.ensures.value ∙ c.in_ok-groups.ensures)
    c.loop-index-test.true c.group-item.is c.requires.numbers in (
      omega arith,
      (subst (AreWithin lists) (sym c.numbers.ensures) within, omega arith),
    )

pub link_state-requires : goal.link_state-requires
link_state-requires t c =
    let a = ap length c.in_ok-push_state.ensures in
    let b = ap length c.in_ok-push_states.ensures in
    let before = c.loop-index.states in
    let first = unlinked (read_token c.group-item.result.token)
    (left_at c.args.lists.now (c.args.place + 1) (numbers_of c.group-item.result)) in
    let states = laid (c.args.most - 1) (left_at c.args.lists.now (c.args.place + 1) c.numbers.result.now)
    (suc (length c.push_state.new.states)) in
    omega (
      arith,
      a,
      b,
      length-append c.push_state.new.states states,
      length-append before (first ∷ []),
      c.len-own.ensures,
    )

pub loop-index-preserved : goal.loop-index-preserved
loop-index-preserved t c =
    group-step (c.args.most - 1) c.args.place c.args.lists.now c.args.numbers.now c.deref-group-items.result.now
    c.loop-index.index c.group-item.result c.numbers.result.now c.loop-index.states
    c.push_state.new.states c.push_states.new.states c.link_state.new.states c.len-own.result c.len.result
    (ap (map group_of) c.deref-group-items.ensures.value ∙ c.in_ok-groups.ensures) c.loop-index-test.true
    c.group-item.is (omega (arith, c.len.ensures, c.deref-group-items.ensures.len)) c.numbers.ensures
    c.len-own.ensures c.in_ok-push_state.ensures
    c.in_ok-push_states.ensures c.in_ok-link_state.ensures
    ∙ c.loop-index.invariant

pub returns : goal.returns
returns t c =
    let ls = left_at c.args.lists.now c.args.place c.args.numbers.now in
    let begun = c.args.states.now in
    let e : suc (c.args.most - 1) ≡ c.args.most = omega arith in
    groups-done (c.args.most - 1) c.loop-index.index ls c.deref-group-items.result.now
    c.loop-index.states begun
    (ap (map group_of) c.deref-group-items.ensures.value ∙ c.in_ok-groups.ensures) c.loop-index-test.false
    c.loop-index.invariant
    ∙ ap (λ n. begun ++ laid n ls (suc (length begun))) e
