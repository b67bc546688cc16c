use Rattle.std.proofs.Common.{◌≡◌, ◌<◌, ◌≤◌, ◌+◌, ◌*◌, ◌^◌, suc, ◌∙◌, [], ◌∷◌, ◌++◌, length, sym, ap, subst, arith}
use Rattle.std.specs.Prelude.{Some, slice_get}
use Rattle.std.specs.List.{filter_map}
use Rattle.std.proofs.lemmas.Bool.Decides.{nat_tests}
use Rattle.mp_net.specs.Items.{tables, opens, states}
use Rattle.mp_net.specs.Short.{AreShort}
use Rattle.mp_net.specs.Turned.{IsTurn}
use Rattle.mp_net.specs.Entered.{led}
use Rattle.mp_net.specs.NetOf.{ended}
use Rattle.mp_net.proofs.ShortLaws.{all_short-more}
use Rattle.mp_net.proofs.StateLaws.{Built, built-none, built-more, built-all, rules-at}
use Rattle.mp_net.specs.declared.limits.TheConstants.{MAX_STATES}
use Rattle.mp_net.proofs.build.build_net.Goals as goal
use Rattle.mp_term.proofs.ListLaws.{all-get}

pub loop-alloc-init : goal.loop-alloc-init
loop-alloc-init c =
    let ms = tables c.args.marks.now in
    let start = opens ms c.args.start.items in
    let one : c.push.new.self.items ≡ c.args.start ∷ [] =
    c.in_ok-push.ensures.items ∙ ap (λ vs. vs ++ c.args.start ∷ []) c.new-rules.ensures.items in
    subst (λ vs. Built ms start vs c.new-states.result.items) (sym one)
    (subst (Built ms start (c.args.start ∷ [])) (sym c.new-states.ensures.items)
    (built-none ms c.args.start c.requires))

pub turned-requires : goal.turned-requires
turned-requires c =
    let ms = tables c.args.marks.now in
    let rules = c.loop-alloc.rules.items in
    let n = length c.loop-alloc.states.items in
    let os = opens ms c.index-items.result.now.items in
    let few : n < length rules =
    omega (arith, c.loop-alloc-test.true, c.len.ensures, c.len-in-loop-alloc.ensures) in
    let place : c.len-in-loop-alloc-2.result ≡ n = omega (arith, c.len-in-loop-alloc-2.ensures) in
    let here : slice_get (states ms rules) c.len-in-loop-alloc-2.result ≡ Some os =
    rules-at ms rules c.len-in-loop-alloc-2.result c.index-items.result.now (omega (arith, few, place))
    c.index-items.ensures in
    let least : MAX_STATES * suc n ≤ 2 ^ 32 = omega (arith, few, c.loop-alloc.invariant.few) in
    subst (λ xs. AreShort (2 ^ 32) (opens ms xs)) (sym c.deref.ensures.value)
    (all_short-more (MAX_STATES * suc n) (2 ^ 32) least os
    (all-get (AreShort (MAX_STATES * suc n)) (states ms rules) c.len-in-loop-alloc-2.result os
    c.loop-alloc.invariant.short here))

pub loop-alloc-preserved : goal.loop-alloc-preserved
loop-alloc-preserved c =
    let ms = tables c.args.marks.now in
    let start = opens ms c.args.start.items in
    let rules = c.loop-alloc.rules.items in
    let ss = c.loop-alloc.states.items in
    let os = opens ms c.index-items.result.now.items in
    let turn = c.in_ok-turn.turn in
    let few : length ss < length rules =
    omega (arith, c.loop-alloc-test.true, c.len.ensures, c.len-in-loop-alloc.ensures) in
    let place : c.len-in-loop-alloc-2.result ≡ length ss = omega (arith, c.len-in-loop-alloc-2.ensures) in
    let here : slice_get (states ms rules) (length ss) ≡ Some os =
    subst (λ n. slice_get (states ms rules) n ≡ Some os) place
    (rules-at ms rules c.len-in-loop-alloc-2.result c.index-items.result.now (omega (arith, few, place))
    c.index-items.ensures) in
    let led_to : IsTurn ms os turn =
    subst (λ xs. IsTurn ms (opens ms xs) turn) c.deref.ensures.value c.in_ok-turn.ensures in
    let taken : c.in_ok-accepted.accepted.items ≡ filter_map ended os =
    c.in_ok-accepted.ensures ∙ ap (λ xs. filter_map ended (opens ms xs)) c.deref-in-loop-alloc.ensures.value in
    let room : length rules + length (led turn) ≤ MAX_STATES = grind (arith, nat_tests) in
    subst (Built ms start c.enter.new.rules.items) (sym c.in_ok-push-2.ensures.items)
    (built-more ms start rules c.enter.new.rules.items ss c.in_ok-enter.field-0 turn os c.loop-alloc.invariant few here
    led_to room c.in_ok-enter.ensures.rules c.in_ok-enter.ensures.heads c.in_ok-enter.ensures.first
    c.in_ok-enter.ensures.other (c.in_ok-enter.ensures.accepted ∙ taken))

pub returns : goal.returns
returns c =
    let ms = tables c.args.marks.now in
    built-all ms (opens ms c.args.start.items) c.loop-alloc.rules.items (record { states = c.loop-alloc.states })
    c.loop-alloc.invariant (omega (arith, c.loop-alloc-test.false, c.len.ensures, c.len-in-loop-alloc.ensures))
