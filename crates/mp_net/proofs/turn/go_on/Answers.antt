use Rattle.std.proofs.Common.{◌≡◌, ◌+◌, ◌<◌, ◌^◌, ◌∙◌, [], ◌∷◌, ◌++◌, map, length, refl, sym, ap, subst, append-nil}
use Rattle.std.proofs.Common.{arith}
use Rattle.std.specs.Ordering.{nat_cmp}
use Rattle.std.specs.Cmp.Lexicographic.{slice_cmp}
use Rattle.std.proofs.lemmas.Cmp.{nat_list_cmp_total}
use Rattle.std.specs.List.{AllByRecursion}
use Rattle.mp_term.specs.OrderLaws.{nats_same}
use Rattle.mp_table.proofs.Ascending.{found}
use Rattle.mp_net.specs.Net as net
use Rattle.mp_net.specs.Keys.{mark_key}
use Rattle.mp_net.specs.View.{mark_of, open_of}
use Rattle.mp_net.specs.Items.{tables, opens, states, listed, joined, item_below}
use Rattle.mp_net.specs.Turned.{keys, below_each}
use Rattle.mp_net.proofs.ShortLaws.{wildcard-fits}
use Rattle.mp_net.proofs.TurnLaws.{ruled, first-none, joined-none, wildcard-goes, head-goes, head-behind, head-there}
use Rattle.mp_net.proofs.turn.go_on.Goals as goal

pub returns-in_default-clause-below : goal.returns-in_default-clause-below
returns-in_default-clause-below c =
    let ms = tables c.args.marks.now in
    let old = states ms c.args.turn.now.below.items in
    let hs = map mark_of c.args.turn.now.heads.items in
    let o = open_of ms c.args.item in
    let e : o ≡ ruled o.rule [] = first-none o c.in_default.ensures in
    sym (ap (λ u. joined old (below_each (u ∷ []) hs)) e ∙ joined-none old hs)

pub enter_each-requires-clause-fits : goal.enter_each-requires-clause-fits
enter_each-requires-clause-fits c =
    let ms = tables c.args.marks.now in
    subst (AllByRecursion (λ h. c.in-Some.rest.free + net.arity (mark_of h) < 2 ^ 64)) (sym c.deref.ensures.value)
    (wildcard-fits ms c.in-Some.head c.in-Some.rest (open_of ms c.args.item) c.args.turn.now.heads.items
    c.in-Some.ensures c.requires.short c.requires.narrow)

pub returns-in_ok-push-in-Anything-clause-below : goal.returns-in_ok-push-in-Anything-clause-below
returns-in_ok-push-in-Anything-clause-below c =
    let ms = tables c.args.marks.now in
    let old = c.args.turn.now.below.items in
    wildcard-goes ms old c.enter_each.new.lists.items c.args.turn.now.heads.items c.in-Some.head c.in-Some.rest
    (open_of ms c.args.item) c.in-Anything.is c.in-Some.ensures
    (c.in_ok-enter_each-in-Anything.ensures
    ∙ ap (λ hs. joined (listed old) (map (λ h. item_below (mark_of h) c.in-Some.rest ∷ []) hs)) c.deref.ensures.value)

pub returns-in_ok-push-in_default-head : goal.returns-in_ok-push-in_default-head
returns-in_ok-push-in_default-head c =
    let ms = tables c.args.marks.now in
    let turn = c.args.turn.now in
    let o = open_of ms c.args.item in
    let here = rw c.deref-in_default-head.ensures.value at c.in-Ok.ensures.position in
    let within : c.in-Ok.index < length turn.heads.items =
    omega (arith, c.in-Ok.ensures.bound, ap length c.deref-in_default-head.ensures.value) in
    record {
      heads = refl;
      below = head-goes ms turn.below.items turn.heads.items c.in-Ok.index c.push-in-Ok.new.self c.index_mut.result.now
          c.in-Some.head c.in-Some.rest o c.in_default-head.not-Anything c.requires.ascending c.requires.lists within
          (λ d. nats_same _ _ (here d)) c.in-Some.ensures c.index_mut.ensures.value
          c.in_ok-push-in_default-head.ensures.items;
      behind = sym
          (ap (λ us. opens ms turn.behind.items ++ us)
          (head-behind ms c.in-Some.head c.in-Some.rest o c.in_default-head.not-Anything c.in-Some.ensures)
          ∙ append-nil (opens ms turn.behind.items));
    }

pub returns-in_default-binary_search : goal.returns-in_default-binary_search
returns-in_default-binary_search c =
    let ms = tables c.args.marks.now in
    let hs = c.args.turn.now.heads.items in
    let searched = rw c.deref-in_default-head.ensures.value at c.binary_search.ensures.position in
    let there = head-there (keys hs) ms c.in-Some.head c.in-Some.rest (open_of ms c.args.item)
    c.in_default-head.not-Anything c.in-Some.ensures c.requires.heads in
    absurd (rw c.in_default-binary_search.is at
    (found (slice_cmp nat_cmp) nat_list_cmp_total (λ h. mark_key (mark_of h)) nats_same hs
    (mark_key (mark_of c.in-Some.head)) c.binary_search.result c.requires.ascending there searched))
