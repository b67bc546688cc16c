use Rattle.std.proofs.Common.{length, ap, arith}
use Rattle.mp_term.specs.Size.{all_nodes}
use Rattle.mp_pattern.specs.Subpatterns.{subpatterns}
use Rattle.mp_table.specs.Table.{term_at}
use Rattle.mp_search.specs.declared.grounds.Grounds.{Grounds}
use Rattle.mp_ac.proofs.BeginSearch.{given-nodes}
use Rattle.mp_ac.proofs.SearchLaws.{count-subpatterns}
use Rattle.mp_ac.proofs.begin.room_for.Goals as goal

pub set_choices-requires-clause-store : goal.set_choices-requires-clause-store
set_choices-requires-clause-store c = c.take_room.ensures.store c.args.table.now c.args.plans.now c.requires.store

pub set_choices-requires-clause-room : goal.set_choices-requires-clause-room
set_choices-requires-clause-room c =
    (c.in_ok-room.ensures.room c.args.table.now c.args.plans.now c.requires.store).of_table

pub set_choices-requires-clause-children : goal.set_choices-requires-clause-children
set_choices-requires-clause-children c =
    omega (arith, (c.in_ok-room.ensures.room c.args.table.now c.args.plans.now c.requires.store).children)

pub fill-requires : goal.fill-requires
fill-requires c =
    let room = c.in_ok-room.ensures.room c.args.table.now c.args.plans.now c.requires.store in
    let p = c.args.plan.now.plan.pattern in
    let same = ap (λ q. length (subpatterns q)) c.pattern.ensures in
    let kept = ap (λ (g : Grounds). g.list.room) c.set_choices.ensures.same.2 in
    omega (arith, same, kept, room.grounds, count-subpatterns p c.requires.plan.1.application)

pub returns-clause-room : goal.returns-clause-room
returns-clause-room c =
    let room = c.in_ok-room.ensures.room c.args.table.now c.args.plans.now c.requires.store in
    let same = c.set_choices.ensures.same in
    let kept = ap (λ (g : Grounds). g.list.room) same.2 in
    let nodes = given-nodes (term_at c.args.table.now c.args.node.node) c.args.node.alone in
    let terms = ap all_nodes c.requires.node.terms in
    let of_table = c.in_ok-set_choices.ensures.room in
    record {
      of_table = record { picks = of_table.picks; levels = of_table.levels };
      wide = omega (arith, nodes, terms, c.nodes-width.ensures, room.wide, same.0);
      children = omega arith;
      nodes = omega (arith, room.nodes, c.nodes-nodes.ensures, ap (λ ls. length ls.items) same.1);
      grounds = omega (arith, room.grounds, c.nodes-nodes.ensures, kept, c.fill.ensures.room);
    }
