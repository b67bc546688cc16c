use Rattle.std.proofs.Common.{◌<◌, length, ap, arith}
use Rattle.std.specs.Ordering.{nat_cmp}
use Rattle.std.specs.Cmp.Lexicographic.{slice_cmp}
use Rattle.std.proofs.lemmas.Cmp.{nat_list_cmp_total}
use Rattle.mp_term.specs.OrderLaws.{nats_same}
use Rattle.mp_table.proofs.Ascending.{found}
use Rattle.mp_net.specs.Keys.{mark_key}
use Rattle.mp_net.specs.View.{mark_of}
use Rattle.mp_net.proofs.MarkLaws.{edge-found, edge-none}
use Rattle.mp_net.proofs.state.State.below.Goals as goal

pub returns-in-Ok : goal.returns-in-Ok
returns-in-Ok c =
    let here = rw c.deref.ensures.value at c.in-Ok.ensures.position in
    let within : c.in-Ok.index < length c.args.self.now.heads.items =
    omega (arith, c.in-Ok.ensures.bound, ap length c.deref.ensures.value) in
    edge-found mark_of c.args.self.now.heads.items c.args.self.now.first c.in-Ok.index (mark_of c.args.head.now)
    c.requires.ascending c.requires.head within (λ d. nats_same _ _ (here d))

pub returns-in-Err : goal.returns-in-Err
returns-in-Err c =
    let searched = rw c.deref.ensures.value at c.binary_search.ensures.position in
    edge-none mark_of c.args.self.now.heads.items c.args.self.now.first (mark_of c.args.head.now)
    (λ i. rw c.in-Err.is at
    (found (slice_cmp nat_cmp) nat_list_cmp_total (λ h. mark_key (mark_of h)) nats_same c.args.self.now.heads.items
    (mark_key (mark_of c.args.head.now)) c.binary_search.result c.requires.ascending i searched))
