use Rattle.std.proofs.Common.{◌≡◌, ◌∙◌, ◌-◌, ◌<◌, ◌++◌, ap, sym, subst, map, take, drop, length, get_or, refl, arith}
use Rattle.std.specs.Prelude.{Some, None, IfSome}
use Rattle.mp_term.specs.Size.{all_nodes}
use Rattle.mp_term.specs.Tree.{trees}
use Rattle.mp_term.proofs.SizeLaws.{some-nodes}
use Rattle.mp_table.specs.Table.{term_at, terms_at, HasRanks}
use Rattle.mp_table.specs.declared.rank.Rank.{Rank}
use Rattle.mp_net.specs.Net.{edge_of, head_of, traces}
use Rattle.mp_net.specs.View.{turn_of}
use Rattle.mp_net.specs.Walk.{visits, IsSeen}
use Rattle.std.specs.List.{AllByRecursion}
use Rattle.mp_net.proofs.WalkLaws.{args-nodes, args-count, seen-more, behind-run, trace-seen, none-first}
use Rattle.mp_net.proofs.WalkLaws.{nodes-first, has-first, reads-below}
use Rattle.mp_net.proofs.visit.+visit.Goals as goal

pub visit-visit_all-requires : goal.visit-visit_all-requires
visit-visit_all-requires m c =
    let tb = c.args.probe.now.table in
    let args = c.read.result.args.now in
    let t = term_at tb c.args.rank in
    let nodes = args-nodes tb c.read.new.self.table c.args.rank args c.read.ensures.table c.read.ensures.args in
    let way = sym (c.below-below.ensures t c.read.ensures.head (args-count tb args t c.read.ensures.args))
    ∙ c.in-Some.is in (
      omega (arith, c.decreases, nodes),
      (
        c.requires.net,
        (
          subst (λ u. HasRanks u args) (sym c.read.ensures.table) c.read.ensures.within,
          (
            c.state_at-state.ensures.below (head_of t) c.in-Some.first way,
            seen-more tb c.read.new.self.table c.args.seen.now.items c.push.new.self.items _ c.read.ensures.table
                c.requires.seen (c.requires.rank, c.read.ensures.head) c.in_ok-push.ensures.items,
          ),
        ),
      ),
    )

pub visit-returns-in_err-behind-clause-most_reads : goal.visit-returns-in_err-behind-clause-most_reads
visit-returns-in_err-behind-clause-most_reads m c =
    reads-below c.args.probe.now.reads c.read.new.self.reads c.visit_all.new.probe.reads _ _ c.read.ensures.reads
    c.visit_all.ensures.most_reads (args-nodes c.args.probe.now.table c.read.new.self.table c.args.rank
    c.read.result.args.now c.read.ensures.table c.read.ensures.args)

pub visit-returns-in_default-2-clause-most_reads : goal.visit-returns-in_default-2-clause-most_reads
visit-returns-in_default-2-clause-most_reads m c =
    reads-below c.args.probe.now.reads c.read.new.self.reads c.visit_all.new.probe.reads _ _ c.read.ensures.reads
    c.visit_all.ensures.most_reads (args-nodes c.args.probe.now.table c.read.new.self.table c.args.rank
    c.read.result.args.now c.read.ensures.table c.read.ensures.args)

pub visit-returns-clause-most_reads : goal.visit-returns-clause-most_reads
visit-returns-clause-most_reads m c =
    reads-below c.args.probe.now.reads c.read.new.self.reads c.visit_all.new.probe.reads _ _ c.read.ensures.reads
    c.visit_all.ensures.most_reads (args-nodes c.args.probe.now.table c.read.new.self.table c.args.rank
    c.read.result.args.now c.read.ensures.table c.read.ensures.args)

pub visit-returns-in_default-2-clause-state : goal.visit-returns-in_default-2-clause-state
visit-returns-in_default-2-clause-state m c =
    let tb = c.args.probe.now.table in
    let args = c.read.result.args.now in
    let t = term_at tb c.args.rank in
    let way = ap (λ u. edge_of (head_of t) u.edges) c.state_at-state.ensures.turn
    ∙ sym (c.below-below.ensures t c.read.ensures.head (args-count tb args t c.read.ensures.args)) ∙ c.in-Some.is in
    behind-run (map turn_of c.args.net.now.states.items) tb c.read.new.self.table c.args.rank args c.args.state
    c.in-Some.first c.read.ensures.table c.read.ensures.args way None
    (sym c.in_default-2.is ∙ c.in_ok-behind.ensures.state)

pub visit-returns-clause-state : goal.visit-returns-clause-state
visit-returns-clause-state m c =
    let tb = c.args.probe.now.table in
    let args = c.read.result.args.now in
    let t = term_at tb c.args.rank in
    let way = ap (λ u. edge_of (head_of t) u.edges) c.state_at-state.ensures.turn
    ∙ sym (c.below-below.ensures t c.read.ensures.head (args-count tb args t c.read.ensures.args)) ∙ c.in-Some.is in
    behind-run (map turn_of c.args.net.now.states.items) tb c.read.new.self.table c.args.rank args c.args.state
    c.in-Some.first c.read.ensures.table c.read.ensures.args way _
    (sym c.in-Some-2.is ∙ c.in_ok-behind.ensures.state)

pub visit-returns-clause-trace : goal.visit-returns-clause-trace
visit-returns-clause-trace m c =
    let tb = c.args.probe.now.table in
    let new = c.read.new.self.table in
    let args = c.read.result.args.now in
    let t = term_at tb c.args.rank in
    let turns = map turn_of c.args.net.now.states.items in
    let way = ap (λ u. edge_of (head_of t) u.edges) c.state_at-state.ensures.turn
    ∙ sym (c.below-below.ensures t c.read.ensures.head (args-count tb args t c.read.ensures.args)) ∙ c.in-Some.is in
    let told = subst (λ o. IfSome o (λ k. visits new c.visit_all.new.seen.items
    ≡ visits new c.push.new.self.items ++ traces turns (trees (terms_at new args)) (Some c.in-Some.first)))
    c.in-Some-2.is c.in_ok-behind.ensures.trace in
    let here : c.len-here.result ≡ length c.args.seen.now.items = c.len-here.ensures ∙ c.args.seen.now.ok.0 in
    let len : c.len.result ≡ length c.visit_all.new.seen.items = c.len.ensures ∙ c.visit_all.new.seen.ok.0 in
    trace-seen turns tb new c.args.rank args c.args.state c.in-Some.first c.read.ensures.table c.read.ensures.args way
    c.args.seen.now.items c.push.new.self.items c.visit_all.new.seen.items _ c.index_mut.result.now c.len-here.result
    c.len.result refl c.in_ok-push.ensures.items told here len c.index_mut.ensures.value

pub visit_all-returns-in_default-2-clause-state : goal.visit_all-returns-in_default-2-clause-state
visit_all-returns-in_default-2-clause-state m c =
    none-first (map turn_of c.args.net.now.states.items) c.args.probe.now.table c.args.ranks.now _ (Some c.args.first)
    c.in-len1-up.len_at_least (sym c.in_default-2.is ∙ c.in_ok-next.ensures.state)

pub visit_all-visit_all-requires : goal.visit_all-visit_all-requires
visit_all-visit_all-requires m c =
    let tb = c.args.probe.now.table in
    let rs = c.args.ranks.now in
    let rest = take (length rs - 1) (drop 1 rs) in
    let d : Rank = record { 0 = 0 } in (
      omega (
        arith,
        c.decreases,
        nodes-first tb rs d c.in-len1-up.len_at_least,
        some-nodes (term_at tb (get_or rs 0 d)),
        ap (λ u. all_nodes (terms_at u rest)) c.visit.ensures.table,
      ),
      (
        c.requires.net,
        (
          subst (λ u. HasRanks u rest) (sym c.visit.ensures.table)
              (has-first tb rs d c.in-len1-up.len_at_least c.requires.ranks).1,
          (
            subst (λ o. IfSome o (λ k. k < length c.args.net.now.states.items)) c.in-Some.is
                c.in_ok-next.ensures.within,
            subst (λ u. AllByRecursion (IsSeen u) c.visit.new.seen.items) (sym c.visit.ensures.table)
                c.visit.ensures.seen,
          ),
        ),
      ),
    )
