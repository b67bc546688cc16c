use Rattle.std.proofs.Common.{◌≡◌, ◌++◌, ◌∙◌, map, sym, ap, subst, append-nil}
use Rattle.std.specs.Ordering.{nat_cmp}
use Rattle.std.specs.Cmp.Lexicographic.{slice_cmp}
use Rattle.std.proofs.lemmas.Cmp.{nat_list_cmp_total}
use Rattle.std.proofs.lemmas.List.{at_drop_all}
use Rattle.std.proofs.lemmas.List.Filters.{dedup_is}
use Rattle.mp_term.specs.Listing.{In}
use Rattle.mp_term.specs.OrderLaws.{nats_same}
use Rattle.mp_table.proofs.Distinct.{distinct_ascends, distinct_all, distinct_keep}
use Rattle.mp_net.specs.Keys.{mark_key}
use Rattle.mp_net.specs.View.{mark_of}
use Rattle.mp_net.specs.Items.{tables, opens}
use Rattle.mp_net.specs.Turned.{heads_of}
use Rattle.mp_net.proofs.MarkLaws.{have-heads, all-members}
use Rattle.mp_net.proofs.turn.heads_asked.Goals as goal

pub returns-clause-ascending : goal.returns-clause-ascending
returns-clause-ascending c =
    rw (dedup_is _ _ _ c.dedup.ensures.filtered) (distinct_ascends (slice_cmp nat_cmp) nat_list_cmp_total
    (λ h. mark_key (mark_of h)) c.sort_unstable.new.self.items c.sort_unstable.ensures.sorted)

pub returns-clause-all : goal.returns-clause-all
returns-clause-all c =
    let hs = c.loop-item.heads.items in
    let all : heads_of (opens (tables c.args.marks.now) c.args.items.now) ≡ map mark_of hs =
    sym c.loop-item.invariant
    ∙ ap (λ us. map mark_of hs ++ us)
    (at_drop_all (λ is. heads_of (opens (tables c.args.marks.now) is)) c.args.items.now c.loop-item.item-index
    c.loop-item-test.false)
    ∙ append-nil (map mark_of hs) in
    rw (dedup_is _ _ _ c.dedup.ensures.filtered)
    (have-heads (opens (tables c.args.marks.now) c.args.items.now) hs _ all
    (λ x i. distinct_all (slice_cmp nat_cmp) nat_list_cmp_total (λ h. mark_key (mark_of h)) nats_same hs
    c.sort_unstable.new.self.items c.sort_unstable.ensures.permutation x i))

pub returns-clause-asked : goal.returns-clause-asked
returns-clause-asked c =
    let os = opens (tables c.args.marks.now) c.args.items.now in
    let hs = c.loop-item.heads.items in
    let all : heads_of os ≡ map mark_of hs =
    sym c.loop-item.invariant
    ∙ ap (λ us. map mark_of hs ++ us)
    (at_drop_all (λ is. heads_of (opens (tables c.args.marks.now) is)) c.args.items.now c.loop-item.item-index
    c.loop-item-test.false)
    ∙ append-nil (map mark_of hs) in
    rw (dedup_is _ _ _ c.dedup.ensures.filtered)
    (distinct_keep (slice_cmp nat_cmp) nat_list_cmp_total (λ h. mark_key (mark_of h))
    (λ h. In (mark_of h) (heads_of os)) hs c.sort_unstable.new.self.items c.sort_unstable.ensures.permutation
    (all-members mark_of (λ g. In g (heads_of os)) hs (λ g i. subst (In g) (sym all) i)))
