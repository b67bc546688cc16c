use Rattle.std.proofs.Common.{◌+◌, ◌<◌, ◌^◌, ◌∙◌, length, refl, sym}
use Rattle.std.proofs.lemmas.List.{length-map, length-set}
use Rattle.std.proofs.lemmas.Option.{slice_get_read}
use Rattle.mp_net.specs.Net as net
use Rattle.mp_net.specs.View.{mark_of}
use Rattle.mp_net.specs.Items.{listed, item_below}
use Rattle.mp_net.proofs.TurnLaws.{joined-nil, entered-next}
use Rattle.mp_net.proofs.turn.enter_each.Goals as goal
use Rattle.mp_term.proofs.ListLaws.{all-get}

pub loop-index-init : goal.loop-index-init
loop-index-init c = record { count = c.requires.lists; lists = sym (joined-nil (listed c.args.lists.now.items)) }

pub inside-requires : goal.inside-requires
inside-requires c =
    let n = c.args.behind.free in
    all-get (λ h. n + net.arity (mark_of h) < 2 ^ 64) c.args.heads.now c.loop-index.index c.index-heads-index.result
    c.requires.fits
    (slice_get_read c.args.heads.now (length c.args.heads.now) c.loop-index.index c.index-heads-index.result refl
    c.loop-index-test.true c.index-heads-index.is)

pub loop-index-preserved : goal.loop-index-preserved
loop-index-preserved c = record {
  count = length-set c.loop-index.lists.items c.loop-index.index c.push.new.self ∙ c.loop-index.invariant.count;
  lists = entered-next (λ h. item_below (mark_of h) c.args.behind) c.args.lists.now.items c.loop-index.lists.items
      c.args.heads.now c.loop-index.index c.push.new.self c.index_mut.result.now c.index-heads-index.result
      c.inside.result (length-map c.args.lists.now.items (λ v. v.items) ∙ c.requires.lists)
      c.loop-index.invariant.count c.loop-index-test.true c.loop-index.invariant.lists c.index_mut.ensures.value
      c.index-heads-index.is c.inside.ensures c.in_ok-push.ensures.items;
}
