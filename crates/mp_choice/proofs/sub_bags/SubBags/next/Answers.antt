use Rattle.std.proofs.Common.{◌≡◌, ◌∙◌, ap, length}
use Rattle.std.proofs.lemmas.List.{with_items_is}
use Rattle.mp_choice.specs.SubBags.{IsSubBag}
use Rattle.mp_choice.specs.SubBagList.{counts_order, sub_bags_of}
use Rattle.mp_choice.specs.Choices.{advanced}
use Rattle.mp_choice.proofs.Moves.{stage_after, has_moved}
use Rattle.mp_choice.proofs.sub_bags.SubBags.next.Goals as goal
use Rattle.mp_choice.proofs.sub_bags.SubBags.next.Goals.{then-found, else-found}

pub returns : goal.returns
returns c =
    let s = c.self.inside in
    let held = with_items_is s.bag c.step-found.new.bag (c.step-found.auto.bag ∙ c.deref_mut.ensures.len) in
    let after : c.if-found.self ≡ stage_after c.step-found.result =
    elim c.if-found.branch [ then-found w ↦ cc | else-found w ↦ cc ] in
    let m = has_moved counts_order (IsSubBag s.counts.items) (sub_bags_of s.counts.items) s.room c.step-found.result
    s.stage c.if-found.self s.bag.items c.step-found.new.bag _ after held
    (rw (c.deref.ensures.value, c.deref_mut.ensures.value) at c.step-found.ensures) in
    record { moved = m.moved ∙ ap advanced c.self.view_is; answer = m.answer }

pub invariant_of-self : goal.invariant_of-self
invariant_of-self c =
    let s = c.self.inside in
    let held = with_items_is s.bag c.step-found.new.bag (c.step-found.auto.bag ∙ c.deref_mut.ensures.len) in
    let after : c.if-found.self ≡ stage_after c.step-found.result =
    elim c.if-found.branch [ then-found w ↦ cc | else-found w ↦ cc ] in
    let m = has_moved counts_order (IsSubBag s.counts.items) (sub_bags_of s.counts.items) s.room c.step-found.result
    s.stage c.if-found.self s.bag.items c.step-found.new.bag _ after held
    (rw (c.deref.ensures.value, c.deref_mut.ensures.value) at c.step-found.ensures) in
    record {
      counts_room = c.self.invariant.counts_room;
      bag_room = c.self.invariant.bag_room;
      fits = c.self.invariant.fits;
      same_length = cc (ap length held);
      bound = c.self.invariant.bound;
      stands = m.stands;
    }
