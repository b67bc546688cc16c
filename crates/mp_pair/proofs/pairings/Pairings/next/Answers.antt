use Rattle.std.proofs.Common.{◌≡◌, ◌∙◌, ap, length}
use Rattle.std.proofs.lemmas.List.{with_items_is}
use Rattle.mp_choice.specs.Choices.{advanced}
use Rattle.mp_choice.proofs.Lexicographic.{lex}
use Rattle.mp_choice.proofs.Moves.{stage_after, has_moved}
use Rattle.mp_pair.specs.Bipartite.{lists}
use Rattle.mp_pair.specs.Pairings.{IsPairing}
use Rattle.mp_pair.specs.PairingList.{pairings_of}
use Rattle.mp_pair.proofs.pairings.Pairings.next.Goals as goal
use Rattle.mp_pair.proofs.pairings.Pairings.next.Goals.{then-found, else-found}

pub returns : goal.returns
returns c =
    let s = c.self.inside in
    let held = with_items_is s.choice c.step-found.new.choice (c.step-found.auto.choice ∙ c.deref_mut.ensures.len) in
    let after : c.if-found.self ≡ stage_after c.step-found.result =
    elim c.if-found.branch [ then-found w ↦ cc | else-found w ↦ cc ] in
    let m = has_moved lex (IsPairing s.capacities.items (lists s.left.items))
    (pairings_of s.capacities.items (lists s.left.items)) (length s.left.items) c.step-found.result s.stage
    c.if-found.self s.choice.items c.step-found.new.choice _ after held
    (rw (c.deref.ensures.value, c.deref-2.ensures.value, c.deref_mut.ensures.value) at c.step-found.ensures) in
    record { moved = m.moved ∙ ap advanced c.self.view_is; answer = m.answer }

pub invariant_of-self : goal.invariant_of-self
invariant_of-self c =
    let s = c.self.inside in
    let held = with_items_is s.choice c.step-found.new.choice (c.step-found.auto.choice ∙ c.deref_mut.ensures.len) in
    let after : c.if-found.self ≡ stage_after c.step-found.result =
    elim c.if-found.branch [ then-found w ↦ cc | else-found w ↦ cc ] in
    let m = has_moved lex (IsPairing s.capacities.items (lists s.left.items))
    (pairings_of s.capacities.items (lists s.left.items)) (length s.left.items) c.step-found.result s.stage
    c.if-found.self s.choice.items c.step-found.new.choice _ after held
    (rw (c.deref.ensures.value, c.deref-2.ensures.value, c.deref_mut.ensures.value) at c.step-found.ensures) in
    record {
      same_length = cc (ap length held);
      ascending = c.self.invariant.ascending;
      stands = m.stands;
    }
