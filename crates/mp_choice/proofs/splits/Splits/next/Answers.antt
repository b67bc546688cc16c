use Rattle.std.proofs.Common.{◌≡◌, ◌∙◌, ap, length}
use Rattle.std.proofs.lemmas.List.{with_items_is}
use Rattle.mp_choice.specs.Splits.{IsSplit}
use Rattle.mp_choice.specs.SplitList.{splits_of}
use Rattle.mp_choice.proofs.Lexicographic.{lex}
use Rattle.mp_choice.specs.Choices.{advanced}
use Rattle.mp_choice.proofs.Moves.{stage_after, has_moved}
use Rattle.mp_choice.proofs.splits.Splits.next.Goals as goal
use Rattle.mp_choice.proofs.splits.Splits.next.Goals.{then-found, else-found}

pub returns : goal.returns
returns c =
    let s = c.self.inside in
    let held = with_items_is s.lengths c.step-found.new.lengths (c.step-found.auto.lengths ∙ c.deref_mut.ensures.len) in
    let after : c.if-found.self ≡ stage_after c.step-found.result =
    elim c.if-found.branch [ then-found w ↦ cc | else-found w ↦ cc ] in
    let m = has_moved lex (IsSplit s.total s.parts.items) (splits_of s.total s.parts.items) s.room c.step-found.result
    s.stage c.if-found.self s.lengths.items c.step-found.new.lengths _ after held
    (rw (c.deref.ensures.value, c.deref_mut.ensures.value) at c.step-found.ensures) in
    record { moved = m.moved ∙ ap advanced c.self.view_is; answer = m.answer }

pub invariant_of-self : goal.invariant_of-self
invariant_of-self c =
    let s = c.self.inside in
    let held = with_items_is s.lengths c.step-found.new.lengths (c.step-found.auto.lengths ∙ c.deref_mut.ensures.len) in
    let after : c.if-found.self ≡ stage_after c.step-found.result =
    elim c.if-found.branch [ then-found w ↦ cc | else-found w ↦ cc ] in
    let m = has_moved lex (IsSplit s.total s.parts.items) (splits_of s.total s.parts.items) s.room c.step-found.result
    s.stage c.if-found.self s.lengths.items c.step-found.new.lengths _ after held
    (rw (c.deref.ensures.value, c.deref_mut.ensures.value) at c.step-found.ensures) in
    record {
      parts_room = c.self.invariant.parts_room;
      lengths_room = c.self.invariant.lengths_room;
      fits = c.self.invariant.fits;
      same_length = cc (ap length held);
      total_bound = c.self.invariant.total_bound;
      least_bound = c.self.invariant.least_bound;
      stands = m.stands;
    }
