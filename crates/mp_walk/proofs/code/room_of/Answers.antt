use Rattle.std.proofs.Common.{◌≡◌, ◌-◌, ◌<◌, ◌≤◌, ℕ, List, suc, length, ap, sym, ◌∙◌, subst, arith}
use Rattle.std.specs.Prelude.{Some, option_map, slice_get, slice_index_or}
use Rattle.std.proofs.lemmas.List.{length-set}
use Rattle.mp_walk.specs.Instrs as plain
use Rattle.mp_walk.specs.Instrs.{instr_at}
use Rattle.mp_walk.specs.InstrView.{plain_instr}
use Rattle.mp_walk.specs.Rooms.{room_at, target_room}
use Rattle.mp_walk.proofs.CodePaths.{down-target, over-target}
use Rattle.mp_walk.proofs.PathLaws.{path-narrow}
use Rattle.mp_walk.proofs.RoomLaws.{few-room, below-room, known-more, room-step, target-known, target-within}
use Rattle.mp_walk.proofs.code.room_of.Goals as goal

-- the instruction before a place
instr-before : (code : List plain.Instr) (n : ℕ) (i : plain.Instr) → 0 < n → slice_get code (n - 1) ≡ Some i
    → instr_at code n ≡ Some i
instr-before code n i h e =
    let back : suc (n - 1) ≡ n = omega (arith, h) in
    subst (λ m. instr_at code m ≡ Some i) back e

pub token_room-requires : goal.token_room-requires
token_room-requires c =
    let held = instr-before c.args.instrs.now c.loop-left.left (plain_instr c.in-Some.instr.now) c.loop-left-test.true
    (c.get.ensures ∙ ap (option_map (λ j. plain_instr j.now)) c.in-Some.is) in
    let h = path-narrow c.args.sig.now c.args.instrs.now c.requires c.loop-left.left
    (plain_instr c.in-Some.instr.now) held in
    omega (arith, h)

pub room_at-requires : goal.room_at-requires
room_at-requires c =
    let held = instr-before c.args.instrs.now c.loop-left.left (plain_instr c.in-Some.instr.now) c.loop-left-test.true
    (c.get.ensures ∙ ap (option_map (λ j. plain_instr j.now)) c.in-Some.is) in
    let i = plain_instr c.in-Some.instr.now in
    target-within c.args.instrs.now c.requires.forward c.loop-left.left i held c.deref.result.now
    (ap length c.deref.ensures.value ∙ c.loop-left.invariant.count) i.down (λ t e. down-target i t e)

pub overflow_add-below : goal.overflow_add-below
overflow_add-below c =
    let held = instr-before c.args.instrs.now c.loop-left.left (plain_instr c.in-Some.instr.now) c.loop-left-test.true
    (c.get.ensures ∙ ap (option_map (λ j. plain_instr j.now)) c.in-Some.is) in
    let code = c.args.instrs.now in
    let forward = c.requires.forward in
    let n = c.loop-left.left in
    let i = plain_instr c.in-Some.instr.now in
    let own = c.token_room.ensures in
    let down = c.room_at.ensures ∙ ap (λ rs. room_at rs i.down) c.deref.ensures.value
    ∙ target-known code forward n i held c.loop-left.rooms.items c.loop-left.invariant.known i.down
    (λ t e. down-target i t e) in
    let below = below-room code forward n i held in
    let few = few-room c.args.sig.now code c.requires n i held in
    omega (arith, own, down, below, few)

pub room_at-requires-in-loop-left : goal.room_at-requires-in-loop-left
room_at-requires-in-loop-left c =
    let held = instr-before c.args.instrs.now c.loop-left.left (plain_instr c.in-Some.instr.now) c.loop-left-test.true
    (c.get.ensures ∙ ap (option_map (λ j. plain_instr j.now)) c.in-Some.is) in
    let i = plain_instr c.in-Some.instr.now in
    target-within c.args.instrs.now c.requires.forward c.loop-left.left i held
    c.deref-in-loop-left.result.now (ap length c.deref-in-loop-left.ensures.value ∙ c.loop-left.invariant.count) i.over
    (λ t e. over-target i t e)

pub loop-left-preserved : goal.loop-left-preserved
loop-left-preserved c =
    let held = instr-before c.args.instrs.now c.loop-left.left (plain_instr c.in-Some.instr.now) c.loop-left-test.true
    (c.get.ensures ∙ ap (option_map (λ j. plain_instr j.now)) c.in-Some.is) in
    let code = c.args.instrs.now in
    let forward = c.requires.forward in
    let n = c.loop-left.left in
    let rooms = c.loop-left.rooms.items in
    let inv = c.loop-left.invariant in
    let i = plain_instr c.in-Some.instr.now in
    let back : suc (n - 1) ≡ n = omega (arith, c.loop-left-test.true) in
    let own = c.token_room.ensures in
    let down = c.room_at.ensures ∙ ap (λ rs. room_at rs i.down) c.deref.ensures.value
    ∙ target-known code forward n i held rooms inv.known i.down (λ t e. down-target i t e) in
    let over = c.room_at-in-loop-left.ensures ∙ ap (λ rs. room_at rs i.over) c.deref-in-loop-left.ensures.value
    ∙ target-known code forward n i held rooms inv.known i.over (λ t e. over-target i t e) in
    let step = room-step code forward n i held in
    let most = c.max.ensures in
    let room : c.max.result ≡ target_room code (Some n) = omega (arith, own, down, over, step, most) in
    record {
      within = omega (arith, inv.within);
      count = length-set rooms _ _ ∙ inv.count;
      known = known-more code rooms (n - 1) c.max.result (omega (arith, c.loop-left-test.true, inv.within, inv.count))
          inv.count (room ∙ ap (λ m. target_room code (Some m)) (sym back))
          (subst (λ m. (k : ℕ) → m ≤ k → k < length code
          → slice_index_or rooms k 0 ≡ target_room code (Some (suc k))) (sym back) inv.known);
    }
