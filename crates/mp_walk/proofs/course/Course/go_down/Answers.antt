use Rattle.std.proofs.Common.{◌≡◌, ◌-◌, [], ◌∷◌, ◌++◌, Some, slice_get}
use Rattle.std.proofs.Common.{ap, sym, ◌∙◌, subst}
use Rattle.std.specs.Prelude.{if◌then◌else◌}
use Rattle.mp_pattern.specs.NetTokenView.{net_token}
use Rattle.mp_walk.specs.declared.course.Course.{Course}
use Rattle.mp_walk.specs.Course.{opens_after, IsWayValid}
use Rattle.mp_walk.specs.Levels.{state_of}
use Rattle.mp_walk.specs.OpenOnes.{AreFrames, open_of, opens}
use Rattle.mp_walk.proofs.DownLaws.{down-valid, down-sound, down-course, down-found}
use Rattle.mp_walk.proofs.DownLaws.{down-on, down-less, put-ends, taken-marked}
use Rattle.mp_walk.proofs.course.Course.go_down.Goals as goal
use Rattle.mp_walk.proofs.course.Course.go_down.Goals.{After-opened-self}

module _ (c : After-opened-self) where
  abbrev self : Course
  self = c.args.self.now

  -- frames are added
  made : c.opened-self.new.frames.items ≡ self.frames.items ++ c.opened-self.ensures.front.0
  made = c.opened-self.ensures.front.1 ∙ ap (λ z. z ++ c.opened-self.ensures.front.0) c.in_ok-reserve.ensures.items

  -- what is open then
  opened : opens self.set.table.now c.opened-self.new.frames.items c.opened-self.result
      ≡ opens_after (net_token c.args.instr.now.token)
      (opens self.set.table.now self.frames.items (Some c.in-Some.place)) (c.args.level.next - 1)
  opened =
      let k = net_token c.args.instr.now.token in
      let t = self.set.table.now in
      c.opened-self.ensures.«open»
      ∙ ap (λ z. opens_after k (opens t z (Some c.in-Some.place)) c.saturating_sub-way.result)
      c.in_ok-reserve.ensures.items
      ∙ ap (opens_after k (opens t self.frames.items (Some c.in-Some.place))) c.saturating_sub-way.ensures

pub is_ended-requires-clause-standing : goal.is_ended-requires-clause-standing
is_ended-requires-clause-standing c = c.requires.taken.1.standing

pub is_ended-requires-clause-instr : goal.is_ended-requires-clause-instr
is_ended-requires-clause-instr c = c.requires.taken.1.instr

pub opened-self-requires-clause-frames : goal.opened-self-requires-clause-frames
opened-self-requires-clause-frames c =
    subst (AreFrames c.args.self.now.set.sig.now c.args.self.now.set.table.now)
    (sym c.in_ok-reserve.ensures.items) c.requires.taken.1.standing.frames

pub opened-self-requires-clause-sound : goal.opened-self-requires-clause-sound
opened-self-requires-clause-sound c = down-sound c.requires.taken.1 c.in-Some.is

pub opened-self-requires-clause-valid : goal.opened-self-requires-clause-valid
opened-self-requires-clause-valid c = λ f e.
    subst (IsWayValid (net_token c.args.instr.now.token) (open_of c.args.self.now.set.table.now f))
    (sym c.saturating_sub-way.ensures)
    (down-valid c.requires.taken.1 c.in-Some.is f
    (subst (λ l. slice_get l c.in-Some.place ≡ Some f) c.in_ok-reserve.ensures.items e))

pub accepts-requires : goal.accepts-requires
accepts-requires c =
    let known = (goal.at.accepts-requires c).After-opened-self in
    down-course (taken-marked c.requires.taken.1 c.is_ended.result) c.in-Some.is _ c.opened-self.new.frames _
    (made known) (opened known) c.opened-self.ensures.place c.opened-self.ensures.frames c.is_ended.ensures
    c.push.new.self c.in_ok-push.ensures.items
    c.args.self.now.alloc c.args.self.now.store c.requires.store

pub returns-then-accepts-clause-turn : goal.returns-then-accepts-clause-turn
returns-then-accepts-clause-turn c = λ before T.
    let n = c.args.level.instr in
    let known = (goal.at.returns-then-accepts-clause-turn c).After-opened-self in (
      (
        down-course (taken-marked T c.is_ended.result) c.in-Some.is _ c.opened-self.new.frames _ (made known)
            (opened known) c.opened-self.ensures.place c.opened-self.ensures.frames c.is_ended.ensures
            c.push.new.self c.in_ok-push.ensures.items
            c.args.self.now.alloc c.args.self.now.store c.requires.store,
        put-ends c.args.self.now.set.sig.now n c.args.instr.now.accepts
            (state_of c.args.self.now.set.table.now c.opened-self.new.frames.items c.opened-self.result
            c.args.self.now.trail) []
            (c.accepts.ensures n [] ∙ ap (λ r. if r then (n, []) ∷ [] else []) c.if-accepts.true),
      ),
      down-found (taken-marked T c.is_ended.result) c.in-Some.is _ _ _ (made known) (opened known)
          c.push.new.self.items c.in_ok-push.ensures.items
          (λ n b. c.accepts.ensures n b ∙ ap (λ r. if r then (n, b) ∷ [] else []) c.if-accepts.true),
    )

pub returns-else-accepts-clause-turn : goal.returns-else-accepts-clause-turn
returns-else-accepts-clause-turn c = λ before T.
    let known = (goal.at.returns-else-accepts-clause-turn c).After-opened-self in (
      down-course (taken-marked T c.is_ended.result) c.in-Some.is _ c.opened-self.new.frames _ (made known)
          (opened known) c.opened-self.ensures.place c.opened-self.ensures.frames c.is_ended.ensures c.push.new.self
          c.in_ok-push.ensures.items
          c.args.self.now.alloc c.args.self.now.store c.requires.store,
      down-on (taken-marked T c.is_ended.result) c.in-Some.is _ _ _ (made known) (opened known) c.push.new.self.items
          c.in_ok-push.ensures.items
          (λ n b. c.accepts.ensures n b ∙ ap (λ r. if r then (n, b) ∷ [] else []) c.if-accepts.false),
    )

pub returns-then-accepts-clause-less : goal.returns-then-accepts-clause-less
returns-then-accepts-clause-less c = λ before T.
    let known = (goal.at.returns-then-accepts-clause-less c).After-opened-self in
    down-less (taken-marked T c.is_ended.result) c.in-Some.is _ _ _ (made known) (opened known) c.push.new.self.items
    c.in_ok-push.ensures.items

pub returns-else-accepts-clause-less : goal.returns-else-accepts-clause-less
returns-else-accepts-clause-less c = λ before T.
    let known = (goal.at.returns-else-accepts-clause-less c).After-opened-self in
    down-less (taken-marked T c.is_ended.result) c.in-Some.is _ _ _ (made known) (opened known) c.push.new.self.items
    c.in_ok-push.ensures.items
