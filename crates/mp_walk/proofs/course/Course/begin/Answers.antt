use Rattle.std.proofs.Common.{◌≡◌, ◌<◌, ℕ, List, [], ◌∷◌, ◌++◌, map, length, refl, ap, sym, ◌∙◌}
use Rattle.std.proofs.Common.{subst}
use Rattle.std.proofs.Common.{arith}
use Rattle.std.specs.Prelude.{Some}
use Rattle.std.specs.List.{AllByRecursion}
use Rattle.std.proofs.lemmas.List.{append-nil}
use Rattle.mp_term.specs.Size.{node_count}
use Rattle.mp_table.specs.Table.{term_at, subject_of}
use Rattle.mp_walk.specs.declared.frame.Frame.{Frame}
use Rattle.mp_walk.specs.CourseView.{AreChained, IsMarked, LeadsTo}
use Rattle.mp_walk.specs.Course.{table_read, reads_to_come, walk_from}
use Rattle.mp_walk.specs.Levels.{read_of, state_of, HasRoom, AreLevels}
use Rattle.mp_walk.specs.OpenOnes.{AreFrames}
use Rattle.mp_walk.specs.Rooms.{target_room}
use Rattle.mp_walk.specs.TokenMachine.{begin_state}
use Rattle.mp_ac.specs.Numbered.{IsTrailOf}
use Rattle.mp_walk.proofs.BeginLaws.{begin-frames, begin-state, begin-there, begin-first}
use Rattle.mp_walk.proofs.BeginLaws.{begin-walk}
use Rattle.mp_walk.proofs.RoomLaws.{few-all, first-room}
use Rattle.mp_walk.proofs.ChainLaws.{alike-same}
use Rattle.mp_walk.proofs.course.Course.begin.Goals as goal

pub overflow_cast-nodes : goal.overflow_cast-nodes
overflow_cast-nodes c =
    let t = c.args.set.table.now in
    let same : term_at t c.root-root.result ≡ subject_of t =
    ap (λ (n : ℕ). term_at t (record { 0 = n })) c.root-root.ensures.rank in
    let count = c.nodes-nodes.ensures ∙ ap node_count same in
    let few = c.requires.nodes in
    omega (arith, count, few)

pub overflow_add-nodes : goal.overflow_add-nodes
overflow_add-nodes c =
    let t = c.args.set.table.now in
    let same : term_at t c.root-root.result ≡ subject_of t =
    ap (λ (n : ℕ). term_at t (record { 0 = n })) c.root-root.ensures.rank in
    let count = c.nodes-nodes.ensures ∙ ap node_count same in
    let few = c.requires.nodes in
    let x = c.args.set in
    let room = c.requires.setting.plans.room in
    let little = few-all x.sig.now x.code.now.instrs c.requires.setting.walkable in
    omega (arith, count, few, room, little)

pub overflow_add-nodes-2 : goal.overflow_add-nodes-2
overflow_add-nodes-2 c =
    let t = c.args.set.table.now in
    let same : term_at t c.root-root.result ≡ subject_of t =
    ap (λ (n : ℕ). term_at t (record { 0 = n })) c.root-root.ensures.rank in
    let count = c.nodes-nodes.ensures ∙ ap node_count same in
    let few = c.requires.nodes in
    let x = c.args.set in
    let room = c.requires.setting.plans.room in
    let little = few-all x.sig.now x.code.now.instrs c.requires.setting.walkable in
    omega (arith, count, few, room, little)

pub returns-clause-course : goal.returns-clause-course
returns-clause-course c =
    let x = c.args.set in
    let t = x.table.now in
    let w = c.requires.setting.walkable in
    let o = c.first_target-target.result in
    let frames : c.push.new.self.items ≡ c.root.result ∷ [] =
    c.in_ok-push.ensures.items ∙ ap (λ xs. xs ++ c.root.result ∷ []) c.in_ok-frames.ensures.items in
    let state = begin-state t c.root.result c.root.ensures.«open» c.root.ensures.outer c.push.new.self.items
    c.in_ok-trail.trail frames (ap (λ u. u.stack) c.in_ok-trail.ensures) in
    let same : term_at t c.root-root.result ≡ subject_of t =
    ap (λ (n : ℕ). term_at t (record { 0 = n })) c.root-root.ensures.rank in
    let count = c.nodes-nodes.ensures ∙ ap node_count same in
    let first = first-room x.sig.now x.code.now.instrs w o c.first_target-target.ensures in
    let most = c.requires.setting.plans.room in
    record {
      setting = c.requires.setting;
      frames = subst (AreFrames x.sig.now t) (sym frames) (begin-frames x.sig.now t c.root.result
          c.root.ensures.frame c.root.ensures.under c.root.ensures.outer);
      place = subst (λ (fs : List Frame). 0 < length fs) (sym frames) (omega arith);
      trail = subst (IsTrailOf t) (sym c.in_ok-trail.ensures) (record {
        goes = record { values = tt; variables = tt };
        vars = refl;
      });
      levels = subst (λ ls. AreLevels x c.push.new.self.items c.in_ok-trail.trail ls
          (length c.push.new.self.items) (length c.in_ok-trail.trail.stack)) (sym c.in_ok-levels.ensures.items) tt;
      store = c.new-2.ensures t x.code.now.plans.plans;
      there = begin-there x.code.now.instrs o c.first_target-target.ensures;
      room = subst (λ s. HasRoom (target_room x.code.now.instrs o) s.open_ones c.in_ok-trail.trail) (sym state)
          (subst (HasRoom (target_room x.code.now.instrs o) (begin_state (subject_of t)).open_ones)
          (sym c.in_ok-trail.ensures) (omega (arith, count, first, most)));
      chained = subst (λ ls. AreChained x w.before c.push.new.self.items c.in_ok-trail.trail ls (LeadsTo w.before o)
          (state_of t c.push.new.self.items (Some 0) c.in_ok-trail.trail)) (sym c.in_ok-levels.ensures.items) (
            alike-same (begin_state (subject_of t)) (state_of t c.push.new.self.items (Some 0) c.in_ok-trail.trail)
                (sym state),
            begin-first x.sig.now x.code.now.instrs w o c.first_target-target.ensures,
          );
      ended = subst (AllByRecursion (IsMarked x c.push.new.self.items c.in_ok-trail.trail))
          (sym c.in_ok-levels.ensures.items) tt;
    }

pub returns-clause-to_come : goal.returns-clause-to_come
returns-clause-to_come c =
    let x = c.args.set in
    let t = x.table.now in
    let sig = x.sig.now in
    let code = x.code.now.instrs in
    let o = c.first_target-target.result in
    let u = c.in_ok-trail.trail in
    let fs = c.push.new.self.items in
    let frames : fs ≡ c.root.result ∷ [] =
    c.in_ok-push.ensures.items ∙ ap (λ xs. xs ++ c.root.result ∷ []) c.in_ok-frames.ensures.items in
    let state = begin-state t c.root.result c.root.ensures.«open» c.root.ensures.outer fs u frames
    (ap (λ v. v.stack) c.in_ok-trail.ensures) in
    ap (λ ls. walk_from sig code o (state_of t fs (Some 0) u) (table_read code (map (read_of t fs u) ls))
    ++ reads_to_come sig code [] (map (read_of t fs u) ls)) c.in_ok-levels.ensures.items
    ∙ append-nil (walk_from sig code o (state_of t fs (Some 0) u) [])
    ∙ ap (λ s. walk_from sig code o s []) state
    ∙ begin-walk sig code o c.first_target-target.ensures (begin_state (subject_of t))
