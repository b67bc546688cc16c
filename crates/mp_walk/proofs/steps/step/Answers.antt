use Rattle.std.proofs.Common.{◌≡◌, ◌≤◌, ◌<◌, ◌+◌, ◌-◌, List, [], ◌∷◌, length, ap, sym, ◌∙◌, subst, arith}
use Rattle.std.proofs.lemmas.List.{length-take-le}
use Rattle.mp_pattern.specs.NetTokenView.{net_token}
use Rattle.mp_subst.specs.Trail.{Trail, length_at, cut}
use Rattle.mp_walk.specs.Course.{entries_by, opens_by, IsWayValid}
use Rattle.mp_walk.specs.Below.{below_table, below_ahead}
use Rattle.mp_walk.specs.Levels.{read_of, state_of, trail_before}
use Rattle.mp_walk.specs.OpenOnes.{IsPlaceBelow, opens, open_of}
use Rattle.mp_walk.specs.TokenMachine.{Open}
use Rattle.mp_ac.specs.Numbered.{numbered_subst, IsTrailOf, LiesOver}
use Rattle.mp_walk.specs.Ways.{HasNoWay, IsFirstWay}
use Rattle.mp_walk.proofs.StepLaws.{step-none, step-taken, frame_at, frame-there, opens-there}
use Rattle.mp_ac.proofs.NumberedLaws.{lies-same}
use Rattle.mp_walk.proofs.steps.step.Goals as goal

pub way_from-requires-clause-frame : goal.way_from-requires-clause-frame
way_from-requires-clause-frame c =
    let fs = c.args.frames.now in
    let h : c.in-Some.place < length fs = subst (IsPlaceBelow (length fs)) c.in-Some.is c.requires.place in
    (c.requires.frames c.in-Some.place (frame_at fs c.in-Some.place) (frame-there fs c.in-Some.place h)).frame

pub way_from-requires-clause-ordered : goal.way_from-requires-clause-ordered
way_from-requires-clause-ordered c =
    let fs = c.args.frames.now in
    let h : c.in-Some.place < length fs = subst (IsPlaceBelow (length fs)) c.in-Some.is c.requires.place in
    (c.requires.frames c.in-Some.place (frame_at fs c.in-Some.place) (frame-there fs c.in-Some.place h)).ordered

pub way_from-requires-clause-spare : goal.way_from-requires-clause-spare
way_from-requires-clause-spare c =
    let t = c.args.set.table.now in
    let fs = c.args.frames.now in
    let f = open_of t (frame_at fs c.in-Some.place) in
    let gs = opens t fs (frame_at fs c.in-Some.place).outer in
    let is = opens-there c.args.set.sig.now t fs c.requires.frames c.args.level.now.place c.in-Some.place c.in-Some.is
    c.requires.place in
    subst (λ (u : Trail). length f.left + 3 ≤ u.spare) (sym c.undo.ensures.trail) (c.requires.spare f gs is)

pub way_from-requires-clause-trail : goal.way_from-requires-clause-trail
way_from-requires-clause-trail c = record {
  goes = c.undo.ensures.goes_with c.args.set.table.now c.requires.trail.goes;
  vars = ap (λ u. u.vars) c.undo.ensures.trail ∙ c.requires.trail.vars;
}

pub returns-in-None-clause-step : goal.returns-in-None-clause-step
returns-in-None-clause-step c =
    let t = c.args.set.table.now in
    let sig = c.args.set.sig.now in
    let k = net_token c.args.token.now in
    let fs = c.args.frames.now in
    let f = open_of t (frame_at fs c.in-Some.place) in
    let gs = opens t fs (frame_at fs c.in-Some.place).outer in
    let is = opens-there sig t fs c.requires.frames c.args.level.now.place c.in-Some.place c.in-Some.is
    c.requires.place in
    step-none sig k (read_of t fs c.args.trail.now c.args.level.now) f gs is
    (ap (λ o. below_ahead o (numbered_subst t (trail_before c.args.trail.now c.args.level.now).stack))
    c.requires.search)
    (subst (λ (u : Trail). HasNoWay sig f gs (numbered_subst t u.stack) k c.args.level.now.next) c.undo.ensures.trail
    (c.in-None.ensures.way gs))

pub returns-in-None-clause-kept : goal.returns-in-None-clause-kept
returns-in-None-clause-kept c =
    let t = c.args.set.table.now in
    let before = trail_before c.args.trail.now c.args.level.now in
    let is : IsTrailOf t before = subst (IsTrailOf t) c.undo.ensures.trail (record {
      goes = c.undo.ensures.goes_with t c.requires.trail.goes;
      vars = ap (λ u. u.vars) c.undo.ensures.trail ∙ c.requires.trail.vars;
    }) in
    subst (LiesOver t 0 before) (sym (c.in-None.ensures.kept ∙ c.undo.ensures.trail)) (lies-same t 0 before is)

pub returns-in-Some-way_from-clause-step : goal.returns-in-Some-way_from-clause-step
returns-in-Some-way_from-clause-step c =
    let t = c.args.set.table.now in
    let sig = c.args.set.sig.now in
    let k = net_token c.args.token.now in
    let fs = c.args.frames.now in
    let l = c.args.level.now in
    let way = c.in-Some-way_from.way in
    let f = open_of t (frame_at fs c.in-Some.place) in
    let gs = opens t fs (frame_at fs c.in-Some.place).outer in
    let u = numbered_subst t c.way_from.new.trail.stack in
    let is = opens-there sig t fs c.requires.frames l.place c.in-Some.place c.in-Some.is c.requires.place in
    let long : length_at l.mark ≡ length c.undo.new.self.stack =
    sym (ap (λ (u : Trail). length u.stack) c.undo.ensures.trail
    ∙ length-take-le (length_at l.mark) c.args.trail.now.stack c.requires.mark) in
    let same : cut (length_at l.mark) c.way_from.new.trail ≡ trail_before c.args.trail.now l =
    ap (λ n. cut n c.way_from.new.trail) long ∙ c.in-Some-way_from.ensures.kept.cut ∙ c.undo.ensures.trail in
    step-taken sig k (read_of t fs c.args.trail.now l) (read_of t fs c.way_from.new.trail (record {
      instr = l.instr;
      ended = l.ended;
      place = l.place;
      frames = l.frames;
      mark = l.mark;
      next = way + 1;
      search = l.search;
    })) f gs way u is (ap (state_of t fs l.place) same)
    (ap (λ o. below_ahead o (numbered_subst t (trail_before c.args.trail.now l).stack)) c.requires.search)
    (ap (λ o. below_ahead o (numbered_subst t (cut (length_at l.mark) c.way_from.new.trail).stack)) c.requires.search)
    (ap below_table c.requires.search) (omega arith)
    (subst (λ (v : Trail). IsFirstWay sig f gs (numbered_subst t v.stack) k l.next way
    (entries_by k f way [], record { open_ones = opens_by k f gs way; trail = u })) c.undo.ensures.trail
    (c.in-Some-way_from.ensures.way gs))

pub returns-in-Some-way_from-clause-valid : goal.returns-in-Some-way_from-clause-valid
returns-in-Some-way_from-clause-valid c truth g hs e =
    let t = c.args.set.table.now in
    let sig = c.args.set.sig.now in
    let k = net_token c.args.token.now in
    let fs = c.args.frames.now in
    let f = open_of t (frame_at fs c.in-Some.place) in
    let gs = opens t fs (frame_at fs c.in-Some.place).outer in
    let is = opens-there sig t fs c.requires.frames c.args.level.now.place c.in-Some.place c.in-Some.is
    c.requires.place in
    let way : c.in-Some-way_from.way ≡ c.in-Some-way_from.way + 1 - 1 = omega arith in
    subst (λ (h : Open). IsWayValid k h (c.in-Some-way_from.way + 1 - 1)) (heads f g gs hs (sym is ∙ e))
    (subst (IsWayValid k f) way c.in-Some-way_from.ensures.valid)
  where
    heads : (f g : Open) (fs gs : List Open) → f ∷ fs ≡ g ∷ gs → f ≡ g
    heads f g fs gs e = cc
