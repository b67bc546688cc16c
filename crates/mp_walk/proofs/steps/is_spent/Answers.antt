use Rattle.std.proofs.Common.{◌<◌, length, sym, ◌∙◌, subst}
use Rattle.mp_pattern.specs.NetTokenView.{net_token}
use Rattle.mp_walk.specs.OpenOnes.{IsPlaceBelow, open_of, opens}
use Rattle.mp_walk.specs.Ways.{HasNoWay}
use Rattle.mp_walk.proofs.StepLaws.{step-none, frame_at, frame-there, opens-there}
use Rattle.mp_walk.proofs.steps.is_spent.Goals as goal

pub has_no_way-requires : goal.has_no_way-requires
has_no_way-requires c =
    let fs = c.args.frames.now in
    let h : c.in-Some.place < length fs = subst (IsPlaceBelow (length fs)) c.in-Some.is c.requires.place in
    record {
      frame = (c.requires.frames c.in-Some.place (frame_at fs c.in-Some.place)
          (frame-there fs c.in-Some.place h)).frame;
    }

pub returns-in-Some-clause-none : goal.returns-in-Some-clause-none
returns-in-Some-clause-none c h l at next ahead =
    let sig = c.args.set.sig.now in
    let t = c.args.set.table.now in
    let fs = c.args.frames.now in
    let k = net_token c.args.token.now in
    let f = open_of t (frame_at fs c.in-Some.place) in
    let gs = opens t fs (frame_at fs c.in-Some.place).outer in
    let is = opens-there sig t fs c.requires.frames c.args.place c.in-Some.place c.in-Some.is c.requires.place in
    step-none sig k l f gs (at ∙ is) ahead
    (subst (HasNoWay sig f gs l.state.trail k) (sym next) (c.has_no_way.ensures.none h gs l.state.trail))
