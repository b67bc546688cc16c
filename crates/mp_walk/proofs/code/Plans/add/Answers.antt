use Rattle.std.proofs.Common.{◌∙◌, ◌+◌, refl, ap, sym, subst}
use Rattle.std.specs.Prelude.{None, Some}
use Rattle.mp_pattern.specs.NetTokenView.{net_token}
use Rattle.mp_pattern.specs.View.{pattern_tree}
use Rattle.mp_walk.specs.Code.{IsPlanned}
use Rattle.mp_walk.specs.declared.code.Plans.{Plans}
use Rattle.mp_walk.specs.SoundTokens.{IsSoundToken}
use Rattle.mp_walk.proofs.CodeLaws.{numbered-sound, more-planned, more-unplanned, unplanned}
use Rattle.mp_walk.proofs.code.Plans.add.Goals as goal

pub returns-in_default : goal.returns-in_default
returns-in_default c = λ is i k h.
    more-unplanned c.args.sig.now is i c.args.self.now
    (record { numbers = c.push.new.self; plans = c.args.self.now.plans }) c.in_ok-push.ensures.items refl
    (subst (λ t. IsPlanned c.args.sig.now c.args.self.now.plans t None) (sym k)
    (unplanned c.args.sig.now c.args.self.now.plans c.args.token.now c.in_default.not-Comm)) h

pub add-requires-clause-pattern : goal.add-requires-clause-pattern
add-requires-clause-pattern c = numbered-sound c.args.sig.now (pattern_tree c.in-Comm.pattern)
    (subst (λ k. IsSoundToken c.args.sig.now (net_token k)) c.in-Comm.is c.requires.sound)

pub returns : goal.returns
returns c = λ is i k h.
    let y : Plans = record { numbers = c.push-2.new.self; plans = c.add.new.self } in
    let r = c.in_ok-add.ensures.added.0 in
    more-planned c.args.sig.now is i c.args.self.now y r (c.len-2.result + 1)
    (ap (λ n. n + 1) c.len-2.ensures) c.in_ok-push-2.ensures.items c.in_ok-add.ensures.added.1
    c.in_ok-add.ensures.kept c.in_ok-add.ensures.plans
    (subst (λ t. IsPlanned c.args.sig.now y.plans t (Some r)) (sym (k ∙ ap net_token c.in-Comm.is))
    c.in_ok-add.ensures.added.2) h
