use Rattle.std.proofs.Common.{◌≡◌, [], ◌∷◌, take, refl, ap, sym, ◌∙◌, subst}
use Rattle.std.specs.Prelude.{Some, None, is_some, MatchBool}
use Rattle.mp_pattern.specs.NetTokenView.{net_token}
use Rattle.mp_theory.specs.Solve.{given}
use Rattle.mp_search.specs.Frames.{above}
use Rattle.mp_walk.specs.OpenOnes.{open_of}
use Rattle.mp_walk.specs.TokenMachine.{rest_of_open, numbered_wildcard}
use Rattle.mp_ac.specs.Numbered.{numbered_subst}
use Rattle.mp_walk.specs.Trails.{shape_of, number_of, told_by}
use Rattle.mp_walk.specs.Ways.{front_entry, way_steps}
use Rattle.mp_ac.proofs.NumberedLaws.{lies-same}
use Rattle.mp_walk.proofs.WayLaws.{front-terms, wild-none, wild-outcome}
use Rattle.mp_walk.proofs.front.take_exactly.Goals as goal

pub returns-then-not-gives-clause-step : goal.returns-then-not-gives-clause-step
returns-then-not-gives-clause-step c fs =
    let k = net_token c.args.token.now in
    let f = open_of c.args.table.now c.args.frame.now in
    let s = numbered_subst c.args.table.now c.args.trail.now.stack in
    ap (λ j. way_steps c.args.sig.now f fs s j c.args.count) c.requires.wild
    ∙ wild-none c.args.sig.now f fs s (shape_of k) (number_of k) c.args.count
    (ap (λ ts. is_some (given c.args.sig.now (above c.args.frame.now.under) (shape_of k) ts))
    (sym (front-terms c.args.table.now c.args.frame.now.left.now c.args.count f.left refl))
    ∙ sym (c.gives.ensures (shape_of k) (number_of k) c.requires.wild) ∙ c.if-not-gives.true)

pub returns-then-not-gives-clause-kept : goal.returns-then-not-gives-clause-kept
returns-then-not-gives-clause-kept c = lies-same c.args.table.now _ c.args.trail.now c.requires.trail

pub returns-clause-step : goal.returns-clause-step
returns-clause-step c fs =
    let k = net_token c.args.token.now in
    let n = c.args.count in
    let sig = c.args.sig.now in
    let t = c.args.table.now in
    let f = open_of t c.args.frame.now in
    let s = numbered_subst t c.args.trail.now.stack in
    let r = numbered_subst t c.bind.new.trail.stack in
    let w = shape_of k in
    let x = number_of k in
    let same = front-terms t c.args.frame.now.left.now n f.left refl in
    let bound : MatchBool c.bind.result (told_by sig f.under w x (take n f.left) s ≡ Some r)
    (told_by sig f.under w x (take n f.left) s ≡ None) =
    subst (λ ts. MatchBool c.bind.result (told_by sig f.under w x ts s ≡ Some r) (told_by sig f.under w x ts s ≡ None))
    same c.bind.ensures.bound in
    subst (λ j. MatchBool c.bind.result (way_steps sig f fs s j n ≡ (
      front_entry f.left n ∷ [],
      record { open_ones = rest_of_open (numbered_wildcard w x) (front_entry f.left n) f ∷ fs; trail = r },
    ) ∷ []) (way_steps sig f fs s j n ≡ [])) (sym c.requires.wild)
    (wild-outcome sig f fs s w x n c.requires.default c.requires.count
    (ap (λ ts. is_some (given sig (above c.args.frame.now.under) w ts)) (sym same)
    ∙ sym (c.gives.ensures w x c.requires.wild) ∙ c.if-not-gives.false)
    c.requires.open c.bind.result r bound)
