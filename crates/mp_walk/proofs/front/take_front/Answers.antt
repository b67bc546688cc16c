use Rattle.std.proofs.Common.{◌≡◌, ◌<◌, [], ◌∷◌, Bool, true, false, refl, ap, sym, ◌∙◌, subst}
use Rattle.std.proofs.Common.{arith}
use Rattle.std.proofs.Common.{inl, inr}
use Rattle.std.specs.Prelude.{MatchBool}
use Rattle.std.proofs.lemmas.Bool.Decides.{nat_tests}
use Rattle.mp_pattern.specs.NetTokenView.{net_token}
use Rattle.mp_walk.specs.OpenOnes.{open_of}
use Rattle.mp_walk.specs.TokenMachine.{rest_of_open, numbered_wildcard}
use Rattle.mp_ac.specs.Numbered.{numbered_subst}
use Rattle.mp_walk.specs.Trails.{shape_of, number_of}
use Rattle.mp_walk.specs.Ways.{front_entry, way_steps}
use Rattle.mp_walk.proofs.ListLaws.{below_or_at}
use Rattle.mp_walk.proofs.WayLaws.{wild-collapsed}
use Rattle.mp_walk.proofs.front.take_front.Goals as goal
use Rattle.mp_term.proofs.TestLaws.{below_or_not}

pub returns-then-is_barred-clause-way : goal.returns-then-is_barred-clause-way
returns-then-is_barred-clause-way c fs n l =
    let k = net_token c.args.token.now in
    let f = open_of c.args.table.now c.args.frame.now in
    let s = numbered_subst c.args.table.now c.args.trail.now.stack in
    ap (λ j. way_steps c.args.sig.now f fs s j n) c.requires.wild
    ∙ wild-collapsed c.args.sig.now f fs s (shape_of k) (number_of k)
    (sym (c.is_barred.ensures c.args.table.now) ∙ c.if-is_barred.true) n

pub take_exactly-requires-clause-open : goal.take_exactly-requires-clause-open
take_exactly-requires-clause-open c = sym (c.is_barred.ensures c.args.table.now) ∙ c.if-is_barred.false

pub loop-count-init : goal.loop-count-init
loop-count-init c =
    record {
      trail = refl;
      onward = c.greater-count.ensures.first;
      earlier = λ fs n l h. c.bounds-fewest.ensures.fewest fs n (c.greater-count.ensures.either n l h);
    }

-- a front that isn't taken
refused : (b : Bool) (A B : Type 0) → b ≡ false → MatchBool b A B → B
refused true A B e m = cc
refused false A B e m = m

pub loop-count-preserved : goal.loop-count-preserved
loop-count-preserved c =
    let k = net_token c.args.token.now in
    let sig = c.args.sig.now in
    let t = c.args.table.now in
    let f = open_of t c.args.frame.now in
    let same = c.take_exactly.ensures.refused c.if-take_exactly.false in
    record {
      trail = same ∙ c.loop-count.invariant.trail;
      onward = omega (arith, c.loop-count.invariant.onward);
      earlier = λ fs n l h. subst (λ u. way_steps sig f fs (numbered_subst t u.stack) k n ≡ []) (sym same)
          (elim (below_or_at n c.loop-count.count h) [
            | inl less ↦ c.loop-count.invariant.earlier fs n l less
            | inr is ↦ subst (λ m. way_steps sig f fs (numbered_subst t c.loop-count.trail.stack) k m ≡ []) (sym is)
                (refused c.take_exactly.result
                (way_steps sig f fs (numbered_subst t c.loop-count.trail.stack) k c.loop-count.count ≡ (
                  front_entry f.left c.loop-count.count ∷ [],
                  record {
                    open_ones = rest_of_open (numbered_wildcard (shape_of k) (number_of k))
                        (front_entry f.left c.loop-count.count) f ∷ fs;
                    trail = numbered_subst t c.take_exactly.new.trail.stack;
                  },
                ) ∷ [])
                (way_steps sig f fs (numbered_subst t c.loop-count.trail.stack) k c.loop-count.count ≡ [])
                c.if-take_exactly.false (c.take_exactly.ensures.step fs))
          ]);
    }

pub returns-clause-way : goal.returns-clause-way
returns-clause-way c fs n l =
    let k = net_token c.args.token.now in
    let sig = c.args.sig.now in
    let t = c.args.table.now in
    let f = open_of t c.args.frame.now in
    let s = numbered_subst t c.args.trail.now.stack in
    elim (below_or_not n c.loop-count.count) [
      | inl h ↦ subst (λ u. way_steps sig f fs (numbered_subst t u.stack) k n ≡ []) c.loop-count.invariant.trail
          (c.loop-count.invariant.earlier fs n l h)
      | inr h ↦ let less : c.bounds-fewest.result.1 < c.loop-count.count =
          grind (arith, nat_tests, c.loop-count-test.false) in
          c.bounds-fewest.ensures.longest fs n (omega arith)
    ]
