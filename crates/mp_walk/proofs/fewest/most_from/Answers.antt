use Rattle.std.proofs.Common.{◌≡◌, ◌<◌, ◌+◌, ℕ, List, false, refl, sym, ap, ◌∙◌, subst, arith}
use Rattle.std.specs.Prelude.{Option, Some, None, is_some, option_map}
use Rattle.mp_pattern.specs.NetTokenView.{net_token}
use Rattle.mp_search.specs.Frames.{above}
use Rattle.mp_walk.specs.Instrs as plain
use Rattle.mp_term.specs.Signature.{Sig}
use Rattle.mp_walk.specs.Instrs.{instr_at}
use Rattle.mp_walk.specs.Walkable.{IsWalkable}
use Rattle.mp_walk.specs.InstrView.{plain_instr}
use Rattle.mp_walk.specs.Most.{TakeAtMost}
use Rattle.mp_walk.proofs.CodePaths.{down-target, number-within}
use Rattle.mp_walk.proofs.MostLaws.{leave-most, none-most, token-most}
use Rattle.mp_walk.proofs.fewest.most_from.Invariants.{behind}
use Rattle.mp_walk.proofs.fewest.most_from.Goals as goal
use Rattle.mp_walk.proofs.fewest.most_from.Goals.{After-is_some}

-- the instruction of the target is there
held : (c : After-is_some)
    → instr_at c.args.set.code.now.instrs c.in-Some.number ≡ Some (plain_instr c.in_ok-instr.instr.now)
held c = c.instr.ensures ∙ ap (option_map (λ j. plain_instr j.now)) c.in_ok-instr.was

none : (o : Option ℕ) → is_some o ≡ false → o ≡ None
none None e = refl
none (Some n) e = cc

-- nothing stands beside it
alone : (c : After-is_some) → c.is_some.result ≡ false → (plain_instr c.in_ok-instr.instr.now).over ≡ None
alone c e = none c.in_ok-instr.instr.now.over (sym c.is_some.ensures ∙ e)

pub returns-in-Leave : goal.returns-in-Leave
returns-in-Leave c =
    let sig = c.args.set.sig.now in
    let code = c.args.set.code.now.instrs in
    let u = above c.args.under in
    let known = (goal.at.returns-in-Leave c).After-is_some in
    subst (λ n. TakeAtMost sig code u c.args.first n)
    (let z : c.loop-target.most + 0 ≡ c.loop-target.most = omega arith in z)
    (c.loop-target.invariant.most 0 (subst (λ o. TakeAtMost sig code u o 0) (sym c.in-Some.is)
    (leave-most sig code c.requires.setting.walkable u c.requires.ordered c.in-Some.number
    (plain_instr c.in_ok-instr.instr.now) (held known) (alone known c.if-is_some.false) c.in-Leave.field-0.0
    (ap net_token c.in-Leave.is))))

-- fewer instructions stand from the target behind on
down-behind : (sig : Sig) (code : List plain.Instr) → IsWalkable sig code → (n : ℕ) (i : plain.Instr)
    → instr_at code n ≡ Some i → behind code i.down < behind code (Some n)
down-behind sig code W n i at = by_down i.down refl
  where
    by_down : (o : Option ℕ) → i.down ≡ o → behind code o < behind code (Some n)
    by_down None e = (let h = (number-within code n i at).1 in omega (arith, h))
    by_down (Some t) e = (let h = W.forward n t i at (down-target i t e) in omega (arith, h.0, h.1))

pub loop-target-smaller : goal.loop-target-smaller
loop-target-smaller c =
    let code = c.args.set.code.now.instrs in
    let known = (goal.at.loop-target-smaller c).After-is_some in
    subst (λ o. behind code c.in_ok-instr.instr.now.down < behind code o) (sym c.in-Some.is)
    (down-behind c.args.set.sig.now code c.requires.setting.walkable c.in-Some.number
    (plain_instr c.in_ok-instr.instr.now) (held known))

pub loop-target-preserved : goal.loop-target-preserved
loop-target-preserved c =
    let sig = c.args.set.sig.now in
    let code = c.args.set.code.now.instrs in
    let u = above c.args.under in
    let known = (goal.at.loop-target-preserved c).After-is_some in
    let same = c.in_ok-most.ensures in
    record {
      most = λ n h.
          subst (λ m. TakeAtMost sig code u c.args.first m)
          (let z : c.loop-target.most + (c.in_ok-taken.taken + n) ≡ c.in_ok-most.most + n = omega (arith, same.1) in z)
          (c.loop-target.invariant.most (c.in_ok-taken.taken + n)
          (subst (λ o. TakeAtMost sig code u o (c.in_ok-taken.taken + n)) (sym c.in-Some.is)
          (token-most sig code c.requires.setting.walkable u c.requires.ordered c.in-Some.number
          (plain_instr c.in_ok-instr.instr.now) (held known) (alone known c.if-is_some.false) c.in_ok-taken.taken n
          c.in_ok-taken.ensures h)));
    }

pub returns : goal.returns
returns c =
    let sig = c.args.set.sig.now in
    let code = c.args.set.code.now.instrs in
    let u = above c.args.under in
    subst (λ n. TakeAtMost sig code u c.args.first n)
    (let z : c.loop-target.most + 0 ≡ c.loop-target.most = omega arith in z)
    (c.loop-target.invariant.most 0 (subst (λ o. TakeAtMost sig code u o 0) (sym c.in_default.is)
    (none-most sig code c.requires.setting.walkable u c.requires.ordered)))
