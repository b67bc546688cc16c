use Rattle.std.proofs.Common.{◌<◌, ◌∙◌, ◌++◌, [], ◌∷◌, ap, length, map, refl, subst, sym, take, arith}
use Rattle.std.proofs.lemmas.List.{drop_more, length-map, length-take-le, map_more}
use Rattle.std.specs.List.{AllByRecursion}
use Rattle.mp_walk.specs.Code.{ArePlanned}
use Rattle.mp_walk.specs.Instrs as plain
use Rattle.mp_walk.specs.InstrView.{plain_instr}
use Rattle.mp_walk.specs.SoundTokens.{IsSoundToken}
use Rattle.mp_walk.proofs.CodeLaws.{none-planned}
use Rattle.mp_walk.proofs.code.plans_of.Goals as goal

pub loop-instr-init : goal.loop-instr-init
loop-instr-init c = record {
  sound = c.requires;
  planned = none-planned c.args.sig.now (record { numbers = c.in_ok-numbers.numbers; plans = c.new.result })
      c.in_ok-numbers.ensures.items (c.new.ensures.plans c.args.sig.now);
}

pub loop-instr-preserved : goal.loop-instr-preserved
loop-instr-preserved c =
    let sig = c.args.sig.now in
    let code = c.args.instrs.now in
    let n = c.loop-instr.instr-index in
    let i = c.instr-item.result in
    let there : n < length code = c.loop-instr-test.true in
    let before = map plain_instr (take n code) in
    let many = length-map (take n code) plain_instr ∙ length-take-le n code (omega (arith, there)) in
    let more = map_more plain_instr code n i there
    ∙ ap (λ j. before ++ plain_instr j ∷ []) (sym c.instr-item.is) in
    record {
      sound = (subst (λ l. AllByRecursion (λ (j : plain.Instr). IsSoundToken sig j.token) (map plain_instr l))
          (drop_more code n i there) c.loop-instr.invariant.sound).1;
      planned = subst (λ is. ArePlanned sig is c.add.new.self) (sym more)
          (c.in_ok-add.ensures before (plain_instr i) refl c.loop-instr.invariant.planned);
    }
