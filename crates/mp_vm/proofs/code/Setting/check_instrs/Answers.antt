use Rattle.std.proofs.Common.{◌≡◌, ◌+◌, suc, map, length, refl, ap, sym, subst, ◌∙◌, arith}
use Rattle.std.specs.Prelude.{Some, option_map, slice_get}
use Rattle.std.proofs.lemmas.List.{length-map}
use Rattle.std.proofs.lemmas.Option.{slice_get-map, slice_get_read}
use Rattle.mp_walk.specs.Instrs.{instr_at}
use Rattle.mp_walk.specs.InstrView.{plain_instr}
use Rattle.mp_program.specs.Leads.{leads_after}
use Rattle.mp_program.specs.Reading.{first_fault}
use Rattle.mp_vm.specs.SettingView.{HasWays, faults_behind}
use Rattle.mp_vm.proofs.CodeLaws.{behind-next, behind-first, behind-last, checks-err}
use Rattle.mp_vm.proofs.code.Setting.check_instrs.Goals as goal

pub returns-in_err-check_instr : goal.returns-in_err-check_instr
returns-in_err-check_instr c = λ tests rules ls set h g.
    let s = c.args.self.now in
    let code = s.code.now in
    let index = c.loop-instr.instr-index in
    let n = c.loop-instr.number + 1 in
    let i = plain_instr c.instr-item.result in
    let p = c.loop-instr.invariant.passed tests rules ls set h g in
    let number : n ≡ suc index = omega (arith, c.loop-instr.invariant.number) in
    let at : slice_get (map plain_instr code) index ≡ Some i =
    slice_get-map plain_instr code index ∙ ap (option_map plain_instr)
    (slice_get_read code (length code) index c.instr-item.result refl c.loop-instr-test.true c.instr-item.is) in
    let faults = c.in_err-check_instr.ensures.faults tests rules p.0 index set p.1 p.2 number
    (ap (instr_at (map plain_instr code)) number ∙ at) in
    checks-err (faults_behind tests rules s c.args.line 0 ls) c.in_err-check_instr.field-0.0 _ c.from_residual.ensures.1
    (λ other. ap first_fault (sym p.3)
    ∙ behind-first tests rules s c.args.line index p.0 n i c.in_err-check_instr.field-0.0 number at (faults other))

pub loop-instr-preserved : goal.loop-instr-preserved
loop-instr-preserved c = record {
  number = omega (arith, c.loop-instr.invariant.number);
  passed = λ tests rules ls set h g.
      let s = c.args.self.now in
      let code = s.code.now in
      let index = c.loop-instr.instr-index in
      let n = c.loop-instr.number + 1 in
      let i = plain_instr c.instr-item.result in
      let p = c.loop-instr.invariant.passed tests rules ls set h g in
      let number : n ≡ suc index = omega (arith, c.loop-instr.invariant.number) in
      let next : n ≡ index + 1 = omega (arith, c.loop-instr.invariant.number) in
      let at : slice_get (map plain_instr code) index ≡ Some i =
      slice_get-map plain_instr code index ∙ ap (option_map plain_instr)
      (slice_get_read code (length code) index c.instr-item.result refl c.loop-instr-test.true c.instr-item.is) in
      let held = ap (instr_at (map plain_instr code)) number ∙ at in
      let faults = c.in_ok-check_instr.ensures.faults tests rules p.0 index set p.1 p.2 number held in
      let ways = c.in_ok-check_instr.ensures.ways tests rules p.0 index set p.1 p.2 number held in
      let trail = c.in_ok-check_instr.ensures.trail tests rules p.0 index set p.1 p.2 number held in (
        leads_after p.0 n i,
        subst (λ m. HasWays tests rules s (leads_after p.0 n i) m c.check_instr.new.progress.ways.ways.items) next ways,
        trail,
        ap (λ m. faults_behind tests rules s c.args.line m (leads_after p.0 n i)) (sym next)
            ∙ behind-next tests rules s c.args.line index p.0 n i number at faults ∙ p.3,
      );
}

pub returns : goal.returns
returns c = λ tests rules ls set h g.
    let s = c.args.self.now in
    let p = c.loop-instr.invariant.passed tests rules ls set h g in
    sym p.3 ∙ behind-last tests rules s c.args.line c.loop-instr.instr-index p.0
    (omega (arith, c.loop-instr-test.false, length-map s.code.now plain_instr))
