use Rattle.std.proofs.Common.{◌≡◌, ℕ, ◌<◌, ◌∷◌, ◌++◌, [], suc, map, length, reverse, ap, sym, subst, ◌∙◌, arith}
use Rattle.std.proofs.lemmas.List.{length-map, reverse-append}
use Rattle.mp_term.specs.Listing.{In}
use Rattle.mp_walk.specs.Instrs.{targets}
use Rattle.mp_walk.specs.InstrView.{plain_instr}
use Rattle.mp_walk.proofs.CodePaths.{number-within}
use Rattle.mp_program.specs.FormFaults.{target_faults, way_faults}
use Rattle.mp_program.specs.Leads.{befores}
use Rattle.mp_program.specs.Reading.{first_fault}
use Rattle.mp_vm.specs.Known.{IsGathered, IsBack}
use Rattle.mp_vm.specs.SettingView.{faults_of_instr, HasGathered}
use Rattle.mp_vm.specs.TrailView.{HasSteps}
use Rattle.mp_vm.specs.WayView.{way_at, IsWayTo}
use Rattle.mp_vm.specs.declared.above.Above.{Above}
use Rattle.mp_vm.proofs.AboveLaws.{good-begin}
use Rattle.mp_vm.proofs.CheckedLaws.{first_fault-behind}
use Rattle.mp_vm.proofs.CodeLaws.{wrong-ways, one-way, faultless-good, ways-behind, above-before, above-behind}
use Rattle.mp_vm.proofs.CodeLaws.{checks-err}
use Rattle.mp_vm.proofs.LeadLaws.{target-bounds}
use Rattle.mp_vm.proofs.TrailLaws.{back-same, steps-same, steps-onward, trail-of, trail-gathered}
use Rattle.mp_vm.proofs.code.Setting.check_instr.Goals as goal

pub returns-in_default-clause-faults : goal.returns-in_default-clause-faults
returns-in_default-clause-faults c = λ tests rules ls done set h g e at other.
    let s = c.args.self.now in
    let i = plain_instr c.args.instr.now in
    let ws = c.args.progress.now.ways.ways.items in
    let code = map plain_instr s.code.now in
    let stop : suc (length s.code.now) ≡ suc (length code) = ap suc (sym (length-map s.code.now plain_instr)) in
    let targets = ap (λ m. target_faults m c.args.line c.args.number (targets i)) (sym stop)
    ∙ c.in_ok-check_targets.ensures in
    let range = number-within code c.args.number i at in
    let none = wrong-ways s.sig.now s.most tests rules (suc (length code)) c.args.line i code ls done ws c.args.number
    (way_at ws c.args.number) c.in_default.ensures (h.ways c.args.number range.0 range.1) in
    first_fault-behind _ _ targets ∙ ap first_fault none

pub returns-in_err-check_known-clause-faults : goal.returns-in_err-check_known-clause-faults
returns-in_err-check_known-clause-faults c = λ tests rules ls done set h g e at.
    let s = c.args.self.now in
    let i = plain_instr c.args.instr.now in
    let ws = c.args.progress.now.ways.ways.items in
    let code = map plain_instr s.code.now in
    let stop : suc (length s.code.now) ≡ suc (length code) = ap suc (sym (length-map s.code.now plain_instr)) in
    let targets = ap (λ m. target_faults m c.args.line c.args.number (targets i)) (sym stop)
    ∙ c.in_ok-check_targets.ensures in
    let range = number-within code c.args.number i at in
    let led = subst (IsWayTo s.sig.now s.most code ls done ws c.args.number) c.in-Some.ensures
    (h.ways c.args.number range.0 range.1) in
    let gathered = trail-gathered s ws c.go_to.new.trail c.in-Some.above c.in_ok-go_to.ensures.at
    (c.in_ok-go_to.ensures.trail g) in
    let known = gathered led.tokens led.are led.good in
    let path = c.in_err-check_known.ensures.faults tests rules (reverse led.tokens) set known in
    let way = one-way s.sig.now s.most tests rules (suc (length code)) c.args.line i (befores ls c.args.number)
    (reverse led.tokens) led.only in
    checks-err (faults_of_instr tests rules s c.args.line c.args.number ls i) c.in_err-check_known.field-0.0 _
    c.from_residual-in_err-check_known.ensures.1
    (λ other. first_fault-behind _ _ targets ∙ ap first_fault way ∙ path other)

pub returns-clause-faults : goal.returns-clause-faults
returns-clause-faults c = λ tests rules ls done set h g e at.
    let s = c.args.self.now in
    let i = plain_instr c.args.instr.now in
    let ws = c.args.progress.now.ways.ways.items in
    let code = map plain_instr s.code.now in
    let stop : suc (length s.code.now) ≡ suc (length code) = ap suc (sym (length-map s.code.now plain_instr)) in
    let targets = ap (λ m. target_faults m c.args.line c.args.number (targets i)) (sym stop)
    ∙ c.in_ok-check_targets.ensures in
    let range = number-within code c.args.number i at in
    let led = subst (IsWayTo s.sig.now s.most code ls done ws c.args.number) c.in-Some.ensures
    (h.ways c.args.number range.0 range.1) in
    let gathered = trail-gathered s ws c.go_to.new.trail c.in-Some.above c.in_ok-go_to.ensures.at
    (c.in_ok-go_to.ensures.trail g) in
    let known = gathered led.tokens led.are led.good in
    let path = c.in_ok-check_known.ensures.faults tests rules (reverse led.tokens) set known in
    let way = one-way s.sig.now s.most tests rules (suc (length code)) c.args.line i (befores ls c.args.number)
    (reverse led.tokens) led.only in
    ap (λ fs. fs ++ way_faults s.sig.now s.most tests rules (suc (length code)) c.args.line
    (befores ls c.args.number) i) targets ∙ way ∙ path

pub returns-clause-ways : goal.returns-clause-ways
returns-clause-ways c = λ tests rules ls done set h g e at.
    let s = c.args.self.now in
    let i = plain_instr c.args.instr.now in
    let ws = c.args.progress.now.ways.ways.items in
    let code = map plain_instr s.code.now in
    let range = number-within code c.args.number i at in
    let led = subst (IsWayTo s.sig.now s.most code ls done ws c.args.number) c.in-Some.ensures
    (h.ways c.args.number range.0 range.1) in
    let gathered = trail-gathered s ws c.go_to.new.trail c.in-Some.above c.in_ok-go_to.ensures.at
    (c.in_ok-go_to.ensures.trail g) in
    let known = gathered led.tokens led.are led.good in
    let path = c.in_ok-check_known.ensures.faults tests rules (reverse led.tokens) set known in
    let good = faultless-good s.sig.now s.most tests rules (suc (length code)) c.args.line
    (reverse led.tokens ++ i.token ∷ []) i path in
    ways-behind s.sig.now s.most code ls done ws c.args.number c.in-Some.above i h e at c.in-Some.ensures led good
    (λ t j. (target-bounds (suc (length s.code.now)) c.args.line c.args.number (targets i)
    c.in_ok-check_targets.ensures t j).0)
    c.lead.new.self.ways.items c.lead-2.new.self.ways.items c.lead.ensures.count c.lead.ensures.led
    c.lead.ensures.others c.lead-2.ensures.count c.lead-2.ensures.led c.lead-2.ensures.others

pub returns-clause-trail : goal.returns-clause-trail
returns-clause-trail c = λ tests rules ls done set h g e at.
    let s = c.args.self.now in
    let i = plain_instr c.args.instr.now in
    let n = c.args.number in
    let ws = c.args.progress.now.ways.ways.items in
    let ys = c.lead.new.self.ways.items in
    let zs = c.lead-2.new.self.ways.items in
    let code = map plain_instr s.code.now in
    let range = number-within code n i at in
    let led = subst (IsWayTo s.sig.now s.most code ls done ws n) c.in-Some.ensures (h.ways n range.0 range.1) in
    let bounds : (t : ℕ) → In t (targets i) → n < t = λ t j.
    (target-bounds (suc (length s.code.now)) c.args.line n (targets i) c.in_ok-check_targets.ensures t j).0 in
    let trail = c.go_to.new.trail in
    let steps = reverse trail.steps.items in
    let z = c.check_known.new.known in
    let has = c.in_ok-go_to.ensures.trail g in
    let gathered = trail-gathered s ws trail c.in-Some.above c.in_ok-go_to.ensures.at has in
    let here : HasGathered s zs n z = λ ks are good.
    (let b = above-behind code ws ys zs n i bounds c.lead.ensures.others c.lead-2.ensures.others c.in-Some.above at
    c.in-Some.ensures ks are in
    let whole : reverse ks ≡ reverse b.0 ++ i.token ∷ [] = ap reverse b.2 ∙ reverse-append (i.token ∷ []) b.0 in
    let begun = good-begin s.sig.now s.most (reverse ks) good (reverse b.0) (i.token ∷ []) (sym whole) in
    subst (IsGathered s.sig.now s.most z) (sym whole)
    (c.in_ok-check_known.ensures.gathered (reverse b.0) (gathered b.0 b.1 begun))) in
    let less : trail.at < n = omega (arith, led.checked, e, c.in_ok-go_to.ensures.at) in
    let back : (y : Above) → IsBack c.before-before.result z y → HasSteps s zs trail.at steps y = λ y b.
    steps-same s zs trail.at steps trail.known y
    (back-same i.token trail.known z y c.before-before.result c.before-before.ensures
    c.in_ok-check_known.ensures.more b)
    (steps-onward s ws zs n (above-before code ws ys zs n i bounds c.lead.ensures.others c.lead-2.ensures.others)
    trail.at steps trail.known (omega (arith, less)) has) in
    trail-of s zs c.step.new.self n (record { above = trail.at; before = c.before-before.result } ∷ steps) z
    c.in_ok-step.ensures.at c.in_ok-step.ensures.steps c.in_ok-step.ensures.known (here, less, back)
