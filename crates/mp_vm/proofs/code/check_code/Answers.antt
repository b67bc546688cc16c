use Rattle.std.proofs.Common.{[], suc, map, length, reverse, refl, ap, sym, inl, subst, ◌∙◌, arith, append-nil}
use Rattle.std.specs.Prelude.{option_to_list}
use Rattle.std.proofs.lemmas.List.{length-map}
use Rattle.mp_term.specs.Listing.{In}
use Rattle.mp_walk.specs.InstrView.{plain_instr}
use Rattle.mp_program.specs.FormFaults.{target_faults, code_faults}
use Rattle.mp_program.specs.Leads.{lead}
use Rattle.mp_vm.specs.Checked.{Checks}
use Rattle.mp_vm.proofs.CheckedLaws.{checks-behind}
use Rattle.mp_vm.proofs.CodeLaws.{ways-first, behind-all, most-few, gathered-top}
use Rattle.mp_vm.proofs.LeadLaws.{target-bounds}
use Rattle.mp_vm.proofs.TrailLaws.{trail-of}
use Rattle.mp_vm.specs.declared.code.Setting.{Setting}
use Rattle.mp_vm.proofs.code.check_code.Goals as goal

pub returns : goal.returns
returns c =
    let sig = c.args.sig.now in
    let tests = c.args.tests.now in
    let rules = c.args.rules.now in
    let count = length c.args.code.now in
    let code = map plain_instr c.args.code.now in
    let ls = lead [] c.args.begin in
    let none = ap (target_faults (suc count) c.args.line 0) (sym (append-nil (option_to_list c.args.begin)))
    ∙ c.in_ok-check_targets.ensures in
    let ways = ways-first sig c.most_nodes.result code c.in_ok-ways.ways.ways.items c.lead.new.self.ways.items
    c.args.begin (c.in_ok-ways.ensures.count ∙ sym (length-map c.args.code.now plain_instr)) c.in_ok-ways.ensures.none
    c.lead.ensures.count c.lead.ensures.led c.lead.ensures.others
    (λ t e. (target-bounds (suc count) c.args.line 0 (option_to_list c.args.begin) none t
    (subst (λ o. In t (option_to_list o)) (sym e) (inl refl))).0) in
    let set : Setting = record {
      sig = c.args.sig;
      most = c.most_nodes.result;
      code = c.args.code;
      needs = c.in_ok-needs.needs;
    } in
    checks-behind _ _ c.check_instrs.result none
    (subst (λ l. Checks l c.check_instrs.result)
    (behind-all sig c.most_nodes.result tests rules c.args.code.now c.args.line ls
    ∙ ap (λ m. code_faults sig m tests rules (suc count) (suc c.args.line) 1 ls code) c.most_nodes.ensures)
    (c.check_instrs.ensures tests rules ls
    (record { needs = c.in_ok-needs.ensures; most = omega (arith, c.most_nodes.ensures, most-few c.args.format) })
    ways
    (trail-of set c.lead.new.self.ways.items c.new-2.result 0 [] c.new-2.result.known c.new-2.ensures.at
    (ap reverse c.new-2.ensures.steps) refl
    (gathered-top set c.lead.new.self.ways.items c.new-2.result.known
    (c.new-2.ensures.known sig c.most_nodes.result) c.new-2.ensures.open))))
