use Rattle.std.proofs.Common.{◌≡◌, ◌+◌, ◌-◌, drop, ◌≤◌, ◌∙◌, length, map, false, ap, sym, subst, arith}
use Rattle.std.specs.Prelude.{MatchResult, slice_get, Some}
use Rattle.std.proofs.lemmas.List.{length-drop, length-take-le}
use Rattle.std.proofs.lemmas.Bool.Decides.{nat_tests}
use Rattle.mp_pattern.specs.View.{pattern_tree}
use Rattle.mp_pattern.proofs.ItemLaws.{slice_get-found}
use Rattle.mp_table.specs.Table.{term_at, terms_at}
use Rattle.mp_theory.specs.Shape.{table_of}
use Rattle.mp_ac.specs.Seek.{picked, picks_table}
use Rattle.mp_ac.proofs.PickedLaws as laws
use Rattle.mp_ac.proofs.pick.+entry_picked.Goals as goal
use Rattle.mp_ac.proofs.pick.+entry_picked.Goals.{in_default-via-then-children-lt1}
use Rattle.mp_ac.proofs.pick.+entry_picked.Goals.{in_default-via-else-children-lt1+then-this-lt1}

pub entry_picked-requires : goal.entry_picked-requires
entry_picked-requires t c =
    let ps = c.args.children.now in
    let ks = c.args.picks.now in
    let m : 1 ≤ length ps = grind (arith, nat_tests) in
    let n : 1 ≤ length ks = grind (arith, nat_tests) in (
      omega (arith, m, length-take-le (length ps - 1) (drop 1 ps) (omega (arith, m, length-drop 1 ps))),
      (
        c.requires.choices,
        (laws.taken-later c.args.table.now c.args.choices.now ps ks c.child-item.result c.pick-item.result m n
            c.child-item.is c.pick-item.is c.requires.taken).1,
      ),
    )

pub returns-in-Ok-clause-entry : goal.returns-in-Ok-clause-entry
returns-in-Ok-clause-entry t c =
    let u = c.args.table.now in
    let cs = c.args.choices.now in
    let ps = c.args.children.now in
    let ks = c.args.picks.now in
    let p = c.child-item.result in
    let k = c.pick-item.result in
    let m : 1 ≤ length ps = grind (arith, nat_tests) in
    let n : 1 ≤ length ks = grind (arith, nat_tests) in
    let own = table_of (pattern_tree p) (term_at u (picked cs k)) in
    let others = picks_table u cs (map pattern_tree (laws.later ps)) (laws.later ks) in
    ap (λ T. slice_get T c.args.node) (laws.table-first u cs ps ks p k m n c.child-item.is c.pick-item.is)
    ∙ slice_get-found own others c.args.node _ c.in-Ok.ensures.entry

pub returns-in-Err-clause-entry : goal.returns-in-Err-clause-entry
returns-in-Err-clause-entry t c =
    let u = c.args.table.now in
    let cs = c.args.choices.now in
    let ps = c.args.children.now in
    let ks = c.args.picks.now in
    let p = c.child-item.result in
    let k = c.pick-item.result in
    let m : 1 ≤ length ps = grind (arith, nat_tests) in
    let n : 1 ≤ length ks = grind (arith, nat_tests) in
    let own = table_of (pattern_tree p) (term_at u (picked cs k)) in
    let others = picks_table u cs (map pattern_tree (laws.later ps)) (laws.later ks) in
    subst (λ T. MatchResult c.entry_picked.result
    (λ rs. slice_get T c.args.node ≡ Some (record { terms = terms_at u rs.now; collapsed = false }))
    (λ left. left + length T ≡ c.args.node)) (sym (laws.table-first u cs ps ks p k m n c.child-item.is c.pick-item.is))
    (laws.entry-behind (λ rs. record { terms = terms_at u rs.now; collapsed = false }) own others c.args.node
    c.in-Err.left c.entry_picked.result c.in-Err.ensures.entry c.entry_picked.ensures.entry)

pub returns-in_default-clause-entry : goal.returns-in_default-clause-entry
returns-in_default-clause-entry t c =
    let none : 1 ≤ length c.args.children.now → 1 ≤ length c.args.picks.now → ⊥ = elim c.in_default.branch [
      | in_default-via-then-children-lt1 w ↦ (λ a b. grind (arith, nat_tests))
      | in_default-via-else-children-lt1+then-this-lt1 w ↦ (λ a b. grind (arith, nat_tests))
    ] in
    omega (
      arith,
      ap (λ T. length T) (laws.table-none c.args.table.now c.args.choices.now c.args.children.now c.args.picks.now
          none),
    )
