use Rattle.std.proofs.Common.{◌≡◌, ◌-◌, ◌∷◌, Some, take, drop, length, map, refl, ap, sym, subst, arith}
use Rattle.std.specs.Prelude.{option_map, slice_get}
use Rattle.std.proofs.lemmas.Result.{on_ok_weaker}
use Rattle.mp_pattern.specs.View.{pattern_tree}
use Rattle.mp_search.proofs.PartLaws.{first-item}
use Rattle.mp_ac.specs.CommPlans.{AreAdded}
use Rattle.mp_ac.specs.declared.comm_plans.Lead.{Lead}
use Rattle.mp_ac.proofs.PreparedLaws.{added-before, added-behind, child_at-more}
use Rattle.mp_ac.proofs.comm_plans.CommPlans.+add_from.Goals as goal

pub add_from-requires : goal.add_from-requires
add_from-requires t c =
    let list = c.args.later.now in
    let first = c.first-item.result in
    let split : list ≡ first ∷ take (length list - 1) (drop 1 list) =
    first-item list first c.in-len1-up.len_at_least c.first-item.is in
    (omega (arith, c.decreases, ap length split), tt)

pub returns : goal.returns
returns t c = on_ok_weaker c.add_from.result (λ rest p found.
    let old = c.args.self.now in
    let numbered = c.number.new.self in
    let new = c.add_from.new.self in
    let number = c.in_ok-number.number in
    let lead : Lead = record { child = c.args.child; next = Some number } in
    let fresh = c.in_ok-number.ensures in
    let its = c.in_ok-add_lead.ensures in
    let cs = fresh.children.0 in
    let list = c.args.later.now in
    let first = c.first-item.result in
    let q = pattern_tree first in
    let split : list ≡ first ∷ take (length list - 1) (drop 1 list) =
    first-item list first c.in-len1-up.len_at_least c.first-item.is in
    subst (λ ps. AreAdded old new (p ∷ ps)) (sym (ap (map pattern_tree) split))
    (added-behind old numbered new cs _ fresh.children.1 fresh.leads fresh.numbers fresh.tails fresh.list
    (added-before numbered c.add_lead-2.new.self new its.leads.0 its.numbers.0 number lead p q _ its.children
    its.leads.1 its.numbers.1 its.tails its.list its.numbers.2
    (child_at-more old numbered cs c.args.child p fresh.children.1 found) refl fresh.number
    (rest q (subst (λ v. option_map pattern_tree (slice_get v.items number) ≡ Some q) (sym its.children)
    fresh.number))))) c.add_from.ensures
