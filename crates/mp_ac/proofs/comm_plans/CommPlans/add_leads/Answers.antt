use Rattle.std.proofs.Common.{◌≡◌, ◌-◌, ◌∷◌, take, drop, length, map, ap, sym, subst}
use Rattle.std.proofs.lemmas.Result.{on_ok_weaker}
use Rattle.mp_pattern.specs.View.{pattern_tree}
use Rattle.mp_search.proofs.PartLaws.{first-item}
use Rattle.mp_ac.specs.CommPlans.{AreAdded}
use Rattle.mp_ac.proofs.PreparedLaws.{added-behind}
use Rattle.mp_ac.proofs.comm_plans.CommPlans.add_leads.Goals as goal

pub returns : goal.returns
returns c = on_ok_weaker c.add_from.result (λ rest.
    let fresh = c.in_ok-number.ensures in
    let list = c.args.children.now in
    let first = c.first-item.result in
    let split : list ≡ first ∷ take (length list - 1) (drop 1 list) =
    first-item list first c.in-len1-up.len_at_least c.first-item.is in
    subst (AreAdded c.args.self.now c.add_from.new.self) (sym (ap (map pattern_tree) split))
    (added-behind c.args.self.now c.number.new.self c.add_from.new.self fresh.children.0 _ fresh.children.1
    fresh.leads fresh.numbers fresh.tails fresh.list
    (rest (pattern_tree first) fresh.number))) c.add_from.ensures
