use Rattle.std.proofs.Common.{◌≡◌, length, map, refl, ap, sym, subst, ◌∙◌}
use Rattle.std.proofs.lemmas.List.{length-take-le}
use Rattle.std.proofs.lemmas.Option.{MatchOption-at_none, MatchOption-at_some}
use Rattle.mp_term.specs.Signature.{Sig}
use Rattle.mp_term.specs.Size.{all_nodes}
use Rattle.mp_pattern.specs.PatternTree.{app_pattern, patterns}
use Rattle.mp_pattern.specs.Subpatterns.{subpatterns}
use Rattle.mp_pattern.specs.View.{pattern_tree}
use Rattle.mp_table.specs.Table.{term_at, terms_at}
use Rattle.mp_search.specs.Grounds.{AreGrounds}
use Rattle.mp_ac.specs.Args.{args_of}
use Rattle.mp_ac.specs.Begin.{AreNone, AreParts}
use Rattle.mp_ac.specs.Candidates.{given_terms}
use Rattle.mp_ac.specs.CommPlan.{IsCommPlanOf, nodes_below}
use Rattle.mp_ac.specs.CommRoom.{IsRoomFor}
use Rattle.mp_ac.specs.Planned.{plan_of}
use Rattle.mp_ac.specs.declared.comm_plan.CommPlan.{CommPlan}
use Rattle.mp_ac.proofs.BeginSearch.{begun, front-within, node-given, node-terms, own-comm_plan, whole-cost, whole-list}
use Rattle.mp_ac.proofs.NoneLaws.{none-blocked}
use Rattle.mp_ac.proofs.search.CommSearch.begin.Goals as goal

pub returns-in_default-2-clause-list : goal.returns-in_default-2-clause-list
returns-in_default-2-clause-list c = λ s.
    let t = c.args.table.now in
    let node = c.new-node.result in
    let p = pattern_tree c.args.pattern.now in
    let none : AreNone c.args.sig.now t p (given_terms (term_at t node.node) node.alone) = MatchOption-at_none _
    (λ r. AreParts c.args.sig.now c.args.plans.now p r.0.now (plan_of r.1))
    c.in_default-2.is c.in_ok-numbers.ensures.parts in
    none-blocked c.args.sig.now t p (given_terms (term_at t c.args.node) c.args.alone) c.requires.commutative
    (subst (AreNone c.args.sig.now t p) (node-given t node c.args.node c.args.alone c.new-node.ensures.is) none)
    c.args.alone s

pub room_for-requires-clause-numbers : goal.room_for-requires-clause-numbers
room_for-requires-clause-numbers c =
    let parts : AreParts c.args.sig.now c.args.plans.now (pattern_tree c.args.pattern.now) c.in-Some.numbers.now
    (plan_of c.in-Some.plan) = MatchOption-at_some _
    (λ r. AreParts c.args.sig.now c.args.plans.now (pattern_tree c.args.pattern.now) r.0.now (plan_of r.1)) _
    c.in-Some.is c.in_ok-numbers.ensures.parts in
    (parts.leading, parts.leads)

pub room_for-requires-clause-plan : goal.room_for-requires-clause-plan
room_for-requires-clause-plan c =
    let parts : AreParts c.args.sig.now c.args.plans.now (pattern_tree c.args.pattern.now) c.in-Some.numbers.now
    (plan_of c.in-Some.plan) = MatchOption-at_some _
    (λ r. AreParts c.args.sig.now c.args.plans.now (pattern_tree c.args.pattern.now) r.0.now (plan_of r.1)) _
    c.in-Some.is c.in_ok-numbers.ensures.parts in
    subst (λ (q : CommPlan). (sig : Sig) × IsCommPlanOf sig q.plan.pattern q) (sym c.get.ensures) (
      c.args.sig.now,
      own-comm_plan c.args.sig.now c.args.plans.now (pattern_tree c.args.pattern.now)
          c.in-Some.numbers.now (plan_of c.in-Some.plan) parts,
    )

pub slice_bounds-result-end : goal.slice_bounds-result-end
slice_bounds-result-end c =
    let parts : AreParts c.args.sig.now c.args.plans.now (pattern_tree c.args.pattern.now) c.in-Some.numbers.now
    (plan_of c.in-Some.plan) = MatchOption-at_some _
    (λ r. AreParts c.args.sig.now c.args.plans.now (pattern_tree c.args.pattern.now) r.0.now (plan_of r.1)) _
    c.in-Some.is c.in_ok-numbers.ensures.parts in
    let g = c.in-App.field-0.0 in
    let cs = c.as_slice.result.now in
    let is : pattern_tree c.args.pattern.now ≡ app_pattern g (patterns (map pattern_tree cs)) =
    ap pattern_tree c.in-App.is ∙ ap (λ l. app_pattern g (patterns l)) (sym c.as_slice.ensures) in
    sym (length-take-le (length c.in-Some.numbers.now) cs (front-within c.args.sig.now c.args.plans.now
    (pattern_tree c.args.pattern.now) c.in-Some.numbers.now (plan_of c.in-Some.plan)
    parts cs g is))

pub returns-clause-over : goal.returns-clause-over
returns-clause-over c =
    let parts : AreParts c.args.sig.now c.args.plans.now (pattern_tree c.args.pattern.now) c.in-Some.numbers.now
    (plan_of c.in-Some.plan) = MatchOption-at_some _
    (λ r. AreParts c.args.sig.now c.args.plans.now (pattern_tree c.args.pattern.now) r.0.now (plan_of r.1)) _
    c.in-Some.is c.in_ok-numbers.ensures.parts in
    let g = c.in-App.field-0.0 in
    let cs = c.as_slice.result.now in
    let is : pattern_tree c.args.pattern.now ≡ app_pattern g (patterns (map pattern_tree cs)) =
    ap pattern_tree c.in-App.is ∙ ap (λ l. app_pattern g (patterns l)) (sym c.as_slice.ensures) in
    let t = c.args.table.now in
    let node = c.new-node.ensures in
    let room = c.in_ok-room.ensures in
    let rs = args_of c.new-node.result.args in
    begun _ c.args.plans.now (pattern_tree c.args.pattern.now) c.in-Some.numbers.now c.args.alone
    (term_at t c.args.node) parts cs g is refl
    (node-terms t c.new-node.result c.args.node c.args.alone node.node node.is) refl c.args.trail.now c.requires.pattern
    c.requires.commutative node.table c.requires.normal c.requires.constants node.node.ranks c.requires.given
    (subst (λ (q : CommPlan). IsRoomFor t 0 (nodes_below q.plan.pattern) (all_nodes (terms_at t rs)) c.in_ok-room.room)
    c.get.ensures room.room)
    (subst (λ (q : CommPlan). AreGrounds t (subpatterns q.plan.pattern) c.in_ok-room.room.grounds.list.items.items)
    c.get.ensures room.grounds)
    room.choices room.picks c.requires.trail c.requires.spare

pub returns-clause-list : goal.returns-clause-list
returns-clause-list c = λ s.
    let parts : AreParts c.args.sig.now c.args.plans.now (pattern_tree c.args.pattern.now) c.in-Some.numbers.now
    (plan_of c.in-Some.plan) = MatchOption-at_some _
    (λ r. AreParts c.args.sig.now c.args.plans.now (pattern_tree c.args.pattern.now) r.0.now (plan_of r.1)) _
    c.in-Some.is c.in_ok-numbers.ensures.parts in
    let g = c.in-App.field-0.0 in
    let cs = c.as_slice.result.now in
    let is : pattern_tree c.args.pattern.now ≡ app_pattern g (patterns (map pattern_tree cs)) =
    ap pattern_tree c.in-App.is ∙ ap (λ l. app_pattern g (patterns l)) (sym c.as_slice.ensures) in
    let t = c.args.table.now in
    let node = c.new-node.ensures in
    whole-list c.args.sig.now c.args.plans.now (pattern_tree c.args.pattern.now) c.in-Some.numbers.now
    (plan_of c.in-Some.plan) parts cs g is
    (terms_at t (args_of c.new-node.result.args)) (given_terms (term_at t c.args.node) c.args.alone) c.args.alone s
    (node-terms t c.new-node.result c.args.node c.args.alone node.node node.is)

pub returns-clause-cost : goal.returns-clause-cost
returns-clause-cost c =
    let parts : AreParts c.args.sig.now c.args.plans.now (pattern_tree c.args.pattern.now) c.in-Some.numbers.now
    (plan_of c.in-Some.plan) = MatchOption-at_some _
    (λ r. AreParts c.args.sig.now c.args.plans.now (pattern_tree c.args.pattern.now) r.0.now (plan_of r.1)) _
    c.in-Some.is c.in_ok-numbers.ensures.parts in
    let g = c.in-App.field-0.0 in
    let cs = c.as_slice.result.now in
    let is : pattern_tree c.args.pattern.now ≡ app_pattern g (patterns (map pattern_tree cs)) =
    ap pattern_tree c.in-App.is ∙ ap (λ l. app_pattern g (patterns l)) (sym c.as_slice.ensures) in
    let t = c.args.table.now in
    let node = c.new-node.ensures in
    whole-cost c.args.sig.now c.args.plans.now (pattern_tree c.args.pattern.now) c.in-Some.numbers.now
    (plan_of c.in-Some.plan) parts cs g is
    (terms_at t (args_of c.new-node.result.args)) (given_terms (term_at t c.args.node) c.args.alone)
    (node-terms t c.new-node.result c.args.node c.args.alone node.node node.is)
