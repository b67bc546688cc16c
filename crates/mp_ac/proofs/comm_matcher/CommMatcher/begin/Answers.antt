use Rattle.std.proofs.Common.{◌≡◌, ◌≤◌, ◌+◌, ◌*◌, ◌∙◌, length, map, false, refl, ap, sym, subst, arith}
use Rattle.mp_term.specs.Size.{all_nodes}
use Rattle.mp_pattern.specs.PatternTree.{app_pattern}
use Rattle.mp_pattern.specs.Plan.{Plan, Variable, IsPlanOf}
use Rattle.mp_pattern.specs.Size.{all_pattern_nodes}
use Rattle.mp_pattern.specs.Subpatterns.{subpatterns}
use Rattle.mp_table.specs.Table.{HasRanks, terms_at}
use Rattle.mp_search.specs.Grounds.{AreGrounds}
use Rattle.mp_ac.specs.declared.comm_matcher.CommMatcher.{CommMatcher}
use Rattle.mp_ac.specs.Children.{AreArguments}
use Rattle.mp_ac.specs.CommItems.{AreCommItems}
use Rattle.mp_ac.specs.CommList.{comm_list}
use Rattle.mp_ac.specs.Matcher.{number_among, read_trail, to_come}
use Rattle.mp_search.specs.declared.stage.Stage.TheVariants.{Before}
use Rattle.mp_ac.proofs.BeginLaws as laws
use Rattle.mp_ac.proofs.PlanNodes.{plan-nodes_below}
use Rattle.mp_ac.proofs.SearchLaws.{count-subpatterns}
use Rattle.mp_search.proofs.GroundsHeld.{grounds-held}
use Rattle.mp_ac.proofs.comm_matcher.CommMatcher.begin.Goals as goal

pub overflow_sub-len : goal.overflow_sub-len
overflow_sub-len c =
    let n = c.requires.node in
    let p = c.in_ok-own.ensures n.op n.children n.is in
    let k = plan-nodes_below c.args.sig.now (app_pattern n.op n.children) c.in_ok-own.own p
    (record { op = n.op; children = n.children; is = refl }) in
    omega (arith, k, c.len.ensures.count)

pub fill-requires : goal.fill-requires
fill-requires c =
    let n = c.requires.node in
    let q = app_pattern n.op n.children in
    let p = c.in_ok-own.ensures n.op n.children n.is in
    let k = plan-nodes_below c.args.sig.now q c.in_ok-own.own p
    (record { op = n.op; children = n.children; is = refl }) in
    let s = count-subpatterns q (record { op = n.op; children = n.children; is = refl }) in
    let r = (c.in_ok-room.ensures c.args.table.now).grounds in
    let e = ap (λ d. length (subpatterns d)) (c.pattern.ensures ∙ ap (λ (w : Plan). w.pattern) p) in
    omega (arith, e, s, k, c.len.ensures.count, r)

pub returns-clause-matcher : goal.returns-clause-matcher
returns-clause-matcher c =
    let n = c.requires.node in
    let q = app_pattern n.op n.children in
    let t = c.args.table.now in
    let p = c.in_ok-own.ensures n.op n.children n.is in
    let k = plan-nodes_below c.args.sig.now q c.in_ok-own.own p
    (record { op = n.op; children = n.children; is = refl }) in
    let r = c.in_ok-room.ensures t in
    let a = sym c.in_ok-from_slice.ensures.items in
    let f = λ (y : Variable). number_among c.args.vars.now c.args.plan.now.variables y.name in
    laws.standing _ c.args.plan.now c.args.vars.now c.args.node n.op n.children c.args.trail.now
    (subst (IsPlanOf c.args.sig.now q) (sym c.own.view_is) p) c.requires.plan n.is
    (c.in_ok-numbers.ensures ∙ ap (λ (w : Plan). map f w.variables) (sym c.own.view_is)) c.mark.ensures
    c.in_ok-copy.ensures refl c.requires.vars c.requires.distinct c.requires.below c.len-2.ensures.valid
    c.requires.normal (grounds-held t c.args.plan.now.pattern c.requires.constants)
    (subst (HasRanks t) a c.requires.ranks)
    (subst (λ rs. AreArguments c.args.sig.now n.op (terms_at t rs)) a (c.requires.arguments n.op n.children n.is))
    (record {
      of_table = record { picks = r.of_table.picks; levels = r.of_table.levels };
      wide = omega (arith, r.wide, c.nodes_of.ensures, ap (λ rs. all_nodes (terms_at t rs)) a);
      children = r.children;
      nodes = omega (arith, r.nodes, k, c.len.ensures.count);
      grounds = omega (arith, r.grounds, k, c.len.ensures.count, c.fill.ensures.room);
    })
    (subst (λ d. AreGrounds t (subpatterns d) c.fill.new.self.list.items.items)
    (c.pattern.ensures ∙ ap (λ (w : Plan). w.pattern) (sym c.own.view_is)) c.fill.ensures.grounds)
    c.requires.trail
    (subst (λ rs. all_nodes (terms_at t rs) + 3 * all_pattern_nodes n.children ≤ c.args.trail.now.spare) a
    (c.requires.spare n.op n.children n.is))

-- the matcher that is made, with the plan of the node
abbrev made : goal.After-mark → Plan → CommMatcher
made c w = record {
  sig = c.args.sig;
  table = c.args.table;
  node = c.args.node;
  plan = w;
  vars = c.in_ok-numbers.numbers;
  args = c.in_ok-from_slice.field-0;
  room = record {
    width = c.in_ok-room.room.width;
    choices = c.in_ok-room.room.choices;
    picks = c.in_ok-room.room.picks;
    levels = c.in_ok-room.room.levels;
    grounds = c.fill.new.self;
  };
  trail = c.in_ok-copy.field-0;
  mark = c.mark.result;
  stage = Before;
}

pub returns-clause-numbers : goal.returns-clause-numbers
returns-clause-numbers c g ps e =
    laws.own-numbers (made c c.in_ok-own.own) c.args.plan.now c.args.vars.now c.args.node g ps c.args.trail.now
    (c.in_ok-own.ensures g ps e) c.requires.plan e c.in_ok-numbers.ensures c.mark.ensures c.in_ok-copy.ensures refl

pub returns-clause-list : goal.returns-clause-list
returns-clause-list c g ps e =
    subst (λ w. to_come (made c w) ≡ comm_list c.args.sig.now g ps (terms_at c.args.table.now c.args.args.now) false
    (read_trail (made c w) c.args.trail.now)) (sym c.own.view_is)
    (laws.listed (made c c.in_ok-own.own) c.args.plan.now c.args.vars.now c.args.node g ps c.args.trail.now
    (c.in_ok-own.ensures g ps e) c.requires.plan e c.in_ok-numbers.ensures c.mark.ensures c.in_ok-copy.ensures refl
    ∙ ap (λ rs. comm_list c.args.sig.now g ps (terms_at c.args.table.now rs) false
    (read_trail (made c c.in_ok-own.own) c.args.trail.now)) c.in_ok-from_slice.ensures.items)

pub returns-clause-items : goal.returns-clause-items
returns-clause-items c g ps e =
    let t = c.args.table.now in
    let m = made c c.in_ok-own.own in
    subst (λ w. AreCommItems c.args.sig.now g ps (terms_at t c.args.args.now) false
    (read_trail (made c w) c.args.trail.now) (to_come (made c w))) (sym c.own.view_is)
    (subst (λ rs. AreCommItems c.args.sig.now g ps (terms_at t rs) false (read_trail m c.args.trail.now) (to_come m))
    c.in_ok-from_slice.ensures.items
    (laws.items m c.args.plan.now c.args.vars.now c.args.node g ps c.args.trail.now (c.in_ok-own.ensures g ps e)
    c.requires.plan e c.in_ok-numbers.ensures c.mark.ensures c.in_ok-copy.ensures refl
    (subst (λ rs. AreArguments c.args.sig.now g (terms_at t rs)) (sym c.in_ok-from_slice.ensures.items)
    (c.requires.arguments g ps e)) c.requires.values))
