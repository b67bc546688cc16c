use Rattle.std.proofs.Common.{◌≡◌, ◌≤◌, ◌∙◌, length, ap, sym, subst, arith}
use Rattle.mp_term.specs.Size.{node_count}
use Rattle.mp_pattern.specs.Subpatterns.{subpatterns}
use Rattle.mp_pattern.proofs.PlanLaws.{length-subpatterns}
use Rattle.mp_search.specs.Grounds.{AreGrounds}
use Rattle.mp_table.specs.Table.{subject_of}
use Rattle.mp_cursor.proofs.PartsLaws.{vacant-over}
use Rattle.mp_pattern.proofs.PlanNodes.{plan-nodes}
use Rattle.mp_cursor.proofs.cursor.parts_over.Goals as goal

pub fill-requires : goal.fill-requires
fill-requires c =
    let plan = c.args.matched.plan.now in
    let a = ap (λ p. length (subpatterns p)) c.pattern.ensures in
    let nodes : c.room.inside.nodes ≡ length plan.nodes = ap (λ k. k.nodes) c.room.view_is ∙ c.requires.nodes in
    omega (
      arith,
      a,
      length-subpatterns plan.pattern,
      plan-nodes c.args.matched.sig.now plan.pattern plan c.requires.plan,
      nodes,
      c.room.invariant.0.grounds,
    )

pub returns-clause-over : goal.returns-clause-over
returns-clause-over c =
    let m = c.args.matched in
    let r = c.room.inside in
    vacant-over m r.parts c.fill.new.self r.nodes r.vars r.width c.room.invariant.0 c.room.invariant.1
    (ap (λ k. k.nodes) c.room.view_is ∙ c.requires.nodes) (ap (λ k. k.vars) c.room.view_is ∙ c.requires.vars)
    (subst (λ k. node_count (subject_of m.table.now) ≤ k) (sym (ap (λ k. k.width) c.room.view_is)) c.requires.width)
    c.fill.ensures.room
    (subst (λ p. AreGrounds m.table.now (subpatterns p) c.fill.new.self.list.items.items) c.pattern.ensures
    c.fill.ensures.grounds)
