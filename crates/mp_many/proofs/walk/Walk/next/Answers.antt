use Rattle.std.proofs.Common.{◌≡◌, ◌∙◌, [], ◌++◌, length, take, drop, false, ap, sym, subst, refl, arith}
use Rattle.std.specs.Prelude.{◌≢◌, IsSome, IsErr, slice_get}
use Rattle.std.proofs.lemmas.Bool.{false_from_ne_true}
use Rattle.mp_many.specs.Laid.{tree_of}
use Rattle.mp_many.specs.RuleWalk.{given}
use Rattle.mp_many.specs.WalkItems.{accepts_at, rule_items}
use Rattle.mp_term.proofs.ListLaws.{all-also}
use Rattle.mp_walk.specs.WalkItems.{IsLeafItem}
use Rattle.mp_table.specs.Table.{subject_of}
use Rattle.mp_many.proofs.ItemLaws.{leaf-some}
use Rattle.mp_many.proofs.WalkLaws.{next-leaf, last-leaf, front-next, nothing-given}
use Rattle.mp_many.proofs.walk.Walk.next.Goals as goal

pub returns-then-self-gt1-clause-stays : goal.returns-then-self-gt1-clause-stays
returns-then-self-gt1-clause-stays c =
    λ e. let f = c.self.invariant.given (ap (λ w. w.failed) c.self.view_is ∙ e) in absurd (omega (arith, ap length f))

pub invariant_of-self : goal.invariant_of-self
invariant_of-self c =
    let w = c.self.inside in
    let inv = c.self.invariant in
    let here = inv.here (λ e. absurd (omega (arith, c.if-self-gt1.true, ap length e))) in
    record {
      walked = inv.walked;
      sig = inv.sig;
      code = inv.code;
      table = inv.table;
      here = λ _. record {
        item = here.item;
        stands = here.stands;
        leaf = here.leaf;
        front = here.front ++ take 1 w.accepts.now;
        rules =
            front-next (accepts_at (tree_of w.many.now.sig w.many.now.rules) here.item.0) here.front w.accepts.now
            here.rules;
      };
      given = λ e. absurd (omega (arith, c.if-self-gt1.true, ap length (inv.given e)));
      to_come = inv.to_come;
    }

pub returns-then-not-branch-clause-item : goal.returns-then-not-branch-clause-item
returns-then-not-branch-clause-item c =
    let w = c.self.inside in
    let m = w.many.now in
    let none : IsSome c.next.new.self.item → ⊥ = λ h. let f = c.in_ok-next.ensures.answer.1 h in cc in
    let moved = ap (λ v. v.item) c.in_ok-next.ensures.moved in
    ap (λ xs. slice_get xs 0) (nothing-given c.next.new.self.item)
    ∙ sym (last-leaf (tree_of m.sig m.rules) w.accepts.now w.leaves.item w.leaves.to_come (omega arith)
    (λ h. none (subst IsSome (sym moved) h)))
    ∙ ap (λ v. slice_get v.to_come 0) c.self.view_is

pub returns-clause-to_come : goal.returns-clause-to_come
returns-clause-to_come c =
    let w = c.self.inside in
    let m = w.many.now in
    let sound : w.leaves.failed ≡ false =
    false_from_ne_true w.leaves.failed (λ e. let f = subst IsErr c.in_ok-next.was (c.next.ensures.fails e) in cc) in
    let n = next-leaf (tree_of m.sig m.rules) w.accepts.now c.accepts-self-inside.result.now w.leaves.item
    c.next.new.self.item w.leaves.to_come c.leaf.result (omega arith)
    (ap (λ v. v.item) c.in_ok-next.ensures.moved) c.leaf.ensures
    (c.accepts-self-inside.ensures ∙ ap (λ code. accepts_at code c.leaf.result) c.code.ensures.tree)
    (all-also (IsLeafItem m.sig (tree_of m.sig m.rules) (subject_of w.table.now))
    (λ i. accepts_at (tree_of m.sig m.rules) i.0 ≢ [])
    (leaf-some m.sig m.rules (subject_of w.table.now)) w.leaves.to_come (c.self.invariant.to_come sound)) in
    let code = tree_of m.sig m.rules in
    ap (λ ls. drop 1 (given c.accepts-self-inside.result.now c.next.new.self.item) ++ rule_items code ls)
    (ap (λ v. v.to_come) c.in_ok-next.ensures.moved)
    ∙ n.to_come ∙ ap (λ v. drop 1 v.to_come) c.self.view_is

pub returns-clause-item : goal.returns-clause-item
returns-clause-item c =
    let w = c.self.inside in
    let m = w.many.now in
    let sound : w.leaves.failed ≡ false =
    false_from_ne_true w.leaves.failed (λ e. let f = subst IsErr c.in_ok-next.was (c.next.ensures.fails e) in cc) in
    let n = next-leaf (tree_of m.sig m.rules) w.accepts.now c.accepts-self-inside.result.now w.leaves.item
    c.next.new.self.item w.leaves.to_come c.leaf.result (omega arith)
    (ap (λ v. v.item) c.in_ok-next.ensures.moved) c.leaf.ensures
    (c.accepts-self-inside.ensures ∙ ap (λ code. accepts_at code c.leaf.result) c.code.ensures.tree)
    (all-also (IsLeafItem m.sig (tree_of m.sig m.rules) (subject_of w.table.now))
    (λ i. accepts_at (tree_of m.sig m.rules) i.0 ≢ [])
    (leaf-some m.sig m.rules (subject_of w.table.now)) w.leaves.to_come (c.self.invariant.to_come sound)) in
    n.item ∙ ap (λ v. slice_get v.to_come 0) c.self.view_is

pub returns-clause-answer : goal.returns-clause-answer
returns-clause-answer c =
    let w = c.self.inside in
    let m = w.many.now in
    let sound : w.leaves.failed ≡ false =
    false_from_ne_true w.leaves.failed (λ e. let f = subst IsErr c.in_ok-next.was (c.next.ensures.fails e) in cc) in
    let n = next-leaf (tree_of m.sig m.rules) w.accepts.now c.accepts-self-inside.result.now w.leaves.item
    c.next.new.self.item w.leaves.to_come c.leaf.result (omega arith)
    (ap (λ v. v.item) c.in_ok-next.ensures.moved) c.leaf.ensures
    (c.accepts-self-inside.ensures ∙ ap (λ code. accepts_at code c.leaf.result) c.code.ensures.tree)
    (all-also (IsLeafItem m.sig (tree_of m.sig m.rules) (subject_of w.table.now))
    (λ i. accepts_at (tree_of m.sig m.rules) i.0 ≢ [])
    (leaf-some m.sig m.rules (subject_of w.table.now)) w.leaves.to_come (c.self.invariant.to_come sound)) in
    (λ _. n.some, λ _. refl)
