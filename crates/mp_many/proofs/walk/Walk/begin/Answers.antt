use Rattle.std.proofs.Common.{◌∙◌, refl, sym, subst}
use Rattle.mp_term.proofs.SearchLaws.{all-from_in}
use Rattle.mp_table.specs.Table.{subject_of}
use Rattle.mp_walk.specs.CodeConstants.{IsCodeTable}
use Rattle.mp_walk.specs.WalkItems.{IsLeafItem, AreLeafItems}
use Rattle.mp_walk.specs.Walkable.{IsWalkable}
use Rattle.mp_many.specs.Laid.{tree_of}
use Rattle.mp_many.specs.RuleWalk.{given}
use Rattle.mp_many.proofs.ItemLaws.{are-walk_items, one-table}
use Rattle.mp_many.proofs.WalkLaws.{subject-normal}
use Rattle.mp_many.proofs.WalkableLaws.{walkable}
use Rattle.mp_many.proofs.walk.Walk.begin.Goals as goal

pub begin-requires-clause-walkable : goal.begin-requires-clause-walkable
begin-requires-clause-walkable c =
    let m = c.args.many.now in
    subst (λ s. IsWalkable s c.code.result.now.instrs) (sym c.sig.ensures)
    (subst (IsWalkable m.sig) (sym c.code.ensures.tree) (walkable m.sig m.rules c.code.ensures.sound.each))

pub begin-requires-clause-table : goal.begin-requires-clause-table
begin-requires-clause-table c =
    let m = c.args.many.now in
    let tb = c.args.table.now in
    subst (λ s. IsCodeTable s c.code.result.now.instrs tb) (sym c.sig.ensures)
    (subst (λ is. IsCodeTable m.sig is tb) (sym c.code.ensures.tree) c.requires)

pub returns-clause-items : goal.returns-clause-items
returns-clause-items c =
    let m = c.args.many.now in
    let tb = c.args.table.now in
    let is = c.in_ok-leaves.leaves.to_come in
    let leaves : AreLeafItems m.sig (tree_of m.sig m.rules) (subject_of tb) is =
    subst (λ s. AreLeafItems s (tree_of m.sig m.rules) (subject_of tb) is) c.sig.ensures
    (subst (λ code. AreLeafItems c.sig.result.now code (subject_of tb) is) c.code.ensures.tree
    c.in_ok-leaves.ensures.list) in
    rw c.in_ok-leaves.ensures.before
    (are-walk_items m.sig m.rules c.code.ensures.sound.each (subject_of tb)
    (subject-normal m.sig tb.terms tb.root c.requires.normal) is leaves)

pub invariant_of-result : goal.invariant_of-result
invariant_of-result c =
    let m = c.args.many.now in
    let tb = c.args.table.now in
    let is = c.in_ok-leaves.leaves.to_come in
    let leaves : AreLeafItems m.sig (tree_of m.sig m.rules) (subject_of tb) is =
    subst (λ s. AreLeafItems s (tree_of m.sig m.rules) (subject_of tb) is) c.sig.ensures
    (subst (λ code. AreLeafItems c.sig.result.now code (subject_of tb) is) c.code.ensures.tree
    c.in_ok-leaves.ensures.list) in
    record {
      walked = c.requires;
      sig = c.in_ok-leaves.ensures.setting.0 ∙ c.sig.ensures;
      code = c.in_ok-leaves.ensures.setting.1 ∙ c.code.ensures.tree;
      table = c.in_ok-leaves.ensures.setting.2;
      here = λ full. absurd (full refl);
      given = λ _. refl;
      to_come = λ _. all-from_in (IsLeafItem m.sig (tree_of m.sig m.rules) (subject_of tb)) is
          (λ i h. (leaves.exactly i).0 h);
    }

pub returns-clause-one_table : goal.returns-clause-one_table
returns-clause-one_table c = one-table c.args.many.now.sig c.args.many.now.rules (subject_of c.args.table.now) _
