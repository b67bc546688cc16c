-- What a walk over many rules is read as, and what holds of each.
use Rattle.std.specs.Prelude.{◌≡◌, ◌≢◌, true, false, ℕ, List, [], ◌++◌, drop, slice_get, Some}
use Rattle.std.specs.List.{AllByRecursion}
use Rattle.mp_walk.specs.WalkItems.{IsLeafItem}
use Rattle.mp_many.specs.Laid.{tree_of}
use Rattle.mp_table.specs.Table.{subject_of}
use Rattle.mp_many.specs.Many.{IsWalkTable}
use Rattle.mp_many.specs.RuleWalk as plain
use Rattle.mp_many.specs.RuleWalk.{given}
use Rattle.mp_many.specs.WalkItems.{accepts_at, rule_items}
use Rattle.mp_many.specs.declared.walk.Walk.TheInside.{Inside}

-- the rules of the leaf that are still to be given come first, that at which the walk stands before the others, and
-- then those of the leaves that are to come
abbrev pub walk_view : Inside → plain.RuleWalk
walk_view w =
    let here = given w.accepts.now w.leaves.item in
    record {
      many = w.many.now;
      table = w.table.now;
      item = slice_get here 0;
      to_come = drop 1 here ++ rule_items (tree_of w.many.now.sig w.many.now.rules) w.leaves.to_come;
      failed = w.leaves.failed;
    }

-- the rules are the last of those that the leaf accepts at which the walk stands
pub record AreHere (w : Inside) : Type 0 where
  pub item : plain.Item
  pub stands : w.leaves.item ≡ Some item
  pub leaf : IsLeafItem w.many.now.sig (tree_of w.many.now.sig w.many.now.rules) (subject_of w.table.now) item
  pub front : List ℕ
  pub rules : accepts_at (tree_of w.many.now.sig w.many.now.rules) item.0 ≡ front ++ w.accepts.now

-- the table may be walked, the leaves are those of the tree of the rules on its subject, and no rules are left to be
-- given where memory ran out
pub record IsWalk (w : Inside) : Type 0 where
  pub walked : IsWalkTable w.many.now w.table.now
  pub sig : w.leaves.sig ≡ w.many.now.sig
  pub code : w.leaves.code ≡ tree_of w.many.now.sig w.many.now.rules
  pub table : w.leaves.table ≡ w.table.now
  pub here : w.accepts.now ≢ [] → AreHere w
  pub given : w.leaves.failed ≡ true → w.accepts.now ≡ []
  pub to_come : w.leaves.failed ≡ false → AllByRecursion (IsLeafItem w.many.now.sig
      (tree_of w.many.now.sig w.many.now.rules) (subject_of w.table.now)) w.leaves.to_come
