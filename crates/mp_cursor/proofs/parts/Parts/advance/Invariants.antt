use Rattle.std.proofs.Common.{◌≡◌, length, []}
use Rattle.std.specs.Prelude.{option_map}
use Rattle.mp_pattern.specs.CondView.{cond_tree}
use Rattle.mp_search.specs.Wanted.{IsStanding}
use Rattle.mp_cursor.specs.Matched.{IsOnward, all_items, looked_for, sought}
use Rattle.mp_cursor.specs.Parts.{AreOver, levels_table}
use Rattle.mp_cursor.proofs.parts.Parts.advance.Given as goal

abbrev pub invariant-loop-self : goal.invariant-loop-self
invariant-loop-self l = record {
  over : AreOver l.matched l.self;
  mode : IsOnward l.mode;
  standing : IsStanding l.mode (levels_table l.matched l.self) (all_items l.matched []);
  same : sought l.matched (option_map (λ c. cond_tree c.now) l.condition) l.mode (levels_table l.matched l.self)
      ≡ sought l.matched (option_map (λ c. cond_tree c.now) l.condition) l.initial.mode
      (levels_table l.matched l.initial.self);
}

abbrev pub decreases-loop-self : goal.decreases-loop-self
decreases-loop-self l = length (looked_for l.matched (option_map (λ c. cond_tree c.now) l.condition) l.mode
    (levels_table l.matched l.self) [])
