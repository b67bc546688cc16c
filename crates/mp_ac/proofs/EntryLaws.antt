-- The entries of a matcher, by the nodes of the whole plan.
use Rattle.std.proofs.Common.{◌≡◌, ℕ, ◌<◌, ◌≤◌, ◌+◌, ◌-◌, true, false, length, ap, sym, ◌∙◌, arith}
use Rattle.std.specs.Prelude.{Some, None, nat_le, slice_get, slice_index_or, if◌then◌else◌}
use Rattle.std.proofs.lemmas.Bool.Decides.{nat_tests}
use Rattle.mp_table.specs.Table.{HasRanks}
use Rattle.mp_search.specs.declared.level.Level.{Level}
use Rattle.mp_search.specs.Reading as reading
use Rattle.mp_ac.specs.declared.comm_matcher.CommMatcher.{CommMatcher}
use Rattle.mp_ac.specs.CommPlan.{nodes_below}
use Rattle.mp_ac.specs.Matcher.{IsMatcher, entries_of, entry_of}
use Rattle.mp_ac.proofs.LevelEntries as levels
use Rattle.mp_ac.proofs.PlanNodes.{plan-nodes_below}

module _ (m : CommMatcher) (h : IsMatcher m) where
  -- there is none up to the matcher's node
  pub none-before : (node : ℕ) → node ≤ m.node → None ≡ entry_of m node
  none-before node l =
      let test : nat_le node m.node ≡ true = grind (arith, nat_tests) in
      sym (ap (λ b. if b then None else slice_get (entries_of m) (node - m.node - 1)) test)

  behind-is : (node : ℕ) → m.node < node → entry_of m node ≡ slice_get (entries_of m) (node - m.node - 1)
  behind-is node l =
      let test : nat_le node m.node ≡ false = grind (arith, nat_tests) in
      ap (λ b. if b then None else slice_get (entries_of m) (node - m.node - 1)) test

  -- how many nodes there are below it
  count : (n : ℕ) → n ≡ length m.plan.nodes → n ≡ nodes_below m.plan.pattern + 1
  count n e = e ∙ plan-nodes_below m.sig.now m.plan.pattern m.plan h.stands.asked.plan h.stands.asked.application

  -- nor behind the nodes below it
  pub none-behind : (n node : ℕ) → n ≡ length m.plan.nodes → m.node < node → n ≤ node - m.node
      → None ≡ entry_of m node
  none-behind n node e l k = sym (behind-is node l
      ∙ levels.level-behind m.table.now (nodes_below m.plan.pattern) m.room.levels.items (node - m.node - 1)
      (omega (arith, count n e, k)))

  -- each of these has a level
  pub level-there : (n node : ℕ) → n ≡ length m.plan.nodes → m.node < node → node - m.node < n
      → node - m.node - 1 < length m.room.levels.items
  level-there n node e l k = omega (arith, l, k, count n e, h.stands.room.nodes)

  pub level-at : (n node : ℕ) (l : Level) → n ≡ length m.plan.nodes → m.node < node → node - m.node < n
      → l ≡ slice_index_or m.room.levels.items (node - m.node - 1) l
      → Some (reading.entry_of m.table.now l) ≡ entry_of m node
  level-at n node l e b k i = sym (behind-is node b
      ∙ levels.level-at m.table.now (nodes_below m.plan.pattern) m.room.levels.items (node - m.node - 1) l
      (omega (arith, b, k, count n e)) h.stands.room.nodes i)

  pub level-ranks : (n node : ℕ) (l : Level) → n ≡ length m.plan.nodes → m.node < node → node - m.node < n
      → l ≡ slice_index_or m.room.levels.items (node - m.node - 1) l → HasRanks m.table.now l.take.items.items
  level-ranks n node l e b k i =
      levels.level-ranks m.table.now (nodes_below m.plan.pattern) m.room.levels.items (node - m.node - 1)
      m.room.width l h.stands.room.of_table.levels (omega (arith, b, k, count n e)) h.stands.room.nodes i
