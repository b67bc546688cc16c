use Rattle.std.proofs.Common.{◌<◌, List, drop}
use Rattle.mp_pattern.specs.PatternTree.{Pattern}
use Rattle.mp_table.specs.Table.{term_at}
use Rattle.mp_ac.specs.Begin.{IsBlocked}
use Rattle.mp_ac.specs.Candidates.{given_terms}
use Rattle.mp_ac.specs.CommPlans.{AreLeads}
use Rattle.mp_ac.specs.Store.{IsStoreOf}
use Rattle.mp_ac.proofs.begin.ways.Given as goal

abbrev pub invariant-loop-number : goal.invariant-loop-number
invariant-loop-number l =
    let us = given_terms (term_at l.table l.node.node) l.node.alone in
    record {
      store : IsStoreOf l.table l.plans l.store;
      some : 0 < l.ways;
      blocked : (ps : List Pattern) → AreLeads l.plans l.numbers ps → IsBlocked l.table us (drop l.number-index ps)
          → IsBlocked l.table us ps;
    }
