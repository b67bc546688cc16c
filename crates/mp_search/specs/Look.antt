-- What a look at the later children may count on.
use Rattle.std.specs.Prelude.{map}
use Rattle.std.specs.List.Sorted.{IsSorted}
use Rattle.mp_pattern.specs.PatternTree.{patterns}
use Rattle.mp_pattern.specs.Subpatterns.{all_subpatterns}
use Rattle.mp_pattern.specs.View.{pattern_tree}
use Rattle.mp_table.specs.Table.{rank_cmp}
use Rattle.mp_subst.specs.Trail.{GoesWith}
use Rattle.mp_search.specs.Parts.{StandsAt}
use Rattle.mp_search.specs.Query.{IsQuery}
use Rattle.mp_search.specs.Site.{IsSite}
use Rattle.mp_search.specs.declared.rivals.Look.{Look}

-- the site is one of the query, the trail goes with its table, the terms that are left ascend, and the later children
-- are those of the nodes from that number on
pub record IsLook (l : Look) : Type 0 where
  pub query : IsQuery l.query.now
  pub site : IsSite l.query.now l.site.now
  pub trail : GoesWith l.query.now.table.now l.trail.now
  pub ascending : IsSorted rank_cmp l.site.now.left.now
  pub later : StandsAt l.query.now l.node (all_subpatterns (patterns (map pattern_tree l.site.now.later.now)))
