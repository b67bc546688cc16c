-- What contracts see of a child that is to take, and of its choices.
use Rattle.std.specs.Prelude.{◌≡◌, ◌≤◌, List, ◌++◌, map, length, take, drop, filter}
use Rattle.mp_term.specs.Order.{tree_cmp}
use Rattle.mp_pattern.specs.PatternTree.{patterns}
use Rattle.mp_pattern.specs.View.{pattern_tree}
use Rattle.mp_pattern.specs.Fits.{Entry, arranged}
use Rattle.mp_pattern.specs.Subpatterns.{subpatterns, all_subpatterns}
use Rattle.mp_pattern.specs.Value.{Subst}
use Rattle.mp_table.specs.Table.{HasRanks, terms_at, rank_cmp}
use Rattle.mp_table.specs.declared.rank.Rank.{Rank}
use Rattle.mp_theory.specs.Frames as walk
use Rattle.mp_theory.specs.Machine as machine
use Rattle.mp_theory.specs.Items.{LeadsTo}
use Rattle.mp_search.specs.declared.level.Level.{Level}
use Rattle.mp_search.specs.declared.query.Query.{Query}
use Rattle.mp_search.specs.declared.site.Site.{Site}
use Rattle.mp_search.specs.Drawn.{drawn}
use Rattle.mp_search.specs.Frames.{above}
use Rattle.mp_search.specs.Query.{width}

-- the frame of the child's siblings that are to take after it
abbrev pub site_frame : Query → Site → walk.Frame
site_frame q x = record {
  under = above x.under;
  children = patterns (map pattern_tree x.later.now);
  left = terms_at q.table.now x.left.now;
  owes = x.owes;
}

-- the place of the child, with the frames around it
abbrev pub site_place : Query → Site → List walk.Frame → walk.Next
site_place q x fs = walk.child (pattern_tree x.child.now) (site_frame q x) fs

-- the child has its number in the plan, and its later siblings those behind its subpattern; what is left is in the
-- table, stands as the operation arranges it, and is no longer than the room is wide
pub record IsSite (q : Query) (x : Site) : Type 0 where
  pub children : subpatterns (pattern_tree x.child.now) ++ all_subpatterns (patterns (map pattern_tree x.later.now))
      ≡ take (length (subpatterns (pattern_tree x.child.now) ++ all_subpatterns
      (patterns (map pattern_tree x.later.now)))) (drop x.node (subpatterns q.plan.now.pattern))
  pub left : HasRanks q.table.now x.left.now
  pub arranged : arranged q.sig.now (above x.under) (terms_at q.table.now x.left.now)
      ≡ terms_at q.table.now x.left.now
  pub narrow : length x.left.now ≤ width q

-- the lists of ranks that are drawn for the child
abbrev pub lists_drawn : Site → Level → List (List Rank)
lists_drawn x l = drawn rank_cmp l.source l.pool.items.items x.left.now

-- the entries with lists of ranks that the child reads
abbrev pub entries_read : Query → Site → List (List Rank) → List Entry
entries_read q x ls = filter (machine.reads q.sig.now (pattern_tree x.child.now) (above x.under))
    (machine.entries (map (terms_at q.table.now) ls))

-- what the child may take, as it is drawn, ascending: of each list the entries that the child reads
abbrev pub entries_drawn : Query → Site → Level → List Entry
entries_drawn q x l = filter (machine.reads q.sig.now (pattern_tree x.child.now) (above x.under)) (machine.entries
    (drawn tree_cmp l.source (terms_at q.table.now l.pool.items.items) (terms_at q.table.now x.left.now)))

-- what is drawn leads to all that comes at the child, over the substitution
abbrev pub IsPrepared : Query → Site → Subst → Level → Type 0
IsPrepared q x s l = (fs : List walk.Frame) → LeadsTo q.sig.now (site_place q x fs) s (entries_drawn q x l)
    (machine.choices q.sig.now (site_place q x fs))
