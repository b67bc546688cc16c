-- Where a search stands, what it counts on there, and what it keeps.
use Rattle.std.specs.Prelude.{◌≡◌, ◌<◌, ◌≤◌, ◌+◌, ◌-◌, ◌*◌, ⊤, ℕ, suc, Bool, List, [], filter, length, take, slice_get}
use Rattle.std.specs.Prelude.{Option, drop}
use Rattle.std.specs.Prelude.{Some, None, option_map, MatchBool, true}
use Rattle.std.specs.Borrow.{Bor}
use Rattle.std.specs.List.{AllByRecursion}
use Rattle.std.specs.List.Sorted.{IsStrictlySortedBy}
use Rattle.mp_term.specs.Signature.{Sig}
use Rattle.mp_term.specs.Listing.{In}
use Rattle.mp_term.specs.NormalTest.{passes}
use Rattle.mp_term.specs.Order.{tree_cmp}
use Rattle.mp_pattern.specs.DerivationOrder.{entry_cmp}
use Rattle.mp_pattern.specs.Fits.{Entry, arranged}
use Rattle.mp_pattern.specs.Value.{Subst}
use Rattle.mp_pattern.specs.View.{pattern_tree}
use Rattle.mp_table.specs.Table.{terms_at}
use Rattle.mp_table.specs.declared.rank.Rank.{Rank}
use Rattle.mp_subst.specs.Trail.{Trail, GoesWith, cut}
use Rattle.mp_theory.specs.Frames as walk
use Rattle.mp_theory.specs.Machine as machine
use Rattle.mp_theory.specs.Items.{items, items_by, LeadsTo}
use Rattle.mp_theory.specs.Narrow.{load}
use Rattle.mp_theory.specs.OneList.{Item}
use Rattle.mp_search.specs.declared.level.Level.{Level}
use Rattle.mp_search.specs.declared.level.Source.{Source}
use Rattle.mp_search.specs.declared.query.Query.{Query}
use Rattle.mp_search.specs.declared.site.Site.{Site}
use Rattle.mp_search.specs.declared.stack.Place.{Place}
use Rattle.mp_search.specs.Drawn.{drawn}
use Rattle.mp_search.specs.Frames.{above, child_of, left_of, place_after, PlaceBelow}
use Rattle.mp_search.specs.Levels.{AreLevels, IsDrawable, draws_of, take_of}
use Rattle.mp_search.specs.Query.{IsQuery, width}
use Rattle.mp_search.specs.Wanted.{HasFirst}

-- what is left to the frame is normal, and stands as its operation arranges it
pub record IsInOrder (sig : Sig) (f : walk.Frame) : Type 0 where
  pub pass : AllByRecursion (λ t. passes sig t ≡ true) f.left
  pub arranged : arranged sig f.under f.left ≡ f.left

-- so it is at the place, and in the frames around
abbrev pub AreInOrder : Sig → walk.Next → Type 0
AreInOrder sig (walk.child p f fs) = IsInOrder sig f × AllByRecursion (IsInOrder sig) fs
AreInOrder sig n = ⊤

-- what a search counts on at node k, besides the trail
pub record IsAtNode (q : Query) (k : ℕ) (ls : List Level) : Type 0 where
  pub query : IsQuery q
  pub levels : AreLevels q.table.now (width q) ls
  pub narrow : load (place_after q (take k ls)) ≤ width q
  pub ordered : AreInOrder q.sig.now (place_after q (take k ls))

-- the trail goes with the table, and has room for the search from node k on
pub record HasTrail (q : Query) (k : ℕ) (ls : List Level) (t : Trail) : Type 0 where
  pub trail : GoesWith q.table.now t
  pub vars : AllByRecursion (λ v. v < t.vars) q.vars.now
  pub spare : load (place_after q (take k ls)) + 3 * (length ls - k) ≤ t.spare

-- the place is that of the child that comes after what the levels take
pub record IsAt (q : Query) (below : List Level) (p : Place) : Type 0 where
  pub stands : child_of q below p ≡ place_after q below
  pub within : PlaceBelow (length below) p

-- the child of the place, at the node of that number, to which and to its later siblings these ranks are left
abbrev pub site_of : Place → ℕ → Bor (List Rank) → Site
site_of p node left = record {
  child = p.child;
  node = node;
  under = p.under;
  later = p.later;
  left = left;
  owes = p.owes;
}

-- what the choices of node k are drawn from
abbrev pub draws_at : List Level → ℕ → Option (Source × List Rank)
draws_at ls k = option_map draws_of (slice_get ls k)

-- what the choices of node k are drawn from, and what it takes
abbrev pub own_at : List Level → ℕ → Option ((Source × List Rank) × (List Rank × Bool))
own_at ls k = option_map (λ l. (draws_of l, take_of l)) (slice_get ls k)

-- the entries that are drawn for the child of the place from the pool
abbrev pub entries_from : Query → List Level → Place → Source × List Rank → List Entry
entries_from q below p d =
    filter (machine.reads q.sig.now (pattern_tree p.child.now) (above p.under))
    (machine.entries (drawn tree_cmp d.0 (terms_at q.table.now d.1) (left_of q below p.left)))

-- those that are drawn at node k
abbrev pub drawn_at : Query → Place → List Level → ℕ → List Entry
drawn_at q p ls k = elim (draws_at ls k) [ None ↦ [] | Some d ↦ entries_from q (take k ls) p d ]

-- the pool of node k has at most as many ranks as there is room for, and may be drawn from
abbrev pub HasPool : Query → List Level → ℕ → Type 0
HasPool q ls k = elim (draws_at ls k) [ None ↦ ⊤ | Some d ↦ (length d.1 ≤ width q) × IsDrawable d.0 d.1 ]

-- what is drawn at node k ascends, and leads to all that comes there over the substitution, by choices alone
pub record IsDrawn (q : Query) (p : Place) (ls : List Level) (k : ℕ) (s : Subst) : Type 0 where
  pub leads : LeadsTo q.sig.now (place_after q (take k ls)) s (drawn_at q p ls k)
      (machine.choices q.sig.now (place_after q (take k ls)))
  pub choices : AllByRecursion (λ e. In e (machine.choices q.sig.now (place_after q (take k ls)))) (drawn_at q p ls k)
  pub ascending : IsStrictlySortedBy entry_cmp (drawn_at q p ls k)
  pub pool : HasPool q ls k

-- the items from node k on, over the substitution
abbrev pub items_from : Query → ℕ → List Level → Subst → List Item
items_from q k ls s = items q.sig.now (length ls - k) (place_after q (take k ls)) s

-- the items behind an entry of node k, over the substitution
abbrev pub items_with : Query → ℕ → List Level → Subst → Entry → List Item
items_with q k ls s e = items_by q.sig.now (length ls - suc k) (place_after q (take k ls)) s e

-- the first of the items is found, or there are none
abbrev pub IsFound : Query → Bool → List Item → List Level → Trail → Type 0
IsFound q b is ls t = MatchBool b (HasFirst q is ls t) (is ≡ [])

-- what is on u's stack beyond that of t are values of these variables
abbrev pub BindsOnly : List ℕ → Trail → Trail → Type 0
BindsOnly vs t u = AllByRecursion (λ e. In e.var vs) (drop (length t.stack) u.stack)

-- what a search keeps from node k on: the levels below, how many there are, what holds of levels, the trail below what
-- is bound, the variables but for those of the query, and the room but for what it was to have
pub record Keeps (q : Query) (k : ℕ) (old new : List Level) (t u : Trail) : Type 0 where
  pub front : take k new ≡ take k old
  pub many : length new ≡ length old
  pub levels : AreLevels q.table.now (width q) new
  pub cut : cut (length t.stack) u ≡ t
  pub only : BindsOnly q.vars.now t u
  pub trail : GoesWith q.table.now u
  pub spare : t.spare ≤ u.spare + (load (place_after q (take k old)) + 3 * (length old - k))

-- the same of the levels alone
pub record KeepsLevels (q : Query) (k : ℕ) (old new : List Level) : Type 0 where
  pub front : take k new ≡ take k old
  pub many : length new ≡ length old
  pub levels : AreLevels q.table.now (width q) new
