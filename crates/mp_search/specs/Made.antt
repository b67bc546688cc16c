-- What a node's choices are drawn from.
use Rattle.std.specs.Prelude.{◌≡◌, ◌≤◌, ℕ, nat_eq, Bool, true, false, ◌&&◌, List, [], length, Option, Some, None}
use Rattle.std.specs.List.{AllByRecursion}
use Rattle.mp_term.specs.Listing.{In}
use Rattle.mp_term.specs.Order.{tree_cmp}
use Rattle.mp_term.specs.Pieces.{is_piece}
use Rattle.mp_term.specs.Signature.{Sig, is_assoc}
use Rattle.mp_term.specs.Tree.{Tree}
use Rattle.mp_pattern.specs.Fits.{arranged}
use Rattle.mp_pattern.specs.PatternTree.{Pattern, wild_pattern}
use Rattle.mp_pattern.specs.Value.{Value, Subst, value_of}
use Rattle.mp_pattern.specs.Variables.{comm_above}
use Rattle.mp_table.specs.Table.{HasRanks, terms_at}
use Rattle.mp_table.specs.declared.rank.Rank.{Rank}
use Rattle.mp_theory.specs.Machine as machine
use Rattle.mp_search.specs.declared.level.Level.{Level}
use Rattle.mp_search.specs.declared.query.Query.{Query}
use Rattle.mp_search.specs.declared.site.Site.{Site}
use Rattle.mp_search.specs.Frames.{above}
use Rattle.mp_search.specs.Levels.{rooms_of, take_of, IsPool}
use Rattle.mp_search.specs.Query.{width}
use Rattle.mp_search.specs.Site.{IsPrepared, site_place, entries_drawn}

-- the level is made ready: what is drawn leads to all that comes at the child over the substitution, each entry of it
-- is a choice, and the pool is one to draw from
pub record IsMade (q : Query) (x : Site) (s : Subst) (l : Level) : Type 0 where
  pub leads : IsPrepared q x s l
  pub choices : AllByRecursion (λ e. In e (machine.choices q.sig.now (site_place q x []))) (entries_drawn q x l)
  pub pool : IsPool (width q) l
  pub ranks : HasRanks q.table.now l.pool.items.items

-- what the node takes, what is left behind it, and all room stay
pub record IsBeside (old new : Level) : Type 0 where
  pub take : take_of new ≡ take_of old
  pub rest : new.rest.items.items ≡ old.rest.items.items
  pub rooms : rooms_of new ≡ rooms_of old

-- the child's terms as the operation above arranges them
abbrev pub arranged_at : Query → Site → List Tree → List Tree
arranged_at q x = arranged q.sig.now (above x.under)

-- the list is a piece of what is left
abbrev pub IsThere : Query → Site → List Tree → Type 0
IsThere q x l = is_piece tree_cmp (comm_above q.sig.now (above x.under)) l (terms_at q.table.now x.left.now) ≡ true

-- the operation above opens terms that the operation g heads
abbrev pub is_opened : Sig → Option ℕ → ℕ → Bool
is_opened sig None g = false
is_opened sig (Some f) g = is_assoc sig f && nat_eq f g

-- of the lists none but that of the pool is there, and it is where that is found
pub record IsEnd (q : Query) (x : Site) (ls : List (List Tree)) (found : Bool) (pool : List Rank) : Type 0 where
  pub only : (l : List Tree) → In l ls → IsThere q x l → (found ≡ true) × (l ≡ terms_at q.table.now pool)
  pub there : found ≡ true → IsThere q x (terms_at q.table.now pool)
  pub few : length pool ≤ width q
  pub ranks : HasRanks q.table.now pool

-- the child is a wildcard whose variable has the value
abbrev pub HasValue : Pattern → Subst → Value → Type 0
HasValue (wild_pattern w (Some x)) s v = value_of s x ≡ Some v
HasValue p s v = ⊥
