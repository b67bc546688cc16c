-- Which ranks a child may take, and how often a rank stands in a list.
use Rattle.std.specs.Prelude.{◌≡◌, ◌<◌, ◌≤◌, ℕ, ◌+◌, List, [], ◌∷◌, length, Bool, true, nat_eq, nat_lt, if◌then◌else◌}
use Rattle.std.specs.Prelude.{slice_index_or, false, Option, Some, None, option_map}
use Rattle.std.specs.declared.cmp.Ordering.TheVariants.{Less, Equal, Greater}
use Rattle.mp_term.specs.Order.{tree_cmp}
use Rattle.mp_term.specs.Pieces.{same}
use Rattle.mp_term.specs.Tree.{Tree, symbol, app, tree_list}
use Rattle.mp_term.specs.Listing.{In}
use Rattle.mp_pattern.specs.Fits.{Entry}
use Rattle.mp_pattern.specs.Value.{Subst}
use Rattle.mp_table.specs.Table.{Table, term_at}
use Rattle.mp_table.specs.declared.rank.Rank.{Rank}
use Rattle.mp_theory.specs.Frames.{Frame}
use Rattle.mp_theory.specs.Items.{items_by}
use Rattle.mp_theory.specs.Machine.{choices}
use Rattle.mp_theory.specs.OneList.{Item}
use Rattle.mp_search.specs.declared.headed.Group.{Group}
use Rattle.mp_search.specs.declared.query.Query.{Query}
use Rattle.mp_search.specs.declared.site.Site.{Site}
use Rattle.mp_search.specs.Site.{site_place}

-- in some item that comes at the child over the substitution, it takes the term of the rank alone
pub record LeadsOn (q : Query) (x : Site) (s : Subst) (r : Rank) : Type 0 where
  pub frames : List Frame
  pub count : ℕ
  pub entry : Entry
  pub item : Item
  pub choice : In entry (choices q.sig.now (site_place q x frames))
  pub found : In item (items_by q.sig.now count (site_place q x frames) s entry)
  pub alone : entry.terms ≡ term_at q.table.now r ∷ []

-- so it is, where that is looked at
abbrev pub MayTake : Query → Site → Subst → Bool → Rank → Type 0
MayTake q x s looks r = looks ≡ true → LeadsOn q x s r

-- once where the ranks are equal
abbrev pub is_at : Rank → Rank → ℕ
is_at z r = if nat_eq z.0 r.0 then 1 else 0

-- how often the list has it
abbrev pub occurrences : Rank → List Rank → ℕ
occurrences z [] = 0
occurrences z (r ∷ rs) = is_at z r + occurrences z rs

-- the first argument is less than u, or is u where `past` says so
abbrev pub first_before : Bool → Tree → List Tree → Bool
first_before past u [] = past
first_before past u (t ∷ ts) = elim (tree_cmp t u) [ Less ↦ true | Equal ↦ past | Greater ↦ false ]

-- the arguments are fewer than c, or so many of which the first is before u; where no u is given, as `past` says
abbrev pub args_before : Bool → ℕ → Option Tree → List Tree → Bool
args_before past c None ts = past
args_before past c (Some u) ts = if nat_eq (length ts) c then first_before past u ts else nat_lt (length ts) c

-- the term is a symbol, or an application of an operation before g, or of g to arguments that are before those
abbrev pub is_before : Bool → ℕ → ℕ → Option Tree → Tree → Bool
is_before past g c o (symbol m) = true
is_before past g c o (app f ts) = if nat_eq f g then args_before past c o (tree_list ts) else nat_lt f g

-- the term comes before the group, or is one of it where `past` says so
abbrev pub precedes : Table → Group → Bool → Tree → Bool
precedes t k past u = is_before past k.op.0 k.count (option_map (term_at t) k.first) u

-- it is one of the group
abbrev pub IsOf : Table → Group → Tree → Type 0
IsOf t k u = (precedes t k false u ≡ false) × (precedes t k true u ≡ true)

-- the ranks that are wanted stand from the first place on, and before the end
pub record StandBetween (Wanted : Rank → Type 0) (rs : List Rank) (first end : ℕ) : Type 0 where
  pub from : first ≤ length rs
  pub within : end ≤ length rs
  pub before : (z : Rank) (k : ℕ) → Wanted z → k < first → (slice_index_or rs k z).0 ≡ z.0 → ⊥
  pub behind : (z : Rank) (k : ℕ) → Wanted z → end ≤ k → k < length rs → (slice_index_or rs k z).0 ≡ z.0 → ⊥

-- the second argument is u
abbrev pub second_is : Tree → List Tree → Bool
second_is u [] = false
second_is u (t ∷ []) = false
second_is u (t ∷ v ∷ ts) = same tree_cmp u v
