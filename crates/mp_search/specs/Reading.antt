-- What the data of a search stand for: each rank is read as its term.
use Rattle.std.specs.Prelude.{◌≡◌, ℕ, Bool, nat_eq, List, [], ◌∷◌, map, false, Option, Some, None, slice_index_or}
use Rattle.std.specs.Prelude.{if◌then◌else◌}
use Rattle.mp_pattern.specs.Fits as fits
use Rattle.mp_pattern.specs.Plan.{Variable}
use Rattle.mp_pattern.specs.Value.{Value, Subst, same_name}
use Rattle.mp_table.specs.declared.rank.Rank.{Rank}
use Rattle.mp_table.specs.Table.{Table, HasRanks, terms_at}
use Rattle.mp_subst.specs.Bound.{value_in}
use Rattle.mp_subst.specs.Trail.{Trail, TrailEntry}
use Rattle.mp_search.specs.declared.level.Level.{Level}
use Rattle.mp_search.specs.declared.query.Query.{Query}

-- what a level's node takes
abbrev pub entry_of : Table → Level → fits.Entry
entry_of t l = record { terms = terms_at t l.take.items.items; collapsed = l.collapsed }

-- what the nodes of the levels take
abbrev pub table_of : Table → List Level → fits.Table
table_of t ls = map (entry_of t) ls

-- what the node of that level takes
abbrev pub entry_at : Table → List Level → ℕ → fits.Entry
entry_at t ls k = slice_index_or (table_of t ls) k (record { terms = []; collapsed = false })

-- the ranks and the mark of an entry stand for its terms
abbrev pub ReadsAs : Table → List Rank × Bool → fits.Entry → Type 0
ReadsAs t e d = HasRanks t e.0 × (terms_at t e.0 ≡ d.terms) × (e.1 ≡ d.collapsed)

-- the name of the variable that has the number v in the trail, where ws are the numbers of the variables xs
abbrev pub name_among : List ℕ → List Variable → ℕ → Option (List ℕ)
name_among (w ∷ ws) (x ∷ xs) v = if nat_eq w v then Some x.name else name_among ws xs v
name_among _ _ v = None

-- the substitution with another value for the name, in its place or at the end
abbrev pub set : Subst → List ℕ → Value → Subst
set [] x v = record { name = x; value = v } ∷ []
set (b ∷ s) x v = if same_name b.name x then record { name = b.name; value = v } ∷ s else b ∷ set s x v

-- the substitution s, and then the values of the entries whose variables have names
abbrev pub subst_from : Table → (ℕ → Option (List ℕ)) → Subst → List TrailEntry → Subst
subst_from t name s [] = s
subst_from t name s (e ∷ es) =
    subst_from t name (elim (name e.var) [ None ↦ s | Some x ↦ set s x (value_in t e.value) ]) es

-- the name of a variable of the trail
abbrev pub name_at : Query → ℕ → Option (List ℕ)
name_at q = name_among q.vars.now q.plan.now.variables

-- the substitution so far
abbrev pub subst_of : Query → Trail → Subst
subst_of q t = subst_from q.table.now (name_at q) [] t.stack
