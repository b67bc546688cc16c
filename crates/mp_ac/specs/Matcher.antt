-- What contracts see of a commutative matcher.
use Rattle.std.specs.Prelude.{◌≡◌, ◌≤◌, ◌-◌, ℕ, Bool, true, false, nat_le, List, ◌∷◌, length, Option, Some, None}
use Rattle.std.specs.Prelude.{slice_get, if◌then◌else◌}
use Rattle.mp_term.specs.Signature.{Sig, is_comm}
use Rattle.mp_pattern.specs.Fits as fits
use Rattle.mp_pattern.specs.PatternTree.{Pattern, Patterns, app_pattern}
use Rattle.mp_pattern.specs.Plan.{Plan, Variable}
use Rattle.mp_pattern.specs.Subpatterns.{subpatterns}
use Rattle.mp_pattern.specs.Value.{Subst, same_name}
use Rattle.mp_table.specs.Table.{Table}
use Rattle.mp_subst.specs.Trail.{Trail, cut, length_at}
use Rattle.mp_theory.specs.OneList.{Item}
use Rattle.mp_ac.specs.declared.asked.Asked.{Asked}
use Rattle.mp_ac.specs.declared.comm_matcher.CommMatcher.{CommMatcher}
use Rattle.mp_search.specs.Stage.{item_at}
use Rattle.mp_ac.specs.Asked.{levels_table, trail_subst}
use Rattle.mp_ac.specs.Moved.{ahead_in, IsStandingAt}

-- the node is an application of a commutative operation
pub record IsCommNode (sig : Sig) (p : Pattern) (node : ℕ) : Type 0 where
  pub op : ℕ
  pub children : Patterns
  pub is : slice_get (subpatterns p) node ≡ Some (app_pattern op children)
  pub commutative : is_comm sig op ≡ true

-- the number that the variable of that name has, where these are those of all variables; 0 where there is none
abbrev pub number_among : List ℕ → List Variable → List ℕ → ℕ
number_among (v ∷ vs) (x ∷ xs) y = if same_name y x.name then v else number_among vs xs y
number_among _ _ y = 0

-- what is asked, wherever its parts stand
abbrev pub asked_from : Sig → Plan → List ℕ → Table → Bool → Asked
asked_from sig plan vars table owes = record {
  sig = record { ref_ptr = (0, 0); now = sig };
  plan = record { ref_ptr = (0, 0); now = plan };
  vars = record { ref_ptr = (0, 0); now = vars };
  table = record { ref_ptr = (0, 0); now = table };
  owes = owes;
}

-- what a matcher is asked for
abbrev pub asked_of : CommMatcher → Asked
asked_of m = asked_from m.sig.now m.plan m.vars.items m.table.now false

-- the trail of the begin
abbrev pub base_of : CommMatcher → Trail
base_of m = cut (length_at m.mark) m.trail

-- the substitution of a trail, by the variables below the node
abbrev pub read_trail : CommMatcher → Trail → Subst
read_trail m t = trail_subst (asked_of m) t

-- the table that the nodes below have
abbrev pub entries_of : CommMatcher → fits.Table
entries_of m = levels_table (asked_of m) m.room.levels.items

-- that of a node, which is numbered as in the whole plan
abbrev pub entry_of : CommMatcher → ℕ → Option fits.Entry
entry_of m node = if nat_le node m.node then None else slice_get (entries_of m) (node - m.node - 1)

-- the item at which it stands, if it stands at one
abbrev pub item_of : CommMatcher → Option Item
item_of m = item_at m.stage (entries_of m, read_trail m m.trail)

-- the items still to come
abbrev pub to_come : CommMatcher → List Item
to_come m = ahead_in (asked_of m) m.args.items m.stage m.room (read_trail m (base_of m))

-- what holds of each matcher
pub record IsMatcher (m : CommMatcher) : Type 0 where
  pub mark : length_at m.mark ≤ length m.trail.stack
  pub stands : IsStandingAt (asked_of m) m.args.items m.stage m.room (base_of m)
