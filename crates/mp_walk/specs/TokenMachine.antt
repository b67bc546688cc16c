-- How a walk reads a subject token by token over one trail: open operations without patterns, since the tokens say what
-- comes.
use Rattle.std.specs.Prelude.{ℕ, Bool, false, not, ◌&&◌, List, [], ◌∷◌, filter, map, flat_map, Option, Some, None}
use Rattle.std.specs.Prelude.{option_map, if◌then◌else◌}
use Rattle.mp_term.specs.Order.{tree_cmp}
use Rattle.mp_term.specs.Pieces.{pieces, without}
use Rattle.mp_term.specs.Tree.{Tree}
use Rattle.mp_term.specs.Signature.{Sig}
use Rattle.mp_pattern.specs.Fits.{Entry, is_left_out}
use Rattle.mp_pattern.specs.NetTokens.{NetToken, sym_token, enter_token, leave_token, wild_token, comm_token, numbered}
use Rattle.mp_pattern.specs.PatternTree.{Wildcard, is_sequence, Pattern, symbol_pattern, app_pattern, wild_pattern}
use Rattle.mp_pattern.specs.PatternTree.{no_patterns}
use Rattle.mp_pattern.specs.Value.{Subst}
use Rattle.mp_pattern.specs.Variables.{comm_above}
use Rattle.mp_theory.specs.Frames.{child, is_done}
use Rattle.mp_theory.specs.Machine.{entries, reads, arguments, said}
use Rattle.mp_theory.specs.OneList.{Item}
use Rattle.mp_theory.specs.Solve.{solve}
use Rattle.mp_theory.specs.Trail.{listed_by}
use Rattle.mp_ac.specs.CommList.{comm_list}

-- the operation, what its children are still to take together, whether one of them must be left out, and whether it is
-- collapsed, so that no child is a sequence
pub record Open : Type 0 where
  pub under : Option ℕ
  pub left : List Tree
  pub owes : Bool
  pub collapsed : Bool

-- the open operations, the innermost first, and the trail
pub record State : Type 0 where
  pub open_ones : List Open
  pub trail : Subst

-- what is left once a child has taken the entry's list
abbrev pub rest_of_open : Pattern → Entry → Open → Open
rest_of_open p e f = record {
  under = f.under;
  left = without tree_cmp e.terms f.left;
  owes = f.owes && not (is_left_out p e.terms);
  collapsed = f.collapsed;
}

-- what the children of an application take together where it has the entry
abbrev pub taken_below : Entry → List Tree
taken_below e = if e.collapsed then e.terms else arguments e.terms

-- the operation that the entry of an application opens
abbrev pub opened : ℕ → Entry → Open
opened g e = record { under = Some g; left = taken_below e; owes = e.collapsed; collapsed = e.collapsed }

-- the wildcard of a token, its variable named by its number
abbrev pub numbered_wildcard : Wildcard → Option ℕ → Pattern
numbered_wildcard w x = wild_pattern w (option_map numbered x)

-- before the first token
abbrev pub begin_state : Tree → State
begin_state t = record {
  open_ones = record { under = None; left = t ∷ []; owes = false; collapsed = false } ∷ [];
  trail = [];
}

module _ (sig : Sig) where
  -- the entries that the child may have
  abbrev pub entries_for : Open → Pattern → List Entry
  entries_for f p = filter (reads sig p f.under) (entries (pieces tree_cmp (comm_above sig f.under) f.left))

  -- the trail once the entry is bound to a wildcard's variable, if it may be
  abbrev pub told : Open → Pattern → Entry → Subst → Option Subst
  told f p e s =
      solve sig s (said (child p (record { under = f.under; children = no_patterns; left = f.left; owes = f.owes }) [])
      e)

  -- the tables of the entries below an application of a commutative operation that has the entry, over the trail, each
  -- with the trail after it
  abbrev pub below_items : Pattern → Entry → Subst → List Item
  below_items (app_pattern g ps) e s = comm_list sig g ps (taken_below e) e.collapsed s
  below_items (symbol_pattern n) e s = []
  below_items (wild_pattern w x) e s = []

-- the machine, where `below` lists the tables of the entries below an application of a commutative operation
module _ (sig : Sig) (below : Pattern → Entry → Subst → List Item) where
  -- the steps of one token in an open operation: the entries put out, and the state after them
  abbrev pub steps_in : Open → List Open → Subst → NetToken → List (List Entry × State)
  steps_in f fs s (sym_token n) =
      map (λ e. (e ∷ [], record { open_ones = rest_of_open (symbol_pattern n) e f ∷ fs; trail = s }))
      (entries_for sig f (symbol_pattern n))
  steps_in f fs s (wild_token w x) =
      if f.collapsed && is_sequence w then [] else
      flat_map (λ e. listed_by (λ r. (
        e ∷ [],
        record {
          open_ones = rest_of_open (numbered_wildcard w x) e f ∷ fs;
          trail = r;
        },
      ) ∷ []) (told sig f (numbered_wildcard w x) e s)) (entries_for sig f (numbered_wildcard w x))
  steps_in f fs s (enter_token g) =
      map (λ e. (
        e ∷ [],
        record {
          open_ones = opened g e ∷ rest_of_open (app_pattern g no_patterns) e f ∷ fs;
          trail = s;
        },
      )) (entries_for sig f (app_pattern g no_patterns))
  steps_in f fs s (leave_token g) =
      if is_done f.left f.owes then ([], record { open_ones = fs; trail = s }) ∷ [] else []
  steps_in f fs s (comm_token p) =
      flat_map (λ e. map (λ i. (e ∷ i.0, record { open_ones = rest_of_open p e f ∷ fs; trail = i.1 }))
      (below p e s)) (entries_for sig f p)

  -- the steps of one token: none where nothing is open
  abbrev pub steps_by : State → NetToken → List (List Entry × State)
  steps_by s k = elim s.open_ones [ [] ↦ [] | f ∷ fs ↦ steps_in f fs s.trail k ]

-- the steps of a walk
abbrev pub token_steps : Sig → State → NetToken → List (List Entry × State)
token_steps sig = steps_by sig (below_items sig)

-- only the root is open, and it is done
abbrev pub token_ends : State → Bool
token_ends s = elim s.open_ones [
  | [] ↦ false
  | f ∷ fs ↦ elim fs [ [] ↦ is_done f.left f.owes | g ∷ gs ↦ false ]
]
