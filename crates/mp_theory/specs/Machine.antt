-- The search for take tables: the entries that may stand next, and where each leads.
use Rattle.std.specs.Prelude.{ℕ, Bool, true, false, ◌&&◌, not, List, [], ◌∷◌, ◌++◌, filter, flat_map, Option, Some}
use Rattle.std.specs.Prelude.{is_some, if◌then◌else◌}
use Rattle.mp_term.specs.Order.{tree_cmp}
use Rattle.mp_term.specs.Tree.{Tree, symbol, app, tree_list}
use Rattle.mp_term.specs.NormalTest.{has_head, is_single, passes}
use Rattle.mp_term.specs.Signature.{Sig, is_one}
use Rattle.mp_pattern.specs.PatternTree.{Wildcard, optional, Pattern, symbol_pattern, app_pattern, wild_pattern}
use Rattle.mp_pattern.specs.Size.{pattern_nodes}
use Rattle.mp_pattern.specs.Value.{same_terms}
use Rattle.mp_pattern.specs.Variables.{comm_above}
use Rattle.mp_pattern.specs.Fits.{Entry, Table, is_left_out, no_sequence}
use Rattle.mp_theory.specs.Solve.{Taken, given}
use Rattle.mp_theory.specs.Frames.{Frame, Next, ended, refused, child, settle, start}
use Rattle.mp_term.specs.Search.{words, Accepts}
use Rattle.mp_term.specs.Pieces.{without, pieces}

-- both entries with each list, by arguments before collapsed
abbrev pub entries : List (List Tree) → List Entry
entries = flat_map (λ l. record { terms = l; collapsed = false } ∷ record { terms = l; collapsed = true } ∷ [])

-- one term, headed by g
abbrev pub is_headed : ℕ → List Tree → Bool
is_headed g (t ∷ []) = has_head g t
is_headed g _ = false

-- the arguments of the one term
abbrev pub arguments : List Tree → List Tree
arguments (app g ts ∷ []) = tree_list ts
arguments _ = []

-- nothing more comes
abbrev pub is_ended : Next → Bool
is_ended ended = true
is_ended _ = false

-- the frame of an application's children on top of the others
abbrev pub entered : Pattern → Entry → List Frame → List Frame
entered (app_pattern g ps) e fs =
    record {
      under = Some g;
      children = ps;
      left = if e.collapsed then e.terms else arguments e.terms;
      owes = e.collapsed;
    } ∷ fs
entered _ e fs = fs

-- what is left once the node has taken the entry's list
abbrev pub taken_out : Pattern → Entry → Frame → Frame
taken_out p e f = record {
  under = f.under;
  children = f.children;
  left = without tree_cmp e.terms f.left;
  owes = f.owes && not (is_left_out p e.terms);
}

-- the place after the entry
abbrev pub onward : Next → Entry → Next
onward (child p f fs) e = settle (entered p e (taken_out p e f ∷ fs))
onward _ e = refused

-- what the entry says of a variable
abbrev pub said : Next → Entry → List Taken
said (child (wild_pattern w (Some x)) f fs) e =
    record { by = record { name = x; wildcard = w; under = f.under }; terms = e.terms } ∷ []
said _ e = []

-- the takes of the variables in the table, read from the place on
abbrev pub takes : Next → Table → List Taken
takes n [] = []
takes n (e ∷ T) = said n e ++ takes (onward n e) T

module _ (sig : Sig) where
  -- a variable that is left out has its default as its value, so that this is normal; an unnamed wildcard has no value
  abbrev pub default_passes : Option (List ℕ) → Wildcard → List Tree → Bool
  default_passes (Some x) (optional d) [] = passes sig d
  default_passes _ _ _ = true

  -- the node under f may have the entry, whatever was taken before
  abbrev pub reads : Pattern → Option ℕ → Entry → Bool
  reads (symbol_pattern n) f e = not e.collapsed && same_terms e.terms (symbol n ∷ [])
  reads (wild_pattern w x) f e = not e.collapsed && (is_some (given sig f w e.terms) && default_passes x w e.terms)
  reads (app_pattern g ps) f e = if e.collapsed then is_single e.terms
      && (is_one sig g && no_sequence ps) else is_headed g e.terms

  -- the entries that may stand next, ascending: of each piece of what is left, those that the node may have
  abbrev pub choices : Next → List Entry
  choices (child p f fs) = filter (reads p f.under) (entries (pieces tree_cmp (comm_above sig f.under) f.left))
  choices _ = []

  -- the table has the shape of the pattern on the subject: each entry may stand where it stands, and nothing is missing
  -- at its end
  abbrev pub HasShape : Pattern → Tree → Table → Type 0
  HasShape p t T = Accepts choices onward is_ended (settle (start p t)) T

  -- all tables with the shape, ascending
  abbrev pub tables : Pattern → Tree → List Table
  tables p t = words choices onward is_ended (pattern_nodes p) (settle (start p t))
