-- The ways in which a token reads on in an open operation that isn't commutative, by number.
use Rattle.std.specs.Prelude.{◌≡◌, ◌≤◌, ◌<◌, ℕ, zero, suc, ◌+◌, ◌-◌, Bool, false, ◌&&◌, List, [], ◌∷◌, map}
use Rattle.std.specs.Prelude.{flat_map, take, length}
use Rattle.std.specs.Prelude.{Option, Some, None, if◌then◌else◌, nat_le, nat_lt, nat_eq}
use Rattle.std.specs.Ordering.{is_eq}
use Rattle.mp_term.specs.Order.{tree_cmp}
use Rattle.std.specs.List.{range_with_len}
use Rattle.mp_term.specs.Tree.{Tree, symbol}
use Rattle.mp_term.specs.Signature.{Sig}
use Rattle.mp_pattern.specs.Fits.{Entry}
use Rattle.mp_pattern.specs.NetTokens.{NetToken, sym_token, enter_token, leave_token, wild_token, comm_token}
use Rattle.mp_pattern.specs.PatternTree.{Wildcard, Pattern, symbol_pattern, app_pattern, no_patterns, is_sequence}
use Rattle.mp_pattern.specs.Value.{Subst}
use Rattle.mp_theory.specs.Machine.{reads}
use Rattle.mp_theory.specs.OneList.{Item}
use Rattle.mp_theory.specs.Trail.{listed_by}
use Rattle.mp_walk.specs.TokenMachine.{Open, State, rest_of_open, opened, numbered_wildcard, told, below_items}
use Rattle.mp_theory.specs.Frames.{is_done}

-- a token reads one step: the entries put out, and the state after them
abbrev pub Step : Type 0
Step = List Entry × State

-- the entry of a front of the terms that are left
abbrev pub front_entry : List Tree → ℕ → Entry
front_entry left n = record { terms = take n left; collapsed = false }

-- the entry of an application: of the first term, by its arguments or collapsed
abbrev pub first_entry : List Tree → ℕ → Entry
first_entry left way = record { terms = take 1 left; collapsed = nat_eq way 1 }

-- by which ways an application may take the first term: by its arguments, which is way 0, or collapsed, which is way 1
abbrev pub is_way : Sig → Open → Pattern → ℕ → Bool
is_way sig f p way = nat_lt way 2 && reads sig p f.under (first_entry f.left way)

-- the wildcard may take the front of so many terms
abbrev pub is_front : Sig → Open → Pattern → ℕ → Bool
is_front sig f p n = nat_le n (length f.left) && reads sig p f.under (front_entry f.left n)

-- the first way from the number on, where way 0 is there or not, and way 1 is
abbrev pub way_among : ℕ → Bool → Bool → Option ℕ
way_among from headed single =
    if nat_eq from 0
    then (if headed then Some 0 else (if single then Some 1 else None))
    else (if nat_eq from 1 then (if single then Some 1 else None) else None)

-- a symbol is the first term that is left
abbrev pub is_first_symbol : List ℕ → List Tree → Bool
is_first_symbol n [] = false
is_first_symbol n (t ∷ ts) = is_eq (tree_cmp t (symbol n))

-- the step of an item of a commutative application
abbrev pub item_step : Open → List Open → Pattern → Entry → Item → Step
item_step f fs p e i = (e ∷ i.0, record { open_ones = rest_of_open p e f ∷ fs; trail = i.1 })

module _ (sig : Sig) (f : Open) (fs : List Open) (s : Subst) where
  -- the step of a wildcard that takes a front
  abbrev pub front_steps : Wildcard → Option ℕ → ℕ → List Step
  front_steps w x n =
      if is_front sig f (numbered_wildcard w x) n
      then listed_by (λ r. (
        front_entry f.left n ∷ [],
        record {
          open_ones = rest_of_open (numbered_wildcard w x) (front_entry f.left n) f ∷ fs;
          trail = r;
        },
      ) ∷ []) (told sig f (numbered_wildcard w x) (front_entry f.left n) s)
      else []

  -- the steps of a way: a symbol and the end of an application have one way, the begin of one and a commutative
  -- application have two, and a wildcard has one for each number of terms
  abbrev pub way_steps : NetToken → ℕ → List Step
  way_steps (sym_token n) zero =
      if is_front sig f (symbol_pattern n) 1
      then (
        front_entry f.left 1 ∷ [],
        record { open_ones = rest_of_open (symbol_pattern n) (front_entry f.left 1) f ∷ fs; trail = s },
      ) ∷ []
      else []
  way_steps (sym_token n) (suc w) = []
  way_steps (leave_token g) zero =
      if is_done f.left f.owes then ([], record { open_ones = fs; trail = s }) ∷ [] else []
  way_steps (leave_token g) (suc w) = []
  way_steps (enter_token g) way =
      if is_way sig f (app_pattern g no_patterns) way
      then (
        first_entry f.left way ∷ [],
        record {
          open_ones = opened g (first_entry f.left way)
              ∷ rest_of_open (app_pattern g no_patterns) (first_entry f.left way) f ∷ fs;
          trail = s;
        },
      ) ∷ []
      else []
  way_steps (wild_token w x) n = if f.collapsed && is_sequence w then [] else front_steps w x n
  way_steps (comm_token p) way =
      if is_way sig f p way
      then map (item_step f fs p (first_entry f.left way)) (below_items sig p (first_entry f.left way) s)
      else []

  -- those of the ways from a number on
  abbrev pub ways_from : NetToken → ℕ → List Step
  ways_from k way = flat_map (way_steps k) (range_with_len way (length f.left + 2 - way))

  -- no way from the number on reads on
  abbrev pub HasNoWay : NetToken → ℕ → Type 0
  HasNoWay k from = (n : ℕ) → from ≤ n → way_steps k n ≡ []

  -- the first way from the number on that reads on, which has this step alone
  pub record IsFirstWay (k : NetToken) (from way : ℕ) (r : Step) : Type 0 where
    pub onward : from ≤ way
    pub earlier : (n : ℕ) → from ≤ n → n < way → way_steps k n ≡ []
    pub step : way_steps k way ≡ r ∷ []
