-- What the names of the variables of rules are read as.
use Rattle.std.specs.Prelude.{◌<◌, ℕ, List, [], length, map, slice_index_or}
use Rattle.std.specs.List.{AllByRecursion}
use Rattle.mp_many.specs.declared.names.RuleNames.TheInside.{Inside}

-- the lists at the places
abbrev pub lists_at : List (List (List ℕ)) → List ℕ → List (List (List ℕ))
lists_at lists places = map (λ n. slice_index_or lists n []) places

-- the list of each rule
abbrev pub names_view : Inside → List (List (List ℕ))
names_view r = lists_at r.lists.items r.places.items

-- there is one at each place
abbrev pub AreHeld : Inside → Type 0
AreHeld r = AllByRecursion (λ n. n < length r.lists.items) r.places.items
