-- The wildcards of the variables of a path, by the places of their names.
use Rattle.std.specs.Prelude.{◌≡◌, ◌≤◌, ℕ, Bool, false, ◌&&◌, List, [], ◌∷◌, ◌++◌, length, map, slice_get, Option}
use Rattle.std.specs.Prelude.{Some, None, nat_eq, nat_lt, if◌then◌else◌}
use Rattle.std.specs.Option.{option_map_or}
use Rattle.mp_io.specs.Devices.{Text}
use Rattle.mp_term.specs.Listing.{In}
use Rattle.mp_term.specs.View.{tree}
use Rattle.mp_pattern.specs.declared.limits.TheConstants.{MAX_VARIABLES}
use Rattle.mp_pattern.specs.Clash.{same_shape}
use Rattle.mp_pattern.specs.Firsts.{firsts_after}
use Rattle.mp_pattern.specs.NetTokens as plain
use Rattle.mp_pattern.specs.NetTokens.{numbered, number_in, wild_token, comm_token}
use Rattle.mp_pattern.specs.PatternTree.{Wildcard, dot, kind, plus, star, optional, counted, Pattern, symbol_pattern}
use Rattle.mp_pattern.specs.PatternTree.{app_pattern, wild_pattern, Patterns, no_patterns, more_patterns}
use Rattle.mp_pattern.specs.Value.{same_name}
use Rattle.mp_pattern.specs.Variables as uses
use Rattle.mp_walk.specs.Walkable.{numbered_names}
use Rattle.mp_vm.specs.declared.look.Look.{Look}
use Rattle.mp_vm.specs.declared.look.Look.TheVariants.{Dot, Kind, Plus, Star, Opt, Counted}
use Rattle.mp_vm.specs.declared.look.Use.{Use}

-- the wildcard of a look
abbrev pub look_wildcard : Look → Wildcard
look_wildcard Dot = dot
look_wildcard (Kind k) = kind k.0
look_wildcard Plus = plus
look_wildcard Star = star
look_wildcard (Opt t) = optional (tree t.now)
look_wildcard (Counted n fixed) = counted n fixed

-- the place of a name among v0 to v31, or how many these are
unfoldable pub place_of : Text → ℕ
place_of x = number_in (numbered_names MAX_VARIABLES) x

-- an occurrence of a variable by the place of its name, with its wildcard
abbrev pub Placed : Type 0
Placed = ℕ × Wildcard

abbrev pub use_view : Use → Placed
use_view u = (u.place, look_wildcard u.look)

abbrev pub placed : uses.Use → Placed
placed u = (place_of u.name, u.wildcard)

abbrev mutual
  -- the occurrences of variables in a pattern, in preorder
  pub placed_in : Pattern → List Placed
  placed_in (symbol_pattern n) = []
  placed_in (app_pattern f ps) = all_placed_in ps
  placed_in (wild_pattern w None) = []
  placed_in (wild_pattern w (Some x)) = (place_of x, w) ∷ []

  pub all_placed_in : Patterns → List Placed
  all_placed_in no_patterns = []
  all_placed_in (more_patterns p ps) = placed_in p ++ all_placed_in ps

-- the wildcard of a token with the number of its variable, if it is one
abbrev pub token_wildcard : plain.NetToken → Option (Wildcard × Option ℕ)
token_wildcard (wild_token w x) = Some (w, x)
token_wildcard _ = None

-- the occurrences of variables in a token
abbrev pub token_places : plain.NetToken → List Placed
token_places (wild_token w None) = []
token_places (wild_token w (Some n)) = (place_of (numbered n), w) ∷ []
token_places (comm_token p) = placed_in p
token_places _ = []

-- the wildcards of the variables by their places, with one more occurrence: it has the wildcard of its variable, or it
-- is the first one of the next variable
abbrev pub with_look : List Wildcard → Placed → Option (List Wildcard)
with_look ws u = if nat_lt u.0 (length ws) then
    (if option_map_or (λ w. same_shape w u.1) (slice_get ws u.0) false then Some ws else None) else
    (if nat_eq u.0 (length ws) && nat_lt u.0 MAX_VARIABLES then Some (ws ++ u.1 ∷ []) else None)

-- with further occurrences, one after the other
abbrev pub with_looks : List Wildcard → List Placed → Option (List Wildcard)
with_looks ws [] = Some ws
with_looks ws (u ∷ us) = elim (with_look ws u) [ None ↦ None | Some vs ↦ with_looks vs us ]

-- the value, where the answer is true
abbrev pub where_true : {X : Type 0} → Bool → X → Option X
where_true b x = if b then Some x else None

-- the variables of these occurrences first occur as v0, v1 and so on, there are at most MAX_VARIABLES, and the
-- wildcard of each of its occurrences stands at its place
pub record HasLooks (us : List uses.Use) (ws : List Wildcard) : Type 0 where
  pub few : length ws ≤ MAX_VARIABLES
  pub names : firsts_after same_name [] (map (λ u. u.name) us) ≡ numbered_names (length ws)
  pub looks : (u : uses.Use) → In u us → slice_get ws (place_of u.name) ≡ Some u.wildcard
