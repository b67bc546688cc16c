-- The list that a generator lists, as a value, and the place in it where the generator stands.
use Rattle.std.specs.Prelude.{◌≡◌, ℕ, List, ◌∷◌, [], true, Option, Some, None}
use Rattle.std.specs.declared.cmp.Ordering.{Ordering}
use Rattle.std.specs.declared.cmp.Ordering.TheVariants.{Less}
use Rattle.mp_term.specs.Listing.{above}
use Rattle.mp_term.specs.Search.{words}
use Rattle.mp_term.specs.Pieces.{count_to}
use Rattle.mp_choice.specs.declared.stage.Stage.{Stage}
use Rattle.mp_choice.specs.declared.stage.Stage.TheVariants.{Before, Standing, Ended}

-- the lists of that length of numbers that are at most `most`
abbrev pub number_lists : ℕ → ℕ → List (List ℕ)
number_lists most length = words (λ m. count_to 0 m) (λ m n. m) (λ m. true) length most

-- the item of a generator that holds x
abbrev pub item_at : {X : Type 0} → Stage → X → Option X
item_at Before x = None
item_at Standing x = Some x
item_at Ended x = None

-- P holds of x where a generator stands at it
abbrev pub StandsAt : {X : Type 0} → (X → Type 0) → Stage → X → Type 0
StandsAt P Before x = Unit {0}
StandsAt P Standing x = P x
StandsAt P Ended x = Unit {0}

module _ {X : Type 0} (cmp : X → X → Ordering) where
  -- what is still to come of all, where a generator stands at x
  abbrev pub to_come_at : Stage → X → List X → List X
  to_come_at Before x all = all
  to_come_at Standing x all = above cmp x all
  to_come_at Ended x all = []

-- from the place at `old` a step came to the item `new`, and what is above it is still to come
pub record Reaches {X : Type 0} (cmp : X → X → Ordering) (P : X → Type 0) (all : List X) (stage : Stage)
    (old new : X) : Type 0 where
  pub item : P new
  pub to_come : to_come_at cmp stage old all ≡ new ∷ above cmp new all

-- from the place at `old` nothing is to come
abbrev pub IsExhausted : {X : Type 0} → (X → X → Ordering) → List X → Stage → X → Type 0
IsExhausted cmp all stage old = to_come_at cmp stage old all ≡ []

-- x has P, and nothing below it has
pub record IsFirst {X : Type 0} (cmp : X → X → Ordering) (P : X → Type 0) (x : X) : Type 0 where
  pub item : P x
  pub none_below : (y : X) → P y → cmp y x ≡ Less → ⊥

-- nothing has P
abbrev pub HasNone : {X : Type 0} → (X → Type 0) → Type 0
HasNone {X = X} P = (x : X) → P x → ⊥

-- `new` has P and is above `old`, and nothing between them has P
pub record IsNext {X : Type 0} (cmp : X → X → Ordering) (P : X → Type 0) (old new : X) : Type 0 where
  pub item : P new
  pub above : cmp old new ≡ Less
  pub none_between : (y : X) → P y → cmp old y ≡ Less → cmp y new ≡ Less → ⊥

-- nothing above x has P
abbrev pub IsLast : {X : Type 0} → (X → X → Ordering) → (X → Type 0) → X → Type 0
IsLast {X = X} cmp P x = (y : X) → P y → cmp x y ≡ Less → ⊥
