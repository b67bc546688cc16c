-- What a child may take out of the items that are left.
use Rattle.std.specs.Prelude.{ℕ, zero, suc, Bool, true, false, ◌&&◌, List, [], ◌∷◌, length, flat_map, if◌then◌else◌}
use Rattle.std.specs.declared.cmp.Ordering.{Ordering}
use Rattle.std.specs.declared.cmp.Ordering.TheVariants.{Less, Equal, Greater}
use Rattle.std.specs.Ordering.{eq_by_cmp}
use Rattle.mp_term.specs.Search.{words}

-- the numbers k to k + n
abbrev pub count_to : ℕ → ℕ → List ℕ
count_to k zero = k ∷ []
count_to k (suc n) = k ∷ count_to (suc k) n

module _ {X : Type 0} (cmp : X → X → Ordering) where
  -- the items are equal
  abbrev pub same : X → X → Bool
  same = eq_by_cmp cmp

  -- what is left of the list when the items of l are taken out, each at its first place after the one before
  abbrev pub without : List X → List X → List X
  without [] ts = ts
  without (e ∷ l) [] = []
  without (e ∷ l) (t ∷ ts) = if same t e then without l ts else t ∷ without (e ∷ l) ts

  -- the items of l stand in the list, in turn
  abbrev pub is_sublist : List X → List X → Bool
  is_sublist [] ts = true
  is_sublist (e ∷ l) [] = false
  is_sublist (e ∷ l) (t ∷ ts) = if same t e then is_sublist l ts else is_sublist (e ∷ l) ts

  -- the list begins with l
  abbrev pub is_prefix : List X → List X → Bool
  is_prefix [] ts = true
  is_prefix (e ∷ l) [] = false
  is_prefix (e ∷ l) (t ∷ ts) = same t e && is_prefix l ts

  -- t in its place in an ascending list, unless it stands there
  abbrev pub insert_new : X → List X → List X
  insert_new t [] = t ∷ []
  insert_new t (u ∷ us) = elim (cmp t u) [ Less ↦ t ∷ u ∷ us | Equal ↦ u ∷ us | Greater ↦ u ∷ insert_new t us ]

  -- each term once, ascending
  abbrev pub distinct : List X → List X
  distinct [] = []
  distinct (t ∷ ts) = insert_new t (distinct ts)

  -- what stands after the first e
  abbrev pub after : List X → X → List X
  after [] e = []
  after (t ∷ ts) e = if same t e then ts else after ts e

  -- the first item, if there is one
  abbrev pub first : List X → List X
  first [] = []
  first (t ∷ ts) = t ∷ []

  -- the lists of n terms, each of which stands after the one before: at once, or anywhere
  abbrev pub pieces_of : Bool → ℕ → List X → List (List X)
  pieces_of anywhere = words (λ ts. if anywhere then distinct ts else first ts) after (λ _. true)

  -- those of the lengths ns
  abbrev pub pieces_among : Bool → List ℕ → List X → List (List X)
  pieces_among anywhere ns ts = flat_map (λ n. pieces_of anywhere n ts) ns

  -- the pieces of a list by shortlex: its distinct sublists, which of an ascending list are its sub-multisets, or its
  -- prefixes
  abbrev pub pieces : Bool → List X → List (List X)
  pieces anywhere ts = pieces_among anywhere (count_to 0 (length ts)) ts

  -- the distinct sub-multisets of an ascending list, as ascending lists
  abbrev pub sub_bags : List X → List (List X)
  sub_bags = pieces true

  -- the prefixes of a list, by length
  abbrev pub prefixes : List X → List (List X)
  prefixes = pieces false

  -- l is a piece of the list: a sublist, or a prefix
  abbrev pub is_piece : Bool → List X → List X → Bool
  is_piece anywhere l ts = if anywhere then is_sublist l ts else is_prefix l ts
