-- The lists that a net is built of.
use Rattle.std.specs.Prelude.{ℕ, zero, suc, ◌+◌, List, [], ◌∷◌, ◌++◌, map, Option, Some, None}
use Rattle.std.specs.declared.vec.Vec.{Vec}
use Rattle.mp_net.specs.Net as net
use Rattle.mp_net.specs.declared.mark.Mark.{Mark}
use Rattle.mp_net.specs.declared.item.Item.{Item}
use Rattle.mp_net.specs.View.{mark_of, open_of}

-- the marks of each rule
abbrev pub tables : {Z : Type 0} → List (Vec Mark Z) → List (List net.Mark)
tables ms = map (λ v. map mark_of v.items) ms

-- the rules of a state
abbrev pub opens : List (List net.Mark) → List Item → List net.Open
opens marks is = map (open_of marks) is

-- the rules of all states
abbrev pub states : {Z : Type 0} → List (List net.Mark) → List (Vec Item Z) → List (List net.Open)
states marks vs = map (λ v. opens marks v.items) vs

-- the first mark, and the rule behind it
abbrev pub first_of : ℕ → List net.Mark → Option (net.Mark × net.Open)
first_of r [] = None
first_of r (g ∷ m) = Some (g, record { rule = r; rest = m })

-- a mark and a rule
abbrev pub split : List (List net.Mark) → Mark × Item → net.Mark × net.Open
split marks p = (mark_of p.0, open_of marks p.1)

-- the rules of so many numbers from i on, each of which asks for its whole pattern
abbrev pub items_from : ℕ → ℕ → List Item
items_from i zero = []
items_from i (suc n) = record { rule = i; free = 0; at = 0 } ∷ items_from (suc i) n

-- a rule that asks nothing of a place, below that place with the head
abbrev pub item_below : net.Mark → Item → Item
item_below h i = record { rule = i.rule; free = i.free + net.arity h; at = i.at }

-- the lists of items
abbrev pub listed : {Z : Type 0} → List (Vec Item Z) → List (List Item)
listed vs = map (λ v. v.items) vs

-- each list goes on with the other's
abbrev pub joined : {X : Type 0} → List (List X) → List (List X) → List (List X)
joined [] ks = []
joined (l ∷ ls) [] = l ∷ ls
joined (l ∷ ls) (k ∷ ks) = (l ++ k) ∷ joined ls ks
