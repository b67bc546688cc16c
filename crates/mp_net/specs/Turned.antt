-- What the rules of a state lead to.
use Rattle.std.specs.Prelude.{◌≡◌, ℕ, List, ◌∷◌, map, Option, Some, None}
use Rattle.std.specs.Ordering.{nat_cmp}
use Rattle.std.specs.Cmp.Lexicographic.{slice_cmp}
use Rattle.std.specs.List.{AllByRecursion, filter_map}
use Rattle.std.specs.List.Sorted.{IsStrictlySortedBy}
use Rattle.mp_term.specs.Listing.{In}
use Rattle.mp_net.specs.Net as net
use Rattle.mp_net.specs.Keys.{mark_key}
use Rattle.mp_net.specs.View.{mark_of}
use Rattle.mp_net.specs.Items.{opens, states}
use Rattle.mp_net.specs.declared.mark.Mark.{Mark}
use Rattle.mp_net.specs.declared.turn.Turn.{Turn}

-- the head that is asked for next, if any
abbrev pub asked : List net.Mark → Option net.Mark
asked (net.named n ∷ m) = Some (net.named n)
asked (net.entered f k ∷ m) = Some (net.entered f k)
asked _ = None

-- the heads that the rules ask for next
abbrev pub heads_of : List net.Open → List net.Mark
heads_of os = filter_map (λ o. asked o.rest) os

-- heads as numbers
abbrev pub keys : List Mark → List (List ℕ)
keys hs = map (λ h. mark_key (mark_of h)) hs

-- heads ascend by their numbers
abbrev pub AreAscending : List Mark → Type 0
AreAscending hs = IsStrictlySortedBy (slice_cmp nat_cmp) (keys hs)

-- each head that the rules ask for next is among the heads
abbrev pub HaveHeads : List net.Open → List Mark → Type 0
HaveHeads os hs = AllByRecursion (λ h. In (mark_key h) (keys hs)) (heads_of os)

-- and the rules ask for each of them
abbrev pub AreAsked : List net.Open → List Mark → Type 0
AreAsked os hs = AllByRecursion (λ h. In (mark_of h) (heads_of os)) hs

-- the rules that go on below each head
abbrev pub below_each : List net.Open → List net.Mark → List (List net.Open)
below_each os hs = map (λ h. net.going (net.below h) os) hs

-- the turn holds what the rules lead to
pub record IsTurn (marks : List (List net.Mark)) (os : List net.Open) (t : Turn) : Type 0 where
  pub ascending : AreAscending t.heads.items
  pub heads : HaveHeads os t.heads.items
  pub asked : AreAsked os t.heads.items
  pub below : states marks t.below.items ≡ below_each os (map mark_of t.heads.items)
  pub behind : opens marks t.behind.items ≡ net.going net.behind os
