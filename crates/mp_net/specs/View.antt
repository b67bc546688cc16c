-- The plain data that the marks, the open rules and the states of a net are read as.
use Rattle.std.specs.Prelude.{ℕ, suc, List, [], ◌∷◌, ◌++◌, drop, map, slice_get}
use Rattle.mp_net.specs.Net as net
use Rattle.mp_net.specs.declared.mark.Mark.{Mark}
use Rattle.mp_net.specs.declared.mark.Mark.TheVariants.{Named, Entered, Anything}
use Rattle.mp_net.specs.declared.item.Item.{Item}
use Rattle.mp_net.specs.declared.state.State.{State}

-- a mark
abbrev pub mark_of : Mark → net.Mark
mark_of (Named n) = net.named n.now
mark_of (Entered f k) = net.entered f.0 k
mark_of Anything = net.anything

-- a rule with what it asks: so many places without, and then the marks of its pattern from one on
abbrev pub open_of : List (List net.Mark) → Item → net.Open
open_of marks i = record {
  rule = i.rule;
  rest = net.anythings i.free ++ drop i.at (net.held_or [] (slice_get marks i.rule));
}

-- heads, to which the states from a number on belong
abbrev pub numbered : ℕ → List net.Mark → List (net.Mark × ℕ)
numbered q [] = []
numbered q (h ∷ hs) = (h, q) ∷ numbered (suc q) hs

-- where a state leads
abbrev pub turn_of : State → net.Turn
turn_of s = record { edges = numbered s.first (map mark_of s.heads.items); other = s.other }
