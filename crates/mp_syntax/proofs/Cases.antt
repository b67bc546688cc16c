-- Beginnings of parts in a row, by cases.
use Rattle.std.proofs.Common.{inl, inr, List, [], ◌∷◌, ◌++◌, refl, ap}
use Rattle.std.specs.Prelude.{◌⊎◌}
use Rattle.mp_parser.specs.Tokens.{Placed}
use Rattle.mp_parser.specs.Syntax.{Expected, AllMatch}
use Rattle.mp_syntax.specs.Begins.{MatchFront, IsBehind}

-- a beginning of parts in a row is one of the first part, or the whole first part and a beginning of the others
pub parts-begin : (ts : List Placed) (a b : List Expected) → MatchFront ts (a ++ b) → MatchFront ts a ⊎ IsBehind ts a b
parts-begin [] a b h = inl tt
parts-begin (t ∷ ts) [] b h = inr (record { front = []; back = t ∷ ts; parts = refl; whole = tt; begins = h })
parts-begin (t ∷ ts) (m ∷ a) b h = go (parts-begin ts a b h.1)
  where
    go : MatchFront ts a ⊎ IsBehind ts a b → MatchFront (t ∷ ts) (m ∷ a) ⊎ IsBehind (t ∷ ts) (m ∷ a) b
    go (inl k) = inl (h.0, k)
    go (inr k) =
        inr (record {
          front = t ∷ k.front;
          back = k.back;
          parts = ap (λ l. t ∷ l) k.parts;
          whole = (h.0, k.whole);
          begins =
              k.begins;
        })

-- a beginning of the first part is one of parts in a row
pub first-begins : (ts : List Placed) (a b : List Expected) → MatchFront ts a → MatchFront ts (a ++ b)
first-begins [] a b h = tt
first-begins (t ∷ ts) [] b h = absurd h
first-begins (t ∷ ts) (m ∷ a) b h = (h.0, first-begins ts a b h.1)

-- so is a whole first part and a beginning of the others
pub behind-begins : (front back : List Placed) (a b : List Expected) → AllMatch front a → MatchFront back b
    → MatchFront (front ++ back) (a ++ b)
behind-begins [] back [] b h k = k
behind-begins [] back (m ∷ a) b h k = absurd h
behind-begins (t ∷ front) back [] b h k = absurd h
behind-begins (t ∷ front) back (m ∷ a) b h k = (h.0, behind-begins front back a b h.1 k)
