-- Bytes have one first fault at most.
use Rattle.std.proofs.Common.{inl, inr, ◌≡◌, ℕ, List, Option, Some, None, refl, sym, ap, subst, ◌∙◌}
use Rattle.std.specs.Prelude.{◌⊎◌}
use Rattle.mp_parser.specs.declared.place.Place.{Place}
use Rattle.mp_parser.specs.declared.fault.Fault.{Fault}
use Rattle.mp_parser.specs.declared.fault.FaultKind.{FaultKind}
use Rattle.mp_parser.specs.declared.fault.FaultKind.TheVariants.{Syntax, TooDeep, BadByte, TooMany}
use Rattle.mp_parser.specs.Tokens.{Placed, first_place, place_after}
use Rattle.mp_parser.specs.Lexing.{lexemes}
use Rattle.mp_syntax.specs.Begins.{Text}
use Rattle.mp_syntax.specs.FirstFault.{AreTokensOf, FirstRefused, NoneRefused, EndsEarly, IsFaultAt, IsFirstFault}
use Rattle.mp_syntax.specs.Reading.{first_bad}
use Rattle.mp_parser.proofs.TokensTotal.{tokens-unique}
use Rattle.mp_syntax.proofs.TokensFault.{Met, met}
use Rattle.mp_syntax.proofs.FirstFault.{refused-unique, refused-not_none}

-- a refused token, or the end
abbrev Later : Text → List ℕ → FaultKind → Place → List Placed → Type 0
Later b bytes kind place ts =
    FirstRefused b ts kind place ⊎ ((kind ≡ Syntax) × NoneRefused b ts × (place ≡ place_after bytes first_place))

one-later : (b : Text) (bytes : List ℕ) (i j : FaultKind) (p q : Place) (ts : List Placed) → Later b bytes i p ts
    → Later b bytes j q ts → (i ≡ j) × (p ≡ q)
one-later b bytes i j p q ts (inl r) (inl s) = refused-unique b ts i j p q r s
one-later b bytes i j p q ts (inl r) (inr s) = absurd (refused-not_none b ts i p r s.1)
one-later b bytes i j p q ts (inr r) (inl s) = absurd (refused-not_none b ts j q s r.1)
one-later b bytes i j p q ts (inr r) (inr s) = (r.0 ∙ sym s.0, r.2 ∙ sym s.2)

abbrev IsLater : Text → List ℕ → FaultKind → Place → Type 0
IsLater b bytes kind place = (ts : List Placed) × AreTokensOf bytes ts × Later b bytes kind place ts

two-later : (b : Text) (bytes : List ℕ) (i j : FaultKind) (p q : Place) → IsLater b bytes i p → IsLater b bytes j q
    → (i ≡ j) × (p ≡ q)
two-later b bytes i j p q h k =
    one-later b bytes i j p q k.0
    (subst (Later b bytes i p) (tokens-unique bytes first_place h.0 k.0 h.1.0 k.1.0) h.2) k.2

syntax-later : (b : Text) (bytes : List ℕ) (p : Place) → IsFaultAt b bytes Syntax p → IsLater b bytes Syntax p
syntax-later b bytes p h = go h.2
  where
    go : FirstRefused b h.0 Syntax p ⊎ EndsEarly b bytes h.0 p → IsLater b bytes Syntax p
    go (inl r) = (h.0, h.1, inl r)
    go (inr r) = (h.0, h.1, inr (refl, r.0, r.2))

deep-later : (b : Text) (bytes : List ℕ) (p : Place) → IsFaultAt b bytes TooDeep p → IsLater b bytes TooDeep p
deep-later b bytes p h = (h.0, h.1, inl h.2)

-- the place of a fault, where there is one
abbrev place_in : Place → Option Fault → Place
place_in p (Some f) = f.place
place_in p None = p

-- the kind of a fault, where there is one
abbrev kind_in : Option Fault → FaultKind
kind_in (Some f) = f.kind
kind_in None = Syntax

-- two faults are of one kind and at one place
one-fault_at : (b : Text) (bytes : List ℕ) (i j : FaultKind) (p q : Place) → IsFaultAt b bytes i p
    → IsFaultAt b bytes j q → (i ≡ j) × (p ≡ q)
one-fault_at b bytes i j p q h k = go i j h k (met b bytes i p h) (met b bytes j q k)
  where
    go : (i j : FaultKind) → IsFaultAt b bytes i p → IsFaultAt b bytes j q
        → Met i p (first_bad (lexemes bytes first_place)) → Met j q (first_bad (lexemes bytes first_place))
        → (i ≡ j) × (p ≡ q)
    go Syntax Syntax h k m n = two-later b bytes Syntax Syntax p q (syntax-later b bytes p h) (syntax-later b bytes q k)
    go Syntax TooDeep h k m n = two-later b bytes Syntax TooDeep p q (syntax-later b bytes p h) (deep-later b bytes q k)
    go TooDeep Syntax h k m n = two-later b bytes TooDeep Syntax p q (deep-later b bytes p h) (syntax-later b bytes q k)
    go TooDeep TooDeep h k m n = two-later b bytes TooDeep TooDeep p q (deep-later b bytes p h) (deep-later b bytes q k)
    go BadByte BadByte h k m n = (refl, ap (place_in p) (sym m ∙ n))
    go TooMany TooMany h k m n = (refl, ap (place_in p) (sym m ∙ n))
    go BadByte TooMany h k m n = (ap kind_in (sym m ∙ n), ap (place_in p) (sym m ∙ n))
    go TooMany BadByte h k m n = (ap kind_in (sym m ∙ n), ap (place_in p) (sym m ∙ n))
    go _ _ h k m n = let e = sym m ∙ n in absurd cc

-- bytes have one first fault at most
pub one-fault : (b : Text) (bytes : List ℕ) (f g : Fault) → IsFirstFault b bytes f → IsFirstFault b bytes g → f ≡ g
one-fault b bytes f g h k =
    let same = one-fault_at b bytes f.kind g.kind f.place g.place h k in
    λ i. record { kind = same.0 i; place = same.1 i }
