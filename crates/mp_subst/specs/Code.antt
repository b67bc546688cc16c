-- Values, bindings and pairs as sums and pairs that give them back.
use Rattle.std.specs.Prelude.{◌≡◌, ℕ, ◌⊎◌, List, refl}
use Rattle.std.proofs.Common.{inl, inr}
use Rattle.std.specs.Coded.{Coded, code_by, coded×, coded⊎, coded_ℕ, coded_list}
use Rattle.mp_term.specs.Tree.{Tree}
use Rattle.mp_term.specs.Code.{coded_tree}
use Rattle.mp_pattern.specs.Value.{Value, one, seq, bag, Binding}
use Rattle.mp_pattern.specs.Lists.{Pair}

-- one term, or a tuple or a multiset of terms
abbrev pub Pieces : Type 0
Pieces = Tree ⊎ (List Tree ⊎ List Tree)

-- the terms of a value, by its form
abbrev pub pieces : Value → Pieces
pieces (one t) = inl t
pieces (seq ts) = inr (inl ts)
pieces (bag ts) = inr (inr ts)

-- the value of the terms
abbrev pub from_pieces : Pieces → Value
from_pieces (inl t) = one t
from_pieces (inr (inl ts)) = seq ts
from_pieces (inr (inr ts)) = bag ts

pub from_pieces-pieces : (v : Value) → from_pieces (pieces v) ≡ v
from_pieces-pieces (one t) = refl
from_pieces-pieces (seq ts) = refl
from_pieces-pieces (bag ts) = refl

-- the code of values
abbrev pub coded_value : Coded Value
coded_value = code_by Pieces (coded⊎ coded_tree (coded⊎ (coded_list coded_tree) (coded_list coded_tree))) pieces
    from_pieces from_pieces-pieces

-- the code of bindings
abbrev pub coded_binding : Coded Binding
coded_binding = code_by (List ℕ × Value) (coded× (coded_list coded_ℕ) coded_value) (λ b. (b.name, b.value))
    (λ p. record { name = p.0; value = p.1 }) (λ _. refl)

-- the code of the number of a rule with a substitution
abbrev pub coded_pair : Coded Pair
coded_pair = coded× coded_ℕ (coded_list coded_binding)
