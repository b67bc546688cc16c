-- A net token as nested sums that give it back.
use Rattle.std.specs.Prelude.{◌≡◌, ℕ, ◌⊎◌, List, Option, refl}
use Rattle.std.proofs.Common.{inl, inr}
use Rattle.std.specs.Coded.{Coded, code_by, coded×, coded⊎, coded_ℕ, coded_list, coded_option}
use Rattle.mp_pattern.specs.PatternTree.{Wildcard, Pattern}
use Rattle.mp_pattern.specs.Code.{coded_wildcard, coded_pattern}
use Rattle.mp_pattern.specs.NetTokens.{NetToken, sym_token, enter_token, leave_token, wild_token, comm_token}

-- a token as the symbol, the operation that begins or ends, the wildcard with its number, or the pattern
abbrev Parts : Type 0
Parts = List ℕ ⊎ (ℕ ⊎ (ℕ ⊎ ((Wildcard × Option ℕ) ⊎ Pattern)))

abbrev parts_of : NetToken → Parts
parts_of (sym_token n) = inl n
parts_of (enter_token f) = inr (inl f)
parts_of (leave_token f) = inr (inr (inl f))
parts_of (wild_token w x) = inr (inr (inr (inl (w, x))))
parts_of (comm_token p) = inr (inr (inr (inr p)))

-- and back
abbrev token_from : Parts → NetToken
token_from (inl n) = sym_token n
token_from (inr (inl f)) = enter_token f
token_from (inr (inr (inl f))) = leave_token f
token_from (inr (inr (inr (inl p)))) = wild_token p.0 p.1
token_from (inr (inr (inr (inr p)))) = comm_token p

pub token_from-parts_of : (k : NetToken) → token_from (parts_of k) ≡ k
token_from-parts_of (sym_token n) = refl
token_from-parts_of (enter_token f) = refl
token_from-parts_of (leave_token f) = refl
token_from-parts_of (wild_token w x) = refl
token_from-parts_of (comm_token p) = refl

-- the code of tokens
abbrev pub coded_net_token : Coded NetToken
coded_net_token =
    code_by Parts
    (coded⊎ (coded_list coded_ℕ) (coded⊎ coded_ℕ (coded⊎ coded_ℕ
    (coded⊎ (coded× coded_wildcard (coded_option coded_ℕ)) coded_pattern))))
    parts_of token_from token_from-parts_of
