-- Computed examples of net tokens.
use Rattle.std.proofs.Common.{◌≡◌, ℕ, true, false, [], ◌∷◌, refl}
use Rattle.std.specs.Prelude.{None, Some, codes}
use Rattle.mp_pattern.specs.PatternTree.{Wildcard, dot, plus, star, optional, counted, Pattern, wild_pattern}
use Rattle.mp_pattern.specs.NetTokens.{sym_token, enter_token, leave_token, wild_token, comm_token, tokens_of}
use Rattle.mp_pattern.specs.NetTokens.{numbered, same_token}
use Rattle.mp_pattern.proofs.ExampleWords.{sig, f, set, list, pattern, a_pattern, nought, x_, y_, z_, unnamed}

-- a wildcard of the variable of that number
numbered_ : ℕ → Wildcard → Pattern
numbered_ n w = wild_pattern w (Some (numbered n))

-- f(set(x__), list(x__, _, a))
tokens_of_a_shared_variable : tokens_of sig (pattern f (pattern set (x_ plus ∷ [])
    ∷ pattern list (x_ plus ∷ unnamed dot ∷ a_pattern ∷ []) ∷ []))
    ≡ enter_token f
    ∷ comm_token (pattern set (numbered_ 0 plus ∷ []))
    ∷ enter_token list
    ∷ wild_token plus (Some 0)
    ∷ wild_token dot None
    ∷ sym_token (codes "a")
    ∷ leave_token list
    ∷ leave_token f
    ∷ []
unfolding numbered_
tokens_of_a_shared_variable = refl

-- f(z_, set(y_{2+}, list(z_), _, x_:0)): the arguments aren't sorted again, and what stands under the commutative
-- operation is in its token
tokens_of_a_commutative_part : tokens_of sig (pattern f (z_ dot ∷ pattern set (y_ (counted 2 false)
    ∷ pattern list (z_ dot ∷ []) ∷ unnamed dot ∷ x_ (optional nought) ∷ []) ∷ []))
    ≡ enter_token f
    ∷ wild_token dot (Some 0)
    ∷ comm_token (pattern set (numbered_ 1 (counted 2 false) ∷ pattern list (numbered_ 0 dot ∷ []) ∷ unnamed dot
    ∷ numbered_ 2 (optional nought) ∷ []))
    ∷ leave_token f
    ∷ []
unfolding numbered_
tokens_of_a_commutative_part = refl

-- a symbol alone, and f()
tokens_of_a_symbol : tokens_of sig a_pattern ≡ sym_token (codes "a") ∷ []
tokens_of_a_symbol = refl

tokens_of_no_arguments : tokens_of sig (pattern f []) ≡ enter_token f ∷ leave_token f ∷ []
tokens_of_no_arguments = refl

-- fixed and open counts are other tokens
other_counts_differ : same_token (wild_token (counted 2 true) (Some 0)) (wild_token (counted 2 false) (Some 0)) ≡ false
other_counts_differ = refl

other_numbers_differ : same_token (wild_token star (Some 0)) (wild_token star None) ≡ false
other_numbers_differ = refl

one_wildcard_is_the_same : same_token (wild_token (optional nought) (Some 1)) (wild_token (optional nought) (Some 1))
    ≡ true
one_wildcard_is_the_same = refl
