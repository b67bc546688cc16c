-- Worked examples: the text of tokens, and how far bytes are the beginning of a token.
use Rattle.std.proofs.Common.{◌≡◌, true, false, List, [], ◌∷◌, refl}
use Rattle.std.specs.Prelude.{codes, replicate}
use Rattle.std.specs.Fmt.{digits}
use Rattle.mp_token.specs.Entry.{Entry}
use Rattle.mp_token.specs.TokenText.{token_text}
use Rattle.mp_token.specs.Spelling.{Begins}
use Rattle.mp_token.specs.Machine.{rank, start}
use Rattle.mp_token.specs.declared.token.Token.{Token}
use Rattle.mp_token.proofs.SpellingLaws.{run_begins, run_refuses}

-- a token of the subject s and the rule r
abbrev example : List Entry → Token
example es = record { subject = codes "s"; rule = codes "r"; entries = es }

-- a sum, its first argument, and the other two
token_text-ranks : token_text
    (example ((rank 3 ∷ [], false) ∷ (rank 0 ∷ [], false) ∷ (rank 1 ∷ rank 2 ∷ [], false) ∷ [])) ≡ codes "s/r/3;0;1,2"
unfolding digits
token_text-ranks = refl

-- a collapsed node, a node, and a node that takes nothing
token_text-collapsed : token_text (example ((rank 1 ∷ [], true) ∷ (rank 1 ∷ [], false) ∷ ([], false) ∷ []))
    ≡ codes "s/r/1!;1;"
unfolding digits
token_text-collapsed = refl

-- one entry without a rank, collapsed or not
token_text-empty : token_text (example (([], false) ∷ [])) ≡ codes "s/r/"
token_text-empty = refl

token_text-mark : token_text (example (([], true) ∷ [])) ≡ codes "s/r/!"
token_text-mark = refl

-- the greatest number
token_text-greatest : token_text (example ((rank 4294967295 ∷ [], false) ∷ [])) ≡ codes "s/r/4294967295"
unfolding digits
token_text-greatest = refl

-- no byte begins a token, a name of 64 bytes does, and a number behind a comma or none
Begins-none : Begins []
Begins-none = run_begins [] start refl

Begins-long : Begins (replicate 64 97)
Begins-long = run_begins (replicate 64 97) _ refl

Begins-comma : Begins (codes "s/r/3;0;1,")
Begins-comma = run_begins (codes "s/r/3;0;1,") _ refl

-- not so a slash, a name of 65 bytes, and a name with another byte
Begins-slash : Begins (codes "/") → ⊥
Begins-slash = run_refuses (codes "/") refl

Begins-longer : Begins (replicate 65 97) → ⊥
Begins-longer = run_refuses (replicate 65 97) refl

Begins-underscore : Begins (codes "s_") → ⊥
Begins-underscore = run_refuses (codes "s_") refl

-- nor a number with a leading 0, and one of more than 32 bits
Begins-zero : Begins (codes "s/r/01") → ⊥
Begins-zero = run_refuses (codes "s/r/01") refl

Begins-greater : Begins (codes "s/r/4294967296") → ⊥
Begins-greater = run_refuses (codes "s/r/4294967296") refl

-- nor a comma without a number before it, a mark behind a comma, and a number behind a mark
Begins-two_commas : Begins (codes "s/r/1,,") → ⊥
Begins-two_commas = run_refuses (codes "s/r/1,,") refl

Begins-comma_mark : Begins (codes "s/r/1,!") → ⊥
Begins-comma_mark = run_refuses (codes "s/r/1,!") refl

Begins-mark_number : Begins (codes "s/r/1!2") → ⊥
Begins-mark_number = run_refuses (codes "s/r/1!2") refl
