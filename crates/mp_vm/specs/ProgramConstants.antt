-- The constants of a program: the terms that its paths and tests bring to a run beside the subject.
use Rattle.std.specs.Prelude.{List, [], ◌∷◌, ◌++◌, flat_map, Some}
use Rattle.mp_term.specs.Tree.{Tree, symbol}
use Rattle.mp_pattern.specs.Constants.{condition_constants}
use Rattle.mp_pattern.specs.NetTokens.{NetToken, sym_token}
use Rattle.mp_walk.specs.CodeConstants.{token_constants}
use Rattle.mp_program.specs.Program.{Program}

-- the symbol of a token, its default, or the symbols and the defaults of its pattern
abbrev pub token_terms : NetToken → List Tree
token_terms (sym_token n) = symbol n ∷ []
token_terms k = token_constants k

-- those of all tokens, and the ground operands of all tests
abbrev pub program_constants : Program → List Tree
program_constants p =
    flat_map (λ i. token_terms i.token) p.code ++ flat_map (λ c. condition_constants (Some c)) p.tests
