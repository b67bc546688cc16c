-- Worked examples, by computing.
use Rattle.std.proofs.Common.{◌≡◌, ℕ, true, false, List, [], ◌∷◌, ◌++◌, map, Some, None, Result, Ok, Err, refl}
use Rattle.std.specs.Prelude.{codes, replicate}
use Rattle.mp_parser.specs.declared.place.Place.{Place}
use Rattle.mp_parser.specs.declared.token.Punct.TheVariants.{Dot}
use Rattle.mp_parser.specs.declared.fault.Fault.{Fault}
use Rattle.mp_parser.specs.declared.fault.FaultKind.{FaultKind}
use Rattle.mp_parser.specs.declared.fault.FaultKind.TheVariants as kinds
use Rattle.mp_parser.specs.declared.condition_tree.Measure.TheVariants.{Count}
use Rattle.mp_parser.specs.declared.condition_tree.Sense.TheVariants.{Lt, Eq}
use Rattle.mp_parser.specs.declared.condition_tree.Relation.TheVariants.{Less}
use Rattle.mp_parser.specs.declared.condition_tree.Property.TheVariants as properties
use Rattle.mp_parser.specs.Tokens.{Token, Word, Wildcard, Sign, Arrow, Punctuation, Long, End, Placed, first_place}
use Rattle.mp_parser.specs.Lexing.{lexemes}
use Rattle.mp_parser.specs.Syntax as syntax
use Rattle.mp_parser.specs.Syntax.{Spot, Tree, Symbol, Apply, InfixOf, Wild, Optional, Variable, trees, Number}
use Rattle.mp_parser.specs.Syntax.{Measured, Compare, Relate, Test, AtomOf, Bracketed, literals, condition, Assoc}
use Rattle.mp_parser.specs.Syntax.{Comm, Infixed, Statement, OpOf, KindOf, RuleOf, SubjectOf}
use Rattle.mp_syntax.specs.Begins.{OfFile}
use Rattle.mp_syntax.specs.FirstFault.{IsFirstFault}
use Rattle.mp_parser.specs.Syntax.{Counted, Root, Path, Single, Listed, EditOf}
use Rattle.mp_syntax.specs.Reading.{reading, expr_reading, condition_reading}
use Rattle.mp_syntax.proofs.InOrder.{text_reading-first}

abbrev at : ℕ → ℕ → Place
at line column = record { line = line; column = column }

abbrev word : List ℕ → ℕ → ℕ → Spot
word text line column = record { text = text; place = at line column }

-- a wildcard in the first line
abbrev wild : List ℕ → ℕ → List ℕ → ℕ → syntax.Wildcard
wild name marks kind column = record { name = name; marks = marks; kind = kind; place = at 1 column }

abbrev wildcard : List ℕ → ℕ → List ℕ → ℕ → Tree
wildcard name marks kind column = Wild (wild name marks kind column)

abbrev fault : FaultKind → ℕ → ℕ → Result (List Statement) Fault
fault kind line column = Err (record { kind = kind; place = at line column })

abbrev tokens_of : List ℕ → List Token
tokens_of bytes = map (λ (t : Placed). t.token) (lexemes bytes first_place)

-- a file and its statements
file-read : reading (codes "op f 2;\nrule r: f(x_, a);")
    ≡ Ok (OpOf (word (codes "f") 1 4) (word (codes "2") 1 6) false []
    ∷ RuleOf (word (codes "r") 2 6)
    (Apply (word (codes "f") 2 9)
    (trees (Wild (record { name = codes "x"; marks = 1; kind = []; place = at 2 11 }) ∷ Symbol (word (codes "a") 2 15)
    ∷ []))) None None ∷ [])
unfolding lexemes
file-read = refl

-- a plus and flags, in their order
op-read : reading (codes "op p 1+ comm infix + assoc;")
    ≡ Ok (OpOf (word (codes "p") 1 4) (word (codes "1") 1 6) true (Comm ∷ Infixed (word (codes "+") 1 20) ∷ Assoc ∷ [])
    ∷ [])
unfolding lexemes
op-read = refl

-- words are told by their place alone
words-read : reading (codes "op op 1 comm;kind kind: kind op;")
    ≡ Ok (OpOf (word (codes "op") 1 4) (word (codes "1") 1 7) false (Comm ∷ [])
    ∷ KindOf (word (codes "kind") 1 19) (word (codes "kind") 1 25 ∷ word (codes "op") 1 30 ∷ []) ∷ [])
unfolding lexemes
words-read = refl

-- operands with one sign, which is kept where it stands first
infix-read : reading (codes "subject s: (a + (b * c) + d);")
    ≡ Ok (SubjectOf (word (codes "s") 1 9)
    (InfixOf (at 1 12) (word (codes "+") 1 15)
    (trees (Symbol (word (codes "a") 1 13) ∷ InfixOf (at 1 17) (word (codes "*") 1 20)
    (trees (Symbol (word (codes "b") 1 18) ∷ Symbol (word (codes "c") 1 22) ∷ [])) ∷ Symbol (word (codes "d") 1 27)
    ∷ []))) ∷ [])
unfolding lexemes
infix-read = refl

-- another sign and the arrow are refused where they stand, and so is a bracket round one operand
other-sign-refused : reading (codes "subject s: (a + b * c);") ≡ fault kinds.Syntax 1 19
unfolding lexemes
other-sign-refused = refl

arrow-refused : reading (codes "subject s: (a -> b);") ≡ fault kinds.Syntax 1 15
unfolding lexemes
arrow-refused = refl

one-operand-refused : reading (codes "subject s: (a);") ≡ fault kinds.Syntax 1 14
unfolding lexemes
one-operand-refused = refl

-- a comment runs to the end of its line, whatever stands in it
comment-read : reading (codes "# a # b;\nsubject s: a; # op")
    ≡ Ok (SubjectOf (word (codes "s") 2 9) (Symbol (word (codes "a") 2 12)) ∷ [])
unfolding lexemes
comment-read = refl

-- four underscores are two tokens, and a kind stands behind a single one alone
underscores-lexed : tokens_of (codes "x____y x__K")
    ≡ Wildcard (codes "x") 3 [] ∷ Wildcard [] 1 (codes "y") ∷ Wildcard (codes "x") 2 [] ∷ Word (codes "K") ∷ End ∷ []
unfolding lexemes
underscores-lexed = refl

underscores-refused : reading (codes "rule r: x____;") ≡ fault kinds.Syntax 1 13
unfolding lexemes
underscores-refused = refl

-- a wildcard has one to three underscores, and behind a single one perhaps a kind
wildcards-read : reading (codes "rule r: f(x_, y_K, x__, 1___);")
    ≡ Ok (RuleOf (word (codes "r") 1 6)
    (Apply (word (codes "f") 1 9)
    (trees (wildcard (codes "x") 1 [] 11 ∷ wildcard (codes "y") 1 (codes "K") 15 ∷ wildcard (codes "x") 2 [] 20
    ∷ wildcard (codes "1") 3 [] 25 ∷ []))) None None ∷ [])
unfolding lexemes
wildcards-read = refl

-- a wildcard may have no name
unnamed-read : reading (codes "rule r: f(_K, ___);")
    ≡ Ok (RuleOf (word (codes "r") 1 6)
    (Apply (word (codes "f") 1 9) (trees (wildcard [] 1 (codes "K") 11 ∷ wildcard [] 3 [] 15 ∷ []))) None None ∷ [])
unfolding lexemes
unnamed-read = refl

-- a colon behind one underscore gives a default; a chain is one expression, and the last wildcard of it may be the
-- default
default-read : expr_reading (codes "x_:f(a)")
    ≡ Ok (Optional (wild (codes "x") 1 [] 1) []
    (Apply (word (codes "f") 1 4) (trees (Symbol (word (codes "a") 1 6) ∷ []))))
unfolding lexemes
default-read = refl

chain-read : expr_reading (codes "x_:_:y_K")
    ≡ Ok (Optional (wild (codes "x") 1 [] 1) (wild [] 1 [] 4 ∷ []) (wildcard (codes "y") 1 (codes "K") 6))
unfolding lexemes
chain-read = refl

-- a colon behind another wildcard is refused
kind_default-refused : reading (codes "rule r: x_K:a;") ≡ fault kinds.Syntax 1 12
unfolding lexemes
kind_default-refused = refl

-- a sign is the longest run, and the arrow is a run of its own
signs-lexed : tokens_of (codes "-> ->> a->b.")
    ≡ Arrow ∷ Sign (codes "->>") ∷ Word (codes "a") ∷ Arrow ∷ Word (codes "b") ∷ Punctuation Dot ∷ End ∷ []
unfolding lexemes
signs-lexed = refl

-- a word has at most 64 bytes, also within a wildcard
words-lexed : tokens_of (replicate 64 97 ++ codes " " ++ replicate 65 97 ++ codes " x_" ++ replicate 65 97)
    ≡ Word (replicate 64 97) ∷ Long ∷ Long ∷ End ∷ []
unfolding lexemes
words-lexed = refl

long-refused : reading (codes "op " ++ replicate 65 97 ++ codes " 2;") ≡ fault kinds.TooMany 1 4
unfolding lexemes
long-refused = refl

-- an expression alone is read up to the end
expression-read : expr_reading (codes "f(x_)")
    ≡ Ok (Apply (word (codes "f") 1 1) (trees (wildcard (codes "x") 1 [] 3 ∷ [])))
unfolding lexemes
expression-read = refl

semicolon-refused : expr_reading (codes "a;") ≡ Err (record { kind = kinds.Syntax; place = at 1 2 })
unfolding lexemes
semicolon-refused = refl

-- a byte that begins no token, and a file that stops within a statement
bad-refused : reading (codes "op f 2;\n  \\") ≡ fault kinds.BadByte 2 3
unfolding lexemes
bad-refused = refl

end-refused : reading (codes "op f 2") ≡ fault kinds.Syntax 1 7
unfolding lexemes
end-refused = refl

-- words are told by their place, those of conditions too
rule-read : reading (codes "rule if: if if count(if) == 1;")
    ≡ Ok (RuleOf (word (codes "if") 1 6) (Symbol (word (codes "if") 1 10)) None
    (Some (condition
    (literals
    (AtomOf false (Compare (Measured Count (Symbol (word (codes "if") 1 22))) Eq (Number (word (codes "1") 1 29))) ∷ [])
    ∷ []))) ∷ [])
unfolding lexemes
rule-read = refl

-- a template stands behind the arrow, and a count in braces
template-read : reading (codes "rule r: f(x_{2+}) -> $x;")
    ≡ Ok (RuleOf (word (codes "r") 1 6)
    (Apply (word (codes "f") 1 9) (trees (Counted (wild (codes "x") 1 [] 11) (word (codes "2") 1 14) true ∷ [])))
    (Some (Variable (word (codes "x") 1 22))) None ∷ [])
unfolding lexemes
template-read = refl

-- a count is no default, and stands behind one underscore without a kind alone
counted-refused : reading (codes "rule r: x_{2}:a;") ≡ fault kinds.Syntax 1 14
unfolding lexemes
counted-refused = refl

plus-refused : reading (codes "rule r: x__{2};") ≡ fault kinds.Syntax 1 12
unfolding lexemes
plus-refused = refl

-- positions and what stands there then
edit-read : reading (codes "edit s: 0.1 -> a, . -> [b, c], 2 -> [];")
    ≡ Ok (EditOf (word (codes "s") 1 6) (record {
      position = Path (word (codes "0") 1 9) (word (codes "1") 1 11 ∷ []);
      terms = Single (Symbol (word (codes "a") 1 16));
    } ∷ record {
      position = Root (at 1 19);
      terms = Listed (trees (Symbol (word (codes "b") 1 25) ∷ Symbol (word (codes "c") 1 28) ∷ []));
    } ∷ record { position = Path (word (codes "2") 1 32) []; terms = Listed (trees []) } ∷ []) ∷ [])
unfolding lexemes
edit-read = refl

-- an edit has a change
edit-refused : reading (codes "edit s: ;") ≡ fault kinds.Syntax 1 9
unfolding lexemes
edit-refused = refl

-- square brackets are kept, and `and` binds before `or`
condition-read : condition_reading (codes "not [less($x, a)] and 1 < 2 or kind($x, v)")
    ≡ Ok (condition
    (literals
    (Bracketed true
    (condition
    (literals (AtomOf false (Relate Less (Variable (word (codes "x") 1 11)) (Symbol (word (codes "a") 1 15))) ∷ [])
    ∷ [])) ∷ AtomOf false (Compare (Number (word (codes "1") 1 23)) Lt (Number (word (codes "2") 1 27))) ∷ [])
    ∷ literals (AtomOf false (Test properties.Kind (Variable (word (codes "x") 1 37)) (word (codes "v") 1 41)) ∷ [])
    ∷ []))
unfolding lexemes
condition-read = refl

-- one `not` at a time, and a condition in a rule alone
not-refused : condition_reading (codes "not not 1 == 1") ≡ Err (record { kind = kinds.Syntax; place = at 1 5 })
unfolding lexemes
not-refused = refl

if-refused : reading (codes "subject s: a if 1 == 1;") ≡ fault kinds.Syntax 1 14
unfolding lexemes
if-refused = refl

-- ---- first faults

-- behind the word in brackets no file goes on with the closing one
bracket-first : IsFirstFault OfFile (codes "subject s: (a);") (record { kind = kinds.Syntax; place = at 1 14 })
unfolding lexemes
bracket-first =
    text_reading-first OfFile (codes "subject s: (a);") (record { kind = kinds.Syntax; place = at 1 14 }) refl

-- a byte that begins no token comes first, also behind it
byte-first : IsFirstFault OfFile (codes "subject s: (a);\\") (record { kind = kinds.BadByte; place = at 1 16 })
unfolding lexemes
byte-first =
    text_reading-first OfFile (codes "subject s: (a);\\") (record { kind = kinds.BadByte; place = at 1 16 }) refl
