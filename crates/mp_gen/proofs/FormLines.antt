-- The lines of a program have no line feed, and those that declare something are declarations.
use Rattle.std.proofs.Common.{◌≡◌, ℕ, suc, ◌+◌, List, [], ◌∷◌, ◌++◌, map, length, true}
use Rattle.std.proofs.Common.{refl, arith}
use Rattle.std.specs.Prelude.{Option, Some, None, ⊤, not, flat_map, codes, decimal}
use Rattle.std.specs.List.{AllByRecursion}
use Rattle.mp_term.specs.Names.{is_name}
use Rattle.mp_term.specs.Signature.{Sig, Kind}
use Rattle.mp_term.proofs.ListLaws.{all-append}
use Rattle.mp_pattern.specs.NetTokens.{NetToken, sym_token, enter_token, leave_token, wild_token, comm_token}
use Rattle.mp_pattern.specs.PatternTree.{Wildcard, dot, kind, plus, star, optional, counted}
use Rattle.mp_walk.specs.Instrs.{Instr}
use Rattle.mp_print.specs.Printing.{text_if, kind_name_text, preceded, separated, term_text}
use Rattle.mp_print.specs.PrintedPattern.{pattern_text}
use Rattle.mp_print.specs.PrintedCond.{op_name_text}
use Rattle.mp_print.specs.PrintedSignature.{kind_text}
use Rattle.mp_round_trip.specs.Readable.{IsSpelledSignature}
use Rattle.mp_program.specs.FormText.{lines_of, variable_text, target_text, action_text, wild_text, token_text}
use Rattle.mp_program.specs.FormText.{instr_line, instr_lines, code_lines}
use Rattle.mp_program.specs.RightForm.{IsShort, IsShortTarget, IsDeclaration}
use Rattle.mp_program.proofs.LineLaws.{IsOneLine}
use Rattle.mp_program_laws.proofs.LineFeeds.{HasOneLines, if-line, line-append, name-line, name-lines}
use Rattle.mp_program_laws.proofs.LineFeeds.{decimal-line, preceded-line, separated-line, kind-line, op-line}
use Rattle.mp_program_laws.proofs.LineFeeds.{term-line, count-line, pattern-line}
use Rattle.mp_program_laws.proofs.DeclaredLines.{IsStatement, ends-more, statement-ends, declared-lines}
use Rattle.mp_gen.proofs.FlatPatterns.{IsFormedWildcard, IsFormedToken}

-- ---- declarations

kind-statement : (k : Kind) → IsOneLine k.name → AllByRecursion IsOneLine k.members
    → IsStatement (codes "kind ") (kind_text k)
kind-statement k h i = statement-ends (codes "kind ") ((k.name ++ codes ": ") ++ _)
    (ends-more (k.name ++ codes ": ") _ (line-append k.name (codes ": ") h refl)
    (ends-more (separated (codes " ") k.members) _ (separated-line (codes " ") k.members refl i)
    (record { front = []; is = refl; line = refl })))

module _ (sig : Sig) (spelled : IsSpelledSignature sig) where
  -- the lines of kinds are declarations where their members are names
  pub kind-declared : AllByRecursion (λ k. AllByRecursion (λ m. is_name m ≡ true) k.members) sig.kinds
      → AllByRecursion (IsDeclaration (codes "kind ")) (lines_of (flat_map kind_text sig.kinds))
  kind-declared members = declared-lines (codes "kind ") kind_text sig.kinds refl
      (each sig.kinds spelled.kinds members)
    where
      each : (ks : List Kind) → AllByRecursion (λ k. is_name k.name ≡ true) ks
          → AllByRecursion (λ k. AllByRecursion (λ m. is_name m ≡ true) k.members) ks
          → AllByRecursion (λ k. IsStatement (codes "kind ") (kind_text k)) ks
      each [] h i = tt
      each (k ∷ ks) h i = (kind-statement k (name-line k.name h.0) (name-lines k.members i.0), each ks h.1 i.1)

-- ---- instructions

variable-line : (x : Option ℕ) → IsShortTarget x → IsOneLine (variable_text x)
variable-line None h = refl
variable-line (Some n) h = line-append (codes "v") (decimal n) refl (decimal-line n h)

target-line : (t : Option ℕ) → IsShortTarget t → IsOneLine (target_text t)
target-line None h = refl
target-line (Some n) h = decimal-line n h

action-line : (t : Option ℕ) (rules : List ℕ) → IsShortTarget t → AllByRecursion IsShort rules
    → IsOneLine (action_text t rules)
action-line (Some n) rules h k = line-append (codes "down ") (decimal n) refl (decimal-line n h)
action-line None rules h k = line-append (codes "accept") (preceded (codes " ") (map decimal rules)) refl
    (preceded-line (codes " ") (map decimal rules) refl (each rules k))
  where
    each : (ns : List ℕ) → AllByRecursion IsShort ns → AllByRecursion IsOneLine (map decimal ns)
    each [] i = tt
    each (n ∷ ns) i = (decimal-line n i.0, each ns i.1)

module _ (sig : Sig) (lines : HasOneLines sig) where
  wild-line : (w : Wildcard) (x : Option ℕ) → IsFormedWildcard sig w → IsShortTarget x → IsOneLine (wild_text sig w x)
  wild-line dot x h k = line-append (codes "dot ") (variable_text x) refl (variable-line x k)
  wild-line (kind n) x h k =
      line-append (codes "kind ") (kind_name_text sig n ++ (codes " " ++ variable_text x)) refl
      (line-append (kind_name_text sig n) (codes " " ++ variable_text x) (kind-line sig lines n)
      (line-append (codes " ") (variable_text x) refl (variable-line x k)))
  wild-line plus x h k = line-append (codes "plus ") (variable_text x) refl (variable-line x k)
  wild-line star x h k = line-append (codes "star ") (variable_text x) refl (variable-line x k)
  wild-line (optional t) x h k =
      line-append (codes "opt ") (variable_text x ++ (codes " " ++ term_text sig t)) refl
      (line-append (variable_text x) (codes " " ++ term_text sig t) (variable-line x k)
      (line-append (codes " ") (term_text sig t) refl (term-line sig lines t h.0.symbols)))
  wild-line (counted n exact) x h k =
      line-append (codes "counted ")
      (variable_text x ++ (codes " " ++ (decimal n ++ text_if (not exact) (codes "+")))) refl
      (line-append (variable_text x) (codes " " ++ (decimal n ++ text_if (not exact) (codes "+"))) (variable-line x k)
      (line-append (codes " ") (decimal n ++ text_if (not exact) (codes "+")) refl
      (line-append (decimal n) (text_if (not exact) (codes "+")) (count-line sig lines n h.0.1)
      (if-line (not exact) (codes "+") refl))))

  -- the variable of a token has a short number
  abbrev pub HasShortVariable : NetToken → Type 0
  HasShortVariable (wild_token w x) = IsShortTarget x
  HasShortVariable _ = ⊤

  token-line : (k : NetToken) → IsFormedToken sig k → HasShortVariable k → IsOneLine (token_text sig k)
  token-line (sym_token n) h s = line-append (codes "sym ") n refl (name-line n h.name)
  token-line (enter_token f) h s = line-append (codes "enter ") (op_name_text sig f) refl (op-line sig lines f)
  token-line (leave_token f) h s = line-append (codes "leave ") (op_name_text sig f) refl (op-line sig lines f)
  token-line (wild_token w x) h s = wild-line w x h s
  token-line (comm_token p) h s = line-append (codes "comm ") (pattern_text sig p) refl (pattern-line sig lines p h.0)

  -- an instruction of one line: its token is formed and its numbers are short
  pub record IsLineInstr (i : Instr) : Type 0 where
    pub token : IsFormedToken sig i.token
    pub variable : HasShortVariable i.token
    pub down : IsShortTarget i.down
    pub accepts : AllByRecursion IsShort i.accepts
    pub over : IsShortTarget i.over

  instr-line : (n : ℕ) (i : Instr) → IsShort n → IsLineInstr i → IsOneLine (instr_line sig n i)
  instr-line n i s h =
      let rest = codes " over " ++ target_text i.over in
      let action = action_text i.down i.accepts in
      line-append (decimal n) (codes " " ++ (token_text sig i.token ++ (codes " " ++ (action ++ rest))))
      (decimal-line n s)
      (line-append (codes " ") (token_text sig i.token ++ (codes " " ++ (action ++ rest))) refl
      (line-append (token_text sig i.token) (codes " " ++ (action ++ rest)) (token-line i.token h.token h.variable)
      (line-append (codes " ") (action ++ rest) refl
      (line-append action rest (action-line i.down i.accepts h.down h.accepts)
      (line-append (codes " over ") (target_text i.over) refl (target-line i.over h.over))))))

  instrs-line : (n : ℕ) (is : List Instr) → IsShort (n + length is) → AllByRecursion IsLineInstr is
      → AllByRecursion IsOneLine (instr_lines sig n is)
  instrs-line n [] s h = tt
  instrs-line n (i ∷ is) s h =
      (instr-line n i (omega (arith, s)) h.0, instrs-line (suc n) is (omega (arith, s)) h.1)

  -- the lines of instructions
  pub code-line : (n : ℕ) (is : List Instr) → IsShort (n + length is) → AllByRecursion IsLineInstr is
      → AllByRecursion IsOneLine (code_lines sig n is)
  code-line n is s h = all-append IsOneLine (instr_lines sig n is) ((decimal (n + length is) ++ codes " stop") ∷ [])
      (instrs-line n is s h)
      (line-append (decimal (n + length is)) (codes " stop") (decimal-line (n + length is) s) refl, tt)
