-- The printed text of a program in the parts in which it is printed.
use Rattle.std.proofs.Common.{◌≡◌, ℕ, suc, ◌+◌, ◌<◌, List, [], ◌∷◌, ◌++◌, map, length, take, get_or, refl, sym}
use Rattle.std.proofs.Common.{ap, ◌∙◌, Some, None, true, false}
use Rattle.std.proofs.Common.{append_assoc, append-nil, arith}
use Rattle.std.specs.Prelude.{codes, decimal, not, is_some, unwrap_or, nat_eq}
use Rattle.std.specs.Fmt.{digits}
use Rattle.std.specs.List.{flat_map}
use Rattle.std.proofs.lemmas.List.{take_more, map-append, length-map, length-take-le}
use Rattle.mp_io.specs.Devices.{Text}
use Rattle.mp_term.specs.declared.signature.OpDecl.{OpDecl}
use Rattle.mp_term.specs.Signature.{Sig, Kind}
use Rattle.mp_walk.specs.Instrs.{Instr}
use Rattle.mp_print.specs.Printing.{preceded, separated, text_if}
use Rattle.mp_print.specs.PrintedSignature.{op_text, kind_text, head_text, signature_text}
use Rattle.mp_program.specs.Program.{Program}
use Rattle.mp_program.specs.FormText.{lines_of, lines_text, instr_line, instr_lines, code_lines, test_line, rule_line}
use Rattle.mp_program.specs.FormText.{line_of_rule, target_text, first_target, program_text}
use Rattle.mp_program.proofs.LineLaws.{Ended, Ended-append, lines_text-append, lines_text-map, lines_text-lines_of}

-- ---- declarations

-- the declaration of an operation ends with a line feed
pub op-ended : (d : OpDecl) → Ended (op_text d)
op-ended d =
    Ended-append (codes "op ") _ (Ended-append d.name _ (Ended-append (codes " ") _ (Ended-append (decimal d.least) _
    (Ended-append (text_if (not d.fixed) (codes "+")) _ (Ended-append (text_if d.assoc (codes " assoc")) _
    (Ended-append (text_if d.comm (codes " comm")) _ (Ended-append (text_if d.one (codes " one")) _
    (Ended-append (text_if (is_some d.sign) (codes " infix ")) _ (Ended-append (unwrap_or d.sign []) _
    (59 ∷ [], refl))))))))))

-- so does that of a kind
pub kind-ended : (k : Kind) → Ended (kind_text k)
kind-ended k = Ended-append (head_text (codes "kind") k.name) _ (Ended-append (separated (codes " ") k.members) _
    (59 ∷ [], refl))

-- the lines of the declarations of a signature are their text
pub declared-text : (sig : Sig) → lines_text (lines_of (flat_map op_text sig.ops))
    ++ lines_text (lines_of (flat_map kind_text sig.kinds)) ≡ signature_text sig
declared-text sig =
    ap (λ t. t ++ lines_text (lines_of (flat_map kind_text sig.kinds))) (lines_text-lines_of op_text sig.ops op-ended)
    ∙ ap (λ t. flat_map op_text sig.ops ++ t) (lines_text-lines_of kind_text sig.kinds kind-ended)

-- ---- texts behind separators

-- the texts of items behind a separator
pub preceded-map : {X : Type 0} (s : Text) (f : X → Text) (xs : List X)
    → preceded s (map f xs) ≡ flat_map (λ x. s ++ f x) xs
preceded-map s f [] = refl
preceded-map s f (x ∷ xs) = ap (λ t. s ++ (f x ++ t)) (preceded-map s f xs)
    ∙ sym (append_assoc s (f x) (flat_map (λ y. s ++ f y) xs))

-- the same of texts
pub preceded-flat_map : (s : Text) (xs : List Text) → preceded s xs ≡ flat_map (λ x. s ++ x) xs
preceded-flat_map s [] = refl
preceded-flat_map s (x ∷ xs) = ap (λ t. s ++ (x ++ t)) (preceded-flat_map s xs)
    ∙ sym (append_assoc s x (flat_map (λ y. s ++ y) xs))

-- ---- instructions

-- the line of an instruction with its end
pub line-end : (number token action target : Text)
    → (number ++ (codes " " ++ (token ++ (codes " " ++ (action ++ (codes " over " ++ target)))))) ++ 10 ∷ []
    ≡ number ++ (codes " " ++ (token ++ (codes " " ++ (action ++ (codes " over " ++ (target ++ 10 ∷ []))))))
line-end number token action target = simp append_assoc

-- the lines of instructions and one more
instr_lines-push : (sig : Sig) (n : ℕ) (is : List Instr) (i : Instr)
    → instr_lines sig n (is ++ i ∷ []) ≡ instr_lines sig n is ++ instr_line sig (n + length is) i ∷ []
instr_lines-push sig n [] i = let e : n + 0 ≡ n = omega arith in ap (λ m. instr_line sig m i ∷ []) (sym e)
instr_lines-push sig n (j ∷ is) i =
    let e : suc n + length is ≡ n + suc (length is) = omega arith in
    ap (λ ls. instr_line sig n j ∷ ls) (instr_lines-push sig (suc n) is i)
    ∙ ap (λ m. instr_line sig n j ∷ (instr_lines sig (suc n) is ++ instr_line sig m i ∷ [])) e

-- the text of the lines of the instructions before the next index
pub instr_lines-next : {X : Type 0} (sig : Sig) (f : X → Instr) (xs : List X) (n : ℕ) (x : X) → n < length xs
    → x ≡ get_or xs n x
    → lines_text (instr_lines sig 1 (map f (take (n + 1) xs)))
    ≡ lines_text (instr_lines sig 1 (map f (take n xs))) ++ (instr_line sig (n + 1) (f x) ++ 10 ∷ [])
instr_lines-next {X = X} sig f xs n x within is =
    let before = map f (take n xs) in
    let front : map f (take (n + 1) xs) ≡ before ++ f x ∷ [] =
    ap (map f) (take_more xs n x within ∙ ap (λ y. take n xs ++ y ∷ []) (sym is)) ∙ map-append f (take n xs) (x ∷ []) in
    let count : 1 + length before ≡ n + 1 =
    omega (arith, length-map (take n xs) f, length-take-le n xs (omega arith)) in
    ap (λ l. lines_text (instr_lines sig 1 l)) front
    ∙ ap lines_text (instr_lines-push sig 1 before (f x))
    ∙ lines_text-append (instr_lines sig 1 before) (instr_line sig (1 + length before) (f x) ∷ [])
    ∙ ap (λ t. lines_text (instr_lines sig 1 before) ++ t)
    (append-nil (instr_line sig (1 + length before) (f x) ++ 10 ∷ [])
    ∙ ap (λ m. instr_line sig m (f x) ++ 10 ∷ []) count)

-- the text of the lines of all instructions and of `stop`
pub code_lines-text : (sig : Sig) (is : List Instr) (n : ℕ) → n ≡ 1 + length is → lines_text (code_lines sig 1 is)
    ≡ lines_text (instr_lines sig 1 is) ++ (decimal n ++ codes " stop\n")
code_lines-text sig is n e =
    lines_text-append (instr_lines sig 1 is) ((decimal (1 + length is) ++ codes " stop") ∷ [])
    ∙ ap (λ t. lines_text (instr_lines sig 1 is) ++ t)
    (append-nil ((decimal (1 + length is) ++ codes " stop") ++ 10 ∷ [])
    ∙ append_assoc (decimal (1 + length is)) (codes " stop") (10 ∷ [])
    ∙ ap (λ m. decimal m ++ codes " stop\n") (sym e))

-- the first instruction
pub first_target-none : {X : Type 0} (f : X → Instr) (xs : List X) → length xs ≡ 0 → None ≡ first_target (map f xs)
first_target-none f [] e = refl
first_target-none f (x ∷ xs) e = absurd (omega arith)

-- where there are instructions the first has the number 1
pub first_target-some : {X : Type 0} (f : X → Instr) (xs : List X) → nat_eq (length xs) 0 ≡ false
    → Some 1 ≡ first_target (map f xs)
first_target-some f [] h = (let wrong : true ≡ false = h in cc)
first_target-some f (x ∷ xs) h = refl

-- the line of a rule with its end
pub rule-end : (name vars test : Text) → (codes "rule " ++ (name ++ (vars ++ (test ++ codes ";")))) ++ 10 ∷ []
    ≡ codes "rule " ++ (name ++ (vars ++ (test ++ codes ";\n")))
rule-end name vars test = simp append_assoc

-- ---- the whole text

-- the lines of what items are read as
lines_text-maps : {X Y : Type 0} (g : X → Y) (f : Y → Text) (xs : List X)
    → lines_text (map f (map g xs)) ≡ flat_map (λ x. f (g x) ++ 10 ∷ []) xs
lines_text-maps g f [] = refl
lines_text-maps g f (x ∷ xs) = ap (λ t. (f (g x) ++ 10 ∷ []) ++ t) (lines_text-maps g f xs)

module _ (sig : Sig) (p : Program) where
  -- the lines of operations
  abbrev op_lines : List Text
  op_lines = lines_of (flat_map op_text sig.ops)

  -- the lines of kinds
  abbrev kind_lines : List Text
  kind_lines = lines_of (flat_map kind_text sig.kinds)

  -- the text of the tests
  abbrev tests_text : Text
  tests_text = flat_map (λ t. test_line sig t ++ codes "\n") p.tests

  -- the text of the rules
  abbrev rules_text : Text
  rules_text = flat_map (λ r. rule_line sig (line_of_rule r) ++ codes "\n") p.rules

  -- the lines from `code` on
  abbrev lines_from_code : List Text
  lines_from_code = codes "code" ∷ (codes "0 begin down " ++ target_text (first_target p.code))
      ∷ code_lines sig 1 p.code

  -- the lines from the first rule on
  abbrev lines_from_rules : List Text
  lines_from_rules = map (rule_line sig) (map line_of_rule p.rules) ++ lines_from_code

  -- the text from `code` on
  abbrev pub code_text : Text
  code_text = codes "code\n0 begin down " ++ (target_text (first_target p.code) ++ (codes "\n"
      ++ lines_text (code_lines sig 1 p.code)))

  lines_from_code-text : lines_text lines_from_code ≡ code_text
  lines_from_code-text = ap (λ t. codes "code\n0 begin down " ++ t)
      (append_assoc (target_text (first_target p.code)) (codes "\n") (lines_text (code_lines sig 1 p.code)))

  -- the printed text of a program is these parts one after the other
  pub program_text-parts : program_text sig p
      ≡ codes "matchpy program 2\n" ++ (signature_text sig ++ (tests_text ++ (rules_text ++ code_text)))
  unfolding digits
  program_text-parts =
      ap (λ t. codes "matchpy program 2\n" ++ t) (
      lines_text-append op_lines _
      ∙ ap (λ t. lines_text op_lines ++ t) (
      lines_text-append kind_lines _
      ∙ ap (λ t. lines_text kind_lines ++ t) (
      lines_text-append (map (test_line sig) p.tests) _
      ∙ ap (λ t. t ++ lines_text lines_from_rules) (lines_text-map (test_line sig) p.tests)
      ∙ ap (λ t. tests_text ++ t) (
      lines_text-append (map (rule_line sig) (map line_of_rule p.rules)) lines_from_code
      ∙ ap (λ t. t ++ lines_text lines_from_code) (lines_text-maps line_of_rule (rule_line sig) p.rules)
      ∙ ap (λ t. rules_text ++ t) lines_from_code-text)))
      ∙ sym (append_assoc (lines_text op_lines) (lines_text kind_lines) _)
      ∙ ap (λ t. t ++ (tests_text ++ (rules_text ++ code_text))) (declared-text sig))
