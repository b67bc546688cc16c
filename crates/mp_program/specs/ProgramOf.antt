-- The program that the lines of a program text stand for.
use Rattle.std.specs.Prelude.{ℕ, suc, Bool, List, [], ◌∷◌, ◌++◌, map, flat_map, Option, Some, None, if◌then◌else◌}
use Rattle.std.specs.Prelude.{bytes_eq}
use Rattle.mp_io.specs.Devices.{Text}
use Rattle.mp_term.specs.Signature.{Sig}
use Rattle.mp_pattern.specs.CondTree.{Operand, var, ground, Amount, fixed, count, size, Cond, amounts, same, less, free}
use Rattle.mp_pattern.specs.CondTree.{of_kind, headed, negation, all_of, any_of, Conds, no_conds, more_conds}
use Rattle.mp_pattern.specs.Firsts.{firsts_after}
use Rattle.mp_pattern.specs.NetTokens.{numbered, number_in}
use Rattle.mp_print.specs.PrintedCond.{cond_text}
use Rattle.mp_program.specs.Program.{ProgramRule, Program}
use Rattle.mp_program.specs.Form.{RuleTest, untested, tested, spelled, RuleLine, Form}

-- ---- conditions with numbered variables

module _ (xs : List Text) where
  -- the operand, where a variable is called by its place among xs
  abbrev pub renamed_operand : Operand → Operand
  renamed_operand (var x) = var (numbered (number_in xs x))
  renamed_operand (ground t) = ground t

  -- the amount, where that of its operand is called so
  abbrev pub renamed_amount : Amount → Amount
  renamed_amount (fixed n) = fixed n
  renamed_amount (count a) = count (renamed_operand a)
  renamed_amount (size a) = size (renamed_operand a)

  abbrev mutual
    -- the condition, where its variables are called so
    pub renamed_cond : Cond → Cond
    renamed_cond (amounts m c n) = amounts (renamed_amount m) c (renamed_amount n)
    renamed_cond (same a b) = same (renamed_operand a) (renamed_operand b)
    renamed_cond (less a b) = less (renamed_operand a) (renamed_operand b)
    renamed_cond (free a b) = free (renamed_operand a) (renamed_operand b)
    renamed_cond (of_kind a k) = of_kind (renamed_operand a) k
    renamed_cond (headed a f) = headed (renamed_operand a) f
    renamed_cond (negation c) = negation (renamed_cond c)
    renamed_cond (all_of cs) = all_of (renamed_conds cs)
    renamed_cond (any_of cs) = any_of (renamed_conds cs)

    -- so of each condition
    pub renamed_conds : Conds → Conds
    renamed_conds no_conds = no_conds
    renamed_conds (more_conds c cs) = more_conds (renamed_cond c) (renamed_conds cs)

-- ---- tests

-- the conditions have one printed text: those that are read of their printed text are then equal
abbrev pub same_cond : Sig → Cond → Cond → Bool
same_cond sig c d = bytes_eq (cond_text sig c) (cond_text sig d)

-- how many of the conditions stand before c
abbrev pub cond_place : Sig → List Cond → Cond → ℕ
cond_place sig [] c = 0
cond_place sig (d ∷ ds) c = if same_cond sig d c then 0 else suc (cond_place sig ds c)

-- the condition that a rule line spells, its variables called by their places in the line
abbrev pub spelled_test : List Text → RuleTest → List Cond
spelled_test vars (spelled c) = renamed_cond vars c ∷ []
spelled_test vars _ = []

-- the tests: those of the test lines, and those that rule lines spell, each once
abbrev pub tests_of : Sig → Form → List Cond
tests_of sig f = f.tests ++ firsts_after (same_cond sig) [] (flat_map (λ r. spelled_test r.vars r.test) f.rules)

-- the number of a rule's test
abbrev pub test_number : Sig → List Cond → List Text → RuleTest → Option ℕ
test_number sig tests vars untested = None
test_number sig tests vars (tested n) = Some n
test_number sig tests vars (spelled c) = Some (cond_place sig tests (renamed_cond vars c))

-- the rule of a rule line
abbrev pub rule_of : Sig → List Cond → RuleLine → ProgramRule
rule_of sig tests r = record { name = r.name; vars = r.vars; test = test_number sig tests r.vars r.test }

-- the program
abbrev pub program_of : Sig → Form → Program
program_of sig f = record {
  rules = map (rule_of sig (tests_of sig f)) f.rules;
  tests = tests_of sig f;
  code = f.code;
}
