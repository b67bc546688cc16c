-- The program of rules in the parts of which it is made.
use Rattle.std.proofs.Common.{◌≡◌, ℕ, List, [], map, refl}
use Rattle.std.specs.List.{flat_map}
use Rattle.mp_term.specs.Signature.{Sig}
use Rattle.mp_pattern.specs.Admission.{Rule}
use Rattle.mp_pattern.specs.CondTree.{Cond}
use Rattle.mp_pattern.specs.Firsts.{firsts_after}
use Rattle.mp_walk.specs.Instrs.{Instr}
use Rattle.mp_many.specs.Laid.{tree_of}
use Rattle.mp_program.specs.Program.{ProgramRule, Program}
use Rattle.mp_program.specs.Form.{RuleTest, RuleLine}
use Rattle.mp_program.specs.ProgramOf.{same_cond, spelled_test, rule_of}
use Rattle.mp_gen.specs.Generated.{spelled_rule, generated}

-- a rule line of these parts
abbrev pub line : List ℕ → List (List ℕ) → RuleTest → RuleLine
line name vars test = record { name = name; vars = vars; test = test }

-- it is one of equal parts
pub line-parts : {name named : List ℕ} {vars names : List (List ℕ)} {test told : RuleTest} → name ≡ named
    → vars ≡ names → test ≡ told → line name vars test ≡ line named names told
line-parts of_name of_vars of_test = rw (of_name, of_vars, of_test) refl

-- a program of these parts
abbrev pub program : List ProgramRule → List Cond → List Instr → Program
program rules tests code = record { rules = rules; tests = tests; code = code }

-- the rules and the tests of the rules' lines, and the tree
pub generated-parts : (sig : Sig) (all : List Rule) (lines : List RuleLine) (tests : List Cond)
    (rules : List ProgramRule) (code : List Instr) → lines ≡ map spelled_rule all
    → tests ≡ firsts_after (same_cond sig) [] (flat_map (λ r. spelled_test r.vars r.test) lines)
    → rules ≡ map (rule_of sig tests) lines → code ≡ tree_of sig all
    → program rules tests code ≡ generated sig all
generated-parts sig all lines tests rules code of_lines of_tests of_rules of_code =
    rw (of_rules, of_tests, of_lines, of_code) refl
