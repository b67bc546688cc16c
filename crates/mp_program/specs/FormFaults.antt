-- What is wrong with the lines of a program text beyond their form: a list of faults in order, of which the first
-- counts.
use Rattle.std.specs.Prelude.{ℕ, suc, ◌+◌, Bool, false, ◌||◌, not, List, [], ◌∷◌, ◌++◌, length, flat_map}
use Rattle.std.specs.Prelude.{is_some, option_to_list, nat_eq, nat_le, nat_lt, if◌then◌else◌, bytes_eq}
use Rattle.std.specs.List.{list_any, list_all}
use Rattle.mp_io.specs.Devices.{Text}
use Rattle.mp_term.specs.Names.{are_distinct}
use Rattle.mp_term.specs.Signature.{Sig}
use Rattle.mp_pattern.specs.declared.limits.TheConstants.{MAX_PATTERN_NODES, MAX_VARIABLES}
use Rattle.mp_pattern.specs.CondTree.{Cond}
use Rattle.mp_pattern.specs.Firsts.{firsts_after, is_known}
use Rattle.mp_pattern.specs.Value.{same_name}
use Rattle.mp_walk.specs.Instrs.{Instr, targets}
use Rattle.mp_walk.specs.Walkable.{Path}
use Rattle.mp_print.specs.PrintedSignature.{signature_text}
use Rattle.mp_program.specs.declared.fault.ProgramError.{ProgramError}
use Rattle.mp_program.specs.declared.fault.ProgramError.TheVariants.{BackwardTarget, BadReference, Unbalanced}
use Rattle.mp_program.specs.declared.format.Format.{Format}
use Rattle.mp_program.specs.declared.format.Format.TheVariants.{One, Two}
use Rattle.mp_program.specs.Program.{ProgramRule}
use Rattle.mp_program.specs.Form.{RuleTest, untested, tested, spelled, RuleLine, Form}
use Rattle.mp_program.specs.FormText.{lines_of}
use Rattle.mp_program.specs.TokenPaths.{is_right_path, open_along, is_balanced, may_accept, cond_names}
use Rattle.mp_program.specs.Leads.{Lead, lead, befores, leads_after}
use Rattle.mp_program.specs.ProgramOf.{same_cond, tests_of, program_of}

-- the fault, where the test holds
abbrev pub fault_if : Bool → ProgramError → List ProgramError
fault_if test f = if test then f ∷ [] else []

-- the faults of items one after the other, each on a line of its own and behind those before it
abbrev pub faults_along : {X : Type 0} → (List X → ℕ → X → List ProgramError) → List X → ℕ → List X → List ProgramError
faults_along faults before line [] = []
faults_along faults before line (x ∷ xs) = faults before line x ++ faults_along faults (before ++ x ∷ []) (suc line) xs

-- ---- declarations

-- the first line that isn't the one expected, is one too many or is missing
abbrev pub declaration_faults : ℕ → List Text → List Text → List ProgramError
declaration_faults line [] [] = []
declaration_faults line (t ∷ ts) (u ∷ us) =
    if bytes_eq t u then declaration_faults (suc line) ts us else BadReference line ∷ []
declaration_faults line _ _ = BadReference line ∷ []

-- ---- tests and rules

-- a test of which an earlier one is equal
abbrev pub test_faults : Sig → List Cond → ℕ → Cond → List ProgramError
test_faults sig before line c = fault_if (list_any (same_cond sig c) before) (BadReference line)

-- the number of a test line that a rule line names
abbrev pub used_test : RuleTest → List ℕ
used_test (tested n) = n ∷ []
used_test _ = []

-- the test lines that rule lines name, each once
abbrev pub used_tests : List RuleLine → List ℕ
used_tests rs = firsts_after nat_eq [] (flat_map (λ r. used_test r.test) rs)

-- a test line that isn't there, or that comes behind the next one after those used before; or a condition on a variable
-- that the rule doesn't have
abbrev pub is_bad_test : ℕ → List RuleLine → List Text → RuleTest → Bool
is_bad_test count before vars untested = false
is_bad_test count before vars (tested n) = nat_le count n || nat_lt (length (used_tests before)) n
is_bad_test count before vars (spelled c) = not (list_all (is_known same_name vars) (cond_names c))

-- a rule with the name of an earlier one, with a variable twice, with more than MAX_VARIABLES, or with a bad test,
-- where there are count test lines
abbrev pub rule_faults : ℕ → List RuleLine → ℕ → RuleLine → List ProgramError
rule_faults count before line r = fault_if
    (list_any (λ q. same_name q.name r.name) before || (not (are_distinct r.vars)
    || (nat_lt MAX_VARIABLES (length r.vars) || is_bad_test count before r.vars r.test)))
    (BadReference line)

-- a test that no rule uses, behind so many tests
abbrev pub unused_faults : List RuleLine → List Cond → ℕ → Cond → List ProgramError
unused_faults rules before line c =
    fault_if (not (is_known nat_eq (used_tests rules) (length before))) (BadReference line)

-- ---- instructions

-- the faults of the targets of instruction n, where `stop` has that number
abbrev pub target_faults : ℕ → ℕ → ℕ → List ℕ → List ProgramError
target_faults stop line n targets = fault_if (list_any (λ t. nat_le t n) targets) (BackwardTarget line)
    ++ fault_if (list_any (nat_le stop) targets) (BadReference line)

module _ (sig : Sig) (most : ℕ) (tests : List Cond) (rules : List ProgramRule) (stop : ℕ) where
  -- the faults of an instruction with this path
  abbrev pub path_faults : ℕ → Path → Instr → List ProgramError
  path_faults line ks i = fault_if
      (not (is_right_path sig most ks) || not (list_all (may_accept tests rules ks) i.accepts)) (BadReference line)
      ++ fault_if (not (is_balanced (open_along [] ks) (is_some i.down))) (Unbalanced line)

  -- exactly one way leads to an instruction
  abbrev pub way_faults : ℕ → List Path → Instr → List ProgramError
  way_faults line (before ∷ []) i = path_faults line (before ++ i.token ∷ []) i
  way_faults line _ i = BadReference line ∷ []

  -- the faults of the instructions from number n on, to which ls lead from before
  abbrev pub code_faults : ℕ → ℕ → List Lead → List Instr → List ProgramError
  code_faults line n ls [] = []
  code_faults line n ls (i ∷ is) = (target_faults stop line n (targets i) ++ way_faults line (befores ls n) i)
      ++ code_faults (suc line) (suc n) (leads_after ls n i) is

-- ---- all of them

-- how many nodes a path of the format has at most
abbrev pub most_nodes : Format → ℕ
most_nodes One = 64
most_nodes Two = MAX_PATTERN_NODES

-- the number of the first test line, or of the line where it would stand
abbrev pub first_test_line : Form → ℕ
first_test_line f = 2 + length (f.ops ++ f.kinds)

-- so of the first rule line
abbrev pub first_rule_line : Form → ℕ
first_rule_line f = first_test_line f + length f.tests

-- the number of the line of `begin`
abbrev pub line_of_begin : Form → ℕ
line_of_begin f = first_rule_line f + length f.rules + 1

module _ (sig : Sig) (f : Form) where
  -- the number of `stop`
  abbrev pub stop_number : ℕ
  stop_number = suc (length f.code)

  -- the declarations against those of the signature
  abbrev pub faults_of_declarations : List ProgramError
  faults_of_declarations = declaration_faults 2 (lines_of (signature_text sig)) (f.ops ++ f.kinds)

  -- tests of which an earlier one is equal
  abbrev pub faults_of_tests : List ProgramError
  faults_of_tests = faults_along (test_faults sig) [] (first_test_line f) f.tests

  -- rules with the name of an earlier one, or with bad variables or a bad test
  abbrev pub faults_of_rules : List ProgramError
  faults_of_rules = faults_along (rule_faults (length f.tests)) [] (first_rule_line f) f.rules

  -- tests that no rule uses
  abbrev pub faults_of_unused : List ProgramError
  faults_of_unused = faults_along (unused_faults f.rules) [] (first_test_line f) f.tests

  -- `begin`, the instruction with the number 0
  abbrev pub faults_of_begin : List ProgramError
  faults_of_begin = target_faults stop_number (line_of_begin f) 0 (option_to_list f.begin)

  -- the other instructions
  abbrev pub faults_of_code : List ProgramError
  faults_of_code = code_faults sig (most_nodes f.format) (tests_of sig f) (program_of sig f).rules stop_number
      (suc (line_of_begin f)) 1 (lead [] f.begin) f.code

  -- the faults of the lines, in order
  abbrev pub form_faults : List ProgramError
  form_faults = faults_of_declarations
      ++ (faults_of_tests ++ (faults_of_rules ++ (faults_of_unused ++ (faults_of_begin ++ faults_of_code))))
