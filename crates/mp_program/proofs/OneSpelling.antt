-- A program in format 2 has one spelling: the text that it is printed as.
use Rattle.std.proofs.Common.{◌≡◌, ◌≢◌, ℕ, suc, List, [], ◌∷◌, ◌++◌, map, Bool, true, false, Option, Some, None}
use Rattle.std.proofs.Common.{refl, sym, ap, subst, ◌∙◌, append_assoc, append-nil}
use Rattle.std.specs.Prelude.{codes, decimal, bytes_eq, nat_eq, IsSome, if◌then◌else◌, ◌↔◌}
use Rattle.std.specs.List.{flat_map, AllByRecursion}
use Rattle.std.proofs.lemmas.Bool.{eqb-true}
use Rattle.std.proofs.lemmas.Slice.Eq.{bytes_eq-Decides}
use Rattle.mp_io.specs.Devices.{Text}
use Rattle.mp_term.specs.Signature.{Sig}
use Rattle.mp_term.proofs.ListLaws.{both-empty}
use Rattle.mp_pattern.specs.CondTree.{Cond}
use Rattle.mp_pattern.specs.Firsts.{firsts_after}
use Rattle.mp_walk.specs.Instrs.{Instr, targets}
use Rattle.mp_print.specs.PrintedSignature.{op_text, kind_text, signature_text}
use Rattle.mp_program.specs.declared.fault.ProgramError.TheVariants.{BadReference}
use Rattle.mp_program.specs.declared.format.Format.TheVariants.{One, Two}
use Rattle.mp_program.specs.Program.{ProgramRule, Program}
use Rattle.mp_program.specs.Form.{format_number, RuleTest, untested, tested, spelled, RuleLine, Form}
use Rattle.mp_program.specs.FormText.{lines_of, lines_text, test_line, rule_line, code_lines, target_text, form_lines}
use Rattle.mp_program.specs.FormText.{numbered_test, line_of_rule, first_target, form_of, program_text}
use Rattle.mp_program.specs.RightForm.{IsRightRule, IsRightRuleTest, IsRightForm}
use Rattle.mp_program.specs.Leads.{lead, befores}
use Rattle.mp_program.specs.FormFaults.{declaration_faults, target_faults, way_faults, code_faults, most_nodes}
use Rattle.mp_program.specs.FormFaults.{line_of_begin, stop_number, faults_of_declarations, faults_of_tests}
use Rattle.mp_program.specs.FormFaults.{faults_of_rules, faults_of_unused, faults_of_begin, faults_of_code, form_faults}
use Rattle.mp_program.specs.ProgramOf.{same_cond, spelled_test, tests_of, test_number, rule_of, program_of}
use Rattle.mp_program.specs.Reading.{IsProgramOf}
use Rattle.mp_program.proofs.LineLaws.{lines_of-append}
use Rattle.mp_program.proofs.PrintedLines.{op-ended}

-- ---- declarations

-- lines without a fault are those expected
pub declared-same : (line : ℕ) (ts us : List Text) → declaration_faults line ts us ≡ [] → ts ≡ us
declared-same line [] [] e = refl
declared-same line [] (u ∷ us) e = cc
declared-same line (t ∷ ts) [] e = cc
declared-same line (t ∷ ts) (u ∷ us) e = go (bytes_eq t u) refl e (λ h. declared-same (suc line) ts us h)
  where
    go : (b : Bool) → bytes_eq t u ≡ b
        → (if b then declaration_faults (suc line) ts us else (BadReference line ∷ [])) ≡ []
        → (declaration_faults (suc line) ts us ≡ [] → ts ≡ us) → t ∷ ts ≡ u ∷ us
    go true same h rest =
        let here = (bytes_eq-Decides t u).0 same in
        let behind = rest h in
        cc
    go false other h rest = cc

-- ---- tests and rules

-- rule lines of format 2 spell no conditions
pub spelled-none : (sig : Sig) (rs : List RuleLine) → AllByRecursion (IsRightRule sig Two) rs
    → flat_map (λ r. spelled_test r.vars r.test) rs ≡ []
spelled-none sig [] h = refl
spelled-none sig (r ∷ rs) h = ap (λ l. l ++ flat_map (λ q. spelled_test q.vars q.test) rs) (none r.test h.0.test)
    ∙ spelled-none sig rs h.1
  where
    none : (t : RuleTest) → IsRightRuleTest sig Two t → spelled_test r.vars t ≡ []
    none untested h = refl
    none (tested n) h = refl
    none (spelled c) h = let wrong : Two ≡ One = h.0 in cc

-- the line of the rule of a rule line of format 2 is that line
pub line-again : (sig : Sig) (tests : List Cond) (r : RuleLine) → IsRightRule sig Two r
    → line_of_rule (rule_of sig tests r) ≡ r
line-again sig tests r h = ap (λ t. record { name = r.name; vars = r.vars; test = t }) (again r.test h.test)
  where
    again : (t : RuleTest) → IsRightRuleTest sig Two t → numbered_test (test_number sig tests r.vars t) ≡ t
    again untested h = refl
    again (tested n) h = refl
    again (spelled c) h = let wrong : Two ≡ One = h.0 in cc

-- so are those of all
pub lines-again : (sig : Sig) (tests : List Cond) (rs : List RuleLine) → AllByRecursion (IsRightRule sig Two) rs
    → map line_of_rule (map (rule_of sig tests) rs) ≡ rs
lines-again sig tests [] h = refl
lines-again sig tests (r ∷ rs) h =
    let here = line-again sig tests r h.0 in
    let behind = lines-again sig tests rs h.1 in
    cc

-- the tests are those of the test lines
tests-again : (sig : Sig) (f : Form) → AllByRecursion (IsRightRule sig Two) f.rules → tests_of sig f ≡ f.tests
tests-again sig f h =
    ap (λ l. f.tests ++ firsts_after (same_cond sig) [] l) (spelled-none sig f.rules h) ∙ append-nil f.tests

-- ---- instructions

-- where the first instruction is led to, `begin` leads to it
pub begin-again : (begin : Option ℕ) (code : List Instr) (sig : Sig) (most : ℕ) (tests : List Cond)
    (rules : List ProgramRule) (stop line : ℕ) → IsSome begin ↔ (code ≢ [])
    → code_faults sig most tests rules stop line 1 (lead [] begin) code ≡ [] → first_target code ≡ begin
begin-again None [] sig most tests rules stop line h e = refl
begin-again None (i ∷ is) sig most tests rules stop line h e =
    (let wrong : false ≡ true = h.1 (λ n. let other : i ∷ is ≡ [] = n in cc) in cc)
begin-again (Some d) [] sig most tests rules stop line h e = absurd (h.0 refl refl)
begin-again (Some d) (i ∷ is) sig most tests rules stop line h e = go (nat_eq d 1) refl
  where
    way : way_faults sig most tests rules stop line (befores (lead [] (Some d)) 1) i ≡ []
    way = (both-empty (target_faults stop line 1 (targets i)) _
        (both-empty (target_faults stop line 1 (targets i)
        ++ way_faults sig most tests rules stop line (befores (lead [] (Some d)) 1) i) _ e).0).1

    go : (v : Bool) → nat_eq d 1 ≡ v → Some 1 ≡ Some d
    go true same = ap Some (sym (eqb-true d 1 same))
    go false other =
        let none : befores (lead [] (Some d)) 1 ≡ [] = rw other refl in
        let wrong : BadReference line ∷ [] ≡ [] =
        ap (λ l. way_faults sig most tests rules stop line l i) (sym none) ∙ way in
        cc

-- ---- all lines

-- what stands behind the declarations
abbrev behind_lines : Sig → List Cond → List RuleLine → Option ℕ → List Instr → List Text
behind_lines sig tests rules begin code = map (test_line sig) tests ++ (map (rule_line sig) rules
    ++ (codes "code" ∷ (codes "0 begin down " ++ target_text begin) ∷ code_lines sig 1 code))

-- the lines of a form of format 2 in which nothing is wrong are those of its program
lines-of-program : (sig : Sig) (f : Form) → f.format ≡ Two → IsRightForm sig f → form_faults sig f ≡ []
    → form_lines sig f ≡ form_lines sig (form_of sig (program_of sig f))
lines-of-program sig f two right none =
    ap (λ n. (codes "matchpy program " ++ decimal (format_number n)) ∷ (f.ops ++ (f.kinds ++ behind))) two
    ∙ ap (λ l. (codes "matchpy program " ++ decimal 2) ∷ l)
    (sym (append_assoc f.ops f.kinds behind)
    ∙ ap (λ l. l ++ behind) (sym (declared-same 2 (lines_of (signature_text sig)) (f.ops ++ f.kinds)
    (both-empty (faults_of_declarations sig f) _ none).0) ∙ declared)
    ∙ append_assoc (lines_of (flat_map op_text sig.ops)) (lines_of (flat_map kind_text sig.kinds)) behind
    ∙ ap (λ l. lines_of (flat_map op_text sig.ops) ++ (lines_of (flat_map kind_text sig.kinds) ++ l)) same)
  where
    behind : List Text
    behind = behind_lines sig f.tests f.rules f.begin f.code

    declared : lines_of (signature_text sig)
        ≡ lines_of (flat_map op_text sig.ops) ++ lines_of (flat_map kind_text sig.kinds)
    declared = lines_of-append op_text sig.ops (flat_map kind_text sig.kinds) op-ended

    rules : AllByRecursion (IsRightRule sig Two) f.rules
    rules = subst (λ n. AllByRecursion (IsRightRule sig n) f.rules) two right.rules

    code_none : faults_of_code sig f ≡ []
    code_none = (both-empty (faults_of_begin sig f) _ (both-empty (faults_of_unused sig f) _
        (both-empty (faults_of_rules sig f) _ (both-empty (faults_of_tests sig f) _
        (both-empty (faults_of_declarations sig f) _ none).1).1).1).1).1

    again : List RuleLine
    again = map line_of_rule (map (rule_of sig (tests_of sig f)) f.rules)

    same : behind_lines sig f.tests f.rules f.begin f.code
        ≡ behind_lines sig (tests_of sig f) again (first_target f.code) f.code
    same = ap (λ l. behind_lines sig l f.rules f.begin f.code) (sym (tests-again sig f rules))
        ∙ ap (λ l. behind_lines sig (tests_of sig f) l f.begin f.code)
        (sym (lines-again sig (tests_of sig f) f.rules rules))
        ∙ ap (λ t. behind_lines sig (tests_of sig f) again t f.code)
        (sym (begin-again f.begin f.code sig (most_nodes f.format) (tests_of sig f) (program_of sig f).rules
        (stop_number sig f) (suc (line_of_begin f)) right.begins code_none))

-- a program in format 2 has one text: that which it is printed as
pub one-spelling : (sig : Sig) (bytes : Text) (p : Program) (h : IsProgramOf sig bytes p) → h.form.format ≡ Two
    → bytes ≡ program_text sig p
one-spelling sig bytes p h two =
    sym h.is_form.ended ∙ ap lines_text (h.is_form.lines ∙ lines-of-program sig h.form two h.is_form.right h.faultless)
    ∙ ap (program_text sig) (sym h.program)
