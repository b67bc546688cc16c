-- From the form that bytes are to the program: the declarations among the bytes, how many lines there are, the rules
-- and the tests, and the instructions.
use Rattle.std.proofs.Common.{◌≡◌, ◌≤◌, ℕ, suc, ◌+◌, List, [], ◌∷◌, ◌++◌, map, length, take, drop}
use Rattle.std.proofs.Common.{Option, Some, None, refl, ap, sym, ◌∙◌, arith, subst, length-append, append_assoc}
use Rattle.std.proofs.Common.{append-nil}
use Rattle.std.specs.Prelude.{codes, decimal, option_to_list, MatchOption}
use Rattle.std.specs.Prelude.{Result}
use Rattle.std.specs.List.{AllByRecursion, flat_map}
use Rattle.std.proofs.lemmas.Bool.{ltb-false}
use Rattle.std.proofs.lemmas.List.{append_cancel_left, length-map, take_all}
use Rattle.std.proofs.Math.Seq.{take-append_seam}
use Rattle.mp_io.specs.Devices.{Text}
use Rattle.mp_term.specs.Signature.{Sig}
use Rattle.mp_term.proofs.ListLaws.{all-split, both-empty}
use Rattle.mp_pattern.specs.declared.limits.TheConstants.{MAX_VARIABLES}
use Rattle.mp_pattern.specs.CondTree.{Cond}
use Rattle.mp_pattern.specs.Firsts.{firsts_after}
use Rattle.mp_walk.specs.Instrs.{Instr}
use Rattle.mp_print.specs.PrintedSignature.{signature_text}
use Rattle.mp_program.specs.declared.fault.ProgramError.{ProgramError}
use Rattle.mp_program.specs.declared.format.Format.{Format}
use Rattle.mp_program.specs.declared.format.Format.TheVariants.{One, Two}
use Rattle.mp_program.specs.Form.{RuleTest, untested, tested, spelled, RuleLine, Form}
use Rattle.mp_program.specs.FormFaults.{faults_along, declaration_faults, test_faults}
use Rattle.mp_program.specs.FormFaults.{rule_faults, unused_faults, target_faults, code_faults, most_nodes}
use Rattle.mp_program.specs.FormFaults.{first_test_line, line_of_begin, faults_of_declarations}
use Rattle.mp_program.specs.FormFaults.{faults_of_tests, faults_of_rules, faults_of_unused, faults_of_begin}
use Rattle.mp_program.specs.FormFaults.{faults_of_code}
use Rattle.mp_program.specs.FormText as text
use Rattle.mp_program.specs.FormText.{lines_of, lines_text, instr_lines, code_lines}
use Rattle.mp_program.specs.Leads.{lead}
use Rattle.mp_program.specs.Program.{ProgramRule}
use Rattle.mp_program.specs.ProgramOf.{same_cond, spelled_test, test_number, rule_of, tests_of}
use Rattle.mp_program.specs.Reading.{IsFormOf}
use Rattle.mp_program.specs.RightForm.{IsRightRuleTest, IsRightRule, IsRightForm}
use Rattle.mp_program.specs.RuleView.{rule_line_view}
use Rattle.mp_program.proofs.FaultLaws.{fine-rule}
use Rattle.mp_program.proofs.LineLaws.{IsOneLine, lines_text-append, lines_of-lines_text, line-lines_of}
use Rattle.mp_program.proofs.OneSpelling.{spelled-none}
use Rattle.mp_program.proofs.ListLaws.{rest-same}
use Rattle.mp_line.specs.LineTexts.{kept_line}
use Rattle.mp_vm.specs.NumberedRules.{named_test, numbered_rule}
use Rattle.mp_vm.specs.declared.draft.Draft.{Draft}
use Rattle.mp_vm.specs.declared.stage.Stage.TheVariants.{Stop}
use Rattle.mp_vm.specs.Checked.{Checks}
use Rattle.mp_vm.specs.Machine.{begin_text}
use Rattle.mp_vm.specs.DraftView.{IsDraftOf}
use Rattle.mp_vm.specs.FirstLine.{IsFirstLine}
use Rattle.mp_vm.specs.FormRead.{first_line}
use Rattle.mp_vm.proofs.MachineLaws.{At}
use Rattle.mp_vm.proofs.DraftLaws.{length-lines_text-append, lines-within}

-- ---- the bytes of the declarations

pub first-of : {A : Type 0} (view : A → Text) (o : Option A) (old new first : Text) (ls : List Text)
    → MatchOption o (lines_of old ≡ []) (λ a. IsFirstLine old (view a) new) → lines_of old ≡ first ∷ ls
    → (line : Text) × IsFirstLine old line new
first-of view (Some a) old new first ls h e = (view a, h)
first-of view None old new first ls h e = (let wrong : [] ≡ first ∷ ls = sym h ∙ e in cc)

module _ (bytes rest line first : Text) (declared others : List Text) (h : IsFirstLine bytes line rest)
    (e : lines_of bytes ≡ first ∷ (declared ++ others)) (ended : lines_text (lines_of bytes) ≡ bytes) where
  -- what stands behind the first line
  pub rest-parts : rest ≡ lines_text declared ++ lines_text others
  rest-parts =
      let whole : line ++ 10 ∷ rest ≡ line ++ 10 ∷ lines_text (lines_of rest) =
      sym h.parts ∙ sym ended ∙ ap lines_text h.lines ∙ append_assoc line (10 ∷ []) (lines_text (lines_of rest)) in
      let behind = append_cancel_left line (10 ∷ rest) (10 ∷ lines_text (lines_of rest)) whole in
      let same : rest ≡ lines_text (lines_of rest) = ap (drop 1) behind in
      same ∙ ap lines_text (rest-same line first (lines_of rest) (declared ++ others) (sym h.lines ∙ e))
      ∙ lines_text-append declared others

  pub lines_of-declared : (count : ℕ) → count ≡ length (lines_text declared) → lines_of (take count rest) ≡ declared
  lines_of-declared count n =
      let one : AllByRecursion IsOneLine (first ∷ (declared ++ others)) =
      subst (AllByRecursion IsOneLine) e (line-lines_of bytes) in
      ap lines_of (ap (λ m. take m rest) n ∙ ap (take (length (lines_text declared))) rest-parts
      ∙ take-append_seam (lines_text declared) (lines_text others))
      ∙ lines_of-lines_text declared ((all-split IsOneLine declared others one.1).0)

-- ---- how many lines there are

instr_lines-length : (sig : Sig) (n : ℕ) (is : List Instr) → length (instr_lines sig n is) ≡ length is
instr_lines-length sig n [] = refl
instr_lines-length sig n (i ∷ is) = ap suc (instr_lines-length sig (suc n) is)

module _ (sig : Sig) (most : ℕ) (bytes : Text) (d : Draft) (f : Form) (is : IsFormOf sig bytes f)
    (own : IsDraftOf most d (At sig Stop f)) where
  rules-length : length d.rules.items ≡ length f.rules
  rules-length = sym (length-map d.rules.items rule_line_view) ∙ ap length own.rules
      ∙ length-map f.rules (kept_line most)

  -- each line has a byte at least
  pub form-few : d.declarations + length d.tests + length d.rules.items + length d.code + 4 ≤ length bytes
  form-few =
      let code = code_lines sig 1 f.code in
      let rules = map (text.rule_line sig) f.rules in
      let tests = map (text.test_line sig) f.tests in
      let w = lines-within (lines_of bytes) in
      let e = ap length is.ended in
      let n = ap length is.lines in
      let a = length-append f.ops (f.kinds ++ (tests ++ (rules ++ (codes "code" ∷ begin_text f.begin ∷ code)))) in
      let b = length-append f.kinds (tests ++ (rules ++ (codes "code" ∷ begin_text f.begin ∷ code))) in
      let c = length-append tests (rules ++ (codes "code" ∷ begin_text f.begin ∷ code)) in
      let g = length-append rules (codes "code" ∷ begin_text f.begin ∷ code) in
      let i = length-append (instr_lines sig 1 f.code) ((decimal (1 + length f.code) ++ codes " stop") ∷ []) in
      let j = instr_lines-length sig 1 f.code in
      let k = length-map f.tests (text.test_line sig) in
      let l = length-map f.rules (text.rule_line sig) in
      let t = ap length own.tests in
      let o = ap length own.code in
      omega (arith, w, e, n, a, b, c, g, i, j, k, l, t, o, rules-length, own.declarations)

  -- ---- the declarations

  -- the lines behind those of the declarations
  abbrev pub others : List Text
  others = map (text.test_line sig) f.tests ++ (map (text.rule_line sig) f.rules
      ++ (codes "code" ∷ begin_text f.begin ∷ code_lines sig 1 f.code))

  pub form-split : lines_of bytes ≡ first_line f.format ∷ ((f.ops ++ f.kinds) ++ others)
  form-split = is.lines ∙ ap (λ ls. first_line f.format ∷ ls) (sym (append_assoc f.ops f.kinds others))

  pub declared-count : d.declared ≡ length (lines_text (f.ops ++ f.kinds))
  declared-count = own.declared ∙ sym (length-lines_text-append f.ops f.kinds)

  pub declarations-checked : {T : Type 0} (t : Text) (r : Result T ProgramError) → lines_of t ≡ f.ops ++ f.kinds
      → Checks (declaration_faults 2 (lines_of (signature_text sig)) (lines_of t)) r
      → Checks (faults_of_declarations sig f) r
  declarations-checked t r e h =
      subst (λ ls. Checks (declaration_faults 2 (lines_of (signature_text sig)) ls) r) e h

  -- ---- tests and rules

  first-test : d.declarations + 2 ≡ first_test_line f
  first-test = (let n = length-append f.ops f.kinds in omega (arith, n, own.declarations))

  pub tests-checked : {T : Type 0} (ts : List Cond) (n : ℕ) (r : Result T ProgramError) → ts ≡ d.tests
      → n ≡ d.declarations + 2 → Checks (faults_along (test_faults sig) [] n ts) r → Checks (faults_of_tests sig f) r
  tests-checked ts n r e m h =
      subst (λ l. Checks (faults_along (test_faults sig) [] l f.tests) r) (m ∙ first-test)
      (subst (λ l. Checks (faults_along (test_faults sig) [] n l) r) (e ∙ own.tests) h)

  pub rules-checked : {T : Type 0} (count n : ℕ) (r : Result T ProgramError) → count ≡ length d.tests
      → n ≡ d.declarations + 2
      → Checks (faults_along (rule_faults count) [] (n + count) f.rules
      ++ faults_along (unused_faults f.rules) [] n f.tests) r
      → Checks (faults_of_rules sig f ++ faults_of_unused sig f) r
  rules-checked count n r e m h =
      let same : count ≡ length f.tests = e ∙ ap length own.tests in
      subst (λ l. Checks (faults_along (rule_faults (length f.tests)) [] (l + length f.tests) f.rules
      ++ faults_along (unused_faults f.rules) [] l f.tests) r) (m ∙ first-test)
      (subst (λ k. Checks (faults_along (rule_faults k) [] (n + k) f.rules
      ++ faults_along (unused_faults f.rules) [] n f.tests) r) same h)

-- ---- rules of which nothing is wrong are kept whole

pub kept-whole : (most count : ℕ) → MAX_VARIABLES ≤ most → (before : List RuleLine) (n : ℕ) (rs : List RuleLine)
    → faults_along (rule_faults count) before n rs ≡ [] → map (kept_line most) rs ≡ rs
kept-whole most count enough before n [] h = refl
kept-whole most count enough before n (r ∷ rs) h =
    let parts = both-empty (rule_faults count before n r) _ h in
    let few = ltb-false MAX_VARIABLES (length r.vars) (fine-rule count before n r parts.0).names.few in
    let one : kept_line most r ≡ r = ap (λ vars. record { name = r.name; vars = vars; test = r.test })
    (take_all most r.vars (omega (arith, few))) in
    let rest = kept-whole most count enough (before ++ r ∷ []) (suc n) rs parts.1 in
    λ i. one i ∷ rest i

-- ---- the rules and the tests of the program

module _ (sig : Sig) where
  -- the rules of lines of format 2 name their tests, whatever these are
  rules-numbered : (ts : List Cond) (rs : List RuleLine) → AllByRecursion (IsRightRule sig Two) rs
      → map numbered_rule rs ≡ map (rule_of sig ts) rs
  rules-numbered ts [] h = refl
  rules-numbered ts (r ∷ rs) h = λ i. one r h.0 i ∷ rules-numbered ts rs h.1 i
    where
      one : (r : RuleLine) → IsRightRule sig Two r → numbered_rule r ≡ rule_of sig ts r
      one r k = ap (λ n. record { name = r.name; vars = r.vars; test = n }) (by_test r.test k.test)
        where
          by_test : (t : RuleTest) → IsRightRuleTest sig Two t → named_test t ≡ test_number sig ts r.vars t
          by_test untested k = refl
          by_test (tested n) k = refl
          by_test (spelled c) k = (let wrong : Two ≡ One = k.0 in cc)

  abbrev AreMade : Form → List ProgramRule → List Cond → Type 0
  AreMade f rules tests = (rules ≡ map (rule_of sig (tests_of sig f)) f.rules) × (tests ≡ tests_of sig f)

  pub made-one : (f : Form) → IsRightForm sig f → f.format ≡ One → (rules : List ProgramRule) (tests : List Cond)
      → tests ≡ firsts_after (same_cond sig) [] (flat_map (λ r. spelled_test r.vars r.test) f.rules)
      → rules ≡ map (rule_of sig tests) f.rules → AreMade f rules tests
  made-one f right e rules tests t r =
      let same : tests ≡ tests_of sig f = t ∙ sym (ap (λ l. l ++ firsts_after (same_cond sig) []
      (flat_map (λ r. spelled_test r.vars r.test) f.rules)) (right.no_tests e)) in
      (r ∙ ap (λ l. map (rule_of sig l) f.rules) same, same)

  pub made-two : (f : Form) → IsRightForm sig f → f.format ≡ Two → (rules : List ProgramRule) (tests : List Cond)
      → tests ≡ f.tests → rules ≡ map numbered_rule f.rules → AreMade f rules tests
  made-two f right e rules tests t r =
      let lines = subst (λ format. AllByRecursion (IsRightRule sig format) f.rules) e right.rules in (
        r ∙ rules-numbered (tests_of sig f) f.rules lines,
        t ∙ sym (append-nil f.tests) ∙ sym (ap (λ l. f.tests ++ firsts_after (same_cond sig) [] l)
            (spelled-none sig f.rules lines)),
      )

  -- ---- the instructions

  abbrev checks_of : Format → Option ℕ → ℕ → List Instr → List Cond → List ProgramRule → ℕ → List ProgramError
  checks_of format begin count code tests rules line = target_faults (suc count) line 0 (option_to_list begin)
      ++ code_faults sig (most_nodes format) tests rules (suc count) (suc line) 1 (lead [] begin) code

  pub code-checked : {T : Type 0} (f : Form) (format : Format) (begin : Option ℕ) (count : ℕ) (code : List Instr)
      (tests : List Cond) (rules : List ProgramRule) (line : ℕ) (r : Result T ProgramError) → format ≡ f.format
      → begin ≡ f.begin → count ≡ length f.code → code ≡ f.code → AreMade f rules tests → line ≡ line_of_begin f
      → Checks (checks_of format begin count code tests rules line) r
      → Checks (faults_of_begin sig f ++ faults_of_code sig f) r
  code-checked f format begin count code tests rules line r a b n c made e h = subst (λ l. Checks l r)
      (λ i. checks_of (a i) (b i) (n i) (c i) (made.1 i) (made.0 i) (e i)) h

-- the number of the line of `begin`
pub line-begin : (most : ℕ) (d : Draft) (f : Form) → IsDraftOf most d (record { stage = Stop; form = f })
    → (tests rules : ℕ) → tests ≡ length d.tests → rules ≡ length d.rules.items
    → d.declarations + (tests + rules) + 3 ≡ line_of_begin f
line-begin most d f own tests rules t r =
    let a = sym (length-map d.rules.items rule_line_view) ∙ ap length own.rules
    ∙ length-map f.rules (kept_line most) in
    let b = length-append f.ops f.kinds in
    let g = ap length own.tests in
    omega (arith, a, b, g, own.declarations, t, r)
