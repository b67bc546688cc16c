-- The program of right lines of format 1 in which nothing is wrong: its printed text is read as it.
use Rattle.std.proofs.Common.{◌≡◌, ◌≢◌, ◌≤◌, ◌+◌, ℕ, suc, Bool, true, false, List, [], ◌∷◌, ◌++◌, map, length, refl}
use Rattle.std.proofs.Common.{Option, Some, None, ap, sym, ◌∙◌, subst, inl, inr, arith, append-nil, append_assoc}
use Rattle.std.specs.Prelude.{◌↔◌, flat_map, codes, decimal, option_to_list, IsSome, if◌then◌else◌}
use Rattle.std.specs.List.{AllByRecursion, list_all}
use Rattle.std.proofs.lemmas.Bool.{not-false}
use Rattle.std.proofs.lemmas.Bool.Decides.{nat_tests}
use Rattle.std.proofs.lemmas.List.{length-map, length-append}
use Rattle.mp_io.specs.Devices.{Text}
use Rattle.mp_term.specs.Names.{is_name}
use Rattle.mp_term.specs.Signature.{Sig}
use Rattle.mp_term.proofs.ListLaws.{all-split, all-append, all-also, all-map, both-empty}
use Rattle.mp_term.proofs.ListingLaws.{all_in}
use Rattle.mp_term.proofs.SearchLaws.{all-from_in}
use Rattle.mp_pattern.specs.declared.limits.TheConstants.{MAX_RULES, MAX_VARIABLES}
use Rattle.mp_pattern.specs.CondTree.{Cond}
use Rattle.mp_pattern.specs.Firsts.{is_known, add_new, firsts_after}
use Rattle.mp_pattern.specs.Value.{same_name}
use Rattle.mp_theory.proofs.FirstsLaws.{from_in-firsts_after}
use Rattle.mp_walk.specs.Walkable.{numbered_names}
use Rattle.mp_print.specs.Printing.{preceded}
use Rattle.mp_print.specs.PrintedCond.{cond_text}
use Rattle.mp_print.specs.PrintedSignature.{op_text, kind_text, signature_text}
use Rattle.mp_build.proofs.Faultless.{nil-both}
use Rattle.mp_round_trip.specs.Readable.{IsSpelledSignature, IsReadableCondition}
use Rattle.mp_program.specs.declared.format.Format.TheVariants.{One, Two}
use Rattle.mp_program.specs.Program.{ProgramRule, Program}
use Rattle.mp_program.specs.Form.{RuleTest, untested, tested, spelled, RuleLine, Form}
use Rattle.mp_program.specs.FormText.{lines_of, lines_text, test_line, rule_line, code_lines}
use Rattle.mp_program.specs.FormText.{target_text, form_lines, numbered_test, line_of_rule, first_target, form_of}
use Rattle.mp_program.specs.FormText.{program_text}
use Rattle.mp_program.specs.RightForm.{IsShortTarget, IsRightCond, IsRightTest, IsRightRuleTest, IsRightRule}
use Rattle.mp_program.specs.RightForm.{IsDeclaration, IsRightInstr, IsRightForm}
use Rattle.mp_program.specs.Leads.{lead}
use Rattle.mp_program.specs.FormFaults.{faults_along, rule_faults, code_faults, stop_number, line_of_begin}
use Rattle.mp_program.specs.FormFaults.{first_test_line, first_rule_line, target_faults, declaration_faults}
use Rattle.mp_program.specs.FormFaults.{is_bad_test, unused_faults, most_nodes}
use Rattle.mp_program.specs.FormFaults.{faults_of_declarations, faults_of_tests, faults_of_rules, faults_of_unused}
use Rattle.mp_program.specs.FormFaults.{faults_of_begin, faults_of_code, form_faults}
use Rattle.mp_program.specs.ProgramOf.{same_cond, spelled_test, tests_of, test_number, rule_of}
use Rattle.mp_program.specs.ProgramOf.{program_of}
use Rattle.mp_program.specs.Reading.{IsProgramOf}
use Rattle.mp_program.specs.TokenPaths.{cond_names}
use Rattle.mp_program.proofs.FaultLaws.{IsFine, fine-rule}
use Rattle.mp_program.proofs.LineLaws.{IsOneLine, lines_of-lines_text, line-lines_of}
use Rattle.mp_program.proofs.OneSpelling.{declared-same, begin-again}
use Rattle.mp_program.proofs.TestLaws.{spelled_tests}
use Rattle.mp_program_laws.proofs.LineFeeds.{line-append, name-line, name-lines, decimal-line, preceded-line}
use Rattle.mp_program_laws.proofs.LineFeeds.{cond-line}
use Rattle.mp_program_laws.proofs.CodeAgain.{code-right, targets-again, code-again}
use Rattle.mp_program_laws.proofs.DeclaredLines.{spelled-lines, declared-parts}
use Rattle.mp_program_laws.proofs.RenamedLaws.{renamed-readable, cond_names-renamed, place_names-known}
use Rattle.mp_program_laws.proofs.SpelledTests.{along-at, IsBelow, IsSpelling, spelled_of}
use Rattle.mp_program_laws.proofs.SpelledTests.{none-tests, none-rules, none-unused, test-number}

-- ---- lists

pub length-firsts : {X : Type 0} (same : X → X → Bool) (ys xs : List X)
    → length (firsts_after same ys xs) ≤ length ys + length xs
length-firsts same ys [] = omega arith
length-firsts same ys (x ∷ xs) =
    let more = added (is_known same ys x) in
    let rest = length-firsts same (add_new same ys x) xs in
    omega (arith, more, rest)
  where
    added : (b : Bool) → length (if b then ys else ys ++ x ∷ []) ≤ length ys + 1
    added true = omega arith
    added false = let e = length-append ys (x ∷ []) in omega (arith, e)

pub length-spelled : (rs : List RuleLine) → length (spelled_tests rs) ≤ length rs
length-spelled [] = omega arith
length-spelled (r ∷ rs) =
    let e = length-append (spelled_of r) (spelled_tests rs) in
    let one = own r.test in
    let rest = length-spelled rs in
    omega (arith, e, one, rest)
  where
    own : (t : RuleTest) → length (spelled_test r.vars t) ≤ 1
    own untested = omega arith
    own (tested n) = omega arith
    own (spelled c) = omega arith

-- ---- the lines of rules

-- the rule of a line, as one line
lines-map : (sig : Sig) (tests : List Cond) (rs : List RuleLine)
    → map line_of_rule (map (rule_of sig tests) rs) ≡ map (λ r. line_of_rule (rule_of sig tests r)) rs
lines-map sig tests [] = refl
lines-map sig tests (r ∷ rs) = ap (λ l. line_of_rule (rule_of sig tests r) ∷ l) (lines-map sig tests rs)

-- its line spells nothing
spelled-again : (rs : List ProgramRule) → spelled_tests (map line_of_rule rs) ≡ []
spelled-again [] = refl
spelled-again (r ∷ rs) = (λ i. own r.test i ++ spelled-again rs i)
  where
    own : (o : Option ℕ) → spelled_test r.vars (numbered_test o) ≡ []
    own None = refl
    own (Some n) = refl

-- and stands for the rule
rules-again : (sig : Sig) (tests : List Cond) (rs : List ProgramRule)
    → map (rule_of sig tests) (map line_of_rule rs) ≡ rs
rules-again sig tests [] = refl
rules-again sig tests (r ∷ rs) =
    (λ i. (record { name = r.name; vars = r.vars; test = own r.test i }) ∷ rules-again sig tests rs i)
  where
    own : (o : Option ℕ) → test_number sig tests r.vars (numbered_test o) ≡ o
    own None = refl
    own (Some n) = refl

-- the text of such a line has no line feed
pub rule-text : (sig : Sig) (r : ProgramRule) → is_name r.name ≡ true → AllByRecursion (λ x. is_name x ≡ true) r.vars
    → IsShortTarget r.test → IsOneLine (rule_line sig (line_of_rule r))
rule-text sig r named vars short = by_test r.test short
  where
    whole : (t : Text) → IsOneLine t
        → IsOneLine (codes "rule " ++ (r.name ++ (preceded (codes " ") r.vars ++ (t ++ codes ";"))))
    whole t h = line-append (codes "rule ") (r.name ++ (preceded (codes " ") r.vars ++ (t ++ codes ";"))) refl
        (line-append r.name (preceded (codes " ") r.vars ++ (t ++ codes ";")) (name-line r.name named)
        (line-append (preceded (codes " ") r.vars) (t ++ codes ";")
        (preceded-line (codes " ") r.vars refl (name-lines r.vars vars)) (line-append t (codes ";") h refl)))

    by_test : (o : Option ℕ) → IsShortTarget o
        → IsOneLine (rule_line sig (line_of_rule (record { name = r.name; vars = r.vars; test = o })))
    by_test None h = whole [] refl
    by_test (Some n) h = whole (codes " if [" ++ (decimal n ++ codes "]"))
        (line-append (codes " if [") (decimal n ++ codes "]") refl
        (line-append (decimal n) (codes "]") (decimal-line n h) refl))

-- ---- the lines of format 1

module _ (sig : Sig) (names_spelled : IsSpelledSignature sig)
    (passes : (c : Cond) → IsRightCond sig c → IsReadableCondition sig None c)
    (readable : (c : Cond) → IsReadableCondition sig None c → IsRightCond sig c)
    (f : Form) (one : f.format ≡ One) (right : IsRightForm sig f) (none : form_faults sig f ≡ []) where
  -- ---- what isn't wrong with them

  none_declared : faults_of_declarations sig f ≡ []
  none_declared = (both-empty (faults_of_declarations sig f) _ none).0

  none_tested : (faults_of_rules sig f ≡ [])
      × (faults_of_unused sig f ++ (faults_of_begin sig f ++ faults_of_code sig f) ≡ [])
  none_tested = both-empty (faults_of_rules sig f) _
      (both-empty (faults_of_tests sig f) _ (both-empty (faults_of_declarations sig f) _ none).1).1

  none_later : (faults_of_begin sig f ≡ []) × (faults_of_code sig f ≡ [])
  none_later = both-empty (faults_of_begin sig f) _ (both-empty (faults_of_unused sig f) _ none_tested.1).1

  rules_right : AllByRecursion (IsRightRule sig One) f.rules
  rules_right = subst (λ n. AllByRecursion (IsRightRule sig n) f.rules) one right.rules

  spelling : AllByRecursion (λ r. IsSpelling r.test) f.rules
  spelling = each f.rules rules_right
    where
      own : (t : RuleTest) → IsRightRuleTest sig One t → IsSpelling t
      own untested h = tt
      own (tested n) h = (let wrong : One ≡ Two = h.0 in cc)
      own (spelled c) h = tt

      each : (rs : List RuleLine) → AllByRecursion (IsRightRule sig One) rs
          → AllByRecursion (λ r. IsSpelling r.test) rs
      each [] h = tt
      each (r ∷ rs) h = (own r.test h.0.test, each rs h.1)

  -- ---- the program, and what its text says

  abbrev spells : List Cond
  spells = firsts_after (same_cond sig) [] (spelled_tests f.rules)

  abbrev program : Program
  program = record { rules = map (rule_of sig spells) f.rules; tests = spells; code = f.code }

  abbrev again : Form
  again = form_of sig program

  tests-same : tests_of sig f ≡ spells
  tests-same = ap (λ l. l ++ spells) (right.no_tests one)

  program-same : program_of sig f ≡ program
  program-same = ap (λ l. record { rules = map (rule_of sig l) f.rules; tests = l; code = f.code }) tests-same

  parts : (f.ops ≡ lines_of (flat_map op_text sig.ops)) × (f.kinds ≡ lines_of (flat_map kind_text sig.kinds))
  parts = declared-parts sig names_spelled f.ops f.kinds right.ops right.kinds
      (sym (declared-same 2 (lines_of (signature_text sig)) (f.ops ++ f.kinds) none_declared))

  begin-same : first_target f.code ≡ f.begin
  begin-same = begin-again f.begin f.code sig (most_nodes f.format) (tests_of sig f) (program_of sig f).rules
      (stop_number sig f) (suc (line_of_begin f)) right.begins none_later.1

  few-tests : length spells ≤ MAX_RULES
  few-tests =
      let a = length-firsts (same_cond sig) [] (spelled_tests f.rules) in
      let b = length-spelled f.rules in
      let c = right.few_rules in
      omega (arith, a, b, c)

  -- ---- tests and rules

  fine : (front : List RuleLine) (r : RuleLine) (back : List RuleLine) → f.rules ≡ front ++ r ∷ back
      → IsFine front (length f.tests) r
  fine front r back e =
      let here = along-at (rule_faults (length f.tests)) [] f.rules front r back (first_rule_line f) none_tested.0 e in
      fine-rule (length f.tests) front here.0 r here.1

  own-right : (front : List RuleLine) (r : RuleLine) (back : List RuleLine) → f.rules ≡ front ++ r ∷ back
      → IsRightRule sig One r
  own-right front r back e = (all-split (IsRightRule sig One) front (r ∷ back)
      (subst (AllByRecursion (IsRightRule sig One)) e rules_right)).1.0

  own-spelling : (front : List RuleLine) (r : RuleLine) (back : List RuleLine) → f.rules ≡ front ++ r ∷ back
      → IsSpelling r.test
  own-spelling front r back e = (all-split (λ q. IsSpelling q.test) front (r ∷ back)
      (subst (AllByRecursion (λ q. IsSpelling q.test)) e spelling)).1.0

  next : (front : List RuleLine) (r : RuleLine) (back : List RuleLine) → f.rules ≡ front ++ r ∷ back
      → f.rules ≡ (front ++ r ∷ []) ++ back
  next front r back e = e ∙ sym (append_assoc front (r ∷ []) back)

  -- a condition that a line spells passes the checks, and names v0 to v31
  record IsFineTest (c : Cond) : Type 0 where
    checked : IsReadableCondition sig None c
    names : AllByRecursion (λ x. is_known same_name (numbered_names MAX_VARIABLES) x ≡ true) (cond_names c)

  spelled-fine : (front back : List RuleLine) → f.rules ≡ front ++ back
      → AllByRecursion IsFineTest (spelled_tests back)
  spelled-fine front [] e = tt
  spelled-fine front (r ∷ back) e = all-append IsFineTest (spelled_of r) (spelled_tests back)
      (by_test r.test (fine front r back e).test (own-right front r back e).test)
      (spelled-fine (front ++ r ∷ []) back (next front r back e))
    where
      few : length r.vars ≤ MAX_VARIABLES
      few = let h = (fine front r back e).names.few in grind (arith, nat_tests, h)

      by_test : (t : RuleTest) → is_bad_test (length f.tests) front r.vars t ≡ false → IsRightRuleTest sig One t
          → AllByRecursion IsFineTest (spelled_test r.vars t)
      by_test untested h k = tt
      by_test (tested n) h k = tt
      by_test (spelled c) h k = (
        record {
          checked = renamed-readable sig r.vars (omega (arith, few)) c (passes c k.1);
          names = subst (AllByRecursion (λ x. is_known same_name (numbered_names MAX_VARIABLES) x ≡ true))
              (sym (cond_names-renamed r.vars c))
              (place_names-known r.vars few (cond_names c)
              (not-false (list_all (is_known same_name r.vars) (cond_names c)) h));
        },
        tt,
      )

  tests-fine : AllByRecursion IsFineTest spells
  tests-fine = all-from_in IsFineTest spells (λ c i.
      elim (from_in-firsts_after (same_cond sig) c [] (spelled_tests f.rules) i) [
        | inl j ↦ absurd j
        | inr j ↦ all_in IsFineTest (spelled_tests f.rules) c (spelled-fine [] f.rules refl) j
      ])

  -- the lines of the rules are right, and have no line feed
  record IsFineLine (r : ProgramRule) : Type 0 where
    fits : IsRightRule sig Two (line_of_rule r)
    text : IsOneLine (rule_line sig (line_of_rule r))

  rules-fine : (front back : List RuleLine) → f.rules ≡ front ++ back
      → AllByRecursion IsFineLine (map (rule_of sig spells) back)
  rules-fine front [] e = tt
  rules-fine front (r ∷ back) e = (
    (
        let own = own-right front r back e in
        let small = short (test_number sig spells r.vars r.test)
        (test-number sig f.rules spelling front r back e (own-spelling front r back e)) in
        record {
          fits = record {
            name = own.name;
            vars = own.vars;
            test = by_number (test_number sig spells r.vars r.test) small;
          };
          text = rule-text sig (rule_of sig spells r) own.name own.vars small;
        }
        ),
    rules-fine (front ++ r ∷ []) back (next front r back e),
  )
    where
      short : (o : Option ℕ) → IsBelow (length spells) o → IsShortTarget o
      short None h = tt
      short (Some n) h = omega (arith, h, few-tests)

      by_number : (o : Option ℕ) → IsShortTarget o → IsRightRuleTest sig Two (numbered_test o)
      by_number None h = tt
      by_number (Some n) h = (refl, h)

  -- ---- right lines

  right-again : IsRightForm sig again
  right-again = record {
    ops = subst (AllByRecursion (IsDeclaration (codes "op "))) parts.0 right.ops;
    kinds = subst (AllByRecursion (IsDeclaration (codes "kind "))) parts.1 right.kinds;
    no_tests = λ e. (let wrong : Two ≡ One = e in cc);
    few_tests = few-tests;
    tests = all-also IsFineTest (IsRightTest sig)
        (λ c h. record { right = readable c h.checked; names = h.names }) spells
        tests-fine;
    few_rules = (
        let a = length-map (map (rule_of sig spells) f.rules) line_of_rule in
        let b = length-map f.rules (rule_of sig spells) in
        let c = right.few_rules in
        omega (arith, a, b, c)
        );
    rules = all-map IsFineLine (IsRightRule sig Two) line_of_rule (λ r h. h.fits) (map (rule_of sig spells) f.rules)
        (rules-fine [] f.rules refl);
    begin = subst IsShortTarget (sym begin-same) right.begin;
    begins = subst (λ b. IsSome b ↔ (f.code ≢ [])) (sym begin-same) right.begins;
    few_instrs = right.few_instrs;
    code = code-right sig f.code (subst (λ n. AllByRecursion (IsRightInstr sig n) f.code) one right.code);
  }

  -- ---- no fault

  tests-again : tests_of sig again ≡ spells
  tests-again = ap (λ l. spells ++ firsts_after (same_cond sig) [] l)
      (spelled-again (map (rule_of sig spells) f.rules)) ∙ append-nil spells

  program-again : program ≡ program_of sig again
  program-again = sym (ap (λ l. record {
    rules = map (rule_of sig l) again.rules;
    tests = l;
    code = f.code;
  }) tests-again ∙ ap (λ l. record { rules = l; tests = spells; code = f.code })
      (rules-again sig spells (map (rule_of sig spells) f.rules)))

  none-declared : faults_of_declarations sig again ≡ []
  none-declared = (λ i. declaration_faults 2 (lines_of (signature_text sig)) (sym parts.0 i ++ sym parts.1 i))
      ∙ none_declared

  none-lines : faults_of_rules sig again ≡ []
  none-lines = ap (faults_along (rule_faults (length spells)) [] (first_rule_line again)) (lines-map sig spells f.rules)
      ∙ none-rules sig f.rules spelling (first_rule_line f) (first_rule_line again)
      (ap (λ n. faults_along (rule_faults n) [] (first_rule_line f) f.rules)
      (sym (ap (λ l. length l) (right.no_tests one))) ∙ none_tested.0)

  none-left_over : faults_of_unused sig again ≡ []
  none-left_over = ap (λ l. faults_along (unused_faults l) [] (first_test_line again) spells)
      (lines-map sig spells f.rules) ∙ none-unused sig f.rules spelling (first_test_line again)

  none-begin : faults_of_begin sig again ≡ []
  none-begin = ap (λ t. target_faults (stop_number sig f) (line_of_begin again) 0 (option_to_list t)) begin-same
      ∙ targets-again (stop_number sig f) (line_of_begin f) (line_of_begin again) 0 (option_to_list f.begin)
      none_later.0

  none-code : faults_of_code sig again ≡ []
  none-code =
      ap (λ p. code_faults sig (most_nodes Two) p.tests p.rules (stop_number sig f) (suc (line_of_begin again)) 1
      (lead [] (first_target f.code)) f.code) (sym program-again)
      ∙ ap (λ t. code_faults sig (most_nodes Two) spells program.rules (stop_number sig f) (suc (line_of_begin again)) 1
      (lead [] t) f.code) begin-same
      ∙ code-again sig (most_nodes One) (most_nodes Two) (omega arith) spells program.rules (stop_number sig f)
      (suc (line_of_begin f)) (suc (line_of_begin again)) 1 (lead [] f.begin) f.code
      (ap (λ n. code_faults sig (most_nodes n) spells program.rules (stop_number sig f) (suc (line_of_begin f)) 1
      (lead [] f.begin) f.code) (sym one)
      ∙ ap (λ p. code_faults sig (most_nodes f.format) p.tests p.rules (stop_number sig f) (suc (line_of_begin f)) 1
      (lead [] f.begin) f.code) (sym program-same) ∙ none_later.1)

  none-again : form_faults sig again ≡ []
  none-again = nil-both (faults_of_declarations sig again) _ none-declared
      (nil-both (faults_of_tests sig again) _ (none-tests sig f.rules spelling (first_test_line again))
      (nil-both (faults_of_rules sig again) _ none-lines (nil-both (faults_of_unused sig again) _ none-left_over
      (nil-both (faults_of_begin sig again) (faults_of_code sig again) none-begin none-code))))

  -- ---- the lines of the text

  module _ (feeds : AllByRecursion IsOneLine (form_lines sig f)) where
    -- the lines behind the rules are the same
    later-lines : AllByRecursion IsOneLine
        (codes "code" ∷ (codes "0 begin down " ++ target_text (first_target f.code)) ∷ code_lines sig 1 f.code)
    later-lines = subst (λ t. AllByRecursion IsOneLine
        (codes "code" ∷ (codes "0 begin down " ++ target_text t) ∷ code_lines sig 1 f.code)) (sym begin-same)
        (all-split IsOneLine (map (rule_line sig) f.rules) _
        (all-split IsOneLine (map (test_line sig) f.tests) _
        (all-split IsOneLine f.kinds _ (all-split IsOneLine f.ops _ feeds.1).1).1).1).1

    test-text : (c : Cond) → IsFineTest c → IsOneLine (test_line sig c)
    test-text c h = line-append (codes "test ") (cond_text sig c ++ codes ";") refl
        (line-append (cond_text sig c) (codes ";")
        (cond-line sig (spelled-lines sig names_spelled) c h.checked.sound.checked) refl)

    lines-again : AllByRecursion IsOneLine (form_lines sig again)
    lines-again = (
      line-append (codes "matchpy program ") (decimal 2) refl (decimal-line 2 (omega arith)),
      all-append IsOneLine again.ops _ (line-lines_of (flat_map op_text sig.ops))
          (all-append IsOneLine again.kinds _ (line-lines_of (flat_map kind_text sig.kinds))
          (all-append IsOneLine (map (test_line sig) spells) _
          (all-map IsFineTest IsOneLine (test_line sig) test-text spells tests-fine)
          (all-append IsOneLine (map (rule_line sig) again.rules) _
          (rule-texts (map (rule_of sig spells) f.rules) (rules-fine [] f.rules refl)) later-lines))),
    )
      where
        rule-texts : (rs : List ProgramRule) → AllByRecursion IsFineLine rs
            → AllByRecursion IsOneLine (map (rule_line sig) (map line_of_rule rs))
        rule-texts [] h = tt
        rule-texts (r ∷ rs) h = (h.0.text, rule-texts rs h.1)

    -- the printed text is the program
    pub printed-again : IsProgramOf sig (program_text sig (program_of sig f)) (program_of sig f)
    printed-again = subst (λ p. IsProgramOf sig (program_text sig p) p) (sym program-same) (record {
      form = again;
      is_form = record {
        right = right-again;
        lines = lines_of-lines_text (form_lines sig again) lines-again;
        ended = ap lines_text (lines_of-lines_text (form_lines sig again) lines-again);
      };
      faultless = none-again;
      program = program-again;
    })

-- bytes that are a program in format 1 are one whose printed text is it again
pub again-one : (sig : Sig) → IsSpelledSignature sig
    → ((c : Cond) → IsRightCond sig c → IsReadableCondition sig None c)
    → ((c : Cond) → IsReadableCondition sig None c → IsRightCond sig c)
    → (bytes : Text) (p : Program) (h : IsProgramOf sig bytes p) → h.form.format ≡ One
    → IsProgramOf sig (program_text sig p) p
again-one sig names_spelled passes readable bytes p h one =
    subst (λ q. IsProgramOf sig (program_text sig q) q) (sym h.program)
    (printed-again sig names_spelled passes readable h.form one h.is_form.right h.faultless
    (subst (AllByRecursion IsOneLine) h.is_form.lines (line-lines_of bytes)))
