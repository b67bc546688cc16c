-- What is generated of sound rules is valid.
use Rattle.std.proofs.Common.{◌≡◌, ◌≢◌, ◌≤◌, ◌<◌, ℕ, zero, suc, List, [], ◌∷◌, ◌++◌, map, length, true}
use Rattle.std.proofs.Common.{false, refl, ap, sym, ◌∙◌, inl, inr, subst, arith, append-nil, ◌⊎◌, ◌^◌}
use Rattle.std.specs.Prelude.{Option, Some, None, ◌↔◌, IsSome, flat_map, option_to_list}
use Rattle.std.specs.Prelude.{codes, decimal, if◌then◌else◌}
use Rattle.std.specs.List.{AllByRecursion}
use Rattle.std.proofs.lemmas.List.{length-map}
use Rattle.std.proofs.lemmas.Slice.Eq.{bytes_eq-Decides}
use Rattle.mp_io.specs.Devices.{Text}
use Rattle.mp_term.specs.Listing.{In}
use Rattle.mp_term.specs.Names.{is_name}
use Rattle.mp_term.specs.Signature.{Sig}
use Rattle.mp_term.proofs.ListLaws.{all-append}
use Rattle.mp_term.proofs.ListingLaws.{all_in}
use Rattle.mp_term.proofs.SearchLaws.{from_in-append, from_in-map, all-from_in, all-map}
use Rattle.mp_pattern.specs.declared.limits.TheConstants.{MAX_PATTERN_NODES, MAX_VARIABLES, MAX_RULES, MAX_DEPTH}
use Rattle.mp_pattern.specs.Admission.{Rule}
use Rattle.mp_pattern.specs.CondTree.{Cond}
use Rattle.mp_pattern.specs.Firsts.{is_known, firsts_after}
use Rattle.mp_pattern.specs.NetTokens.{NetToken, sym_token, enter_token, leave_token, wild_token, comm_token, number_in}
use Rattle.mp_pattern.specs.PatternTree.{Pattern, symbol_pattern, app_pattern, wild_pattern, Patterns, no_patterns}
use Rattle.mp_pattern.specs.PatternTree.{more_patterns}
use Rattle.mp_pattern.specs.SoundRule.{IsFormed, AreFormed, IsChecked, IsSoundCondition, HasSoundCondition}
use Rattle.mp_pattern.specs.SoundRule.{IsSoundRule, AreSoundRules}
use Rattle.mp_pattern.specs.Value.{same_name}
use Rattle.mp_pattern.specs.Variables.{Use, uses, all_uses, variables}
use Rattle.mp_pattern.proofs.NameLaws.{same_name-is}
use Rattle.mp_theory.proofs.FirstItems.{known-in}
use Rattle.mp_theory.proofs.FirstsLaws.{from_in-firsts_after}
use Rattle.mp_walk.specs.Instrs.{Instr, instr_at}
use Rattle.mp_walk.specs.SoundTokens.{IsSoundToken}
use Rattle.mp_walk.specs.Walkable.{numbered_names, IsWalkable}
use Rattle.mp_walk.proofs.CodePaths.{instr-in, down-target, over-target}
use Rattle.mp_walk.proofs.NumberedNames.{number_in-less}
use Rattle.mp_walk.proofs.PathLaws.{token-sound}
use Rattle.mp_print.specs.PrintedCond.{cond_text}
use Rattle.mp_print.specs.PrintedSignature.{op_text, kind_text, signature_text}
use Rattle.mp_build.specs.AloneCondition.{IsCondOf}
use Rattle.mp_round_trip.specs.OpenBrackets.{condition_depth, IsShallowIf}
use Rattle.mp_round_trip.specs.Readable.{IsReadableCondition}
use Rattle.mp_many.specs.Laid.{tree_of}
use Rattle.mp_many.proofs.WalkableLaws.{walkable}
use Rattle.mp_program.specs.declared.fault.ProgramError.TheVariants.{BadReference}
use Rattle.mp_program.specs.declared.format.Format.TheVariants.{Two}
use Rattle.mp_program.specs.Program.{Program}
use Rattle.mp_program.specs.Form.{RuleLine, Form}
use Rattle.mp_program.specs.FormFaults.{declaration_faults, target_faults, code_faults, form_faults, line_of_begin}
use Rattle.mp_program.specs.FormFaults.{first_test_line, first_rule_line, stop_number}
use Rattle.mp_program.specs.FormText.{lines_of, lines_text, test_line, rule_line, target_text, form_lines}
use Rattle.mp_program.specs.FormText.{form_text, numbered_test, line_of_rule, first_target, form_of, program_text}
use Rattle.mp_program.specs.Leads.{lead}
use Rattle.mp_program.specs.ProgramOf.{renamed_cond, same_cond, spelled_test, tests_of, test_number, rule_of}
use Rattle.mp_program.specs.ProgramOf.{program_of}
use Rattle.mp_program.specs.Reading.{IsProgramOf}
use Rattle.mp_program.specs.RightForm.{IsShort, IsShortTarget, IsRightAction, IsRightInstr, IsRightTest, IsRightRule}
use Rattle.mp_program.specs.RightForm.{IsRightRuleTest, IsRightForm}
use Rattle.mp_program.specs.TokenPaths.{cond_names}
use Rattle.mp_program.proofs.LineLaws.{IsOneLine, lines_of-append, lines_of-lines_text, line-lines_of}
use Rattle.mp_program.proofs.NameLaws.{known-numbered}
use Rattle.mp_program.proofs.PrintedLines.{op-ended}
use Rattle.mp_program_laws.proofs.LineFeeds.{line-append, decimal-line, cond-line}
use Rattle.mp_program_laws.proofs.RenamedLaws.{cond_names-renamed}
use Rattle.mp_program_laws.proofs.SpelledTests.{none-tests}
use Rattle.mp_gen.specs.Generated.{spelled_condition, spelled_rule, generated}
use Rattle.mp_gen.specs.Printable.{ArePrintable}
use Rattle.mp_gen.proofs.FormLines.{kind-declared, HasShortVariable, IsLineInstr, code-line}
use Rattle.mp_gen.proofs.FlatPatterns.{IsFormedToken}
use Rattle.mp_gen.proofs.LeadLaws.{none-target_faults}
use Rattle.mp_gen.proofs.RightTokens.{AreTermsRead, ArePatternsRead, short-variable, tree-formed, tree-token}
use Rattle.mp_gen.proofs.RuleFaults.{spelled_all, spelled-from, spelling, all, line, spelled-known, none-unused}
use Rattle.mp_gen.proofs.RuleFaults.{none-rules}
use Rattle.mp_gen.proofs.RuleNames.{new_name}
use Rattle.mp_gen.proofs.TestNames.{checked-names}
use Rattle.mp_program_laws.proofs.TestPlaces.{placed}
use Rattle.mp_program_laws.proofs.DeclaredLines.{spelled-lines, op-declared}
use Rattle.mp_program_laws.proofs.FormAgain.{length-firsts, length-spelled, rule-text}
use Rattle.mp_gen.proofs.TreeFaults.{AreReadConditions, program_rules, right-action, none-instructions}

-- ---- lists

all-index : (P : Instr → Type 0) (is : List Instr) → ((n : ℕ) (i : Instr) → instr_at is n ≡ Some i → P i)
    → AllByRecursion P is
all-index P [] h = tt
all-index P (i ∷ is) h = (h 1 i refl, all-index P is (λ n j e. h (suc n) j (later n j e)))
  where
    later : (n : ℕ) (j : Instr) → instr_at is n ≡ Some j → instr_at (i ∷ is) (suc n) ≡ Some j
    later zero j e = cc
    later (suc n) j e = e

all-new : (vs xs : List (List ℕ)) → length vs ≤ MAX_VARIABLES
    → AllByRecursion (λ x. is_known same_name vs x ≡ true) xs
    → AllByRecursion (λ x. is_known same_name (numbered_names MAX_VARIABLES) x ≡ true) (map (new_name vs) xs)
all-new vs [] few h = tt
all-new vs (x ∷ xs) few h = (
  known-numbered MAX_VARIABLES (number_in vs x)
      (let l = number_in-less vs x (known-in same_name same_name-is vs x h.0) in omega (arith, l, few)),
  all-new vs xs few h.1,
)

-- the variables of a formed pattern are names
mutual
  formed-names : (sig : Sig) (f : Option ℕ) (p : Pattern) → IsFormed sig p → (u : Use) → In u (uses f p)
      → is_name u.name ≡ true
  formed-names sig f (symbol_pattern n) h u i = absurd i
  formed-names sig f (wild_pattern w None) h u i = absurd i
  formed-names sig f (wild_pattern w (Some x)) h u (inl e) =
      ap (λ (z : Use). is_name z.name) e ∙ h.1
  formed-names sig f (wild_pattern w (Some x)) h u (inr i) = absurd i
  formed-names sig f (app_pattern g ps) h u i = all_formed-names sig (Some g) ps h.1 u i

  all_formed-names : (sig : Sig) (f : Option ℕ) (ps : Patterns) → AreFormed sig ps → (u : Use) → In u (all_uses f ps)
      → is_name u.name ≡ true
  all_formed-names sig f no_patterns h u i = absurd i
  all_formed-names sig f (more_patterns p ps) h u i = elim (from_in-append u (uses f p) (all_uses f ps) i) [
    | inl j ↦ formed-names sig f p h.0 u j
    | inr j ↦ all_formed-names sig f ps h.1 u j
  ]

variable-names : (sig : Sig) (p : Pattern) → IsFormed sig p
    → AllByRecursion (λ x. is_name x ≡ true) (variables p)
variable-names sig p h = all-from_in (λ x. is_name x ≡ true) (variables p) (λ x i. each x
    (from_in-firsts_after same_name x [] (map (λ (u : Use). u.name) (uses None p)) i))
  where
    each : (x : List ℕ) → In x [] ⊎ In x (map (λ (u : Use). u.name) (uses None p)) → is_name x ≡ true
    each x (inl j) = absurd j
    each x (inr j) =
        let a = from_in-map (λ (u : Use). u.name) x (uses None p) j in
        ap is_name a.1 ∙ formed-names sig None p h a.0 a.2

-- lines without a difference
none-declared : (at : ℕ) (ls : List Text) → declaration_faults at ls ls ≡ []
none-declared at [] = refl
none-declared at (l ∷ ls) =
    ap (λ b. if b then declaration_faults (suc at) ls ls else (BadReference at ∷ [])) ((bytes_eq-Decides l l).1 refl)
    ∙ none-declared (suc at) ls

-- ---- the form of the program

-- the conditions of the rules, renamed, may be read over any names
abbrev pub AreReadable : Sig → List Rule → Type 0
AreReadable sig rules = (c : Cond) → In c (spelled_all rules) → IsReadableCondition sig None c

-- so are read those of each rule
pub read-rules : (sig : Sig) (rules : List Rule)
    → ((r : Rule) (d : Cond) → In r rules → r.condition ≡ Some d
    → IsCondOf sig None (cond_text sig (renamed_cond (variables r.pattern) d)) (renamed_cond (variables r.pattern) d))
    → AreReadConditions sig rules
read-rules sig rules h c i =
    let s = spelled-from rules c i in
    subst (λ d. IsCondOf sig None (cond_text sig d) d) (sym s.4) (h s.0 s.1 s.2 s.3)

-- each condition that may be read is read of its printed text
abbrev pub AreConditionsRead : Sig → Type 0
AreConditionsRead sig = (c : Cond) → IsReadableCondition sig None c → IsCondOf sig None (cond_text sig c) c

-- the conditions of sound rules that aren't too deep may be read, renamed too
pub readable-rules : (sig : Sig) (rules : List Rule) → AreSoundRules sig rules → ArePrintable sig rules
    → ((p : Pattern) (d : Cond) → IsFormed sig p → IsSoundCondition sig p d → condition_depth d ≤ MAX_DEPTH
    → IsReadableCondition sig None d)
    → ((names : List (List ℕ)) (d : Cond) → length names < 2 ^ 32 → IsReadableCondition sig None d
    → IsReadableCondition sig None (renamed_cond names d))
    → AreReadable sig rules
readable-rules sig rules sound printable first renamed c i =
    let s = spelled-from rules c i in
    let own = all_in (IsSoundRule sig) rules s.0 sound.each s.2 in
    let few = own.pattern.few_variables in
    subst (IsReadableCondition sig None) (sym s.4)
    (renamed (variables s.0.pattern) s.1 (omega (arith, few))
    (first s.0.pattern s.1 own.pattern.formed (subst (HasSoundCondition sig s.0.pattern) s.3 own.condition)
    (subst IsShallowIf s.3 (all_in (λ (r : Rule). IsShallowIf r.condition) rules s.0 printable.shallow s.2))))

module _ (sig : Sig) (rules : List Rule) (sound : AreSoundRules sig rules) (printable : ArePrintable sig rules)
    (readable : AreReadable sig rules) (terms : AreTermsRead sig) (patterns : ArePatternsRead sig)
    (conditions : AreConditionsRead sig) (short : IsShort (suc (length (tree_of sig rules)))) where
  read : AreReadConditions sig rules
  read c i = conditions c (readable c i)

  abbrev tests : List Cond
  tests = all sig rules sound

  abbrev code : List Instr
  code = tree_of sig rules

  -- the program, and its lines
  abbrev program : Program
  program = record { rules = program_rules sig rules sound read; tests = tests; code = tree_of sig rules }

  abbrev form : Form
  form = record {
    format = Two;
    ops = lines_of (flat_map op_text sig.ops);
    kinds = lines_of (flat_map kind_text sig.kinds);
    tests = tests;
    rules = map (line sig rules sound) rules;
    begin = first_target (tree_of sig rules);
    code = tree_of sig rules;
  }

  program-is : generated sig rules ≡ program
  program-is = refl

  rule-lines : (rs : List Rule) → map line_of_rule (map (rule_of sig tests) (map spelled_rule rs))
      ≡ map (line sig rules sound) rs
  rule-lines [] = refl
  rule-lines (r ∷ rs) = ap (λ l. line sig rules sound r ∷ l) (rule-lines rs)

  form-is : form_of sig program ≡ form
  form-is = ap (λ rs. record {
    format = Two;
    ops = lines_of (flat_map op_text sig.ops);
    kinds = lines_of (flat_map kind_text sig.kinds);
    tests = tests;
    rules = rs;
    begin = first_target (tree_of sig rules);
    code = tree_of sig rules;
  }) (rule-lines rules)

  -- ---- tests and rules

  test-in : (c : Cond) → In c tests → In c (spelled_all rules)
  test-in c i = elim (from_in-firsts_after (same_cond sig) c [] (spelled_all rules) i)
      [ inl j ↦ absurd j | inr j ↦ j ]

  few-tests : length tests ≤ MAX_RULES
  few-tests =
      let a = length-firsts (same_cond sig) [] (spelled_all rules) in
      let b = length-spelled (map spelled_rule rules) in
      let c = length-map rules spelled_rule in
      let d = sound.few in omega (arith, a, b, c, d)

  right-test : (c : Cond) → In c tests → IsRightTest sig c
  right-test c i =
      let s = spelled-from rules c (test-in c i) in
      let own = all_in (IsSoundRule sig) rules s.0 sound.each s.2 in
      record {
        right = read c (test-in c i);
        names = subst (λ d. AllByRecursion (λ x. is_known same_name (numbered_names MAX_VARIABLES) x ≡ true)
            (cond_names d)) (sym s.4)
            (subst (AllByRecursion (λ x. is_known same_name (numbered_names MAX_VARIABLES) x ≡ true))
            (sym (cond_names-renamed (variables s.0.pattern) s.1))
            (all-new (variables s.0.pattern) (cond_names s.1) own.pattern.few_variables
            (checked-names sig s.0.pattern s.1 (checked s.0 s.1 s.3 own.condition))));
      }
    where
      checked : (r : Rule) (d : Cond) → r.condition ≡ Some d → HasSoundCondition sig r.pattern r.condition
          → IsChecked sig r.pattern d
      checked r d e h =
          let k : HasSoundCondition sig r.pattern (Some d) = subst (HasSoundCondition sig r.pattern) e h in k.checked

  test-short : (r : Rule) → In r rules
      → IsShortTarget (test_number sig tests (variables r.pattern) (spelled_condition r.condition))
  test-short r i = by_condition r.condition refl
    where
      by_condition : (o : Option Cond) → r.condition ≡ o
          → IsShortTarget (test_number sig tests (variables r.pattern) (spelled_condition o))
      by_condition None e = tt
      by_condition (Some c) e =
          let p = placed sig tests (renamed_cond (variables r.pattern) c) (spelled-known sig rules sound r c i e) in
          let l = p.within in let f = few-tests in omega (arith, l, f)

  right-rule : (r : Rule) → In r rules → IsRightRule sig Two (line sig rules sound r)
  right-rule r i =
      let own = all_in (IsSoundRule sig) rules r sound.each i in
      record {
        name = own.name;
        vars = variable-names sig r.pattern own.pattern.formed;
        test = by_number (test_number sig tests (variables r.pattern) (spelled_condition r.condition)) (test-short r i);
      }
    where
      by_number : (o : Option ℕ) → IsShortTarget o → IsRightRuleTest sig Two (numbered_test o)
      by_number None h = tt
      by_number (Some n) h = (refl, h)

  -- ---- instructions

  abbrev walk : IsWalkable sig (tree_of sig rules)
  walk = walkable sig rules sound.each

  module _ (n : ℕ) (i : Instr) (held : instr_at (tree_of sig rules) n ≡ Some i) where
    down-short : (t : ℕ) → i.down ≡ Some t → IsShort t
    down-short t e = let f = walk.forward n t i held (down-target i t e) in omega (arith, f.1, short)

    over-short : IsShortTarget i.over
    over-short = by_over i.over refl
      where
        by_over : (o : Option ℕ) → i.over ≡ o → IsShortTarget o
        by_over None e = tt
        by_over (Some t) e = let f = walk.forward n t i held (over-target i t e) in omega (arith, f.1, short)

    action : IsRightAction i.down i.accepts
    action = right-action sig rules sound read n i held down-short

    right-instr : IsRightInstr sig Two i
    right-instr = record {
      token = tree-token sig rules sound terms patterns n i held;
      action = action;
      over = over-short;
    }

    line-instr : IsLineInstr sig (spelled-lines sig printable.spelled) i
    line-instr = record {
      token = all_in (λ (j : Instr). IsFormedToken sig j.token) (tree_of sig rules) i (tree-formed sig rules sound)
          (instr-in (tree_of sig rules) n i held);
      variable = variable i.token (token-sound sig (tree_of sig rules) walk n i held);
      down = down i.down refl;
      accepts = accepts i.down i.accepts action;
      over = over-short;
    }
      where
        variable : (k : NetToken) → IsSoundToken sig k → HasShortVariable sig (spelled-lines sig printable.spelled) k
        variable (sym_token m) h = tt
        variable (enter_token f) h = tt
        variable (leave_token f) h = tt
        variable (wild_token w x) h = short-variable x h.1
        variable (comm_token p) h = tt

        down : (o : Option ℕ) → i.down ≡ o → IsShortTarget o
        down None e = tt
        down (Some t) e = down-short t e

        accepts : (o : Option ℕ) (ms : List ℕ) → IsRightAction o ms → AllByRecursion IsShort ms
        accepts (Some t) ms h = subst (AllByRecursion IsShort) (sym h.1) tt
        accepts None ms h = h.2

  -- ---- right lines

  begin-short : (is : List Instr) → IsShortTarget (first_target is)
  begin-short [] = tt
  begin-short (i ∷ is) = omega arith

  begins : (is : List Instr) → IsSome (first_target is) ↔ (is ≢ [])
  begins [] = ((λ h e. (let wrong : false ≡ true = h in cc)), (λ h. absurd (h refl)))
  begins (i ∷ is) = ((λ h e. cc), (λ h. refl))

  right : IsRightForm sig form
  right = record {
    ops = op-declared sig printable.spelled;
    kinds = kind-declared sig printable.spelled printable.members;
    no_tests = λ e. cc;
    few_tests = few-tests;
    tests = all-from_in (IsRightTest sig) tests right-test;
    few_rules = (let e = length-map rules (line sig rules sound) in let f = sound.few in omega (arith, e, f));
    rules = all-map (IsRightRule sig Two) (line sig rules sound) rules right-rule;
    begin = begin-short (tree_of sig rules);
    begins = begins (tree_of sig rules);
    few_instrs = short;
    code = all-index (IsRightInstr sig Two) (tree_of sig rules) right-instr;
  }

  -- ---- lines without line feeds

  test-line : (c : Cond) → In c tests → IsOneLine (test_line sig c)
  test-line c i = line-append (codes "test ") (cond_text sig c ++ codes ";") refl
      (line-append (cond_text sig c) (codes ";")
      (cond-line sig (spelled-lines sig printable.spelled) c (readable c (test-in c i)).sound.checked) refl)

  one-rule : (r : Rule) → In r rules → IsOneLine (rule_line sig (line sig rules sound r))
  one-rule r i =
      let own = all_in (IsSoundRule sig) rules r sound.each i in
      rule-text sig (rule_of sig tests (spelled_rule r)) own.name
      (variable-names sig r.pattern own.pattern.formed) (test-short r i)

  begin-line : (is : List Instr) → IsOneLine (codes "0 begin down " ++ target_text (first_target is))
  begin-line [] = refl
  begin-line (i ∷ is) = line-append (codes "0 begin down ") (decimal 1) refl (decimal-line 1 (omega arith))

  one-lines : AllByRecursion IsOneLine (form_lines sig form)
  one-lines = (
    line-append (codes "matchpy program ") (decimal 2) refl (decimal-line 2 (omega arith)),
    all-append IsOneLine (lines_of (flat_map op_text sig.ops)) _ (line-lines_of (flat_map op_text sig.ops))
        (all-append IsOneLine (lines_of (flat_map kind_text sig.kinds)) _ (line-lines_of (flat_map kind_text sig.kinds))
        (all-append IsOneLine (map (test_line sig) tests) _ (all-map IsOneLine (test_line sig) tests test-line)
        (all-append IsOneLine (map (rule_line sig) (map (line sig rules sound) rules)) _
        (rules-line rules (λ r i. i)) (
          refl,
          (
            begin-line (tree_of sig rules),
            code-line sig (spelled-lines sig printable.spelled) 1 (tree_of sig rules) (omega (arith, short))
                (all-index (IsLineInstr sig (spelled-lines sig printable.spelled)) (tree_of sig rules) line-instr),
          ),
        )))),
  )
    where
      rules-line : (rs : List Rule) → ((r : Rule) → In r rs → In r rules)
          → AllByRecursion IsOneLine (map (rule_line sig) (map (line sig rules sound) rs))
      rules-line [] h = tt
      rules-line (r ∷ rs) h = (one-rule r (h r (inl refl)), rules-line rs (λ q i. h q (inr i)))

  -- ---- the program of the lines

  spelled-none : (rs : List Rule)
      → flat_map (λ (r : RuleLine). spelled_test r.vars r.test) (map (line sig rules sound) rs) ≡ []
  spelled-none [] = refl
  spelled-none (r ∷ rs) =
      ap (λ l. l ++ flat_map (λ (q : RuleLine). spelled_test q.vars q.test) (map (line sig rules sound) rs))
      (by_number (test_number sig tests (variables r.pattern) (spelled_condition r.condition))) ∙ spelled-none rs
    where
      by_number : (o : Option ℕ) → spelled_test (variables r.pattern) (numbered_test o) ≡ []
      by_number None = refl
      by_number (Some n) = refl

  tests-again : tests_of sig form ≡ tests
  tests-again = ap (λ l. tests ++ firsts_after (same_cond sig) [] l) (spelled-none rules) ∙ append-nil tests

  rules-again : (ts : List Cond) (rs : List Rule) → map (rule_of sig ts) (map (line sig rules sound) rs)
      ≡ map (rule_of sig tests) (map spelled_rule rs)
  rules-again ts [] = refl
  rules-again ts (r ∷ rs) =
      ap (λ n. record { name = r.name; vars = variables r.pattern; test = n }
      ∷ map (rule_of sig ts) (map (line sig rules sound) rs))
      (by_number (test_number sig tests (variables r.pattern) (spelled_condition r.condition)))
      ∙ ap (λ l. rule_of sig tests (spelled_rule r) ∷ l) (rules-again ts rs)
    where
      by_number : (o : Option ℕ) → test_number sig ts (variables r.pattern) (numbered_test o) ≡ o
      by_number None = refl
      by_number (Some n) = refl

  program-again : program ≡ program_of sig form
  program-again = sym (
      ap (λ ts. record {
        rules = map (rule_of sig (tests_of sig form)) (map (line sig rules sound) rules);
        tests = ts;
        code = tree_of sig rules;
      }) tests-again
      ∙ ap (λ rs. record { rules = rs; tests = tests; code = tree_of sig rules })
      (rules-again (tests_of sig form) rules))

  -- ---- no faults

  declared-lines : lines_of (signature_text sig)
      ≡ lines_of (flat_map op_text sig.ops) ++ lines_of (flat_map kind_text sig.kinds)
  declared-lines = lines_of-append op_text sig.ops (flat_map kind_text sig.kinds) op-ended

  begin-none : (at : ℕ) (is : List Instr)
      → target_faults (suc (length is)) at 0 (option_to_list (first_target is)) ≡ []
  begin-none at is = none-target_faults (suc (length is)) at 0 (option_to_list (first_target is)) (each is)
    where
      each : (js : List Instr) (t : ℕ) → In t (option_to_list (first_target js)) → (0 < t) × (t < suc (length js))
      each [] t h = absurd h
      each (j ∷ js) t (inl e) = (omega (arith, e), omega (arith, e))
      each (j ∷ js) t (inr h) = absurd h

  code-none : (at : ℕ) → code_faults sig MAX_PATTERN_NODES (tests_of sig form) (program_of sig form).rules
      (stop_number sig form) at 1 (lead [] (first_target (tree_of sig rules))) (tree_of sig rules) ≡ []
  code-none at =
      ap (λ ts. code_faults sig MAX_PATTERN_NODES ts (program_of sig form).rules (stop_number sig form) at 1
      (lead [] (first_target (tree_of sig rules))) (tree_of sig rules)) tests-again
      ∙ ap (λ rs. code_faults sig MAX_PATTERN_NODES tests rs (stop_number sig form) at 1
      (lead [] (first_target (tree_of sig rules))) (tree_of sig rules)) (rules-again (tests_of sig form) rules)
      ∙ none-instructions sig rules sound read at

  faultless : form_faults sig form ≡ []
  faultless =
      let declared : declaration_faults 2 (lines_of (signature_text sig)) (lines_of (flat_map op_text sig.ops)
      ++ lines_of (flat_map kind_text sig.kinds)) ≡ [] =
      ap (λ ls. declaration_faults 2 ls (lines_of (flat_map op_text sig.ops)
      ++ lines_of (flat_map kind_text sig.kinds))) declared-lines
      ∙ none-declared 2 (lines_of (flat_map op_text sig.ops) ++ lines_of (flat_map kind_text sig.kinds)) in
      nil-all declared (none-tests sig (map spelled_rule rules) (spelling rules) (first_test_line form))
      (none-rules sig rules sound (first_rule_line form)) (none-unused sig rules sound (first_test_line form))
      (begin-none (line_of_begin form) (tree_of sig rules)) (code-none (suc (line_of_begin form)))
    where
      nil-all : {X : Type 0} {a b c d e f : List X} → a ≡ [] → b ≡ [] → c ≡ [] → d ≡ [] → e ≡ [] → f ≡ []
          → a ++ (b ++ (c ++ (d ++ (e ++ f)))) ≡ []
      nil-all p q r s t u = rw (p, q, r, s, t, u) refl

  -- the printed text of what is generated is it
  pub is-program : IsProgramOf sig (program_text sig (generated sig rules)) (generated sig rules)
  is-program = subst (λ p. IsProgramOf sig (program_text sig p) p) (sym program-is)
      (subst (λ f. IsProgramOf sig (form_text sig f) program) (sym form-is) (record {
        form = form;
        is_form = record {
          right = right;
          lines = lines_of-lines_text (form_lines sig form) one-lines;
          ended = ap lines_text (lines_of-lines_text (form_lines sig form) one-lines);
        };
        faultless = faultless;
        program = program-again;
      }))
