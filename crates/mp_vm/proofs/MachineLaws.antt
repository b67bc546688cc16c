-- Reading line by line: each state's lines begin right lines, each line that may come next leads to a state, and the
-- lines of a right form lead to the end.
use Rattle.std.proofs.Common.{◌≡◌, ℕ, suc, ◌+◌, ◌≤◌, List, [], ◌∷◌, ◌++◌, map, length, true, refl, ap, sym, ◌∙◌}
use Rattle.std.proofs.Common.{subst, arith, append_assoc, append-nil, length-append}
use Rattle.std.specs.Prelude.{◌≢◌, ◌↔◌, Option, Some, None, IsSome, codes, decimal}
use Rattle.std.specs.List.{AllByRecursion}
use Rattle.std.proofs.lemmas.List.{map-append}
use Rattle.mp_io.specs.Devices.{Text}
use Rattle.mp_term.specs.Signature.{Sig}
use Rattle.mp_term.proofs.ListLaws.{all-append}
use Rattle.mp_pattern.specs.declared.limits.TheConstants.{MAX_RULES}
use Rattle.mp_pattern.specs.CondTree as cond
use Rattle.mp_walk.specs.Instrs.{Instr}
use Rattle.mp_walk.proofs.EntryLaws.{none-some}
use Rattle.mp_build.proofs.Faultless.{nil-both, some-behind}
use Rattle.mp_program.specs.declared.format.Format.{Format}
use Rattle.mp_program.specs.declared.format.Format.TheVariants.{One, Two}
use Rattle.mp_program.specs.Form.{format_number, RuleLine, Form}
use Rattle.mp_program.specs.FormText as text
use Rattle.mp_program.specs.FormText.{lines_of, lines_text, form_lines, instr_lines, code_lines}
use Rattle.mp_program.specs.RightForm.{IsShort, IsShortTarget, IsDeclaration, IsRightTest, IsRightRule, IsRightInstr}
use Rattle.mp_program.specs.RightForm.{IsRightForm}
use Rattle.mp_program.specs.Reading.{IsFormOf, Begins}
use Rattle.mp_vm.specs.declared.stage.Stage.{Stage}
use Rattle.mp_vm.specs.declared.stage.Stage.TheVariants.{Ops, Kinds, Tests, Rules, Code, Begin, Instrs, Stop}
use Rattle.mp_vm.specs.Machine.{State, start, IsBeforeBegin, IsAtStage, any_instr}
use Rattle.mp_vm.specs.Machine.{completed_code, completed, begin_text}
use Rattle.mp_vm.specs.Machine.{begun_lines, state_lines, IsState, IsStateOf, may_follow, HasRoom, MayCome, IsNextText}
use Rattle.mp_vm.specs.Machine.{longer, step}
use Rattle.mp_line.specs.Lines.{Line, op_line, kind_line, test_line, rule_line, code_line, begin_line, instr_line}
use Rattle.mp_line.specs.Lines.{stop_line}

-- ---- lists

-- the last of five lists in two pieces
five-append : {X : Type 0} (a b c d e r : List X)
    → a ++ (b ++ (c ++ (d ++ (e ++ r)))) ≡ (a ++ (b ++ (c ++ (d ++ e)))) ++ r
five-append a b c d e r =
    ap (λ l. a ++ l) (ap (λ l. b ++ l) (ap (λ l. c ++ l) (sym (append_assoc d e r))
    ∙ sym (append_assoc c (d ++ e) r)) ∙ sym (append_assoc b (c ++ (d ++ e)) r))
    ∙ sym (append_assoc a (b ++ (c ++ (d ++ e))) r)

-- an item behind a list behind which nothing stands
put-end : {X : Type 0} (a r : List X) (x : X) → r ≡ [] → (a ++ x ∷ []) ++ r ≡ (a ++ r) ++ x ∷ []
put-end a r x e =
    ap (λ l. (a ++ x ∷ []) ++ l) e ∙ append-nil (a ++ x ∷ [])
    ∙ ap (λ l. l ++ x ∷ []) (sym (append-nil a) ∙ ap (λ l. a ++ l) (sym e))

-- so behind another list
put-second : {X : Type 0} (a b r : List X) (x : X) → r ≡ [] → a ++ ((b ++ x ∷ []) ++ r) ≡ (a ++ (b ++ r)) ++ x ∷ []
put-second a b r x e = ap (λ l. a ++ l) (put-end b r x e) ∙ sym (append_assoc a (b ++ r) (x ∷ []))

put-third : {X : Type 0} (a b c r : List X) (x : X) → r ≡ []
    → a ++ (b ++ ((c ++ x ∷ []) ++ r)) ≡ (a ++ (b ++ (c ++ r))) ++ x ∷ []
put-third a b c r x e = ap (λ l. a ++ l) (put-second b c r x e) ∙ sym (append_assoc a (b ++ (c ++ r)) (x ∷ []))

put-fourth : {X : Type 0} (a b c d r : List X) (x : X) → r ≡ []
    → a ++ (b ++ (c ++ ((d ++ x ∷ []) ++ r))) ≡ (a ++ (b ++ (c ++ (d ++ r)))) ++ x ∷ []
put-fourth a b c d r x e =
    ap (λ l. a ++ l) (put-third b c d r x e) ∙ sym (append_assoc a (b ++ (c ++ (d ++ r))) (x ∷ []))

-- what the lines before `code` say
abbrev pub before_code : Format → List Text → List Text → List cond.Cond → List RuleLine → Form
before_code format ops kinds tests rules = record {
  format = format;
  ops = ops;
  kinds = kinds;
  tests = tests;
  rules = rules;
  begin = None;
  code = [];
}

-- ---- a state's lines begin right lines

module _ (sig : Sig) where
  -- the lines of a text that goes on as soon as it may
  abbrev ending : Stage → Form → List Text
  ending Code f = begin_text f.begin ∷ code_lines sig 1 f.code
  ending Begin f = code_lines sig 1 (completed_code Begin f.begin f.code)
  ending Instrs f = (decimal (1 + length f.code) ++ codes " stop") ∷ []
  ending Stop f = []
  ending _ f = codes "code" ∷ begin_text f.begin ∷ code_lines sig 1 f.code

  begun-ending : (st : Stage) (f : Form) → begun_lines sig st f ++ ending st f
      ≡ codes "code" ∷ begin_text f.begin ∷ code_lines sig 1 (completed_code st f.begin f.code)
  begun-ending Ops f = refl
  begun-ending Kinds f = refl
  begun-ending Tests f = refl
  begun-ending Rules f = refl
  begun-ending Code f = refl
  begun-ending Begin f = refl
  begun-ending Instrs f = refl
  begun-ending Stop f = append-nil (codes "code" ∷ begin_text f.begin ∷ code_lines sig 1 f.code)

  pub state-begins : (s : State) → IsState sig s → Begins sig (state_lines sig s)
  state-begins s h =
      let f = s.form in
      let first = codes "matchpy program " ++ decimal (format_number f.format) in
      let tests = map (text.test_line sig) f.tests in
      let rules = map (text.rule_line sig) f.rules in
      record {
        form = completed s;
        rest = ending s.stage f;
        right = h.right;
        split = ap (λ l. first ∷ (f.ops ++ (f.kinds ++ (tests ++ (rules ++ l))))) (sym (begun-ending s.stage f))
            ∙ ap (λ l. first ∷ l) (five-append f.ops f.kinds tests rules (begun_lines sig s.stage f)
            (ending s.stage f));
      }

  -- ---- the end

  -- right lines lead to the end
  pub form-state : (f : Form) → IsRightForm sig f → IsStateOf sig (form_lines sig f) (record { stage = Stop; form = f })
  form-state f h = record { is = record { at = tt; right = h }; lines = refl }

  -- and at the end right lines are read
  pub stop-form : (f : Form) (bytes : Text) → IsStateOf sig (lines_of bytes) (record { stage = Stop; form = f })
      → lines_text (lines_of bytes) ≡ bytes → IsFormOf sig bytes f
  stop-form f bytes h e = record { right = h.is.right; lines = sym h.lines; ended = e }

  -- ---- what is right of a state

  -- the lines before `code`
  pub record Parts (f : Form) : Type 0 where
    pub ops : AllByRecursion (IsDeclaration (codes "op ")) f.ops
    pub kinds : AllByRecursion (IsDeclaration (codes "kind ")) f.kinds
    pub no_tests : f.format ≡ One → f.tests ≡ []
    pub few_tests : length f.tests ≤ MAX_RULES
    pub tests : AllByRecursion (IsRightTest sig) f.tests
    pub few_rules : length f.rules ≤ MAX_RULES
    pub rules : AllByRecursion (IsRightRule sig f.format) f.rules

  -- those of a form
  abbrev pub PartsOf : Form → Type 0
  PartsOf f = Parts (before_code f.format f.ops f.kinds f.tests f.rules)

  -- the lines behind it
  pub record Behind (format : Format) (d : Option ℕ) (is : List Instr) : Type 0 where
    pub begin : IsShortTarget d
    pub begins : IsSome d ↔ (is ≢ [])
    pub few : IsShort (suc (length is))
    pub code : AllByRecursion (IsRightInstr sig format) is

  pub parts-of : (s : State) → IsState sig s → PartsOf s.form
  parts-of s h = record {
    ops = h.right.ops;
    kinds = h.right.kinds;
    no_tests = h.right.no_tests;
    few_tests = h.right.few_tests;
    tests = h.right.tests;
    few_rules = h.right.few_rules;
    rules = h.right.rules;
  }

  pub behind-of : (s : State) → IsState sig s
      → Behind s.form.format s.form.begin (completed_code s.stage s.form.begin s.form.code)
  behind-of s h = record {
    begin = h.right.begin;
    begins = h.right.begins;
    few = h.right.few_instrs;
    code = h.right.code;
  }

  pub state-of : (st : Stage) (f : Form) → IsAtStage st f → PartsOf f
      → Behind f.format f.begin (completed_code st f.begin f.code) → IsState sig (record { stage = st; form = f })
  state-of st f at p b = record {
    at = at;
    right = record {
      ops = p.ops;
      kinds = p.kinds;
      no_tests = p.no_tests;
      few_tests = p.few_tests;
      tests = p.tests;
      few_rules = p.few_rules;
      rules = p.rules;
      begin = b.begin;
      begins = b.begins;
      few_instrs = b.few;
      code = b.code;
    };
  }

  -- nothing behind it is read
  pub behind-none : (format : Format) → Behind format None []
  behind-none format = record {
    begin = tt;
    begins = (λ h. absurd (none-some {X = ℕ} None refl h), λ h. absurd (h refl));
    few = omega arith;
    code = tt;
  }

  completed-none : (st : Stage) → completed_code st None [] ≡ []
  completed-none Ops = refl
  completed-none Kinds = refl
  completed-none Tests = refl
  completed-none Rules = refl
  completed-none Code = refl
  completed-none Begin = refl
  completed-none Instrs = refl
  completed-none Stop = refl

  pub behind-before : (format : Format) (st : Stage) (begin : Option ℕ) (code : List Instr) → begin ≡ None → code ≡ []
      → Behind format begin (completed_code st begin code)
  behind-before format st begin code b c =
      subst (λ d. Behind format d (completed_code st d code)) (sym b)
      (subst (λ is. Behind format None (completed_code st None is)) (sym c)
      (subst (Behind format None) (sym (completed-none st)) (behind-none format)))

  -- nothing but the first line is read
  pub start-state : (format : Format)
      → IsStateOf sig ((codes "matchpy program " ++ decimal (format_number format)) ∷ []) (start format)
  start-state format = record {
    is = state-of Ops (start format).form (refl, refl, refl, (refl, refl)) (record {
      ops = tt;
      kinds = tt;
      no_tests = λ e. refl;
      few_tests = omega arith;
      tests = tt;
      few_rules = omega arith;
      rules = tt;
    }) (behind-none format);
    lines = refl;
  }

  -- ---- one line more

  abbrev pub At : Stage → Form → State
  At st f = record { stage = st; form = f }

  abbrev Leads : State → Text → State → Type 0
  Leads old line new = IsStateOf sig (state_lines sig old ++ line ∷ []) new

  step-op : (f : Form) (line : Text) → IsState sig (At Ops f) → IsDeclaration (codes "op ") line
      → Leads (At Ops f) line (At Ops (longer line op_line f))
  step-op f line h d =
      let p = parts-of (At Ops f) h in
      record {
        is = state-of Ops (longer line op_line f) h.at (record {
          ops = all-append (IsDeclaration (codes "op ")) f.ops (line ∷ []) p.ops (d, tt);
          kinds = p.kinds;
          no_tests = p.no_tests;
          few_tests = p.few_tests;
          tests = p.tests;
          few_rules = p.few_rules;
          rules = p.rules;
        }) (behind-before f.format Ops f.begin f.code h.at.3.0 h.at.3.1);
        lines = ap (λ l. (codes "matchpy program " ++ decimal (format_number f.format)) ∷ l)
            (put-end f.ops (f.kinds ++ (map (text.test_line sig) f.tests ++ (map (text.rule_line sig) f.rules ++ [])))
            line (nil-both f.kinds _ h.at.0 (nil-both (map (text.test_line sig) f.tests) _
            (ap (map (text.test_line sig)) h.at.1) (nil-both (map (text.rule_line sig) f.rules) []
            (ap (map (text.rule_line sig)) h.at.2) refl))));
      }

  step-kind : (st : Stage) (f : Form) (line : Text) → IsState sig (At st f) → begun_lines sig st f ≡ [] → f.tests ≡ []
      → f.rules ≡ [] → IsBeforeBegin f → IsDeclaration (codes "kind ") line
      → Leads (At st f) line (At Kinds (longer line kind_line f))
  step-kind st f line h begun t r b d =
      let p = parts-of (At st f) h in
      let first = codes "matchpy program " ++ decimal (format_number f.format) in
      let tests = map (text.test_line sig) f.tests in
      let rules = map (text.rule_line sig) f.rules in
      record {
        is = state-of Kinds (longer line kind_line f) (some-behind f.kinds line, t, r, b) (record {
          ops = p.ops;
          kinds = all-append (IsDeclaration (codes "kind ")) f.kinds (line ∷ []) p.kinds (d, tt);
          no_tests = p.no_tests;
          few_tests = p.few_tests;
          tests = p.tests;
          few_rules = p.few_rules;
          rules = p.rules;
        }) (behind-before f.format Kinds f.begin f.code b.0 b.1);
        lines = ap (λ l. first ∷ l) (put-second f.ops f.kinds (tests ++ (rules ++ [])) line (nil-both tests _
            (ap (map (text.test_line sig)) t) (nil-both rules [] (ap (map (text.rule_line sig)) r) refl)))
            ∙ ap (λ l. (first ∷ (f.ops ++ (f.kinds ++ (tests ++ (rules ++ l))))) ++ line ∷ []) (sym begun);
      }

  step-test : (st : Stage) (f : Form) (line : Text) (c : cond.Cond) → IsState sig (At st f) → begun_lines sig st f ≡ []
      → f.rules ≡ [] → IsBeforeBegin f → HasRoom f (test_line c) → IsRightTest sig c → text.test_line sig c ≡ line
      → Leads (At st f) line (At Tests (longer line (test_line c) f))
  step-test st f line c h begun r b room right own =
      let p = parts-of (At st f) h in
      let first = codes "matchpy program " ++ decimal (format_number f.format) in
      let tests = map (text.test_line sig) f.tests in
      let rules = map (text.rule_line sig) f.rules in
      record {
        is = state-of Tests (longer line (test_line c) f) (some-behind f.tests c, r, b) (record {
          ops = p.ops;
          kinds = p.kinds;
          no_tests = λ e. let w : Two ≡ One = sym room.0 ∙ e in cc;
          few_tests = omega (arith, room.1, length-append f.tests (c ∷ []));
          tests = all-append (IsRightTest sig) f.tests (c ∷ []) p.tests (right, tt);
          few_rules = p.few_rules;
          rules = p.rules;
        }) (behind-before f.format Tests f.begin f.code b.0 b.1);
        lines = ap (λ l. first ∷ (f.ops ++ (f.kinds ++ (l ++ (rules ++ []))))) (map-append (text.test_line sig) f.tests
            (c ∷ []) ∙ ap (λ l. tests ++ l ∷ []) own)
            ∙ ap (λ l. first ∷ l) (put-third f.ops f.kinds tests (rules ++ []) line
            (nil-both rules [] (ap (map (text.rule_line sig)) r) refl))
            ∙ ap (λ l. (first ∷ (f.ops ++ (f.kinds ++ (tests ++ (rules ++ l))))) ++ line ∷ []) (sym begun);
      }

  step-rule : (st : Stage) (f : Form) (line : Text) (r : RuleLine) → IsState sig (At st f) → begun_lines sig st f ≡ []
      → IsBeforeBegin f → HasRoom f (rule_line r) → IsRightRule sig f.format r → text.rule_line sig r ≡ line
      → Leads (At st f) line (At Rules (longer line (rule_line r) f))
  step-rule st f line r h begun b room right own =
      let p = parts-of (At st f) h in
      let first = codes "matchpy program " ++ decimal (format_number f.format) in
      let tests = map (text.test_line sig) f.tests in
      let rules = map (text.rule_line sig) f.rules in
      record {
        is = state-of Rules (longer line (rule_line r) f) (some-behind f.rules r, b) (record {
          ops = p.ops;
          kinds = p.kinds;
          no_tests = p.no_tests;
          few_tests = p.few_tests;
          tests = p.tests;
          few_rules = omega (arith, room, length-append f.rules (r ∷ []));
          rules = all-append (IsRightRule sig f.format) f.rules (r ∷ []) p.rules (right, tt);
        }) (behind-before f.format Rules f.begin f.code b.0 b.1);
        lines = ap (λ l. first ∷ (f.ops ++ (f.kinds ++ (tests ++ (l ++ []))))) (map-append (text.rule_line sig) f.rules
            (r ∷ []) ∙ ap (λ l. rules ++ l ∷ []) own)
            ∙ ap (λ l. first ∷ l) (put-fourth f.ops f.kinds tests rules [] line refl)
            ∙ ap (λ l. (first ∷ (f.ops ++ (f.kinds ++ (tests ++ (rules ++ l))))) ++ line ∷ []) (sym begun);
      }

  -- the lines behind those before `code`
  lines-last : (f : Form) (begun : List Text) (line : Text) (st : Stage) (after : List Text)
      → begun_lines sig st f ≡ begun → after ≡ begun ++ line ∷ []
      → (codes "matchpy program " ++ decimal (format_number f.format)) ∷ (f.ops ++ (f.kinds
      ++ (map (text.test_line sig) f.tests ++ (map (text.rule_line sig) f.rules ++ after))))
      ≡ state_lines sig (At st f) ++ line ∷ []
  lines-last f begun line st after own more =
      let first = codes "matchpy program " ++ decimal (format_number f.format) in
      let tests = map (text.test_line sig) f.tests in
      let rules = map (text.rule_line sig) f.rules in
      ap (λ l. first ∷ (f.ops ++ (f.kinds ++ (tests ++ (rules ++ l)))))
      (more ∙ ap (λ l. l ++ line ∷ []) (sym own))
      ∙ ap (λ l. first ∷ l) (five-append f.ops f.kinds tests rules (begun_lines sig st f) (line ∷ []))

  step-code : (st : Stage) (f : Form) (line : Text) → IsState sig (At st f) → begun_lines sig st f ≡ []
      → IsBeforeBegin f → line ≡ codes "code" → Leads (At st f) line (At Code f)
  step-code st f line h begun b own = record {
    is = state-of Code f b (parts-of (At st f) h) (behind-before f.format Code f.begin f.code b.0 b.1);
    lines = lines-last f [] line st (begun_lines sig Code f) begun (ap (λ l. l ∷ []) (sym own));
  }

  -- an instruction with which a text may go on is right
  pub right-any : (format : Format) → IsRightInstr sig format any_instr
  right-any One = record { token = (tt, tt, tt); action = (λ e. cc, refl, (omega arith, tt)); over = tt }
  right-any Two = record { token = (tt, tt, tt); action = (λ e. cc, refl, (omega arith, tt)); over = tt }

  pub behind-begin : (format : Format) (d : Option ℕ) (is : List Instr) → IsShortTarget d → is ≡ []
      → Behind format d (completed_code Begin d is)
  behind-begin format None is short e = subst (Behind format None) (sym e) (behind-none format)
  behind-begin format (Some n) is short e = record {
    begin = short;
    begins = (λ h e. cc, λ h. refl);
    few = omega arith;
    code = (right-any format, tt);
  }

  step-begin : (f : Form) (line : Text) (d : Option ℕ) → IsState sig (At Code f) → IsShortTarget d
      → line ≡ begin_text d → Leads (At Code f) line (At Begin (longer line (begin_line d) f))
  step-begin f line d h short own =
      record {
        is = state-of Begin (longer line (begin_line d) f) h.at.1 (parts-of (At Code f) h)
            (behind-begin f.format d f.code short h.at.1);
        lines = lines-last f (codes "code" ∷ []) line Code (codes "code" ∷ begin_text d ∷ []) refl
            (ap (λ l. codes "code" ∷ l ∷ []) (sym own));
      }

  -- one instruction more
  pub instr_lines-append : (n : ℕ) (is : List Instr) (i : Instr)
      → instr_lines sig n (is ++ i ∷ []) ≡ instr_lines sig n is ++ text.instr_line sig (n + length is) i ∷ []
  instr_lines-append n [] i = ap (λ m. text.instr_line sig m i ∷ []) (let e : n ≡ n + 0 = omega arith in e)
  instr_lines-append n (j ∷ is) i = ap (λ l. text.instr_line sig n j ∷ l) (instr_lines-append (suc n) is i
      ∙ ap (λ m. instr_lines sig (suc n) is ++ text.instr_line sig m i ∷ [])
      (let e : suc n + length is ≡ n + suc (length is) = omega arith in e))

  step-instr : (st : Stage) (f : Form) (line : Text) (i : Instr) → IsState sig (At st f)
      → begun_lines sig st f ≡ codes "code" ∷ begin_text f.begin ∷ instr_lines sig 1 f.code → IsSome f.begin
      → AllByRecursion (IsRightInstr sig f.format) f.code → HasRoom f (instr_line i) → IsRightInstr sig f.format i
      → text.instr_line sig (suc (length f.code)) i ≡ line
      → Leads (At st f) line (At Instrs (longer line (instr_line i) f))
  step-instr st f line i h begun some code room right own =
      let number : 1 + length f.code ≡ suc (length f.code) = omega arith in
      let more = instr_lines-append 1 f.code i ∙ ap (λ l. instr_lines sig 1 f.code ++ l ∷ [])
      (ap (λ n. text.instr_line sig n i) number ∙ own) in
      record {
        is = state-of Instrs (longer line (instr_line i) f) (some-behind f.code i) (parts-of (At st f) h) (record {
          begin = h.right.begin;
          begins = (λ s. some-behind f.code i, λ e. some);
          few = omega (arith, room, length-append f.code (i ∷ []));
          code = all-append (IsRightInstr sig f.format) f.code (i ∷ []) code (right, tt);
        });
        lines = lines-last f (codes "code" ∷ begin_text f.begin ∷ instr_lines sig 1 f.code) line st
            (codes "code" ∷ begin_text f.begin ∷ instr_lines sig 1 (f.code ++ i ∷ [])) begun
            (ap (λ l. codes "code" ∷ begin_text f.begin ∷ l) more);
      }

  step-stop : (st : Stage) (f : Form) (line : Text) → IsState sig (At st f)
      → begun_lines sig st f ≡ codes "code" ∷ begin_text f.begin ∷ instr_lines sig 1 f.code
      → Behind f.format f.begin f.code → line ≡ decimal (suc (length f.code)) ++ codes " stop"
      → Leads (At st f) line (At Stop f)
  step-stop st f line h begun b own = record {
    is = state-of Stop f tt (parts-of (At st f) h) b;
    lines = lines-last f (codes "code" ∷ begin_text f.begin ∷ instr_lines sig 1 f.code) line st
        (begun_lines sig Stop f) begun
        (ap (λ l. codes "code" ∷ begin_text f.begin ∷ (instr_lines sig 1 f.code ++ l ∷ []))
        (ap (λ n. decimal n ++ codes " stop") (let e : 1 + length f.code ≡ suc (length f.code) = omega arith in e)
        ∙ sym own));
  }

  -- so each line that may come next
  by_line : (l : Line) (st : Stage) (f : Form) (line : Text) → IsState sig (At st f) → may_follow l st f.begin ≡ true
      → HasRoom f l → IsNextText sig f line l → Leads (At st f) line (step line l (At st f))
  by_line op_line Ops f line h m r t = step-op f line h t
  by_line op_line Kinds f line h m r t = cc
  by_line op_line Tests f line h m r t = cc
  by_line op_line Rules f line h m r t = cc
  by_line op_line Code f line h m r t = cc
  by_line op_line Begin f line h m r t = cc
  by_line op_line Instrs f line h m r t = cc
  by_line op_line Stop f line h m r t = cc
  by_line kind_line Ops f line h m r t = step-kind Ops f line h refl h.at.1 h.at.2 h.at.3 t
  by_line kind_line Kinds f line h m r t = step-kind Kinds f line h refl h.at.1 h.at.2 h.at.3 t
  by_line kind_line Tests f line h m r t = cc
  by_line kind_line Rules f line h m r t = cc
  by_line kind_line Code f line h m r t = cc
  by_line kind_line Begin f line h m r t = cc
  by_line kind_line Instrs f line h m r t = cc
  by_line kind_line Stop f line h m r t = cc
  by_line (test_line c) Ops f line h m r t = step-test Ops f line c h refl h.at.2 h.at.3 r t.0 t.1
  by_line (test_line c) Kinds f line h m r t = step-test Kinds f line c h refl h.at.2 h.at.3 r t.0 t.1
  by_line (test_line c) Tests f line h m r t = step-test Tests f line c h refl h.at.1 h.at.2 r t.0 t.1
  by_line (test_line c) Rules f line h m r t = cc
  by_line (test_line c) Code f line h m r t = cc
  by_line (test_line c) Begin f line h m r t = cc
  by_line (test_line c) Instrs f line h m r t = cc
  by_line (test_line c) Stop f line h m r t = cc
  by_line (rule_line q) Ops f line h m r t = step-rule Ops f line q h refl h.at.3 r t.0 t.1
  by_line (rule_line q) Kinds f line h m r t = step-rule Kinds f line q h refl h.at.3 r t.0 t.1
  by_line (rule_line q) Tests f line h m r t = step-rule Tests f line q h refl h.at.2 r t.0 t.1
  by_line (rule_line q) Rules f line h m r t = step-rule Rules f line q h refl h.at.1 r t.0 t.1
  by_line (rule_line q) Code f line h m r t = cc
  by_line (rule_line q) Begin f line h m r t = cc
  by_line (rule_line q) Instrs f line h m r t = cc
  by_line (rule_line q) Stop f line h m r t = cc
  by_line code_line Ops f line h m r t = step-code Ops f line h refl h.at.3 t
  by_line code_line Kinds f line h m r t = step-code Kinds f line h refl h.at.3 t
  by_line code_line Tests f line h m r t = step-code Tests f line h refl h.at.2 t
  by_line code_line Rules f line h m r t = step-code Rules f line h refl h.at.1 t
  by_line code_line Code f line h m r t = cc
  by_line code_line Begin f line h m r t = cc
  by_line code_line Instrs f line h m r t = cc
  by_line code_line Stop f line h m r t = cc
  by_line (begin_line d) Ops f line h m r t = cc
  by_line (begin_line d) Kinds f line h m r t = cc
  by_line (begin_line d) Tests f line h m r t = cc
  by_line (begin_line d) Rules f line h m r t = cc
  by_line (begin_line d) Code f line h m r t = step-begin f line d h t.0 t.1
  by_line (begin_line d) Begin f line h m r t = cc
  by_line (begin_line d) Instrs f line h m r t = cc
  by_line (begin_line d) Stop f line h m r t = cc
  by_line (instr_line i) Ops f line h m r t = cc
  by_line (instr_line i) Kinds f line h m r t = cc
  by_line (instr_line i) Tests f line h m r t = cc
  by_line (instr_line i) Rules f line h m r t = cc
  by_line (instr_line i) Code f line h m r t = cc
  by_line (instr_line i) Begin f line h m r t =
      step-instr Begin f line i h
      (ap (λ is. codes "code" ∷ begin_text f.begin ∷ instr_lines sig 1 is) (sym h.at)) (begins f.begin m)
      (subst (AllByRecursion (IsRightInstr sig f.format)) (sym h.at) tt) r t.0 t.1
    where
      begins : (d : Option ℕ) → may_follow (instr_line i) Begin d ≡ true → IsSome d
      begins None e = cc
      begins (Some n) e = refl
  by_line (instr_line i) Instrs f line h m r t =
      step-instr Instrs f line i h refl (h.right.begins.1 h.at) h.right.code r t.0 t.1
  by_line (instr_line i) Stop f line h m r t = cc
  by_line stop_line Ops f line h m r t = cc
  by_line stop_line Kinds f line h m r t = cc
  by_line stop_line Tests f line h m r t = cc
  by_line stop_line Rules f line h m r t = cc
  by_line stop_line Code f line h m r t = cc
  by_line stop_line Begin f line h m r t =
      step-stop Begin f line h (ap (λ is. codes "code" ∷ begin_text f.begin ∷ instr_lines sig 1 is) (sym h.at))
      (subst (λ d. Behind f.format d f.code) (sym (begins f.begin m))
      (subst (Behind f.format None) (sym h.at) (behind-none f.format))) t
    where
      begins : (d : Option ℕ) → may_follow stop_line Begin d ≡ true → d ≡ None
      begins None e = refl
      begins (Some n) e = cc
  by_line stop_line Instrs f line h m r t = step-stop Instrs f line h refl (behind-of (At Instrs f) h) t
  by_line stop_line Stop f line h m r t = cc

  pub step-state : (s : State) (l : Line) (line : Text) → IsState sig s → MayCome s l → IsNextText sig s.form line l
      → IsStateOf sig (state_lines sig s ++ line ∷ []) (step line l s)
  step-state s l line h m t = by_line l s.stage s.form line h m.follows m.room t
