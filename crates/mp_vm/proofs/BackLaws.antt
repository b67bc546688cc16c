-- Reading line by line: a state behind a line is that of one state before it and of one line.
use Rattle.std.proofs.Common.{◌≡◌, ℕ, suc, List, [], ◌∷◌, ◌++◌, map, length, true, refl, ap, sym, ◌∙◌}
use Rattle.std.proofs.Common.{◌⊎◌, inl, inr, subst, arith, length-append}
use Rattle.std.specs.Prelude.{◌≢◌, Option, Some, None, IsSome, codes, decimal}
use Rattle.std.specs.List.{AllByRecursion}
use Rattle.std.proofs.lemmas.List.{same_from_push}
use Rattle.mp_io.specs.Devices.{Text}
use Rattle.mp_term.specs.Signature.{Sig}
use Rattle.mp_term.proofs.ListLaws.{all-split}
use Rattle.mp_pattern.specs.CondTree as cond
use Rattle.mp_walk.specs.Instrs.{Instr}
use Rattle.mp_build.proofs.Faultless.{nil-both, some-behind}
use Rattle.mp_program.specs.declared.format.Format.{Format}
use Rattle.mp_program.specs.declared.format.Format.TheVariants.{One, Two}
use Rattle.mp_program.specs.Form.{format_number, RuleLine, Form}
use Rattle.mp_program.specs.FormText as text
use Rattle.mp_program.specs.RightForm.{IsDeclaration, IsRightTest, IsRightRule, IsRightInstr}
use Rattle.mp_program.proofs.ListLaws.{rest-same}
use Rattle.mp_line.specs.Lines.{Line, op_line, kind_line, test_line, rule_line, code_line, begin_line, instr_line}
use Rattle.mp_line.specs.Lines.{stop_line}
use Rattle.mp_vm.specs.declared.stage.Stage.{Stage}
use Rattle.mp_vm.specs.declared.stage.Stage.TheVariants.{Ops, Kinds, Tests, Rules, Code, Begin, Instrs, Stop}
use Rattle.mp_vm.specs.Machine.{State, IsBeforeBegin, IsAtStage, begin_text, state_lines, IsState, IsStateOf}
use Rattle.mp_vm.specs.Machine.{may_follow, MayCome, IsNextText, step}
use Rattle.mp_vm.proofs.MachineLaws.{PartsOf, parts-of, behind-of, state-of, behind-before, behind-begin}
use Rattle.mp_vm.proofs.MachineLaws.{At, step-state}
use Rattle.mp_vm.proofs.FrontLaws.{front-nil}

-- ---- lists

-- the last item and those before it
record Snoc {X : Type 0} (xs : List X) : Type 0 where
  pub front : List X
  pub item : X
  pub split : xs ≡ front ++ item ∷ []

snoc : {X : Type 0} (xs : List X) → xs ≢ [] → Snoc xs
snoc [] some = absurd (some refl)
snoc (x ∷ []) some = record { front = []; item = x; split = refl }
snoc (x ∷ (y ∷ xs)) some =
    let h = snoc (y ∷ xs) (λ e. cc) in
    record { front = x ∷ h.front; item = h.item; split = ap (λ l. x ∷ l) h.split }

-- a list is empty or isn't
nil-or : {X : Type 0} (xs : List X) → (xs ≡ []) ⊎ (xs ≢ [])
nil-or [] = inl refl
nil-or (x ∷ xs) = inr (λ e. cc)

-- one item is the last one with nothing before it
single : {X : Type 0} (h : X) (rest a : List X) (x : X) → rest ≡ [] → h ∷ rest ≡ a ++ x ∷ [] → a ≡ []
single h rest [] x n e = refl
single h rest (y ∷ a) x n e = absurd (some-behind a x (sym (rest-same h y rest (a ++ x ∷ []) e) ∙ n))

-- the format of a text with tests
two-format : (format : Format) → (format ≡ One → ⊥) → format ≡ Two
two-format One h = absurd (h refl)
two-format Two h = refl

module _ (sig : Sig) where
  -- ---- the part of the last line before `code`

  record Placed (f : Form) : Type 0 where
    pub stage : Stage
    pub at : IsAtStage stage f
    pub kind : f.tests ≡ [] → f.rules ≡ [] → may_follow kind_line stage f.begin ≡ true
    pub test : (c : cond.Cond) → f.rules ≡ [] → may_follow (test_line c) stage f.begin ≡ true
    pub rule : (r : RuleLine) → may_follow (rule_line r) stage f.begin ≡ true
    pub code : may_follow code_line stage f.begin ≡ true

  placed : (f : Form) → IsBeforeBegin f → Placed f
  placed f b = by_rules (nil-or f.rules)
    where
      by_kinds : (f.kinds ≡ []) ⊎ (f.kinds ≢ []) → f.tests ≡ [] → f.rules ≡ [] → Placed f
      by_kinds (inl k) t r = record {
        stage = Ops;
        at = (k, t, r, b);
        kind = λ _ _. refl;
        test = λ _ _. refl;
        rule = λ _. refl;
        code = refl;
      }
      by_kinds (inr k) t r = record {
        stage = Kinds;
        at = (k, t, r, b);
        kind = λ _ _. refl;
        test = λ _ _. refl;
        rule = λ _. refl;
        code = refl;
      }

      by_tests : (f.tests ≡ []) ⊎ (f.tests ≢ []) → f.rules ≡ [] → Placed f
      by_tests (inl t) r = by_kinds (nil-or f.kinds) t r
      by_tests (inr t) r = record {
        stage = Tests;
        at = (t, r, b);
        kind = λ e _. absurd (t e);
        test = λ _ _. refl;
        rule = λ _. refl;
        code = refl;
      }

      by_rules : (f.rules ≡ []) ⊎ (f.rules ≢ []) → Placed f
      by_rules (inl r) = by_tests (nil-or f.tests) r
      by_rules (inr r) = record {
        stage = Rules;
        at = (r, b);
        kind = λ _ e. absurd (r e);
        test = λ _ e. absurd (r e);
        rule = λ _. refl;
        code = refl;
      }

  -- ---- the state before

  pub record Back (read : List Text) (line : Text) (z : State) : Type 0 where
    pub before : State
    pub last : Line
    pub is : IsStateOf sig read before
    pub comes : MayCome before last
    pub text : IsNextText sig before.form line last
    pub same : z ≡ step line last before

  back : (read : List Text) (line own : Text) (z s : State) (l : Line) → IsStateOf sig (read ++ line ∷ []) z
      → IsState sig s → MayCome s l → IsNextText sig s.form own l → z ≡ step own l s → Back read line z
  back read line own z s l h is comes next same =
      let onward = step-state sig s l own is comes next in
      let both = same_from_push (state_lines sig s) read own line
      (sym onward.lines ∙ ap (state_lines sig) (sym same) ∙ h.lines) in
      record {
        before = s;
        last = l;
        is = record { is = is; lines = both.0 };
        comes = comes;
        text = subst (λ w. IsNextText sig s.form w l) both.1 next;
        same = same ∙ ap (λ w. step w l s) both.1;
      }

  module _ (read : List Text) (line : Text) (some : read ≢ []) (f : Form) where
    abbrev with_ops : List Text → Form
    with_ops ops = record f { ops = ops }

    abbrev with_kinds : List Text → Form
    with_kinds kinds = record f { kinds = kinds }

    abbrev with_tests : List cond.Cond → Form
    with_tests tests = record f { tests = tests }

    abbrev with_rules : List RuleLine → Form
    with_rules rules = record f { rules = rules }

    abbrev with_begin : Option ℕ → Form
    with_begin begin = record f { begin = begin }

    abbrev with_code : List Instr → Form
    with_code code = record f { code = code }

    back-ops : IsStateOf sig (read ++ line ∷ []) (At sig Ops f) → Back read line (At sig Ops f)
    back-ops h = by_ops (nil-or f.ops)
      where
        by_ops : (f.ops ≡ []) ⊎ (f.ops ≢ []) → Back read line (At sig Ops f)
        by_ops (inl e) =
            let at = h.is.at in
            let none = nil-both f.ops _ e (nil-both f.kinds _ at.0 (nil-both (map (text.test_line sig) f.tests) _
            (ap (map (text.test_line sig)) at.1) (nil-both (map (text.rule_line sig) f.rules) []
            (ap (map (text.rule_line sig)) at.2) refl))) in
            absurd (some (single (codes "matchpy program " ++ decimal (format_number f.format)) _ read line none
            h.lines))
        by_ops (inr e) =
            let c = snoc f.ops e in
            let p = parts-of sig (At sig Ops f) h.is in
            let all = all-split (IsDeclaration (codes "op ")) c.front (c.item ∷ [])
            (subst (AllByRecursion (IsDeclaration (codes "op "))) c.split p.ops) in
            back read line c.item (At sig Ops f) (At sig Ops (with_ops c.front)) op_line h
            (state-of sig Ops (with_ops c.front) h.is.at (record {
              ops = all.0;
              kinds = p.kinds;
              no_tests = p.no_tests;
              few_tests = p.few_tests;
              tests = p.tests;
              few_rules = p.few_rules;
              rules = p.rules;
            }) (behind-of sig (At sig Ops f) h.is)) (record { follows = refl; room = tt }) all.1.0
            (ap (λ l. At sig Ops (with_ops l)) c.split)

    back-kinds : IsStateOf sig (read ++ line ∷ []) (At sig Kinds f) → Back read line (At sig Kinds f)
    back-kinds h =
        let at = h.is.at in
        let c = snoc f.kinds at.0 in
        let g = with_kinds c.front in
        let p = parts-of sig (At sig Kinds f) h.is in
        let all = all-split (IsDeclaration (codes "kind ")) c.front (c.item ∷ [])
        (subst (AllByRecursion (IsDeclaration (codes "kind "))) c.split p.kinds) in
        let place = placed g at.3 in
        back read line c.item (At sig Kinds f) (At sig place.stage g) kind_line h
        (state-of sig place.stage g place.at (record {
          ops = p.ops;
          kinds = all.0;
          no_tests = p.no_tests;
          few_tests = p.few_tests;
          tests = p.tests;
          few_rules = p.few_rules;
          rules = p.rules;
        }) (behind-before sig f.format place.stage f.begin f.code at.3.0 at.3.1))
        (record { follows = place.kind at.1 at.2; room = tt }) all.1.0 (ap (λ l. At sig Kinds (with_kinds l)) c.split)

    back-tests : IsStateOf sig (read ++ line ∷ []) (At sig Tests f) → Back read line (At sig Tests f)
    back-tests h =
        let at = h.is.at in
        let c = snoc f.tests at.0 in
        let g = with_tests c.front in
        let p = parts-of sig (At sig Tests f) h.is in
        let all = all-split (IsRightTest sig) c.front (c.item ∷ [])
        (subst (AllByRecursion (IsRightTest sig)) c.split p.tests) in
        let count = ap length c.split in
        let counted = length-append c.front (c.item ∷ []) in
        let place = placed g at.2 in
        back read line (text.test_line sig c.item) (At sig Tests f) (At sig place.stage g) (test_line c.item) h
        (state-of sig place.stage g place.at (record {
          ops = p.ops;
          kinds = p.kinds;
          no_tests = λ e. front-nil f.tests c.front (c.item ∷ []) c.split (p.no_tests e);
          few_tests = omega (arith, p.few_tests, count, counted);
          tests = all.0;
          few_rules = p.few_rules;
          rules = p.rules;
        }) (behind-before sig f.format place.stage f.begin f.code at.2.0 at.2.1)) (record {
          follows = place.test c.item at.1;
          room = (two-format f.format (λ e. at.0 (p.no_tests e)), omega (arith, p.few_tests, count, counted));
        }) (all.1.0, refl) (ap (λ l. At sig Tests (with_tests l)) c.split)

    back-rules : IsStateOf sig (read ++ line ∷ []) (At sig Rules f) → Back read line (At sig Rules f)
    back-rules h =
        let at = h.is.at in
        let c = snoc f.rules at.0 in
        let g = with_rules c.front in
        let p = parts-of sig (At sig Rules f) h.is in
        let all = all-split (IsRightRule sig f.format) c.front (c.item ∷ [])
        (subst (AllByRecursion (IsRightRule sig f.format)) c.split p.rules) in
        let count = ap length c.split in
        let counted = length-append c.front (c.item ∷ []) in
        let place = placed g at.1 in
        back read line (text.rule_line sig c.item) (At sig Rules f) (At sig place.stage g) (rule_line c.item) h
        (state-of sig place.stage g place.at (record {
          ops = p.ops;
          kinds = p.kinds;
          no_tests = p.no_tests;
          few_tests = p.few_tests;
          tests = p.tests;
          few_rules = omega (arith, p.few_rules, count, counted);
          rules = all.0;
        }) (behind-before sig f.format place.stage f.begin f.code at.1.0 at.1.1)) (record {
          follows = place.rule c.item;
          room = omega (arith, p.few_rules, count, counted);
        }) (all.1.0, refl) (ap (λ l. At sig Rules (with_rules l)) c.split)

    back-code : IsStateOf sig (read ++ line ∷ []) (At sig Code f) → Back read line (At sig Code f)
    back-code h =
        let at = h.is.at in
        let place = placed f at in
        back read line (codes "code") (At sig Code f) (At sig place.stage f) code_line h
        (state-of sig place.stage f place.at (parts-of sig (At sig Code f) h.is)
        (behind-before sig f.format place.stage f.begin f.code at.0 at.1))
        (record { follows = place.code; room = tt }) refl refl

    back-begin : IsStateOf sig (read ++ line ∷ []) (At sig Begin f) → Back read line (At sig Begin f)
    back-begin h =
        back read line (begin_text f.begin) (At sig Begin f) (At sig Code (with_begin None)) (begin_line f.begin) h
        (state-of sig Code (with_begin None) (refl, h.is.at) (parts-of sig (At sig Begin f) h.is)
        (behind-before sig f.format Code None f.code refl h.is.at)) (record { follows = refl; room = tt })
        (h.is.right.begin, refl) refl

    follows-begin : (d : Option ℕ) (i : Instr) → IsSome d → may_follow (instr_line i) Begin d ≡ true
    follows-begin None i e = cc
    follows-begin (Some n) i e = refl

    back-instrs : IsStateOf sig (read ++ line ∷ []) (At sig Instrs f) → Back read line (At sig Instrs f)
    back-instrs h =
        let c = snoc f.code h.is.at in
        let all = all-split (IsRightInstr sig f.format) c.front (c.item ∷ [])
        (subst (AllByRecursion (IsRightInstr sig f.format)) c.split h.is.right.code) in
        by_front c all.0 all.1.0 (nil-or c.front)
      where
        parts : PartsOf sig f
        parts = parts-of sig (At sig Instrs f) h.is

        by_front : (c : Snoc f.code) → AllByRecursion (IsRightInstr sig f.format) c.front
            → IsRightInstr sig f.format c.item → (c.front ≡ []) ⊎ (c.front ≢ []) → Back read line (At sig Instrs f)
        by_front c right own (inl e) =
            let count = ap length c.split in
            let counted = length-append c.front (c.item ∷ []) in
            back read line (text.instr_line sig (suc (length c.front)) c.item) (At sig Instrs f)
            (At sig Begin (with_code c.front)) (instr_line c.item) h
            (state-of sig Begin (with_code c.front) e parts
            (behind-begin sig f.format f.begin c.front h.is.right.begin e)) (record {
              follows = follows-begin f.begin c.item (h.is.right.begins.1 h.is.at);
              room = (let few = h.is.right.few_instrs in omega (arith, few, count, counted));
            }) (own, refl) (ap (λ l. At sig Instrs (with_code l)) c.split)
        by_front c right own (inr e) =
            let count = ap length c.split in
            let counted = length-append c.front (c.item ∷ []) in
            back read line (text.instr_line sig (suc (length c.front)) c.item) (At sig Instrs f)
            (At sig Instrs (with_code c.front)) (instr_line c.item) h
            (state-of sig Instrs (with_code c.front) e parts (record {
              begin = h.is.right.begin;
              begins = (λ s. e, λ s. h.is.right.begins.1 h.is.at);
              few = (let few = h.is.right.few_instrs in omega (arith, few, count, counted));
              code = right;
            })) (record {
              follows = refl;
              room = (let few = h.is.right.few_instrs in omega (arith, few, count, counted));
            }) (own, refl) (ap (λ l. At sig Instrs (with_code l)) c.split)

    follows-none : (d : Option ℕ) → (IsSome d → ⊥) → may_follow stop_line Begin d ≡ true
    follows-none None e = refl
    follows-none (Some n) e = absurd (e refl)

    back-stop : IsStateOf sig (read ++ line ∷ []) (At sig Stop f) → Back read line (At sig Stop f)
    back-stop h = by_code (nil-or f.code)
      where
        own : Text
        own = decimal (suc (length f.code)) ++ codes " stop"

        by_code : (f.code ≡ []) ⊎ (f.code ≢ []) → Back read line (At sig Stop f)
        by_code (inl e) =
            back read line own (At sig Stop f) (At sig Begin f) stop_line h
            (state-of sig Begin f e (parts-of sig (At sig Stop f) h.is)
            (behind-begin sig f.format f.begin f.code h.is.right.begin e))
            (record { follows = follows-none f.begin (λ s. h.is.right.begins.0 s e); room = tt }) refl refl
        by_code (inr e) =
            back read line own (At sig Stop f) (At sig Instrs f) stop_line h
            (state-of sig Instrs f e (parts-of sig (At sig Stop f) h.is) (behind-of sig (At sig Stop f) h.is))
            (record { follows = refl; room = tt }) refl refl

    by_stage : (st : Stage) → IsStateOf sig (read ++ line ∷ []) (At sig st f) → Back read line (At sig st f)
    by_stage Ops h = back-ops h
    by_stage Kinds h = back-kinds h
    by_stage Tests h = back-tests h
    by_stage Rules h = back-rules h
    by_stage Code h = back-code h
    by_stage Begin h = back-begin h
    by_stage Instrs h = back-instrs h
    by_stage Stop h = back-stop h

  pub state-back : (z : State) (read : List Text) (line : Text) → read ≢ [] → IsStateOf sig (read ++ line ∷ []) z
      → Back read line z
  state-back z read line some h = by_stage read line some z.form z.stage h
