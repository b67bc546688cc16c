-- A draft with one line more.
use Rattle.std.proofs.Common.{◌≡◌, ◌<◌, ◌≤◌, ℕ, suc, ◌+◌, ◌-◌, List, [], ◌∷◌, ◌++◌, map, length, refl, ap, sym}
use Rattle.std.proofs.Common.{◌∙◌}
use Rattle.std.proofs.Common.{arith, subst, length-append}
use Rattle.std.specs.Prelude.{◌^◌, ◌≢◌, codes, decimal, min}
use Rattle.mp_io.specs.Devices.{Text}
use Rattle.mp_term.specs.Signature.{Sig}
use Rattle.mp_program.specs.Form.{format_number, Form}
use Rattle.mp_program.specs.FormText as text
use Rattle.mp_program.specs.FormText.{lines_text}
use Rattle.mp_program.specs.Reading.{Begins}
use Rattle.mp_program.proofs.LineLaws.{lines_text-append}
use Rattle.mp_program.specs.RuleView.{rule_line_view}
use Rattle.mp_line.specs.Lines.{Line, op_line, kind_line, test_line, rule_line, code_line, begin_line, instr_line}
use Rattle.mp_line.specs.Lines.{stop_line, IsLineText}
use Rattle.mp_line.specs.Finds.{IsOnly}
use Rattle.mp_vm.specs.declared.draft.Draft.{Draft}
use Rattle.mp_vm.specs.Machine.{State, begun_lines, state_lines, IsState, MayCome, step}
use Rattle.mp_vm.specs.declared.stage.Stage.{Stage}
use Rattle.mp_vm.specs.declared.stage.Stage.TheVariants.{Ops, Kinds, Tests, Rules, Code, Begin, Instrs, Stop}
use Rattle.mp_vm.specs.Kept.{kept}
use Rattle.mp_vm.specs.DraftView.{IsDraftOf, HasRead, IsBehind, IsKept}
use Rattle.mp_vm.proofs.MachineLaws.{At}
use Rattle.mp_vm.proofs.ReadingLaws.{next-only, no_next}
use Rattle.mp_vm.proofs.NextLines.{IsReadText, line-whole, kept-line, only-next, none-next}

-- ---- bytes of lines

pub length-lines_text-append : (a b : List Text)
    → length (lines_text (a ++ b)) ≡ length (lines_text a) + length (lines_text b)
length-lines_text-append a b = ap length (lines_text-append a b) ∙ length-append (lines_text a) (lines_text b)

pub length-lines_text-cons : (l : Text) (ls : List Text)
    → length (lines_text (l ∷ ls)) ≡ suc (length l) + length (lines_text ls)
length-lines_text-cons l ls =
    let e = length-append (l ++ 10 ∷ []) (lines_text ls) in
    let g = length-append l (10 ∷ []) in
    omega (arith, e, g)

-- so many lines have as many bytes at least
pub lines-within : (ls : List Text) → length ls ≤ length (lines_text ls)
lines-within [] = omega arith
lines-within (l ∷ ls) = omega (arith, length-lines_text-cons l ls, lines-within ls)

-- ---- declarations

op-only : (most : ℕ) (l : Line) → kept most l ≡ op_line → l ≡ op_line
op-only most op_line e = refl
op-only most kind_line e = cc
op-only most (test_line c) e = cc
op-only most (rule_line r) e = cc
op-only most code_line e = cc
op-only most (begin_line d) e = cc
op-only most (instr_line i) e = cc
op-only most stop_line e = cc

kind-only : (most : ℕ) (l : Line) → kept most l ≡ kind_line → l ≡ kind_line
kind-only most op_line e = cc
kind-only most kind_line e = refl
kind-only most (test_line c) e = cc
kind-only most (rule_line r) e = cc
kind-only most code_line e = cc
kind-only most (begin_line d) e = cc
kind-only most (instr_line i) e = cc
kind-only most stop_line e = cc

module _ (most : ℕ) (old new : Draft) (own : Stage) (size : ℕ) (s : State) (l : Line) (text : Text) where
  -- the new draft differs from the old one in what is counted of the declarations
  pub record IsCounted : Type 0 where
    pub stage : new.stage ≡ own
    pub format : new.format ≡ old.format
    pub declarations : new.declarations ≡ min (old.declarations + 1) (2 ^ 32 - 1)
    pub declared : new.declared ≡ min (min (old.declared + size) (2 ^ 64 - 1) + 1) (2 ^ 64 - 1)
    pub tests : new.tests ≡ old.tests
    pub rules : new.rules.items ≡ old.rules.items
    pub begin : new.begin ≡ old.begin
    pub code : new.code ≡ old.code

  pub op-counted : IsCounted → own ≡ Ops → IsBehind most old op_line size s l text
      → IsDraftOf most new (step text l s)
  op-counted n e h = subst (λ m. IsDraftOf most new (step text m s))
      (sym (op-only most l h.same)) (record {
        stage = n.stage ∙ e;
        format = n.format ∙ h.draft.format;
        declarations =
            let w = length-append s.form.ops (text ∷ []) in
            let a = lines-within s.form.ops in
            let b = lines-within s.form.kinds in
            omega (arith, n.declarations, w, a, b, h.draft.declarations, h.draft.declared, h.few);
        declared =
            let w = length-lines_text-append s.form.ops (text ∷ []) in
            let g = length-lines_text-cons text [] in
            omega (arith, n.declared, w, g, h.draft.declared, h.few, h.long);
        tests = n.tests ∙ h.draft.tests;
        rules = ap (map rule_line_view) n.rules ∙ h.draft.rules;
        begin = n.begin ∙ h.draft.begin;
        code = n.code ∙ h.draft.code;
      })

  pub kind-counted : IsCounted → own ≡ Kinds → IsBehind most old kind_line size s l text
      → IsDraftOf most new (step text l s)
  kind-counted n e h = subst (λ m. IsDraftOf most new (step text m s))
      (sym (kind-only most l h.same)) (record {
        stage = n.stage ∙ e;
        format = n.format ∙ h.draft.format;
        declarations =
            let w = length-append s.form.kinds (text ∷ []) in
            let a = lines-within s.form.ops in
            let b = lines-within s.form.kinds in
            omega (arith, n.declarations, w, a, b, h.draft.declarations, h.draft.declared, h.few);
        declared =
            let w = length-lines_text-append s.form.kinds (text ∷ []) in
            let g = length-lines_text-cons text [] in
            omega (arith, n.declared, w, g, h.draft.declared, h.few, h.long);
        tests = n.tests ∙ h.draft.tests;
        rules = ap (map rule_line_view) n.rules ∙ h.draft.rules;
        begin = n.begin ∙ h.draft.begin;
        code = n.code ∙ h.draft.code;
      })

-- ---- the next line

-- what is kept of a line may come next where the line may
pub comes-kept : (most : ℕ) (s : State) (l : Line) → MayCome s l → MayCome s (kept most l)
comes-kept most s op_line h = h
comes-kept most s kind_line h = h
comes-kept most s (test_line c) h = h
comes-kept most s (rule_line r) h = record { follows = h.follows; room = h.room }
comes-kept most s code_line h = h
comes-kept most s (begin_line d) h = h
comes-kept most s (instr_line i) h = h
comes-kept most s stop_line h = h

pub kept-comes : (most : ℕ) (s : State) (l : Line) → MayCome s (kept most l) → MayCome s l
kept-comes most s op_line h = h
kept-comes most s kind_line h = h
kept-comes most s (test_line c) h = h
kept-comes most s (rule_line r) h = record { follows = h.follows; room = h.room }
kept-comes most s code_line h = h
kept-comes most s (begin_line d) h = h
kept-comes most s (instr_line i) h = h
kept-comes most s stop_line h = h

module _ (sig : Sig) where
  -- the next instruction has a number of 32 bits
  pub few-code : (s : State) → IsState sig s → suc (length s.form.code) < 2 ^ 32
  few-code s h = by_stage s.stage s.form h
    where
      by_stage : (st : Stage) (f : Form) → IsState sig (At sig st f) → suc (length f.code) < 2 ^ 32
      by_stage Ops f k = k.right.few_instrs
      by_stage Kinds f k = k.right.few_instrs
      by_stage Tests f k = k.right.few_instrs
      by_stage Rules f k = k.right.few_instrs
      by_stage Code f k = k.right.few_instrs
      by_stage Begin f k = (let n = ap length k.at in omega (arith, n))
      by_stage Instrs f k = k.right.few_instrs
      by_stage Stop f k = k.right.few_instrs

  -- the declarations are some of the lines
  declared-within : (s : State) (read : List Text) (line : Text) → state_lines sig s ≡ read
      → length (lines_text s.form.ops) + length (lines_text s.form.kinds) + suc (length line)
      ≤ length (lines_text (read ++ line ∷ []))
  declared-within s read line e =
      let f = s.form in
      let first = codes "matchpy program " ++ decimal (format_number f.format) in
      let behind = map (text.test_line sig) f.tests ++ (map (text.rule_line sig) f.rules
      ++ begun_lines sig s.stage f) in
      let a = length-lines_text-append read (line ∷ []) in
      let b = length-lines_text-cons line [] in
      let c = length-lines_text-cons first (f.ops ++ (f.kinds ++ behind)) in
      let d = length-lines_text-append f.ops (f.kinds ++ behind) in
      let g = length-lines_text-append f.kinds behind in
      let r = ap (λ ls. length (lines_text ls)) e in
      omega (arith, a, b, c, d, g, r)

  module _ (most : ℕ) (old : Draft) (read : List Text) (line : Text) (some : read ≢ []) (h : HasRead sig most old read)
      (few : length (lines_text (read ++ line ∷ [])) < 2 ^ 32 - 1) (own : ℕ)
      (number : own ≡ length old.code + 1) where
    abbrev Reads : Line → Type 0
    Reads k = IsLineText sig old.format most own line k

    -- lines are read as behind the state
    reads-state : Reads ≡ IsReadText sig most h.state.form line
    reads-state =
        let d = h.draft in
        let n : own ≡ suc (length h.state.form.code) = (let e = ap length d.code in omega (arith, e, number)) in
        ap (λ format. IsLineText sig format most own line) d.format
        ∙ ap (λ m. IsLineText sig h.state.form.format most m line) n

    pub line-taken : (new : Draft) (k : Line) → IsOnly Reads k → MayCome h.state k → IsKept most old new k (length line)
        → HasRead sig most new (read ++ line ∷ [])
    line-taken new k only comes put =
        let w = line-whole sig most h.state.form line k (subst (λ (P : Line → Type 0). P k) reads-state only.is) in
        let next = only-next sig most h.state.form line k
        (subst (λ (P : Line → Type 0). IsOnly P k) reads-state only) w in
        let may = kept-comes most h.state w.line (subst (MayCome h.state) (sym w.same) comes) in
        record {
          state = step line w.line h.state;
          only = next-only sig most read line h.state w.line some h.only may next;
          draft = put h.state w.line line (record {
            draft = h.draft;
            same = w.same;
            long = refl;
            few = (let e = declared-within h.state read line h.only.is.lines in
                omega (arith, e, h.draft.declared, few));
          });
        }

    pub line-refused : (k : Line) → IsOnly Reads k → (MayCome h.state k → ⊥) → Begins sig (read ++ line ∷ []) → ⊥
    line-refused k only stays =
        let next = subst (λ (P : Line → Type 0). IsOnly P k) reads-state only in
        no_next sig most read line h.state some h.only (λ l t m.
        stays (subst (MayCome h.state) (next.only (kept most l) (kept-line sig most h.state.form line l t))
        (comes-kept most h.state l m)))

    pub none-refused : ((k : Line) → Reads k → ⊥) → Begins sig (read ++ line ∷ []) → ⊥
    none-refused none = no_next sig most read line h.state some h.only (λ l t m.
        none-next sig most h.state.form line
        (subst (λ (P : Line → Type 0). (k : Line) → P k → ⊥) reads-state none) l t)
