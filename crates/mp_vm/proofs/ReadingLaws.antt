-- Reading line by line: the lines that are read lead to one state; the next line leads on, or no right lines begin with
-- it; and at the end of the lines right lines are read, or there are none.
use Rattle.std.proofs.Common.{◌≡◌, ℕ, ◌<◌, List, [], ◌∷◌, ◌++◌, refl, ap, sym, ◌∙◌, subst}
use Rattle.std.proofs.Common.{map, arith}
use Rattle.std.specs.Prelude.{◌≢◌, ◌^◌, Option, None, codes, decimal}
use Rattle.std.proofs.lemmas.Fmt.{decimal_injective}
use Rattle.std.proofs.lemmas.List.{append_cancel_left, length-map, map-append}
use Rattle.mp_io.specs.Devices.{Text}
use Rattle.mp_term.specs.Signature.{Sig}
use Rattle.mp_term.proofs.ListLaws.{both-empty}
use Rattle.mp_pattern.specs.CondTree as cond
use Rattle.mp_walk.specs.Instrs.{Instr}
use Rattle.mp_program.specs.declared.format.Format.{Format}
use Rattle.mp_program.specs.declared.format.Format.TheVariants.{One, Two}
use Rattle.mp_program.specs.Form.{format_number, RuleLine, Form}
use Rattle.mp_program.specs.FormText as text
use Rattle.mp_program.specs.FormText.{lines_of, lines_text}
use Rattle.mp_program.specs.Reading.{IsFormOf, Begins}
use Rattle.mp_program.proofs.ListLaws.{first-same, rest-same}
use Rattle.mp_line.specs.Lines.{Line, op_line, kind_line, test_line, rule_line, code_line, begin_line, instr_line}
use Rattle.mp_line.specs.Lines.{stop_line}
use Rattle.mp_line.specs.LineTexts.{kept_line}
use Rattle.mp_vm.specs.declared.stage.Stage.{Stage}
use Rattle.mp_vm.specs.declared.stage.Stage.TheVariants.{Ops, Kinds, Tests, Rules, Code, Begin, Instrs, Stop}
use Rattle.mp_vm.specs.Machine.{State, start, begun_lines, IsState, IsStateOf, HasRoom, MayCome}
use Rattle.mp_vm.specs.Machine.{IsNextText, step}
use Rattle.mp_vm.specs.Kept.{kept, kept_form, kept_state, IsOnlyState, IsOnlyNext}
use Rattle.mp_vm.proofs.MachineLaws.{At, start-state, state-begins, step-state, form-state, stop-form}
use Rattle.mp_vm.proofs.FrontLaws.{begins-state}
use Rattle.mp_vm.proofs.BackLaws.{state-back}

-- ---- what is kept

-- the next state of what is kept
kept-step : (most : ℕ) (line : Text) (l : Line) (s : State)
    → kept_state most (step line l s) ≡ step line (kept most l) (kept_state most s)
kept-step most line op_line s = refl
kept-step most line kind_line s = refl
kept-step most line (test_line c) s = refl
kept-step most line (rule_line r) s =
    ap (λ rs. record {
      stage = Rules;
      form = record s.form { rules = rs };
    }) (map-append (kept_line most) s.form.rules (r ∷ []))
kept-step most line code_line s = refl
kept-step most line (begin_line d) s = refl
kept-step most line (instr_line i) s = refl
kept-step most line stop_line s = refl

-- there is room behind what is kept where there is room
kept-room : (most : ℕ) (f : Form) (l : Line) → HasRoom f l → HasRoom (kept_form most f) l
kept-room most f op_line h = h
kept-room most f kind_line h = h
kept-room most f (test_line c) h = h
kept-room most f (rule_line r) h = omega (arith, h, length-map f.rules (kept_line most))
kept-room most f code_line h = h
kept-room most f (begin_line d) h = h
kept-room most f (instr_line i) h = h
kept-room most f stop_line h = h

room-kept : (most : ℕ) (f : Form) (l : Line) → HasRoom (kept_form most f) l → HasRoom f l
room-kept most f op_line h = h
room-kept most f kind_line h = h
room-kept most f (test_line c) h = h
room-kept most f (rule_line r) h = omega (arith, h, length-map f.rules (kept_line most))
room-kept most f code_line h = h
room-kept most f (begin_line d) h = h
room-kept most f (instr_line i) h = h
room-kept most f stop_line h = h

module _ (sig : Sig) (most : ℕ) where
  -- the text of a line behind what is kept
  kept-text : (f : Form) (line : Text) (l : Line) → IsNextText sig f line l → IsNextText sig (kept_form most f) line l
  kept-text f line op_line h = h
  kept-text f line kind_line h = h
  kept-text f line (test_line c) h = h
  kept-text f line (rule_line r) h = h
  kept-text f line code_line h = h
  kept-text f line (begin_line d) h = h
  kept-text f line (instr_line i) h = h
  kept-text f line stop_line h = h

  text-kept : (f : Form) (line : Text) (l : Line) → IsNextText sig (kept_form most f) line l → IsNextText sig f line l
  text-kept f line op_line h = h
  text-kept f line kind_line h = h
  text-kept f line (test_line c) h = h
  text-kept f line (rule_line r) h = h
  text-kept f line code_line h = h
  text-kept f line (begin_line d) h = h
  text-kept f line (instr_line i) h = h
  text-kept f line stop_line h = h

  -- what follows a state follows one of which the same is kept
  same-text : (q s : State) (line : Text) (l : Line) → kept_state most q ≡ kept_state most s
      → IsNextText sig q.form line l → IsNextText sig s.form line l
  same-text q s line l e h =
      text-kept s.form line l (subst (λ (z : State). IsNextText sig z.form line l) e (kept-text q.form line l h))

  same-comes : (q s : State) (l : Line) → kept_state most q ≡ kept_state most s → MayCome q l → MayCome s l
  same-comes q s l e h =
      let own : MayCome (kept_state most q) l =
      record { follows = h.follows; room = kept-room most q.form l h.room } in
      let other = subst (λ z. MayCome z l) e own in
      record { follows = other.follows; room = room-kept most s.form l other.room }

  -- ---- the next line

  pub next-only : (read : List Text) (line : Text) (s : State) (l : Line) → read ≢ [] → IsOnlyState sig most read s
      → MayCome s l → IsOnlyNext sig most s.form line l
      → IsOnlyState sig most (read ++ line ∷ []) (step line l s)
  next-only read line s l some h comes t = record {
    is = subst (λ r. IsStateOf sig (r ++ line ∷ []) (step line l s)) h.is.lines
        (step-state sig s l line h.is.is comes t.is);
    only = λ z k.
        let b = state-back sig z read line some k in
        let same = h.only b.before b.is in
        let last = t.only b.last (same-text b.before s line b.last same b.text) in
        ap (kept_state most) b.same ∙ kept-step most line b.last b.before
        ∙ ap (λ q. step line (kept most b.last) q) same ∙ ap (λ m. step line m (kept_state most s)) last
        ∙ sym (kept-step most line l s);
  }

  pub no_next : (read : List Text) (line : Text) (s : State) → read ≢ [] → IsOnlyState sig most read s
      → ((l : Line) → IsNextText sig s.form line l → MayCome s l → ⊥) → Begins sig (read ++ line ∷ []) → ⊥
  no_next [] line s some h refused b = absurd (some refl)
  no_next (x ∷ xs) line s some h refused b =
      let r = begins-state sig x (xs ++ line ∷ []) b in
      let k = state-back sig r.state (x ∷ xs) line some r.is in
      let same = h.only k.before k.is in
      refused k.last (same-text k.before s line k.last same k.text) (same-comes k.before s k.last same k.comes)

  -- ---- the end

  by_stage : (st : Stage) (f : Form) (bytes : Text) → st ≡ Stop → IsStateOf sig (lines_of bytes) (At sig st f)
      → lines_text (lines_of bytes) ≡ bytes → IsFormOf sig bytes f
  by_stage st f bytes e h ended =
      stop-form sig f bytes (subst (λ q. IsStateOf sig (lines_of bytes) (At sig q f)) e h) ended

  pub whole-form : (bytes : Text) (s : State) → IsOnlyState sig most (lines_of bytes) s → s.stage ≡ Stop
      → lines_text (lines_of bytes) ≡ bytes → IsFormOf sig bytes s.form
  whole-form bytes s h e ended = by_stage s.stage s.form bytes e h.is ended

  pub not_whole-form : (bytes : Text) (s : State) → IsOnlyState sig most (lines_of bytes) s → (s.stage ≡ Stop → ⊥)
      → (f : Form) → IsFormOf sig bytes f → ⊥
  not_whole-form bytes s h early f k =
      let own = subst (λ r. IsStateOf sig r (At sig Stop f)) (sym k.lines) (form-state sig f k.right) in
      early (ap (λ (q : State). q.stage) (sym (h.only (At sig Stop f) own)))

  -- right lines begin with those that are read
  pub only-begins : (read : List Text) (s : State) → IsOnlyState sig most read s → Begins sig read
  only-begins read s h = subst (Begins sig) h.is.lines (state-begins sig s h.is.is)

  -- ---- the first line

  same-format : (f g : Format) → codes "matchpy program " ++ decimal (format_number f)
      ≡ codes "matchpy program " ++ decimal (format_number g) → f ≡ g
  same-format f g e = by_format f g (decimal_injective (format_number f) (format_number g) (small f) (small g)
      (append_cancel_left (codes "matchpy program ") (decimal (format_number f)) (decimal (format_number g)) e))
    where
      small : (f : Format) → format_number f < 2 ^ 64
      small One = omega arith
      small Two = omega arith

      by_format : (f g : Format) → format_number f ≡ format_number g → f ≡ g
      by_format One One e = refl
      by_format One Two e = absurd (omega (arith, e))
      by_format Two One e = absurd (omega (arith, e))
      by_format Two Two e = refl

  map-nil : {X Y : Type 0} (f : X → Y) (xs : List X) → map f xs ≡ [] → xs ≡ []
  map-nil f [] e = refl
  map-nil f (x ∷ xs) e = cc

  -- a state where the reading stands at the begin
  abbrev at_first : Format → List Text → List Text → List cond.Cond → List RuleLine → Option ℕ → List Instr → State
  at_first format ops kinds tests rules begin code = record {
    stage = Ops;
    form = record {
      format = format;
      ops = ops;
      kinds = kinds;
      tests = tests;
      rules = rules;
      begin = begin;
      code = code;
    };
  }

  same-start : (f : Form) (format : Format) → f.format ≡ format → f.ops ≡ [] → f.kinds ≡ [] → f.tests ≡ []
      → f.rules ≡ [] → f.begin ≡ None → f.code ≡ [] → At sig Ops f ≡ start format
  same-start f format a b c d e g h =
      ap (λ x. at_first x f.ops f.kinds f.tests f.rules f.begin f.code) a
      ∙ ap (λ x. at_first format x f.kinds f.tests f.rules f.begin f.code) b
      ∙ ap (λ x. at_first format [] x f.tests f.rules f.begin f.code) c
      ∙ ap (λ x. at_first format [] [] x f.rules f.begin f.code) d
      ∙ ap (λ x. at_first format [] [] [] x f.begin f.code) e ∙ ap (λ x. at_first format [] [] [] [] x f.code) g
      ∙ ap (λ x. at_first format [] [] [] [] None x) h

  first-stage : (st : Stage) (f : Form) (format : Format) → IsState sig (At sig st f) → f.format ≡ format → f.ops ≡ []
      → f.kinds ≡ [] → f.tests ≡ [] → f.rules ≡ [] → begun_lines sig st f ≡ [] → At sig st f ≡ start format
  first-stage Ops f format h a b c d e g = same-start f format a b c d e h.at.3.0 h.at.3.1
  first-stage Kinds f format h a b c d e g = absurd (h.at.0 c)
  first-stage Tests f format h a b c d e g = absurd (h.at.0 d)
  first-stage Rules f format h a b c d e g = absurd (h.at.0 e)
  first-stage Code f format h a b c d e g = cc
  first-stage Begin f format h a b c d e g = cc
  first-stage Instrs f format h a b c d e g = cc
  first-stage Stop f format h a b c d e g = cc

  pub start-only : (format : Format)
      → IsOnlyState sig most ((codes "matchpy program " ++ decimal (format_number format)) ∷ []) (start format)
  start-only format = record {
    is = start-state sig format;
    only = λ z k. ap (kept_state most) (first z k);
  }
    where
      first : (z : State)
          → IsStateOf sig ((codes "matchpy program " ++ decimal (format_number format)) ∷ []) z → z ≡ start format
      first z k =
          let f = z.form in
          let tests = map (text.test_line sig) f.tests in
          let rules = map (text.rule_line sig) f.rules in
          let begun = begun_lines sig z.stage f in
          let own = codes "matchpy program " ++ decimal (format_number f.format) in
          let first = codes "matchpy program " ++ decimal (format_number format) in
          let rest = f.ops ++ (f.kinds ++ (tests ++ (rules ++ begun))) in
          let none = rest-same own first rest [] k.lines in
          let behind-ops = (both-empty f.ops (f.kinds ++ (tests ++ (rules ++ begun))) none).1 in
          let behind-kinds = (both-empty f.kinds (tests ++ (rules ++ begun)) behind-ops).1 in
          let behind-tests = (both-empty tests (rules ++ begun) behind-kinds).1 in
          first-stage z.stage f format k.is (same-format f.format format (first-same own first rest [] k.lines))
          (both-empty f.ops _ none).0 (both-empty f.kinds _ behind-ops).0
          (map-nil (text.test_line sig) f.tests (both-empty tests _ behind-kinds).0)
          (map-nil (text.rule_line sig) f.rules (both-empty rules _ behind-tests).0)
          (both-empty rules begun behind-tests).1
