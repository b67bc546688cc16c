-- What a draft holds of a state of reading.
use Rattle.std.specs.Prelude.{◌≡◌, ◌<◌, ◌+◌, ◌-◌, ◌^◌, ℕ, suc, List, map, length}
use Rattle.mp_io.specs.Devices.{Text}
use Rattle.mp_term.specs.Signature.{Sig}
use Rattle.mp_program.specs.FormText.{lines_text}
use Rattle.mp_program.specs.RuleView.{rule_line_view}
use Rattle.mp_vm.specs.declared.draft.Draft.{Draft}
use Rattle.mp_line.specs.Lines.{Line}
use Rattle.mp_vm.specs.Kept.{kept, kept_form, IsOnlyState}
use Rattle.mp_vm.specs.Machine.{State, step}

-- the draft is that of the state: what is kept of rule lines, and of declarations their number and that of their bytes
pub record IsDraftOf (most : ℕ) (d : Draft) (s : State) : Type 0 where
  pub stage : d.stage ≡ s.stage
  pub format : d.format ≡ s.form.format
  pub declarations : d.declarations ≡ length s.form.ops + length s.form.kinds
  pub declared : d.declared ≡ length (lines_text s.form.ops) + length (lines_text s.form.kinds)
  pub tests : d.tests ≡ s.form.tests
  pub rules : map rule_line_view d.rules.items ≡ (kept_form most s.form).rules
  pub begin : d.begin ≡ s.form.begin
  pub code : d.code ≡ s.form.code

-- the lines are read, and the draft is that of the state behind them
pub record HasRead (sig : Sig) (most : ℕ) (d : Draft) (read : List Text) : Type 0 where
  pub state : State
  pub only : IsOnlyState sig most read state
  pub draft : IsDraftOf most d state

-- ---- one line more

-- the draft is that of the state, this is what is kept of the line, its text is so long, and the declarations stay
-- short with it
pub record IsBehind (most : ℕ) (d : Draft) (k : Line) (size : ℕ) (s : State) (l : Line) (text : Text) : Type 0 where
  pub draft : IsDraftOf most d s
  pub same : kept most l ≡ k
  pub long : length text ≡ size
  pub few : d.declared + suc size < 2 ^ 32 - 1

-- the new draft is that of the state behind the line
abbrev pub IsKept : ℕ → Draft → Draft → Line → ℕ → Type 0
IsKept most old new k size = (s : State) (l : Line) (text : Text) → IsBehind most old k size s l text
    → IsDraftOf most new (step text l s)
