-- Reading the lines of a program text one after the other: what is read, and which line may come next.
use Rattle.std.specs.Prelude.{◌≡◌, ◌≢◌, ◌<◌, ⊤, ℕ, suc, Bool, true, false, List, [], ◌∷◌, ◌++◌, map, length}
use Rattle.std.specs.Prelude.{Option, Some, None, codes, decimal}
use Rattle.mp_io.specs.Devices.{Text}
use Rattle.mp_term.specs.Signature.{Sig}
use Rattle.mp_pattern.specs.declared.limits.TheConstants.{MAX_RULES}
use Rattle.mp_pattern.specs.NetTokens.{wild_token}
use Rattle.mp_pattern.specs.PatternTree.{dot}
use Rattle.mp_walk.specs.Instrs.{Instr}
use Rattle.mp_program.specs.declared.format.Format.{Format}
use Rattle.mp_program.specs.declared.format.Format.TheVariants.{Two}
use Rattle.mp_program.specs.Form.{format_number, Form}
use Rattle.mp_program.specs.FormText as text
use Rattle.mp_program.specs.FormText.{target_text, instr_lines, code_lines}
use Rattle.mp_program.specs.RightForm.{IsShort, IsShortTarget, IsDeclaration, IsRightTest, IsRightRule, IsRightInstr}
use Rattle.mp_program.specs.RightForm.{IsRightForm}
use Rattle.mp_line.specs.Lines.{Line, op_line, kind_line, test_line, rule_line, code_line, begin_line, instr_line}
use Rattle.mp_line.specs.Lines.{stop_line}
use Rattle.mp_vm.specs.declared.stage.Stage.{Stage}
use Rattle.mp_vm.specs.declared.stage.Stage.TheVariants.{Ops, Kinds, Tests, Rules, Code, Begin, Instrs, Stop}

-- what the lines that are read say, and which part of a text the last one is of
pub record State : Type 0 where
  pub stage : Stage
  pub form : Form

-- ---- what is read

-- nothing but the first line is read
abbrev pub start : Format → State
start format = record {
  stage = Ops;
  form = record { format = format; ops = []; kinds = []; tests = []; rules = []; begin = None; code = [] };
}

-- neither the begin nor an instruction is read
abbrev pub IsBeforeBegin : Form → Type 0
IsBeforeBegin f = (f.begin ≡ None) × (f.code ≡ [])

-- the last line that is read is of this part, before which the first line stands, and none is of a later part
abbrev pub IsAtStage : Stage → Form → Type 0
IsAtStage Ops f = (f.kinds ≡ []) × (f.tests ≡ []) × (f.rules ≡ []) × IsBeforeBegin f
IsAtStage Kinds f = (f.kinds ≢ []) × (f.tests ≡ []) × (f.rules ≡ []) × IsBeforeBegin f
IsAtStage Tests f = (f.tests ≢ []) × (f.rules ≡ []) × IsBeforeBegin f
IsAtStage Rules f = (f.rules ≢ []) × IsBeforeBegin f
IsAtStage Code f = IsBeforeBegin f
IsAtStage Begin f = f.code ≡ []
IsAtStage Instrs f = f.code ≢ []
IsAtStage Stop f = ⊤

-- an instruction with which a text may go on
abbrev pub any_instr : Instr
any_instr = record { token = wild_token dot None; down = None; over = None; accepts = 0 ∷ [] }

-- the instructions of a text that goes on as soon as it may: one more where the begin alone says that there is one
abbrev pub completed_code : Stage → Option ℕ → List Instr → List Instr
completed_code Begin (Some n) code = any_instr ∷ []
completed_code _ _ code = code

-- what such a text says
abbrev pub completed : State → Form
completed s = record s.form { code = completed_code s.stage s.form.begin s.form.code }

-- the line behind `code`
abbrev pub begin_text : Option ℕ → Text
begin_text d = codes "0 begin down " ++ target_text d

module _ (sig : Sig) where
  -- `code` and what is read behind it
  abbrev pub begun_lines : Stage → Form → List Text
  begun_lines Code f = codes "code" ∷ []
  begun_lines Begin f = codes "code" ∷ begin_text f.begin ∷ []
  begun_lines Instrs f = codes "code" ∷ begin_text f.begin ∷ instr_lines sig 1 f.code
  begun_lines Stop f = codes "code" ∷ begin_text f.begin ∷ code_lines sig 1 f.code
  begun_lines _ f = []

  -- all lines that are read
  abbrev pub state_lines : State → List Text
  state_lines s = (codes "matchpy program " ++ decimal (format_number s.form.format)) ∷ (s.form.ops ++ (s.form.kinds
      ++ (map (text.test_line sig) s.form.tests ++ (map (text.rule_line sig) s.form.rules
      ++ begun_lines s.stage s.form))))

  -- a state of reading: right lines begin with what is read
  pub record IsState (s : State) : Type 0 where
    pub at : IsAtStage s.stage s.form
    pub right : IsRightForm sig (completed s)

  -- it is that behind these lines
  pub record IsStateOf (read : List Text) (s : State) : Type 0 where
    pub is : IsState s
    pub lines : state_lines s ≡ read

-- ---- the next line

-- a line may come behind one of the part, where the begin says this
abbrev pub may_follow : Line → Stage → Option ℕ → Bool
may_follow op_line Ops d = true
may_follow kind_line Ops d = true
may_follow kind_line Kinds d = true
may_follow (test_line c) Ops d = true
may_follow (test_line c) Kinds d = true
may_follow (test_line c) Tests d = true
may_follow (rule_line r) Ops d = true
may_follow (rule_line r) Kinds d = true
may_follow (rule_line r) Tests d = true
may_follow (rule_line r) Rules d = true
may_follow code_line Ops d = true
may_follow code_line Kinds d = true
may_follow code_line Tests d = true
may_follow code_line Rules d = true
may_follow (begin_line e) Code d = true
may_follow (instr_line i) Begin (Some n) = true
may_follow (instr_line i) Instrs d = true
may_follow stop_line Begin None = true
may_follow stop_line Instrs d = true
may_follow _ _ _ = false

-- there is room for one more line of its part
abbrev pub HasRoom : Form → Line → Type 0
HasRoom f (test_line c) = (f.format ≡ Two) × (length f.tests < MAX_RULES)
HasRoom f (rule_line r) = length f.rules < MAX_RULES
HasRoom f (instr_line i) = IsShort (suc (suc (length f.code)))
HasRoom f _ = ⊤

-- the line may come next
pub record MayCome (s : State) (l : Line) : Type 0 where
  pub follows : may_follow l s.stage s.form.begin ≡ true
  pub room : HasRoom s.form l

module _ (sig : Sig) where
  -- the line is right and this is its text, behind what is read
  abbrev pub IsNextText : Form → Text → Line → Type 0
  IsNextText f line op_line = IsDeclaration (codes "op ") line
  IsNextText f line kind_line = IsDeclaration (codes "kind ") line
  IsNextText f line (test_line c) = IsRightTest sig c × (text.test_line sig c ≡ line)
  IsNextText f line (rule_line r) = IsRightRule sig f.format r × (text.rule_line sig r ≡ line)
  IsNextText f line code_line = line ≡ codes "code"
  IsNextText f line (begin_line d) = IsShortTarget d × (line ≡ begin_text d)
  IsNextText f line (instr_line i) = IsRightInstr sig f.format i × (text.instr_line sig (suc (length f.code)) i ≡ line)
  IsNextText f line stop_line = line ≡ decimal (suc (length f.code)) ++ codes " stop"

-- the part of a line
abbrev pub stage_of : Line → Stage
stage_of op_line = Ops
stage_of kind_line = Kinds
stage_of (test_line c) = Tests
stage_of (rule_line r) = Rules
stage_of code_line = Code
stage_of (begin_line d) = Begin
stage_of (instr_line i) = Instrs
stage_of stop_line = Stop

-- what the lines say with one more of the text, which is read as the line
abbrev pub longer : Text → Line → Form → Form
longer line op_line f = record f { ops = f.ops ++ line ∷ [] }
longer line kind_line f = record f { kinds = f.kinds ++ line ∷ [] }
longer line (test_line c) f = record f { tests = f.tests ++ c ∷ [] }
longer line (rule_line r) f = record f { rules = f.rules ++ r ∷ [] }
longer line (begin_line d) f = record f { begin = d }
longer line (instr_line i) f = record f { code = f.code ++ i ∷ [] }
longer line _ f = f

-- the state behind it
abbrev pub step : Text → Line → State → State
step line l s = record { stage = stage_of l; form = longer line l s.form }
