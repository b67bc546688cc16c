-- The sorts of lines begin differently.
use Rattle.std.proofs.Common.{◌≡◌, ◌≢◌, ◌≤◌, ◌<◌, ◌^◌, ◌++◌, ℕ, true, false, [], ◌∷◌, Option, Some, None}
use Rattle.std.proofs.Common.{refl, sym, ap}
use Rattle.std.proofs.Common.{subst, ◌∙◌, arith}
use Rattle.std.specs.Prelude.{codes, decimal, is_some}
use Rattle.std.specs.List.{list_all}
use Rattle.std.specs.Char.{is_ascii_digit}
use Rattle.std.proofs.lemmas.Bool.{and_parts}
use Rattle.std.proofs.lemmas.List.{append_cancel_left}
use Rattle.mp_io.specs.Devices.{Text}
use Rattle.mp_term.specs.Signature.{Sig}
use Rattle.mp_pattern.specs.CondTree.{Cond}
use Rattle.mp_walk.specs.Instrs.{Instr}
use Rattle.mp_program.specs.declared.format.Format.{Format}
use Rattle.mp_program.specs.Form.{RuleLine}
use Rattle.mp_program.specs.FormText.{target_text, token_text, action_text}
use Rattle.mp_program.specs.RightForm.{IsDeclaration}
use Rattle.mp_build.specs.Names.{number_of}
use Rattle.mp_line.specs.Finds.{IsOnly, Finds}
use Rattle.mp_line.specs.LineTexts.{IsTargetText, IsTestText, IsRuleText, IsInstrText}
use Rattle.mp_line.specs.Lines.{Line, op_line, kind_line, test_line, rule_line, code_line, begin_line, instr_line}
use Rattle.mp_line.specs.Lines.{stop_line, IsLineText, IsCodeLine}
use Rattle.mp_line.specs.Words.{IsWithout, begins_with_digit}
use Rattle.mp_line.proofs.FindsLaws.{Finds-like, Finds-through}
use Rattle.mp_line.proofs.NumberLaws.{decimal-text, without-decimal}
use Rattle.mp_line.proofs.WordLaws.{with-none, first-only, apart}

-- ---- declarations

-- whether something is found between the word and a semicolon
pub declared-tells : {T : Type 0} (view : T → Text) (word text : Text) (r : Option T)
    → Finds view (λ middle. text ≡ word ++ (middle ++ codes ";")) r
    → (is_some r ≡ true → IsDeclaration word text) × (IsDeclaration word text → is_some r ≡ true)
declared-tells view word text None h = ((λ e. (let wrong : false ≡ true = e in cc)), (λ d. absurd (h d.0 d.1)))
declared-tells view word text (Some v) h = ((λ e. (view v, h.is)), (λ d. refl))

-- ---- the last line

-- what stands behind the number tells whether the line is the last one
pub stop-rest : (text : Text) (n : ℕ) (rest : Text) → text ≡ decimal n ++ (codes " " ++ rest)
    → (rest ≡ codes "stop" → text ≡ decimal n ++ codes " stop") × (text ≡ decimal n ++ codes " stop" → rest
    ≡ codes "stop")
stop-rest text n rest e = (
  λ h. e ∙ ap (λ r. decimal n ++ (codes " " ++ r)) h,
  λ t. append_cancel_left (codes " ") rest (codes "stop")
      (append_cancel_left (decimal n) (codes " " ++ rest) (codes " stop") (sym e ∙ t)),
)

-- ---- numbers at the begin

-- a number begins with a digit
number-begins : (n : ℕ) (rest : Text) → n < 2 ^ 32 → begins_with_digit (decimal n ++ rest) ≡ true
number-begins n rest small = let h = decimal-text n (omega arith) in go (decimal n) h.some h.are_digits
  where
    go : (ds : Text) → ds ≢ [] → list_all is_ascii_digit ds ≡ true → begins_with_digit (ds ++ rest) ≡ true
    go [] some all = absurd (some refl)
    go (d ∷ ds) some all = (and_parts (is_ascii_digit d) (list_all is_ascii_digit ds) all).0

-- a number that isn't 0 isn't spelt so
not-zero : (n : ℕ) (rest more : Text) → 1 ≤ n → n < 2 ^ 32 → decimal n ++ 32 ∷ rest ≡ codes "0" ++ 32 ∷ more → ⊥
not-zero n rest more some small e =
    let same = (first-only 32 (codes "0" ++ 32 ∷ more) (decimal n) rest (codes "0") more
    (record { parts = sym e; first = without-decimal 32 n refl (omega arith) })
    (record { parts = refl; first = refl })).0 in
    let value : n ≡ 0 = sym (decimal-text n (omega arith)).value ∙ ap number_of same in
    omega arith

module _ (sig : Sig) (format : Format) (n : ℕ) (some : 1 ≤ n) (small : n < 2 ^ 32) (text : Text) where
  -- ---- the lines of instructions

  -- the text is that of the line, from the begin of the instructions on
  abbrev IsHere : Line → Type 0
  IsHere = IsCodeLine sig format n text

  -- behind the word of `begin` the line is found by its target
  pub begin-found : (word : Text) (d : Option ℕ) → text ≡ codes "0 begin down " ++ word → IsOnly (IsTargetText word) d
      → IsOnly IsHere (begin_line d)
  begin-found word d e h = record {
    is = (h.is.short, e ∙ ap (λ t. codes "0 begin down " ++ t) (sym h.is.text));
    only = only;
  }
    where
      only : (l : Line) → IsHere l → l ≡ begin_line d
      only (begin_line x) g = ap begin_line (h.only x (record {
        short = g.0;
        text = append_cancel_left (codes "0 begin down ") (target_text x) word (sym g.1 ∙ e);
      }))
      only (instr_line i) g = absurd (not-zero n _ _ some small (g.text ∙ e))
      only stop_line g = absurd (not-zero n _ _ some small (sym g ∙ e))
      only l g = absurd g

  -- behind it there is no line without a target
  pub no-begin : (word : Text) → text ≡ codes "0 begin down " ++ word → ((d : Option ℕ) → IsTargetText word d → ⊥)
      → (l : Line) → IsHere l → ⊥
  no-begin word e none (begin_line x) g = none x (record {
    short = g.0;
    text = append_cancel_left (codes "0 begin down ") (target_text x) word (sym g.1 ∙ e);
  })
  no-begin word e none (instr_line i) g = not-zero n _ _ some small (g.text ∙ e)
  no-begin word e none stop_line g = not-zero n _ _ some small (sym g ∙ e)
  no-begin word e none l g = absurd g

  -- an instruction has a blank behind the one behind its number
  instr-stop : (i : Instr) → IsInstrText sig format n text i → text ≡ decimal n ++ codes " stop" → ⊥
  instr-stop i g e =
      let rest : codes "stop" ≡ token_text sig i.token ++ 32 ∷ (action_text i.down i.accepts
      ++ (codes " over " ++ target_text i.over)) =
      append_cancel_left (codes " ") _ _ (append_cancel_left (decimal n) _ _ (sym e ∙ sym g.text)) in
      with-none 32 (token_text sig i.token) _ (subst (IsWithout 32) rest refl)

  -- the last line is found
  pub stop-found : text ≡ decimal n ++ codes " stop" → IsOnly IsHere stop_line
  stop-found e = record { is = e; only = only }
    where
      only : (l : Line) → IsHere l → l ≡ stop_line
      only (begin_line x) g = absurd (not-zero n _ _ some small (sym e ∙ g.1))
      only (instr_line i) g = absurd (instr-stop i g e)
      only stop_line g = refl
      only l g = absurd g

  module _ (no_start : (word : Text) → text ≡ codes "0 begin down " ++ word → ⊥)
      (no_stop : text ≢ decimal n ++ codes " stop") where
    -- another line is found by its instruction
    pub instr_line-through : {T : Type 0} (view : T → Instr) (r : Option T)
        → Finds view (IsInstrText sig format n text) r
        → Finds (λ t. instr_line (view t)) IsHere r
    instr_line-through view r =
        Finds-through view instr_line (IsInstrText sig format n text) IsHere r (λ i g. g) from
      where
        from : (l : Line) → IsHere l → (i : Instr) × (l ≡ instr_line i) × IsInstrText sig format n text i
        from (begin_line x) g = absurd (no_start (target_text x) g.1)
        from (instr_line i) g = (i, refl, g)
        from stop_line g = absurd (no_stop g)
        from l g = absurd g

  -- an instruction begins with its number, which isn't 0, and the line isn't the last one
  not-begin : (i : Instr) → IsInstrText sig format n text i → (word : Text) → text ≡ codes "0 begin down " ++ word → ⊥
  not-begin i g word e = not-zero n _ _ some small (g.text ∙ e)

  -- where there is an instruction it is the only line
  pub instr-here : (i : Instr) → IsOnly (IsInstrText sig format n text) i → IsOnly IsHere (instr_line i)
  instr-here i h = instr_line-through (not-begin i h.is) (instr-stop i h.is) (λ j. j) (Some i) h

  -- a line that is no begin, no instruction and not the last one is none
  pub no-code-line : ((word : Text) → text ≡ codes "0 begin down " ++ word → ⊥)
      → ((i : Instr) → IsInstrText sig format n text i → ⊥) → text ≢ decimal n ++ codes " stop" → (l : Line)
      → IsHere l → ⊥
  no-code-line start none stop (begin_line x) g = start (target_text x) g.1
  no-code-line start none stop (instr_line i) g = none i g
  no-code-line start none stop stop_line g = stop g
  no-code-line start none stop l g = absurd g

  -- ---- all lines

  module _ (most : ℕ) where
    -- the text is that of the line, anywhere behind the first one
    abbrev IsThere : Line → Type 0
    IsThere = IsLineText sig format most n text

    -- the text begins with another byte than that of a number
    no-number-line : begins_with_digit text ≡ false → (l : Line) → IsHere l → ⊥
    no-number-line other (begin_line x) g =
        (let wrong : true ≡ false = sym (ap begins_with_digit g.1) ∙ other in cc)
    no-number-line other (instr_line i) g =
        let wrong : true ≡ false = sym (number-begins n _ small) ∙ (ap begins_with_digit g.text ∙ other) in cc
    no-number-line other stop_line g =
        let wrong : true ≡ false = sym (ap begins_with_digit g ∙ number-begins n _ small) ∙ other in cc
    no-number-line other l g = absurd g

    -- the line of an operation is found
    pub op-found : (middle : Text) → text ≡ codes "op " ++ (middle ++ codes ";") → IsOnly IsThere op_line
    op-found middle e = record { is = (middle, e); only = only }
      where
        only : (l : Line) → IsThere l → l ≡ op_line
        only op_line g = refl
        only kind_line g = absurd (apart 2 _ _ refl (sym e ∙ g.1))
        only (test_line c) g = absurd (apart 2 _ _ refl (sym e ∙ sym g.text))
        only (rule_line r) g = absurd (apart 2 _ _ refl (sym e ∙ sym g.text))
        only code_line g = absurd (apart 2 _ _ refl (sym e ∙ g))
        only (begin_line x) g = absurd (no-number-line (ap begins_with_digit e) (begin_line x) g)
        only (instr_line i) g = absurd (no-number-line (ap begins_with_digit e) (instr_line i) g)
        only stop_line g = absurd (no-number-line (ap begins_with_digit e) stop_line g)

    -- so is that of a kind
    pub kind-line-found : (middle : Text) → text ≡ codes "kind " ++ (middle ++ codes ";") → IsOnly IsThere kind_line
    kind-line-found middle e = record { is = (middle, e); only = only }
      where
        only : (l : Line) → IsThere l → l ≡ kind_line
        only op_line g = absurd (apart 2 _ _ refl (sym e ∙ g.1))
        only kind_line g = refl
        only (test_line c) g = absurd (apart 2 _ _ refl (sym e ∙ sym g.text))
        only (rule_line r) g = absurd (apart 2 _ _ refl (sym e ∙ sym g.text))
        only code_line g = absurd (apart 2 _ _ refl (sym e ∙ g))
        only (begin_line x) g = absurd (no-number-line (ap begins_with_digit e) (begin_line x) g)
        only (instr_line i) g = absurd (no-number-line (ap begins_with_digit e) (instr_line i) g)
        only stop_line g = absurd (no-number-line (ap begins_with_digit e) stop_line g)

    -- a test line is found by its test
    pub test-found : (c : Cond) → IsOnly (IsTestText sig text) c → IsOnly IsThere (test_line c)
    test-found c h = record { is = h.is; only = only }
      where
        only : (l : Line) → IsThere l → l ≡ test_line c
        only op_line g = absurd (apart 2 _ _ refl (h.is.text ∙ g.1))
        only kind_line g = absurd (apart 2 _ _ refl (h.is.text ∙ g.1))
        only (test_line d) g = ap test_line (h.only d g)
        only (rule_line r) g = absurd (apart 2 _ _ refl (h.is.text ∙ sym g.text))
        only code_line g = absurd (apart 2 _ _ refl (h.is.text ∙ g))
        only (begin_line x) g = absurd (no-number-line (ap begins_with_digit (sym h.is.text)) (begin_line x) g)
        only (instr_line i) g = absurd (no-number-line (ap begins_with_digit (sym h.is.text)) (instr_line i) g)
        only stop_line g = absurd (no-number-line (ap begins_with_digit (sym h.is.text)) stop_line g)

    -- a rule line is found by its rule
    pub rule-found : (r : RuleLine) → IsOnly (IsRuleText sig format most text) r → IsOnly IsThere (rule_line r)
    rule-found r h = record { is = h.is; only = only }
      where
        only : (l : Line) → IsThere l → l ≡ rule_line r
        only op_line g = absurd (apart 2 _ _ refl (h.is.text ∙ g.1))
        only kind_line g = absurd (apart 2 _ _ refl (h.is.text ∙ g.1))
        only (test_line d) g = absurd (apart 2 _ _ refl (h.is.text ∙ sym g.text))
        only (rule_line s) g = ap rule_line (h.only s g)
        only code_line g = absurd (apart 2 _ _ refl (h.is.text ∙ g))
        only (begin_line x) g = absurd (no-number-line (ap begins_with_digit (sym h.is.text)) (begin_line x) g)
        only (instr_line i) g = absurd (no-number-line (ap begins_with_digit (sym h.is.text)) (instr_line i) g)
        only stop_line g = absurd (no-number-line (ap begins_with_digit (sym h.is.text)) stop_line g)

    -- the line before the instructions is found
    pub code-found : text ≡ codes "code" → IsOnly IsThere code_line
    code-found e = record { is = e; only = only }
      where
        only : (l : Line) → IsThere l → l ≡ code_line
        only op_line g = absurd (apart 2 _ _ refl (sym e ∙ g.1))
        only kind_line g = absurd (apart 2 _ _ refl (sym e ∙ g.1))
        only (test_line c) g = absurd (apart 2 _ _ refl (sym e ∙ sym g.text))
        only (rule_line r) g = absurd (apart 2 _ _ refl (sym e ∙ sym g.text))
        only code_line g = refl
        only (begin_line x) g = absurd (no-number-line (ap begins_with_digit e) (begin_line x) g)
        only (instr_line i) g = absurd (no-number-line (ap begins_with_digit e) (instr_line i) g)
        only stop_line g = absurd (no-number-line (ap begins_with_digit e) stop_line g)

    -- a line that begins with a digit is one of an instruction
    pub code-line-through : {T : Type 0} (view : T → Line) (r : Option T) → begins_with_digit text ≡ true
        → Finds view IsHere r → Finds view IsThere r
    code-line-through view r digit = Finds-like view IsHere IsThere r to from
      where
        to : (l : Line) → IsHere l → IsThere l
        to op_line g = absurd g
        to kind_line g = absurd g
        to (test_line c) g = absurd g
        to (rule_line s) g = absurd g
        to code_line g = absurd g
        to (begin_line x) g = g
        to (instr_line i) g = g
        to stop_line g = g

        other : begins_with_digit text ≡ false → ⊥
        other e = (let wrong : true ≡ false = sym digit ∙ e in cc)

        from : (l : Line) → IsThere l → IsHere l
        from op_line g = absurd (other (ap begins_with_digit g.1))
        from kind_line g = absurd (other (ap begins_with_digit g.1))
        from (test_line c) g = absurd (other (ap begins_with_digit (sym g.text)))
        from (rule_line s) g = absurd (other (ap begins_with_digit (sym g.text)))
        from code_line g = absurd (other (ap begins_with_digit g))
        from (begin_line x) g = g
        from (instr_line i) g = g
        from stop_line g = g

    -- another is one of the others
    pub no-word-line : begins_with_digit text ≡ false → (IsDeclaration (codes "op ") text → ⊥)
        → (IsDeclaration (codes "kind ") text → ⊥) → ((c : Cond) → IsTestText sig text c → ⊥)
        → ((s : RuleLine) → IsRuleText sig format most text s → ⊥) → text ≢ codes "code" → (l : Line) → IsThere l → ⊥
    no-word-line other op kd ts rl cd op_line g = op g
    no-word-line other op kd ts rl cd kind_line g = kd g
    no-word-line other op kd ts rl cd (test_line c) g = ts c g
    no-word-line other op kd ts rl cd (rule_line s) g = rl s g
    no-word-line other op kd ts rl cd code_line g = cd g
    no-word-line other op kd ts rl cd (begin_line x) g = no-number-line other (begin_line x) g
    no-word-line other op kd ts rl cd (instr_line i) g = no-number-line other (instr_line i) g
    no-word-line other op kd ts rl cd stop_line g = no-number-line other stop_line g
