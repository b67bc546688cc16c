-- What matches the spelling of a statement, or of an expression or a condition alone, is read.
use Rattle.std.proofs.Common.{◌≡◌, ℕ, Bool, true, false, cond, List, [], ◌∷◌, ◌++◌, map, Option, Some, None, refl}
use Rattle.std.proofs.Common.{sym, ap, ◌∙◌, arith, append_assoc, append-nil, subst}
use Rattle.std.specs.Prelude.{codes}
use Rattle.std.specs.List.{flat_map}
use Rattle.mp_parser.specs.declared.token.Punct.TheVariants.{Open, Colon, Semicolon, OpenBrace}
use Rattle.mp_parser.specs.Tokens.{Word, Punctuation, End, Placed}
use Rattle.mp_parser.specs.Syntax.{Spot, Tree, Flag, Assoc, Comm, One, Infixed, Statement, OpOf, KindOf, RuleOf}
use Rattle.mp_parser.specs.Syntax.{SubjectOf, Condition, FitsCondition, spell_condition, fixed_word, colon, Expected}
use Rattle.mp_parser.specs.Syntax.{Matches, AllMatch, spell, spell_plus, spell_flag, spell_statement, spell_file}
use Rattle.mp_parser.specs.Syntax.{FitsIf, spell_if, spelled_word, semicolon, Fits, FitsStatement, AreStatements}
use Rattle.mp_parser.specs.Syntax.{EditOf, arrow, spell_change, spell_changes, comma}
use Rattle.mp_parser.specs.Machine.{run_in, step_in, Role, OfRule, OfSubject, Declared, declared, with_flag, heading}
use Rattle.mp_parser.specs.Machine.{InStatement, Alone, InCondition, ConditionAlone, no_level, Top, AfterOp}
use Rattle.mp_parser.specs.Machine.{AfterOpName, AfterLeast, AfterFlags, AfterInfix, AfterKind, AfterKindName}
use Rattle.mp_parser.specs.Machine.{BeforeMember, AfterMember, AfterRole, AfterName, BeforeExpr, AfterExpr}
use Rattle.mp_parser.specs.Machine.{BeforeLiteral, SingleExpr, SingleCondition, Go, Emit, Refuse, Finish, Ends}
use Rattle.mp_parser.specs.Machine.{parsed, refusal, is_punct, is_word, is_sign, is_end, word_of, keyword, on_punct}
use Rattle.mp_parser.specs.Machine.{step_role, on_text, on_word, step_number, step_flag, after_step, is_arrow}
use Rattle.mp_parser.specs.Machine.{InTemplate, AfterEdit, AfterSubject, BeforeChange, step_rule, edited, State}
use Rattle.mp_parser.proofs.Found.{read_ok}
use Rattle.mp_parser.proofs.Again.{split, led, joined, over, ended, punct-taken, word-taken, sign-taken, Begins}
use Rattle.mp_parser.proofs.Again.{EachContinuesNone, nothing, ReadTo, expr-again, expr-between}
use Rattle.mp_parser.proofs.ConditionAgain.{condition-again}
use Rattle.mp_parser.proofs.EditAgain.{changes-again}

-- ---- statements

-- a semicolon continues no expression, and neither does a word or the arrow
semicolon-continues_none : EachContinuesNone semicolon
semicolon-continues_none t h = (ap (is_punct Open) h, ap (is_punct Colon) h, ap (is_punct OpenBrace) h)

word-continues_none : (w : List ℕ) → EachContinuesNone (fixed_word w)
word-continues_none w t h = (ap (is_punct Open) h, ap (is_punct Colon) h, ap (is_punct OpenBrace) h)

arrow-continues_none : EachContinuesNone arrow
arrow-continues_none t h = (ap (is_punct Open) h, ap (is_punct Colon) h, ap (is_punct OpenBrace) h)

-- the token behind the pattern of a rule, or behind its template, and what stands behind it
abbrev if_head : Option Condition → Expected
if_head None = semicolon
if_head (Some c) = fixed_word (codes "if")

abbrev if_tail : Option Condition → List Expected
if_tail None = []
if_tail (Some c) = spell_condition c ++ semicolon ∷ []

if-parts : (o : Option Condition) → spell_if o ++ semicolon ∷ [] ≡ if_head o ∷ if_tail o
if-parts None = refl
if-parts (Some c) = refl

if_head-continues_none : (o : Option Condition) → EachContinuesNone (if_head o)
if_head-continues_none None = semicolon-continues_none
if_head-continues_none (Some c) = word-continues_none (codes "if")

if_head-no_arrow : (o : Option Condition) (t : Placed) → Matches t (if_head o) → is_arrow t.token ≡ false
if_head-no_arrow None t h = ap is_arrow h
if_head-no_arrow (Some c) t h = ap is_arrow h

-- the operation of a declaration
abbrev op_of : Declared → List Flag → Statement
op_of d flags = OpOf d.name d.least d.more flags

-- flags begin with a token that is no plus
flags-begin : (flags : List Flag) (ts : List Placed) → AllMatch ts (flat_map spell_flag flags ++ semicolon ∷ [])
    → Begins (λ t. is_sign (codes "+") t.token ≡ false) ts
flags-begin [] [] h = absurd h
flags-begin [] (t ∷ ts) h = record { token = t; others = ts; parts = refl; is = ap (is_sign (codes "+")) h.0 }
flags-begin (Assoc ∷ flags) [] h = absurd h
flags-begin (Assoc ∷ flags) (t ∷ ts) h =
    record { token = t; others = ts; parts = refl; is = ap (is_sign (codes "+")) h.0 }
flags-begin (Comm ∷ flags) [] h = absurd h
flags-begin (Comm ∷ flags) (t ∷ ts) h =
    record { token = t; others = ts; parts = refl; is = ap (is_sign (codes "+")) h.0 }
flags-begin (One ∷ flags) [] h = absurd h
flags-begin (One ∷ flags) (t ∷ ts) h =
    record { token = t; others = ts; parts = refl; is = ap (is_sign (codes "+")) h.0 }
flags-begin (Infixed sign ∷ flags) [] h = absurd h
flags-begin (Infixed sign ∷ flags) (t ∷ ts) h =
    record { token = t; others = ts; parts = refl; is = ap (is_sign (codes "+")) h.0 }

module _ (limit : ℕ) where
  -- a name, a colon and an expression
  named-again : (done : List Statement) (role : Role) (name : Spot) (e : Tree) (m : Expected) (ms : List Expected)
      (ts us : List Placed) → AllMatch ts (spelled_word name ∷ colon ∷ (spell e ++ m ∷ ms)) → Fits limit e
      → EachContinuesNone m
      → ReadTo limit done (AfterRole role) (AfterExpr (InStatement (heading role name)) [] e) m ms ts us
  named-again done role name e m ms [] us h fits none = absurd h
  named-again done role name e m ms (n ∷ []) us h fits none = absurd h.1
  named-again done role name e m ms (n ∷ c ∷ ts) us h fits none =
      let r = expr-between limit done (InStatement (heading role name)) [] limit e m ms ts us h.1.1 fits
      (omega arith) none in
      record {
        token = r.token;
        others = r.others;
        match = r.match;
        behind = r.behind;
        read =
            over limit done (AfterRole role) (AfterName (heading role name)) n (c ∷ ts ++ us)
            (word-taken (λ w. Go (AfterName (heading role w))) n name h.0)
            ∙ over limit done (AfterName (heading role name)) (BeforeExpr (InStatement (heading role name)) []) c
            (ts ++ us)
            (ap (λ k. on_punct Colon k (Go (BeforeExpr (InStatement (heading role name)) []))) h.1.0)
            ∙ r.read;
      }

  -- the rest of a rule behind its pattern or its template, from a state that has it there
  ends-again : (done : List Statement) (at : State) (name : Spot) (e : Tree) (template : Option Tree)
      (o : Option Condition) (t : Placed) (ts us : List Placed)
      → step_in limit at t ≡ step_rule name e template t.token → Matches t (if_head o) → AllMatch ts (if_tail o)
      → FitsIf limit o
      → run_in limit done at (t ∷ (ts ++ us)) ≡ run_in limit (done ++ RuleOf name e template o ∷ []) Top us
  ends-again done at name e template None t ts us wants is h fits =
      ended limit done at (RuleOf name e template None) t (ts ++ us) (wants ∙ ap (step_rule name e template) is)
      ∙ ap (λ l. run_in limit (done ++ RuleOf name e template None ∷ []) Top (l ++ us)) (nothing ts h)
  ends-again done at name e template (Some c) t ts us wants is h fits =
      let x = InCondition name e template in
      let r = split (spell_condition c) (semicolon ∷ []) ts h in
      let s = led semicolon [] r.back r.second in
      over limit done at (BeforeLiteral x [] no_level) t (ts ++ us) (wants ∙ ap (step_rule name e template) is)
      ∙ ap (run_in limit done (BeforeLiteral x [] no_level))
      (joined ts r.front r.back s.token s.others us r.parts s.parts)
      ∙ condition-again limit done x c [] limit r.front s.token (s.others ++ us) r.first fits (omega arith)
      (ap (is_word (codes "and")) s.match, ap (is_word (codes "or")) s.match)
      ∙ ap (λ k. after_step done s.token.place (λ d a. run_in limit d a (s.others ++ us))
      (on_punct Semicolon k (Emit (RuleOf name e template (Some c))))) s.match
      ∙ ap (λ l. run_in limit (done ++ RuleOf name e template (Some c) ∷ []) Top (l ++ us)) (nothing s.others s.behind)

  -- the word that a statement begins with
  top-word : (t : Placed) (w : List ℕ) → t.token ≡ Word w → step_in limit Top t ≡ keyword w
  top-word t w h = ap (λ k. cond (is_end k) Finish (on_text t (λ w. keyword w.text) (word_of k))) h

  -- the word that a flag begins with
  flag-word : (d : Declared) (t : Placed) (w : List ℕ) → t.token ≡ Word w
      → step_in limit (AfterFlags d) t ≡ step_flag d w
  flag-word d t w h =
      ap (λ k. cond (is_punct Semicolon k) (Emit (op_of d d.flags)) (on_text t (λ w. step_flag d w.text) (word_of k))) h

  -- one more flag is among the flags
  push-flag : (done : List Statement) (d : Declared) (f : Flag) (flags : List Flag) (us : List Placed)
      → run_in limit (done ++ op_of d ((d.flags ++ f ∷ []) ++ flags) ∷ []) Top us
      ≡ run_in limit (done ++ op_of d (d.flags ++ f ∷ flags) ∷ []) Top us
  push-flag done d f flags us =
      ap (λ l. run_in limit (done ++ op_of d l ∷ []) Top us) (append_assoc d.flags (f ∷ []) flags)

  -- flags and the semicolon are read
  flags-again : (done : List Statement) (flags : List Flag) (d : Declared) (ts us : List Placed)
      → AllMatch ts (flat_map spell_flag flags ++ semicolon ∷ [])
      → run_in limit done (AfterFlags d) (ts ++ us) ≡ run_in limit (done ++ op_of d (d.flags ++ flags) ∷ []) Top us
  flags-again done [] d [] us h = absurd h
  flags-again done [] d (t ∷ []) us h =
      ended limit done (AfterFlags d) (op_of d d.flags) t us
      (punct-taken (is_punct Semicolon) t (Punctuation Semicolon) (Emit (op_of d d.flags))
      (on_word t (λ w. step_flag d w.text)) h.0 refl)
      ∙ ap (λ l. run_in limit (done ++ op_of d l ∷ []) Top us) (sym (append-nil d.flags))
  flags-again done [] d (t ∷ v ∷ ts) us h = absurd h.1
  flags-again done (Assoc ∷ flags) d [] us h = absurd h
  flags-again done (Assoc ∷ flags) d (t ∷ ts) us h =
      over limit done (AfterFlags d) (AfterFlags (with_flag d Assoc)) t (ts ++ us) (flag-word d t (codes "assoc") h.0)
      ∙ flags-again done flags (with_flag d Assoc) ts us h.1 ∙ push-flag done d Assoc flags us
  flags-again done (Comm ∷ flags) d [] us h = absurd h
  flags-again done (Comm ∷ flags) d (t ∷ ts) us h =
      over limit done (AfterFlags d) (AfterFlags (with_flag d Comm)) t (ts ++ us) (flag-word d t (codes "comm") h.0)
      ∙ flags-again done flags (with_flag d Comm) ts us h.1 ∙ push-flag done d Comm flags us
  flags-again done (One ∷ flags) d [] us h = absurd h
  flags-again done (One ∷ flags) d (t ∷ ts) us h =
      over limit done (AfterFlags d) (AfterFlags (with_flag d One)) t (ts ++ us) (flag-word d t (codes "one") h.0)
      ∙ flags-again done flags (with_flag d One) ts us h.1 ∙ push-flag done d One flags us
  flags-again done (Infixed sign ∷ flags) d [] us h = absurd h
  flags-again done (Infixed sign ∷ flags) d (t ∷ []) us h = absurd h.1
  flags-again done (Infixed sign ∷ flags) d (t ∷ s ∷ ts) us h =
      over limit done (AfterFlags d) (AfterInfix d) t (s ∷ ts ++ us) (flag-word d t (codes "infix") h.0)
      ∙ over limit done (AfterInfix d) (AfterFlags (with_flag d (Infixed sign))) s (ts ++ us)
      (sign-taken (λ w. Go (AfterFlags (with_flag d (Infixed w)))) s sign h.1.0)
      ∙ flags-again done flags (with_flag d (Infixed sign)) ts us h.1.1
      ∙ push-flag done d (Infixed sign) flags us

  -- a token that is no plus is the first of the flags
  no-plus : (done : List Statement) (name least : Spot) (t : Placed) (us : List Placed)
      → is_sign (codes "+") t.token ≡ false → run_in limit done (AfterLeast name least) (t ∷ us)
      ≡ run_in limit done (AfterFlags (declared name least false [])) (t ∷ us)
  no-plus done name least t us h = rw h refl

  -- what follows the number of an operation is read
  least-again : (done : List Statement) (name least : Spot) (more : Bool) (flags : List Flag) (ts us : List Placed)
      → AllMatch ts (spell_plus more ++ (flat_map spell_flag flags ++ semicolon ∷ []))
      → run_in limit done (AfterLeast name least) (ts ++ us)
      ≡ run_in limit (done ++ OpOf name least more flags ∷ []) Top us
  least-again done name least true flags [] us h = absurd h
  least-again done name least true flags (t ∷ ts) us h =
      over limit done (AfterLeast name least) (AfterFlags (declared name least true [])) t (ts ++ us)
      (rw (ap (is_sign (codes "+")) h.0) refl)
      ∙ flags-again done flags (declared name least true []) ts us h.1
  least-again done name least false flags ts us h =
      let b = flags-begin flags ts h in
      ap (λ l. run_in limit done (AfterLeast name least) (l ++ us)) b.parts
      ∙ no-plus done name least b.token (b.others ++ us) b.is
      ∙ ap (λ l. run_in limit done (AfterFlags (declared name least false [])) (l ++ us)) (sym b.parts)
      ∙ flags-again done flags (declared name least false []) ts us h

  -- members behind others, and the semicolon, are read
  members-again : (done : List Statement) (name : Spot) (members before : List Spot) (ts us : List Placed)
      → AllMatch ts (map spelled_word members ++ semicolon ∷ [])
      → run_in limit done (AfterMember name before) (ts ++ us)
      ≡ run_in limit (done ++ KindOf name (before ++ members) ∷ []) Top us
  members-again done name [] before [] us h = absurd h
  members-again done name [] before (t ∷ []) us h =
      ended limit done (AfterMember name before) (KindOf name before) t us
      (punct-taken (is_punct Semicolon) t (Punctuation Semicolon) (Emit (KindOf name before))
      (on_word t (λ w. Go (AfterMember name (before ++ w ∷ [])))) h.0 refl)
      ∙ ap (λ l. run_in limit (done ++ KindOf name l ∷ []) Top us) (sym (append-nil before))
  members-again done name [] before (t ∷ v ∷ ts) us h = absurd h.1
  members-again done name (m ∷ members) before [] us h = absurd h
  members-again done name (m ∷ members) before (t ∷ ts) us h =
      over limit done (AfterMember name before) (AfterMember name (before ++ m ∷ [])) t (ts ++ us)
      (ap (λ k. cond (is_punct Semicolon k) (Emit (KindOf name before))
      (on_word t (λ w. Go (AfterMember name (before ++ w ∷ []))))) h.0.0
      ∙ word-taken (λ w. Go (AfterMember name (before ++ w ∷ []))) t m h.0)
      ∙ members-again done name members (before ++ m ∷ []) ts us h.1
      ∙ ap (λ l. run_in limit (done ++ KindOf name l ∷ []) Top us) (append_assoc before (m ∷ []) members)

  -- a statement is read
  pub statement-again : (done : List Statement) (s : Statement) (ts us : List Placed) → AllMatch ts (spell_statement s)
      → FitsStatement limit s → run_in limit done Top (ts ++ us) ≡ run_in limit (done ++ s ∷ []) Top us
  statement-again done (OpOf name least more flags) [] us h fits = absurd h
  statement-again done (OpOf name least more flags) (o ∷ []) us h fits = absurd h.1
  statement-again done (OpOf name least more flags) (o ∷ n ∷ []) us h fits = absurd h.1.1
  statement-again done (OpOf name least more flags) (o ∷ n ∷ l ∷ ts) us h fits =
      over limit done Top AfterOp o (n ∷ l ∷ ts ++ us) (top-word o (codes "op") h.0)
      ∙ over limit done AfterOp (AfterOpName name) n (l ∷ ts ++ us) (word-taken (λ w. Go (AfterOpName w)) n name h.1.0)
      ∙ over limit done (AfterOpName name) (AfterLeast name least) l (ts ++ us)
      (word-taken (λ w. step_number (λ w. AfterLeast name w) w) l least h.1.1.0 ∙ rw fits refl)
      ∙ least-again done name least more flags ts us h.1.1.1
  statement-again done (KindOf name members) [] us h fits = absurd h
  statement-again done (KindOf name members) (k ∷ []) us h fits = absurd h.1
  statement-again done (KindOf name members) (k ∷ n ∷ []) us h fits = absurd h.1.1
  statement-again done (KindOf name []) (k ∷ n ∷ c ∷ ts) us h fits = absurd (fits refl)
  statement-again done (KindOf name (m ∷ members)) (k ∷ n ∷ c ∷ []) us h fits = absurd h.1.1.1
  statement-again done (KindOf name (m ∷ members)) (k ∷ n ∷ c ∷ t ∷ ts) us h fits =
      over limit done Top AfterKind k (n ∷ c ∷ t ∷ ts ++ us) (top-word k (codes "kind") h.0)
      ∙ over limit done AfterKind (AfterKindName name) n (c ∷ t ∷ ts ++ us)
      (word-taken (λ w. Go (AfterKindName w)) n name h.1.0)
      ∙ over limit done (AfterKindName name) (BeforeMember name []) c (t ∷ ts ++ us)
      (ap (λ k. on_punct Colon k (Go (BeforeMember name []))) h.1.1.0)
      ∙ over limit done (BeforeMember name []) (AfterMember name (m ∷ [])) t (ts ++ us)
      (word-taken (λ w. Go (AfterMember name (w ∷ []))) t m h.1.1.1.0)
      ∙ members-again done name members (m ∷ []) ts us h.1.1.1.1
  statement-again done (RuleOf name e template o) [] us h fits = absurd h
  statement-again done (RuleOf name e None o) (r ∷ ts) us h fits =
      let n = named-again done OfRule name e (if_head o) (if_tail o) ts us
      (subst (λ l. AllMatch ts (spelled_word name ∷ colon ∷ (spell e ++ l))) (if-parts o) h.1) fits.0
      (if_head-continues_none o) in
      over limit done Top (AfterRole OfRule) r (ts ++ us) (top-word r (codes "rule") h.0)
      ∙ n.read
      ∙ ends-again done (AfterExpr (InStatement (heading OfRule name)) [] e) name e None o n.token n.others us
      (ap (λ b. cond b (Go (BeforeExpr (InTemplate name e) [])) (step_rule name e None n.token.token))
      (if_head-no_arrow o n.token n.match)) n.match n.behind fits.2
  statement-again done (RuleOf name e (Some t) o) (r ∷ ts) us h fits =
      let n = named-again done OfRule name e arrow (spell t ++ (spell_if o ++ semicolon ∷ [])) ts us h.1 fits.0
      arrow-continues_none in
      let m = expr-between limit done (InTemplate name e) [] limit t (if_head o) (if_tail o) n.others us
      (subst (λ l. AllMatch n.others (spell t ++ l)) (if-parts o) n.behind) fits.1 (omega arith)
      (if_head-continues_none o) in
      over limit done Top (AfterRole OfRule) r (ts ++ us) (top-word r (codes "rule") h.0)
      ∙ n.read
      ∙ over limit done (AfterExpr (InStatement (heading OfRule name)) [] e) (BeforeExpr (InTemplate name e) []) n.token
      (n.others ++ us) (ap (step_role OfRule name e) n.match)
      ∙ m.read
      ∙ ends-again done (AfterExpr (InTemplate name e) [] t) name e (Some t) o m.token m.others us refl m.match m.behind
      fits.2
  statement-again done (SubjectOf name e) [] us h fits = absurd h
  statement-again done (SubjectOf name e) (r ∷ ts) us h fits =
      let n = named-again done OfSubject name e semicolon [] ts us h.1 fits semicolon-continues_none in
      over limit done Top (AfterRole OfSubject) r (ts ++ us) (top-word r (codes "subject") h.0)
      ∙ n.read
      ∙ ended limit done (AfterExpr (InStatement (heading OfSubject name)) [] e) (SubjectOf name e) n.token
      (n.others ++ us)
      (ap (step_role OfSubject name e) n.match)
      ∙ ap (λ l. run_in limit (done ++ SubjectOf name e ∷ []) Top (l ++ us)) (nothing n.others n.behind)
  statement-again done (EditOf subject changes) [] us h fits = absurd h
  statement-again done (EditOf subject changes) (k ∷ []) us h fits = absurd h.1
  statement-again done (EditOf subject changes) (k ∷ n ∷ []) us h fits = absurd h.1.1
  statement-again done (EditOf subject []) (k ∷ n ∷ c ∷ ts) us h fits = absurd (fits.0 refl)
  statement-again done (EditOf subject (x ∷ xs)) (k ∷ n ∷ c ∷ ts) us h fits =
      over limit done Top AfterEdit k (n ∷ c ∷ ts ++ us) (top-word k (codes "edit") h.0)
      ∙ over limit done AfterEdit (AfterSubject subject) n (c ∷ ts ++ us)
      (word-taken (λ w. Go (AfterSubject w)) n subject h.1.0)
      ∙ over limit done (AfterSubject subject) (BeforeChange (edited subject [])) c (ts ++ us)
      (ap (λ k. on_punct Colon k (Go (BeforeChange (edited subject [])))) h.1.1.0)
      ∙ changes-again limit done subject [] x xs ts us
      (subst (AllMatch ts) (append_assoc (spell_change x) (spell_changes (comma ∷ []) xs) (semicolon ∷ [])) h.1.1.1)
      fits.1

  -- a file is read
  pub file-again : (file done : List Statement) (ts us : List Placed) → AllMatch ts (spell_file file)
      → AreStatements limit file
      → run_in limit done Top (ts ++ us) ≡ run_in limit (done ++ file) Top us
  file-again [] done [] us h fits = ap (λ d. run_in limit d Top us) (sym (append-nil done))
  file-again [] done (t ∷ ts) us h fits = absurd h
  file-again (s ∷ file) done ts us h fits =
      let r = split (spell_statement s) (spell_file file) ts h in
      ap (run_in limit done Top) (ap (λ l. l ++ us) r.parts ∙ append_assoc r.front r.back us)
      ∙ statement-again done s r.front (r.back ++ us) r.first fits.0
      ∙ file-again file (done ++ s ∷ []) r.back us r.second fits.1
      ∙ ap (λ d. run_in limit d Top us) (append_assoc done (s ∷ []) file)

  -- an expression alone is read
  pub alone-again : (e : Tree) (ts : List Placed) (last : Placed) → AllMatch ts (spell e) → Fits limit e
      → last.token ≡ End
      → run_in limit [] (BeforeExpr Alone []) (ts ++ last ∷ []) ≡ read_ok (parsed [] (Some (SingleExpr e)))
  alone-again e ts last h fits ends =
      expr-again limit [] Alone e [] limit ts last [] h fits (omega arith)
      (ap (is_punct Open) ends, ap (is_punct Colon) ends, ap (is_punct OpenBrace) ends)
      ∙ ap (λ k. after_step [] last.place (λ d a. run_in limit d a [])
      (cond (is_end k) (Ends (SingleExpr e)) (Refuse (refusal k)))) ends

  -- a condition alone is read
  pub alone_condition-again : (c : Condition) (ts : List Placed) (last : Placed) → AllMatch ts (spell_condition c)
      → FitsCondition limit c → last.token ≡ End
      → run_in limit [] (BeforeLiteral ConditionAlone [] no_level) (ts ++ last ∷ [])
      ≡ read_ok (parsed [] (Some (SingleCondition c)))
  alone_condition-again c ts last h fits ends =
      condition-again limit [] ConditionAlone c [] limit ts last [] h fits (omega arith)
      (ap (is_word (codes "and")) ends, ap (is_word (codes "or")) ends)
      ∙ ap (λ k. after_step [] last.place (λ d a. run_in limit d a [])
      (cond (is_end k) (Ends (SingleCondition c)) (Refuse (refusal k)))) ends
