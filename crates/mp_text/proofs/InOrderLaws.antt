-- Statements that are read one behind the other, declarations first: what each adds to those that were read.
use Rattle.std.proofs.Common.{◌≡◌, true, false, ℕ, List, [], ◌∷◌, ◌++◌, None, append-nil, append_assoc, refl, sym, ap}
use Rattle.std.proofs.Common.{◌∙◌, subst}
use Rattle.std.specs.Prelude.{if◌then◌else◌, Result, Ok, Err, IfOk}
use Rattle.mp_term.specs.declared.signature.OpDecl.{OpDecl}
use Rattle.mp_term.specs.Signature.{Sig}
use Rattle.mp_term.proofs.ListLaws.{both-empty}
use Rattle.mp_pattern.specs.declared.limits.TheConstants.{MAX_SUBJECTS}
use Rattle.mp_parser.specs.declared.parser.Parser.{Parser}
use Rattle.mp_parser.specs.Tokens.{Placed}
use Rattle.mp_parser.specs.Lexing.{token_of}
use Rattle.mp_parser.specs.Syntax.{Spot, Tree, Statement, OpOf, KindOf, RuleOf, SubjectOf, EditOf}
use Rattle.mp_parser.specs.Machine.{Top, run, is_end, on_word, keyword, after_step, Finish, parsed}
use Rattle.mp_parser.specs.Parsing.{ahead}
use Rattle.mp_parser.proofs.Found.{read_ok}
use Rattle.mp_syntax.proofs.Whole.{file_is_read}
use Rattle.mp_build.specs.declared.fault.TextFault.{TextFault}
use Rattle.mp_build.specs.declared.fault.TextError.{TextError}
use Rattle.mp_build.specs.Answers.{Gives}
use Rattle.mp_build.specs.Names.{subject_names}
use Rattle.mp_build.specs.Build.{op_decls, kind_decls, sig_of}
use Rattle.mp_build.specs.Checks.{op_statement_faults, kind_statement_faults, faults_by, name_faults, term_faults}
use Rattle.mp_build.specs.Checks.{is_large_term}
use Rattle.mp_build.proofs.Declared.{op_decls-other, kind_decls-other}
use Rattle.mp_build.proofs.Faultless.{nil-both}
use Rattle.mp_text.specs.declared.reader.Draft.{Draft}
use Rattle.mp_text.specs.Draft.{IsDraftOf}
use Rattle.mp_text.specs.File.{file_tree}
use Rattle.mp_text.specs.FileChecks.{statement_faults, faults}
use Rattle.mp_text.specs.InOrder.{is_declaration, HasRead, IsDraftRead}
use Rattle.mp_text.specs.Reading.{IsFileOf}

-- ---- statements that declare nothing

-- it declares nothing, and has no fault as a declaration
record IsOther (s : Statement) : Type 0 where
  op : op_decls (s ∷ []) ≡ []
  kind : kind_decls (s ∷ []) ≡ []
  op_faultless : (earlier : List Statement) → op_statement_faults earlier s ≡ []
  kind_faultless : (ds : List OpDecl) (earlier : List Statement) → kind_statement_faults ds earlier s ≡ []

is-other : (s : Statement) → is_declaration s ≡ false → IsOther s
is-other (OpOf name least more flags) h = absurd cc
is-other (KindOf name members) h = absurd cc
is-other (RuleOf name p x c) h = record {
  op = refl;
  kind = refl;
  op_faultless = λ earlier. refl;
  kind_faultless = λ ds earlier. refl;
}
is-other (SubjectOf name t) h = record {
  op = refl;
  kind = refl;
  op_faultless = λ earlier. refl;
  kind_faultless = λ ds earlier. refl;
}
is-other (EditOf subject changes) h = record {
  op = refl;
  kind = refl;
  op_faultless = λ earlier. refl;
  kind_faultless = λ ds earlier. refl;
}

-- a statement that is no declaration leaves the signature as it was
sig_of-other : (ss : List Statement) (s : Statement) → is_declaration s ≡ false → sig_of (ss ++ s ∷ []) ≡ sig_of ss
sig_of-other ss s h =
    let o = is-other s h in
    let sig : List OpDecl → Sig = λ ds. record { ops = ds; kinds = kind_decls (ss ++ s ∷ []) } in
    ap sig (op_decls-other ss s o.op)
    ∙ ap (λ ks. record { ops = op_decls ss; kinds = ks }) (kind_decls-other ss s o.kind)

-- ---- faults

-- the faults of one statement more come behind those of the others
faults_by-push : (rule : List Statement → Statement → List TextFault) (earlier ss : List Statement) (s : Statement)
    → faults_by rule earlier (ss ++ s ∷ []) ≡ faults_by rule earlier ss ++ rule (earlier ++ ss) s
faults_by-push rule earlier [] s = append-nil (rule earlier s) ∙ ap (λ l. rule l s) (sym (append-nil earlier))
faults_by-push rule earlier (x ∷ ss) s =
    let others = faults_by rule (earlier ++ x ∷ []) ss in
    ap (λ l. rule earlier x ++ l) (faults_by-push rule (earlier ++ x ∷ []) ss s)
    ∙ sym (append_assoc (rule earlier x) others (rule ((earlier ++ x ∷ []) ++ ss) s))
    ∙ ap (λ l. (rule earlier x ++ others) ++ rule l s) (append_assoc earlier (x ∷ []) ss)

-- a statement without faults behind others without faults
faults_by-faultless : (rule : List Statement → Statement → List TextFault) (ss : List Statement) (s : Statement)
    → faults_by rule [] ss ≡ [] → rule ss s ≡ [] → faults_by rule [] (ss ++ s ∷ []) ≡ []
faults_by-faultless rule ss s h k = faults_by-push rule [] ss s ∙ nil-both (faults_by rule [] ss) (rule ss s) h k

-- a statement that is no declaration and has no fault leaves statements without faults
faults-push : (ss : List Statement) (s : Statement) → is_declaration s ≡ false → faults ss ≡ []
    → statement_faults (sig_of ss) ss s ≡ [] → faults (ss ++ s ∷ []) ≡ []
faults-push ss s other h k =
    let o = is-other s other in
    let more = ss ++ s ∷ [] in
    let all = both-empty (faults_by op_statement_faults [] ss ++ faults_by (kind_statement_faults (op_decls ss)) [] ss)
    (faults_by (statement_faults (sig_of ss)) [] ss) h in
    let declared = both-empty (faults_by op_statement_faults [] ss)
    (faults_by (kind_statement_faults (op_decls ss)) [] ss) all.0 in
    let ops = faults_by-faultless op_statement_faults ss s declared.0 (o.op_faultless ss) in
    let kinds = ap (λ ds. faults_by (kind_statement_faults ds) [] more) (op_decls-other ss s o.op)
    ∙ faults_by-faultless (kind_statement_faults (op_decls ss)) ss s declared.1 (o.kind_faultless (op_decls ss) ss) in
    let others = ap (λ sig. faults_by (statement_faults sig) [] more) (sig_of-other ss s other)
    ∙ faults_by-faultless (statement_faults (sig_of ss)) ss s all.1 k in
    nil-both (faults_by op_statement_faults [] more ++ faults_by (kind_statement_faults (op_decls more)) [] more)
    (faults_by (statement_faults (sig_of more)) [] more)
    (nil-both (faults_by op_statement_faults [] more) (faults_by (kind_statement_faults (op_decls more)) [] more) ops
    kinds)
    others

-- a subject whose name and term have no fault has none
pub subject-faultless : (sig : Sig) (earlier : List Statement) (name : Spot) (e : Tree)
    → name_faults MAX_SUBJECTS (subject_names earlier) false name ≡ [] → is_large_term e ≡ false
    → term_faults sig e ≡ [] → statement_faults sig earlier (SubjectOf name e) ≡ []
subject-faultless sig earlier name e h small k =
    nil-both (name_faults MAX_SUBJECTS (subject_names earlier) (is_large_term e) name) (term_faults sig e)
    (ap (λ b. name_faults MAX_SUBJECTS (subject_names earlier) b name) small ∙ h) k

-- ---- what was read

-- one statement more that is no declaration and has no fault
pub IsDraftRead-push : (bytes : List ℕ) (p q : Parser) (d e : Draft) (s : Statement) (was : IsDraftRead bytes p d)
    → is_declaration s ≡ false → run was.statements Top (ahead p) ≡ run (was.statements ++ s ∷ []) Top (ahead q)
    → statement_faults (sig_of was.statements) was.statements s ≡ []
    → IsDraftOf (sig_of was.statements) (was.statements ++ s ∷ []) e → IsDraftRead bytes q e
IsDraftRead-push bytes p q d e s was other read faultless draft = record {
  statements = was.statements ++ s ∷ [];
  read = was.read ∙ read;
  faultless = faults-push was.statements s other was.faultless faultless;
  draft = subst (λ sig. IsDraftOf sig (was.statements ++ s ∷ []) e) (sym (sig_of-other was.statements s other)) draft;
}

-- a draft of the statements that were read is that of what was read
pub IsDraftRead-given : (r : Result Draft TextError) (p q : Parser) (ss : List Statement)
    → ((bytes : List ℕ) → HasRead bytes [] p → HasRead bytes ss q)
    → Gives r (faults ss) (λ d. IsDraftOf (sig_of ss) ss d)
    → IfOk r (λ d. (bytes : List ℕ) → HasRead bytes [] p → IsDraftRead bytes q d)
IsDraftRead-given (Ok d) p q ss read given = λ bytes begins. record {
  statements = ss;
  read = read bytes begins;
  faultless = given.0;
  draft = given.1;
}
IsDraftRead-given (Err e) p q ss read given = tt

-- where the end is held the statements that were read are all
run-end : (read : List Statement) (t : Placed) (ts : List Placed) → is_end t.token ≡ true
    → run read Top (t ∷ ts) ≡ read_ok (parsed read None)
run-end read t ts h =
    ap (λ b. after_step read t.place (λ d a. run d a ts) (if b then Finish else on_word t (λ w. keyword w.text))) h

-- where the end is held the draft is the file of the bytes
pub IsDraftRead-file : (bytes : List ℕ) (p : Parser) (d : Draft) → IsDraftRead bytes p d
    → is_end (token_of p.token.kind) ≡ true → IsFileOf bytes (file_tree d.file)
IsDraftRead-file bytes p d was ends = record {
  statements = was.statements;
  syntax = file_is_read.found bytes was.statements (was.read ∙ run-end was.statements _ _ ends);
  faultless = was.faultless;
  file = was.draft.file;
}
