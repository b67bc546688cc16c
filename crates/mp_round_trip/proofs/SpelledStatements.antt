-- The printed text of a file is the text of its statements.
use Rattle.std.proofs.Common.{◌≡◌, ◌≢◌, ℕ, Bool, true, false, List, [], ◌∷◌, ◌++◌, map, Some, None, refl, sym, ap}
use Rattle.std.proofs.Common.{subst, ◌∙◌, append_assoc, append-nil, not}
use Rattle.std.specs.Prelude.{Option, unwrap_or, slice_get, codes, decimal, is_some, option_map}
use Rattle.std.specs.List.{flat_map}
use Rattle.std.specs.Option.{option_map_or}
use Rattle.mp_io.specs.Devices.{Text}
use Rattle.mp_term.specs.declared.edit.Edit.{Edit}
use Rattle.mp_term.specs.declared.signature.OpDecl.{OpDecl}
use Rattle.mp_term.specs.Tree as term
use Rattle.mp_term.specs.Signature.{Sig, Kind}
use Rattle.mp_pattern.specs.TemplateTree.{Template}
use Rattle.mp_pattern.specs.CondTree as cond
use Rattle.mp_pattern.specs.Admission.{Rule}
use Rattle.mp_parser.specs.declared.limits.TheConstants.{MAX_OPEN}
use Rattle.mp_parser.specs.declared.token.Punct.TheVariants.{CloseSquare}
use Rattle.mp_parser.specs.Syntax.{Flag, Assoc, Comm, One, Listed, Statement, IsSyntaxOf, FitsStatement}
use Rattle.mp_parser.specs.Syntax.{AreStatements, StatementHasNames, StatementsHaveNames}
use Rattle.mp_syntax.specs.Printed as syntax
use Rattle.mp_syntax.specs.Printed.{if_text, plus_text, flag_text, member_text, index_text, replacement_text}
use Rattle.mp_syntax.specs.Printed.{change_text, changes_text, line_end, statement_text, statements_text, unplaced}
use Rattle.mp_syntax.proofs.Printed.{printed-again}
use Rattle.mp_text.specs.declared.file.EditSet.{EditSet}
use Rattle.mp_text.specs.Subject.{Subject}
use Rattle.mp_text.specs.File.{FileTree}
use Rattle.mp_print.specs.Printing.{text_if, separated, preceded, term_text, term_texts}
use Rattle.mp_print.specs.PrintedPattern.{pattern_text}
use Rattle.mp_print.specs.PrintedSignature.{op_text, head_text, kind_text}
use Rattle.mp_print.specs.PrintedEdits.{position_text, new_terms_text, edit_text, edits_text}
use Rattle.mp_text.specs.PrintedFile.{result_text, ending_text, rule_text, subject_text, edit_set_text, file_text}
use Rattle.mp_round_trip.specs.Spelled.{piece, term_spellings, template_spelling}
use Rattle.mp_round_trip.specs.Spelled.{cond_spelling, flag_if, sign_flags, op_flags, op_spelling, kind_spelling}
use Rattle.mp_round_trip.specs.Spelled.{rule_spelling, subject_spelling, index_piece, position_spelling}
use Rattle.mp_round_trip.specs.Spelled.{replacement_spelling, edit_spelling, edit_set_spelling, file_spelling}
use Rattle.mp_round_trip.proofs.Spelled.{separated-first, term_text-spelling, term_texts-spellings}
use Rattle.mp_round_trip.proofs.Spelled.{pattern_text-spelling, template_text-spelling, cond_text-spelling}

-- ---- statements

text_if-plus : (v : Bool) → text_if v (codes "+") ≡ plus_text v
text_if-plus true = refl
text_if-plus false = refl

text_if-flag : (v : Bool) (flag : Flag) (flags : List Flag) (last : Text)
    → text_if v (flag_text flag) ++ (flat_map flag_text flags ++ last)
    ≡ flat_map flag_text (flag_if v flag ++ flags) ++ last
text_if-flag true flag flags last = sym (append_assoc (flag_text flag) (flat_map flag_text flags) last)
text_if-flag false flag flags last = refl

sign-flags : (sign : Option Text) (last : Text)
    → text_if (is_some sign) (codes " infix ") ++ (unwrap_or sign [] ++ last)
    ≡ flat_map flag_text (sign_flags sign) ++ last
sign-flags None last = refl
sign-flags (Some sign) last = ap (λ l. codes " infix " ++ l) (sym (append_assoc sign [] last))

op_text-spelling : (d : OpDecl) → op_text d ≡ statement_text (op_spelling d)
op_text-spelling d =
    let last = sign_flags d.sign in
    let ones = flag_if d.one One ++ last in
    let comms = flag_if d.comm Comm ++ ones in
    let flags : text_if d.assoc (codes " assoc")
    ++ (text_if d.comm (codes " comm")
    ++ (text_if d.one (codes " one")
    ++ (text_if (is_some d.sign) (codes " infix ") ++ (unwrap_or d.sign [] ++ line_end))))
    ≡ flat_map flag_text (op_flags d) ++ line_end =
    ap (λ l. text_if d.assoc (codes " assoc")
    ++ (text_if d.comm (codes " comm") ++ (text_if d.one (codes " one") ++ l))) (sign-flags d.sign line_end)
    ∙ ap (λ l. text_if d.assoc (codes " assoc") ++ (text_if d.comm (codes " comm") ++ l))
    (text_if-flag d.one One last line_end)
    ∙ ap (λ l. text_if d.assoc (codes " assoc") ++ l) (text_if-flag d.comm Comm ones line_end)
    ∙ text_if-flag d.assoc Assoc comms line_end in
    λ i. codes "op " ++ (d.name ++ (codes " " ++ (decimal d.least ++ (text_if-plus (not d.fixed) i ++ flags i))))

head_text-named : (keyword name body : Text)
    → head_text keyword name ++ body ≡ keyword ++ (32 ∷ (name ++ (58 ∷ 32 ∷ body)))
head_text-named keyword name body = append_assoc keyword (32 ∷ (name ++ (58 ∷ 32 ∷ []))) body
    ∙ ap (λ l. keyword ++ (32 ∷ l)) (append_assoc name (58 ∷ 32 ∷ []) body)

preceded-members : (members : List Text) → preceded (codes " ") members ≡ flat_map member_text (map piece members)
preceded-members [] = refl
preceded-members (m ∷ members) = ap (λ l. 32 ∷ (m ++ l)) (preceded-members members)

kind_text-spelling : (k : Kind) → FitsStatement MAX_OPEN (kind_spelling k)
    → kind_text k ≡ statement_text (kind_spelling k)
kind_text-spelling k fits = head_text-named (codes "kind") k.name (separated (codes " ") k.members ++ line_end)
    ∙ ap (λ l. codes "kind " ++ (k.name ++ (58 ∷ (l ++ line_end)))) (members k.members fits)
  where
    members : (members : List Text) → map piece members ≢ []
        → codes " " ++ separated (codes " ") members ≡ flat_map member_text (map piece members)
    members [] some = absurd (some refl)
    members (m ∷ ms) some = ap (λ l. 32 ∷ (m ++ l)) (preceded-members ms)

ending_text-spelling : (sig : Sig) (o : Option cond.Cond)
    → ending_text sig o ≡ if_text (option_map (cond_spelling sig) o) ++ line_end
ending_text-spelling sig None = refl
ending_text-spelling sig (Some c) = ap (λ l. codes " if " ++ (l ++ line_end)) (cond_text-spelling sig c)

result_text-spelling : (sig : Sig) (o : Option Template)
    → result_text sig o ≡ syntax.template_text (option_map (template_spelling sig) o)
result_text-spelling sig None = refl
result_text-spelling sig (Some x) = ap (λ l. codes " -> " ++ l) (template_text-spelling sig x)

rule_text-spelling : (sig : Sig) (r : Rule) → rule_text sig r ≡ statement_text (rule_spelling sig r)
rule_text-spelling sig r =
    head_text-named (codes "rule") r.name
    (pattern_text sig r.pattern ++ (result_text sig r.template ++ ending_text sig r.condition))
    ∙ (λ i. codes "rule " ++ (r.name ++ (58 ∷ 32 ∷ (pattern_text-spelling sig r.pattern i
    ++ (result_text-spelling sig r.template i ++ ending_text-spelling sig r.condition i)))))

subject_text-spelling : (sig : Sig) (s : Subject) → subject_text sig s ≡ statement_text (subject_spelling sig s)
subject_text-spelling sig s = head_text-named (codes "subject") s.name (term_text sig s.term ++ line_end)
    ∙ ap (λ l. codes "subject " ++ (s.name ++ (58 ∷ 32 ∷ (l ++ line_end)))) (term_text-spelling sig s.term)

-- ---- edit statements

preceded-indexes : (is : List ℕ) → preceded (codes ".") (map decimal is) ≡ flat_map index_text (map index_piece is)
preceded-indexes [] = refl
preceded-indexes (i ∷ is) = ap (λ l. 46 ∷ (decimal i ++ l)) (preceded-indexes is)

position_text-spelling : (is : List ℕ) → position_text is ≡ syntax.position_text (position_spelling is)
position_text-spelling [] = refl
position_text-spelling (i ∷ is) = ap (λ l. decimal i ++ l) (preceded-indexes is)

term_texts-trees : (sig : Sig) (ts : List term.Tree) → map (term_text sig) ts ≡ term_texts sig (term.trees ts)
term_texts-trees sig [] = refl
term_texts-trees sig (t ∷ ts) = ap (λ l. term_text sig t ∷ l) (term_texts-trees sig ts)

listed_text-spelling : (sig : Sig) (ts : List term.Tree)
    → codes "[" ++ (separated (codes ", ") (map (term_text sig) ts) ++ codes "]")
    ≡ replacement_text (Listed (term_spellings sig (term.trees ts)))
listed_text-spelling sig ts =
    ap (λ l. codes "[" ++ (separated (codes ", ") l ++ codes "]"))
    (term_texts-trees sig ts ∙ term_texts-spellings sig (term.trees ts))
    ∙ ap (λ l. codes "[" ++ l) (separated-first (codes ", ") CloseSquare (term_spellings sig (term.trees ts)))

new_terms_text-spelling : (sig : Sig) (ts : List term.Tree)
    → new_terms_text sig ts ≡ replacement_text (replacement_spelling sig ts)
new_terms_text-spelling sig [] = listed_text-spelling sig []
new_terms_text-spelling sig (t ∷ []) = term_text-spelling sig t
new_terms_text-spelling sig (t ∷ u ∷ ts) = listed_text-spelling sig (t ∷ u ∷ ts)

edit_text-spelling : (sig : Sig) (e : Edit) → edit_text sig e ≡ change_text (edit_spelling sig e)
edit_text-spelling sig e =
    λ i. position_text-spelling e.position i ++ (codes " -> " ++ new_terms_text-spelling sig e.terms i)

preceded-changes : (sig : Sig) (es : List Edit)
    → preceded (codes ", ") (map (edit_text sig) es) ≡ changes_text (codes ", ") (map (edit_spelling sig) es)
preceded-changes sig [] = refl
preceded-changes sig (e ∷ es) = λ i. codes ", " ++ (edit_text-spelling sig e i ++ preceded-changes sig es i)

edits_text-spelling : (sig : Sig) (es : List Edit)
    → edits_text sig es ≡ changes_text [] (map (edit_spelling sig) es)
edits_text-spelling sig [] = refl
edits_text-spelling sig (e ∷ es) = λ i. edit_text-spelling sig e i ++ preceded-changes sig es i

edit_set_text-spelling : (sig : Sig) (ss : List Subject) (e : EditSet)
    → edit_set_text sig ss e ≡ statement_text (edit_set_spelling sig ss e)
edit_set_text-spelling sig ss e =
    let name = option_map_or (λ s. s.name) (slice_get ss e.subject) [] in
    head_text-named (codes "edit") name (edits_text sig e.edits ++ line_end)
    ∙ ap (λ l. codes "edit " ++ (name ++ (58 ∷ 32 ∷ (l ++ line_end)))) (edits_text-spelling sig e.edits)

-- ---- files

module _ {X : Type 0} (text : X → Text) (spelling : X → Statement)
    (each : (x : X) → StatementHasNames (spelling x) → FitsStatement MAX_OPEN (spelling x)
    → text x ≡ statement_text (spelling x)) where
  -- the texts of the items, and a text behind them
  texts-spellings : (xs : List X) (rest : List Statement) (last : Text) → StatementsHaveNames (map spelling xs ++ rest)
      → AreStatements MAX_OPEN (map spelling xs ++ rest)
      → (StatementsHaveNames rest → AreStatements MAX_OPEN rest → last ≡ statements_text rest)
      → flat_map text xs ++ last ≡ statements_text (map spelling xs ++ rest)
  texts-spellings [] rest last n h same = same n h
  texts-spellings (x ∷ xs) rest last n h same = append_assoc (text x) (flat_map text xs) last
      ∙ (λ i. each x n.0 h.0 i ++ texts-spellings xs rest last n.1 h.1 same i)

-- what is printed of a file is the text of its statements
pub file_text-spelling : (f : FileTree) → StatementsHaveNames (file_spelling f)
    → AreStatements MAX_OPEN (file_spelling f)
    → file_text f ≡ statements_text (file_spelling f)
file_text-spelling f n h =
    let edits = map (edit_set_spelling f.sig f.subjects) f.edits in
    let subjects = map (subject_spelling f.sig) f.subjects ++ edits in
    let rules = map (rule_spelling f.sig) f.rules ++ subjects in
    let kinds = map kind_spelling f.sig.kinds ++ rules in
    let last = flat_map (edit_set_text f.sig f.subjects) f.edits in
    let fourth = flat_map (subject_text f.sig) f.subjects ++ last in
    append_assoc (flat_map op_text f.sig.ops) (flat_map kind_text f.sig.kinds)
    (flat_map (rule_text f.sig) f.rules ++ fourth)
    ∙ texts-spellings op_text op_spelling (λ d names fits. op_text-spelling d) f.sig.ops kinds _ n h (λ n h.
    texts-spellings kind_text kind_spelling (λ k names fits. kind_text-spelling k fits) f.sig.kinds rules _ n h (λ n h.
    texts-spellings (rule_text f.sig) (rule_spelling f.sig)
    (λ r names fits. rule_text-spelling f.sig r) f.rules subjects fourth n h (λ n h.
    texts-spellings (subject_text f.sig) (subject_spelling f.sig)
    (λ s names fits. subject_text-spelling f.sig s) f.subjects edits last n h (λ n h.
    sym (append-nil last)
    ∙ texts-spellings (edit_set_text f.sig f.subjects) (edit_set_spelling f.sig f.subjects)
    (λ e names fits. edit_set_text-spelling f.sig f.subjects e) f.edits [] []
    (subst StatementsHaveNames (sym (append-nil edits)) n)
    (subst (AreStatements MAX_OPEN) (sym (append-nil edits)) h)
    (λ n h. refl)
    ∙ ap statements_text (append-nil edits)))))

-- ---- the printed file is read

-- what is printed of a file is read as the statements of the file, apart from their places
pub file-again : (f : FileTree) → StatementsHaveNames (file_spelling f) → AreStatements MAX_OPEN (file_spelling f)
    → (read : List Statement) × IsSyntaxOf (file_text f) read × (map unplaced read ≡ map unplaced (file_spelling f))
file-again f names fits =
    let r = printed-again (file_spelling f) names fits in
    (r.0, subst (λ l. IsSyntaxOf l r.0) (sym (file_text-spelling f names fits)) r.1, r.2)
