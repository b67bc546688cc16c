-- What the machine reads is spelled by the tokens.
use Rattle.std.proofs.Common.{◌≡◌, ℕ, Bool, true, false, cond, List, [], ◌∷◌, ◌++◌, Option, Some, None, Result, Ok}
use Rattle.std.proofs.Common.{refl, sym, ap, subst, ◌∙◌, append_assoc, append-nil}
use Rattle.std.proofs.lemmas.List.{map_push}
use Rattle.std.specs.Prelude.{◌&&◌, codes}
use Rattle.std.specs.List.{flat_map}
use Rattle.mp_parser.specs.declared.token.Punct.TheVariants.{Open, Close, Comma, Semicolon, Colon, Dollar, OpenBrace}
use Rattle.mp_parser.specs.declared.token.Punct.TheVariants.{CloseBrace, Dot, OpenSquare, CloseSquare}
use Rattle.mp_parser.specs.declared.fault.Fault.{Fault}
use Rattle.mp_parser.specs.declared.fault.FaultKind.TheVariants.{Syntax}
use Rattle.mp_parser.specs.Tokens.{Word, Sign, Punctuation, End, Placed, Arrow}
use Rattle.mp_parser.specs.Syntax.{Spot, Wildcard, Tree, Symbol, Wild, Variable, trees, Flag, Assoc, Comm, One}
use Rattle.mp_parser.specs.Syntax.{Infixed, Statement, Expected, Said, Stands, Matches, AllMatch, spell, spell_first}
use Rattle.mp_parser.specs.Syntax.{spell_others, spell_plus, spell_flag, spell_statement, spell_file, spelled_word}
use Rattle.mp_parser.specs.Syntax.{spelled_wildcard, spelled_sign, another, fixed_word, comma, colon, closing}
use Rattle.mp_parser.specs.Syntax.{semicolon, Position, Root, Path, Change, arrow, dot, spell_template, spell_index}
use Rattle.mp_parser.specs.Syntax.{spell_change, spell_changes, spell_position}
use Rattle.mp_parser.specs.Syntax as syntax
use Rattle.mp_parser.specs.Machine.{run_in, step_in, Role, OfRule, OfSubject, heading, Frame, Arguments, Bracket}
use Rattle.mp_parser.specs.Machine.{Operands, Default, Operand, Second, Square, with_default, is_dot, Declared}
use Rattle.mp_parser.specs.Machine.{declared, with_flag, Within, InStatement, Alone, InCondition, ConditionAlone}
use Rattle.mp_parser.specs.Machine.{State, Top, AfterOp, AfterOpName, AfterLeast, AfterFlags, AfterInfix, AfterKind}
use Rattle.mp_parser.specs.Machine.{AfterKindName, BeforeMember, AfterMember, AfterRole, AfterName, BeforeExpr}
use Rattle.mp_parser.specs.Machine.{AfterWord, AfterOpen, AfterWildcard, AfterExpr, AfterDollar, BeforeLiteral}
use Rattle.mp_parser.specs.Machine.{BeforeBody, BeforeOperand, BeforeName, BehindName, AfterAmount, AfterSense}
use Rattle.mp_parser.specs.Machine.{AfterLiteral, Single, SingleExpr, Step, Go, Emit, Refuse, Finish, Ends, Parsed}
use Rattle.mp_parser.specs.Machine.{parsed, is_punct, is_end, word_of, wildcard_at, is_number, keyword, spot, refuse}
use Rattle.mp_parser.specs.Machine.{on_word, step_number, step_flag, step_flags, step_open, step_expr, step_behind}
use Rattle.mp_parser.specs.Machine.{step_role, step_wildcard, after_step, is_arrow, Listing, Edited, InTemplate}
use Rattle.mp_parser.specs.Machine.{InChange, AfterBrace, AfterCount, BeforeBrace, AfterEdit, AfterSubject}
use Rattle.mp_parser.specs.Machine.{BeforeChange, AfterPosition, BeforeIndex, AfterArrow, AfterSquare, AfterChange}
use Rattle.mp_parser.specs.Machine.{on_number, step_rule, change, step_changes, step_listed, step_brace, step_further}
use Rattle.mp_parser.specs.Partial.{spell_before, spell_declared, so_far, spell_rule, spell_before_comma}
use Rattle.mp_parser.specs.Partial.{spell_edited}
use Rattle.mp_parser.proofs.Trees.{spell-with_default}
use Rattle.mp_parser.proofs.Adds.{IsGood, AreGood, expected_token, punct-is, word-is, wildcard-is, end-is}
use Rattle.mp_parser.proofs.Adds.{spell_single, Adds, adds-punct, adds-sign, adds-fixed_word, adds-word}
use Rattle.mp_parser.proofs.Adds.{adds-any_sign, adds-fixed, adds-open, flat_map-push, adds-token, arrow-is}
use Rattle.mp_parser.proofs.ConditionAdds.{adds-operand, adds-second, adds-literal, adds-body, adds-before_operand}
use Rattle.mp_parser.proofs.ConditionAdds.{adds-name, adds-behind_name, adds-amount_behind, adds-second_amount}
use Rattle.mp_parser.proofs.ConditionAdds.{adds-literal_behind}
use Rattle.mp_parser.specs.declared.token.Punct.{Punct}

adds-keyword : (t : Placed) (w : List ℕ) → t.token ≡ Word w → Adds (keyword w) [] t
adds-keyword t w h =
    adds-fixed (codes "op") t w _ _ [] h (λ is. (fixed_word (codes "op"), tt, is, refl))
    (adds-fixed (codes "kind") t w _ _ [] h (λ is. (fixed_word (codes "kind"), tt, is, refl))
    (adds-fixed (codes "rule") t w _ _ [] h (λ is. (fixed_word (codes "rule"), tt, is, refl))
    (adds-fixed (codes "subject") t w _ _ [] h (λ is. (fixed_word (codes "subject"), tt, is, refl))
    (adds-fixed (codes "edit") t w _ (Refuse Syntax) [] h (λ is. (fixed_word (codes "edit"), tt, is, refl)) tt))))

-- expressions of which e is the last
spell_first-trees : (between : Expected) (ending : Punct) (args : List Tree) (e : Tree)
    → spell_first between ending (trees (args ++ e ∷ []))
    ≡ flat_map (spell_before between) args ++ (spell e ++ Said (Punctuation ending) ∷ [])
spell_first-trees between ending [] e = refl
spell_first-trees between ending (a ∷ args) e = ap (λ l. spell a ++ l) (others args) ∙ simp append_assoc
  where
    others : (args : List Tree) → spell_others between ending (trees (args ++ e ∷ []))
        ≡ between ∷ (flat_map (spell_before between) args ++ (spell e ++ Said (Punctuation ending) ∷ []))
    others [] = refl
    others (a ∷ args) = ap (λ l. between ∷ spell a ++ l) (others args) ∙ simp append_assoc

-- ---- declarations

-- one flag more
spell_declared-with_flag : (d : Declared) (f : Flag) → spell_declared (with_flag d f) ≡ spell_declared d ++ spell_flag f
spell_declared-with_flag d f =
    ap (λ l. fixed_word (codes "op") ∷ spelled_word d.name ∷ spelled_word d.least ∷ (spell_plus d.more ++ l))
    (flat_map-push spell_flag d.flags f)
    ∙ ap (λ l. fixed_word (codes "op") ∷ spelled_word d.name ∷ spelled_word d.least ∷ l)
    (sym (append_assoc (spell_plus d.more) (flat_map spell_flag d.flags) (spell_flag f)))

adds-flag : (d : Declared) (t : Placed) (w : List ℕ) → t.token ≡ Word w → Adds (step_flag d w) (spell_declared d) t
adds-flag d t w h =
    adds-fixed (codes "assoc") t w _ _ (spell_declared d) h
    (λ is. (fixed_word (codes "assoc"), tt, is, spell_declared-with_flag d Assoc))
    (adds-fixed (codes "comm") t w _ _ (spell_declared d) h
    (λ is. (fixed_word (codes "comm"), tt, is, spell_declared-with_flag d Comm))
    (adds-fixed (codes "one") t w _ _ (spell_declared d) h
    (λ is. (fixed_word (codes "one"), tt, is, spell_declared-with_flag d One))
    (adds-fixed (codes "infix") t w _ (Refuse Syntax) (spell_declared d) h
    (λ is. (fixed_word (codes "infix"), tt, is, refl)) tt)))

adds-flags : (d : Declared) (t : Placed) → Adds (step_flags d t) (spell_declared d) t
adds-flags d t =
    adds-punct Semicolon t _ _ (spell_declared d) (λ is. (semicolon, tt, is, simp append_assoc))
    (adds-word (λ w. step_flag d w.text) t (spell_declared d) (λ w is. adds-flag d t w is.0))

adds-member : (name : Spot) (members : List Spot) (t : Placed)
    → Adds (on_word t (λ w. Go (AfterMember name (members ++ w ∷ [])))) (so_far (BeforeMember name members)) t
adds-member name members t = adds-word (λ w. Go (AfterMember name (members ++ w ∷ []))) t
    (so_far (BeforeMember name members))
    (λ w is. (
      spelled_word (spot w t.place),
      tt,
      is,
      ap (λ l. fixed_word (codes "kind") ∷ spelled_word name ∷ Said (Punctuation Colon) ∷ l)
          (map_push spelled_word members (spot w t.place)),
    ))

-- ---- expressions

-- behind the pattern of a rule, or behind its template
adds-rule : (name : Spot) (e : Tree) (template : Option Tree) (before : List Expected) (t : Placed)
    → before ≡ spell_rule name e ++ spell_template template → Adds (step_rule name e template t.token) before t
adds-rule name e template before t is =
    adds-punct Semicolon t _ _ before (λ k. (semicolon, tt, k, sym (with_last semicolon)))
    (adds-fixed_word (codes "if") t _ (refuse t.token) before
    (λ k. (fixed_word (codes "if"), tt, k, append-nil _ ∙ sym (with_last (fixed_word (codes "if"))))) tt)
  where
    with_last : (m : Expected) → before ++ m ∷ [] ≡ spell_rule name e ++ (spell_template template ++ m ∷ [])
    with_last m =
        ap (λ l. l ++ m ∷ []) is ∙ append_assoc (spell_rule name e) (spell_template template) (m ∷ [])

-- changes of which c is the last
spell_changes-push : (cs : List Change) (c : Change)
    → spell_changes [] (cs ++ c ∷ []) ≡ flat_map spell_before_comma cs ++ spell_change c
spell_changes-push [] c = append-nil (spell_change c)
spell_changes-push (d ∷ cs) c = ap (λ l. spell_change d ++ l) (others cs) ∙ simp append_assoc
  where
    others : (cs : List Change) → spell_changes (comma ∷ []) (cs ++ c ∷ [])
        ≡ comma ∷ (flat_map spell_before_comma cs ++ spell_change c)
    others [] = ap (λ l. comma ∷ l) (append-nil (spell_change c))
    others (d ∷ cs) = ap (λ l. comma ∷ (spell_change d ++ l)) (others cs) ∙ simp append_assoc

-- behind a change
adds-changes : (d : Edited) (c : Change) (before : List Expected) (t : Placed)
    → before ≡ spell_edited d ++ spell_change c → Adds (step_changes d c t.token) before t
adds-changes d c before t is =
    adds-punct Comma t _ _ before (λ k. (
      comma,
      tt,
      k,
      ap (λ l. fixed_word (codes "edit") ∷ spelled_word d.subject ∷ Said (Punctuation Colon) ∷ l)
          (flat_map-push spell_before_comma d.changes c)
          ∙ sym (with_last comma),
    ))
    (adds-punct Semicolon t _ (refuse t.token) before (λ k. (
      semicolon,
      tt,
      k,
      ap (λ l. fixed_word (codes "edit") ∷ spelled_word d.subject ∷ Said (Punctuation Colon) ∷ (l ++ semicolon ∷ []))
          (spell_changes-push d.changes c)
          ∙ ap (λ l. fixed_word (codes "edit") ∷ spelled_word d.subject ∷ Said (Punctuation Colon) ∷ l)
          (append_assoc (flat_map spell_before_comma d.changes) (spell_change c) (semicolon ∷ []))
          ∙ sym (with_last semicolon),
    )) tt)
  where
    with_last : (m : Expected) → before ++ m ∷ [] ≡ spell_edited d ++ (spell_change c ++ m ∷ [])
    with_last m = ap (λ l. l ++ m ∷ []) is ∙ append_assoc (spell_edited d) (spell_change c) (m ∷ [])

-- what stands before a list, and the list with its last expression
listed-parts : (a b es e : List Expected) (m o n : Expected)
    → a ++ (b ++ m ∷ o ∷ (es ++ (e ++ n ∷ []))) ≡ ((a ++ (b ++ m ∷ [])) ++ (o ∷ es ++ e)) ++ n ∷ []
listed-parts a b es e m o n = simp append_assoc

-- behind the last expression of a list
adds-listed : (x : Within) (k : List Frame) (es : List Tree) (e : Tree) (t : Placed)
    → Adds (step_listed x k (es ++ e ∷ []) t.token) (so_far (AfterExpr x (Listing es ∷ k) e)) t
adds-listed (InChange d p) [] es e t =
    adds-punct CloseSquare t _ (refuse t.token) (so_far (AfterExpr (InChange d p) (Listing es ∷ []) e))
    (λ is. (
      Said (Punctuation CloseSquare),
      tt,
      is,
      ap (λ l. spell_edited d ++ (spell_position p ++ arrow ∷ Said (Punctuation OpenSquare) ∷ l))
          (spell_first-trees comma CloseSquare es e)
          ∙ listed-parts (spell_edited d) (spell_position p) (flat_map (spell_before comma) es) (spell e) arrow
          (Said (Punctuation OpenSquare)) (Said (Punctuation CloseSquare)),
    )) tt
adds-listed (InChange d p) (_ ∷ k) es e t = tt
adds-listed _ k es e t = tt

-- a number
adds-number : (t : Placed) (next : Spot → State) (before : List Expected)
    → ((w : List ℕ) → so_far (next (spot w t.place)) ≡ before ++ spelled_word (spot w t.place) ∷ [])
    → Adds (on_number t next) before t
adds-number t next before h = adds-word (λ w. step_number next w) t before (λ w is. go w is (is_number w))
  where
    go : (w : List ℕ) → Matches t (spelled_word (spot w t.place)) → (b : Bool)
        → Adds (cond b (Go (next (spot w t.place))) (Refuse Syntax)) before t
    go w is true = (spelled_word (spot w t.place), tt, is, h w)
    go w is false = tt

-- the closing brace of a count
adds-brace : (x : Within) (k : List Frame) (w : Wildcard) (count : Spot) (more : Bool) (before : List Expected)
    (t : Placed) → before ≡ so_far (BeforeBrace x k w count more) → Adds (step_brace x k w count more t.token) before t
adds-brace x k w count more before t is = adds-punct CloseBrace t _ (refuse t.token) before
    (λ c. (Said (Punctuation CloseBrace), tt, c, rw is (simp append_assoc))) tt

adds-behind : (x : Within) (k : List Frame) (e : Tree) (t : Placed)
    → Adds (step_behind x k e t) (so_far (AfterExpr x k e)) t
adds-behind (InStatement h) [] e t = at h.role
  where
    at : (role : Role) → Adds (step_role role h.name e t.token)
        (so_far (AfterExpr (InStatement (heading role h.name)) [] e)) t
    at OfRule =
        adds-token is_arrow Arrow arrow-is t (Go (BeforeExpr (InTemplate h.name e) [])) _ (spell_rule h.name e)
        (λ is. (arrow, tt, is, append-nil _))
        (adds-rule h.name e None (spell_rule h.name e) t (sym (append-nil (spell_rule h.name e))))
    at OfSubject = adds-punct Semicolon t _ (refuse t.token)
        (so_far (AfterExpr (InStatement (heading OfSubject h.name)) [] e)) (λ is. (semicolon, tt, is, refl)) tt
adds-behind Alone [] e t = go (is_end t.token) refl
  where
    go : (v : Bool) → is_end t.token ≡ v → Adds (cond v (Ends (SingleExpr e)) (refuse t.token)) (spell e) t
    go true is = (refl, end-is t.token is)
    go false is = tt
adds-behind (InTemplate name pattern) [] e t =
    adds-rule name pattern (Some e) (so_far (AfterExpr (InTemplate name pattern) [] e)) t
    (append_assoc (spell_rule name pattern) (arrow ∷ []) (spell e))
adds-behind (InCondition name pattern template) [] e t = tt
adds-behind ConditionAlone [] e t = tt
adds-behind (InChange d p) [] e t =
    adds-changes d (change p (syntax.Single e)) (so_far (AfterExpr (InChange d p) [] e)) t (simp append_assoc)
adds-behind x (Arguments name args ∷ k) e t =
    adds-punct Comma t _ _ (so_far (AfterExpr x (Arguments name args ∷ k) e))
    (λ is. (comma, tt, is, rw (flat_map-push (spell_before comma) args e) (simp append_assoc)))
    (adds-punct Close t _ (refuse t.token) (so_far (AfterExpr x (Arguments name args ∷ k) e))
    (λ is. (closing, tt, is, rw (spell_first-trees comma Close args e) (simp append_assoc))) tt)
adds-behind x (Bracket place ∷ k) e t =
    adds-any_sign (λ sign. Go (BeforeExpr x (Operands place sign e [] ∷ k))) t
    (so_far (AfterExpr x (Bracket place ∷ k) e))
    (λ s is. (spelled_sign (spot s t.place), tt, is, simp append_assoc))
adds-behind x (Operands place sign first others ∷ k) e t =
    adds-sign sign.text t _ _ (so_far (AfterExpr x (Operands place sign first others ∷ k) e))
    (λ is. (another sign, tt, is, rw (flat_map-push (spell_before (another sign)) others e) (simp append_assoc)))
    (adds-punct Close t _ (refuse t.token) (so_far (AfterExpr x (Operands place sign first others ∷ k) e))
    (λ is. (closing, tt, is, rw (spell_first-trees (another sign) Close others e) (simp append_assoc))) tt)
adds-behind x (Default w ∷ k) e t = subst (λ l. Adds (step_behind x k (with_default w e) t) l t)
    (rw (spell-with_default w e) (simp append_assoc)) (adds-behind x k (with_default w e) t)
adds-behind x (Operand s lead ∷ k) e t = adds-operand x k s lead e t
adds-behind x (Second s r d ∷ k) e t = adds-second x k s r d e t
adds-behind x (Square s ∷ k) e t = tt
adds-behind x (Listing es ∷ k) e t =
    adds-punct Comma t _ _ (so_far (AfterExpr x (Listing es ∷ k) e))
    (λ is. (comma, tt, is, rw (flat_map-push (spell_before comma) es e) (simp append_assoc)))
    (adds-listed x k es e t)

-- ---- whole runs

abbrev pub read_ok : Parsed → Result Parsed Fault
read_ok p = Ok p

pub ok-is : (a b : Parsed) → read_ok a ≡ read_ok b → a ≡ b
ok-is a b e = cc

-- the spelling of an expression or a condition, where there is one
abbrev pub spell_alone : Option Single → List Expected
spell_alone None = []
spell_alone (Some s) = spell_single s

-- the spelling of what is read
abbrev pub spell_parsed : Parsed → List Expected
spell_parsed p = spell_file p.statements ++ spell_alone p.single

-- the tokens up to the end spell what is read and isn't before them
pub record Reads (ts : List Placed) (before : List Expected) (p : Parsed) : Type 0 where
  pub front : List Placed
  pub last : Placed
  pub back : List Placed
  pub others : List Expected
  pub parts : ts ≡ front ++ last ∷ back
  pub ends : last.token ≡ End
  pub good : AreGood front
  pub match : AllMatch front others
  pub spelled : spell_parsed p ≡ before ++ others

module _ (limit : ℕ) where
  -- ---- expressions

  adds-expr : (x : Within) (k : List Frame) (t : Placed)
      → Adds (step_expr limit x k t (word_of t.token)) (so_far (BeforeExpr x k)) t
  adds-expr x k t = go (word_of t.token) refl
    where
      wildcard : (o : Option Wildcard) → wildcard_at t.token t.place ≡ o
          → Adds (step_wildcard x k t o) (so_far (BeforeExpr x k)) t
      wildcard (Some w) f = (spelled_wildcard w, tt, wildcard-is t.token t.place w f, simp append_assoc)
      wildcard None f = adds-punct Dollar t _ (refuse t.token) (so_far (BeforeExpr x k))
          (λ is. (Stands (Punctuation Dollar) t.place, tt, (is, refl), simp append_assoc)) tt

      bracket : Matches t (Said (Punctuation Open))
          → Adds (step_open limit k (BeforeExpr x (Bracket t.place ∷ k))) (so_far (BeforeExpr x k)) t
      bracket is = adds-open limit k (BeforeExpr x (Bracket t.place ∷ k)) (so_far (BeforeExpr x k)) t
          (Stands (Punctuation Open) t.place, tt, (is, refl), simp append_assoc)

      go : (o : Option (List ℕ)) → word_of t.token ≡ o → Adds (step_expr limit x k t o) (so_far (BeforeExpr x k)) t
      go (Some w) e = (spelled_word (spot w t.place), tt, (word-is t.token w e, refl), simp append_assoc)
      go None e = adds-punct Open t _ _ (so_far (BeforeExpr x k)) bracket (wildcard (wildcard_at t.token t.place) refl)

  -- ---- all states

  pub adds : (at : State) (t : Placed) → Adds (step_in limit at t) (so_far at) t
  adds Top t = go (is_end t.token) refl
    where
      go : (v : Bool) → is_end t.token ≡ v → Adds (cond v Finish (on_word t (λ w. keyword w.text))) [] t
      go true e = (refl, end-is t.token e)
      go false e = adds-word (λ w. keyword w.text) t [] (λ w is. adds-keyword t w is.0)
  adds AfterOp t = adds-word (λ w. Go (AfterOpName w)) t (so_far AfterOp)
      (λ w is. (spelled_word (spot w t.place), tt, is, refl))
  adds (AfterOpName name) t = adds-number t (λ w. AfterLeast name w) (so_far (AfterOpName name)) (λ w. refl)
  adds (AfterLeast name least) t = adds-sign (codes "+") t _ _ (so_far (AfterLeast name least))
      (λ is. (Said (Sign (codes "+")), tt, is, refl)) (adds-flags (declared name least false []) t)
  adds (AfterFlags d) t = adds-flags d t
  adds (AfterInfix d) t = adds-any_sign (λ sign. Go (AfterFlags (with_flag d (Infixed sign)))) t (so_far (AfterInfix d))
      (λ s is. (
        spelled_sign (spot s t.place),
        tt,
        is,
        spell_declared-with_flag d (Infixed (spot s t.place))
            ∙ sym (append_assoc (spell_declared d) (fixed_word (codes "infix") ∷ []) _),
      ))
  adds AfterKind t = adds-word (λ w. Go (AfterKindName w)) t (so_far AfterKind)
      (λ w is. (spelled_word (spot w t.place), tt, is, refl))
  adds (AfterKindName name) t = adds-punct Colon t _ (refuse t.token) (so_far (AfterKindName name))
      (λ is. (Said (Punctuation Colon), tt, is, refl)) tt
  adds (BeforeMember name members) t = adds-member name members t
  adds (AfterMember name members) t = adds-punct Semicolon t _ _ (so_far (AfterMember name members))
      (λ is. (semicolon, tt, is, refl)) (adds-member name members t)
  adds (AfterRole role) t =
      adds-word (λ w. Go (AfterName (record { role = role; name = w }))) t (so_far (AfterRole role))
      (λ w is. (spelled_word (spot w t.place), tt, is, refl))
  adds (AfterName h) t = adds-punct Colon t _ (refuse t.token) (so_far (AfterName h))
      (λ is. (Said (Punctuation Colon), tt, is, refl)) tt
  adds (BeforeExpr x k) t = adds-expr x k t
  adds (AfterWord x k w) t =
      adds-punct Open t _ _ (so_far (AfterWord x k w))
      (λ is. adds-open limit k (AfterOpen x k w) (so_far (AfterWord x k w)) t
      (Said (Punctuation Open), tt, is, simp append_assoc)) (adds-behind x k (Symbol w) t)
  adds (AfterOpen x k w) t = adds-punct Close t _ _ (so_far (AfterOpen x k w))
      (λ is. (closing, tt, is, simp append_assoc)) (adds-expr x (Arguments w [] ∷ k) t)
  adds (AfterWildcard x k w) t = adds-dot Colon (Go (BeforeExpr x (Default w ∷ k))) _
      (λ is. (colon, tt, is, simp append_assoc))
      (adds-dot OpenBrace (Go (AfterBrace x k w)) _ (λ is. (Said (Punctuation OpenBrace), tt, is, simp append_assoc))
      (adds-behind x k (Wild w) t))
    where
      adds-dot : (p : Punct) (a b : Step)
          → (Matches t (Said (Punctuation p)) → Adds a (so_far (AfterWildcard x k w)) t)
          → Adds b (so_far (AfterWildcard x k w)) t
          → Adds (cond (is_punct p t.token && is_dot w) a b) (so_far (AfterWildcard x k w)) t
      adds-dot p a b f g = go (is_punct p t.token) refl (is_dot w)
        where
          go : (v : Bool) → is_punct p t.token ≡ v → (d : Bool)
              → Adds (cond (v && d) a b) (so_far (AfterWildcard x k w)) t
          go true e true = f (punct-is p t.token e)
          go true e false = g
          go false e d = g
  adds (AfterExpr x k e) t = adds-behind x k e t
  adds (AfterDollar x k place) t = adds-word (λ w. Go (AfterExpr x k (Variable (spot w.text place)))) t
      (so_far (AfterDollar x k place)) (λ w is. (fixed_word w, tt, is.0, simp append_assoc))
  adds (BeforeLiteral x k v) t = adds-literal limit x k v t
  adds (BeforeBody x k s) t = adds-body limit x k s t
  adds (BeforeOperand x k s lead) t = adds-before_operand limit x k s lead t
  adds (BeforeName x k s p e) t = adds-name limit x k s p e t
  adds (BehindName x k s p e w) t = adds-behind_name limit x k s p e w t
  adds (AfterAmount x k s a) t = adds-amount_behind limit x k s a t
  adds (AfterSense x k s a sense) t = adds-second_amount limit x k s a sense t
  adds (AfterLiteral x k v l) t = adds-literal_behind limit x k v l t
  adds (AfterBrace x k w) t = adds-number t (λ count. AfterCount x k w count) (so_far (AfterBrace x k w))
      (λ count. simp append_assoc)
  adds (AfterCount x k w count) t = adds-sign (codes "+") t _ _ (so_far (AfterCount x k w count))
      (λ is. (Said (Sign (codes "+")), tt, is, simp append_assoc))
      (adds-brace x k w count false (so_far (AfterCount x k w count)) t refl)
  adds (BeforeBrace x k w count more) t = adds-brace x k w count more (so_far (BeforeBrace x k w count more)) t refl
  adds AfterEdit t = adds-word (λ w. Go (AfterSubject w)) t (so_far AfterEdit)
      (λ w is. (spelled_word (spot w t.place), tt, is, refl))
  adds (AfterSubject subject) t = adds-punct Colon t _ (refuse t.token) (so_far (AfterSubject subject))
      (λ is. (Said (Punctuation Colon), tt, is, refl)) tt
  adds (BeforeChange d) t = adds-punct Dot t (Go (AfterPosition d (Root t.place))) _ (so_far (BeforeChange d))
      (λ is. (Stands (Punctuation Dot) t.place, tt, (is, refl), refl))
      (adds-number t (λ w. AfterPosition d (Path w [])) (so_far (BeforeChange d)) (λ w. refl))
  adds (AfterPosition d p) t = adds-token is_arrow Arrow arrow-is t (Go (AfterArrow d p)) _ (so_far (AfterPosition d p))
      (λ is. (arrow, tt, is, simp append_assoc)) (further p)
    where
      further : (p : Position) → Adds (step_further d p t.token) (so_far (AfterPosition d p)) t
      further (Root place) = tt
      further (Path first others) =
          adds-punct Dot t (Go (BeforeIndex d first others)) (refuse t.token)
          (so_far (AfterPosition d (Path first others)))
          (λ is. (dot, tt, is, simp append_assoc)) tt
  adds (BeforeIndex d first others) t = adds-number t (λ w. AfterPosition d (Path first (others ++ w ∷ [])))
      (so_far (BeforeIndex d first others))
      (λ w. rw (flat_map-push spell_index others (spot w t.place)) (simp append_assoc))
  adds (AfterArrow d p) t = adds-punct OpenSquare t _ _ (so_far (AfterArrow d p))
      (λ is. adds-open limit [] (AfterSquare d p) (so_far (AfterArrow d p)) t
      (Said (Punctuation OpenSquare), tt, is, refl))
      (subst (λ l. Adds (step_expr limit (InChange d p) [] t (word_of t.token)) l t)
      (append-nil (so_far (AfterArrow d p)))
      (adds-expr (InChange d p) [] t))
  adds (AfterSquare d p) t = adds-punct CloseSquare t _ _ (so_far (AfterSquare d p))
      (λ is. (Said (Punctuation CloseSquare), tt, is, simp append_assoc)) (adds-expr (InChange d p) (Listing [] ∷ []) t)
  adds (AfterChange d c) t = adds-changes d c (so_far (AfterChange d c)) t refl

  -- ---- whole runs

  pub run-found : (ts : List Placed) (done : List Statement) (at : State) (p : Parsed) → run_in limit done at ts ≡ Ok p
      → Reads ts (spell_file done ++ so_far at) p
  run-found [] done at p e = absurd cc
  run-found (t ∷ ts) done at p e = go (step_in limit at t) (adds at t) e (run-found ts)
    where
      token : (m : Expected) → IsGood (expected_token m) → Matches t m → IsGood t.token
      token (Said k) h is = subst IsGood (sym is) h
      token (Stands k place) h is = subst IsGood (sym is.0) h

      one : (before after : List Expected) (m : Expected) → IsGood (expected_token m) → Matches t m
          → after ≡ before ++ m ∷ [] → Reads ts after p → Reads (t ∷ ts) before p
      one before after m h is e r = record {
        front = t ∷ r.front;
        last = r.last;
        back = r.back;
        others = m ∷ r.others;
        parts = ap (λ l. t ∷ l) r.parts;
        ends = r.ends;
        good = (token m h is, r.good);
        match = (is, r.match);
        spelled = r.spelled ∙ ap (λ l. l ++ r.others) e ∙ append_assoc before (m ∷ []) r.others;
      }

      last : (o : Option Single) (spelled : List Expected) → so_far at ≡ spelled → t.token ≡ End
          → read_ok p ≡ read_ok (parsed done o) → spell_alone o ≡ spelled
          → Reads (t ∷ ts) (spell_file done ++ so_far at) p
      last o spelled e ends ok f = record {
        front = [];
        last = t;
        back = ts;
        others = [];
        parts = refl;
        ends = ends;
        good = tt;
        match = tt;
        spelled = ap spell_parsed (ok-is p (parsed done o) ok) ∙ ap (λ l. spell_file done ++ l) (f ∙ sym e)
            ∙ sym (append-nil _);
      }

      go : (s : Step) → Adds s (so_far at) t → after_step done t.place (λ d a. run_in limit d a ts) s ≡ Ok p
          → ((d : List Statement) (a : State) (q : Parsed) → run_in limit d a ts ≡ Ok q
          → Reads ts (spell_file d ++ so_far a) q)
          → Reads (t ∷ ts) (spell_file done ++ so_far at) p
      go (Go a) h e ih =
          one _ _ h.0 h.1 h.2 (ap (λ l. spell_file done ++ l) h.3 ∙ sym (append_assoc (spell_file done) (so_far at) _))
          (ih done a p e)
      go (Emit s) h e ih = one _ _ h.0 h.1 h.2
          (ap (λ l. l ++ []) (flat_map-push spell_statement done s) ∙ append-nil _ ∙ ap (λ l. spell_file done ++ l) h.3
          ∙ sym (append_assoc (spell_file done) (so_far at) _)) (ih (done ++ s ∷ []) Top p e)
      go (Refuse kind) h e ih = absurd cc
      go Finish h e ih = last None [] h.0 h.1 (sym e) refl
      go (Ends x) h e ih = last (Some x) (spell_single x) h.0 h.1 (sym e) refl
