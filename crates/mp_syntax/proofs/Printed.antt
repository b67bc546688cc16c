-- What is printed of statements is read again as those statements.
use Rattle.std.proofs.Common.{◌≡◌, ◌≢◌, ℕ, ◌+◌, Bool, true, false, cond, List, [], ◌∷◌, ◌++◌, map, refl, sym, ap}
use Rattle.std.proofs.Common.{subst, ◌∙◌, arith, append_assoc, append-nil, Option, Some, None}
use Rattle.std.specs.Prelude.{codes}
use Rattle.std.specs.List.{flat_map, prefix_len}
use Rattle.mp_parser.specs.declared.limits.TheConstants.{MAX_OPEN}
use Rattle.mp_parser.specs.declared.place.Place.{Place}
use Rattle.mp_parser.specs.declared.token.Punct.TheVariants.{Colon}
use Rattle.mp_parser.specs.Tokens.{Punctuation, is_sign_byte, after_byte, first_place}
use Rattle.mp_parser.specs.Lexing.{lexemes}
use Rattle.mp_parser.specs.Syntax.{Spot, Tree, Flag, Assoc, Comm, One, Infixed, Statement, OpOf, KindOf, RuleOf}
use Rattle.mp_parser.specs.Syntax.{SubjectOf, Condition, Expected, Said, spelled_word, spelled_sign, fixed_word}
use Rattle.mp_parser.specs.Syntax.{colon, semicolon, spell, spell_named, spell_if, spell_plus, spell_flag}
use Rattle.mp_parser.specs.Syntax.{spell_statement, spell_file, spell_condition, Fits, FitsCondition, FitsStatement}
use Rattle.mp_parser.specs.Syntax.{AreStatements, IsName, HasNames, HaveSigns, AreNames, StatementHasNames}
use Rattle.mp_parser.specs.Syntax.{StatementsHaveNames, ConditionHasNames, IsExprOf, IsConditionOf, IsSyntaxOf}
use Rattle.mp_parser.specs.Syntax.{Change, EditOf, arrow, spell_template, spell_changes, FitsTemplate}
use Rattle.mp_parser.specs.Syntax.{TemplateHasNames}
use Rattle.mp_parser.specs.Machine.{Top, BeforeExpr, BeforeLiteral, Alone, ConditionAlone, no_level, run}
use Rattle.mp_syntax.specs.Printed.{template_text, changes_text, unplaced_template, tree_text, plus_text, flag_text}
use Rattle.mp_syntax.specs.Printed.{member_text, line_end, named_text, if_text, condition_text, statement_text}
use Rattle.mp_syntax.specs.Printed.{statements_text, unplaced_spot, unplaced_tree, unplaced_condition, unplaced_flag}
use Rattle.mp_syntax.specs.Printed.{unplaced}
use Rattle.mp_parser.proofs.Fuel.{lexemes-step}
use Rattle.mp_parser.proofs.TokensLaw.{end_at}
use Rattle.mp_parser.proofs.StatementAgain.{file-again, alone-again, alone_condition-again}
use Rattle.mp_syntax.proofs.Whole.{file_is_read, expr_is_read, condition_is_read}
use Rattle.mp_parser.proofs.Ends.{is_mark_byte}
use Rattle.mp_syntax.proofs.PrintedExpr.{Lexes, lexes-then, lexes-word, lexes-sign, lexes-plus, lexes-punct}
use Rattle.mp_syntax.proofs.PrintedExpr.{lexes-blank, lexes-arrow, lexes-line_end, lexes-tree, lexes-keyword}
use Rattle.mp_syntax.proofs.PrintedExpr.{lexes-behind}
use Rattle.mp_syntax.proofs.PrintedEdit.{lexes-changes, some-unplaced}
use Rattle.mp_syntax.proofs.PrintedCondition.{LexesAs, leads-nothing, lexes-condition, lexes-if, if-end}

-- ---- statements

-- the bytes begin with this statement, which then stands at its places, and rest lies behind it
record LexesStatement (bytes rest : List ℕ) (place : Place) (s : Statement) : Type 0 where
  statement : Statement
  same : unplaced statement ≡ unplaced s
  fits : FitsStatement MAX_OPEN statement
  lexes : Lexes bytes place (spell_statement statement) rest

-- the first byte doesn't pass the test
prefix_len-cons : (p : ℕ → Bool) (b : ℕ) (bytes : List ℕ) → p b ≡ false → prefix_len p (b ∷ bytes) ≡ 0
prefix_len-cons p b bytes e = ap (λ v. cond v (1 + prefix_len p bytes) 0) e

-- ---- a name with an expression

record LexesNamed (keyword bytes rest : List ℕ) (place : Place) (name : Spot) (t : Tree) : Type 0 where
  here : Spot
  tree : Tree
  same_name : here.text ≡ name.text
  same : unplaced_tree tree ≡ unplaced_tree t
  fits : Fits MAX_OPEN tree
  lexes : Lexes bytes place (fixed_word keyword ∷ spell_named here tree) rest

lexes-named : (keyword : List ℕ) (name : Spot) (t : Tree) (rest : List ℕ) (place : Place) → IsName keyword
    → IsName name.text → HasNames t → Fits MAX_OPEN t → prefix_len is_mark_byte rest ≡ 0
    → LexesNamed keyword (keyword ++ (32 ∷ named_text name t rest)) rest place name t
lexes-named keyword name t rest place k n h fits ends =
    let third = tree_text t ++ rest in
    let second = name.text ++ (58 ∷ 32 ∷ third) in
    let r = lexes-keyword keyword second place k in
    let here : Spot = record { text = name.text; place = r.after } in
    let s = lexes-word name.text (58 ∷ 32 ∷ third) r.after (spelled_word here) n refl (refl, refl) in
    let c = lexes-punct Colon (32 ∷ third) s.after colon refl in
    let b = lexes-blank third c.after in
    let x = lexes-tree t MAX_OPEN rest b.after h fits ends in
    record {
      here = here;
      tree = x.tree;
      same_name = refl;
      same = x.same;
      fits = x.fits;
      lexes =
          lexes-then (keyword ++ (32 ∷ second)) second rest place (fixed_word keyword ∷ []) (spell_named here x.tree) r
          (lexes-then second (58 ∷ 32 ∷ third) rest r.after (spelled_word here ∷ []) (colon ∷ spell x.tree) s
          (lexes-then (58 ∷ 32 ∷ third) (32 ∷ third) rest s.after (colon ∷ []) (spell x.tree) c
          (lexes-then (32 ∷ third) third rest c.after [] (spell x.tree) b x.lexes)));
    }

-- what follows a name and its expression
named_text-append : (name : Spot) (t : Tree) (behind rest : List ℕ)
    → named_text name t behind ++ rest ≡ named_text name t (behind ++ rest)
named_text-append name t behind rest = simp append_assoc

-- ---- declarations

-- a flag and what follows begin with a blank or a semicolon
flags-end : (p : ℕ → Bool) → p 32 ≡ false → p 59 ≡ false → (flags : List Flag) (rest : List ℕ)
    → prefix_len p (flat_map flag_text flags ++ (line_end ++ rest)) ≡ 0
flags-end p blank semi [] rest = prefix_len-cons p 59 (10 ∷ rest) semi
flags-end p blank semi (Assoc ∷ flags) rest =
    prefix_len-cons p 32 (codes "assoc" ++ (flat_map flag_text flags ++ (line_end ++ rest))) blank
flags-end p blank semi (Comm ∷ flags) rest =
    prefix_len-cons p 32 (codes "comm" ++ (flat_map flag_text flags ++ (line_end ++ rest))) blank
flags-end p blank semi (One ∷ flags) rest =
    prefix_len-cons p 32 (codes "one" ++ (flat_map flag_text flags ++ (line_end ++ rest))) blank
flags-end p blank semi (Infixed sign ∷ flags) rest =
    prefix_len-cons p 32 (codes "infix " ++ ((sign.text ++ flat_map flag_text flags) ++ (line_end ++ rest))) blank

-- the number of an operation ends there
plus-end : (more : Bool) (flags : List Flag) (rest : List ℕ)
    → prefix_len is_mark_byte (plus_text more ++ (flat_map flag_text flags ++ (line_end ++ rest))) ≡ 0
plus-end true flags rest = refl
plus-end false flags rest = flags-end is_mark_byte refl refl flags rest

record LexesFlags (bytes rest : List ℕ) (place : Place) (flags : List Flag) : Type 0 where
  all : List Flag
  same : map unplaced_flag all ≡ map unplaced_flag flags
  lexes : Lexes bytes place (flat_map spell_flag all ++ semicolon ∷ []) rest

lexes-flags : (flags : List Flag) (rest : List ℕ) (place : Place) → HaveSigns flags
    → LexesFlags (flat_map flag_text flags ++ (line_end ++ rest)) rest place flags
lexes-flags [] rest place h = record { all = []; same = refl; lexes = lexes-line_end rest place }
lexes-flags (Assoc ∷ flags) rest place h =
    let behind = flat_map flag_text flags ++ (line_end ++ rest) in
    let m = fixed_word (codes "assoc") in
    let r = lexes-behind (codes "assoc") behind place m
    (record { is_word = record { some = λ e. absurd cc; bytes = refl }; is_short = omega arith })
    (flags-end is_mark_byte refl refl flags rest) refl in
    let a = lexes-flags flags rest r.after h.1 in
    record {
      all = Assoc ∷ a.all;
      same = ap (λ l. Assoc ∷ l) a.same;
      lexes = lexes-then (codes " assoc" ++ behind) behind rest place (m ∷ [])
          (flat_map spell_flag a.all ++ semicolon ∷ []) r a.lexes;
    }
lexes-flags (Comm ∷ flags) rest place h =
    let behind = flat_map flag_text flags ++ (line_end ++ rest) in
    let m = fixed_word (codes "comm") in
    let r = lexes-behind (codes "comm") behind place m
    (record { is_word = record { some = λ e. absurd cc; bytes = refl }; is_short = omega arith })
    (flags-end is_mark_byte refl refl flags rest) refl in
    let a = lexes-flags flags rest r.after h.1 in
    record {
      all = Comm ∷ a.all;
      same = ap (λ l. Comm ∷ l) a.same;
      lexes = lexes-then (codes " comm" ++ behind) behind rest place (m ∷ [])
          (flat_map spell_flag a.all ++ semicolon ∷ []) r a.lexes;
    }
lexes-flags (One ∷ flags) rest place h =
    let behind = flat_map flag_text flags ++ (line_end ++ rest) in
    let m = fixed_word (codes "one") in
    let r = lexes-behind (codes "one") behind place m
    (record { is_word = record { some = λ e. absurd cc; bytes = refl }; is_short = omega arith })
    (flags-end is_mark_byte refl refl flags rest) refl in
    let a = lexes-flags flags rest r.after h.1 in
    record {
      all = One ∷ a.all;
      same = ap (λ l. One ∷ l) a.same;
      lexes = lexes-then (codes " one" ++ behind) behind rest place (m ∷ [])
          (flat_map spell_flag a.all ++ semicolon ∷ []) r a.lexes;
    }
lexes-flags (Infixed sign ∷ flags) rest place h =
    let behind = flat_map flag_text flags ++ (line_end ++ rest) in
    let second = sign.text ++ behind in
    let m = fixed_word (codes "infix") in
    let r = lexes-behind (codes "infix") (32 ∷ second) place m
    (record { is_word = record { some = λ e. absurd cc; bytes = refl }; is_short = omega arith }) refl refl in
    let b = lexes-blank second r.after in
    let here : Spot = record { text = sign.text; place = b.after } in
    let s = lexes-sign sign.text behind b.after (spelled_sign here) h.0 (flags-end is_sign_byte refl refl flags rest)
    (refl, refl) in
    let a = lexes-flags flags rest s.after h.1 in
    let others = flat_map spell_flag a.all ++ semicolon ∷ [] in
    let parts : (sign.text ++ flat_map flag_text flags) ++ (line_end ++ rest) ≡ second =
    append_assoc sign.text (flat_map flag_text flags) (line_end ++ rest) in
    record {
      all = Infixed here ∷ a.all;
      same = ap (λ l. Infixed (unplaced_spot sign) ∷ l) a.same;
      lexes = subst (λ l. Lexes (codes " infix " ++ l) place (m ∷ spelled_sign here ∷ others) rest) (sym parts)
          (lexes-then (codes " infix " ++ second) (32 ∷ second) rest place (m ∷ []) (spelled_sign here ∷ others) r
          (lexes-then (32 ∷ second) second rest r.after [] (spelled_sign here ∷ others) b
          (lexes-then second behind rest b.after (spelled_sign here ∷ []) others s a.lexes)));
    }

lexes-op : (name least : Spot) (more : Bool) (flags : List Flag) (rest : List ℕ) (place : Place)
    → StatementHasNames (OpOf name least more flags) → FitsStatement MAX_OPEN (OpOf name least more flags)
    → LexesStatement (statement_text (OpOf name least more flags) ++ rest) rest place (OpOf name least more flags)
lexes-op name least more flags rest place h fits =
    let fourth = flat_map flag_text flags ++ (line_end ++ rest) in
    let third = plus_text more ++ fourth in
    let second = least.text ++ third in
    let first = name.text ++ (32 ∷ second) in
    let r = lexes-keyword (codes "op") first place
    (record { is_word = record { some = λ e. absurd cc; bytes = refl }; is_short = omega arith }) in
    let here : Spot = record { text = name.text; place = r.after } in
    let n = lexes-word name.text (32 ∷ second) r.after (spelled_word here) h.0 refl (refl, refl) in
    let b = lexes-blank second n.after in
    let number : Spot = record { text = least.text; place = b.after } in
    let l = lexes-word least.text third b.after (spelled_word number) h.1 (plus-end more flags rest) (refl, refl) in
    let p = lexes-plus more fourth l.after (flags-end is_sign_byte refl refl flags rest) in
    let f = lexes-flags flags rest p.after h.2 in
    let ending = flat_map spell_flag f.all ++ semicolon ∷ [] in
    let parts : statement_text (OpOf name least more flags) ++ rest ≡ codes "op " ++ first = simp append_assoc in
    record {
      statement = OpOf here number more f.all;
      same = ap (OpOf (unplaced_spot name) (unplaced_spot least) more) f.same;
      fits = fits;
      lexes = subst (λ l. Lexes l place (spell_statement (OpOf here number more f.all)) rest) (sym parts)
          (lexes-then (codes "op " ++ first) first rest place (fixed_word (codes "op") ∷ [])
          (spelled_word here ∷ spelled_word number ∷ (spell_plus more ++ ending)) r
          (lexes-then first (32 ∷ second) rest r.after (spelled_word here ∷ [])
          (spelled_word number ∷ (spell_plus more ++ ending)) n
          (lexes-then (32 ∷ second) second rest n.after [] (spelled_word number ∷ (spell_plus more ++ ending)) b
          (lexes-then second third rest b.after (spelled_word number ∷ []) (spell_plus more ++ ending) l
          (lexes-then third fourth rest l.after (spell_plus more) ending p f.lexes)))));
    }

record LexesMembers (bytes rest : List ℕ) (place : Place) (members : List Spot) : Type 0 where
  all : List Spot
  same : map unplaced_spot all ≡ map unplaced_spot members
  some : members ≢ [] → all ≢ []
  lexes : Lexes bytes place (map spelled_word all ++ semicolon ∷ []) rest

members-end : (members : List Spot) (rest : List ℕ)
    → prefix_len is_mark_byte (flat_map member_text members ++ (line_end ++ rest)) ≡ 0
members-end [] rest = refl
members-end (m ∷ members) rest = refl

lexes-members : (members : List Spot) (rest : List ℕ) (place : Place) → AreNames members
    → LexesMembers (flat_map member_text members ++ (line_end ++ rest)) rest place members
lexes-members [] rest place h = record { all = []; same = refl; some = λ h. h; lexes = lexes-line_end rest place }
lexes-members (m ∷ members) rest place h =
    let behind = flat_map member_text members ++ (line_end ++ rest) in
    let here : Spot = record { text = m.text; place = after_byte place 32 } in
    let r = lexes-behind m.text behind place (spelled_word here) h.0 (members-end members rest) (refl, refl) in
    let a = lexes-members members rest r.after h.1 in
    let parts : (m.text ++ flat_map member_text members) ++ (line_end ++ rest) ≡ m.text ++ behind =
    append_assoc m.text (flat_map member_text members) (line_end ++ rest) in
    record {
      all = here ∷ a.all;
      same = ap (λ l. unplaced_spot m ∷ l) a.same;
      some = λ h e. absurd cc;
      lexes = subst (λ l. Lexes (32 ∷ l) place (spelled_word here ∷ map spelled_word a.all ++ semicolon ∷ []) rest)
          (sym parts)
          (lexes-then (32 ∷ (m.text ++ behind)) behind rest place (spelled_word here ∷ [])
          (map spelled_word a.all ++ semicolon ∷ []) r a.lexes);
    }

lexes-declared_kind : (name : Spot) (members : List Spot) (rest : List ℕ) (place : Place)
    → StatementHasNames (KindOf name members) → FitsStatement MAX_OPEN (KindOf name members)
    → LexesStatement (statement_text (KindOf name members) ++ rest) rest place (KindOf name members)
lexes-declared_kind name members rest place h fits =
    let second = flat_map member_text members ++ (line_end ++ rest) in
    let first = name.text ++ (58 ∷ second) in
    let colon = Said (Punctuation Colon) in
    let r = lexes-keyword (codes "kind") first place
    (record { is_word = record { some = λ e. absurd cc; bytes = refl }; is_short = omega arith }) in
    let here : Spot = record { text = name.text; place = r.after } in
    let n = lexes-word name.text (58 ∷ second) r.after (spelled_word here) h.0 refl (refl, refl) in
    let c = lexes-punct Colon second n.after colon refl in
    let a = lexes-members members rest c.after h.1 in
    let ending = map spelled_word a.all ++ semicolon ∷ [] in
    let parts : statement_text (KindOf name members) ++ rest ≡ codes "kind " ++ first = simp append_assoc in
    record {
      statement = KindOf here a.all;
      same = ap (KindOf (unplaced_spot name)) a.same;
      fits = a.some fits;
      lexes = subst (λ l. Lexes l place (spell_statement (KindOf here a.all)) rest) (sym parts)
          (lexes-then (codes "kind " ++ first) first rest place (fixed_word (codes "kind") ∷ [])
          (spelled_word here ∷ colon ∷ ending) r
          (lexes-then first (58 ∷ second) rest r.after (spelled_word here ∷ []) (colon ∷ ending) n
          (lexes-then (58 ∷ second) second rest n.after (colon ∷ []) ending c a.lexes)));
    }

-- the template of a rule, where there is one
lexes-template : (o : Option Tree) (rest : List ℕ) (place : Place) → TemplateHasNames o → FitsTemplate MAX_OPEN o
    → prefix_len is_mark_byte rest ≡ 0
    → LexesAs spell_template unplaced_template (FitsTemplate MAX_OPEN) (template_text o ++ rest) rest place o
lexes-template None rest place h fits ends =
    record { value = None; same = refl; fits = tt; lexes = record { ts = []; after = place; match = tt; are = refl } }
lexes-template (Some t) rest place h fits ends =
    let behind = tree_text t ++ rest in
    let a = lexes-arrow behind place in
    let x = lexes-tree t MAX_OPEN rest a.after h fits ends in
    record {
      value = Some x.tree;
      same = ap some x.same;
      fits = x.fits;
      lexes = lexes-then (codes " -> " ++ behind) behind rest place (arrow ∷ []) (spell x.tree) a x.lexes;
    }
  where
    some : Tree → Option Tree
    some t = Some t

-- the template of a rule and what follows end a word
template-end : (o : Option Tree) (rest : List ℕ) → prefix_len is_mark_byte rest ≡ 0
    → prefix_len is_mark_byte (template_text o ++ rest) ≡ 0
template-end None rest ends = ends
template-end (Some t) rest ends = refl

lexes-rule : (name : Spot) (t : Tree) (template : Option Tree) (o : Option Condition) (rest : List ℕ) (place : Place)
    → StatementHasNames (RuleOf name t template o) → FitsStatement MAX_OPEN (RuleOf name t template o)
    → LexesStatement (statement_text (RuleOf name t template o) ++ rest) rest place (RuleOf name t template o)
lexes-rule name t template o rest place h fits =
    let fourth = line_end ++ rest in
    let third = if_text o ++ fourth in
    let second = template_text template ++ third in
    let x = lexes-named (codes "rule") name t second place
    (record { is_word = record { some = λ e. absurd cc; bytes = refl }; is_short = omega arith }) h.0 h.1 fits.0
    (template-end template third (if-end o fourth refl)) in
    let z = lexes-template template third x.lexes.after h.2 fits.1 (if-end o fourth refl) in
    let y = lexes-if o fourth z.lexes.after h.3 fits.2 refl in
    let ending = spell_if y.value ++ semicolon ∷ [] in
    let parts : statement_text (RuleOf name t template o) ++ rest
    ≡ codes "rule" ++ (32 ∷ named_text name t second) =
    ap (λ l. codes "rule " ++ l) (named_text-append name t (template_text template ++ (if_text o ++ line_end)) rest
    ∙ ap (named_text name t) (append_assoc (template_text template) (if_text o ++ line_end) rest
    ∙ ap (λ l. template_text template ++ l) (append_assoc (if_text o) line_end rest))) in
    record {
      statement = RuleOf x.here x.tree z.value y.value;
      same = λ i.
          RuleOf (record { text = x.same_name i; place = first_place }) (x.same i) (z.same i) (y.same i);
      fits = (x.fits, z.fits, y.fits);
      lexes = subst (λ l. Lexes l place (spell_statement (RuleOf x.here x.tree z.value y.value)) rest) (sym parts)
          (lexes-then (codes "rule" ++ (32 ∷ named_text name t second)) second rest place
          (fixed_word (codes "rule") ∷ spell_named x.here x.tree) (spell_template z.value ++ ending) x.lexes
          (lexes-then second third rest x.lexes.after (spell_template z.value) ending z.lexes
          (lexes-then third fourth rest z.lexes.after (spell_if y.value) (semicolon ∷ []) y.lexes
          (lexes-line_end rest y.lexes.after))));
    }

lexes-edit : (subject : Spot) (changes : List Change) (rest : List ℕ) (place : Place)
    → StatementHasNames (EditOf subject changes) → FitsStatement MAX_OPEN (EditOf subject changes)
    → LexesStatement (statement_text (EditOf subject changes) ++ rest) rest place (EditOf subject changes)
lexes-edit subject changes rest place h fits =
    let fourth = line_end ++ rest in
    let third = changes_text [] changes ++ fourth in
    let second = 58 ∷ 32 ∷ third in
    let first = subject.text ++ second in
    let r = lexes-keyword (codes "edit") first place
    (record { is_word = record { some = λ e. absurd cc; bytes = refl }; is_short = omega arith }) in
    let here : Spot = record { text = subject.text; place = r.after } in
    let n = lexes-word subject.text second r.after (spelled_word here) h.0 refl (refl, refl) in
    let c = lexes-punct Colon (32 ∷ third) n.after colon refl in
    let b = lexes-blank third c.after in
    let a = lexes-changes changes [] [] leads-nothing MAX_OPEN fourth b.after h.1 fits.1 refl in
    let ending = spell_changes [] a.value ++ semicolon ∷ [] in
    let parts : statement_text (EditOf subject changes) ++ rest ≡ codes "edit " ++ first = simp append_assoc in
    record {
      statement = EditOf here a.value;
      same = ap (EditOf (unplaced_spot subject)) a.same;
      fits = (some-unplaced a.value changes a.same fits.0, a.fits);
      lexes = subst (λ l. Lexes l place (spell_statement (EditOf here a.value)) rest) (sym parts)
          (lexes-then (codes "edit " ++ first) first rest place (fixed_word (codes "edit") ∷ [])
          (spelled_word here ∷ colon ∷ ending) r
          (lexes-then first second rest r.after (spelled_word here ∷ []) (colon ∷ ending) n
          (lexes-then second (32 ∷ third) rest n.after (colon ∷ []) ending c
          (lexes-then (32 ∷ third) third rest c.after [] ending b
          (lexes-then third fourth rest b.after (spell_changes [] a.value) (semicolon ∷ []) a.lexes
          (lexes-line_end rest a.lexes.after))))));
    }

lexes-statement : (s : Statement) (rest : List ℕ) (place : Place) → StatementHasNames s → FitsStatement MAX_OPEN s
    → LexesStatement (statement_text s ++ rest) rest place s
lexes-statement (OpOf name least more flags) rest place h fits = lexes-op name least more flags rest place h fits
lexes-statement (KindOf name members) rest place h fits = lexes-declared_kind name members rest place h fits
lexes-statement (RuleOf name t template o) rest place h fits = lexes-rule name t template o rest place h fits
lexes-statement (SubjectOf name t) rest place h fits =
    let second = line_end ++ rest in
    let x = lexes-named (codes "subject") name t second place
    (record { is_word = record { some = λ e. absurd cc; bytes = refl }; is_short = omega arith }) h.0 h.1 fits
    refl in
    let parts : statement_text (SubjectOf name t) ++ rest ≡ codes "subject" ++ (32 ∷ named_text name t second) =
    ap (λ l. codes "subject " ++ l) (named_text-append name t line_end rest) in
    record {
      statement = SubjectOf x.here x.tree;
      same = λ i. SubjectOf (record { text = x.same_name i; place = first_place }) (x.same i);
      fits = x.fits;
      lexes = subst (λ l. Lexes l place (spell_statement (SubjectOf x.here x.tree)) rest) (sym parts)
          (lexes-then (codes "subject" ++ (32 ∷ named_text name t second)) second rest place
          (fixed_word (codes "subject") ∷ spell_named x.here x.tree) (semicolon ∷ []) x.lexes
          (lexes-line_end rest x.lexes.after));
    }
lexes-statement (EditOf subject changes) rest place h fits = lexes-edit subject changes rest place h fits

-- ---- files

record LexesFile (bytes : List ℕ) (place : Place) (file : List Statement) : Type 0 where
  all : List Statement
  same : map unplaced all ≡ map unplaced file
  fits : AreStatements MAX_OPEN all
  lexes : Lexes bytes place (spell_file all) []

lexes-file : (file : List Statement) (place : Place) → StatementsHaveNames file → AreStatements MAX_OPEN file
    → LexesFile (statements_text file) place file
lexes-file [] place h fits =
    record { all = []; same = refl; fits = tt; lexes = record { ts = []; after = place; match = tt; are = refl } }
lexes-file (s ∷ file) place h fits =
    let x = lexes-statement s (statements_text file) place h.0 fits.0 in
    let a = lexes-file file x.lexes.after h.1 fits.1 in
    record {
      all = x.statement ∷ a.all;
      same = λ i. x.same i ∷ a.same i;
      fits = (x.fits, a.fits);
      lexes = lexes-then (statement_text s ++ statements_text file) (statements_text file) [] place
          (spell_statement x.statement) (spell_file a.all) x.lexes a.lexes;
    }

-- bytes that are these tokens and nothing else
lexes-all : (bytes : List ℕ) (ms : List Expected) (r : Lexes bytes first_place ms [])
    → lexemes bytes first_place ≡ r.ts ++ end_at r.after ∷ []
lexes-all bytes ms r = r.are ∙ ap (λ l. r.ts ++ l) (lexemes-step [] r.after)

-- the text of an expression alone is that expression, apart from its places
pub printed_expr-again : (t : Tree) → HasNames t → Fits MAX_OPEN t
    → (read : Tree) × IsExprOf (tree_text t) read × (unplaced_tree read ≡ unplaced_tree t)
printed_expr-again t names fits =
    let bytes = tree_text t in
    let x = lexes-tree t MAX_OPEN [] first_place names fits refl in
    let y = subst (λ l. Lexes l first_place (spell x.tree) []) (append-nil bytes) x.lexes in
    let all = lexes-all bytes (spell x.tree) y in (
      x.tree,
      expr_is_read.found bytes x.tree
          (ap (run [] (BeforeExpr Alone [])) all
          ∙ alone-again MAX_OPEN x.tree y.ts (end_at y.after) y.match x.fits refl),
      x.same,
    )

-- the text of a condition alone is that condition, apart from its places
pub printed_condition-again : (c : Condition) → ConditionHasNames c → FitsCondition MAX_OPEN c
    → (read : Condition) × IsConditionOf (condition_text c) read × (unplaced_condition read ≡ unplaced_condition c)
printed_condition-again c names fits =
    let bytes = condition_text c in
    let x = lexes-condition c MAX_OPEN [] first_place names fits refl in
    let y = subst (λ l. Lexes l first_place (spell_condition x.value) []) (append-nil bytes) x.lexes in
    let all = lexes-all bytes (spell_condition x.value) y in (
      x.value,
      condition_is_read.found bytes x.value
          (ap (run [] (BeforeLiteral ConditionAlone [] no_level)) all
          ∙ alone_condition-again MAX_OPEN x.value y.ts (end_at y.after) y.match x.fits refl),
      x.same,
    )

-- the text of statements is those statements, apart from their places
pub printed-again : (file : List Statement) → StatementsHaveNames file → AreStatements MAX_OPEN file
    → (read : List Statement) × IsSyntaxOf (statements_text file) read × (map unplaced read ≡ map unplaced file)
printed-again file names fits =
    let x = lexes-file file first_place names fits in
    let bytes = statements_text file in
    let all = lexes-all bytes (spell_file x.all) x.lexes in (
      x.all,
      file_is_read.found bytes x.all
          (ap (run [] Top) all
          ∙ file-again MAX_OPEN x.all [] x.lexes.ts (end_at x.lexes.after ∷ []) x.lexes.match x.fits),
      x.same,
    )
