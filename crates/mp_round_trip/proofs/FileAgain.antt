-- What spells a file that was read stands for it and has no faults, so that its printed text is read as that file.
use Rattle.std.proofs.Common.{append-nil}
use Rattle.std.proofs.Common.{◌≡◌, ◌≢◌, ℕ, ◌-◌, true, false, List, [], ◌∷◌, ◌++◌, map}
use Rattle.std.proofs.Common.{length, Option, Some, None, refl, sym, ap, subst, ◌∙◌, arith, append_assoc}
use Rattle.std.specs.Prelude.{codes, option_map}
use Rattle.std.specs.List.{AllByRecursion}
use Rattle.std.proofs.lemmas.List.{map-append, length-map}
use Rattle.std.proofs.lemmas.Bool.{ltb-false}
use Rattle.std.proofs.lemmas.Simd.{map-map}
use Rattle.mp_io.specs.Devices.{Text}
use Rattle.mp_pattern.specs.declared.limits.TheConstants.{MAX_RULES, MAX_SUBJECTS, MAX_DEPTH}
use Rattle.mp_term.specs.declared.limits.TheConstants.{MAX_OPS, MAX_KINDS, MAX_SIGN_BYTES}
use Rattle.mp_term.specs.declared.signature.OpDecl.{OpDecl}
use Rattle.mp_term.specs.Names.{is_name, are_distinct}
use Rattle.mp_term.specs.Signature.{Sig, Kind, none_clash, IsSignature}
use Rattle.mp_term.proofs.ListLaws.{all-append, all-map, all-also, both-empty}
use Rattle.mp_pattern.specs.Admission.{Rule}
use Rattle.mp_pattern.specs.TemplateTree.{Template}
use Rattle.mp_pattern.specs.SoundRule.{IsSymbol, IsVariableOf, HasSoundTemplate, IsSoundRule}
use Rattle.mp_parser.specs.declared.limits.TheConstants.{MAX_OPEN}
use Rattle.mp_parser.specs.Syntax.{Statement, EditOf, AreStatements}
use Rattle.mp_parser.specs.Syntax.{StatementsHaveNames, TemplateHasNames, FitsTemplate}
use Rattle.mp_syntax.specs.Printed.{unplaced_spot, unplaced_change, unplaced}
use Rattle.mp_syntax.proofs.Whole.{syntax-names}
use Rattle.mp_build.specs.declared.fault.TextFault.{TextFault}
use Rattle.mp_text.specs.File.{FileTree}
use Rattle.mp_build.specs.Build.{sig_with, op_decls, kind_decls, sig_of}
use Rattle.mp_text.specs.Subjects.{subjects_of}
use Rattle.mp_text.specs.FileBuild.{rules_of, file_over, file_tree_of}
use Rattle.mp_build.specs.Checks.{op_statement_faults, kind_statement_faults, declaration_faults, faults_by}
use Rattle.mp_text.specs.FileChecks.{statement_faults, faults}
use Rattle.mp_text.specs.EditStatements.{edit_sets}
use Rattle.mp_text.specs.declared.file.EditSet.{EditSet}
use Rattle.mp_build.specs.Flags.{is_long_sign}
use Rattle.mp_build.specs.Names.{rule_names, subject_names}
use Rattle.mp_text.specs.PrintedFile.{file_text}
use Rattle.mp_text.specs.Reading.{IsFileOf}
use Rattle.mp_text.specs.Sound.{IsSoundSubject, IsSoundEditSet, IsSoundFile}
use Rattle.mp_round_trip.specs.Spelled.{piece, op_spelling, kind_spelling, rule_spelling, subject_spelling}
use Rattle.mp_round_trip.specs.Spelled.{template_spelling, edit_spelling, edit_set_spelling, file_spelling}
use Rattle.mp_build.proofs.Declared.{op_decls-append, kind_decls-append}
use Rattle.mp_text.proofs.FileSteps.{names-rules_of}
use Rattle.mp_text.proofs.FileSteps.{names-subjects_of, rules_of-append, subjects_of-append}
use Rattle.mp_build.proofs.Faultless.{nil-both}
use Rattle.mp_build.proofs.Words.{is_name-IsName, IsName-is_name, is_sign-IsInfixSign}
use Rattle.mp_round_trip.specs.Readable.{IsSpelledSign, IsSpelledOp, IsSpelledSignature}
use Rattle.mp_round_trip.proofs.SpelledStatements.{file-again}
use Rattle.mp_text.proofs.SoundFile.{sound-file}
use Rattle.mp_text.proofs.Statements.{IsRead, all-IsRead, all-rules_of, rule_names-append, subject_names-append}
use Rattle.mp_text.proofs.ReadFile.{AreDeclaredOps-op_decls, AreDeclaredKinds-kind_decls}
use Rattle.mp_text.proofs.DeclaredParts.{IsSomeSign, HasOpNames, IsDeclaredOp, IsDeclaredKind}
use Rattle.mp_round_trip.proofs.SpelledHead.{HasOps}
use Rattle.mp_round_trip.proofs.SpelledTerm.{HasNames-term_spelling, Fits-term_spelling}
use Rattle.mp_round_trip.proofs.SpelledPattern.{HasNames-pattern_spelling, Fits-pattern_spelling}
use Rattle.mp_round_trip.specs.OpenBrackets.{IsShallowIf}
use Rattle.mp_round_trip.proofs.SpelledCondition.{shallow-condition_of, HasNames-if_spelling}
use Rattle.mp_round_trip.proofs.SpelledCondition.{Fits-if_spelling}
use Rattle.mp_round_trip.proofs.SpelledDeclarations.{StatementHasNames-op_spelling, FitsStatement-op_spelling}
use Rattle.mp_round_trip.proofs.SpelledDeclarations.{StatementHasNames-kind_spelling, FitsStatement-kind_spelling}
use Rattle.mp_round_trip.proofs.SpelledTemplate.{HasNames-template_spelling, Fits-template_spelling}
use Rattle.mp_round_trip.proofs.EditAgain.{SpellsEditSet, SpellEditSets, subject_name, subject_name-is, Declare}
use Rattle.mp_round_trip.proofs.EditAgain.{OnlyEdits, only-edits, faults_by-edits, names-edits, fits-edits}
use Rattle.mp_round_trip.proofs.EditAgain.{edits-alike, edit_sets-append, sets-value, none-sets}
use Rattle.mp_round_trip.proofs.ScopeAgain.{name-variables}
use Rattle.mp_round_trip.proofs.Unplaced.{text-alike}
use Rattle.mp_round_trip.proofs.ItemsAgain.{Item, an_op, a_kind, a_rule, a_subject, items, Gives, gives-items}
use Rattle.mp_round_trip.proofs.ItemsAgain.{item_spelling, SpellItems, IsSoundItem, items-alike, named-condition}
use Rattle.mp_round_trip.proofs.ItemsAgain.{op_decls-spell, kind_decls-spell, rules_of-spell, subjects_of-spell}
use Rattle.mp_round_trip.proofs.ItemsAgain.{edit_sets-spell, Good, good-behind, none-by, none-op, none-kind}
use Rattle.mp_round_trip.proofs.ItemsAgain.{kinds_named}
use Rattle.mp_round_trip.proofs.ItemsAgain.{kinds_named-append, none-statement, GoodNames}

-- ---- lists

all-both : {X : Type 0} (P Q : X → Type 0) (xs : List X) → AllByRecursion P xs → AllByRecursion Q xs
    → AllByRecursion (λ x. P x × Q x) xs
all-both P Q [] h k = tt
all-both P Q (x ∷ xs) h k = ((h.0, k.0), all-both P Q xs h.1 k.1)

-- a list whose image is in two parts is in two parts
record Parts {A B : Type 0} (g : A → B) (list : List A) (xs ys : List B) : Type 0 where
  front : List A
  back : List A
  whole : list ≡ front ++ back
  first : map g front ≡ xs
  second : map g back ≡ ys

split-map : {A B : Type 0} (g : A → B) (list : List A) (xs ys : List B) → map g list ≡ xs ++ ys → Parts g list xs ys
split-map g list [] ys e = record { front = []; back = list; whole = refl; first = refl; second = e }
split-map g [] (x ∷ xs) ys e = absurd cc
split-map g (a ∷ list) (x ∷ xs) ys e =
    let head : g a ≡ x = cc in
    let r = split-map g list xs ys cc in
    record {
      front = a ∷ r.front;
      back = r.back;
      whole = ap (λ l. a ∷ l) r.whole;
      first = λ i. head i ∷ r.first i;
      second = r.second;
    }

-- the image of a list that isn't empty isn't
some-map : {A B : Type 0} (g : A → B) (list : List A) → list ≢ [] → map g list ≢ []
some-map g [] some e = some refl
some-map g (a ∷ list) some e = cc

-- statements in two parts have no faults, where neither has behind what stands before it
faults_by-append : (rule : List Statement → Statement → List TextFault) (earlier a b : List Statement)
    → faults_by rule earlier a ≡ [] → faults_by rule (earlier ++ a) b ≡ [] → faults_by rule earlier (a ++ b) ≡ []
faults_by-append rule earlier [] b h k = subst (λ l. faults_by rule l b ≡ []) (append-nil earlier) k
faults_by-append rule earlier (s ∷ a) b h k =
    let p = both-empty (rule earlier s) (faults_by rule (earlier ++ s ∷ []) a) h in
    nil-both (rule earlier s) (faults_by rule (earlier ++ s ∷ []) (a ++ b)) p.0
    (faults_by-append rule (earlier ++ s ∷ []) a b p.1
    (subst (λ l. faults_by rule l b ≡ []) (sym (append_assoc earlier (s ∷ []) a)) k))

-- ---- files

-- a file as it is read
record IsReadFile (f : FileTree) : Type 0 where
  sound : IsSoundFile f
  ops : AllByRecursion IsDeclaredOp f.sig.ops
  kinds : AllByRecursion (IsDeclaredKind f.sig.ops) f.sig.kinds
  shallow : AllByRecursion (λ r. IsShallowIf r.condition) f.rules

read-file : (ss : List Statement) → StatementsHaveNames ss → AreStatements MAX_OPEN ss → faults ss ≡ []
    → IsReadFile (file_tree_of ss)
read-file ss names fits h =
    let read = all-IsRead ss names fits in
    let p = both-empty (declaration_faults ss) (faults_by (statement_faults (sig_of ss)) [] ss) h in
    let q = both-empty (faults_by op_statement_faults [] ss)
    (faults_by (kind_statement_faults (op_decls ss)) [] ss) p.0 in
    let ops = AreDeclaredOps-op_decls ss read q.0 in
    let all = all-rules_of (sig_of ss) (λ r. IsShallowIf r.condition) (λ s. Unit {0})
    (λ name p x c one small none. shallow-condition_of (sig_of ss) c one.fits.2)
    (λ name t one small none. tt) ss read p.1 in
    record {
      sound = sound-file ss names fits h;
      ops = ops.each;
      kinds = (AreDeclaredKinds-kind_decls (op_decls ss) ss read q.1 ops).each;
      shallow = all.0;
    }

-- the operations of a signature have names and signs, and its kinds have names
HasOps-IsSignature : (sig : Sig) → IsSignature sig → AllByRecursion IsDeclaredOp sig.ops
    → AllByRecursion (IsDeclaredKind sig.ops) sig.kinds → HasOps sig
HasOps-IsSignature sig h ops kinds = record {
  apart = h.ops_distinct;
  named = all-also IsDeclaredOp HasOpNames (λ d own. own.names) sig.ops ops;
  kinds_apart = h.kinds_distinct;
  kinds_named = (
    IsName-is_name (codes "num") refl,
    all-map (IsDeclaredKind sig.ops) _ (λ k. k.name)
        (λ k own. own.name) sig.kinds kinds,
  );
}

-- the statements of a file but its edit statements, and these
abbrev items_spelling : FileTree → List Statement
items_spelling f = map op_spelling f.sig.ops
    ++ (map kind_spelling f.sig.kinds ++ (map (rule_spelling f.sig) f.rules ++ map (subject_spelling f.sig) f.subjects))

abbrev edits_spelling : FileTree → List Statement
edits_spelling f = map (edit_set_spelling f.sig f.subjects) f.edits

-- the template of a rule, where there is one, is spelled in names, and in as many brackets as it is deep
module _ (sig : Sig) (has : HasOps sig) (r : Rule) (h : IsSoundRule sig r) where
  named : (x : List ℕ) → IsVariableOf sig r.pattern x → is_name x ≡ true
  named x known = name-variables sig r.pattern h.pattern.formed x known

  names-arrow : (o : Option Template) → HasSoundTemplate sig r.pattern o
      → TemplateHasNames (option_map (template_spelling sig) o)
  names-arrow None k = tt
  names-arrow (Some x) k = HasNames-template_spelling sig has r.pattern named x k.formed

  fits-arrow : (o : Option Template) → HasSoundTemplate sig r.pattern o
      → FitsTemplate MAX_OPEN (option_map (template_spelling sig) o)
  fits-arrow None k = tt
  fits-arrow (Some x) k = Fits-template_spelling sig has r.pattern named x MAX_DEPTH k.formed k.shallow

module _ (f : FileTree) (h : IsReadFile f) where
  has-ops : HasOps f.sig
  has-ops = HasOps-IsSignature f.sig h.sound.signature h.ops h.kinds

  sound-items : AllByRecursion (IsSoundItem f.sig) (items f)
  sound-items =
      all-append (IsSoundItem f.sig) (map an_op f.sig.ops) _
      (all-map IsDeclaredOp (IsSoundItem f.sig) an_op (λ d own. own) f.sig.ops h.ops)
      (all-append (IsSoundItem f.sig) (map a_kind f.sig.kinds) _
      (all-map (IsDeclaredKind f.sig.ops) (IsSoundItem f.sig) a_kind (λ k own. own) f.sig.kinds h.kinds)
      (all-append (IsSoundItem f.sig) (map a_rule f.rules) (map a_subject f.subjects)
      (all-map (λ r. IsSoundRule f.sig r × IsShallowIf r.condition) (IsSoundItem f.sig) a_rule
      (λ r own. own) f.rules
      (all-both (IsSoundRule f.sig) (λ r. IsShallowIf r.condition) f.rules h.sound.rules.each h.shallow))
      (all-map (IsSoundSubject f.sig) (IsSoundItem f.sig) a_subject (λ s own. own) f.subjects h.sound.subjects)))

  -- the statements of the items
  spelling-items : map (item_spelling f.sig) (items f) ≡ items_spelling f
  spelling-items =
      map-append (item_spelling f.sig) (map an_op f.sig.ops) _
      ∙ (λ i. map-map (item_spelling f.sig) an_op f.sig.ops i
      ++ (map-append (item_spelling f.sig) (map a_kind f.sig.kinds) (map a_rule f.rules ++ map a_subject f.subjects)
      ∙ (λ i. map-map (item_spelling f.sig) a_kind f.sig.kinds i
      ++ (map-append (item_spelling f.sig) (map a_rule f.rules) (map a_subject f.subjects)
      ∙ (λ i. map-map (item_spelling f.sig) a_rule f.rules i ++ map-map (item_spelling f.sig) a_subject f.subjects i))
      i)) i)

  -- those of the file are these and the edit statements
  spelling-file : file_spelling f ≡ map (item_spelling f.sig) (items f) ++ edits_spelling f
  spelling-file = sym (ap (λ l. l ++ edits_spelling f) spelling-items
      ∙ append_assoc (map op_spelling f.sig.ops) _ (edits_spelling f)
      ∙ ap (λ l. map op_spelling f.sig.ops ++ l) (append_assoc (map kind_spelling f.sig.kinds) _ (edits_spelling f)
      ∙ ap (λ l. map kind_spelling f.sig.kinds ++ l)
      (append_assoc (map (rule_spelling f.sig) f.rules) _ (edits_spelling f))))

  -- the statement of a sound item is one of the grammar
  read-item : (x : Item) → IsSoundItem f.sig x → IsRead (item_spelling f.sig x)
  read-item (an_op d) h = record { names = StatementHasNames-op_spelling d h; fits = FitsStatement-op_spelling d h }
  read-item (a_kind k) h = record {
    names = StatementHasNames-kind_spelling f.sig.ops k h;
    fits = FitsStatement-kind_spelling f.sig.ops k h;
  }
  read-item (a_rule r) h =
      let p = h.0.pattern in
      record {
        names = (
          IsName-is_name r.name h.0.name,
          HasNames-pattern_spelling f.sig has-ops r.pattern
              p.formed,
          names-arrow f.sig has-ops r h.0 r.template h.0.template,
          HasNames-if_spelling f.sig has-ops None r.condition (named-condition f.sig r h.0),
        );
        fits = (
          Fits-pattern_spelling f.sig has-ops r.pattern MAX_DEPTH p.formed p.shallow,
          fits-arrow f.sig has-ops r h.0 r.template h.0.template,
          Fits-if_spelling f.sig has-ops None r.condition (named-condition f.sig r h.0) h.1,
        );
      }
  read-item (a_subject s) h = record {
    names = (IsName-is_name s.name h.name, HasNames-term_spelling f.sig has-ops s.term h.term.formed h.term.symbols);
    fits = Fits-term_spelling f.sig has-ops s.term MAX_DEPTH h.term.formed h.shallow;
  }

  module _ (ss : List Statement) (s : SpellItems f.sig ss (items f)) where
    given : Gives (items f) f.sig.ops f.sig.kinds f.rules f.subjects
    given = gives-items f.sig.ops f.sig.kinds f.rules f.subjects

    sig-again : sig_of ss ≡ f.sig
    sig-again = λ i. record {
      ops = (op_decls-spell f.sig ss (items f) s ∙ given.ops) i;
      kinds = (kind_decls-spell f.sig ss (items f) s sound-items ∙ given.kinds) i;
    }

    rules-again : rules_of f.sig ss ≡ f.rules
    rules-again = rules_of-spell f.sig ss (items f) s sound-items ∙ given.rules

    subjects-again : subjects_of f.sig ss ≡ f.subjects
    subjects-again = subjects_of-spell f.sig ss (items f) s sound-items ∙ given.subjects

    names-again : rule_names ss ≡ map (λ r. r.name) f.rules
    names-again = sym (names-rules_of f.sig ss) ∙ ap (map (λ r. r.name)) rules-again

    subject_names-again : subject_names ss ≡ map (λ s. s.name) f.subjects
    subject_names-again = sym (names-subjects_of f.sig ss) ∙ ap (map (λ s. s.name)) subjects-again

    -- what the edit statements are behind
    declare : Declare f.sig f.subjects h.sound.subject_names ss
    declare = record { names = subject_names-again; subjects = subjects-again }

    -- they have no faults by any of the three rules
    record AreFaultless : Type 0 where
      ops : faults_by op_statement_faults [] ss ≡ []
      kinds : faults_by (kind_statement_faults f.sig.ops) [] ss ≡ []
      others : faults_by (statement_faults f.sig) [] ss ≡ []

    faultless-items : AreFaultless
    faultless-items =
        let ops = op_decls-spell f.sig ss (items f) s ∙ given.ops in
        let kinds = ap (map (λ (k : Kind). k.name)) (kind_decls-spell f.sig ss (items f) s sound-items ∙ given.kinds) in
        let signature = h.sound.signature in
        let good_ops : Good f.sig op_decls (λ ds. none_clash ds ≡ true) MAX_OPS [] ss =
        record {
          differ = rw ops signature.ops_distinct;
          few = omega (arith, ap length ops, signature.at_most_ops);
        } in
        let good_kinds : Good f.sig (kinds_named f.sig) (λ ns. are_distinct (codes "num" ∷ ns) ≡ true) (MAX_KINDS - 1)
        [] ss = record {
          differ = rw kinds signature.kinds_distinct;
          few = omega (arith, ap length kinds, signature.at_most_kinds);
        } in
        let good_names : GoodNames f.sig [] ss = (
          record {
            differ = rw names-again h.sound.rules.names;
            few = omega (arith, ap length names-again, length-map f.rules (λ r. r.name), h.sound.rules.few);
          },
          record {
            differ = rw subject_names-again h.sound.subject_names;
            few = omega
                (arith, ap length subject_names-again, length-map f.subjects (λ s. s.name), h.sound.few_subjects);
          },
        ) in
        let none_ops = none-by f.sig (Good f.sig op_decls (λ ds. none_clash ds ≡ true) MAX_OPS)
        (good-behind f.sig op_decls _ MAX_OPS op_decls-append) op_statement_faults (none-op f.sig) [] ss
        (items f) s sound-items good_ops in
        let none_kinds =
        none-by f.sig (Good f.sig (kinds_named f.sig) (λ ns. are_distinct (codes "num" ∷ ns) ≡ true)
        (MAX_KINDS - 1)) (good-behind f.sig (kinds_named f.sig) _ (MAX_KINDS - 1) (kinds_named-append f.sig))
        (kind_statement_faults f.sig.ops) (none-kind f.sig) [] ss (items f) s sound-items good_kinds in
        let none_others = none-by f.sig (GoodNames f.sig)
        (λ earlier t ts good. (
          good-behind f.sig rule_names _ MAX_RULES rule_names-append earlier t ts good.0,
          good-behind f.sig
              subject_names _ MAX_SUBJECTS subject_names-append earlier t ts good.1,
        )) (statement_faults f.sig)
        (none-statement f.sig) [] ss (items f) s sound-items good_names in
        record { ops = none_ops; kinds = none_kinds; others = none_others }

  -- ---- with the edit statements

  -- an edit statement is one of the grammar
  read-set : (e : EditSet) → IsSoundEditSet f.sig f.subjects e → IsRead (edit_set_spelling f.sig f.subjects e)
  read-set e sound = record {
    names = (
      IsName-is_name _ (subject_name-is f.sig f.subjects h.sound.subjects e sound),
      names-edits f.sig has-ops e.edits sound.edits,
    );
    fits = (some-map (edit_spelling f.sig) e.edits sound.some, fits-edits f.sig has-ops e.edits sound.edits);
  }

  set-alike : (e : EditSet) (s : Statement) → IsSoundEditSet f.sig f.subjects e
      → unplaced s ≡ unplaced (edit_set_spelling f.sig f.subjects e) → SpellsEditSet f.sig f.subjects s e
  set-alike e (EditOf name cs) sound k =
      let spot : unplaced_spot name ≡ unplaced_spot (piece (subject_name f.sig f.subjects e)) = cc in
      let changes : map unplaced_change cs ≡ map unplaced_change (map (edit_spelling f.sig) e.edits) = cc in (
        text-alike name (piece (subject_name f.sig f.subjects e)) spot,
        edits-alike f.sig has-ops e.edits cs sound.edits changes,
      )
  set-alike e _ sound k = absurd cc

  sets-alike : (es : List EditSet) (b : List Statement) → AllByRecursion (IsSoundEditSet f.sig f.subjects) es
      → map unplaced b ≡ map unplaced (map (edit_set_spelling f.sig f.subjects) es)
      → SpellEditSets f.sig f.subjects b es
  sets-alike [] [] sound k = tt
  sets-alike (e ∷ es) (s ∷ b) sound k = (set-alike e s sound.0 cc, sets-alike es b sound.1 cc)
  sets-alike _ _ sound k = absurd cc

  module _ (a b : List Statement) (s : SpellItems f.sig a (items f)) (t : SpellEditSets f.sig f.subjects b f.edits)
    where
      only : OnlyEdits f.sig b
      only = only-edits f.sig f.subjects b f.edits t

      ops-all : op_decls (a ++ b) ≡ f.sig.ops
      ops-all = op_decls-append a b ∙ (λ i. op_decls a ++ only.ops i) ∙ append-nil (op_decls a)
          ∙ ap (λ (sig : Sig). sig.ops) (sig-again a s)

      kinds-all : kind_decls (a ++ b) ≡ f.sig.kinds
      kinds-all = kind_decls-append a b ∙ (λ i. kind_decls a ++ only.kinds i) ∙ append-nil (kind_decls a)
          ∙ ap (λ (sig : Sig). sig.kinds) (sig-again a s)

      sig-all : sig_of (a ++ b) ≡ f.sig
      sig-all = λ i. record { ops = ops-all i; kinds = kinds-all i }

      rules-all : rules_of f.sig (a ++ b) ≡ f.rules
      rules-all = rules_of-append f.sig a b ∙ (λ i. rules_of f.sig a ++ only.rules i) ∙ append-nil (rules_of f.sig a)
          ∙ rules-again a s

      subjects-all : subjects_of f.sig (a ++ b) ≡ f.subjects
      subjects-all = subjects_of-append f.sig a b ∙ (λ i. subjects_of f.sig a ++ only.subjects i)
          ∙ append-nil (subjects_of f.sig a) ∙ subjects-again a s

      no-edits : edit_sets f.sig a ≡ []
      no-edits = edit_sets-spell f.sig [] a (items f) s

      edits-all : edit_sets f.sig (a ++ b) ≡ f.edits
      edits-all = edit_sets-append f.sig a b
          ∙ (λ i. no-edits i ++ sets-value f.sig f.subjects h.sound.subject_names a b f.edits (declare a s) t
          h.sound.edits i)

      -- they stand for the file
      file-spells : file_tree_of (a ++ b) ≡ f
      file-spells = ap (λ sig. file_over sig (a ++ b)) sig-all
          ∙ (λ i. record { sig = f.sig; rules = rules-all i; subjects = subjects-all i; edits = edits-all i })

      -- and have no faults
      faults-spell : faults (a ++ b) ≡ []
      faults-spell =
          let items = faultless-items a s in
          let ops = faults_by-append op_statement_faults [] a b items.ops
          (faults_by-edits f.sig f.subjects op_statement_faults (λ earlier name cs. refl) a b f.edits t) in
          let kinds = faults_by-append (kind_statement_faults f.sig.ops) [] a b items.kinds
          (faults_by-edits f.sig f.subjects (kind_statement_faults f.sig.ops) (λ earlier name cs. refl) a b f.edits
          t) in
          let others = faults_by-append (statement_faults f.sig) [] a b items.others
          (none-sets f.sig f.subjects h.sound.subject_names a b f.edits (declare a s) t h.sound.edits
          (omega (arith, ap length no-edits, h.sound.few_edits))) in
          nil-both (declaration_faults (a ++ b)) (faults_by (statement_faults (sig_of (a ++ b))) [] (a ++ b))
          (nil-both (faults_by op_statement_faults [] (a ++ b))
          (faults_by (kind_statement_faults (op_decls (a ++ b))) [] (a ++ b)) ops
          (subst (λ ds. faults_by (kind_statement_faults ds) [] (a ++ b) ≡ []) (sym ops-all) kinds))
          (subst (λ sig. faults_by (statement_faults sig) [] (a ++ b) ≡ []) (sym sig-all) others)

names-all : (ss : List Statement) → AllByRecursion IsRead ss → StatementsHaveNames ss
names-all [] h = tt
names-all (s ∷ ss) h = (h.0.names, names-all ss h.1)

fits-all : (ss : List Statement) → AllByRecursion IsRead ss → AreStatements MAX_OPEN ss
fits-all [] h = tt
fits-all (s ∷ ss) h = (h.0.fits, fits-all ss h.1)

-- a file that some bytes are, as it is read
read-bytes : (bytes : List ℕ) (f : FileTree) → IsFileOf bytes f → IsReadFile f
read-bytes bytes f file = subst IsReadFile (sym file.file)
    (read-file file.statements (syntax-names bytes file.statements file.syntax) file.syntax.fits file.faultless)

spelled-sign : (o : Option Text) → IsSomeSign o → is_long_sign (option_map piece o) ≡ false → IsSpelledSign o
spelled-sign None h short = tt
spelled-sign (Some sign) h short = is_sign-IsInfixSign sign h (ltb-false MAX_SIGN_BYTES (length sign) short)

spelled-op : (d : OpDecl) → IsDeclaredOp d → IsSpelledOp d
spelled-op d h = record { name = is_name-IsName d.name h.names.name; sign = spelled-sign d.sign h.names.sign h.short }

-- its names and signs are such
pub spelled-signature : (bytes : List ℕ) (f : FileTree) → IsFileOf bytes f → IsSpelledSignature f.sig
spelled-signature bytes f file = let h = read-bytes bytes f file in
    record {
      signature = h.sound.signature;
      ops = all-also IsDeclaredOp IsSpelledOp spelled-op f.sig.ops h.ops;
      kinds = all-also (IsDeclaredKind f.sig.ops) (λ k. is_name k.name ≡ true)
          (λ k own. is_name-IsName k.name own.name) f.sig.kinds h.kinds;
    }

-- the members of its kinds are names
pub named-members : (bytes : List ℕ) (f : FileTree) → IsFileOf bytes f
    → AllByRecursion (λ k. AllByRecursion (λ m. is_name m ≡ true) k.members) f.sig.kinds
named-members bytes f file = all-also (IsDeclaredKind f.sig.ops)
    (λ k. AllByRecursion (λ m. is_name m ≡ true) k.members)
    (λ k own. all-also (IsSymbol (sig_with f.sig.ops [])) (λ m. is_name m ≡ true) (λ m s. s.name) k.members own.members)
    f.sig.kinds (read-bytes bytes f file).kinds

-- the conditions of its rules aren't too deep
pub shallow-rules : (bytes : List ℕ) (f : FileTree) → IsFileOf bytes f
    → AllByRecursion (λ r. IsShallowIf r.condition) f.rules
shallow-rules bytes f file = (read-bytes bytes f file).shallow

-- what is printed of a file that was read is read as that file
pub printed-file : (bytes : List ℕ) (f : FileTree) → IsFileOf bytes f → IsFileOf (file_text f) f
printed-file bytes f file =
    let h = read-bytes bytes f file in
    let front = all-map (IsSoundItem f.sig) IsRead (item_spelling f.sig) (read-item f h) (items f) (sound-items f h) in
    let back = all-map (IsSoundEditSet f.sig f.subjects) IsRead (edit_set_spelling f.sig f.subjects) (read-set f h)
    f.edits h.sound.edits in
    let all = subst (AllByRecursion IsRead) (sym (spelling-file f h))
    (all-append IsRead (map (item_spelling f.sig) (items f)) (edits_spelling f) front back) in
    let again = file-again f (names-all (file_spelling f) all) (fits-all (file_spelling f) all) in
    let parts = split-map unplaced again.0 (map unplaced (map (item_spelling f.sig) (items f)))
    (map unplaced (edits_spelling f))
    (again.2 ∙ ap (map unplaced) (spelling-file f h)
    ∙ map-append unplaced (map (item_spelling f.sig) (items f)) (edits_spelling f)) in
    let spell = items-alike f.sig (has-ops f h) (items f) parts.front (sound-items f h) parts.first in
    let sets = sets-alike f h f.edits parts.back h.sound.edits parts.second in
    record {
      statements = again.0;
      syntax = again.1;
      faultless = ap faults parts.whole ∙ faults-spell f h parts.front parts.back spell sets;
      file = sym (ap file_tree_of parts.whole ∙ file-spells f h parts.front parts.back spell sets);
    }
