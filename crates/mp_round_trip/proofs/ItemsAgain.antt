-- What spells the declarations, rules and subjects of a file stands for them and has no faults, where they are sound.
use Rattle.std.proofs.Common.{◌≡◌, ◌≤◌, ◌<◌, ℕ, ◌-◌, Bool, true, false, not, List, [], ◌∷◌, ◌++◌, map}
use Rattle.std.proofs.Common.{length, Option, Some, None, refl, sym, ap, subst, ◌∙◌, arith, length-append, append_assoc}
use Rattle.std.specs.Prelude.{codes}
use Rattle.std.specs.List.{list_all, list_any, AllByRecursion}
use Rattle.std.specs.Str.{bytes_eq}
use Rattle.std.proofs.lemmas.List.{map-append}
use Rattle.std.proofs.lemmas.Bool.{not-true}
use Rattle.mp_io.specs.Devices.{Text}
use Rattle.mp_pattern.specs.declared.limits.TheConstants.{MAX_RULES, MAX_SUBJECTS}
use Rattle.mp_term.specs.declared.limits.TheConstants.{MAX_OPS, MAX_KINDS, MAX_KIND_SYMBOLS}
use Rattle.mp_term.specs.declared.signature.OpDecl.{OpDecl}
use Rattle.mp_term.specs.Names.{are_distinct, name_set}
use Rattle.mp_term.specs.Signature.{Sig, Kind, clashes, none_clash, kind_names}
use Rattle.mp_term.specs.Normal.{normal}
use Rattle.mp_pattern.specs.Normal.{normal_pattern}
use Rattle.mp_pattern.specs.Admission.{Rule}
use Rattle.mp_pattern.specs.SoundRule.{IsSoundRule}
use Rattle.mp_parser.specs.Syntax.{Tree, Condition, Statement, OpOf, KindOf, RuleOf, SubjectOf, EditOf}
use Rattle.mp_syntax.specs.Printed.{unplaced_spot, unplaced}
use Rattle.mp_build.specs.declared.fault.TextFault.{TextFault}
use Rattle.mp_text.specs.Subject.{Subject}
use Rattle.mp_text.specs.File.{FileTree}
use Rattle.mp_build.specs.Build.{op_decl, op_decls, kind_decls, sig_with}
use Rattle.mp_text.specs.Subjects.{subjects_of}
use Rattle.mp_text.specs.FileBuild.{rules_of}
use Rattle.mp_build.specs.Checks.{is_large_term, term_faults, whole_pattern_faults, name_faults}
use Rattle.mp_build.specs.Checks.{op_statement_faults, kind_statement_faults, faults_by}
use Rattle.mp_build.specs.TemplateChecks.{arrow_faults}
use Rattle.mp_text.specs.FileChecks.{rule_faults, is_large_rule, statement_faults}
use Rattle.mp_text.specs.EditStatements.{edit_sets_behind}
use Rattle.mp_build.specs.Scope.{pattern_variables}
use Rattle.mp_build.specs.ConditionChecks.{if_faults}
use Rattle.mp_build.specs.Flags.{some_flag_twice}
use Rattle.mp_build.specs.Names.{is_among, rule_names, subject_names}
use Rattle.mp_text.specs.Sound.{IsSoundSubject}
use Rattle.mp_round_trip.specs.Spelled.{piece, op_spelling, kind_spelling, rule_spelling, subject_spelling}
use Rattle.mp_build.proofs.Declared.{bytes_eq_comm, kind_decls-append}
use Rattle.mp_build.proofs.Faultless.{nil-both}
use Rattle.mp_build.proofs.Words.{first-of, second-of}
use Rattle.mp_text.proofs.DeclaredParts.{IsDeclaredOp, IsDeclaredKind}
use Rattle.mp_round_trip.proofs.SpelledHead.{HasOps}
use Rattle.mp_round_trip.specs.OpenBrackets.{IsShallowIf}
use Rattle.mp_round_trip.proofs.SpelledDeclarations.{name_set-names_ascend, op_decl-alike}
use Rattle.mp_round_trip.proofs.SpelledDeclarations.{kind_decl-alike, none-name_faults, none-op_faults}
use Rattle.mp_round_trip.proofs.SpelledDeclarations.{none-kind_faults}
use Rattle.mp_round_trip.proofs.Spells.{SpellsTerm, SpellsPattern, SpellsArrow, SpellsIf}
use Rattle.mp_round_trip.proofs.TemplateAgain.{IsArrowAgain, arrow-again}
use Rattle.mp_round_trip.proofs.TermAgain.{term_of-spells, term_faults-spells, is_large_term-spells}
use Rattle.mp_round_trip.proofs.PatternAgain.{pattern_of-spells, whole_pattern_faults-spells}
use Rattle.mp_round_trip.proofs.PatternAgain.{is_large_pattern-spells, readable-pattern}
use Rattle.mp_round_trip.proofs.ScopeAgain.{name-variables, bound-spells, single-spells, extent-spells}
use Rattle.mp_round_trip.proofs.ScopedCondition.{HasScopedCondition, scoped-if}
use Rattle.mp_round_trip.proofs.ConditionAgain.{IsConditionAgain, condition-again}
use Rattle.mp_round_trip.proofs.Unplaced.{text-alike, term-alike, pattern-alike, arrow-alike, if-alike}

-- ---- lists

list_all-middle : {X : Type 0} (p : X → Bool) (xs : List X) (y : X) (zs : List X) → list_all p (xs ++ y ∷ zs) ≡ true
    → p y ≡ true
list_all-middle p [] y zs h = first-of (p y) (list_all p zs) h
list_all-middle p (x ∷ xs) y zs h = list_all-middle p xs y zs (second-of (p x) (list_all p (xs ++ y ∷ zs)) h)

-- a name is none of those before it, where names differ
new-name : (ns : List Text) (n : Text) (ms : List Text) → are_distinct (ns ++ n ∷ ms) ≡ true → is_among n ns ≡ false
new-name [] n ms h = refl
new-name (m ∷ ns) n ms h =
    let apart = list_all-middle (λ x. not (bytes_eq x m)) ns n ms
    (first-of (list_all (λ x. not (bytes_eq x m)) (ns ++ n ∷ ms)) (are_distinct (ns ++ n ∷ ms)) h) in
    let other : bytes_eq m n ≡ false = bytes_eq_comm m n ∙ not-true (bytes_eq n m) apart in
    rw other
    (new-name ns n ms
    (second-of (list_all (λ x. not (bytes_eq x m)) (ns ++ n ∷ ms)) (are_distinct (ns ++ n ∷ ms)) h))

-- an operation clashes with none before it, where none clash
new-op : (ds : List OpDecl) (d : OpDecl) (es : List OpDecl) → none_clash (ds ++ d ∷ es) ≡ true
    → list_any (clashes d) ds ≡ false
new-op [] d es h = refl
new-op (c ∷ ds) d es h =
    let apart = list_all-middle (λ x. not (clashes x c)) ds d es
    (first-of (list_all (λ x. not (clashes x c)) (ds ++ d ∷ es)) (none_clash (ds ++ d ∷ es)) h) in
    let other : clashes d c ≡ false = not-true (clashes d c) apart in
    rw other
    (new-op ds d es (second-of (list_all (λ x. not (clashes x c)) (ds ++ d ∷ es)) (none_clash (ds ++ d ∷ es)) h))

-- ---- the items of a file

-- what a statement says
pub data Item : Type 0 where
  an_op : OpDecl → Item
  a_kind : Kind → Item
  a_rule : Rule → Item
  a_subject : Subject → Item

abbrev pub ops_of : List Item → List OpDecl
ops_of [] = []
ops_of (an_op d ∷ xs) = d ∷ ops_of xs
ops_of (_ ∷ xs) = ops_of xs

abbrev pub kinds_of : List Item → List Kind
kinds_of [] = []
kinds_of (a_kind k ∷ xs) = k ∷ kinds_of xs
kinds_of (_ ∷ xs) = kinds_of xs

abbrev pub rules_in : List Item → List Rule
rules_in [] = []
rules_in (a_rule r ∷ xs) = r ∷ rules_in xs
rules_in (_ ∷ xs) = rules_in xs

abbrev pub subjects_in : List Item → List Subject
subjects_in [] = []
subjects_in (a_subject s ∷ xs) = s ∷ subjects_in xs
subjects_in (_ ∷ xs) = subjects_in xs

-- the items of a file, in order
abbrev pub items : FileTree → List Item
items f = map an_op f.sig.ops ++ (map a_kind f.sig.kinds ++ (map a_rule f.rules ++ map a_subject f.subjects))

-- they give its operations, kinds, rules and subjects
pub record Gives (xs : List Item) (ds : List OpDecl) (ks : List Kind) (rs : List Rule)
    (ts : List Subject) : Type 0 where
  pub ops : ops_of xs ≡ ds
  pub kinds : kinds_of xs ≡ ks
  pub rules : rules_in xs ≡ rs
  pub subjects : subjects_in xs ≡ ts

gives-subjects : (ts : List Subject) → Gives (map a_subject ts) [] [] [] ts
gives-subjects [] = record { ops = refl; kinds = refl; rules = refl; subjects = refl }
gives-subjects (t ∷ ts) = let r = gives-subjects ts in
    record { ops = r.ops; kinds = r.kinds; rules = r.rules; subjects = ap (λ l. t ∷ l) r.subjects }

gives-rules : (rs : List Rule) (ts : List Subject) → Gives (map a_rule rs ++ map a_subject ts) [] [] rs ts
gives-rules [] ts = gives-subjects ts
gives-rules (x ∷ rs) ts = let r = gives-rules rs ts in
    record { ops = r.ops; kinds = r.kinds; rules = ap (λ l. x ∷ l) r.rules; subjects = r.subjects }

gives-kinds : (ks : List Kind) (rs : List Rule) (ts : List Subject)
    → Gives (map a_kind ks ++ (map a_rule rs ++ map a_subject ts)) [] ks rs ts
gives-kinds [] rs ts = gives-rules rs ts
gives-kinds (k ∷ ks) rs ts = let r = gives-kinds ks rs ts in
    record { ops = r.ops; kinds = ap (λ l. k ∷ l) r.kinds; rules = r.rules; subjects = r.subjects }

pub gives-items : (ds : List OpDecl) (ks : List Kind) (rs : List Rule) (ts : List Subject)
    → Gives (map an_op ds ++ (map a_kind ks ++ (map a_rule rs ++ map a_subject ts))) ds ks rs ts
gives-items [] ks rs ts = gives-kinds ks rs ts
gives-items (d ∷ ds) ks rs ts = let r = gives-items ds ks rs ts in
    record { ops = ap (λ l. d ∷ l) r.ops; kinds = r.kinds; rules = r.rules; subjects = r.subjects }

module _ (sig : Sig) where
  -- the statement of an item
  abbrev pub item_spelling : Item → Statement
  item_spelling (an_op d) = op_spelling d
  item_spelling (a_kind k) = kind_spelling k
  item_spelling (a_rule r) = rule_spelling sig r
  item_spelling (a_subject s) = subject_spelling sig s

  -- a statement spells an item: a relation of texts alone
  abbrev SpellsItem : Statement → Item → Type 0
  SpellsItem (OpOf name least more flags) (an_op d) =
      (op_decl name least more flags ≡ d) × (some_flag_twice flags ≡ false)
  SpellsItem (KindOf name members) (a_kind k) = (name.text ≡ k.name) × (map (λ m. m.text) members ≡ k.members)
  SpellsItem (RuleOf name e x c) (a_rule r) = (name.text ≡ r.name) × SpellsPattern sig e r.pattern
      × SpellsArrow sig x r.template × SpellsIf sig c r.condition
  SpellsItem (SubjectOf name e) (a_subject s) = (name.text ≡ s.name) × SpellsTerm sig e s.term
  SpellsItem _ _ = ⊥

  abbrev pub SpellItems : List Statement → List Item → Type 0
  SpellItems [] [] = Unit {0}
  SpellItems (s ∷ ss) (x ∷ xs) = SpellsItem s x × SpellItems ss xs
  SpellItems _ _ = ⊥

  -- what is sound of an item
  abbrev pub IsSoundItem : Item → Type 0
  IsSoundItem (an_op d) = IsDeclaredOp d
  IsSoundItem (a_kind k) = IsDeclaredKind sig.ops k
  IsSoundItem (a_rule r) = IsSoundRule sig r × IsShallowIf r.condition
  IsSoundItem (a_subject s) = IsSoundSubject sig s

  -- the variables of the condition of a rule have names
  pub named-condition : (r : Rule) → IsSoundRule sig r → HasScopedCondition sig None r.condition
  named-condition r h = scoped-if sig r.pattern None (λ x known. name-variables sig r.pattern h.pattern.formed x known)
      (λ x known one. tt) r.condition h.condition

  module _ (has : HasOps sig) where
    -- what is the statement of an item apart from places spells it
    item-alike : (x : Item) (s : Statement) → IsSoundItem x → unplaced s ≡ unplaced (item_spelling x) → SpellsItem s x
    item-alike (an_op d) (OpOf name least more flags) h e = op_decl-alike d h.small name least more flags e
    item-alike (a_kind k) (KindOf name members) h e = kind_decl-alike k name members e
    item-alike (a_rule r) (RuleOf name p x c) h e =
        let spot : unplaced_spot name ≡ unplaced_spot (piece r.name) = cc in (
          text-alike name (piece r.name) spot,
          pattern-alike sig has r.pattern p h.0.pattern.formed cc,
          arrow-alike sig has r.pattern r.template x h.0.template cc,
          if-alike sig has None r.condition c (named-condition r h.0) cc,
        )
    item-alike (a_subject s) (SubjectOf name t) h e =
        let spot : unplaced_spot name ≡ unplaced_spot (piece s.name) = cc in
        (text-alike name (piece s.name) spot, term-alike sig has s.term t h.term.formed cc)
    item-alike _ _ h e = absurd cc

    pub items-alike : (xs : List Item) (ss : List Statement) → AllByRecursion IsSoundItem xs
        → map unplaced ss ≡ map unplaced (map item_spelling xs) → SpellItems ss xs
    items-alike [] [] h e = tt
    items-alike (x ∷ xs) (s ∷ ss) h e = (item-alike x s h.0 cc, items-alike xs ss h.1 cc)
    items-alike _ _ h e = absurd cc

  -- ---- what statements stand for

  pub op_decls-spell : (ss : List Statement) (xs : List Item) → SpellItems ss xs → op_decls ss ≡ ops_of xs
  op_decls-spell [] [] s = refl
  op_decls-spell (OpOf name least more flags ∷ ss) (an_op d ∷ xs) s = λ i. s.0.0 i ∷ op_decls-spell ss xs s.1 i
  op_decls-spell (KindOf name members ∷ ss) (a_kind k ∷ xs) s = op_decls-spell ss xs s.1
  op_decls-spell (RuleOf name e x c ∷ ss) (a_rule r ∷ xs) s = op_decls-spell ss xs s.1
  op_decls-spell (SubjectOf name e ∷ ss) (a_subject t ∷ xs) s = op_decls-spell ss xs s.1
  op_decls-spell [] (x ∷ xs) s = absurd s
  op_decls-spell (t ∷ ss) [] s = absurd s
  op_decls-spell (t ∷ ss) (x ∷ xs) s = absurd s.0

  pub kind_decls-spell : (ss : List Statement) (xs : List Item) → SpellItems ss xs → AllByRecursion IsSoundItem xs
      → kind_decls ss ≡ kinds_of xs
  kind_decls-spell [] [] s h = refl
  kind_decls-spell (OpOf name least more flags ∷ ss) (an_op d ∷ xs) s h = kind_decls-spell ss xs s.1 h.1
  kind_decls-spell (KindOf name members ∷ ss) (a_kind k ∷ xs) s h =
      λ i. record { name = s.0.0 i; members = (ap name_set s.0.1 ∙ name_set-names_ascend k.members h.0.ascend) i }
      ∷ kind_decls-spell ss xs s.1 h.1 i
  kind_decls-spell (RuleOf name e x c ∷ ss) (a_rule r ∷ xs) s h = kind_decls-spell ss xs s.1 h.1
  kind_decls-spell (SubjectOf name e ∷ ss) (a_subject t ∷ xs) s h = kind_decls-spell ss xs s.1 h.1
  kind_decls-spell [] (x ∷ xs) s h = absurd s
  kind_decls-spell (t ∷ ss) [] s h = absurd s
  kind_decls-spell (t ∷ ss) (x ∷ xs) s h = absurd s.0

  -- the template of a rule over the variables of its pattern
  arrow-spells : (e : Tree) (x : Option Tree) (r : Rule) → SpellsPattern sig e r.pattern → SpellsArrow sig x r.template
      → IsSoundRule sig r → IsArrowAgain sig (pattern_variables e) x r.template
  arrow-spells e x r s t h =
      arrow-again sig r.pattern (pattern_variables e)
      (λ y known. bound-spells sig e r.pattern s h.pattern.formed y known)
      (λ y known one. single-spells sig e r.pattern s h.pattern.formed y known one)
      (λ y known. extent-spells sig e r.pattern s h.pattern.formed y known) x r.template t h.template

  -- a condition of a rule over the variables of its pattern
  condition-spells : (e : Tree) (c : Option Condition) (r : Rule) → SpellsPattern sig e r.pattern
      → SpellsIf sig c r.condition → IsSoundRule sig r → IsConditionAgain sig (Some (pattern_variables e)) c r.condition
  condition-spells e c r s t h =
      condition-again sig (Some (pattern_variables e)) c r.condition t
      (scoped-if sig r.pattern (Some (pattern_variables e))
      (λ x known. (
        name-variables sig r.pattern h.pattern.formed x known,
        bound-spells sig e r.pattern s h.pattern.formed x known,
      ))
      (λ x known one. single-spells sig e r.pattern s h.pattern.formed x known one) r.condition h.condition)

  pub rules_of-spell : (ss : List Statement) (xs : List Item) → SpellItems ss xs → AllByRecursion IsSoundItem xs
      → rules_of sig ss ≡ rules_in xs
  rules_of-spell [] [] s h = refl
  rules_of-spell (OpOf name least more flags ∷ ss) (an_op d ∷ xs) s h = rules_of-spell ss xs s.1 h.1
  rules_of-spell (KindOf name members ∷ ss) (a_kind k ∷ xs) s h = rules_of-spell ss xs s.1 h.1
  rules_of-spell (RuleOf name e x c ∷ ss) (a_rule r ∷ xs) s h =
      let same = ap (normal_pattern sig) (pattern_of-spells sig e r.pattern s.0.1 h.0.0.pattern.formed)
      ∙ h.0.0.pattern.normal in
      let template = arrow-spells e x r s.0.1 s.0.2 h.0.0 in
      let condition = condition-spells e c r s.0.1 s.0.3 h.0.0 in
      λ i. record { name = s.0.0 i; pattern = same i; template = template.is i; condition = condition.is i }
      ∷ rules_of-spell ss xs s.1 h.1 i
  rules_of-spell (SubjectOf name e ∷ ss) (a_subject t ∷ xs) s h = rules_of-spell ss xs s.1 h.1
  rules_of-spell [] (x ∷ xs) s h = absurd s
  rules_of-spell (t ∷ ss) [] s h = absurd s
  rules_of-spell (t ∷ ss) (x ∷ xs) s h = absurd s.0

  pub subjects_of-spell : (ss : List Statement) (xs : List Item) → SpellItems ss xs → AllByRecursion IsSoundItem xs
      → subjects_of sig ss ≡ subjects_in xs
  subjects_of-spell [] [] s h = refl
  subjects_of-spell (OpOf name least more flags ∷ ss) (an_op d ∷ xs) s h = subjects_of-spell ss xs s.1 h.1
  subjects_of-spell (KindOf name members ∷ ss) (a_kind k ∷ xs) s h = subjects_of-spell ss xs s.1 h.1
  subjects_of-spell (RuleOf name e x c ∷ ss) (a_rule r ∷ xs) s h = subjects_of-spell ss xs s.1 h.1
  subjects_of-spell (SubjectOf name e ∷ ss) (a_subject t ∷ xs) s h =
      let same = ap (normal sig) (term_of-spells sig e t.term s.0.1) ∙ h.0.term.normal in
      λ i. record { name = s.0.0 i; term = same i } ∷ subjects_of-spell ss xs s.1 h.1 i
  subjects_of-spell [] (x ∷ xs) s h = absurd s
  subjects_of-spell (t ∷ ss) [] s h = absurd s
  subjects_of-spell (t ∷ ss) (x ∷ xs) s h = absurd s.0

  -- none of them is an edit statement
  pub edit_sets-spell : (earlier ss : List Statement) (xs : List Item) → SpellItems ss xs
      → edit_sets_behind sig earlier ss ≡ []
  edit_sets-spell earlier [] [] s = refl
  edit_sets-spell earlier (OpOf name least more flags ∷ ss) (an_op d ∷ xs) s = edit_sets-spell _ ss xs s.1
  edit_sets-spell earlier (KindOf name members ∷ ss) (a_kind k ∷ xs) s = edit_sets-spell _ ss xs s.1
  edit_sets-spell earlier (RuleOf name e x c ∷ ss) (a_rule r ∷ xs) s = edit_sets-spell _ ss xs s.1
  edit_sets-spell earlier (SubjectOf name e ∷ ss) (a_subject t ∷ xs) s = edit_sets-spell _ ss xs s.1
  edit_sets-spell earlier [] (x ∷ xs) s = absurd s
  edit_sets-spell earlier (t ∷ ss) [] s = absurd s
  edit_sets-spell earlier (t ∷ ss) (x ∷ xs) s = absurd s.0

  -- ---- they have no faults

  -- a rule that each statement keeps which they spell, where what is good of it and those behind it stays good behind
  -- it
  pub none-by : (Good : List Statement → List Statement → Type 0)
      → ((earlier : List Statement) (s : Statement) (ss : List Statement) → Good earlier (s ∷ ss)
      → Good (earlier ++ s ∷ []) ss)
      → (rule : List Statement → Statement → List TextFault)
      → ((earlier : List Statement) (s : Statement) (ss : List Statement) (x : Item) → SpellsItem s x
      → IsSoundItem x → Good earlier (s ∷ ss) → rule earlier s ≡ [])
      → (earlier ss : List Statement) (xs : List Item) → SpellItems ss xs → AllByRecursion IsSoundItem xs
      → Good earlier ss → faults_by rule earlier ss ≡ []
  none-by Good behind rule each earlier [] xs s h good = refl
  none-by Good behind rule each earlier (t ∷ ss) (x ∷ xs) s h good =
      nil-both (rule earlier t) (faults_by rule (earlier ++ t ∷ []) ss) (each earlier t ss x s.0 h.0 good)
      (none-by Good behind rule each (earlier ++ t ∷ []) ss xs s.1 h.1 (behind earlier t ss good))
  none-by Good behind rule each earlier (t ∷ ss) [] s h good = absurd s

  -- what these statements give behind earlier ones differs, and is at most so much
  pub record Good {Y : Type 0} (given : List Statement → List Y) (Differ : List Y → Type 0) (most : ℕ)
      (earlier ss : List Statement) : Type 0 where
    pub differ : Differ (given earlier ++ given ss)
    pub few : length (given earlier ++ given ss) ≤ most

  pub good-behind : {Y : Type 0} (given : List Statement → List Y) (Differ : List Y → Type 0) (most : ℕ)
      → ((a b : List Statement) → given (a ++ b) ≡ given a ++ given b)
      → (earlier : List Statement) (s : Statement) (ss : List Statement) → Good given Differ most earlier (s ∷ ss)
      → Good given Differ most (earlier ++ s ∷ []) ss
  good-behind given Differ most law earlier s ss h =
      let same : given earlier ++ given (s ∷ ss) ≡ given (earlier ++ s ∷ []) ++ given ss =
      ap (λ l. given earlier ++ l) (law (s ∷ []) ss) ∙ sym (append_assoc (given earlier) (given (s ∷ [])) (given ss))
      ∙ ap (λ l. l ++ given ss) (sym (law earlier (s ∷ []))) in
      record { differ = subst Differ same h.differ; few = subst (λ l. length l ≤ most) same h.few }

  pub none-op : (earlier : List Statement) (s : Statement) (ss : List Statement) (x : Item) → SpellsItem s x
      → IsSoundItem x → Good op_decls (λ ds. none_clash ds ≡ true) MAX_OPS earlier (s ∷ ss)
      → op_statement_faults earlier s ≡ []
  none-op earlier (OpOf name least more flags) ss (an_op d) s h good =
      let room : length (op_decls earlier) < MAX_OPS =
      omega (arith, length-append (op_decls earlier) (op_decls (OpOf name least more flags ∷ ss)), good.few) in
      none-op_faults (op_decls earlier) name least more flags (subst IsDeclaredOp (sym s.0) h) s.1
      (new-op (op_decls earlier) (op_decl name least more flags) (op_decls ss) good.differ) room
  none-op earlier (KindOf name members) ss x s h good = refl
  none-op earlier (RuleOf name e t c) ss x s h good = refl
  none-op earlier (SubjectOf name e) ss x s h good = refl
  none-op earlier (EditOf name cs) ss x s h good = refl
  none-op earlier (OpOf name least more flags) ss _ s h good = absurd s

  -- the names of the kinds that statements declare
  abbrev pub kinds_named : List Statement → List Text
  kinds_named ss = map (λ k. k.name) (kind_decls ss)

  pub kinds_named-append : (a b : List Statement) → kinds_named (a ++ b) ≡ kinds_named a ++ kinds_named b
  kinds_named-append a b = ap (map (λ (k : Kind). k.name)) (kind_decls-append a b)
      ∙ map-append (λ (k : Kind). k.name) (kind_decls a) (kind_decls b)

  pub none-kind : (earlier : List Statement) (s : Statement) (ss : List Statement) (x : Item) → SpellsItem s x
      → IsSoundItem x → Good kinds_named (λ ns. are_distinct (codes "num" ∷ ns) ≡ true) (MAX_KINDS - 1) earlier (s ∷ ss)
      → kind_statement_faults sig.ops earlier s ≡ []
  none-kind earlier (KindOf name members) ss (a_kind k) s h good =
      let room : length (kind_names (sig_with sig.ops earlier)) < MAX_KINDS =
      omega (arith, length-append (kinds_named earlier) (kinds_named (KindOf name members ∷ ss)), good.few) in
      let few : length (map (λ m. m.text) members) ≤ MAX_KIND_SYMBOLS = omega (arith, ap length s.1, h.few) in
      none-kind_faults sig.ops earlier name members (subst (AllByRecursion _) (sym s.1) h.members) few
      (new-name (codes "num" ∷ kinds_named earlier) name.text (kinds_named ss) good.differ) room
  none-kind earlier (OpOf name least more flags) ss x s h good = refl
  none-kind earlier (RuleOf name e t c) ss x s h good = refl
  none-kind earlier (SubjectOf name e) ss x s h good = refl
  none-kind earlier (EditOf name cs) ss x s h good = refl
  none-kind earlier (KindOf name members) ss _ s h good = absurd s

  -- a rule behind rules of other names, and a subject behind subjects of other names
  abbrev pub GoodNames : List Statement → List Statement → Type 0
  GoodNames earlier ss = Good rule_names (λ ns. are_distinct ns ≡ true) MAX_RULES earlier ss
      × Good subject_names (λ ns. are_distinct ns ≡ true) MAX_SUBJECTS earlier ss

  pub none-statement : (earlier : List Statement) (s : Statement) (ss : List Statement) (x : Item) → SpellsItem s x
      → IsSoundItem x → GoodNames earlier (s ∷ ss) → statement_faults sig earlier s ≡ []
  none-statement earlier (OpOf name least more flags) ss x s h good = refl
  none-statement earlier (KindOf name members) ss x s h good = refl
  none-statement earlier (RuleOf name e x c) ss (a_rule r) s h good =
      let template = arrow-spells e x r s.1 s.2 h.0 in
      let condition = condition-spells e c r s.1 s.3 h.0 in
      let readable = readable-pattern sig r.pattern h.0.pattern in
      let room : length (rule_names earlier) < MAX_RULES =
      omega (arith, length-append (rule_names earlier) (rule_names (RuleOf name e x c ∷ ss)), good.0.few) in
      let large = is_large_rule e x c in
      nil-both (name_faults MAX_RULES (rule_names earlier) large name) (rule_faults sig e x c)
      (none-name_faults MAX_RULES (rule_names earlier) large name
      (new-name (rule_names earlier) name.text (rule_names ss) good.0.differ) room
      (rw (is_large_pattern-spells sig e r.pattern s.1 readable, template.small, condition.small) refl))
      (nil-both (whole_pattern_faults sig e) _ (whole_pattern_faults-spells sig e r.pattern s.1 readable)
      (nil-both (arrow_faults (pattern_variables e) sig x) (if_faults sig (Some (pattern_variables e)) c)
      template.faultless condition.faultless))
  none-statement earlier (SubjectOf name e) ss (a_subject t) s h good =
      let room : length (subject_names earlier) < MAX_SUBJECTS =
      omega (arith, length-append (subject_names earlier) (subject_names (SubjectOf name e ∷ ss)), good.1.few) in
      let small = is_large_term-spells sig e t.term s.1 h.term.few_nodes in
      nil-both (name_faults MAX_SUBJECTS (subject_names earlier) (is_large_term e) name) (term_faults sig e)
      (none-name_faults MAX_SUBJECTS (subject_names earlier) (is_large_term e) name
      (new-name (subject_names earlier) name.text (subject_names ss) good.1.differ) room small)
      (term_faults-spells sig e t.term s.1 h.term.formed h.term.symbols)
  none-statement earlier _ ss _ s h good = absurd s
