-- What spells edit statements stands for them and has no faults, where they are sound and stand behind the subjects.
use Rattle.std.proofs.Common.{◌≡◌, ◌≤◌, ◌<◌, ◌+◌, ◌-◌, ℕ, suc, true, false, ◌||◌, not, leb, ltb, List, []}
use Rattle.std.proofs.Common.{◌∷◌, ◌++◌, map, length, Option, Some, None, refl, sym, ap, ◌∙◌, arith, rules}
use Rattle.std.proofs.Common.{append-nil, append_assoc, length-append}
use Rattle.std.specs.Prelude.{flat_map, is_some, min, option_map, option_and_then, position, slice_get}
use Rattle.std.specs.List.{list_any, AllByRecursion}
use Rattle.std.specs.Option.{option_map_or}
use Rattle.std.specs.Str.{bytes_eq}
use Rattle.std.proofs.lemmas.Option.{slice_get-map}
use Rattle.mp_io.specs.Devices.{Text}
use Rattle.mp_term.specs.declared.edit.Edit.{Edit}
use Rattle.mp_term.specs.declared.edit_fault.EditFault.{EditFault}
use Rattle.mp_term.specs.declared.edit_fault.EditFault.TheVariants as edit_faults
use Rattle.mp_term.specs.declared.limits.TheConstants.{MAX_EDITS}
use Rattle.mp_term.specs.Tree as term
use Rattle.mp_term.specs.Size.{depth}
use Rattle.mp_term.specs.Names.{is_name, are_distinct}
use Rattle.mp_term.specs.Signature.{Sig}
use Rattle.mp_term.specs.Normal.{normal}
use Rattle.mp_term.specs.EditFault.{edit_fault}
use Rattle.mp_term.proofs.SignatureLaws.{is_some-position}
use Rattle.mp_term.proofs.NameLaws.{position-distinct}
use Rattle.mp_term.proofs.ListLaws.{all-get}
use Rattle.mp_pattern.specs.declared.limits.TheConstants.{MAX_TERM_NODES, MAX_DEPTH, MAX_INDEX, MAX_EDIT_STATEMENTS}
use Rattle.mp_pattern.specs.SoundRule.{IsSoundTerm}
use Rattle.mp_parser.specs.declared.limits.TheConstants.{MAX_OPEN}
use Rattle.mp_parser.specs.Syntax.{Spot, Tree, Trees, no_trees, more_trees, tree_list, AreFit, FitsListed, FitsPosition}
use Rattle.mp_parser.specs.Syntax.{AreNumbers, FitsReplacement, ChangesFit, HaveNames, AreNames, PositionHasNames}
use Rattle.mp_parser.specs.Syntax.{ReplacementHasNames, ChangesHaveNames, Position, Root, Path, Replacement, Single}
use Rattle.mp_parser.specs.Syntax.{Listed, Change, Statement, EditOf}
use Rattle.mp_syntax.specs.Printed.{unplaced_spot, unplaced_trees, unplaced_position, unplaced_replacement}
use Rattle.mp_syntax.specs.Printed.{unplaced_change}
use Rattle.mp_text.specs.declared.file.EditSet.{EditSet}
use Rattle.mp_text.specs.Subject.{Subject}
use Rattle.mp_build.specs.Names.{is_among, number_of, subject_names}
use Rattle.mp_build.specs.declared.fault.TextFault.{TextFault}
use Rattle.mp_build.specs.Build.{head_number, term_of, op_decls, kind_decls}
use Rattle.mp_text.specs.Subjects.{subjects_of}
use Rattle.mp_text.specs.FileBuild.{rules_of}
use Rattle.mp_build.specs.Checks.{fault_if, is_large_term, term_faults, faults_by}
use Rattle.mp_build.specs.Edits.{index_of, indexes, new_exprs, edit_of}
use Rattle.mp_text.specs.EditStatements.{subject_number, edit_sets_of, edit_sets_behind}
use Rattle.mp_build.specs.Edits.{is_large_edit, made_faults, new_term_faults}
use Rattle.mp_text.specs.EditStatements.{edit_sets, edit_faults_on}
use Rattle.mp_text.specs.EditStatements.{edit_statement_faults}
use Rattle.mp_text.specs.FileChecks.{statement_faults}
use Rattle.mp_text.specs.Sound.{new_depth, IsSoundSubject, IsSoundEdit, IsMakeable, AreOn, IsSoundEditSet}
use Rattle.mp_build.proofs.Declared.{is_among-list_any}
use Rattle.mp_text.proofs.FileSteps.{subjects_of-append}
use Rattle.mp_build.proofs.Faultless.{nil-both, none-fault_if}
use Rattle.mp_text.proofs.Statements.{subject_names-append}
use Rattle.mp_round_trip.specs.Spelled.{index_piece, term_spellings, position_spelling, replacement_spelling}
use Rattle.mp_round_trip.specs.Spelled.{edit_spelling}
use Rattle.mp_round_trip.proofs.Spells.{SpellsTerm}
use Rattle.mp_round_trip.proofs.SpelledHead.{HasOps}
use Rattle.mp_round_trip.proofs.SpelledTerm.{HasNames-term_spelling, Fits-term_spelling}
use Rattle.mp_round_trip.proofs.SpelledDeclarations.{number-written, name-written}
use Rattle.mp_round_trip.proofs.TermAgain.{term_of-spells, term_faults-spells, is_large_term-spells}
use Rattle.mp_round_trip.proofs.Unplaced.{term-alike}

-- ---- positions

-- its indexes are no greater than MAX_INDEX
abbrev AreIndexes : List ℕ → Type 0
AreIndexes = AllByRecursion (λ i. i ≤ MAX_INDEX)

index-alike : (i : ℕ) → i ≤ MAX_INDEX → (w : Spot) → unplaced_spot w ≡ unplaced_spot (index_piece i) → index_of w ≡ i
index-alike i h w e =
    let value : number_of w.text ≡ i = ap (λ (s : Spot). number_of s.text) e ∙ (number-written i h).writes.value in
    ap (λ n. min n (MAX_INDEX + 1)) value ∙ omega (arith, h)

indexes-alike : (is : List ℕ) → AreIndexes is → (ws : List Spot)
    → map unplaced_spot ws ≡ map unplaced_spot (map index_piece is) → map index_of ws ≡ is
indexes-alike [] h [] e = refl
indexes-alike (i ∷ is) h (w ∷ ws) e =
    let first : unplaced_spot w ≡ unplaced_spot (index_piece i) = cc in
    let others : map unplaced_spot ws ≡ map unplaced_spot (map index_piece is) = cc in
    λ k. index-alike i h.0 w first k ∷ indexes-alike is h.1 ws others k
indexes-alike _ h _ e = absurd cc

position-alike : (is : List ℕ) → AreIndexes is → (p : Position)
    → unplaced_position p ≡ unplaced_position (position_spelling is) → indexes p ≡ is
position-alike [] h (Root place) e = refl
position-alike (i ∷ is) h (Path w ws) e =
    let first : unplaced_spot w ≡ unplaced_spot (index_piece i) = cc in
    let others : map unplaced_spot ws ≡ map unplaced_spot (map index_piece is) = cc in
    λ k. index-alike i h.0 w first k ∷ indexes-alike is h.1 ws others k
position-alike _ h _ e = absurd cc

names-indexes : (is : List ℕ) → AreIndexes is → AreNames (map index_piece is)
names-indexes [] h = tt
names-indexes (i ∷ is) h = (name-written i h.0, names-indexes is h.1)

names-position : (is : List ℕ) → AreIndexes is → PositionHasNames (position_spelling is)
names-position [] h = tt
names-position (i ∷ is) h = (name-written i h.0, names-indexes is h.1)

fits-indexes : (is : List ℕ) → AreIndexes is → AreNumbers (map index_piece is)
fits-indexes [] h = tt
fits-indexes (i ∷ is) h = ((number-written i h.0).writes.are_digits, fits-indexes is h.1)

fits-position : (is : List ℕ) → AreIndexes is → FitsPosition (position_spelling is)
fits-position [] h = tt
fits-position (i ∷ is) h = ((number-written i h.0).writes.are_digits, fits-indexes is h.1)

-- no fault is told where edits can be made, or only their size hinders them
none-made : (cs : List Change) (o : Option EditFault) → IsMakeable o → made_faults cs o ≡ []
none-made cs None h = refl
none-made cs (Some (edit_faults.TooLarge n)) h = refl
none-made cs (Some (edit_faults.TooDeep n)) h = refl
none-made cs (Some (edit_faults.BadPosition i)) h = absurd h
none-made cs (Some (edit_faults.Overlap i j)) h = absurd h
none-made cs (Some (edit_faults.Arity i)) h = absurd h
none-made cs (Some edit_faults.Memory) h = absurd h

module _ (sig : Sig) where
  -- ---- what spells edits

  -- expressions spell terms, one by one
  abbrev pub SpellEach : List Tree → List term.Tree → Type 0
  SpellEach [] [] = Unit {0}
  SpellEach (e ∷ es) (t ∷ ts) = SpellsTerm sig e t × SpellEach es ts
  SpellEach _ _ = ⊥

  -- a change spells an edit
  abbrev pub SpellsEdit : Change → Edit → Type 0
  SpellsEdit c e = (indexes c.position ≡ e.position) × SpellEach (new_exprs c.terms) e.terms

  abbrev pub SpellEdits : List Change → List Edit → Type 0
  SpellEdits [] [] = Unit {0}
  SpellEdits (c ∷ cs) (e ∷ es) = SpellsEdit c e × SpellEdits cs es
  SpellEdits _ _ = ⊥

  -- the name of the subject of an edit statement
  abbrev pub subject_name : List Subject → EditSet → Text
  subject_name ss e = option_map_or (λ s. s.name) (slice_get ss e.subject) []

  -- edit statements over the subjects
  abbrev pub SpellsEditSet : List Subject → Statement → EditSet → Type 0
  SpellsEditSet ss (EditOf name cs) e = (name.text ≡ subject_name ss e) × SpellEdits cs e.edits
  SpellsEditSet ss _ e = ⊥

  abbrev pub SpellEditSets : List Subject → List Statement → List EditSet → Type 0
  SpellEditSets ss [] [] = Unit {0}
  SpellEditSets ss (s ∷ b) (e ∷ es) = SpellsEditSet ss s e × SpellEditSets ss b es
  SpellEditSets ss _ _ = ⊥

  -- statements that declare nothing
  pub record OnlyEdits (b : List Statement) : Type 0 where
    pub ops : op_decls b ≡ []
    pub kinds : kind_decls b ≡ []
    pub rules : rules_of sig b ≡ []
    pub subjects : subjects_of sig b ≡ []

  pub only-edits : (ss : List Subject) (b : List Statement) (es : List EditSet) → SpellEditSets ss b es → OnlyEdits b
  only-edits ss [] [] s = record { ops = refl; kinds = refl; rules = refl; subjects = refl }
  only-edits ss (EditOf name cs ∷ b) (e ∷ es) s = let r = only-edits ss b es s.1 in
      record { ops = r.ops; kinds = r.kinds; rules = r.rules; subjects = r.subjects }
  only-edits ss [] (e ∷ es) s = absurd s
  only-edits ss (t ∷ b) [] s = absurd s
  only-edits ss (t ∷ b) (e ∷ es) s = absurd s.0

  -- they have no faults by a rule that looks at no edit statement
  pub faults_by-edits : (ss : List Subject) (rule : List Statement → Statement → List TextFault)
      → ((earlier : List Statement) (name : Spot) (cs : List Change) → rule earlier (EditOf name cs) ≡ [])
      → (earlier b : List Statement) (es : List EditSet) → SpellEditSets ss b es → faults_by rule earlier b ≡ []
  faults_by-edits ss rule none earlier [] [] s = refl
  faults_by-edits ss rule none earlier (EditOf name cs ∷ b) (e ∷ es) s =
      nil-both (rule earlier (EditOf name cs)) _ (none earlier name cs)
      (faults_by-edits ss rule none (earlier ++ EditOf name cs ∷ []) b es s.1)
  faults_by-edits ss rule none earlier [] (e ∷ es) s = absurd s
  faults_by-edits ss rule none earlier (t ∷ b) [] s = absurd s
  faults_by-edits ss rule none earlier (t ∷ b) (e ∷ es) s = absurd s.0

  -- the name of its subject is one
  pub subject_name-is : (ss : List Subject) → AllByRecursion (IsSoundSubject sig) ss → (e : EditSet)
      → IsSoundEditSet sig ss e → is_name (subject_name ss e) ≡ true
  subject_name-is ss all e h = go (slice_get ss e.subject) refl h.makeable
    where
      go : (o : Option Subject) → slice_get ss e.subject ≡ o → AreOn sig e.edits o → is_name (subject_name ss e) ≡ true
      go None k m = absurd m
      go (Some s) k m = ap (λ o. is_name (option_map_or (λ s. s.name) o [])) k
          ∙ (all-get (IsSoundSubject sig) ss e.subject s all k).name

  -- new terms that are sound
  abbrev AreNewTerms : List term.Tree → Type 0
  AreNewTerms = AllByRecursion (IsSoundTerm sig MAX_TERM_NODES)

  -- ---- what is spelled apart from places

  module _ (has : HasOps sig) where
    each-alike : (ts : List term.Tree) (es : Trees) → AreNewTerms ts
        → unplaced_trees es ≡ unplaced_trees (term_spellings sig (term.trees ts)) → SpellEach (tree_list es) ts
    each-alike [] no_trees h e = tt
    each-alike (t ∷ ts) (more_trees d es) h e = (term-alike sig has t d h.0.formed cc, each-alike ts es h.1 cc)
    each-alike _ _ h e = absurd cc

    replacement-alike : (ts : List term.Tree) (r : Replacement) → AreNewTerms ts
        → unplaced_replacement r ≡ unplaced_replacement (replacement_spelling sig ts) → SpellEach (new_exprs r) ts
    replacement-alike [] (Listed es) h e = each-alike [] es h cc
    replacement-alike (t ∷ []) (Single d) h e = (term-alike sig has t d h.0.formed cc, tt)
    replacement-alike (t ∷ u ∷ ts) (Listed es) h e = each-alike (t ∷ u ∷ ts) es h cc
    replacement-alike _ _ h e = absurd cc

    edit-alike : (e : Edit) (c : Change) → IsSoundEdit sig e → unplaced_change c ≡ unplaced_change (edit_spelling sig e)
        → SpellsEdit c e
    edit-alike e c h k = (
      position-alike e.position h.indexes c.position (ap (λ c. c.position) k),
      replacement-alike e.terms c.terms h.terms (ap (λ c. c.terms) k),
    )

    pub edits-alike : (es : List Edit) (cs : List Change) → AllByRecursion (IsSoundEdit sig) es
        → map unplaced_change cs ≡ map unplaced_change (map (edit_spelling sig) es) → SpellEdits cs es
    edits-alike [] [] h k = tt
    edits-alike (e ∷ es) (c ∷ cs) h k = (edit-alike e c h.0 cc, edits-alike es cs h.1 cc)
    edits-alike _ _ h k = absurd cc

    -- ---- its names and its brackets

    names-each : (ts : List term.Tree) → AreNewTerms ts → HaveNames (term_spellings sig (term.trees ts))
    names-each [] h = tt
    names-each (t ∷ ts) h = (HasNames-term_spelling sig has t h.0.formed h.0.symbols, names-each ts h.1)

    names-replacement : (ts : List term.Tree) → AreNewTerms ts → ReplacementHasNames (replacement_spelling sig ts)
    names-replacement [] h = tt
    names-replacement (t ∷ []) h = HasNames-term_spelling sig has t h.0.formed h.0.symbols
    names-replacement (t ∷ u ∷ ts) h = names-each (t ∷ u ∷ ts) h

    pub names-edits : (es : List Edit) → AllByRecursion (IsSoundEdit sig) es
        → ChangesHaveNames (map (edit_spelling sig) es)
    names-edits [] h = tt
    names-edits (e ∷ es) h =
        (names-position e.position h.0.indexes, names-replacement e.terms h.0.terms, names-edits es h.1)

    fits-each : (room : ℕ) (ts : List term.Tree) → AreNewTerms ts → AllByRecursion (λ t. depth t ≤ room) ts
        → AreFit room (term_spellings sig (term.trees ts))
    fits-each room [] h few = tt
    fits-each room (t ∷ ts) h few =
        (Fits-term_spelling sig has t room h.0.formed few.0, fits-each room ts h.1 few.1)

    fits-listed : (ts : List term.Tree) → AreNewTerms ts → AllByRecursion (λ t. depth t ≤ MAX_DEPTH - 1) ts
        → FitsListed MAX_OPEN (term_spellings sig (term.trees ts))
    fits-listed ts h few = fits-each (MAX_DEPTH - 1) ts h few

    fits-replacement : (ts : List term.Tree) → AreNewTerms ts → AllByRecursion (λ t. depth t ≤ new_depth ts) ts
        → FitsReplacement MAX_OPEN (replacement_spelling sig ts)
    fits-replacement [] h few = fits-listed [] h tt
    fits-replacement (t ∷ []) h few = Fits-term_spelling sig has t MAX_DEPTH h.0.formed few.0
    fits-replacement (t ∷ u ∷ ts) h few = fits-listed (t ∷ u ∷ ts) h few

    pub fits-edits : (es : List Edit) → AllByRecursion (IsSoundEdit sig) es
        → ChangesFit MAX_OPEN (map (edit_spelling sig) es)
    fits-edits [] h = tt
    fits-edits (e ∷ es) h = (
      fits-position e.position h.0.indexes,
      fits-replacement e.terms h.0.terms h.0.shallow,
      fits-edits es h.1,
    )

  -- ---- what it stands for

  each-value : (es : List Tree) (ts : List term.Tree) → SpellEach es ts → AreNewTerms ts
      → map (λ t. normal sig (term_of sig t)) es ≡ ts
  each-value [] [] s h = refl
  each-value (e ∷ es) (t ∷ ts) s h =
      λ k. (ap (normal sig) (term_of-spells sig e t s.0) ∙ h.0.normal) k ∷ each-value es ts s.1 h.1 k
  each-value _ _ s h = absurd s

  edit-value : (c : Change) (e : Edit) → SpellsEdit c e → IsSoundEdit sig e → edit_of sig c ≡ e
  edit-value c e s h = λ k. record { position = s.0 k; terms = each-value (new_exprs c.terms) e.terms s.1 h.terms k }

  edits-value : (cs : List Change) (es : List Edit) → SpellEdits cs es → AllByRecursion (IsSoundEdit sig) es
      → map (edit_of sig) cs ≡ es
  edits-value [] [] s h = refl
  edits-value (c ∷ cs) (e ∷ es) s h = λ k. edit-value c e s.0 h.0 k ∷ edits-value cs es s.1 h.1 k
  edits-value _ _ s h = absurd s

  -- ---- it has no faults

  each-small : (es : List Tree) (ts : List term.Tree) → SpellEach es ts → AreNewTerms ts
      → list_any is_large_term es ≡ false
  each-small [] [] s h = refl
  each-small (e ∷ es) (t ∷ ts) s h =
      ap (λ b. b || list_any is_large_term es) (is_large_term-spells sig e t s.0 h.0.few_nodes)
      ∙ each-small es ts s.1 h.1
  each-small _ _ s h = absurd s

  edits-small : (cs : List Change) (es : List Edit) → SpellEdits cs es → AllByRecursion (IsSoundEdit sig) es
      → list_any (λ c. list_any is_large_term (new_exprs c.terms)) cs ≡ false
  edits-small [] [] s h = refl
  edits-small (c ∷ cs) (e ∷ es) s h =
      ap (λ b. b || list_any (λ c. list_any is_large_term (new_exprs c.terms)) cs)
      (each-small (new_exprs c.terms) e.terms s.0.1 h.0.terms)
      ∙ edits-small cs es s.1 h.1
  edits-small _ _ s h = absurd s

  each-faultless : (es : List Tree) (ts : List term.Tree) → SpellEach es ts → AreNewTerms ts
      → flat_map (term_faults sig) es ≡ []
  each-faultless [] [] s h = refl
  each-faultless (e ∷ es) (t ∷ ts) s h =
      nil-both (term_faults sig e) (flat_map (term_faults sig) es)
      (term_faults-spells sig e t s.0 h.0.formed h.0.symbols) (each-faultless es ts s.1 h.1)
  each-faultless _ _ s h = absurd s

  edits-faultless : (cs : List Change) (es : List Edit) → SpellEdits cs es → AllByRecursion (IsSoundEdit sig) es
      → flat_map (new_term_faults sig) cs ≡ []
  edits-faultless [] [] s h = refl
  edits-faultless (c ∷ cs) (e ∷ es) s h =
      nil-both (new_term_faults sig c) (flat_map (new_term_faults sig) cs)
      (each-faultless (new_exprs c.terms) e.terms s.0.1 h.0.terms) (edits-faultless cs es s.1 h.1)
  edits-faultless _ _ s h = absurd s

  length-edits : (cs : List Change) (es : List Edit) → SpellEdits cs es → length cs ≡ length es
  length-edits [] [] s = refl
  length-edits (c ∷ cs) (e ∷ es) s = ap suc (length-edits cs es s.1)
  length-edits _ _ s = absurd s

  -- ---- behind the subjects

  -- the statement behind earlier ones adds its edit statements behind theirs
  edit_sets_behind-append : (earlier a b : List Statement)
      → edit_sets_behind sig earlier (a ++ b) ≡ edit_sets_behind sig earlier a ++ edit_sets_behind sig (earlier ++ a) b
  edit_sets_behind-append earlier [] b = ap (λ l. edit_sets_behind sig l b) (sym (append-nil earlier))
  edit_sets_behind-append earlier (s ∷ a) b =
      ap (λ l. edit_sets_of sig earlier s ++ l) (edit_sets_behind-append (earlier ++ s ∷ []) a b
      ∙ ap (λ l. edit_sets_behind sig (earlier ++ s ∷ []) a ++ edit_sets_behind sig l b)
      (append_assoc earlier (s ∷ []) a))
      ∙ sym (append_assoc (edit_sets_of sig earlier s) (edit_sets_behind sig (earlier ++ s ∷ []) a) _)

  pub edit_sets-append : (a b : List Statement) → edit_sets sig (a ++ b) ≡ edit_sets sig a ++ edit_sets_behind sig a b
  edit_sets-append a b = edit_sets_behind-append [] a b

  module _ (ss : List Subject) (distinct : are_distinct (map (λ s. s.name) ss) ≡ true) where
    -- statements that declare these subjects
    pub record Declare (earlier : List Statement) : Type 0 where
      pub names : subject_names earlier ≡ map (λ s. s.name) ss
      pub subjects : subjects_of sig earlier ≡ ss

    declare-behind : (earlier : List Statement) (name : Spot) (cs : List Change) → Declare earlier
        → Declare (earlier ++ EditOf name cs ∷ [])
    declare-behind earlier name cs h = record {
      names = subject_names-append earlier (EditOf name cs ∷ []) ∙ append-nil (subject_names earlier) ∙ h.names;
      subjects = subjects_of-append sig earlier (EditOf name cs ∷ []) ∙ append-nil (subjects_of sig earlier)
          ∙ h.subjects;
    }

    -- the subject of an edit statement that is sound
    record IsOn (e : EditSet) : Type 0 where
      subject : Subject
      here : slice_get ss e.subject ≡ Some subject
      makeable : IsMakeable (edit_fault sig subject.term e.edits)

    on-subject : (e : EditSet) → IsSoundEditSet sig ss e → IsOn e
    on-subject e h = go (slice_get ss e.subject) refl h.makeable
      where
        go : (o : Option Subject) → slice_get ss e.subject ≡ o → AreOn sig e.edits o → IsOn e
        go None k m = absurd m
        go (Some s) k m = record { subject = s; here = k; makeable = m }

    -- it is found by its name
    found : (earlier : List Statement) (name : Spot) (e : EditSet) → Declare earlier → name.text ≡ subject_name ss e
        → IsOn e → subject_number earlier name ≡ Some e.subject
    found earlier name e h same on =
        let own : name.text ≡ on.subject.name = same ∙ ap (λ o. option_map_or (λ s. s.name) o []) on.here in
        let here : slice_get (map (λ s. s.name) ss) e.subject ≡ Some on.subject.name =
        slice_get-map (λ (s : Subject). s.name) ss e.subject ∙ ap (option_map (λ s. s.name)) on.here in
        ap (position (bytes_eq name.text)) h.names
        ∙ ap (λ n. position (bytes_eq n) (map (λ s. s.name) ss)) own
        ∙ position-distinct (map (λ s. s.name) ss) e.subject on.subject.name distinct here

    -- the edit statement that it adds
    set-value : (earlier : List Statement) (name : Spot) (cs : List Change) (e : EditSet) → Declare earlier
        → name.text ≡ subject_name ss e → SpellEdits cs e.edits → IsSoundEditSet sig ss e
        → edit_sets_of sig earlier (EditOf name cs) ≡ e ∷ []
    set-value earlier name cs e h same s sound =
        let number = found earlier name e h same (on-subject e sound) in
        let values = edits-value cs e.edits s sound.edits in
        λ k. record { subject = head_number (number k); edits = values k } ∷ []

    none-set : (earlier : List Statement) (name : Spot) (cs : List Change) (e : EditSet) → Declare earlier
        → name.text ≡ subject_name ss e → SpellEdits cs e.edits → IsSoundEditSet sig ss e
        → length (edit_sets sig earlier) < MAX_EDIT_STATEMENTS → edit_statement_faults sig earlier name cs ≡ []
    none-set earlier name cs e h same s sound room =
        let on = on-subject e sound in
        let number = found earlier name e h same on in
        let few : length cs ≤ MAX_EDITS = omega (arith, length-edits cs e.edits s, sound.few) in
        let count : ltb MAX_EDITS (length cs) ≡ false = search (rules, few) in
        let full : leb MAX_EDIT_STATEMENTS (length (edit_sets sig earlier)) ≡ false = search (rules, room) in
        let large : is_large_edit cs ≡ false = rw count (edits-small cs e.edits s sound.edits) in
        let among : is_among name.text (subject_names earlier) ≡ true =
        sym (is_among-list_any name.text (subject_names earlier))
        ∙ sym (is_some-position (bytes_eq name.text) (subject_names earlier)) ∙ ap is_some number in
        let subject : option_and_then (slice_get (subjects_of sig earlier)) (subject_number earlier name)
        ≡ Some on.subject = (λ k. option_and_then (slice_get (h.subjects k)) (number k)) ∙ on.here in
        let made : edit_faults_on sig cs (Some on.subject) ≡ [] =
        ap (λ es. made_faults cs (edit_fault sig on.subject.term es)) (edits-value cs e.edits s sound.edits)
        ∙ none-made cs (edit_fault sig on.subject.term e.edits) on.makeable in
        let many = leb MAX_EDIT_STATEMENTS (length (edit_sets sig earlier)) || is_large_edit cs in
        nil-both (fault_if many _ name.place) _ (none-fault_if many _ name.place (rw (full, large) refl))
        (nil-both (fault_if (not (is_among name.text (subject_names earlier))) _ name.place) _
        (none-fault_if (not (is_among name.text (subject_names earlier))) _ name.place (ap not among))
        (nil-both (flat_map (new_term_faults sig) cs) _ (edits-faultless cs e.edits s sound.edits)
        (ap (edit_faults_on sig cs) subject ∙ made)))

    -- edit statements behind the subjects are read
    pub sets-value : (earlier b : List Statement) (es : List EditSet) → Declare earlier → SpellEditSets ss b es
        → AllByRecursion (IsSoundEditSet sig ss) es → edit_sets_behind sig earlier b ≡ es
    sets-value earlier [] [] h s sound = refl
    sets-value earlier (EditOf name cs ∷ b) (e ∷ es) h s sound =
        λ k. set-value earlier name cs e h s.0.0 s.0.1 sound.0 k
        ++ sets-value (earlier ++ EditOf name cs ∷ []) b es (declare-behind earlier name cs h) s.1 sound.1 k
    sets-value earlier [] (e ∷ es) h s sound = absurd s
    sets-value earlier (t ∷ b) [] h s sound = absurd s
    sets-value earlier (t ∷ b) (e ∷ es) h s sound = absurd s.0

    -- and have no faults
    pub none-sets : (earlier b : List Statement) (es : List EditSet) → Declare earlier → SpellEditSets ss b es
        → AllByRecursion (IsSoundEditSet sig ss) es
        → length (edit_sets sig earlier) + length es ≤ MAX_EDIT_STATEMENTS
        → faults_by (statement_faults sig) earlier b ≡ []
    none-sets earlier [] [] h s sound few = refl
    none-sets earlier (EditOf name cs ∷ b) (e ∷ es) h s sound few =
        let room : length (edit_sets sig earlier) < MAX_EDIT_STATEMENTS = omega (arith, few) in
        let next : edit_sets sig (earlier ++ EditOf name cs ∷ []) ≡ edit_sets sig earlier ++ e ∷ [] =
        edit_sets-append earlier (EditOf name cs ∷ [])
        ∙ ap (λ l. edit_sets sig earlier ++ l)
        (append-nil (edit_sets_of sig earlier (EditOf name cs)) ∙ set-value earlier name cs e h s.0.0 s.0.1 sound.0) in
        nil-both (statement_faults sig earlier (EditOf name cs)) _
        (none-set earlier name cs e h s.0.0 s.0.1 sound.0 room)
        (none-sets (earlier ++ EditOf name cs ∷ []) b es (declare-behind earlier name cs h) s.1 sound.1
        (omega (arith, few, ap length next, length-append (edit_sets sig earlier) (e ∷ []))))
    none-sets earlier [] (e ∷ es) h s sound few = absurd s
    none-sets earlier (t ∷ b) [] h s sound few = absurd s
    none-sets earlier (t ∷ b) (e ∷ es) h s sound few = absurd s.0
