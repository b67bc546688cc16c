-- The edit statements of a file without faults are sound.
use Rattle.std.proofs.Common.{◌≡◌, ◌≢◌, ◌≤◌, ◌<◌, ◌-◌, ◌+◌, ℕ, zero, suc, true, false, not, ◌||◌, arith, refl, sym, ap}
use Rattle.std.proofs.Common.{subst, ◌∙◌, List, [], ◌∷◌, ◌++◌, length, map, get_or, length-append}
use Rattle.std.specs.Prelude.{Option, Some, None, IfSome, is_some, option_map, option_and_then, position, slice_get}
use Rattle.std.specs.Prelude.{flat_map, nat_lt, nat_le}
use Rattle.std.specs.Option.{option_or}
use Rattle.std.specs.List.{list_any, AllByRecursion}
use Rattle.std.specs.Str.{bytes_eq}
use Rattle.std.proofs.lemmas.Bool.{or_parts, leb-false, ltb-false, not-false}
use Rattle.std.proofs.lemmas.List.{length-map}
use Rattle.std.proofs.lemmas.List.Quantifiers.{position-Some}
use Rattle.std.proofs.lemmas.Option.{slice_get-get_or}
use Rattle.mp_term.specs.declared.edit.Edit.{Edit}
use Rattle.mp_term.specs.declared.edit_fault.EditFault.{EditFault}
use Rattle.mp_term.specs.declared.edit_fault.EditFault.TheVariants as faults
use Rattle.mp_term.specs.declared.limits.TheConstants.{MAX_EDITS}
use Rattle.mp_term.specs.Tree as term
use Rattle.mp_term.specs.Size.{node_count, depth}
use Rattle.mp_term.specs.Signature.{Sig, all_in_order}
use Rattle.mp_term.specs.Normal.{normal}
use Rattle.mp_term.specs.EditFault.{is_astray, edit_fault}
use Rattle.mp_term.proofs.EditIndexes.{IsAmong, fault-among, indexes-few}
use Rattle.mp_term.proofs.ListLaws.{all-also, all-append, all-get, both-empty}
use Rattle.mp_term.proofs.NormalSize.{depth-normal}
use Rattle.mp_term.proofs.SignatureLaws.{is_some-position}
use Rattle.mp_pattern.specs.declared.limits.TheConstants.{MAX_TERM_NODES, MAX_DEPTH, MAX_SUBJECTS, MAX_INDEX}
use Rattle.mp_pattern.specs.declared.limits.TheConstants.{MAX_EDIT_STATEMENTS}
use Rattle.mp_pattern.specs.SoundRule.{IsSoundTerm}
use Rattle.mp_parser.specs.declared.limits.TheConstants.{MAX_OPEN}
use Rattle.mp_parser.specs.Syntax.{Spot, Tree, Trees, no_trees, more_trees, tree_list, Replacement, Single, Listed}
use Rattle.mp_parser.specs.Syntax.{Change}
use Rattle.mp_parser.specs.Syntax.{Statement, OpOf, KindOf, RuleOf, SubjectOf, EditOf, HaveNames, AreFit}
use Rattle.mp_parser.specs.Syntax.{ReplacementHasNames, ChangesHaveNames, FitsReplacement, ChangesFit}
use Rattle.mp_build.specs.declared.fault.TextKind.{TextKind}
use Rattle.mp_build.specs.declared.fault.TextKind.TheVariants.{TooMany, Arity, UnknownSubject, BadPosition, Overlap}
use Rattle.mp_text.specs.declared.file.EditSet.{EditSet}
use Rattle.mp_text.specs.Subject.{Subject}
use Rattle.mp_build.specs.Names.{is_among, subject_names}
use Rattle.mp_build.specs.Build.{head_number, term_of}
use Rattle.mp_text.specs.Subjects.{subjects_of}
use Rattle.mp_build.specs.Checks.{nodes, has_large_default, fault_if, is_large_term, term_faults, name_faults}
use Rattle.mp_build.specs.Edits.{new_exprs, edit_of, is_large_edit}
use Rattle.mp_text.specs.EditStatements.{subject_number, edit_sets_of, edit_sets}
use Rattle.mp_build.specs.Edits.{change_fault, made_faults, new_term_faults}
use Rattle.mp_text.specs.EditStatements.{edit_faults_on, edit_statement_faults}
use Rattle.mp_text.specs.FileChecks.{statement_faults}
use Rattle.mp_text.specs.Sound.{IsSoundSubject, new_depth, IsSoundEdit, IsMakeable, AreOn, IsSoundEditSet}
use Rattle.mp_build.proofs.Declared.{is_some-found}
use Rattle.mp_text.proofs.FileSteps.{names-subjects_of, subjects_of-append, edit_sets-push}
use Rattle.mp_build.proofs.Faultless.{nil-fault_if}
use Rattle.mp_build.proofs.SoundLaws.{named-by, sound-term_of, depth-term_of}
use Rattle.mp_text.proofs.SoundSubject.{sound-subject}
use Rattle.mp_text.proofs.Statements.{IsRead}

-- ---- what hinders edits

change_fault-some : (kind : TextKind) (cs : List Change) (i : ℕ) → i < length cs → change_fault kind cs i ≡ [] → ⊥
change_fault-some kind [] i h e = omega arith
change_fault-some kind (c ∷ cs) zero h e = cc
change_fault-some kind (c ∷ cs) (suc i) h e = change_fault-some kind cs i (omega arith) e

-- where no fault is told, the edits can be made but for their size
makeable : (cs : List Change) (o : Option EditFault) → IfSome o (IsAmong (length cs)) → made_faults cs o ≡ []
    → IsMakeable o
makeable cs None h e = tt
makeable cs (Some (faults.BadPosition i)) h e = change_fault-some BadPosition cs i h e
makeable cs (Some (faults.Overlap i j)) h e = change_fault-some Overlap cs j h e
makeable cs (Some (faults.Arity i)) h e = change_fault-some Arity cs i h e
makeable cs (Some (faults.TooLarge n)) h e = tt
makeable cs (Some (faults.TooDeep n)) h e = tt
makeable cs (Some faults.Memory) h e = h

none_astray_at : (t : term.Tree) (es : List Edit) (rest : Option EditFault) (o : Option ℕ)
    → position (is_astray t) es ≡ o → IsMakeable (option_or (option_map faults.BadPosition o) rest)
    → position (is_astray t) es ≡ None
none_astray_at t es rest None e h = e
none_astray_at t es rest (Some i) e h = absurd h

-- edits that can be made have positions that name subterms, so that their indexes are small
small-indexes : (t : term.Tree) → node_count t ≤ MAX_INDEX → (es : List Edit) → list_any (is_astray t) es ≡ false
    → AllByRecursion (λ e. AllByRecursion (λ i. i ≤ MAX_INDEX) e.position) es
small-indexes t few [] h = tt
small-indexes t few (e ∷ es) h =
    let o = or_parts (is_astray t e) (list_any (is_astray t) es) h in (
      all-also (λ i. i ≤ node_count t) (λ i. i ≤ MAX_INDEX) (λ i l. omega (arith, l, few)) e.position
          (indexes-few e.position t o.0),
      small-indexes t few es o.1,
    )

least-depth : (ts : List term.Tree) → MAX_DEPTH - 1 ≤ new_depth ts
least-depth [] = omega arith
least-depth (t ∷ []) = omega arith
least-depth (t ∷ u ∷ ts) = omega arith

some-edits : (sig : Sig) (cs : List Change) → cs ≢ [] → map (edit_of sig) cs ≢ []
some-edits sig [] h = λ e. h refl
some-edits sig (c ∷ cs) h = λ e. cc

module _ (sig : Sig) (ordered : all_in_order sig.ops ≡ true) where
  -- ---- new terms

  abbrev formed : Tree → term.Tree
  formed t = normal sig (term_of sig t)

  sound-terms : (ts : Trees) → HaveNames ts → list_any is_large_term (tree_list ts) ≡ false
      → flat_map (term_faults sig) (tree_list ts) ≡ []
      → AllByRecursion (IsSoundTerm sig MAX_TERM_NODES) (map formed (tree_list ts))
  sound-terms no_trees names small none = tt
  sound-terms (more_trees t ts) names small none =
      let o = or_parts (is_large_term t) (list_any is_large_term (tree_list ts)) small in
      let q = both-empty (term_faults sig t) (flat_map (term_faults sig) (tree_list ts)) none in
      let few : nodes t ≤ MAX_TERM_NODES = ltb-false MAX_TERM_NODES (nodes t)
      (or_parts (nat_lt MAX_TERM_NODES (nodes t)) (has_large_default t) o.0).0 in
      (sound-term_of sig ordered MAX_TERM_NODES t names.0 q.0 few, sound-terms ts names.1 o.1 q.1)

  shallow-terms : (room : ℕ) (ts : Trees) → AreFit room ts
      → AllByRecursion (λ t. depth t ≤ room) (map formed (tree_list ts))
  shallow-terms room no_trees fits = tt
  shallow-terms room (more_trees t ts) fits = (
    omega (arith, depth-normal sig (term_of sig t), depth-term_of sig room t fits.0),
    shallow-terms room ts fits.1,
  )

  new-sound : (r : Replacement) → ReplacementHasNames r → list_any is_large_term (new_exprs r) ≡ false
      → flat_map (term_faults sig) (new_exprs r) ≡ []
      → AllByRecursion (IsSoundTerm sig MAX_TERM_NODES) (map formed (new_exprs r))
  new-sound (Single t) names small none = sound-terms (more_trees t no_trees) (names, tt) small none
  new-sound (Listed ts) names small none = sound-terms ts names small none

  new-shallow : (r : Replacement) → FitsReplacement MAX_OPEN r
      → AllByRecursion (λ t. depth t ≤ new_depth (map formed (new_exprs r))) (map formed (new_exprs r))
  new-shallow (Single t) fits = shallow-terms MAX_DEPTH (more_trees t no_trees) (fits, tt)
  new-shallow (Listed ts) fits =
      let most = new_depth (map formed (tree_list ts)) in
      all-also (λ t. depth t ≤ MAX_DEPTH - 1) (λ t. depth t ≤ most)
      (λ t l. omega (arith, l, least-depth (map formed (tree_list ts)))) (map formed (tree_list ts))
      (shallow-terms (MAX_DEPTH - 1) ts fits)

  -- ---- edits

  sound-edits : (cs : List Change) → ChangesHaveNames cs → ChangesFit MAX_OPEN cs
      → list_any (λ c. list_any is_large_term (new_exprs c.terms)) cs ≡ false → flat_map (new_term_faults sig) cs ≡ []
      → AllByRecursion (λ e. AllByRecursion (λ i. i ≤ MAX_INDEX) e.position) (map (edit_of sig) cs)
      → AllByRecursion (IsSoundEdit sig) (map (edit_of sig) cs)
  sound-edits [] names fits small none indexes = tt
  sound-edits (c ∷ cs) names fits small none indexes =
      let o = or_parts (list_any is_large_term (new_exprs c.terms))
      (list_any (λ c. list_any is_large_term (new_exprs c.terms)) cs) small in
      let q = both-empty (new_term_faults sig c) (flat_map (new_term_faults sig) cs) none in (
        record {
          indexes = indexes.0;
          terms = new-sound c.terms names.1 o.0 q.0;
          shallow = new-shallow c.terms fits.1;
        },
        sound-edits cs names.2 fits.2 o.1 q.1 indexes.1,
      )

  module _ (earlier : List Statement) (name : Spot) (cs : List Change) where
    abbrev subjects : List Subject
    subjects = subjects_of sig earlier

    abbrev edits : List Edit
    edits = map (edit_of sig) cs

    -- the subject of the statement, on which its edits can be made
    record Target (number : Option ℕ) : Type 0 where
      pub subject : Subject
      pub held : slice_get subjects (head_number number) ≡ Some subject
      pub makes : IsMakeable (edit_fault sig subject.term edits)

    target : (number : Option ℕ) → subject_number earlier name ≡ number → is_some number ≡ true
        → edit_faults_on sig cs (option_and_then (slice_get subjects) number) ≡ [] → Target number
    target None e h none = cc
    target (Some i) e h none =
        let within = (position-Some (bytes_eq name.text) (subject_names earlier) i [] e).0 in
        let count : length subjects ≡ length (subject_names earlier) =
        sym (length-map subjects (λ s. s.name)) ∙ ap length (names-subjects_of sig earlier) in
        let default : Subject = record { name = []; term = term.symbol [] } in
        let held : slice_get subjects i ≡ Some (get_or subjects i default) =
        slice_get-get_or subjects i default (omega (arith, within, count)) in
        let s = get_or subjects i default in
        let made : made_faults cs (edit_fault sig s.term edits) ≡ [] =
        ap (edit_faults_on sig cs) (sym held) ∙ none in
        record {
          subject = s;
          held = held;
          makes = makeable cs (edit_fault sig s.term edits)
              (subst (λ n. IfSome (edit_fault sig s.term edits) (IsAmong n)) (length-map cs (edit_of sig))
              (fault-among sig s.term edits)) made;
        }

    -- an edit statement without faults
    sound-set : IsRead (EditOf name cs) → edit_statement_faults sig earlier name cs ≡ []
        → AllByRecursion (IsSoundSubject sig) subjects
        → AllByRecursion (IsSoundEditSet sig subjects) (edit_sets_of sig earlier (EditOf name cs))
        × (length (edit_sets sig earlier) < MAX_EDIT_STATEMENTS)
    sound-set read h sound =
        let many = nat_le MAX_EDIT_STATEMENTS (length (edit_sets sig earlier)) in
        let number = subject_number earlier name in
        let on = edit_faults_on sig cs (option_and_then (slice_get subjects) number) in
        let unknown = not (is_among name.text (subject_names earlier)) in
        let terms = flat_map (new_term_faults sig) cs in
        let p = both-empty (fault_if (many || is_large_edit cs) TooMany name.place)
        (fault_if unknown UnknownSubject name.place ++ (terms ++ on)) h in
        let q = both-empty (fault_if unknown UnknownSubject name.place) (terms ++ on) p.1 in
        let r = both-empty terms on q.1 in
        let o = or_parts many (is_large_edit cs) (nil-fault_if (many || is_large_edit cs) TooMany name.place p.0) in
        let size = or_parts (nat_lt MAX_EDITS (length cs))
        (list_any (λ c. list_any is_large_term (new_exprs c.terms)) cs) o.1 in
        let known : is_some number ≡ true = is_some-found number name.text (subject_names earlier) refl
        ∙ not-false (is_among name.text (subject_names earlier)) (nil-fault_if unknown UnknownSubject name.place q.0) in
        let goal = target number refl known r.1 in
        let t = goal.subject.term in
        let few =
        (all-get (IsSoundSubject sig) subjects (head_number number) goal.subject sound goal.held).term.few_nodes in
        let named : list_any (is_astray t) edits ≡ false = sym (is_some-position (is_astray t) edits)
        ∙ ap is_some (none_astray_at t edits _ (position (is_astray t) edits) refl goal.makes) in
        let indexes = small-indexes t (omega (arith, few)) edits named in (
          (
            record {
              edits = sound-edits cs read.names.1 read.fits.1 size.1 r.0 indexes;
              some = some-edits sig cs read.fits.0;
              few = omega (arith, ltb-false MAX_EDITS (length cs) size.0, length-map cs (edit_of sig));
              makeable = subst (AreOn sig edits) (sym goal.held) goal.makes;
            },
            tt,
          ),
          leb-false MAX_EDIT_STATEMENTS (length (edit_sets sig earlier)) o.0,
        )

  -- ---- statement by statement

  on-more : (es : List Edit) (ss more : List Subject) (i : ℕ) → AreOn sig es (slice_get ss i)
      → AreOn sig es (slice_get (ss ++ more) i)
  on-more es [] more i h = absurd h
  on-more es (s ∷ ss) more zero h = h
  on-more es (s ∷ ss) more (suc i) h = on-more es ss more i h

  set-more : (ss more : List Subject) (e : EditSet) → IsSoundEditSet sig ss e → IsSoundEditSet sig (ss ++ more) e
  set-more ss more e h = record {
    edits = h.edits;
    some = h.some;
    few = h.few;
    makeable = on-more e.edits ss more e.subject h.makeable;
  }

  -- subjects and edit statements that are sound, and not too many of the latter
  pub record EditsHold (ss : List Subject) (es : List EditSet) : Type 0 where
    pub subjects_hold : AllByRecursion (IsSoundSubject sig) ss
    pub edits_hold : AllByRecursion (IsSoundEditSet sig ss) es
    pub few : length es ≤ MAX_EDIT_STATEMENTS

  -- the same of what a statement adds
  record Own (earlier : List Statement) (ss : List Subject) (es : List EditSet) : Type 0 where
    pub subjects_hold : AllByRecursion (IsSoundSubject sig) ss
    pub edits_hold : AllByRecursion (IsSoundEditSet sig (subjects_of sig earlier)) es
    pub few : length (edit_sets sig earlier) + length es ≤ MAX_EDIT_STATEMENTS

  own : (earlier : List Statement) (s : Statement) → IsRead s → statement_faults sig earlier s ≡ []
      → EditsHold (subjects_of sig earlier) (edit_sets sig earlier)
      → Own earlier (subjects_of sig (s ∷ [])) (edit_sets_of sig earlier s)
  own earlier (OpOf name least more flags) read h i =
      record { subjects_hold = tt; edits_hold = tt; few = omega (arith, i.few) }
  own earlier (KindOf name members) read h i =
      record { subjects_hold = tt; edits_hold = tt; few = omega (arith, i.few) }
  own earlier (RuleOf name p x c) read h i =
      record { subjects_hold = tt; edits_hold = tt; few = omega (arith, i.few) }
  own earlier (SubjectOf name t) read h i =
      let q = both-empty (name_faults MAX_SUBJECTS (subject_names earlier) (is_large_term t) name)
      (term_faults sig t) h in
      let small = (named-by MAX_SUBJECTS (subject_names earlier) (is_large_term t) name q.0).small in
      record {
        subjects_hold = (sound-subject sig ordered name t read.names.0 read.names.1 small q.1 read.fits, tt);
        edits_hold = tt;
        few = omega (arith, i.few);
      }
  own earlier (EditOf name cs) read h i =
      let set = sound-set earlier name cs read h i.subjects_hold in
      record { subjects_hold = tt; edits_hold = set.0; few = omega (arith, set.1) }

  pub edits-behind : (earlier : List Statement) (s : Statement) → IsRead s → statement_faults sig earlier s ≡ []
      → EditsHold (subjects_of sig earlier) (edit_sets sig earlier)
      → EditsHold (subjects_of sig (earlier ++ s ∷ [])) (edit_sets sig (earlier ++ s ∷ []))
  edits-behind earlier s read h i =
      let o = own earlier s read h i in
      let us = subjects_of sig earlier in
      let more = subjects_of sig (s ∷ []) in
      let es = edit_sets sig earlier in
      let new = edit_sets_of sig earlier s in
      let wider : (xs : List EditSet) → AllByRecursion (IsSoundEditSet sig us) xs
      → AllByRecursion (IsSoundEditSet sig (us ++ more)) xs =
      all-also (IsSoundEditSet sig us) (IsSoundEditSet sig (us ++ more)) (set-more us more) in
      let all : EditsHold (us ++ more) (es ++ new) = record {
        subjects_hold = all-append (IsSoundSubject sig) us more i.subjects_hold o.subjects_hold;
        edits_hold = all-append (IsSoundEditSet sig (us ++ more)) es new (wider es i.edits_hold)
            (wider new o.edits_hold);
        few = omega (arith, o.few, length-append es new);
      } in
      subst (λ u. EditsHold u (edit_sets sig (earlier ++ s ∷ []))) (sym (subjects_of-append sig earlier (s ∷ [])))
      (subst (EditsHold (us ++ more)) (sym (edit_sets-push sig earlier s)) all)
