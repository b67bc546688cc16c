-- No action comes to the status of words that make no request, or to that of a file that isn't read.
use Rattle.std.proofs.Common.{◌≡◌, ◌∙◌, ◌||◌, ℕ, Bool, true, false, not, nat_eq, List, [], ◌∷◌, inl, inr, ap, refl}
use Rattle.std.proofs.Common.{map, subst, sym}
use Rattle.std.specs.Prelude.{Option, Some, None, slice_get, if◌then◌else◌}
use Rattle.mp_io.specs.Devices.{Text}
use Rattle.mp_io.specs.Moments.{Sunk}
use Rattle.mp_term.specs.Tree.{Tree}
use Rattle.mp_term.specs.Signature.{Sig}
use Rattle.mp_term.specs.EditFault.{edit_fault}
use Rattle.mp_term.specs.Edited.{edited}
use Rattle.mp_term.specs.Normal.{normal}
use Rattle.mp_term.specs.declared.edit.Edit.{Edit}
use Rattle.mp_term.specs.declared.edit_fault.EditFault.{EditFault}
use Rattle.mp_term.specs.declared.edit_fault.EditFault.TheVariants as faults
use Rattle.mp_pattern.specs.Admission.{Rule}
use Rattle.mp_many.specs.AllPairs.{all_pairs}
use Rattle.mp_rewrite.specs.Rewriting.{Rewriting, done, more, exceeded}
use Rattle.mp_rewrite.specs.Computed.{rewriting}
use Rattle.mp_text.specs.declared.file.EditSet.{EditSet}
use Rattle.mp_text.specs.File.{FileTree, Subject}
use Rattle.mp_text.specs.Sound.{IsSoundFile}
use Rattle.mp_text.proofs.SoundFile.{IsSoundFile-IsFileOf}
use Rattle.mp_matches.specs.AllListed.{names_of}
use Rattle.mp_matches.specs.Computed.{listed, pairs_listed}
use Rattle.mp_matches.specs.Listed.{Listed, lines, misspelt, no_match}
use Rattle.mp_matches.specs.Printed.{has_some}
use Rattle.mp_words.specs.Words.{Request}
use Rattle.mp_words.specs.declared.request.Action.{Action}
use Rattle.mp_words.specs.declared.request.Action.TheVariants as action
use Rattle.mp_words.specs.declared.request.Engine.{Engine}
use Rattle.mp_words.specs.declared.request.Engine.TheVariants as engine
use Rattle.mp_program.specs.Program.{Program}
use Rattle.mp_command.specs.Answers.{ActsAs}
use Rattle.mp_command.specs.Endings.{status_of, told_status}
use Rattle.mp_command.specs.declared.ending.Ending.{Ending}
use Rattle.mp_command.specs.declared.ending.Ending.TheVariants as ending
use Rattle.mp_command.specs.Computed.{matched_whole, matches_by, over_syntactic, over_templates, rewritten}
use Rattle.mp_command.specs.Outcome.{IsDone, IsDoneWith, IsOutcomeOver, Named, Outcome, edited_before, edits_made}
use Rattle.mp_command.specs.Outcome.{first_not_syntactic, first_without_template, matched, rewritten_before}
use Rattle.mp_command.specs.Outcome.{statement_before}
use Rattle.mp_command.proofs.Matched.{matches_by-exact}
use Rattle.mp_command.proofs.Rewrites.{over_templates-exact}

-- the status is neither that of words that make no request nor that of a file that isn't read
abbrev is_own : ℕ → Bool
is_own status = not (nat_eq status 2 || nat_eq status 4)

-- the outcome has such a status
abbrev IsOwn : Outcome → Type 0
IsOwn o = is_own o.status ≡ true

own-apart : (status : ℕ) → is_own status ≡ true → (status ≡ 2 → ⊥) × (status ≡ 4 → ⊥)
own-apart status own = (
  λ e. let wrong : false ≡ true = subst (λ n. is_own n ≡ true) e own in absurd cc,
  λ e. let wrong : false ≡ true = subst (λ n. is_own n ≡ true) e own in absurd cc,
)

-- ---- matches

any_or_none : (any : Bool) → is_own (if any then 0 else 1) ≡ true
any_or_none true = refl
any_or_none false = refl

matched-own : (l : Listed) → IsOwn (matched l)
matched-own (lines text) = any_or_none (has_some text)
matched-own (misspelt at) = refl
matched-own no_match = refl

whole-own : (file : FileTree) (limit : Option ℕ) → IsOwn (matched_whole file limit)
whole-own file limit = matched-own (pairs_listed file (names_of file.rules) (all_pairs file.sig file.rules) limit)

over_syntactic-own : (over : Outcome) (found : Option Rule) → IsOwn over → IsOwn (over_syntactic over found)
over_syntactic-own over None h = h
over_syntactic-own over (Some rule) h = refl

matches_by-own : (engine : Engine) (request : Request) (file : FileTree) → IsOwn (matches_by engine request file)
matches_by-own engine.One request file = matched-own (listed file request.resume request.limit)
matches_by-own engine.Many request file = whole-own file request.limit
matches_by-own engine.Program request file = whole-own file request.limit
matches_by-own engine.Net request file =
    over_syntactic-own (matched_whole file request.limit) (first_not_syntactic file.sig file.rules)
    (whole-own file request.limit)

-- ---- rewriting

rewritten_before-own : (sig : Sig) (limit : ℕ) (name : Text) (w : Rewriting) (rest : Outcome) → IsOwn rest
    → IsOwn (rewritten_before sig limit name w rest)
rewritten_before-own sig limit name (done t turns) rest h = h
rewritten_before-own sig limit name (more t turns) rest h = refl
rewritten_before-own sig limit name (exceeded x turns) rest h = refl

rewritten-own : (sig : Sig) (limit : ℕ) (rules : List Rule) (ss : List Subject) → IsOwn (rewritten sig limit rules ss)
rewritten-own sig limit rules [] = refl
rewritten-own sig limit rules (s ∷ ss) =
    rewritten_before-own sig limit s.name (rewriting sig rules limit s.term) (rewritten sig limit rules ss)
    (rewritten-own sig limit rules ss)

over_templates-own : (over : Outcome) (found : Option Rule) → IsOwn over → IsOwn (over_templates over found)
over_templates-own over None h = h
over_templates-own over (Some rule) h = refl

-- ---- edits

edited_before-own : (sig : Sig) (name : Text) (fault : Option EditFault) (ts : List Tree) (rest : Outcome)
    → IsOwn rest → IsOwn (edited_before sig name fault ts rest)
edited_before-own sig name None [] rest h = h
edited_before-own sig name None (t ∷ []) rest h = h
edited_before-own sig name None (t ∷ u ∷ ts) rest h = h
edited_before-own sig name (Some (faults.TooLarge nodes)) ts rest h = refl
edited_before-own sig name (Some (faults.TooDeep depth)) ts rest h = refl
edited_before-own sig name (Some (faults.BadPosition i)) ts rest h = h
edited_before-own sig name (Some (faults.Overlap i j)) ts rest h = h
edited_before-own sig name (Some (faults.Arity i)) ts rest h = h
edited_before-own sig name (Some faults.Memory) ts rest h = h

statement_before-own : (sig : Sig) (es : List Edit) (subject : Option Subject) (rest : Outcome)
    → IsOwn rest → IsOwn (statement_before sig es subject rest)
statement_before-own sig es None rest h = h
statement_before-own sig es (Some s) rest h =
    edited_before-own sig s.name (edit_fault sig s.term es) (map (normal sig) (edited es s.term)) rest h

edits_made-own : (sig : Sig) (ss : List Subject) (es : List EditSet) → IsOwn (edits_made sig ss es)
edits_made-own sig ss [] = refl
edits_made-own sig ss (e ∷ es) =
    statement_before-own sig e.edits (slice_get ss e.subject) (edits_made sig ss es) (edits_made-own sig ss es)

-- ---- the actions

-- over a sound file
done-own : (request : Request) (file : FileTree) (program : Option Program) (action : Action) (o : Outcome)
    → IsSoundFile file → IsDone request file program action o → IsOwn o
done-own request file program action.Match o sound h =
    subst IsOwn (sym ((matches_by-exact request.engine request file o sound).0 h))
    (matches_by-own request.engine request file)
done-own request file program action.Show o sound h = subst IsOwn (sym h) refl
done-own request file program action.Rewrite o sound h =
    subst IsOwn (sym ((over_templates-exact request.max file o sound).0 h))
    (over_templates-own (rewritten file.sig request.max file.rules file.subjects)
    (first_without_template file.rules) (rewritten-own file.sig request.max file.rules file.subjects))
done-own request file program action.Edit o sound h =
    subst IsOwn (sym h) (edits_made-own file.sig file.subjects file.edits)
done-own request file program action.Compile o sound h = subst IsOwn (sym h) refl
done-own request file None action.Run o sound h = subst IsOwn (sym h) refl
done-own request file (Some p) action.Run o sound h = subst IsOwn (sym h.2) (matched-own (lines h.0))

-- ---- over the bytes of a file

with-own : (request : Request) (file : FileTree) (program : Option Named) (o : Outcome) → IsSoundFile file
    → IsDoneWith request file program o → IsOwn o
with-own request file None o sound h = done-own request file None request.action o sound h
with-own request file (Some named) o sound (inl h) = done-own request file (Some h.0) request.action o sound h.2
with-own request file (Some named) o sound (inr h) = ap (λ x. is_own x.status) h.2

module _ (request : Request) (program : Option Named) (bytes : Text) where
  bytes-own : (o : Outcome) → IsOutcomeOver request program bytes o → IsOwn o
  bytes-own o (inl h) = with-own request h.0 program o (IsSoundFile-IsFileOf bytes h.0 h.1) h.2
  bytes-own o (inr h) = ap (λ x. is_own x.status) h.2

  -- the status isn't that of a file that isn't read
  pub bytes-read : (o : Outcome) → IsOutcomeOver request program bytes o → o.status ≡ 4 → ⊥
  bytes-read o h = (own-apart o.status (bytes-own o h)).1

  -- and an action doesn't end so
  pub acts-apart : (out : Sunk) (e : Ending) → ActsAs (IsOutcomeOver request program bytes) out e
      → (status_of e ≡ 2 → ⊥) × (status_of e ≡ 4 → ⊥)
  acts-apart out (ending.Told t) acts =
      let (o, is) = acts.some tt in
      own-apart (told_status t) (ap is_own (acts.each o is).status ∙ bytes-own o is)
  acts-apart out ending.Memory acts = own-apart 8 refl
  acts-apart out ending.CannotWrite acts = own-apart 5 refl
  acts-apart out (ending.CannotOpen name) acts = (let (o, is) = acts.some tt in absurd (acts.each o is))
  acts-apart out (ending.CannotRead name) acts = (let (o, is) = acts.some tt in absurd (acts.each o is))
