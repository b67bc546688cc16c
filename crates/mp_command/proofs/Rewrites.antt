-- The rewriting of a file's subjects as a relation is that as a function.
use Rattle.std.proofs.Common.{◌≡◌, ℕ, Bool, true, false, List, [], ◌∷◌, map, refl, sym, ap, ap₂, ◌∙◌, subst}
use Rattle.std.specs.Prelude.{◌↔◌, Option, Some, None, Ok, Err, is_none, is_some, if◌then◌else◌}
use Rattle.std.specs.List.{AllByRecursion}
use Rattle.mp_io.specs.Devices.{Text}
use Rattle.mp_term.specs.declared.size.Excess.TheVariants as excess
use Rattle.mp_term.specs.View.{tree}
use Rattle.mp_term.specs.Signature.{Sig, IsSignature}
use Rattle.mp_pattern.specs.TemplateTree.{Template}
use Rattle.mp_pattern.specs.Admission.{Rule}
use Rattle.mp_rewrite.specs.Rewritable.{AreRewriteRules, HasTemplate, IsRewritable}
use Rattle.mp_rewrite.specs.Rewriting.{Rewriting, done, more, exceeded, IsRewriting}
use Rattle.mp_rewrite.specs.Answers.{rewriting_of}
use Rattle.mp_rewrite.specs.ComputedAnswers.{IsComputedRewriting}
use Rattle.mp_rewrite.specs.declared.fault.RewriteFault.{RewriteFault}
use Rattle.mp_rewrite.specs.declared.fault.RewriteFault.TheVariants as fault
use Rattle.mp_rewrite.specs.declared.rewrite.Rewritten.{Rewritten}
use Rattle.mp_rewrite.specs.Computed.{rewriting}
use Rattle.mp_rewrite.proofs.Steps.{IsRewriting-rewriting}
use Rattle.mp_text.specs.declared.file.Subject as code
use Rattle.mp_text.specs.File.{FileTree, Subject, subject_tree}
use Rattle.mp_text.specs.Sound.{IsSoundFile, IsSoundSubject}
use Rattle.mp_command.specs.Computed.{over_templates, rewritten}
use Rattle.mp_command.specs.Messages.{limit_line}
use Rattle.mp_command.specs.Outcome.{AreRewritten, IsOverTemplates, Outcome, first_without_template, refused}
use Rattle.mp_command.specs.Outcome.{rewritten_before, rewritten_line, written_before}

-- ---- what rewriting asks for holds of a sound file

IsRewritable-sound : (sig : Sig) (ss : List Subject) → AllByRecursion (IsSoundSubject sig) ss
    → AllByRecursion (λ s. IsRewritable sig s.term) ss
IsRewritable-sound sig [] h = tt
IsRewritable-sound sig (s ∷ ss) h =
    let t = h.0.term in (
      record { normal = t.normal; formed = t.formed; few_nodes = t.few_nodes; shallow = h.0.shallow },
      IsRewritable-sound sig ss h.1,
    )

pub subjects-rewritable : (file : FileTree) → IsSoundFile file
    → AllByRecursion (λ s. IsRewritable file.sig s.term) file.subjects
subjects-rewritable file sound = IsRewritable-sound file.sig file.subjects sound.subjects

-- where none is without a template, each rule has one
templates-held : (rules : List Rule) → first_without_template rules ≡ None → AllByRecursion HasTemplate rules
templates-held [] e = tt
templates-held (r ∷ rs) e = by_template (templates-held rs) r.template refl
  where
    by_template : (first_without_template rs ≡ None → AllByRecursion HasTemplate rs) → (x : Option Template)
        → r.template ≡ x → HasTemplate r × AllByRecursion HasTemplate rs
    by_template behind None is =
        let found : Some r ≡ None =
        sym (ap (λ y. if is_none y then Some r else first_without_template rs) is) ∙ e in
        absurd cc
    by_template behind (Some y) is = (
      ap is_some is,
      behind (sym (ap (λ z. if is_none z then Some r else first_without_template rs) is) ∙ e),
    )

pub rules-rewrite : (file : FileTree) → IsSoundFile file → first_without_template file.rules ≡ None
    → AreRewriteRules file.sig file.rules
rules-rewrite file sound e = record { sound = sound.rules; templates = templates-held file.rules e }

-- ---- the relation is the function

module _ (sig : Sig) (limit : ℕ) (rules : List Rule) (signature : IsSignature sig)
    (rewrite : AreRewriteRules sig rules) where
  rewritten-exact : (ss : List Subject) → AllByRecursion (λ s. IsRewritable sig s.term) ss → (o : Outcome)
      → AreRewritten sig limit rules ss o ↔ (o ≡ rewritten sig limit rules ss)
  rewritten-exact [] h o = (λ e. e, λ e. e)
  rewritten-exact (s ∷ ss) h o =
      let w = rewriting sig rules limit s.term in
      let rest = rewritten sig limit rules ss in
      let exact : (v : Rewriting) → IsRewriting sig rules limit s.term v ↔ (w ≡ v) =
      IsRewriting-rewriting sig rules signature rewrite limit s.term h.0 in
      let behind = rewritten-exact ss h.1 in (
        λ r. r.4 ∙ ap₂ (rewritten_before sig limit s.name) (sym ((exact r.0).0 r.2)) ((behind r.1).0 r.3),
        λ e. (w, rest, (exact w).1 refl, (behind rest).1 refl, e),
      )

pub over_templates-exact : (max : ℕ) (file : FileTree) (o : Outcome) → IsSoundFile file
    → IsOverTemplates (AreRewritten file.sig max file.rules file.subjects) (first_without_template file.rules) o
    ↔ (o ≡ over_templates (rewritten file.sig max file.rules file.subjects) (first_without_template file.rules))
over_templates-exact max file o sound = by_rules (first_without_template file.rules) refl
  where
    by_rules : (found : Option Rule) → first_without_template file.rules ≡ found
        → IsOverTemplates (AreRewritten file.sig max file.rules file.subjects) found o
        ↔ (o ≡ over_templates (rewritten file.sig max file.rules file.subjects) found)
    by_rules None e = rewritten-exact file.sig max file.rules sound.signature (rules-rewrite file sound e)
        file.subjects (subjects-rewritable file sound) o
    by_rules (Some rule) e = (λ h. h, λ h. h)

-- ---- the line of a subject

-- a subject whose rewriting ends with a term has its line first
pub line-first : (sig : Sig) (limit : ℕ) (name : Text) (r : Rewritten) (rest : Outcome)
    → (o : Outcome)
    × (rewritten_before sig limit name (rewriting_of r) rest
    ≡ written_before (rewritten_line sig name (tree r.term) r.turns) o)
line-first sig limit name r rest = by_more r.more
  where
    by_more : (more_left : Bool)
        → (o : Outcome)
        × (rewritten_before sig limit name
        (if more_left then more (tree r.term) r.turns else done (tree r.term) r.turns) rest
        ≡ written_before (rewritten_line sig name (tree r.term) r.turns) o)
    by_more true = (refused 6 (limit_line name limit), refl)
    by_more false = (rest, refl)

-- where more steps could be made, it is told, and else it goes on
pub line-last : (sig : Sig) (limit : ℕ) (name : Text) (r : Rewritten) (rest : Outcome) → r.more ≡ true
    → rewritten_before sig limit name (rewriting_of r) rest
    ≡ written_before (rewritten_line sig name (tree r.term) r.turns) (refused 6 (limit_line name limit))
line-last sig limit name r rest e =
    ap (λ b. rewritten_before sig limit name
    (if b then more (tree r.term) r.turns else done (tree r.term) r.turns) rest)
    e

pub line-goes_on : (sig : Sig) (limit : ℕ) (name : Text) (r : Rewritten) (rest : Outcome) → r.more ≡ false
    → rewritten_before sig limit name (rewriting_of r) rest
    ≡ written_before (rewritten_line sig name (tree r.term) r.turns) rest
line-goes_on sig limit name r rest e =
    ap (λ b. rewritten_before sig limit name
    (if b then more (tree r.term) r.turns else done (tree r.term) r.turns) rest)
    e

-- ---- what rewriting answers

-- a size that a step exceeds
pub computed-large : (w : Rewriting) (f : RewriteFault) (nodes turns : ℕ) → f ≡ fault.TooLarge nodes turns
    → IsComputedRewriting w (Err f) → w ≡ exceeded (excess.TooLarge nodes) turns
computed-large w f nodes turns is h = subst (λ (x : RewriteFault). IsComputedRewriting w (Err x)) is h

pub computed-deep : (w : Rewriting) (f : RewriteFault) (depth turns : ℕ) → f ≡ fault.TooDeep depth turns
    → IsComputedRewriting w (Err f) → w ≡ exceeded (excess.TooDeep depth) turns
computed-deep w f depth turns is h = subst (λ (x : RewriteFault). IsComputedRewriting w (Err x)) is h

-- a term
pub computed-term : (w : Rewriting) (r : Rewritten) → IsComputedRewriting w (Ok r) → w ≡ rewriting_of r
computed-term w r h = h

-- ---- the subjects of the code

-- what the rewriting of these comes to
abbrev pub subjects_left : Sig → ℕ → List Rule → List code.Subject → Outcome
subjects_left sig limit rules ss = rewritten sig limit rules (map subject_tree ss)

-- what that of one comes to before what is left
abbrev pub subject_part : Sig → ℕ → List Rule → code.Subject → Outcome → Outcome
subject_part sig limit rules s rest =
    rewritten_before sig limit (subject_tree s).name (rewriting sig rules limit (subject_tree s).term) rest
