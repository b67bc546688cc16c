-- From the answer of a run to the clause of the command.
use Rattle.std.proofs.Common.{◌≡◌, ◌⊎◌, inl, inr, ℕ, ◌<◌, ◌≤◌, List, [], ◌∷◌, ◌++◌, length, refl}
use Rattle.std.proofs.Common.{sym, ap, ◌∙◌, subst, arith, append-nil}
use Rattle.std.specs.Prelude.{Option, Some, None, IfSome}
use Rattle.std.specs.List.{Contains}
use Rattle.std.specs.Io.KnownBytes.{Appends, Keeps}
use Rattle.mp_io.specs.Devices.{Files, IsMissing, Rose, Text, held}
use Rattle.mp_io.specs.Moments.{Shelved, Sunk}
use Rattle.mp_io.specs.Printing.{AppendsFront}
use Rattle.mp_io.proofs.Written.{whole_front}
use Rattle.mp_command.specs.Answers.{Answers, IsReached, IsUnopened}
use Rattle.mp_command.specs.Endings.{line_of, status_of, told_line, told_status}
use Rattle.mp_command.specs.Messages.{long_line, memory_line, open_line, read_line, write_line}
use Rattle.mp_command.specs.Outcome.{IsOutcome, IsOutcomeAt, IsOutcomeWith, IsOver}
use Rattle.mp_command.specs.Outcome.{Outcome, file_limit, program_limit, refused}
use Rattle.mp_command.specs.Run.{HasOutcome, IsSomeMissing, IsTurnOf, Runs, Says, Wanted, statuses}
use Rattle.mp_command.specs.Run.{wanted_by, wanted_program}
use Rattle.mp_words.specs.Words.{Request, request_of}
use Rattle.mp_command.specs.declared.ending.Told.{Told}
use Rattle.mp_command.specs.declared.ending.Told.TheVariants as told
use Rattle.mp_command.specs.declared.ending.Ending.{Ending}
use Rattle.mp_command.specs.declared.ending.Ending.TheVariants as ending
use Rattle.mp_command.proofs.Actions.{bytes-read}

-- ---- laws of the outcome

-- with status 4 nothing is written
abbrev IsSilent : Outcome → Type 0
IsSilent o = o.status ≡ 4 → o.out ≡ []

-- it stands for a file that isn't held
abbrev IsUnheld : Outcome → Type 0
IsUnheld o = (o.status ≡ 4) × (o.out ≡ [])

refused-silent : (line : Text) (o : Outcome) → o ≡ refused 4 line → IsUnheld o
refused-silent line o e = (ap (λ x. x.status) e, ap (λ x. x.out) e)

over-silent : (limit : ℕ) (name : Text) (With : Text → Outcome → Type 0) (found : Option Text) (o : Outcome)
    → ((bytes : Text) → With bytes o → IsSilent o) → IsOver limit name With found o → IsSilent o
over-silent limit name With None o h over = λ _. (refused-silent (open_line name) o over).1
over-silent limit name With (Some bytes) o h (inl long) = λ _. (refused-silent (long_line name) o long.1).1
over-silent limit name With (Some bytes) o h (inr over) = h bytes over.1

behind-silent : (files : Files) (request : Request) (program : Option Text) (bytes : Text) (o : Outcome)
    → IsOutcomeWith files request program bytes o → IsSilent o
behind-silent files request None bytes o h = λ e. absurd (bytes-read request None bytes o h e)
behind-silent files request (Some name) bytes o h =
    over-silent program_limit name _ (held files name) o
    (λ text k e. absurd (bytes-read request (Some (record { name = name; bytes = text })) bytes o k e)) h

outcome-silent : (files : Files) (request : Option Request) (o : Outcome) → IsOutcomeAt files request o → IsSilent o
outcome-silent files None o h = λ e. let is : o.status ≡ 2 = ap (λ x. x.status) h in absurd (omega (arith, is, e))
outcome-silent files (Some request) o h =
    over-silent file_limit request.file (IsOutcomeWith files request request.program) (held files request.file) o
    (λ bytes. behind-silent files request request.program bytes o) h

over-missing : (limit : ℕ) (name : Text) (With : Text → Outcome → Type 0) (found : Option Text) (o : Outcome)
    → ((bytes : Text) → With bytes o → IsUnheld o) → IsOver limit name With found o → IsUnheld o
over-missing limit name With None o h over = refused-silent (open_line name) o over
over-missing limit name With (Some bytes) o h (inl long) = refused-silent (long_line name) o long.1
over-missing limit name With (Some bytes) o h (inr over) = h bytes over.1

over-unheld : (limit : ℕ) (name : Text) (With : Text → Outcome → Type 0) (found : Option Text) (o : Outcome)
    → found ≡ None → IsOver limit name With found o → IsUnheld o
over-unheld limit name With None o e over = refused-silent (open_line name) o over
over-unheld limit name With (Some bytes) o e over = absurd cc

behind-missing : (files : Files) (request : Request) (program : Option Text) (bytes : Text) (o : Outcome)
    → IsSomeMissing files (wanted_program program) → IsOutcomeWith files request program bytes o → IsUnheld o
behind-missing files request None bytes o m h = absurd m
behind-missing files request (Some name) bytes o (inl m) h =
    over-unheld program_limit name _ (held files name) o m h
behind-missing files request (Some name) bytes o (inr m) h = absurd m

outcome-missing : (files : Files) (request : Option Request) (o : Outcome) → IsSomeMissing files (wanted_by request)
    → IsOutcomeAt files request o → IsUnheld o
outcome-missing files None o m h = absurd m
outcome-missing files (Some request) o (inl m) h =
    over-unheld file_limit request.file (IsOutcomeWith files request request.program) (held files request.file) o m h
outcome-missing files (Some request) o (inr m) h =
    over-missing file_limit request.file (IsOutcomeWith files request request.program) (held files request.file) o
    (λ bytes. behind-missing files request request.program bytes o m) h

-- ---- what is kept and what is appended

Appends-keeps : (a b : Option Text) → Keeps a b → Appends a b []
Appends-keeps None b h = tt
Appends-keeps (Some x) None h = absurd h
Appends-keeps (Some x) (Some y) h = h ∙ sym (append-nil x)

Keeps-appends : (a b : Option Text) → Appends a b [] → Keeps a b
Keeps-appends None b h = tt
Keeps-appends (Some x) None h = absurd h
Keeps-appends (Some x) (Some y) h = h ∙ append-nil x

AppendsFront-keeps : (out : Sunk) (text : Text) → Keeps out.old out.new → AppendsFront out.old out.new text
AppendsFront-keeps out text k =
    record { front = []; rest = text; split = refl; written = Appends-keeps out.old out.new k }

IsTurnOf-some : (files : Option Files) (wanted : List Wanted) (file : Wanted) → IsTurnOf files wanted file
    → 0 < length wanted
IsTurnOf-some files [] file h = absurd h
IsTurnOf-some files (w ∷ ws) file h = omega arith

-- what the words and the files decide is neither a failed write nor want of memory
told_status-settled : (t : Told) → (told_status t ≡ 5 → ⊥) × (told_status t ≡ 8 → ⊥)
told_status-settled told.Done = (λ e. absurd (omega arith), λ e. absurd (omega arith))
told_status-settled told.Empty = (λ e. absurd (omega arith), λ e. absurd (omega arith))
told_status-settled told.Usage = (λ e. absurd (omega arith), λ e. absurd (omega arith))
told_status-settled (told.BadText name fault) = (λ e. absurd (omega arith), λ e. absurd (omega arith))
told_status-settled (told.BadProgram name fault) = (λ e. absurd (omega arith), λ e. absurd (omega arith))
told_status-settled (told.TooLong name) = (λ e. absurd (omega arith), λ e. absurd (omega arith))
told_status-settled (told.Misspelt at) = (λ e. absurd (omega arith), λ e. absurd (omega arith))
told_status-settled told.NoItem = (λ e. absurd (omega arith), λ e. absurd (omega arith))
told_status-settled (told.NotSyntactic rule) = (λ e. absurd (omega arith), λ e. absurd (omega arith))
told_status-settled (told.NoTemplate rule) = (λ e. absurd (omega arith), λ e. absurd (omega arith))
told_status-settled (told.TurnLimit subject max) = (λ e. absurd (omega arith), λ e. absurd (omega arith))
told_status-settled (told.TooLarge subject nodes) = (λ e. absurd (omega arith), λ e. absurd (omega arith))
told_status-settled (told.TooDeep subject depth) = (λ e. absurd (omega arith), λ e. absurd (omega arith))

-- ---- the clauses that speak of every shelf

-- the status is one of those that are told
pub status_of-listed : (e : Ending) → Contains statuses (status_of e)
status_of-listed (ending.Told told.Done) = (0, omega arith, refl)
status_of-listed (ending.Told told.Empty) = (1, omega arith, refl)
status_of-listed (ending.Told told.Usage) = (2, omega arith, refl)
status_of-listed (ending.Told (told.BadText name fault)) = (3, omega arith, refl)
status_of-listed (ending.Told (told.BadProgram name fault)) = (12, omega arith, refl)
status_of-listed (ending.Told (told.TooLong name)) = (4, omega arith, refl)
status_of-listed (ending.Told (told.Misspelt at)) = (9, omega arith, refl)
status_of-listed (ending.Told told.NoItem) = (9, omega arith, refl)
status_of-listed (ending.Told (told.NotSyntactic rule)) = (10, omega arith, refl)
status_of-listed (ending.Told (told.NoTemplate rule)) = (11, omega arith, refl)
status_of-listed (ending.Told (told.TurnLimit subject max)) = (6, omega arith, refl)
status_of-listed (ending.Told (told.TooLarge subject nodes)) = (7, omega arith, refl)
status_of-listed (ending.Told (told.TooDeep subject depth)) = (7, omega arith, refl)
status_of-listed ending.Memory = (8, omega arith, refl)
status_of-listed ending.CannotWrite = (5, omega arith, refl)
status_of-listed (ending.CannotOpen name) = (4, omega arith, refl)
status_of-listed (ending.CannotRead name) = (4, omega arith, refl)

front-nil : (front rest : Text) → [] ≡ front ++ rest → front ≡ []
front-nil [] rest e = refl
front-nil (b ∷ front) rest e = absurd cc

-- a line that is empty leaves the sink as it was
Says-nothing : (err : Sunk) → Says err [] → Keeps err.old err.new
Says-nothing err says =
    let cut = says.front in
    Keeps-appends err.old err.new
    (subst (λ (x : Text). Appends err.old err.new x) (front-nil cut.front cut.rest cut.split) cut.written)

-- where all went well nothing is said
pub Says-done : (err : Sunk) (e : Ending) → Says err (line_of e) → status_of e ≤ 1 → Keeps err.old err.new
Says-done err (ending.Told told.Done) says few = Says-nothing err says
Says-done err (ending.Told told.Empty) says few = Says-nothing err says
Says-done err (ending.Told told.Usage) says few = absurd (omega arith)
Says-done err (ending.Told (told.BadText name fault)) says few = absurd (omega arith)
Says-done err (ending.Told (told.BadProgram name fault)) says few = absurd (omega arith)
Says-done err (ending.Told (told.TooLong name)) says few = absurd (omega arith)
Says-done err (ending.Told (told.Misspelt at)) says few = absurd (omega arith)
Says-done err (ending.Told told.NoItem) says few = absurd (omega arith)
Says-done err (ending.Told (told.NotSyntactic rule)) says few = absurd (omega arith)
Says-done err (ending.Told (told.NoTemplate rule)) says few = absurd (omega arith)
Says-done err (ending.Told (told.TurnLimit subject max)) says few = absurd (omega arith)
Says-done err (ending.Told (told.TooLarge subject nodes)) says few = absurd (omega arith)
Says-done err (ending.Told (told.TooDeep subject depth)) says few = absurd (omega arith)
Says-done err ending.Memory says few = absurd (omega arith)
Says-done err ending.CannotWrite says few = absurd (omega arith)
Says-done err (ending.CannotOpen name) says few = absurd (omega arith)
Says-done err (ending.CannotRead name) says few = absurd (omega arith)

-- ---- the clause over files that are told

IfSome-told : {P : Files → Type 0} (found : Option Files) → ((files : Files) → found ≡ Some files → P files)
    → IfSome found P
IfSome-told None h = tt
IfSome-told (Some files) h = h files refl

told-here : (P : Files → Type 0) (found : Option Files) (files : Files) → found ≡ Some files → IfSome found P → P files
told-here P found files e h = subst (λ x. IfSome x P) e h

module _ (files : Files) (request : Option Request) (shelf : Shelved) (told_files : shelf.files ≡ Some files)
    (out err : Sunk) where
  abbrev wanted : List Wanted
  wanted = wanted_by request

  module _ (o : Outcome) (is : IsOutcomeAt files request o) where
    Runs-told : (t : Told) → IsReached o out t → Says err (told_line t)
        → Runs o wanted files shelf out err (told_status t)
    Runs-told t h says =
        let settled = told_status-settled t in
        record {
          unread = λ e. inl (sym h.status ∙ e);
          missing = λ m. inl (h.status ∙ (outcome-missing files request o m is).0);
          settled = λ _ _ _. (h.status, h.text);
          front = whole_front out.old out.new o.out h.text;
          nothing = λ e. Keeps-appends out.old out.new
              (subst (λ (x : Text). Appends out.old out.new x)
              (outcome-silent files request o is (sym h.status ∙ e)) h.text);
          write = λ e. absurd (settled.0 e);
          unfailed = λ _ _ _. h.stays;
          line = (
            told_line t,
            record {
              write = λ e. absurd (settled.0 e);
              memory = λ e. absurd (settled.1 e);
              unread = λ e. inl (sym h.status ∙ e, h.line);
              other = λ _ _ _. h.line;
            },
            says,
          );
        }

    Runs-memory : AppendsFront out.old out.new o.out → Says err memory_line → Runs o wanted files shelf out err 8
    Runs-memory h says = record {
      unread = λ e. absurd (omega arith);
      missing = λ m. inr refl;
      settled = λ _ not8 _. absurd (not8 refl);
      front = h;
      nothing = λ e. absurd (omega arith);
      write = λ e. absurd (omega arith);
      unfailed = λ _ _ not8. absurd (not8 refl);
      line = (
        memory_line,
        record {
          write = λ e. absurd (omega arith);
          memory = λ _. refl;
          unread = λ e. absurd (omega arith);
          other = λ _ not8 _. absurd (not8 refl);
        },
        says,
      );
    }

    Runs-write : Rose out.faults out.faults_after → AppendsFront out.old out.new o.out → 0 < length o.out
        → Says err write_line → Runs o wanted files shelf out err 5
    Runs-write rose h long says = record {
      unread = λ e. absurd (omega arith);
      missing = λ m. let none : 0 ≡ length o.out = sym (ap length (outcome-missing files request o m is).1) in
          absurd (omega arith);
      settled = λ not5 _ _. absurd (not5 refl);
      front = h;
      nothing = λ e. absurd (omega arith);
      write = λ _. (long, rose);
      unfailed = λ _ not5 _. absurd (not5 refl);
      line = (
        write_line,
        record {
          write = λ _. refl;
          memory = λ e. absurd (omega arith);
          unread = λ e. absurd (omega arith);
          other = λ not5 _ _. absurd (not5 refl);
        },
        says,
      );
    }

    Runs-open : (file : Wanted) → Keeps out.old out.new → IsTurnOf shelf.files wanted file
        → Rose shelf.start_faults shelf.start_faults_after ⊎ IsUnopened (open_line file.name) o
        → Says err (open_line file.name) → Runs o wanted files shelf out err 4
    Runs-open file kept turn why says = record {
      unread = λ _. elim why [
        | inl rose ↦ inr (IsTurnOf-some shelf.files wanted file turn, inl rose)
        | inr m ↦ inl m.0
      ];
      missing = λ m. inl refl;
      settled = λ _ _ calm. elim why [
        | inl rose ↦ absurd (calm refl (inl rose))
        | inr m ↦
            (sym m.0, subst (λ (x : Text). Appends out.old out.new x) (sym m.2) (Appends-keeps out.old out.new kept))
      ];
      front = AppendsFront-keeps out o.out kept;
      nothing = λ _. kept;
      write = λ e. absurd (omega arith);
      unfailed = λ not4 _ _. absurd (not4 refl);
      line = (
        open_line file.name,
        record {
          write = λ e. absurd (omega arith);
          memory = λ e. absurd (omega arith);
          unread = λ _. elim why [ inl rose ↦ inr (file, turn, inl (refl, rose)) | inr m ↦ inl (m.0, m.1) ];
          other = λ _ _ not4. absurd (not4 refl);
        },
        says,
      );
    }

    Runs-read : (file : Wanted) → Keeps out.old out.new → IsTurnOf shelf.files wanted file
        → (IsMissing shelf.files file.name → ⊥)
        → Rose shelf.read_faults shelf.read_faults_after
        → Says err (read_line file.name) → Runs o wanted files shelf out err 4
    Runs-read file kept turn there rose says = record {
      unread = λ _. inr (IsTurnOf-some shelf.files wanted file turn, inr rose);
      missing = λ m. inl refl;
      settled = λ _ _ calm. absurd (calm refl (inr rose));
      front = AppendsFront-keeps out o.out kept;
      nothing = λ _. kept;
      write = λ e. absurd (omega arith);
      unfailed = λ not4 _ _. absurd (not4 refl);
      line = (
        read_line file.name,
        record {
          write = λ e. absurd (omega arith);
          memory = λ e. absurd (omega arith);
          unread = λ _. inr (file, turn, inr (refl, there, rose));
          other = λ _ _ not4. absurd (not4 refl);
        },
        says,
      );
    }

    Runs-answers : (e : Ending) → Answers wanted (λ fs. IsOutcomeAt fs request) shelf out e
        → Says err (line_of e)
        → Runs o wanted files shelf out err (status_of e)
    Runs-answers (ending.Told t) h says =
        Runs-told t ((told-here _ shelf.files files told_files h).each o is) says
    Runs-answers ending.Memory h says = Runs-memory (told-here _ shelf.files files told_files h o is) says
    Runs-answers ending.CannotWrite h says =
        let cut = told-here _ shelf.files files told_files h.1 o is in
        Runs-write h.0 cut.0 cut.1 says
    Runs-answers (ending.CannotOpen name) h says =
        let file = h.1.0 in
        let unopened : Rose shelf.start_faults shelf.start_faults_after ⊎ IsUnopened (open_line name.now) o = elim h.2 [
          | inl rose ↦ inl rose
          | inr m ↦ inr ((told-here _ shelf.files files told_files m.1).each o is)
        ] in
        Runs-open file h.0 h.1.1
        (subst (λ n. Rose shelf.start_faults shelf.start_faults_after ⊎ IsUnopened (open_line n) o) (sym h.1.2)
        unopened)
        (subst (λ n. Says err (open_line n)) (sym h.1.2) says)
    Runs-answers (ending.CannotRead name) h says =
        let file = h.1.0 in
        Runs-read file h.0 h.1.1
        (λ m. h.2 (subst (IsMissing shelf.files) h.1.2 m)) h.3 (subst (λ n. Says err (read_line n)) (sym h.1.2) says)

-- the clause, of the request that the words make
pub HasOutcome-answers : (shelf : Shelved) (words : List Text) (asked_for : Option Request) (out err : Sunk)
    (e : Ending) (status : ℕ)
    → ((files : Files) → (o : Outcome) × IsOutcome words files o)
    → asked_for ≡ request_of words → status ≡ status_of e
    → Answers (wanted_by asked_for) (λ fs. IsOutcomeAt fs asked_for) shelf out e → Says err (line_of e)
    → IfSome shelf.files (λ files. HasOutcome words files shelf out err status)
HasOutcome-answers shelf words asked_for out err e status there asked_is status_is h says =
    IfSome-told shelf.files (λ files told_files.
    let whole : HasOutcome words files shelf out err (status_of e) = record {
      outcome = there files;
      runs = λ o is. subst (λ r. Runs o (wanted_by r) files shelf out err (status_of e)) asked_is
          (Runs-answers files asked_for shelf told_files out err o
          (subst (λ r. IsOutcomeAt files r o) (sym asked_is) is) e h says);
    } in
    subst (HasOutcome words files shelf out err) (sym status_is) whole)
