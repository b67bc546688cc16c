-- The faults of an edit statement, part by part.
use Rattle.std.proofs.Common.{◌≡◌, ◌<◌, ℕ, Bool, false, not, ◌||◌, List, [], ◌++◌, length, refl, sym, ap}
use Rattle.std.proofs.Common.{◌∙◌}
use Rattle.std.proofs.Common.{arith}
use Rattle.std.specs.Prelude.{Option, Some, None, is_some, option_and_then, slice_get, flat_map, nat_le}
use Rattle.std.proofs.lemmas.Bool.Decides.{nat_tests}
use Rattle.mp_term.specs.Signature.{Sig}
use Rattle.mp_pattern.specs.declared.limits.TheConstants.{MAX_EDIT_STATEMENTS}
use Rattle.mp_parser.specs.Syntax.{Spot, Statement, Change}
use Rattle.mp_build.specs.declared.fault.TextKind.TheVariants.{TooMany, UnknownSubject}
use Rattle.mp_build.specs.declared.fault.TextFault.{TextFault}
use Rattle.mp_build.specs.declared.fault.TextError.{TextError}
use Rattle.mp_build.specs.declared.fault.TextError.TheVariants.{Text}
use Rattle.mp_build.specs.Answers.{Fails}
use Rattle.mp_build.specs.Names.{is_among, subject_names}
use Rattle.mp_text.specs.Subjects.{subjects_of}
use Rattle.mp_build.specs.Checks.{fault_at, fault_if}
use Rattle.mp_build.specs.Edits.{is_large_edit, new_term_faults}
use Rattle.mp_text.specs.EditStatements.{subject_number, edit_sets, edit_faults_on}
use Rattle.mp_text.specs.EditStatements.{edit_statement_faults}
use Rattle.mp_build.proofs.Declared.{is_some-found}
use Rattle.mp_build.proofs.Fails.{fails-front, fails-behind, fails-fault_if, none-append}
use Rattle.mp_build.proofs.Faultless.{none-fault_if}

module _ (sig : Sig) (earlier : List Statement) (name : Spot) (cs : List Change) where
  -- the fault at the name of a statement of too many or one that is too large
  abbrev size_faults : List TextFault
  size_faults = fault_if (nat_le MAX_EDIT_STATEMENTS (length (edit_sets sig earlier)) || is_large_edit cs) TooMany
      name.place

  -- the fault at the name of no subject
  abbrev unknown_faults : List TextFault
  unknown_faults = fault_if (not (is_among name.text (subject_names earlier))) UnknownSubject name.place

  -- the faults behind the name, on the subject of that number
  abbrev pub faults_behind : Option ℕ → List TextFault
  faults_behind number = flat_map (new_term_faults sig) cs
      ++ edit_faults_on sig cs (option_and_then (slice_get (subjects_of sig earlier)) number)

  -- there is room for the statement
  pub record HasRoom (count : ℕ) (large : Bool) : Type 0 where
    pub counted : count ≡ length (edit_sets sig earlier)
    pub few : count < MAX_EDIT_STATEMENTS
    pub is_large : large ≡ is_large_edit cs
    pub small : large ≡ false

  fits : (count : ℕ) (large : Bool) → HasRoom count large → size_faults ≡ []
  fits count large room =
      let few : nat_le MAX_EDIT_STATEMENTS (length (edit_sets sig earlier)) ≡ false =
      let c = room.counted in let f = room.few in grind (arith, nat_tests) in
      let small : is_large_edit cs ≡ false = sym room.is_large ∙ room.small in
      none-fault_if (nat_le MAX_EDIT_STATEMENTS (length (edit_sets sig earlier)) || is_large_edit cs) TooMany name.place
      (rw (few, small) refl)

  among : (found : Option ℕ) → found ≡ subject_number earlier name
      → is_among name.text (subject_names earlier) ≡ is_some found
  among found h = sym (is_some-found found name.text (subject_names earlier) h)

  -- the fault of a name that no earlier subject has
  pub fails-unknown : (e : TextError) (count : ℕ) (large : Bool) (found : Option ℕ) → HasRoom count large
      → found ≡ subject_number earlier name → found ≡ None → e ≡ Text (fault_at UnknownSubject name.place)
      → Fails e (edit_statement_faults sig earlier name cs)
  fails-unknown e count large found room h none is =
      fails-behind e size_faults (unknown_faults ++ faults_behind (subject_number earlier name)) (fits count large room)
      (fails-front e unknown_faults (faults_behind (subject_number earlier name))
      (fails-fault_if e (not (is_among name.text (subject_names earlier))) UnknownSubject name.place is
      (ap not (among found h ∙ ap is_some none))))

  -- where there is room and the subject is known the faults are those behind the name
  pub faults-known : (count : ℕ) (large : Bool) (found : Option ℕ) (i : ℕ) → HasRoom count large
      → found ≡ subject_number earlier name → found ≡ Some i
      → edit_statement_faults sig earlier name cs ≡ faults_behind (Some i)
  faults-known count large found i room h some =
      none-append size_faults (unknown_faults ++ faults_behind (subject_number earlier name)) (fits count large room)
      ∙ none-append unknown_faults (faults_behind (subject_number earlier name))
      (none-fault_if (not (is_among name.text (subject_names earlier))) UnknownSubject name.place
      (ap not (among found h ∙ ap is_some some)))
      ∙ ap faults_behind (sym h ∙ some)
