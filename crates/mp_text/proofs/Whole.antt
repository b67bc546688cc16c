-- The file and the fault that are computed from the bytes are those of the bytes.
use Rattle.std.proofs.Common.{◌≡◌, ℕ, List, [], ◌∷◌, Option, Some, None, Result, Ok, Err, inl, inr, refl, sym, ap, ◌∙◌}
use Rattle.std.specs.Prelude.{◌↔◌, option_and_then}
use Rattle.mp_parser.specs.declared.fault.Fault.{Fault}
use Rattle.mp_parser.specs.Syntax.{Statement, IsSyntaxOf}
use Rattle.mp_parser.specs.declared.fault.SyntaxError.{SyntaxError}
use Rattle.mp_parser.specs.declared.fault.SyntaxError.TheVariants as syntax_errors
use Rattle.mp_syntax.specs.Begins.{OfFile}
use Rattle.mp_syntax.specs.FirstFault.{IsFirstFault}
use Rattle.mp_syntax.specs.Reading.{reading, syntax_of, IfFault}
use Rattle.mp_syntax.proofs.Whole.{syntax_of-exact, reading-found, reading-only}
use Rattle.mp_syntax.proofs.Whole.{reading-fault, reading-only_fault}
use Rattle.mp_build.specs.declared.fault.TextFault.{TextFault}
use Rattle.mp_build.specs.declared.fault.TextError.{TextError}
use Rattle.mp_build.specs.declared.fault.TextError.TheVariants.{Text, Memory}
use Rattle.mp_text.specs.declared.file.File as code
use Rattle.mp_text.specs.File.{FileTree, file_tree}
use Rattle.mp_text.specs.FileBuild.{file_tree_of}
use Rattle.mp_text.specs.FileChecks.{faults}
use Rattle.mp_build.specs.Answers.{first, Gives}
use Rattle.mp_text.specs.Reading.{IsFileOf, IsFaultOf, IsFileOrMemory}
use Rattle.mp_build.specs.SyntaxFaults.{syntax_fault, text_error}
use Rattle.mp_build.specs.Answers.{IfText}
use Rattle.mp_build.specs.Answers.{IsFaultOrMemory}
use Rattle.mp_text.specs.Computed.{file_without, checked_file, file_of, fault_in, fault_of, ReadGives, IsComputed}
use Rattle.mp_term.proofs.ListLaws.{some-same}

none_some : {X : Type 0} (a : X) → None ≡ Some a → ⊥
none_some a e = cc

-- ---- files

-- statements without faults have their file
checked_file-faultless : (ss : List Statement) → faults ss ≡ [] → checked_file ss ≡ Some (file_tree_of ss)
checked_file-faultless ss h = ap (λ fs. file_without fs (file_tree_of ss)) h

-- what has a file has no faults
file_without-some : (fs : List TextFault) (f g : FileTree) → file_without fs f ≡ Some g → (fs ≡ []) × (g ≡ f)
file_without-some [] f g h = (refl, cc)
file_without-some (x ∷ xs) f g h = cc

-- what is computed of some statements is their file
computed-is : (bytes : List ℕ) (o : Option (List Statement)) (f : FileTree) → syntax_of bytes ≡ o
    → option_and_then checked_file o ≡ Some f → IsFileOf bytes f
computed-is bytes None f e h = cc
computed-is bytes (Some ss) f e h =
    let p = file_without-some (faults ss) (file_tree_of ss) f h in
    record { statements = ss; syntax = (syntax_of-exact bytes ss).1 e; faultless = p.0; file = p.1 }

-- the file of the bytes is the one that is computed
computed-of : (bytes : List ℕ) (f : FileTree) → IsFileOf bytes f → file_of bytes ≡ Some f
computed-of bytes f h =
    ap (option_and_then checked_file) ((syntax_of-exact bytes h.statements).0 h.syntax)
    ∙ checked_file-faultless h.statements h.faultless ∙ ap Some (sym h.file)

-- the bytes are a file exactly where it is computed from them
pub file_of-exact : (bytes : List ℕ) (f : FileTree) → IsFileOf bytes f ↔ (file_of bytes ≡ Some f)
file_of-exact bytes f = (computed-of bytes f, λ h. computed-is bytes (syntax_of bytes) f refl h)

-- the bytes are one file
same_file : (bytes : List ℕ) (f g : FileTree) → IsFileOf bytes f → IsFileOf bytes g → f ≡ g
same_file bytes f g h k = some-same f g (sym (computed-of bytes f h) ∙ computed-of bytes g k)

-- ---- faults

-- what is computed is the fault
fault-is : (bytes : List ℕ) (r : Result (List Statement) Fault) (t : TextFault) → reading bytes ≡ r
    → fault_in r ≡ Some t → IsFaultOf bytes t
fault-is bytes (Err f) t e h = inl (f, reading-fault bytes f e, some-same t (syntax_fault f) (sym h))
fault-is bytes (Ok ss) t e h = inr (ss, reading-found bytes ss e, h)

-- the fault is the one that is computed
fault-of : (bytes : List ℕ) (t : TextFault) → IsFaultOf bytes t → fault_of bytes ≡ Some t
fault-of bytes t (inr (ss, syntax, h)) = ap fault_in (reading-only bytes ss syntax) ∙ h
fault-of bytes t (inl (f, is, e)) = ap fault_in (reading-only_fault bytes f is) ∙ ap Some (sym e)

-- the bytes have a fault exactly where it is computed from them
pub fault_of-exact : (bytes : List ℕ) (t : TextFault) → IsFaultOf bytes t ↔ (fault_of bytes ≡ Some t)
fault_of-exact bytes t = (fault-of bytes t, fault-is bytes (reading bytes) t refl)

-- a file has no fault
pub file-no_fault : (bytes : List ℕ) (f : FileTree) → IsFileOf bytes f → fault_of bytes ≡ None
file-no_fault bytes f file = ap fault_in (reading-only bytes file.statements file.syntax) ∙ ap first file.faultless

-- where no fault is first there is none
first-none : (fs : List TextFault) → first fs ≡ None → fs ≡ []
first-none [] h = refl
first-none (x ∷ xs) h = absurd (none_some x (sym h))

-- what is read without a fault is a file
no_fault-in : (bytes : List ℕ) (r : Result (List Statement) Fault) → reading bytes ≡ r → fault_in r ≡ None
    → (f : FileTree) × IsFileOf bytes f
no_fault-in bytes (Err f) e h = absurd (none_some (syntax_fault f) (sym h))
no_fault-in bytes (Ok ss) e h = (
  file_tree_of ss,
  record {
    statements = ss;
    syntax = reading-found bytes ss e;
    faultless = first-none (faults ss) h;
    file = refl;
  },
)

-- bytes without a fault are a file
pub no_fault-of : (bytes : List ℕ) → fault_of bytes ≡ None → (f : FileTree) × IsFileOf bytes f
no_fault-of bytes h = no_fault-in bytes (reading bytes) refl h

-- ---- what reading answers

-- the file of the bytes is answered
pub ReadGives-only : (bytes : List ℕ) (r : Result code.File TextError) → ReadGives bytes r → (f : FileTree)
    → IsFileOf bytes f → IsFileOrMemory r (λ g. g ≡ f)
ReadGives-only bytes (Ok g) h f file = same_file bytes (file_tree g) f h file
ReadGives-only bytes (Err (Text t)) h f file = none_some t (sym (file-no_fault bytes f file) ∙ h)
ReadGives-only bytes (Err Memory) h f file = tt

-- a fault that is answered is the fault of the bytes
pub ReadGives-fault : (bytes : List ℕ) (r : Result code.File TextError) → ReadGives bytes r
    → IfText r (λ t. IsFaultOf bytes t)
ReadGives-fault bytes (Ok f) h = tt
ReadGives-fault bytes (Err (Text t)) h = fault-is bytes (reading bytes) t refl h
ReadGives-fault bytes (Err Memory) h = tt

-- the fault of the bytes is answered
pub ReadGives-only_fault : (bytes : List ℕ) (r : Result code.File TextError) → ReadGives bytes r → (t : TextFault)
    → IsFaultOf bytes t → IsFaultOrMemory r (λ u. u ≡ t)
ReadGives-only_fault bytes (Ok f) h t k = none_some t (sym (file-no_fault bytes (file_tree f) h) ∙ fault-of bytes t k)
ReadGives-only_fault bytes (Err (Text u)) h t k = some-same u t (sym h ∙ fault-of bytes t k)
ReadGives-only_fault bytes (Err Memory) h t k = tt

-- the answer is the one that is computed
pub ReadGives-computed : (bytes : List ℕ) (r : Result code.File TextError) → ReadGives bytes r
    → IsComputed r (file_of bytes) (fault_of bytes)
ReadGives-computed bytes (Ok f) h = (computed-of bytes (file_tree f) h, file-no_fault bytes (file_tree f) h)
ReadGives-computed bytes (Err (Text t)) h = h
ReadGives-computed bytes (Err Memory) h = tt

-- an error of the syntax is the fault of the bytes, or memory ran out
pub ReadGives-error : (bytes : List ℕ) (e : SyntaxError) → IfFault e (λ f. IsFirstFault OfFile bytes f)
    → ReadGives bytes (Err (text_error e))
ReadGives-error bytes syntax_errors.Memory h = tt
ReadGives-error bytes (syntax_errors.Fault f) h = ap fault_in (reading-only_fault bytes f h)

-- what the statements give is what reading the bytes gives
pub ReadGives-statements : (bytes : List ℕ) (ss : List Statement) (r : Result code.File TextError) → IsSyntaxOf bytes ss
    → Gives r (faults ss) (λ f. file_tree f ≡ file_tree_of ss) → ReadGives bytes r
ReadGives-statements bytes ss (Ok f) h g = record { statements = ss; syntax = h; faultless = g.0; file = g.1 }
ReadGives-statements bytes ss (Err (Text t)) h g = ap fault_in (reading-only bytes ss h) ∙ g
ReadGives-statements bytes ss (Err Memory) h g = tt
