-- What is answered to a text alone is what its bytes are.
use Rattle.std.proofs.Common.{◌≡◌, inl, inr, ℕ, List, [], ◌∷◌, Option, Some, Result, Ok, Err, refl, sym, subst, ◌∙◌}
use Rattle.std.specs.Prelude.{IfOk}
use Rattle.mp_parser.specs.declared.fault.Fault.{Fault}
use Rattle.mp_parser.specs.Syntax.{IsExprOf}
use Rattle.mp_parser.specs.declared.fault.SyntaxError.{SyntaxError}
use Rattle.mp_parser.specs.declared.fault.SyntaxError.TheVariants as syntax_errors
use Rattle.mp_syntax.specs.Reading.{expr_reading, IfFault}
use Rattle.mp_syntax.specs.Begins as begins
use Rattle.mp_syntax.specs.Begins.{OfExpr}
use Rattle.mp_syntax.specs.FirstFault.{IsFirstFault}
use Rattle.mp_syntax.proofs.Whole.{expr_reading-found, expr_reading-only}
use Rattle.mp_syntax.proofs.Whole.{expr_reading-fault, expr_reading-only_fault}
use Rattle.mp_build.specs.declared.fault.TextFault.{TextFault}
use Rattle.mp_build.specs.declared.fault.TextError.{TextError}
use Rattle.mp_build.specs.declared.fault.TextError.TheVariants.{Text, Memory}
use Rattle.mp_build.specs.Answers.{first, Gives}
use Rattle.mp_build.specs.Alone.{IsValueOf, IsFaultBy, Tells, Answers, IsValueOrMemory}
use Rattle.mp_build.specs.SyntaxFaults.{syntax_fault, text_error}
use Rattle.mp_build.specs.Answers.{IfText, IsFaultOrMemory}

abbrev some_fault : TextFault → Option TextFault
some_fault f = Some f

some-is : (f g : TextFault) → some_fault f ≡ some_fault g → f ≡ g
some-is f g e = cc

-- faults of which there is a first are some
first-some : (fs : List TextFault) (f : TextFault) → fs ≡ [] → first fs ≡ Some f → ⊥
first-some [] f e h = cc
first-some (g ∷ fs) f e h = cc

-- a reading that is exact: what is read is what the bytes are, and its fault their first fault
pub record IsReading {S : Type 0} (sort : begins.Text) (IsSyntax : List ℕ → S → Type 0)
    (reading : List ℕ → Result S Fault) : Type 0 where
  pub found : (bytes : List ℕ) (s : S) → reading bytes ≡ Ok s → IsSyntax bytes s
  pub only : (bytes : List ℕ) (s : S) → IsSyntax bytes s → reading bytes ≡ Ok s
  pub fault : (bytes : List ℕ) (f : Fault) → reading bytes ≡ Err f → IsFirstFault sort bytes f
  pub only_fault : (bytes : List ℕ) (f : Fault) → IsFirstFault sort bytes f → reading bytes ≡ Err f

-- that of expressions
pub IsReading-expr_reading : IsReading OfExpr IsExprOf expr_reading
IsReading-expr_reading = record {
  found = expr_reading-found;
  only = expr_reading-only;
  fault = expr_reading-fault;
  only_fault = expr_reading-only_fault;
}

module _ {S T A : Type 0} (sort : begins.Text) (IsSyntax : List ℕ → S → Type 0) (reading : List ℕ → Result S Fault)
    (exact : IsReading sort IsSyntax reading) (faults : S → List TextFault) (value : S → A) (view : T → A)
    (bytes : List ℕ) where
  error-memory : (o : Result S Fault) → Answers faults value view o (Err Memory)
  error-memory (Ok s) = tt
  error-memory (Err f) = tt

  -- an error of the syntax is answered as the fault that it is
  pub answers-error : (e : SyntaxError) → IfFault e (λ f. IsFirstFault sort bytes f)
      → Answers faults value view (reading bytes) (Err (text_error e))
  answers-error syntax_errors.Memory h = error-memory (reading bytes)
  answers-error (syntax_errors.Fault f) h =
      subst (λ o. Answers faults value view o (Err (Text (syntax_fault f)))) (sym (exact.only_fault bytes f h)) refl

  -- an answer to what is read is one to the syntax tree that the bytes are
  to-syntax : (r : Result T TextError) (s : S) → IsSyntax bytes s → Answers faults value view (reading bytes) r
      → Gives r (faults s) (λ v. view v ≡ value s)
  to-syntax r s h a = subst (λ o. Answers faults value view o r) (exact.only bytes s h) a

  -- and back
  pub answers-syntax : (r : Result T TextError) (s : S) → IsSyntax bytes s → Gives r (faults s) (λ v. view v ≡ value s)
      → Answers faults value view (reading bytes) r
  answers-syntax r s h g = subst (λ o. Answers faults value view o r) (sym (exact.only bytes s h)) g

  found-in : (o : Result S Fault) (v : T) → reading bytes ≡ o → Answers faults value view o (Ok v)
      → IsValueOf IsSyntax faults value bytes (view v)
  found-in (Ok s) v e h = record { syntax_tree = s; syntax = exact.found bytes s e; faultless = h.0; is = h.1 }
  found-in (Err f) v e h = absurd h

  -- a value that is answered is that of the bytes
  pub answers-found : (r : Result T TextError) → Answers faults value view (reading bytes) r
      → IfOk r (λ v. IsValueOf IsSyntax faults value bytes (view v))
  answers-found (Ok v) h = found-in (reading bytes) v refl h
  answers-found (Err e) h = tt

  -- the value of the bytes is answered
  pub answers-only : (r : Result T TextError) → Answers faults value view (reading bytes) r → (v : A)
      → IsValueOf IsSyntax faults value bytes v → IsValueOrMemory r (λ u. view u ≡ v)
  answers-only (Ok u) h v is = (to-syntax (Ok u) is.syntax_tree is.syntax h).1 ∙ sym is.is
  answers-only (Err (Text f)) h v is = first-some (faults is.syntax_tree) f is.faultless
      (to-syntax (Err (Text f)) is.syntax_tree is.syntax h)
  answers-only (Err Memory) h v is = tt

  fault-in : (o : Result S Fault) (f : TextFault) → reading bytes ≡ o → Answers faults value view o (Err (Text f))
      → IsFaultBy sort IsSyntax faults bytes f
  fault-in (Ok s) f e h = inr (s, exact.found bytes s e, h)
  fault-in (Err g) f e h = inl (g, exact.fault bytes g e, h)

  -- a fault that is answered is that of the bytes
  pub answers-fault : (r : Result T TextError) → Answers faults value view (reading bytes) r
      → IfText r (λ f. IsFaultBy sort IsSyntax faults bytes f)
  answers-fault (Ok v) h = tt
  answers-fault (Err (Text f)) h = fault-in (reading bytes) f refl h
  answers-fault (Err Memory) h = tt

  told : (r : Result T TextError) (g : Fault) (f : TextFault) → f ≡ syntax_fault g → Tells g r
      → IsFaultOrMemory r (λ u. u ≡ f)
  told (Ok v) g f e h = absurd h
  told (Err (Text u)) g f e h = h ∙ sym e
  told (Err Memory) g f e h = tt

  -- the fault of the bytes is answered
  pub answers-only_fault : (r : Result T TextError) → Answers faults value view (reading bytes) r → (f : TextFault)
      → IsFaultBy sort IsSyntax faults bytes f → IsFaultOrMemory r (λ g. g ≡ f)
  answers-only_fault (Ok v) h f (inr (s, is, k)) = absurd (first-some (faults s) f (to-syntax (Ok v) s is h).0 k)
  answers-only_fault (Err (Text g)) h f (inr (s, is, k)) = some-is g f (sym (to-syntax (Err (Text g)) s is h) ∙ k)
  answers-only_fault (Err Memory) h f (inr (s, is, k)) = tt
  answers-only_fault r h f (inl (g, is, e)) =
      told r g f e (subst (λ o. Answers faults value view o r) (exact.only_fault bytes g is) h)
