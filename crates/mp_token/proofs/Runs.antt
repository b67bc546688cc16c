-- Runs over bytes, one after another, and the steps of which they are made.
use Rattle.std.proofs.Common.{◌≡◌, ℕ, ◌<◌, true, false, [], ◌∷◌, ◌++◌, length, Option, Some, None}
use Rattle.std.proofs.Common.{refl, ap, sym, ◌∙◌}
use Rattle.std.specs.Prelude.{IfSome, option_map, ◌&&◌, nat_lt, ◌==◌, if◌then◌else◌}
use Rattle.std.proofs.lemmas.Bool.{false≢true, and_parts, and_from, lt-ltb, ltb-true, eqb-true, cond_both, ne_eqb}
use Rattle.mp_io.specs.Devices.{Text}
use Rattle.mp_term.specs.Names.{is_name_byte}
use Rattle.mp_term.specs.declared.limits.TheConstants.{MAX_NAME_BYTES}
use Rattle.mp_token.specs.declared.reader.Spot.{Spot}
use Rattle.mp_token.specs.declared.reader.Spot.TheVariants.{InSubject, InRule, BeforeEntry, InNumber, AfterComma}
use Rattle.mp_token.specs.declared.reader.Spot.TheVariants.{AfterMark}
use Rattle.mp_token.specs.Machine.{State, step, step_at, run, name_step, longer_name, end_step}

-- the state behind bytes, where a state is left
abbrev pub then_run : Option State → Text → Option State
then_run None bs = None
then_run (Some s) bs = run s bs

-- a step, and then the rest
run-step : (s : State) (b : ℕ) (bs : Text) → run s (b ∷ bs) ≡ then_run (step s b) bs
run-step s b bs = go (step s b)
  where
    go : (o : Option State) → (elim o [ None ↦ None | Some next ↦ run next bs ]) ≡ then_run o bs
    go None = refl
    go (Some next) = refl

-- bytes, and then others
pub run-append : (s : State) (xs ys : Text) → run s (xs ++ ys) ≡ then_run (run s xs) ys
run-append s [] ys = refl
run-append s (b ∷ xs) ys = go (λ next. run-append next xs ys) (step s b)
  where
    go : ((next : State) → run next (xs ++ ys) ≡ then_run (run next xs) ys) → (o : Option State)
        → (elim o [ None ↦ None | Some next ↦ run next (xs ++ ys) ])
        ≡ then_run (elim o [ None ↦ None | Some next ↦ run next xs ]) ys
    go rest None = refl
    go rest (Some next) = rest next

-- behind bytes that lead to a state the run goes on from there
pub run_on : (s t : State) (xs ys : Text) → run s xs ≡ Some t → run s (xs ++ ys) ≡ run t ys
run_on s t xs ys h = run-append s xs ys ∙ ap (λ o. then_run o ys) h

-- the same of one byte
pub run_next : (s t : State) (b : ℕ) (ys : Text) → step s b ≡ Some t → run s (b ∷ ys) ≡ run t ys
run_next s t b ys h = run-step s b ys ∙ ap (λ o. then_run o ys) h

-- one byte more
pub run_push : (s t : State) (xs : Text) (b : ℕ) (o : Option State) → run s xs ≡ Some t → step t b ≡ o
    → run s (xs ++ b ∷ []) ≡ o
run_push s t xs b o h next = run_on s t xs (b ∷ []) h ∙ run-step t b [] ∙ ap (λ p. then_run p []) next ∙ go o
  where
    go : (o : Option State) → then_run o [] ≡ o
    go None = refl
    go (Some next) = refl

-- bytes that are refused are refused with others behind them
pub run_refused : (s : State) (xs ys : Text) → run s xs ≡ None → run s (xs ++ ys) ≡ None
run_refused s xs ys h = run-append s xs ys ∙ ap (λ o. then_run o ys) h

-- bytes are passed where they are passed with others behind them
pub run_before : (s t : State) (xs : Text) (b : ℕ) → run s (xs ++ b ∷ []) ≡ Some t
    → (m : State) × (run s xs ≡ Some m) × (step m b ≡ Some t)
run_before s t xs b h = go (run s xs) refl (sym (run-append s xs (b ∷ [])) ∙ h)
  where
    last : (m : State) (o : Option State) → then_run o [] ≡ Some t → o ≡ Some t
    last m None h = absurd (cc)
    last m (Some next) h = h

    go : (o : Option State) → run s xs ≡ o → then_run o (b ∷ []) ≡ Some t
        → (m : State) × (run s xs ≡ Some m) × (step m b ≡ Some t)
    go None same h = absurd (cc)
    go (Some m) same h = (m, same, last m (step m b) (sym (run-step m b []) ∙ h))

-- a run over a byte and others begins with a step
pub run_first : (s t : State) (b : ℕ) (xs : Text) → run s (b ∷ xs) ≡ Some t
    → (m : State) × (step s b ≡ Some m) × (run m xs ≡ Some t)
run_first s t b xs h = go (step s b) refl (sym (run-step s b xs) ∙ h)
  where
    go : (o : Option State) → step s b ≡ o → then_run o xs ≡ Some t
        → (m : State) × (step s b ≡ Some m) × (run m xs ≡ Some t)
    go None same h = absurd (cc)
    go (Some m) same h = (m, same, h)

-- values in `Some`
pub from_Some : {A : Type 0} {x y : A} → Some x ≡ Some y → x ≡ y
from_Some h = cc

-- a semicolon ends an entry, and nothing else
pub step-semicolon : (s : State) → step s 59 ≡ end_step s s.spot
step-semicolon s = go s.spot
  where
    go : (p : Spot) → step_at p (record s { spot = p }) 59 ≡ end_step s p
    go InSubject = refl
    go InRule = refl
    go BeforeEntry = refl
    go (InNumber n) = refl
    go AfterComma = refl
    go AfterMark = refl

-- ---- names

-- what holds of a mapped value
pub IfSome-map : {A B : Type 0} (f : A → B) (P : B → Type 0) (o : Option A) → IfSome o (λ x. P (f x))
    → IfSome (option_map f o) P
IfSome-map f P None h = tt
IfSome-map f P (Some x) h = h

module _ (name : Text) (spot next : Spot) where
  -- a byte of a name is passed while there is room
  pub name_step-letter : (b : ℕ) → is_name_byte b ≡ true → length name < MAX_NAME_BYTES
      → name_step name spot next b ≡ Some (name ++ b ∷ [], spot)
  name_step-letter b letter room =
      let other : (b == 47) ≡ false = ne_eqb b 47 (λ same. false≢true (rw same at letter)) in
      ap (λ t. (if t && nat_lt 0 (length name) then Some (name, next)
      else option_map (λ longer. (longer, spot)) (longer_name name b))) other
      ∙ ap (λ t. option_map (λ longer. (longer, spot)) (if t then Some (name ++ b ∷ []) else None))
      (and_from (is_name_byte b) (nat_lt (length name) MAX_NAME_BYTES) letter
      (lt-ltb (length name) MAX_NAME_BYTES room))

  -- a slash ends a name
  pub name_step-slash : 0 < length name → name_step name spot next 47 ≡ Some (name, next)
  name_step-slash some = ap (λ t. (if t then Some (name, next) else None)) (lt-ltb 0 (length name) some)

  -- what is passed is a slash behind a name, or a byte of a name
  pub name_step-cases : (P : Text × Spot → Type 0) (b : ℕ) → (b ≡ 47 → 0 < length name → P (name, next))
      → (is_name_byte b ≡ true → length name < MAX_NAME_BYTES → P (name ++ b ∷ [], spot))
      → IfSome (name_step name spot next b) P
  name_step-cases P b slash letter =
      cond_both ((b == 47) && nat_lt 0 (length name)) _ _ (λ o. IfSome o P)
      (λ h. let both = and_parts (b == 47) (nat_lt 0 (length name)) h in
      slash (eqb-true b 47 both.0) (ltb-true 0 (length name) both.1))
      (λ _. IfSome-map (λ longer. (longer, spot)) P (longer_name name b)
      (cond_both (is_name_byte b && nat_lt (length name) MAX_NAME_BYTES) _ _ (λ o. IfSome o (λ x. P (x, spot)))
      (λ h. let both = and_parts (is_name_byte b) (nat_lt (length name) MAX_NAME_BYTES) h in
      letter both.0 (ltb-true (length name) MAX_NAME_BYTES both.1))
      (λ _. tt)))
