-- How the answer of a run is made of the loading of its files, one after the other, and of an action over their bytes.
use Rattle.std.proofs.Common.{◌≡◌, inl, inr, ℕ, ◌≤◌, ◌<◌, List, [], ◌∷◌, length, refl, sym, ap, subst}
use Rattle.std.proofs.Common.{arith}
use Rattle.std.specs.Prelude.{◌↔◌, Option, Some, None, IfSome, IsSomeAnd, Err}
use Rattle.std.specs.Io.KnownBytes.{Appends, Keeps}
use Rattle.std.proofs.KnownBytes.{Keeps-refl, Appends-nil}
use Rattle.mp_io.specs.Devices.{Files, HoldsBytes, IsLonger, IsMissing, Rose, Text, held}
use Rattle.mp_io.specs.Printing.{AppendsFront}
use Rattle.mp_io.specs.Moments.{Shelved, Sunk}
use Rattle.mp_command.specs.Answers.{Acts, ActsAs, Answers, AreOnly, HasCauses, IsLater, IsReached, IsTurnAt}
use Rattle.mp_command.specs.Answers.{IsUnopened}
use Rattle.mp_command.specs.Answers.{HasFailed, Loads}
use Rattle.mp_command.specs.Endings.{line_of, status_of}
use Rattle.mp_command.specs.Messages.{long_line, open_line, read_line}
use Rattle.mp_command.specs.Outcome.{IsOver, Outcome, refused}
use Rattle.mp_command.specs.Run.{IsTurnOf, Wanted}
use Rattle.mp_command.specs.declared.ending.Told.{Told}
use Rattle.mp_command.specs.declared.ending.Ending.{Ending}
use Rattle.mp_command.specs.declared.ending.Ending.TheVariants as ending

-- ---- an action that has one outcome

pub ActsAs-exact : (IsOne : Outcome → Type 0) (out : Sunk) (e : Ending) (o : Outcome)
    → ((p : Outcome) → IsOne p ↔ (p ≡ o)) → Acts o out e → ActsAs IsOne out e
ActsAs-exact IsOne out e o exact acts = record {
  each = λ p h. subst (λ q. Acts q out e) (sym ((exact p).0 h)) acts;
  some = λ _. (o, (exact o).1 refl);
  failed = failed e acts;
}
  where
    failed : (e : Ending) → Acts o out e → HasFailed e out
    failed (ending.Told t) h = tt
    failed ending.Memory h = tt
    failed ending.CannotWrite h = h.1
    failed (ending.CannotOpen name) h = tt
    failed (ending.CannotRead name) h = tt

-- ---- the outcome over a file, where the files are told

module _ (With : Files → Text → Outcome → Type 0) (file : Wanted) where
  -- the outcome over the file
  abbrev pub Over : Files → Outcome → Type 0
  Over files = IsOver file.limit file.name (With files) (held files file.name)

  module _ (files : Files) (bytes : Text) (is : held files file.name ≡ Some bytes) (few : length bytes ≤ file.limit)
    where
      -- is that over its bytes
      over-loaded : (o : Outcome) → Over files o → With files bytes o
      over-loaded o h = go (held files file.name) is h
        where
          go : (found : Option Text) → found ≡ Some bytes → IsOver file.limit file.name (With files) found o
              → With files bytes o
          go None e k = absurd cc
          go (Some x) e (inl k) = let same : x ≡ bytes = cc in absurd (omega (arith, ap length same, few, k.0))
          go (Some x) e (inr k) = let same : x ≡ bytes = cc in subst (λ y. With files y o) same k.1

      loaded-over : (o : Outcome) → With files bytes o → Over files o
      loaded-over o h = subst (λ found. IsOver file.limit file.name (With files) found o) (sym is) (inr (few, h))

  -- is its refusal where it is too long
  over-long : (files : Files) → IsSomeAnd (held files file.name) (λ bytes. file.limit < length bytes) → (o : Outcome)
      → Over files o ↔ (o ≡ refused 4 (long_line file.name))
  over-long files long o = go (held files file.name) long
    where
      go : (found : Option Text) → IsSomeAnd found (λ bytes. file.limit < length bytes)
          → IsOver file.limit file.name (With files) found o ↔ (o ≡ refused 4 (long_line file.name))
      go None k = absurd k
      go (Some bytes) k = (λ h. elim h [ inl x ↦ x.1 | inr x ↦ absurd (omega (arith, x.0, k)) ], λ e. inl (k, e))

  -- and where it isn't held
  over-missing : (files : Files) → held files file.name ≡ None → (o : Outcome)
      → Over files o ↔ (o ≡ refused 4 (open_line file.name))
  over-missing files is o =
      subst (λ found. IsOver file.limit file.name (With files) found o ↔ (o ≡ refused 4 (open_line file.name)))
      (sym is) (λ h. h, λ h. h)

-- what holds of the files that are told, where they hold these bytes
IfSome-under : {P Q : Files → Type 0} (found : Option Files) (name bytes : Text) → HoldsBytes found name bytes
    → ((files : Files) → held files name ≡ Some bytes → P files → Q files) → IfSome found P → IfSome found Q
IfSome-under None name bytes h f p = tt
IfSome-under (Some files) name bytes h f p = f files h p

IfSome-all : {P : Files → Type 0} (found : Option Files) → ((files : Files) → P files) → IfSome found P
IfSome-all None h = tt
IfSome-all (Some files) h = h files

-- an outcome that is determined
AreOnly-exact : (IsOne : Outcome → Type 0) (P : Outcome → Type 0) (o : Outcome)
    → ((p : Outcome) → IsOne p ↔ (p ≡ o)) → P o → AreOnly IsOne P
AreOnly-exact IsOne P o exact h =
    record { each = λ p k. subst P (sym ((exact p).0 k)) h; some = (o, (exact o).1 refl) }

-- ---- nothing was written

pub Appends-nothing : (out : Sunk) → out.new ≡ out.old → Appends out.old out.new []
Appends-nothing out same = subst (λ n. Appends out.old n []) (sym same) (Appends-nil out.old)

pub Keeps-nothing : (out : Sunk) → out.new ≡ out.old → Keeps out.old out.new
Keeps-nothing out same = subst (λ n. Keeps out.old n) (sym same) (Keeps-refl out.old)

pub AppendsFront-nothing : (out : Sunk) (text : Text) → out.new ≡ out.old → AppendsFront out.old out.new text
AppendsFront-nothing out text same =
    record { front = []; rest = text; split = refl; written = Appends-nothing out same }

-- there was no memory, and nothing was written
pub Answers-nothing : (wanted : List Wanted) (Over : Files → Outcome → Type 0) (shelf : Shelved) (out : Sunk)
    → out.new ≡ out.old → Answers wanted Over shelf out ending.Memory
Answers-nothing wanted Over shelf out same =
    IfSome-all shelf.files (λ files o h. AppendsFront-nothing out o.out same)

-- words that make no request
pub Answers-told : (Over : Files → Outcome → Type 0) (shelf : Shelved) (out : Sunk) (o : Outcome) (t : Told)
    → ((files : Files) (p : Outcome) → Over files p ↔ (p ≡ o)) → IsReached o out t
    → Answers [] Over shelf out (ending.Told t)
Answers-told Over shelf out o t exact h =
    IfSome-all shelf.files (λ files. AreOnly-exact (Over files) (λ p. IsReached p out t) o (exact files) h)

-- ---- no file more, and then the action

pub Answers-acted : (wanted : List Wanted) (IsOne : Outcome → Type 0) (shelf : Shelved) (out : Sunk) (e : Ending)
    → ActsAs IsOne out e → (status_of e ≡ 4 → ⊥) → Answers wanted (λ files. IsOne) shelf out e
Answers-acted wanted IsOne shelf out (ending.Told t) h other =
    IfSome-all shelf.files (λ files. record { each = h.each; some = h.some tt })
Answers-acted wanted IsOne shelf out ending.Memory h other = IfSome-all shelf.files (λ files. h.each)
Answers-acted wanted IsOne shelf out ending.CannotWrite h other =
    (h.failed, IfSome-all shelf.files (λ files o k. let cut = h.each o k in (cut.0, cut.2)))
Answers-acted wanted IsOne shelf out (ending.CannotOpen n) h other = absurd (other refl)
Answers-acted wanted IsOne shelf out (ending.CannotRead n) h other = absurd (other refl)

-- ---- a file that was loaded, and then others

-- a shelf over two calls, one behind the other
abbrev pub joined : Shelved → Shelved → Shelved
joined first second = record {
  files = first.files;
  starts = first.starts;
  starts_after = second.starts_after;
  reads = first.reads;
  reads_after = second.reads_after;
  start_faults = first.start_faults;
  start_faults_after = second.start_faults_after;
  read_faults = first.read_faults;
  read_faults_after = second.read_faults_after;
  given_after = second.given_after;
}

-- a count that rose behind an earlier moment rose
Rose-earlier : (a b c : ℕ) → a ≤ b → Rose b c → Rose a c
Rose-earlier a b c h rose = grind (arith, h, rose)

-- a file that is held isn't missing
held-there : (found : Option Files) (name bytes : Text) → HoldsBytes found name bytes → IsMissing found name → ⊥
held-there None name bytes h m = m
held-there (Some files) name bytes h m = absurd cc

module _ (With : Files → Text → Outcome → Type 0) (file : Wanted) (wanted : List Wanted) (bytes : Text)
    (first second : Shelved) (files_same : second.files ≡ first.files)
    (starts_same : second.start_faults ≡ first.start_faults_after)
    (reads_same : second.read_faults ≡ first.read_faults_after) (later : IsLater first)
    (holds : HoldsBytes first.files file.name bytes) (few : length bytes ≤ file.limit) where
  start_rose : Rose second.start_faults second.start_faults_after → Rose first.start_faults second.start_faults_after
  start_rose rose =
      Rose-earlier first.start_faults second.start_faults second.start_faults_after
      (subst (λ n. first.start_faults ≤ n) (sym starts_same) later.start_faults) rose

  read_rose : Rose second.read_faults second.read_faults_after → Rose first.read_faults second.read_faults_after
  read_rose rose =
      Rose-earlier first.read_faults second.read_faults second.read_faults_after
      (subst (λ n. first.read_faults ≤ n) (sym reads_same) later.read_faults) rose

  turn-behind : (w : Wanted) → IsTurnOf second.files wanted w → IsTurnOf first.files (file ∷ wanted) w
  turn-behind w turn = inr (
    held-there first.files file.name bytes holds,
    subst (λ found. IsTurnOf found wanted w) files_same turn,
  )

  turn_at-behind : (name : Text) → IsTurnAt second.files wanted name → IsTurnAt first.files (file ∷ wanted) name
  turn_at-behind name turn = (turn.0, turn-behind turn.0 turn.1, turn.2)

  -- what holds of the outcomes over the bytes holds of those over the file
  under : {P Q : Files → Type 0} → ((files : Files) → held files file.name ≡ Some bytes → P files → Q files)
      → IfSome second.files P → IfSome first.files Q
  under {P} f h =
      IfSome-under first.files file.name bytes holds f (subst (λ found. IfSome found P) files_same h)

  only : (P : Outcome → Type 0) (files : Files) → held files file.name ≡ Some bytes
      → AreOnly (With files bytes) P → AreOnly (Over With file files) P
  only P files is h = record {
    each = λ o k. h.each o (over-loaded With file files bytes is few o k);
    some = (h.some.0, loaded-over With file files bytes is few h.some.0 h.some.1);
  }

  pub Answers-loaded : (out : Sunk) (e : Ending) → Answers wanted (λ files. With files bytes) second out e
      → Answers (file ∷ wanted) (Over With file) (joined first second) out e
  Answers-loaded out (ending.Told t) h = under (only (λ o. IsReached o out t)) h
  Answers-loaded out ending.Memory h =
      under (λ files is k o over. k o (over-loaded With file files bytes is few o over)) h
  Answers-loaded out ending.CannotWrite h =
      (h.0, under (λ files is k o over. k o (over-loaded With file files bytes is few o over)) h.1)
  Answers-loaded out (ending.CannotOpen n) h = (
    h.0,
    turn_at-behind n.now h.1,
    elim h.2 [
      | inl rose ↦ inl (start_rose rose)
      | inr m ↦ inr (
        subst (λ found. IsMissing found n.now) files_same m.0,
        under (only (IsUnopened (line_of (ending.CannotOpen n)))) m.1,
      )
    ],
  )
  Answers-loaded out (ending.CannotRead n) h = (
    h.0,
    turn_at-behind n.now h.1,
    λ m. h.2 (subst (λ found. IsMissing found n.now) (sym files_same) m),
    read_rose h.3,
  )

-- ---- a file that wasn't loaded

module _ (With : Files → Text → Outcome → Type 0) (file : Wanted) (wanted : List Wanted) (shelf : Shelved) where
  pub Answers-unloaded : (out : Sunk) (e : Ending) → Loads file.name file.limit shelf (Err e) → out.new ≡ out.old
      → out.faults_after ≡ out.faults → Answers (file ∷ wanted) (Over With file) shelf out e
  Answers-unloaded out (ending.Told t) h same stays = told shelf.files h.2
    where
      told : (found : Option Files) → IsLonger found file.name file.limit
          → IfSome found (λ files. AreOnly (Over With file files) (λ o. IsReached o out t))
      told None long = tt
      told (Some files) long =
          AreOnly-exact (Over With file files) (λ o. IsReached o out t) (refused 4 (long_line file.name))
          (over-long With file files long)
          (record { status = h.0; line = h.1; text = Appends-nothing out same; stays = stays })
  Answers-unloaded out ending.Memory h same stays =
      Answers-nothing (file ∷ wanted) (Over With file) shelf out same
  Answers-unloaded out ending.CannotWrite h same stays = absurd h
  Answers-unloaded out (ending.CannotOpen n) h same stays = (
    Keeps-nothing out same,
    (file, inl refl, sym h.0),
    elim h.1 [
      | inl rose ↦ inl rose
      | inr m ↦ inr (subst (IsMissing shelf.files) (sym h.0) m, unopened shelf.files m)
    ],
  )
    where
      unopened : (found : Option Files) → IsMissing found file.name
          → IfSome found (λ files. AreOnly (Over With file files) (IsUnopened (open_line n.now)))
      unopened None m = tt
      unopened (Some files) m =
          AreOnly-exact (Over With file files) (IsUnopened (open_line n.now)) (refused 4 (open_line file.name))
          (over-missing With file files m) (refl, ap open_line h.0, refl)
  Answers-unloaded out (ending.CannotRead n) h same stays = (
    Keeps-nothing out same,
    (file, inl refl, sym h.0),
    λ m. h.1 (subst (IsMissing shelf.files) h.0 m),
    h.2,
  )

  -- and why, whether or not the files are told
  pub HasCauses-unloaded : (e : Ending) → Loads file.name file.limit shelf (Err e)
      → HasCauses (file ∷ wanted) shelf e
  HasCauses-unloaded (ending.Told t) h = λ _. (file, inl refl, inr (inr (h.1, h.3)))
  HasCauses-unloaded ending.Memory h = λ s. absurd (omega arith)
  HasCauses-unloaded ending.CannotWrite h = absurd h
  HasCauses-unloaded (ending.CannotOpen n) h = λ _. (file, inl refl, inl (ap open_line h.0, h.1))
  HasCauses-unloaded (ending.CannotRead n) h = λ _. (file, inl refl, inr (inl (ap read_line h.0, h.2)))
