-- An action that is done part by part.
use Rattle.std.proofs.Common.{◌≡◌, ℕ, ◌+◌, ◌<◌, List, ◌∷◌, ◌++◌, length, map, drop, get_or}
use Rattle.std.proofs.Common.{refl, sym, ap, ◌∙◌, subst}
use Rattle.std.proofs.Common.{append_assoc, append-nil, length-append, arith}
use Rattle.std.specs.Prelude.{Option, Result, Ok, Err, IsErrAnd, ⊤}
use Rattle.std.specs.List.{AllByRecursion}
use Rattle.std.specs.Io.KnownBytes.{Appends}
use Rattle.std.proofs.KnownBytes.{Appends-nil, Appends-trans}
use Rattle.mp_term.proofs.ListLaws.{drop-item}
use Rattle.mp_io.specs.Devices.{Rose, Text}
use Rattle.mp_io.specs.Moments.{Sunk}
use Rattle.mp_io.specs.Printing.{AppendsFront, IsCut}
use Rattle.mp_command.specs.Answers.{Acts, GoesOn}
use Rattle.mp_command.specs.Endings.{told_line, told_status}
use Rattle.mp_command.specs.Outcome.{Outcome, refused, written_before}
use Rattle.mp_command.specs.declared.ending.Told.{Told}
use Rattle.mp_command.specs.declared.ending.Ending.{Ending}
use Rattle.mp_command.specs.declared.ending.Ending.TheVariants as ending

-- a sink at two moments
abbrev pub between : Option Text → Option Text → ℕ → ℕ → Sunk
between a b m n = record { old = a; new = b; faults = m; faults_after = n }

-- two texts in front of an outcome are one
written-twice : (s t : Text) (o : Outcome) → written_before s (written_before t o) ≡ written_before (s ++ t) o
written-twice s t o = ap (λ x. record { out = x; err = o.err; status = o.status }) (sym (append_assoc s t o.out))

module _ (o p : Outcome) (a b c : Option Text) (m n k : ℕ) (before : GoesOn o p (between a b m n) (Ok tt)) where
  -- a further part is done
  pub goes_on-further : (q : Outcome) → GoesOn p q (between b c n k) (Ok tt) → GoesOn o q (between a c m k) (Ok tt)
  goes_on-further q h = (
    before.0 ++ h.0,
    before.1 ∙ ap (written_before before.0) h.1 ∙ written-twice before.0 h.0 q,
    Appends-trans a b c before.0 h.0 before.2 h.2,
    h.3 ∙ before.3,
  )

  front-further : AppendsFront b c p.out → AppendsFront a c o.out
  front-further h = record {
    front = before.0 ++ h.front;
    rest = h.rest;
    split = ap (λ x. x.out) before.1 ∙ ap (λ x. before.0 ++ x) h.split ∙ sym (append_assoc before.0 h.front h.rest);
    written = Appends-trans a b c before.0 h.front before.2 h.written;
  }

  -- the action ends in a part
  pub goes_on-ends : (e : Ending) → Acts p (between b c n k) e → Acts o (between a c m k) e
  goes_on-ends (ending.Told t) h = record {
    status = h.status ∙ sym (ap (λ x. x.status) before.1);
    line = h.line ∙ sym (ap (λ x. x.err) before.1);
    text = subst (Appends a c) (sym (ap (λ x. x.out) before.1)) (Appends-trans a b c before.0 p.out before.2 h.text);
    stays = h.stays ∙ before.3;
  }
  goes_on-ends ending.Memory h = front-further h
  goes_on-ends ending.CannotWrite h =
      let same : length o.out ≡ length (before.0 ++ p.out) = ap (λ x. length x.out) before.1 in (
        front-further h.0,
        subst (λ x. Rose x k) before.3 h.1,
        omega (arith, same, length-append before.0 p.out, h.2),
      )
  goes_on-ends (ending.CannotOpen name) h = absurd h
  goes_on-ends (ending.CannotRead name) h = absurd h

-- ---- the endings of a part

-- a front of a text is one of the text with more behind it
front-longer : (a b : Option Text) (text more : Text) → AppendsFront a b text → AppendsFront a b (text ++ more)
front-longer a b text more h = record {
  front = h.front;
  rest = h.rest ++ more;
  split = ap (λ x. x ++ more) h.split ∙ append_assoc h.front h.rest more;
  written = h.written;
}

-- the line is written, and then there is no memory
pub memory-late : (text : Text) (o : Outcome) (a b : Option Text) (m n : ℕ) → Appends a b text
    → Acts (written_before text o) (between a b m n) ending.Memory
memory-late text o a b m n h = record { front = text; rest = o.out; split = refl; written = h }

-- the line can't be written
pub write-failed : (text : Text) (o : Outcome) (a b : Option Text) (m n : ℕ) → IsCut a b text → Rose m n
    → Acts (written_before text o) (between a b m n) ending.CannotWrite
write-failed text o a b m n h rose =
    (front-longer a b text o.out h.front, rose, omega (arith, h.some, length-append text o.out))

-- ---- a loop over items, each of which is a part

-- what holds of all items from an index on holds of the one there and of those after it
pub AllByRecursion-drop : {A X : Type 0} (view : A → X) (P : X → Type 0) (xs : List A) (i : ℕ) (x : A)
    → i < length xs → x ≡ get_or xs i x → AllByRecursion P (map view (drop i xs))
    → P (view x) × AllByRecursion P (map view (drop (i + 1) xs))
AllByRecursion-drop view P xs i x h is all =
    subst (λ ys. AllByRecursion P (map view ys)) (drop-item xs i x h is) all

module _ {A : Type 0} (left : List A → Outcome) (part : A → Outcome → Outcome)
    (each : (x : A) (xs : List A) → left (x ∷ xs) ≡ part x (left xs)) (o : Outcome) (xs : List A) (i : ℕ)
    (a b : Option Text) (m n : ℕ) (before : GoesOn o (left (drop i xs)) (between a b m n) (Ok tt)) where
  module _ (x : A) (within : i < length xs) (is : x ≡ get_or xs i x) (c : Option Text) (k : ℕ) where
    -- what is left at an item
    from_item : left (drop i xs) ≡ part x (left (drop (i + 1) xs))
    from_item = ap left (drop-item xs i x within is) ∙ each x (drop (i + 1) xs)

    -- the part of an item is done
    pub loop-further : ((rest : Outcome) → GoesOn (part x rest) rest (between b c n k) (Ok tt))
        → GoesOn o (left (drop (i + 1) xs)) (between a c m k) (Ok tt)
    loop-further h = goes_on-further o (part x (left (drop (i + 1) xs))) a b c m n k
        (subst (λ p. GoesOn o p (between a b m n) (Ok tt)) from_item before) (left (drop (i + 1) xs))
        (h (left (drop (i + 1) xs)))

    -- the action ends in the part of an item
    pub loop-ends : (e : Ending) → ((rest : Outcome) → GoesOn (part x rest) rest (between b c n k) (Err e))
        → Acts o (between a c m k) e
    loop-ends e h = goes_on-ends o (part x (left (drop (i + 1) xs))) a b c m n k
        (subst (λ p. GoesOn o p (between a b m n) (Ok tt)) from_item before) e (h (left (drop (i + 1) xs)))

-- ---- the answer of a part

-- an error that is said to be an ending, with which the action ends
pub GoesOn-err : (o rest : Outcome) (out : Sunk) (e : Ending) (r : Result ⊤ Ending) → IsErrAnd r (λ x. x ≡ e)
    → Acts o out e → GoesOn o rest out r
GoesOn-err o rest out e (Err x) is h = subst (Acts o out) (sym is) h
GoesOn-err o rest out e (Ok u) is h = absurd is

-- nothing is written but what is told
pub told-early : (status : ℕ) (line : Text) (t : Told) (a : Option Text) (m : ℕ) → told_status t ≡ status
    → told_line t ≡ line → Acts (refused status line) (between a a m m) (ending.Told t)
told-early status line t a m s l = record { status = s; line = l; text = Appends-nil a; stays = refl }

-- a text is written, and then so is what is told
pub told-late : (text : Text) (status : ℕ) (line : Text) (t : Told) (a b : Option Text) (m n : ℕ) → Appends a b text
    → n ≡ m → told_status t ≡ status → told_line t ≡ line
    → Acts (written_before text (refused status line)) (between a b m n) (ending.Told t)
told-late text status line t a b m n h stays s l =
    record { status = s; line = l; text = subst (Appends a b) (sym (append-nil text)) h; stays = stays }
