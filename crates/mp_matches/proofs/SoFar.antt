-- Some of the matches are printed, and others are still to come.
use Rattle.std.proofs.Common.{◌≡◌, ℕ, Bool, false, [], ◌++◌, length, refl, sym, ap, ap₂, ◌∙◌, subst, arith}
use Rattle.std.proofs.Common.{append_assoc, append-nil, length-append}
use Rattle.std.proofs.KnownBytes.{Appends-nil, Appends-trans}
use Rattle.std.specs.Prelude.{List, ◌∷◌, Option, Some, Result, Ok, Err, IsErrAnd, ◌||◌}
use Rattle.std.specs.Io.KnownBytes.{Appends}
use Rattle.mp_io.specs.Devices.{Rose, Text}
use Rattle.mp_io.specs.Moments.{Sunk}
use Rattle.mp_io.specs.Printing.{AppendsFront}
use Rattle.mp_term.specs.Signature.{Sig}
use Rattle.mp_matches.specs.Left.{Left, full, left_of, printed, text_before}
use Rattle.mp_matches.specs.declared.left.Left as code
use Rattle.mp_matches.specs.declared.left.Left.TheVariants as kind
use Rattle.mp_matches.specs.Match.{Match, match_line}
use Rattle.mp_matches.specs.Printed.{has_some, IsWritten, PrintsMatches}
use Rattle.mp_matches.specs.declared.stop.Stop.{Stop}
use Rattle.mp_matches.specs.declared.stop.Stop.TheVariants as stop
use Rattle.mp_matches.proofs.PrintedLaws.{has_some-append, printed-append, printed-append_none}
use Rattle.mp_matches.proofs.PrintedLaws.{printed-front, text_before-text_before}
use Rattle.mp_matches.specs.TokenOf.{token_of}

-- a text was printed and whether it has a byte is known, and the rest is still to come
pub record IsSoFar (whole rest : Text × Option Left) (out : Sunk) (any : Bool) : Type 0 where
  pub text : Text
  pub split : whole ≡ text_before text rest
  pub written : IsWritten text out
  pub some : any ≡ has_some text

-- nothing is printed at first
pub so_far-first : (whole : Text × Option Left) (a : Option Text) (m : ℕ)
    → IsSoFar whole whole (record { old = a; new = a; faults = m; faults_after = m }) false
so_far-first whole a m = record { text = []; split = refl; written = (Appends-nil a, refl); some = refl }

-- what was printed of the rest is printed of the whole
pub front-behind : (a b c : Option Text) (text whole part : Text) → Appends a b text → AppendsFront b c part
    → whole ≡ text ++ part → AppendsFront a c whole
front-behind a b c text whole part p h e = record {
  front = text ++ h.front;
  rest = h.rest;
  split = e ∙ ap (λ l. text ++ l) h.split ∙ sym (append_assoc text h.front h.rest);
  written = Appends-trans a b c text h.front p h.written;
}

module _ (whole rest : Text × Option Left) (a b c : Option Text) (m n k : ℕ) (any : Bool) where
  -- printing stopped in the rest
  pub so_far-stopped : (left : Left) (e : Stop)
      → IsSoFar whole rest (record { old = a; new = b; faults = m; faults_after = n }) any
      → PrintsMatches rest (record { old = b; new = c; faults = n; faults_after = k }) left (Err e)
      → PrintsMatches whole (record { old = a; new = c; faults = m; faults_after = k }) left (Err e)
  so_far-stopped left stop.More s h = (
    (
      subst (Appends a c) (sym (ap (λ p. p.0) s.split)) (Appends-trans a b c s.text rest.0 s.written.0 h.0.0),
      h.0.1 ∙ s.written.1,
    ),
    ap (λ p. p.1) s.split ∙ h.1,
  )
  so_far-stopped left stop.Memory s h = front-behind a b c s.text whole.0 rest.0 s.written.0 h (ap (λ p. p.0) s.split)
  so_far-stopped left stop.CannotWrite s h =
      let longer : length whole.0 ≡ length (s.text ++ rest.0) = ap (λ p. length p.0) s.split in (
        front-behind a b c s.text whole.0 rest.0 s.written.0 h.0 (ap (λ p. p.0) s.split),
        subst (λ f. Rose f k) s.written.1 h.1,
        omega (arith, longer, length-append s.text rest.0, h.2),
      )

  -- the rest is printed
  pub so_far-last : (left : Left) (more : Bool)
      → IsSoFar whole rest (record { old = a; new = b; faults = m; faults_after = n }) any
      → PrintsMatches rest (record { old = b; new = c; faults = n; faults_after = k }) left (Ok more)
      → PrintsMatches whole (record { old = a; new = c; faults = m; faults_after = k }) left (Ok (any || more))
  so_far-last left more s h = (
    (
      subst (Appends a c) (sym (ap (λ p. p.0) s.split)) (Appends-trans a b c s.text rest.0 s.written.0 h.0.0),
      h.0.1 ∙ s.written.1,
    ),
    ap (λ p. p.1) s.split ∙ h.1,
    ap₂ (λ (p q : Bool). p || q) s.some h.2 ∙ sym (has_some-append s.text rest.0)
        ∙ ap (λ p. has_some p.0) (sym s.split),
  )

-- all is printed
pub so_far-all : (whole : Text × Option Left) (left : Left) (out : Sunk) (any : Bool)
    → IsSoFar whole ([], Some left) out any → PrintsMatches whole out left (Ok any)
so_far-all whole left out any s =
    let same : whole.0 ≡ s.text = ap (λ p. p.0) s.split ∙ append-nil s.text in (
      (subst (Appends out.old out.new) (sym same) s.written.0, s.written.1),
      ap (λ p. p.1) s.split,
      s.some ∙ ap has_some (sym same),
    )

module _ (sig : Sig) (before : Left) (ms ns : List Match) where
  -- where printing of some matches stopped, so did that of these and of others behind them
  pub stopped-append : (out : Sunk) (left : Left) (e : Stop) → PrintsMatches (printed sig before ms) out left (Err e)
      → PrintsMatches (printed sig before (ms ++ ns)) out left (Err e)
  stopped-append out left stop.More h =
      let same = printed-append_none sig before ms ns h.1 in (
        (subst (λ p. Appends out.old out.new p.0) (sym same) h.0.0, h.0.1),
        ap (λ p. p.1) same ∙ h.1,
      )
  stopped-append out left stop.Memory h =
      let more = printed-front sig before ms ns in
      record {
        front = h.front;
        rest = h.rest ++ more.0;
        split = more.1 ∙ ap (λ t. t ++ more.0) h.split ∙ append_assoc h.front h.rest more.0;
        written = h.written;
      }
  stopped-append out left stop.CannotWrite h =
      let more = printed-front sig before ms ns in (
        record {
          front = h.0.front;
          rest = h.0.rest ++ more.0;
          split = more.1 ∙ ap (λ t. t ++ more.0) h.0.split ∙ append_assoc h.0.front h.0.rest more.0;
          written = h.0.written;
        },
        h.1,
        omega (arith, ap length more.1, length-append (printed sig before ms).0 more.0, h.2),
      )

  -- some matches more are printed, and the others are still to come
  pub so_far-more : (whole : Text × Option Left) (a b c : Option Text) (m n k : ℕ) (any some : Bool) (left : Left)
      → IsSoFar whole (printed sig before (ms ++ ns)) (record { old = a; new = b; faults = m; faults_after = n }) any
      → PrintsMatches (printed sig before ms) (record { old = b; new = c; faults = n; faults_after = k }) left (Ok some)
      → IsSoFar whole (printed sig left ns) (record { old = a; new = c; faults = m; faults_after = k }) (any || some)
  so_far-more whole a b c m n k any some left s h =
      let text = (printed sig before ms).0 in
      record {
        text = s.text ++ text;
        split = s.split ∙ ap (text_before s.text) (printed-append sig before ms ns left h.1)
            ∙ text_before-text_before s.text text (printed sig left ns);
        written = (Appends-trans a b c s.text text s.written.0 h.0.0, h.0.1 ∙ s.written.1);
        some = ap₂ (λ (p q : Bool). p || q) s.some h.2 ∙ sym (has_some-append s.text text);
      }

-- ---- nothing is printed

-- there is nothing to be printed
pub nothing-printed : (whole : Text × Option Left) (left : Left) (a : Option Text) (m : ℕ) → whole ≡ ([], Some left)
    → PrintsMatches whole (record { old = a; new = a; faults = m; faults_after = m }) left (Ok false)
nothing-printed whole left a m e =
    so_far-all whole left (record { old = a; new = a; faults = m; faults_after = m }) false
    (subst (λ p. IsSoFar whole p (record { old = a; new = a; faults = m; faults_after = m }) false) e
    (so_far-first whole a m))

-- ---- errors

-- an answer that is this error
pub of-err : {T E : Type 0} (P : Result T E → Type 0) (r : Result T E) (e : E) → IsErrAnd r (λ x. x ≡ e) → P (Err e)
    → P r
of-err P (Err x) e is h = subst (λ y. P (Err y)) (sym is) h
of-err P (Ok u) e is h = absurd is

pub matches-err : (p : Text × Option Left) (out : Sunk) (left : Left) (e : Stop) (r : Result Bool Stop)
    → IsErrAnd r (λ x. x ≡ e) → PrintsMatches p out left (Err e) → PrintsMatches p out left r
matches-err p out left e r is h = of-err (λ a. PrintsMatches p out left a) r e is h

-- ---- the first match

module _ (sig : Sig) (left : code.Left) (m : Match) (ms : List Match) where
  -- all may be printed
  pub printed-all : left ≡ kind.All
      → printed sig (left_of left) (m ∷ ms) ≡ text_before (match_line sig m) (printed sig (left_of left) ms)
  printed-all e = subst (λ l. printed sig (left_of l) (m ∷ ms)
      ≡ text_before (match_line sig m) (printed sig (left_of l) ms)) (sym e) refl

  -- one may be printed and then none
  pub printed-last : (n : ℕ) (token : Text) → left ≡ kind.Lines n → n ≡ 0 → token ≡ token_of m
      → printed sig (left_of left) (m ∷ ms) ≡ text_before (match_line sig m) (printed sig (full token) ms)
  printed-last n token e z t = subst (λ l. printed sig (left_of l) (m ∷ ms)
      ≡ text_before (match_line sig m) (printed sig (full token) ms)) (sym (e ∙ ap kind.Lines z))
      (ap (λ k. text_before (match_line sig m) (printed sig (full k) ms)) (sym t))
