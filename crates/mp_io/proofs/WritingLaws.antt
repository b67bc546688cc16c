-- What a writer has done with the text that was put to it, step by step.
use Rattle.std.proofs.Common.{◌≡◌, [], ◌++◌, refl, sym, ap, ◌∙◌, subst, append_assoc, append-nil, Bool, true, false}
use Rattle.std.proofs.Common.{Ok, Err}
use Rattle.std.specs.Prelude.{Result, is_err, MatchBool, ⊤}
use Rattle.mp_io.specs.Devices.{Text}
use Rattle.mp_io.specs.Moments.{sunk}
use Rattle.mp_io.specs.Printing.{Prints}
use Rattle.mp_io.specs.Writing.{HasPut, Puts}
use Rattle.mp_io.specs.declared.devices.Sink.{Ghosts as SinkWords}
use Rattle.mp_io.specs.declared.writer.Writer.{Writer}
use Rattle.mp_io.proofs.Written.{prints_as, prints_longer, prints_then}

module _ {K : Type 0} (words : SinkWords K) where
  -- nothing is put
  pub Puts-nothing : (w : Writer K) → Puts words w w []
  Puts-nothing w = record {
    same = refl;
    behind = λ start before h. subst (λ l. HasPut words start l w) (sym (append-nil before)) h;
  }

  -- a text is put, and then another
  pub Puts-then : (u v w : Writer K) (first second : Text) → Puts words u v first → Puts words v w second
      → Puts words u w (first ++ second)
  Puts-then u v w first second p q = record {
    same = q.same ∙ p.same;
    behind = λ start before h. subst (λ l. HasPut words start l w) (append_assoc before first second)
        (q.behind start (before ++ first) (p.behind start before h));
  }

  -- a text is held back behind the bytes that are held back
  pub Puts-held : (u : Writer K) (room text : Text) → room ≡ u.room ++ text
      → Puts words u (record u { room = room }) text
  Puts-held u room text is = record { same = refl; behind = λ start before h. go u.failed start before h }
    where
      go : (failed : Bool) (start : K) (before : Text)
          → MatchBool failed (Prints {T = ⊤} {E = ⊤} (sunk words start u.sink.now) before (Err tt))
          ((front : Text) × (before ≡ front ++ u.room)
          × Prints {T = ⊤} {E = ⊤} (sunk words start u.sink.now) front (Ok tt))
          → MatchBool failed (Prints {T = ⊤} {E = ⊤} (sunk words start u.sink.now) (before ++ text) (Err tt))
          ((front : Text) × (before ++ text ≡ front ++ room)
          × Prints {T = ⊤} {E = ⊤} (sunk words start u.sink.now) front (Ok tt))
      go true start before h = prints_longer words start u.sink.now before text tt h
      go false start before h = (
        h.0,
        ap (λ l. l ++ text) h.1 ∙ append_assoc h.0 u.room text ∙ ap (λ l. h.0 ++ l) (sym is),
        h.2,
      )

  -- the bytes that are held back stay
  pub Puts-kept : (u : Writer K) (room : Text) → room ≡ u.room → Puts words u (record u { room = room }) []
  Puts-kept u room is = Puts-held u room [] (is ∙ sym (append-nil u.room))

  -- the bytes that are held back and the text behind them are written, as far as that goes
  pub Puts-written : {T E : Type 0} (u w : Writer K) (text : Text) (result : Result T E)
      → w.sink.ghost_name ≡ u.sink.ghost_name
      → u.failed ≡ false → w.failed ≡ is_err result → w.room ≡ []
      → Prints (sunk words u.sink.now w.sink.now) (u.room ++ text) result → Puts words u w text
  Puts-written u w text result same going failed none p =
      record { same = same; behind = λ start before h. go start before (rw going at h) result failed p }
    where
      go : {T E : Type 0} (start : K) (before : Text)
          → ((front : Text) × (before ≡ front ++ u.room)
          × Prints {T = ⊤} {E = ⊤} (sunk words start u.sink.now) front (Ok tt))
          → (result : Result T E) → w.failed ≡ is_err result
          → Prints (sunk words u.sink.now w.sink.now) (u.room ++ text) result
          → HasPut words start (before ++ text) w
      go start before h (Ok v) failed p =
          let front = h.0 ++ (u.room ++ text) in
          rw (failed, none) (
            front,
            ap (λ l. l ++ text) h.1 ∙ append_assoc h.0 u.room text ∙ sym (append-nil front),
            prints_as words start w.sink.now front _ (Ok tt) refl
                (prints_then words start u.sink.now w.sink.now h.0 (u.room ++ text) tt (Ok v) h.2 p),
          )
      go start before h (Err e) failed p =
          rw (failed, h.1, append_assoc h.0 u.room text)
          (prints_as words start w.sink.now _ _ (Err tt) refl
          (prints_then words start u.sink.now w.sink.now h.0 (u.room ++ text) tt (Err e) h.2 p))

  -- a front of the bytes that are held back is written, as far as that goes
  pub Puts-front : {T E : Type 0} (u w : Writer K) (front : Text) (result : Result T E)
      → w.sink.ghost_name ≡ u.sink.ghost_name
      → u.failed ≡ false → w.failed ≡ is_err result → u.room ≡ front ++ w.room
      → Prints (sunk words u.sink.now w.sink.now) front result → Puts words u w []
  Puts-front u w front result same going failed split p =
      record { same = same; behind = λ start before h. go start before (rw going at h) result failed p }
    where
      whole : (before first : Text) → before ≡ first ++ u.room → before ++ [] ≡ (first ++ front) ++ w.room
      whole before first is =
          append-nil before ∙ is ∙ ap (λ l. first ++ l) split ∙ sym (append_assoc first front w.room)

      go : {T E : Type 0} (start : K) (before : Text)
          → ((first : Text) × (before ≡ first ++ u.room)
          × Prints {T = ⊤} {E = ⊤} (sunk words start u.sink.now) first (Ok tt))
          → (result : Result T E) → w.failed ≡ is_err result
          → Prints (sunk words u.sink.now w.sink.now) front result
          → HasPut words start (before ++ []) w
      go start before h (Ok v) failed p =
          rw failed (
            h.0 ++ front,
            whole before h.0 h.1,
            prints_as words start w.sink.now (h.0 ++ front) _ (Ok tt) refl
                (prints_then words start u.sink.now w.sink.now h.0 front tt (Ok v) h.2 p),
          )
      go start before h (Err e) failed p =
          rw (failed, whole before h.0 h.1)
          (prints_longer words start w.sink.now (h.0 ++ front) w.room tt
          (prints_as words start w.sink.now (h.0 ++ front) _ (Err tt) refl
          (prints_then words start u.sink.now w.sink.now h.0 front tt (Err e) h.2 p)))

  -- the rest is written, and with it all the text
  pub HasPut-ended : {T E : Type 0} (start new : K) (text : Text) (w : Writer K) (result : Result T E)
      → w.failed ≡ false → HasPut words start text w
      → Prints (sunk words w.sink.now new) w.room result → Prints (sunk words start new) text result
  HasPut-ended start new text w result going h p =
      let put : (front : Text) × (text ≡ front ++ w.room)
      × Prints {T = ⊤} {E = ⊤} (sunk words start w.sink.now) front (Ok tt) = rw going at h in
      rw put.1 (prints_then words start w.sink.now new put.0 w.room tt result put.2 p)
