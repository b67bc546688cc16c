-- A text that is written part by part, and what its printer's answer says in the end.
use Rattle.std.proofs.Common.{◌≡◌, [], ◌++◌, sym, ap, ◌∙◌, append_assoc, append-nil, arith, Result, Ok, Err, true≢false}
use Rattle.std.specs.Prelude.{Option, is_err}
use Rattle.std.proofs.lemmas.List.{length-append}
use Rattle.std.specs.Io.KnownBytes.{Appends}
use Rattle.std.proofs.KnownBytes.{Appends-trans}
use Rattle.mp_io.specs.Devices.{Text}
use Rattle.mp_io.specs.Moments.{sunk}
use Rattle.mp_io.specs.declared.devices.Sink.{Ghosts as SinkWords}
use Rattle.mp_io.specs.Printing.{AppendsFront, Prints}

-- the contents grew by the front of the text, and the rest is still to come
pub record Written (old new : Option Text) (text rest : Text) : Type 0 where
  pub front : Text
  pub split : text ≡ front ++ rest
  pub written : Appends old new front

-- the next part is written whole
pub part_written : (a b c : Option Text) (text part rest : Text) → Written a b text (part ++ rest) → Appends b c part
    → Written a c text rest
part_written a b c text part rest w h = record {
  front = w.front ++ part;
  split = w.split ∙ sym (append_assoc w.front part rest);
  written = Appends-trans a b c w.front part w.written h;
}

-- a front of the next part is written, and then nothing more
pub part_front : (a b c : Option Text) (text part rest : Text) → Written a b text (part ++ rest) → AppendsFront b c part
    → AppendsFront a c text
part_front a b c text part rest w h = record {
  front = w.front ++ h.front;
  rest = h.rest ++ rest;
  split = w.split ∙ ap (λ p. w.front ++ (p ++ rest)) h.split ∙ ap (λ p. w.front ++ p) (append_assoc h.front h.rest rest)
      ∙ sym (append_assoc w.front h.front (h.rest ++ rest));
  written = Appends-trans a b c w.front h.front w.written h.written;
}

-- a text that is written whole is a front of itself
pub whole_front : (a b : Option Text) (text : Text) → Appends a b text → AppendsFront a b text
whole_front a b text h = record { front = text; rest = []; split = sym (append-nil text); written = h }

-- ---- what a printer answers

module _ {K : Type 0} (words : SinkWords K) where
  -- a text was printed, and then a printer prints another
  pub prints_then : {U F T E : Type 0} (a b c : K) (first second : Text) (value : U) (result : Result T E)
      → Prints {E = F} (sunk words a b) first (Ok value) → Prints (sunk words b c) second result
      → Prints (sunk words a c) (first ++ second) result
  prints_then a b c first second value (Ok _) p q = record {
    whole = Appends-trans (words.contents a) (words.contents b) (words.contents c) first second p.whole q.whole;
    front = tt;
    cause = record {
      later = omega (arith, p.cause.later, q.cause.later);
      stays = q.cause.stays ∙ p.cause.stays;
      failed = tt;
    };
  }
  prints_then a b c first second value (Err _) p q =
      let cut = q.front.front in
      record {
        whole = tt;
        front = record {
          front = record {
            front = first ++ cut.front;
            rest = cut.rest;
            split = ap (λ l. first ++ l) cut.split ∙ sym (append_assoc first cut.front cut.rest);
            written = Appends-trans (words.contents a) (words.contents b)
                (words.contents c) first cut.front p.whole cut.written;
          };
          some = omega (arith, length-append first second, q.front.some);
        };
        cause = record {
          later = omega (arith, p.cause.later, q.cause.later);
          stays = tt;
          failed = omega (arith, p.cause.later, q.cause.failed);
        };
      }

  -- a front of a text was printed, which is one of a longer text
  pub prints_longer : {U F : Type 0} (a b : K) (text more : Text) (fault : F)
      → Prints {T = U} (sunk words a b) text (Err fault) → Prints {T = U} (sunk words a b) (text ++ more) (Err fault)
  prints_longer a b text more fault p =
      let cut = p.front.front in
      record {
        whole = tt;
        front = record {
          front = record {
            front = cut.front;
            rest = cut.rest ++ more;
            split = ap (λ l. l ++ more) cut.split ∙ append_assoc cut.front cut.rest more;
            written = cut.written;
          };
          some = omega (arith, length-append text more, p.front.some);
        };
        cause = p.cause;
      }

  -- what is printed says whether the answer is an error, and nothing of its value
  pub prints_as : {U F T E : Type 0} (a b : K) (text : Text) (one : Result U F) (other : Result T E)
      → is_err other ≡ is_err one → Prints (sunk words a b) text one → Prints (sunk words a b) text other
  prints_as a b text (Ok _) (Ok _) e p =
      record {
        whole = p.whole;
        front = tt;
        cause = record { later = p.cause.later; stays = p.cause.stays; failed = tt };
      }
  prints_as a b text (Err _) (Err _) e p =
      record {
        whole = tt;
        front = p.front;
        cause = record { later = p.cause.later; stays = tt; failed = p.cause.failed };
      }
  prints_as a b text (Ok _) (Err _) e p = absurd (true≢false e)
  prints_as a b text (Err _) (Ok _) e p = absurd (true≢false (sym e))
