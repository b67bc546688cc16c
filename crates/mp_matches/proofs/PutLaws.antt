-- Some of the matches are put to a writer, and others are still to come; and what is printed of them at its end.
use Rattle.std.proofs.Common.{◌≡◌, ◌∙◌, Bool, true, false, [], ◌++◌, length, refl, sym, ap, subst, arith}
use Rattle.std.proofs.Common.{append_assoc, append-nil, length-append}
use Rattle.std.specs.Prelude.{Option, Result, Ok, Err, ⊤}
use Rattle.mp_io.specs.Devices.{Rose, Text}
use Rattle.mp_io.specs.Moments.{Sunk, sunk}
use Rattle.mp_io.specs.Printing.{IsCut, Prints}
use Rattle.mp_io.specs.Writing.{HasPut, Puts}
use Rattle.mp_io.specs.declared.devices.Sink.{Ghosts as SinkWords}
use Rattle.mp_io.specs.declared.writer.Writer.{Writer}
use Rattle.mp_io.proofs.WritingLaws.{Puts-then, Puts-nothing}
use Rattle.mp_matches.specs.Left.{Left, text_before}
use Rattle.mp_matches.specs.Printed.{has_some, IsCutOff, IsWritten, PrintsMatches}
use Rattle.mp_matches.specs.Put.{PutsFront, PutsMatches, PutsOne}
use Rattle.mp_matches.specs.declared.stop.Stop.{Stop}
use Rattle.mp_matches.specs.declared.stop.Stop.TheVariants as stop
use Rattle.mp_matches.proofs.PrintedLaws.{has_some-behind, text_before-text_before}

-- what was written of a front of the text, before a write of it failed
pub cut_off-front : (text front rest : Text) (out : Sunk) → text ≡ front ++ rest → IsCut out.old out.new front
    → Rose out.faults out.faults_after → IsCutOff text out
cut_off-front text front rest out split cut rose = (
  record {
    front = cut.front.front;
    rest = cut.front.rest ++ rest;
    split = split ∙ ap (λ t. t ++ rest) cut.front.split ∙ append_assoc cut.front.front cut.front.rest rest;
    written = cut.front.written;
  },
  rose,
  omega (arith, ap length split, length-append front rest, cut.some),
)

module _ {K : Type 0} (words : SinkWords K) where
  -- nothing is a front of each text
  pub PutsFront-nothing : (w : Writer K) (text : Text) → PutsFront words w w text
  PutsFront-nothing w text = record { front = []; rest = text; split = refl; puts = Puts-nothing words w }

  -- a text is a front of itself
  pub PutsFront-all : (u w : Writer K) (text : Text) → Puts words u w text → PutsFront words u w text
  PutsFront-all u w text p = record { front = text; rest = []; split = sym (append-nil text); puts = p }

  -- a text was put, and then a front of the rest
  pub PutsFront-behind : (u v w : Writer K) (text rest whole : Text) → whole ≡ text ++ rest → Puts words u v text
      → PutsFront words v w rest → PutsFront words u w whole
  PutsFront-behind u v w text rest whole e p h = record {
    front = text ++ h.front;
    rest = h.rest;
    split = e ∙ ap (λ l. text ++ l) h.split ∙ sym (append_assoc text h.front h.rest);
    puts = Puts-then words u v w text h.front p h.puts;
  }

  -- ---- some matches are put, and others are still to come

  -- a text was put and whether it has a byte is known, and the rest is still to come
  pub record IsPutSoFar (whole rest : Text × Option Left) (old new : Writer K) (any : Bool) : Type 0 where
    pub text : Text
    pub split : whole ≡ text_before text rest
    pub puts : Puts words old new text
    pub some : any ≡ has_some text

  -- nothing is put at first
  pub put_so_far-first : (whole : Text × Option Left) (w : Writer K) → IsPutSoFar whole whole w w false
  put_so_far-first whole w = record { text = []; split = refl; puts = Puts-nothing words w; some = refl }

  -- a front of the whole is put
  pub put_so_far-front : (whole rest : Text × Option Left) (u w : Writer K) (any : Bool)
      → IsPutSoFar whole rest u w any → PutsFront words u w whole.0
  put_so_far-front whole rest u w any s =
      record { front = s.text; rest = rest.0; split = ap (λ p. p.0) s.split; puts = s.puts }

  module _ (whole rest : Text × Option Left) (u v w : Writer K) (any : Bool) (left : Left)
      (s : IsPutSoFar whole rest u v any) where
    -- one match more is put
    pub put_so_far-one : (next : Text × Option Left) (t : ⊤) → PutsOne words rest next v w left (Ok t)
        → IsPutSoFar whole next u w true
    put_so_far-one next t h = record {
      text = s.text ++ h.0;
      split = s.split ∙ ap (text_before s.text) h.1 ∙ text_before-text_before s.text h.0 next;
      puts = Puts-then words u v w s.text h.0 s.puts h.2;
      some = sym (has_some-behind s.text h.0 h.3);
    }

    -- it ends in the rest
    pub put_so_far-stopped : (e : Stop) → PutsMatches words rest v w left (Err e)
        → PutsMatches words whole u w left (Err e)
    put_so_far-stopped stop.More h = (
      subst (Puts words u w) (sym (ap (λ p. p.0) s.split)) (Puts-then words u v w s.text rest.0 s.puts h.0),
      ap (λ p. p.1) s.split ∙ h.1,
    )
    put_so_far-stopped stop.Memory h =
        PutsFront-behind u v w s.text rest.0 whole.0 (ap (λ p. p.0) s.split) s.puts h
    put_so_far-stopped stop.CannotWrite h =
        (PutsFront-behind u v w s.text rest.0 whole.0 (ap (λ p. p.0) s.split) s.puts h.0, h.1)

  -- ---- the writer's end

  -- it is a writer to the same sink
  pub PutsMatches-same : (p : Text × Option Left) (u w : Writer K) (left : Left) (told : Result Bool Stop)
      → PutsMatches words p u w left told → w.sink.ghost_name ≡ u.sink.ghost_name
  PutsMatches-same p u w left (Ok any) h = h.0.same
  PutsMatches-same p u w left (Err stop.More) h = h.0.same
  PutsMatches-same p u w left (Err stop.Memory) h = h.puts.same
  PutsMatches-same p u w left (Err stop.CannotWrite) h = h.0.puts.same

  module _ {T E : Type 0} (start new : K) (u w : Writer K) (none : HasPut words start [] u) where
    module _ (value : T)
        (put : (text : Text) → HasPut words start text w → Prints {E = E} (sunk words start new) text (Ok value))
      where
        -- it ends well, and what was put is written
        pub Puts-finished : (text : Text) → Puts words u w text → IsWritten text (sunk words start new)
        Puts-finished text q = let prints = put text (q.behind start [] none) in (prints.whole, prints.cause.stays)

    module _ (error : E)
        (put : (text : Text) → HasPut words start text w → Prints {T = T} (sunk words start new) text (Err error))
      where
        -- a write failed, and a front of the text was written
        pub PutsFront-cut_off : (text : Text) → PutsFront words u w text → IsCutOff text (sunk words start new)
        PutsFront-cut_off text h =
            let prints = put h.front (h.puts.behind start [] none) in
            cut_off-front text h.front h.rest (sunk words start new) h.split prints.front prints.cause.failed

        -- whatever would be answered else
        pub PutsMatches-cut_off : (p : Text × Option Left) (left : Left) (told : Result Bool Stop)
            → PutsMatches words p u w left told → PrintsMatches p (sunk words start new) left (Err stop.CannotWrite)
        PutsMatches-cut_off p left (Ok any) h = PutsFront-cut_off p.0 (PutsFront-all u w p.0 h.0)
        PutsMatches-cut_off p left (Err stop.More) h = PutsFront-cut_off p.0 (PutsFront-all u w p.0 h.0)
        PutsMatches-cut_off p left (Err stop.Memory) h = PutsFront-cut_off p.0 h
        PutsMatches-cut_off p left (Err stop.CannotWrite) h = PutsFront-cut_off p.0 h.0
