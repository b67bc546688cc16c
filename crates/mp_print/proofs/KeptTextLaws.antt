-- Texts that are kept of the terms of a table, and one more.
use Rattle.std.proofs.Common.{◌≡◌, ◌<◌, ◌≤◌, ◌+◌, ◌-◌, ℕ, List, [], ◌∷◌, ◌++◌, length, take, drop, inl}
use Rattle.std.proofs.Common.{inr, sym, ap, ◌∙◌, subst, append_assoc, arith}
use Rattle.std.specs.Prelude.{codes, slice_index_or}
use Rattle.std.proofs.Math.Seq.{take-add, drop-append_seam}
use Rattle.std.proofs.lemmas.List.{drop-append-le, drop-drop, drop-take, take-append-le, take_all, length-append}
use Rattle.std.proofs.lemmas.List.{length-drop, length-take-le}
use Rattle.mp_io.specs.Devices.{Text}
use Rattle.mp_io.specs.Writing.{Puts}
use Rattle.mp_io.specs.declared.devices.Sink.{Ghosts as SinkWords}
use Rattle.mp_io.specs.declared.writer.Writer.{Writer}
use Rattle.mp_io.proofs.WritingLaws.{Puts-then}
use Rattle.mp_term.specs.Signature.{Sig}
use Rattle.mp_term.specs.Tree.{symbol}
use Rattle.mp_term.proofs.ListLaws.{slice_get-pushed}
use Rattle.mp_table.specs.Table.{Table}
use Rattle.mp_print.specs.declared.rank_printer.Part.{Part}
use Rattle.mp_print.specs.KeptTexts.{AreKeptTexts, IsWithin, PutsBut, part_of}
use Rattle.mp_print.specs.Printing.{term_text}

-- parts side by side
part_of-joined : (bytes : Text) (a b c : ℕ) → a ≤ b → b ≤ c
    → part_of bytes (record { from = a; to = c })
    ≡ part_of bytes (record { from = a; to = b }) ++ part_of bytes (record { from = b; to = c })
part_of-joined bytes a b c first second =
    let count : c - a ≡ (b - a) + (c - b) = omega (arith, first, second) in
    let start : a + (b - a) ≡ b = omega (arith, first) in
    ap (λ n. take n (drop a bytes)) count ∙ take-add (b - a) (c - b) (drop a bytes)
    ∙ ap (λ l. take (b - a) (drop a bytes) ++ take (c - b) l) (drop-drop (b - a) a bytes ∙ ap (λ n. drop n bytes) start)

-- a part and the text behind it
pub part_of-beside : (bytes text : Text) (p q : Part) → IsWithin bytes p → IsWithin bytes q → q.from ≡ p.to
    → part_of bytes q ≡ text → part_of bytes p ++ text ≡ part_of bytes (record { from = p.from; to = q.to })
part_of-beside bytes text p q before behind beside is =
    let joined = part_of-joined bytes p.from p.to q.to before.ordered (omega (arith, beside, behind.ordered)) in
    sym (joined ∙ ap (λ l. part_of bytes p ++ l)
    (ap (λ n. part_of bytes (record { from = n; to = q.to })) (sym beside) ∙ is))

-- both as one
pub IsWithin-beside : (bytes : Text) (p q : Part) → IsWithin bytes p → IsWithin bytes q → q.from ≡ p.to
    → IsWithin bytes (record { from = p.from; to = q.to })
IsWithin-beside bytes p q before behind beside = record {
  ordered = omega (arith, before.ordered, beside, behind.ordered);
  ended = behind.ended;
}

-- a part that ends where it begins
pub part_of-empty : (bytes : Text) (a : ℕ) → part_of bytes (record { from = a; to = a }) ≡ []
part_of-empty bytes a = let none : a - a ≡ 0 = omega arith in ap (λ n. take n (drop a bytes)) none

-- the text behind the comma and the blank of a part
pub IsWithin-behind_comma : (bytes text : Text) (p : Part) → IsWithin bytes p → part_of bytes p ≡ codes ", " ++ text
    → IsWithin bytes (record { from = p.from + 2; to = p.to })
    × (part_of bytes (record { from = p.from + 2; to = p.to }) ≡ text)
IsWithin-behind_comma bytes text p within is =
    let count : length (part_of bytes p) ≡ p.to - p.from =
    length-take-le (p.to - p.from) (drop p.from bytes)
    (omega (arith, length-drop p.from bytes, within.ordered, within.ended)) in
    let long : p.from + 2 ≤ p.to = omega (arith, count, ap length is) in
    let rest : 2 + (p.to - (p.from + 2)) ≡ p.to - p.from = omega (arith, long) in (
      record { ordered = long; ended = within.ended },
      ap (take (p.to - (p.from + 2))) (sym (drop-drop 2 p.from bytes))
          ∙ sym (drop-take 2 (p.to - (p.from + 2)) (drop p.from bytes))
          ∙ ap (λ n. drop 2 (take n (drop p.from bytes))) rest ∙ ap (drop 2) is,
    )

-- the bytes grow behind a part
part_of-append : (bytes more : Text) (p : Part) → IsWithin bytes p → part_of (bytes ++ more) p ≡ part_of bytes p
part_of-append bytes more p within =
    ap (take (p.to - p.from)) (drop-append-le p.from bytes more (omega (arith, within.ordered, within.ended)))
    ∙ take-append-le (p.to - p.from) (drop p.from bytes) more
    (omega (arith, length-drop p.from bytes, within.ordered, within.ended))

-- the part that they grow by
part_of-appended : (bytes more : Text) (p : Part) → p.from ≡ length bytes → p.to ≡ length (bytes ++ more)
    → part_of (bytes ++ more) p ≡ more
part_of-appended bytes more p from to =
    ap (λ n. take (p.to - p.from) (drop n (bytes ++ more))) from
    ∙ ap (take (p.to - p.from)) (drop-append_seam bytes more)
    ∙ take_all (p.to - p.from) more (omega (arith, from, to, length-append bytes more))

-- the part at the next rank is the text of its term, or is empty
pub AreKeptTexts-pushed : (sig : Sig) (t : Table) (bytes added : Text) (parts : List Part) (n : ℕ)
    → length parts ≡ n → AreKeptTexts sig t bytes parts
    → (0 < length added → added ≡ codes ", " ++ term_text sig (slice_index_or t.terms n (symbol [])))
    → AreKeptTexts sig t (bytes ++ added) (parts ++ record { from = length bytes; to = length (bytes ++ added) } ∷ [])
AreKeptTexts-pushed sig t bytes added parts n count kept own r p at some =
    let longer = length-append bytes added in
    elim (slice_get-pushed parts (record { from = length bytes; to = length (bytes ++ added) }) p r.0 at) [
      | inl before ↦
          let old = kept r p before some in (
            record { ordered = old.0.ordered; ended = omega (arith, old.0.ended, longer) },
            part_of-append bytes added p old.0 ∙ old.1,
          )
      | inr last ↦
          let here : n ≡ r.0 = sym (last.0 ∙ count) in
          let from : p.from ≡ length bytes = ap (λ (q : Part). q.from) (sym last.1) in
          let to : p.to ≡ length (bytes ++ added) = ap (λ (q : Part). q.to) (sym last.1) in (
            record { ordered = omega (arith, some); ended = omega (arith, to) },
            part_of-appended bytes added p from to ∙ own (omega (arith, some, from, to, longer))
                ∙ ap (λ k. codes ", " ++ term_text sig (slice_index_or t.terms k (symbol []))) here,
          )
    ]

module _ {K : Type 0} (words : SinkWords K) where
  -- a text is put but for its end, which more stands behind
  pub PutsBut-more : (u v : Writer K) (text end more : Text) → PutsBut words u v text end
      → PutsBut words u v (text ++ more) (end ++ more)
  PutsBut-more u v text end more p = record {
    front = p.front;
    split = ap (λ l. l ++ more) p.split ∙ append_assoc p.front end more;
    put = p.put;
  }

  -- it is put but for its end, and that but for an end of its own
  pub PutsBut-then : (u v w : Writer K) (text end last : Text) → PutsBut words u v text end
      → PutsBut words v w end last → PutsBut words u w text last
  PutsBut-then u v w text end last p q = record {
    front = p.front ++ q.front;
    split = p.split ∙ ap (λ l. p.front ++ l) q.split ∙ sym (append_assoc p.front q.front last);
    put = Puts-then words u v w p.front q.front p.put q.put;
  }

  -- it is put but for its end, and then so is that
  pub PutsBut-ended : (u v w : Writer K) (text end : Text) → PutsBut words u v text end → Puts words v w end
      → Puts words u w text
  PutsBut-ended u v w text end p put =
      subst (Puts words u w) (sym p.split) (Puts-then words u v w p.front end p.put put)
