-- Texts that are kept of the terms of a table.
use Rattle.std.specs.Prelude.{◌≡◌, ◌<◌, ◌≤◌, ◌-◌, ◌++◌, List, length, take, drop, slice_get, Some, refl, codes}
use Rattle.std.specs.Coded.{Coded, code_by, coded×}
use Rattle.mp_io.specs.Devices.{Text}
use Rattle.mp_io.specs.Writing.{Puts}
use Rattle.mp_io.specs.declared.devices.Sink.{Ghosts as SinkWords}
use Rattle.mp_io.specs.declared.writer.Writer.{Writer}
use Rattle.mp_term.specs.Signature.{Sig}
use Rattle.mp_term.specs.SigCode.{coded_sig}
use Rattle.mp_table.specs.Table.{Table, term_at}
use Rattle.mp_table.specs.TableCode.{coded_table}
use Rattle.mp_table.specs.declared.rank.Rank.{Rank}
use Rattle.mp_print.specs.declared.rank_printer.Part.{Part}
use Rattle.mp_print.specs.Printing.{term_text}

-- a signature, and a table over it
pub record RankTexts : Type 0 where
  pub sig : Sig
  pub table : Table

-- a part of the bytes
abbrev pub part_of : Text → Part → Text
part_of bytes p = take (p.to - p.from) (drop p.from bytes)

-- the part ends within the bytes, and no sooner than it begins
pub record IsWithin (bytes : Text) (p : Part) : Type 0 where
  pub ordered : p.from ≤ p.to
  pub ended : p.to ≤ length bytes

-- the part at a rank is the text of the rank's term behind a comma and a blank, or is empty
abbrev pub AreKeptTexts : Sig → Table → Text → List Part → Type 0
AreKeptTexts sig t bytes parts = (r : Rank) (p : Part) → slice_get parts r.0 ≡ Some p → p.from < p.to
    → IsWithin bytes p × (part_of bytes p ≡ codes ", " ++ term_text sig (term_at t r))

-- the text was put but for its end
pub record PutsBut {K : Type 0} (words : SinkWords K) (old new : Writer K) (text end : Text) : Type 0 where
  pub front : Text
  pub split : text ≡ front ++ end
  pub put : Puts words old new front

-- a signature and a table as a pair that gives them back
abbrev pub coded_rank_texts : Coded RankTexts
coded_rank_texts = code_by (Sig × Table) (coded× coded_sig coded_table) (λ r. (r.sig, r.table))
    (λ p. record { sig = p.0; table = p.1 }) (λ _. refl)
