-- A text that is written by slices of a piece.
use Rattle.std.proofs.Common.{◌≡◌, ℕ, ◌-◌, ◌<◌, ◌++◌, length, take, drop, sym, ap, ◌∙◌, subst, take-append-drop, arith}
use Rattle.std.specs.Prelude.{Option}
use Rattle.std.specs.Io.KnownBytes.{Appends, Keeps}
use Rattle.std.proofs.KnownBytes.{Appends-kept}
use Rattle.std.proofs.lemmas.List.{length-append, take_rest}
use Rattle.mp_io.specs.Devices.{Text}
use Rattle.mp_io.specs.Printing.{AppendsFront}
use Rattle.mp_io.proofs.Written.{Written, part_written}

-- as `part_written`, where the rest is what the slice `&rest[n..]` has
pub slice_written : (a b c : Option Text) (piece rest : Text) (n m : ℕ) → Written a b piece rest
    → Appends b c (take n rest) → m ≡ length rest - n → Written a c piece (take m (drop n rest))
slice_written a b c piece rest n m w h e =
    subst (Written a c piece) (sym (ap (λ k. take k (drop n rest)) e ∙ take_rest rest n))
    (part_written a b c piece (take n rest) (drop n rest)
    (subst (Written a b piece) (sym (take-append-drop n rest)) w) h)

-- a text of which something is still to come has a byte
pub rest_some : (a b : Option Text) (piece rest : Text) → Written a b piece rest → 0 < length rest → 0 < length piece
rest_some a b piece rest w long =
    let same : length piece ≡ length (w.front ++ rest) = ap length w.split in
    omega (arith, length-append w.front rest)

-- a write that appended nothing leaves a front written
pub front_kept : (a b c : Option Text) (piece rest : Text) → Written a b piece rest → Keeps b c → AppendsFront a c piece
front_kept a b c piece rest w kept = record {
  front = w.front;
  rest = rest;
  split = w.split;
  written = Appends-kept a b c w.front w.written kept;
}
