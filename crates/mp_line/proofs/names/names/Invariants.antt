use Rattle.std.proofs.Common.{◌≡◌, List, length, take}
use Rattle.mp_io.specs.Devices.{Text}
use Rattle.mp_line.specs.LineTexts.{IsName}
use Rattle.mp_line.specs.declared.names.TheConstants.{MAX_KEPT}
use Rattle.mp_line.proofs.ItemLaws.{IsFrontOf}
use Rattle.mp_line.proofs.names.names.Given as goal

-- the names seen so far, of which so many are kept
pub record Seen (text rest : Text) (kept : List Text) : Type 0 where
  pub all : List Text
  pub front : IsFrontOf IsName (λ x. x) text rest all
  pub same : kept ≡ take MAX_KEPT all

abbrev pub invariant-loop-rest : goal.invariant-loop-rest
invariant-loop-rest l = Seen l.fn.text l.rest l.names

abbrev pub decreases-loop-rest : goal.decreases-loop-rest
decreases-loop-rest l = length l.rest
