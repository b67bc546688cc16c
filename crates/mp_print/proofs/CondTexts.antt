-- The texts of conditions, as they are printed step by step.
use Rattle.std.proofs.Common.{◌≡◌, ℕ, ◌<◌, ◌++◌, refl}
use Rattle.std.specs.Prelude.{codes}
use Rattle.std.proofs.lemmas.Bool.{lt-ltb}
use Rattle.mp_io.specs.Devices.{Text}
use Rattle.mp_pattern.specs.CondTree.{Cond}
use Rattle.mp_print.specs.PrintedCond.{tightness, part_text}

-- a part that needs brackets
pub part_text-loose : (least : ℕ) (c : Cond) (text : Text) → tightness c < least
    → part_text least c text ≡ codes "[" ++ (text ++ codes "]")
part_text-loose least c text h = rw (lt-ltb (tightness c) least h) refl
