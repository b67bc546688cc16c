-- What is read of a text, printed and compared.
use Rattle.std.proofs.Common.{◌≡◌, ◌≢◌, sym, ap, ◌∙◌}
use Rattle.mp_io.specs.Devices.{Text}
use Rattle.mp_line.specs.Finds.{IsOnly}
use Rattle.mp_line.specs.LineTexts.{IsExact}

module _ {A : Type 0} (IsOf : Text → A → Type 0) (printed : A → Text) (text : Text) (v : A)
    (only : (a : A) → IsOf text a → v ≡ a) where
  -- the value that is read of the text is the one whose printed text it is
  pub exact-only : IsOf text v → printed v ≡ text → IsOnly (IsExact IsOf printed text) v
  exact-only is same = record {
    is = record { read = is; spelled = same };
    only = λ a h. sym (only a h.read);
  }

  -- where it is printed otherwise, the text is no value's
  pub exact-none : printed v ≢ text → (a : A) → IsExact IsOf printed text a → ⊥
  exact-none other a h = other (ap printed (only a h.read) ∙ h.spelled)
