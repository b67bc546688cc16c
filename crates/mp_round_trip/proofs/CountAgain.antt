-- What spells a count stands for it, and has no faults where the count is sound.
use Rattle.std.proofs.Common.{◌≡◌, ◌≤◌, ◌<◌, ℕ, Bool, true, false, ◌&&◌, not, eqb, ltb, [], refl, ap, ◌∙◌, arith, rules}
use Rattle.std.proofs.lemmas.Bool.{ne_eqb}
use Rattle.mp_pattern.specs.declared.limits.TheConstants.{MAX_COUNT}
use Rattle.mp_pattern.specs.PatternTree.{counted}
use Rattle.mp_parser.specs.Syntax.{Spot}
use Rattle.mp_build.specs.Build.{count_of, counted_shape}
use Rattle.mp_build.specs.Checks.{fault_if, count_faults}
use Rattle.mp_build.specs.Names.{number_of}
use Rattle.mp_build.proofs.Faultless.{nil-both, none-fault_if}

-- a number above another isn't equal to it
pub not-equal : (n k : ℕ) → k < n → eqb n k ≡ false
not-equal n k h = ne_eqb n k (λ e. omega arith)

counted-itself : (n : ℕ) (fixed : Bool) → 2 ≤ n → counted_shape n (not fixed) ≡ counted n fixed
counted-itself n true h = rw (not-equal n 1 (omega arith), not-equal n 0 (omega arith)) refl
counted-itself n false h = rw (not-equal n 1 (omega arith), not-equal n 0 (omega arith)) refl

module _ (count : Spot) (more : Bool) (n : ℕ) (fixed : Bool) (digits : number_of count.text ≡ n)
    (sign : more ≡ not fixed)
    (some : 2 ≤ n) (few : n ≤ MAX_COUNT) where
  -- the digits and the `+` say this count
  pub counted-again : counted_shape (count_of count) more ≡ counted n fixed
  counted-again =
      let same : count_of count ≡ n = omega (arith, digits) in
      (λ i. counted_shape (same i) (sign i)) ∙ counted-itself n fixed some

  -- and have no faults
  pub none-count : count_faults count more ≡ []
  none-count =
      let small : number_of count.text ≤ MAX_COUNT = omega (arith, digits) in
      let large : ltb MAX_COUNT (number_of count.text) ≡ false = search (rules, small) in
      let none : (eqb (number_of count.text) 0 && not more) ≡ false =
      ap (λ b. b && not more) (not-equal (number_of count.text) 0 (omega (arith, digits))) in
      nil-both (fault_if (ltb MAX_COUNT (number_of count.text)) _ count.place)
      (fault_if (eqb (number_of count.text) 0 && not more) _ count.place)
      (none-fault_if (ltb MAX_COUNT (number_of count.text)) _ count.place large)
      (none-fault_if (eqb (number_of count.text) 0 && not more) _ count.place none)
