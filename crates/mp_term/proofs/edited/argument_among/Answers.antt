use Rattle.std.proofs.Common.{◌≡◌, ◌∙◌, ◌&&◌, ap, sym, false, ◌<◌, length, get_or, eq-eqb, refl, arith}
use Rattle.std.specs.Prelude.{nat_eq}
use Rattle.std.specs.List.{starts_with}
use Rattle.std.proofs.Math.Bool.{and-false}
use Rattle.std.proofs.lemmas.Bool.{and_from}
use Rattle.std.proofs.lemmas.Bool.Decides.{nat_tests}
use Rattle.mp_term.proofs.EditedLaws.{starts-argument}
use Rattle.mp_term.proofs.EditWalkLaws.{starts-other}
use Rattle.mp_term.proofs.edited.argument_among.Goals.{else-from-index-via-then-from-index+else-index-end}
use Rattle.mp_term.proofs.edited.argument_among.Goals.{else-from-index-via-else-from-index}
use Rattle.mp_term.proofs.edited.argument_among.Goals as goal

pub returns-then-starts_with-clause-some : goal.returns-then-starts_with-clause-some
returns-then-starts_with-clause-some c =
    let inner = c.args.inner.now in
    let p = c.args.position.now in
    let i = get_or inner (length p) 0 in
    starts-argument inner p i (omega arith)
    ∙ and_from (nat_eq i i) (starts_with nat_eq inner p) (eq-eqb i i refl)
    (sym c.starts_with.ensures.value ∙ c.if-starts_with.true)

pub returns-clause-none : goal.returns-clause-none
returns-clause-none c = λ k low high.
    let inner = c.args.inner.now in
    let p = c.args.position.now in
    let i = get_or inner (length p) 0 in
    let long : length p < length inner = omega arith in
    elim c.else-from-index.branch [
      | goal.else-from-index-via-then-from-index+then-index-end+else-starts_with w ↦
          starts-argument inner p k long
          ∙ ap (λ b. nat_eq i k && b) (sym w.starts_with.ensures.value ∙ w.if-starts_with.false)
          ∙ and-false (nat_eq i k)
      | else-from-index-via-then-from-index+else-index-end w ↦
          let other : nat_eq i k ≡ false = grind (arith, nat_tests) in starts-other inner p k long other
      | else-from-index-via-else-from-index w ↦
          let other : nat_eq i k ≡ false = grind (arith, nat_tests) in starts-other inner p k long other
    ]
