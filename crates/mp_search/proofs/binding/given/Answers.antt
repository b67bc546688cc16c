use Rattle.std.proofs.Common.{◌≡◌, ap, sym, ◌∙◌, subst}
use Rattle.std.specs.Prelude.{Some}
use Rattle.mp_pattern.specs.View.{wildcard}
use Rattle.mp_table.specs.Table.{terms_at}
use Rattle.mp_theory.specs.Solve.{given}
use Rattle.mp_subst.specs.Bound.{value_in, AreRanksOf}
use Rattle.mp_search.specs.Frames.{above}
use Rattle.mp_search.proofs.BindLaws.{given-sequence, given-single}
use Rattle.mp_search.proofs.binding.given.Goals as goal

pub returns-then-is_sequence-clause-value : goal.returns-then-is_sequence-clause-value
returns-then-is_sequence-clause-value c =
    let q = c.args.query.now in
    given-sequence q.sig.now q.table.now (above c.args.under) (wildcard c.args.shape.now)
    (terms_at q.table.now c.args.ranks.now) (sym c.is_sequence.ensures ∙ c.if-is_sequence.true) c.requires.given
    ∙ ap Some (sym c.sequence.ensures.value)

pub returns-else-is_sequence-clause-value : goal.returns-else-is_sequence-clause-value
returns-else-is_sequence-clause-value c =
    let q = c.args.query.now in
    let g = given-single q.sig.now q.table.now (above c.args.under) (wildcard c.args.shape.now) c.args.ranks.now
    (sym c.is_sequence.ensures ∙ c.if-is_sequence.false) c.requires.given c.requires.taken in
    subst (λ b. given q.sig.now (above c.args.under) (wildcard c.args.shape.now) (terms_at q.table.now c.args.ranks.now)
    ≡ Some (value_in q.table.now b)) (sym c.single.ensures) g.value

pub returns-else-is_sequence-clause-formed : goal.returns-else-is_sequence-clause-formed
returns-else-is_sequence-clause-formed c =
    let q = c.args.query.now in
    let g = given-single q.sig.now q.table.now (above c.args.under) (wildcard c.args.shape.now) c.args.ranks.now
    (sym c.is_sequence.ensures ∙ c.if-is_sequence.false) c.requires.given c.requires.taken in
    subst (λ b. AreRanksOf b.form b.wrap c.args.ranks.now) (sym c.single.ensures) g.formed
