use Rattle.std.proofs.Common.{◌≡◌, ap, sym, ◌∙◌, subst}
use Rattle.std.specs.Prelude.{Some, if◌then◌else◌}
use Rattle.mp_pattern.specs.NetTokenView.{net_token}
use Rattle.mp_pattern.specs.Value.{seq, bag}
use Rattle.mp_table.specs.Table.{terms_at}
use Rattle.mp_theory.specs.Solve.{given}
use Rattle.mp_subst.specs.Bound.{value_in, AreRanksOf}
use Rattle.mp_search.proofs.BindLaws.{given-sequence, given-single}
use Rattle.mp_search.specs.Frames.{above}
use Rattle.mp_walk.specs.Trails.{shape_of, number_of}
use Rattle.mp_walk.proofs.front.given.Goals as goal

pub returns-then-is_sequence-clause-value : goal.returns-then-is_sequence-clause-value
returns-then-is_sequence-clause-value c =
    let k = net_token c.args.token.now in
    let ts = terms_at c.args.table.now c.args.ranks.now in
    given-sequence c.args.sig.now c.args.table.now (above c.args.under) (shape_of k) ts
    (sym (c.is_sequence.ensures (shape_of k) (number_of k) c.requires.wild) ∙ c.if-is_sequence.true) c.requires.given
    ∙ ap (λ b. Some (if b then bag ts else seq ts)) c.requires.ordered

pub returns-else-is_sequence-clause-value : goal.returns-else-is_sequence-clause-value
returns-else-is_sequence-clause-value c =
    let k = net_token c.args.token.now in
    let ts = terms_at c.args.table.now c.args.ranks.now in
    let g = given-single c.args.sig.now c.args.table.now (above c.args.under) (shape_of k) c.args.ranks.now
    (sym (c.is_sequence.ensures (shape_of k) (number_of k) c.requires.wild) ∙ c.if-is_sequence.false) c.requires.given
    c.requires.taken in
    subst (λ b. given c.args.sig.now (above c.args.under) (shape_of k) ts ≡ Some (value_in c.args.table.now b))
    (sym c.single.ensures) g.value

pub returns-else-is_sequence-clause-formed : goal.returns-else-is_sequence-clause-formed
returns-else-is_sequence-clause-formed c =
    let k = net_token c.args.token.now in
    let g = given-single c.args.sig.now c.args.table.now (above c.args.under) (shape_of k) c.args.ranks.now
    (sym (c.is_sequence.ensures (shape_of k) (number_of k) c.requires.wild) ∙ c.if-is_sequence.false) c.requires.given
    c.requires.taken in
    subst (λ b. AreRanksOf b.form b.wrap c.args.ranks.now) (sym c.single.ensures) g.formed
