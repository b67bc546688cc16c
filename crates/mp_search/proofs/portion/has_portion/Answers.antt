use Rattle.std.proofs.Common.{◌≡◌, arith, inl, inr, eqb-true, eq-eqb, sym, ◌∙◌, true, false}
use Rattle.mp_search.proofs.PortionLaws.{portion-whole, portion-short}
use Rattle.mp_search.proofs.portion.has_portion.Goals as goal

pub returns-then-count-list-clause-short : goal.returns-then-count-list-clause-short
returns-then-count-list-clause-short c e =
    portion-short c.args.list.now c.args.place c.args.count c.args.rank c.args.rank c.requires.ascending c.requires.some
    c.requires.within c.requires.rank (inl (omega (arith, c.if-count-list.true)))

pub returns-clause-whole : goal.returns-clause-whole
returns-clause-whole c e = (
  omega (arith, c.if-count-list.false, c.requires.within),
  portion-whole c.args.list.now c.args.place c.args.count c.args.rank (record { 0 = 0 }) c.requires.ascending
      c.requires.some c.requires.within c.requires.rank (omega (arith, c.if-count-list.false, c.requires.within))
      (eqb-true _ _ e),
)

pub returns-clause-short : goal.returns-clause-short
returns-clause-short c e =
    portion-short c.args.list.now c.args.place c.args.count c.args.rank (record { 0 = 0 }) c.requires.ascending
    c.requires.some c.requires.within c.requires.rank
    (inr (
      omega (arith, c.if-count-list.false, c.requires.within),
      λ i.
          let wrong : true ≡ false = sym (eq-eqb _ _ i) ∙ e in cc,
    ))
