use Rattle.std.proofs.Common.{◌≡◌, ◌∙◌, ◌-◌, ◌<◌, [], length, drop, sym, subst, arith}
use Rattle.std.specs.declared.cmp.Ordering.TheVariants.{Less, Greater}
use Rattle.std.specs.List.{AllByRecursion}
use Rattle.std.proofs.lemmas.List.{get_or-map, length-map}
use Rattle.mp_term.specs.Listing.{In}
use Rattle.mp_term.specs.Order.{tree_cmp}
use Rattle.mp_term.specs.OrderLaws.{tree_cmp_total, tree_same}
use Rattle.mp_term.specs.Tree.{symbol}
use Rattle.mp_term.specs.View.{tree}
use Rattle.mp_table.specs.Pieces.{piece_terms}
use Rattle.mp_table.proofs.Distinct.{in-place}
use Rattle.mp_table.proofs.Inserted.{ascends-insert, less_before, greater_more}
use Rattle.mp_table.proofs.pieces.place_of.Goals as goal

pub returns-in-Less-clause-ascending : goal.returns-in-Less-clause-ascending
returns-in-Less-clause-ascending c =
    let ps = c.args.pieces.now in
    let us = piece_terms ps in
    let x = tree c.args.term.now in
    let end = c.loop-end.end in
    let piece = c.index-pieces-end.result in
    let within : end - 1 < length ps = omega (arith, c.loop-end-test.true, c.loop-end.invariant.within) in
    ascends-insert tree_cmp tree_cmp_total x us end c.requires
    (less_before tree_cmp tree_cmp_total x us end c.requires c.loop-end-test.true
    (omega (arith, c.loop-end.invariant.within, length-map ps (λ p. tree p.term.now)))
    (λ d. subst (λ u. tree_cmp u x ≡ Less)
    (sym (get_or-map (λ p. tree p.term.now) ps (end - 1) piece d within))
    (sym c.compare.ensures ∙ c.in-Less.is)))
    c.loop-end.invariant.above

pub returns-in-Equal-clause-there : goal.returns-in-Equal-clause-there
returns-in-Equal-clause-there c = λ none.
    let ps = c.args.pieces.now in
    let us = piece_terms ps in
    let end = c.loop-end.end in
    let piece = c.index-pieces-end.result in
    let within : end - 1 < length ps = omega (arith, c.loop-end-test.true, c.loop-end.invariant.within) in
    subst (λ u. In u us)
    (get_or-map (λ p. tree p.term.now) ps (end - 1) piece (symbol []) within
    ∙ tree_same _ _ (sym c.compare.ensures ∙ c.in-Equal.is))
    (in-place us (end - 1) (symbol []) (omega (arith, within, length-map ps (λ p. tree p.term.now))))

pub loop-end-preserved : goal.loop-end-preserved
loop-end-preserved c =
    let ps = c.args.pieces.now in
    let us = piece_terms ps in
    let x = tree c.args.term.now in
    let end = c.loop-end.end in
    let piece = c.index-pieces-end.result in
    let within : end - 1 < length ps = omega (arith, c.loop-end-test.true, c.loop-end.invariant.within) in
    record {
      within = omega (arith, within);
      above = greater_more tree_cmp tree_cmp_total x us end (symbol []) c.loop-end-test.true
          (omega (arith, c.loop-end.invariant.within, length-map ps (λ p. tree p.term.now)))
          (subst (λ u. tree_cmp u x ≡ Greater)
          (sym (get_or-map (λ p. tree p.term.now) ps (end - 1) piece (symbol []) within))
          (sym c.compare.ensures ∙ c.in-Greater.is))
          c.loop-end.invariant.above;
    }

pub returns-clause-ascending : goal.returns-clause-ascending
returns-clause-ascending c =
    let us = piece_terms c.args.pieces.now in
    let x = tree c.args.term.now in
    let none : c.loop-end.end ≡ 0 = omega (arith, c.loop-end-test.false) in
    ascends-insert tree_cmp tree_cmp_total x us 0 c.requires (λ k d h. absurd (omega (arith, h)))
    (subst (λ i. AllByRecursion (λ u. tree_cmp u x ≡ Greater) (drop i us)) none c.loop-end.invariant.above)
