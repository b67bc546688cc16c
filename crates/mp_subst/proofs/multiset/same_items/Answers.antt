use Rattle.std.proofs.Common.{◌≡◌, ◌+◌, ap, sym, ◌∙◌, length, drop, add-one, subst, suc, [], ◌∷◌, arith}
use Rattle.std.specs.List.{AllByRecursion}
use Rattle.std.proofs.lemmas.List.{drop_all}
use Rattle.std.proofs.Math.Seq.{drop-cons}
use Rattle.mp_subst.proofs.Multisets.{Alike, same_multisets, other_lengths, other_multiplicity}
use Rattle.mp_subst.proofs.multiset.same_items.Goals as goal

pub returns-then-items-others : goal.returns-then-items-others
returns-then-items-others g c =
    other_lengths g.T.Ord.cmp g.met.T.Ord.total c.args.items.now c.args.others.now
    (λ e. omega (arith, c.if-items-others.true, e))

pub returns-then-occurrences : goal.returns-then-occurrences
returns-then-occurrences g c =
    other_multiplicity g.T.Ord.cmp g.met.T.Ord.total c.args.items.now c.args.others.now c.item-item.result
    (λ e. omega (arith, c.if-occurrences.true, c.occurrences.ensures, e, c.occurrences-in-loop-item.ensures))

pub loop-item-preserved : goal.loop-item-preserved
loop-item-preserved g c = λ h.
    let xs = c.args.items.now in
    let i = c.loop-item.item-index in
    let x = c.item-item.result in
    let next : drop i xs ≡ x ∷ drop (i + 1) xs = drop-cons xs i x c.loop-item-test.true
    ∙ ap (λ y. y ∷ drop (suc i) xs) (sym c.item-item.is) ∙ ap (λ n. x ∷ drop n xs) (sym (add-one i)) in
    let alike : Alike g.T.Ord.cmp xs c.args.others.now x =
    omega (arith, c.occurrences.ensures, c.if-occurrences.false, c.occurrences-in-loop-item.ensures) in
    c.loop-item.invariant (subst (AllByRecursion (Alike g.T.Ord.cmp xs c.args.others.now)) (sym next) (alike, h))

pub returns : goal.returns
returns g c =
    let xs = c.args.items.now in
    let ys = c.args.others.now in
    let lengths : length xs ≡ length ys = omega (arith, c.if-items-others.false) in
    let none : drop c.loop-item.item-index xs ≡ [] =
    drop_all c.loop-item.item-index xs (omega (arith, c.loop-item-test.false)) in
    same_multisets g.T.Ord.cmp g.met.T.Ord.total xs ys lengths
    (c.loop-item.invariant (subst (AllByRecursion (Alike g.T.Ord.cmp xs ys)) (sym none) tt))
