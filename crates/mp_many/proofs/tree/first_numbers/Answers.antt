use Rattle.std.proofs.Common.{◌≡◌, ◌∙◌, ◌++◌, [], ◌∷◌, sym, ap, arith}
use Rattle.mp_many.specs.Groups.{count_from}
use Rattle.mp_many.proofs.CodeLaws.{count-more}
use Rattle.mp_many.proofs.tree.first_numbers.Goals as goal

pub loop-number-preserved : goal.loop-number-preserved
loop-number-preserved c =
    c.in_ok-push.ensures.items ∙ ap (λ ns. ns ++ c.loop-number.number ∷ []) c.loop-number.invariant
    ∙ sym (count-more c.loop-number.number)

pub returns : goal.returns
returns c = let all : c.loop-number.number ≡ c.args.count = omega arith in
    c.loop-number.invariant ∙ ap (count_from 0) all
