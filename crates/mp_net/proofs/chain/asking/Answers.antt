use Rattle.std.proofs.Common.{◌≤◌, length, ◌∷◌, [], ap, arith}
use Rattle.std.proofs.lemmas.List.{length-append}
use Rattle.mp_net.proofs.ChainLaws.{few-ascending}
use Rattle.mp_net.proofs.chain.asking.Goals.{in-Anything, in_default+in_ok-push}
use Rattle.mp_net.proofs.chain.asking.Goals as goal

pub returns-clause-state : goal.returns-clause-state
returns-clause-state c =
    let one : length c.match-mark.heads.items ≤ 1 =
    elim c.match-mark.branch [
      | in-Anything w ↦ omega (arith, ap (λ v. length v.items) w.heads-is, ap length c.new-heads.ensures.items)
      | in_default+in_ok-push w ↦ omega (
        arith,
        ap (λ v. length v.items) w.heads-is,
        ap length w.in_ok-push.ensures.items,
        ap length c.new-heads.ensures.items,
        length-append c.new-heads.result.items (c.args.mark ∷ []),
      )
    ] in
    record { ascending = few-ascending c.match-mark.heads.items one; few = omega arith }
