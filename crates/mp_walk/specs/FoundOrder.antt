-- The order of what a walk finds is total, and a pair is equal in it to itself alone.
use Rattle.std.specs.Cmp.{IsTotalOrder}
use Rattle.std.proofs.lemmas.Cmp.{lists_total, nat_cmp_total, nat_list_cmp_total, on_total, then_total}
use Rattle.mp_theory.proofs.AllList.{subst_cmp_total}
use Rattle.mp_walk.specs.Found.{found_cmp, names_of}
use Rattle.mp_walk.specs.Ranked.{ranked_cmp}

-- it is total
pub found_cmp_total : IsTotalOrder found_cmp
found_cmp_total =
    then_total (on_total (λ p. p.0) nat_cmp_total)
    (then_total (on_total (λ p. names_of p.1) (lists_total nat_list_cmp_total))
    (on_total (λ p. p.1) subst_cmp_total))

-- and so is that of pairs with their tables
pub ranked_cmp_total : IsTotalOrder ranked_cmp
ranked_cmp_total = on_total (λ r. r.pair) found_cmp_total
