-- Ranks are equal where they compare as equal.
use Rattle.std.proofs.Common.{◌≡◌, ap}
use Rattle.std.specs.Cmp.{IsTotalOrder, on_total}
use Rattle.std.proofs.lemmas.Cmp.{nat_cmp_total}
use Rattle.std.specs.declared.cmp.Ordering.TheVariants.{Equal}
use Rattle.mp_term.specs.OrderLaws.{nat_same}
use Rattle.mp_table.specs.Table.{rank_cmp}
use Rattle.mp_table.specs.declared.rank.Rank.{Rank}

pub rank_cmp_total : IsTotalOrder rank_cmp
rank_cmp_total = on_total (λ r. r.0) nat_cmp_total

pub rank_same : (r s : Rank) → rank_cmp r s ≡ Equal → r ≡ s
rank_same r s e = ap (λ n. record { 0 = n }) (nat_same r.0 s.0 e)
