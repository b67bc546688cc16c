use Rattle.std.proofs.Common.{◌≡◌, ◌<◌, length, List, [], ◌∷◌, refl, arith}
use Rattle.mp_term.specs.Sorting.{sorted}
use Rattle.mp_table.specs.Table.{rank_cmp}
use Rattle.mp_table.specs.declared.rank.Rank.{Rank}
use Rattle.mp_base_tests.proofs.trails.ascend.Goals as goal

short : (rs : List Rank) → length rs < 2 → sorted rank_cmp rs ≡ rs
short [] h = refl
short (r ∷ []) h = refl
short (r ∷ s ∷ rs) h = absurd (omega (arith, h))

pub returns-in-empty : goal.returns-in-empty
returns-in-empty c = λ _. short c.args.ranks.now (omega (arith, c.in-empty.len_below))
