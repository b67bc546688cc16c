-- Ranks and tables as values that give them back: by these, a proof tells them apart.
use Rattle.std.specs.Prelude.{ℕ, List, refl}
use Rattle.std.specs.Coded.{Coded, code_by, coded×, coded_list, coded_ℕ}
use Rattle.mp_term.specs.Tree.{Tree}
use Rattle.mp_term.specs.Code.{coded_tree}
use Rattle.mp_table.specs.declared.rank.Rank.{Rank}
use Rattle.mp_table.specs.Table.{Table}

-- a rank as its number
abbrev pub coded_rank : Coded Rank
coded_rank = code_by ℕ coded_ℕ (λ r. r.0) (λ n. record { 0 = n }) (λ _. refl)

-- a table as the pair of its terms and its root
abbrev pub coded_table : Coded Table
coded_table = code_by (List Tree × ℕ) (coded× (coded_list coded_tree) coded_ℕ) (λ t. (t.terms, t.root))
    (λ p. record { terms = p.0; root = p.1 }) (λ _. refl)
