-- The subject of a table.
use Rattle.std.proofs.Common.{◌≡◌, [], ap}
use Rattle.std.specs.Prelude.{slice_index_or}
use Rattle.mp_term.specs.Tree.{symbol}
use Rattle.mp_table.specs.Table.{Table, term_at, subject_of}
use Rattle.mp_table.specs.declared.rank.Rank.{Rank}

-- the subject is the root's term
pub root-term : (t : Table) (r : Rank) → r.0 ≡ t.root → term_at t r ≡ subject_of t
root-term t r e = ap (λ n. slice_index_or t.terms n (symbol [])) e
