-- Terms of a table at two ranks.
use Rattle.std.proofs.Common.{◌≡◌, ◌≢◌, ℕ, true, false, refl, ap, sym, ◌∙◌, arith}
use Rattle.std.specs.Prelude.{nat_eq}
use Rattle.std.proofs.lemmas.Bool.Decides.{nat_tests}
use Rattle.std.proofs.lemmas.Cmp.{tied_itself}
use Rattle.std.specs.Ordering.{is_lt, is_gt, ordering_reverse}
use Rattle.std.specs.declared.cmp.Ordering.{Ordering}
use Rattle.std.specs.declared.cmp.Ordering.TheVariants.{Less, Equal, Greater}
use Rattle.mp_term.specs.Order.{tree_cmp}
use Rattle.mp_term.specs.OrderLaws.{tree_cmp_total, nat_same}
use Rattle.mp_table.specs.Table.{Table, IsTable, term_at, HasRank}
use Rattle.mp_table.specs.declared.rank.Rank.{Rank}
use Rattle.mp_table.proofs.RankLaws.{rank_order}

pub equal-from_nat_eq : (m n : ℕ) → true ≡ nat_eq m n → m ≡ n
equal-from_nat_eq m n h = grind (arith, nat_tests)

pub other-from_nat_eq : (m n : ℕ) → false ≡ nat_eq m n → m ≢ n
other-from_nat_eq m n h = grind (arith, nat_tests)

-- at other ranks stand other terms
pub other_terms : (t : Table) → IsTable t → (r s : Rank) → HasRank t r → HasRank t s → r.0 ≢ s.0
    → term_at t r ≡ term_at t s → ⊥
other_terms t is r s h k other e =
    other (nat_same r.0 s.0 (sym (rank_order t is.ascending r s h k)
    ∙ ap (tree_cmp (term_at t r)) (sym e) ∙ tied_itself tree_cmp_total (term_at t r)))

-- what is greater is less the other way round
pub is_gt-reverse : (o r : Ordering) → r ≡ ordering_reverse o → is_gt o ≡ is_lt r
is_gt-reverse Less r e = rw e refl
is_gt-reverse Equal r e = rw e refl
is_gt-reverse Greater r e = rw e refl
