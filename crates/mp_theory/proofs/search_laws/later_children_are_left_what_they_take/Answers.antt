use Rattle.std.proofs.Common.{◌≤◌, ◌+◌, ◌*◌, subst, sym, arith, length}
use Rattle.mp_term.specs.Order.{tree_cmp}
use Rattle.mp_term.specs.Pieces.{without}
use Rattle.mp_theory.specs.Known.{reserved, uses_of, all_most_known}
use Rattle.mp_theory.proofs.Cuts.{count}
use Rattle.mp_theory.proofs.ReservedTerms.{reserved-left, uses-left, lengths-left}
use Rattle.mp_theory.proofs.UpperBounds.{most-left}
use Rattle.mp_theory.proofs.SupplyLaws.{passing-count}
use Rattle.mp_theory.proofs.Bounds.{reaches-at_most}
use Rattle.mp_theory.proofs.search_laws.later_children_are_left_what_they_take.Goals as goal

pub returns-clause-terms : goal.returns-clause-terms
returns-clause-terms c = λ sig k p f fs s e i z q h. omega (
  arith,
  reserved-left sig z k p f fs s e i q h,
  passing-count z e.terms,
  passing-count z (reserved sig s f.under f.children),
  passing-count z f.left,
)

pub returns-clause-uses : goal.returns-clause-uses
returns-clause-uses c = λ sig k w x f fs s e i z plain none q h. omega (
  arith,
  subst (λ n. (1 + uses_of x f.children) * n + count z (reserved sig s f.under f.children) ≤ count z f.left)
      (sym (passing-count z e.terms)) (uses-left sig z k w x f fs s e i plain none q h),
  passing-count z (reserved sig s f.under f.children),
  passing-count z f.left,
)

pub returns-clause-least : goal.returns-clause-least
returns-clause-least c = lengths-left

pub returns-clause-most : goal.returns-clause-most
returns-clause-most c = λ sig k p f fs s e i q h.
    reaches-at_most (length (without tree_cmp e.terms f.left)) (all_most_known sig s f.under f.children)
    (most-left sig k p f fs s e i q h)
