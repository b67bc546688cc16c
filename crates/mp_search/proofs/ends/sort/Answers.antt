use Rattle.std.proofs.Common.{◌≡◌, List, [], ◌∷◌, map, refl, ap, sym, ◌∙◌}
use Rattle.mp_table.specs.Table.{rank_cmp}
use Rattle.mp_term.specs.Sorting.{sorted}
use Rattle.mp_term.proofs.Sorting.{sorted_is}
use Rattle.mp_search.proofs.ends.sort.Goals as goal
use Rattle.mp_subst.proofs.RankLists.{rank_same, rank_cmp_total}

itself : {X : Type 0} (xs : List X) → map (λ x. x) xs ≡ xs
itself [] = refl
itself (x ∷ xs) = ap (λ ys. x ∷ ys) (itself xs)

pub returns-clause-items : goal.returns-clause-items
returns-clause-items c = sym (itself c.sort_unstable.new.self.items)
    ∙ sorted_is rank_cmp rank_cmp_total rank_same (λ r. r) _ _ c.sort_unstable.ensures.permutation
    c.sort_unstable.ensures.sorted ∙ ap (sorted rank_cmp) (itself c.args.list.now.items.items)
