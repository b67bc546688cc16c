use Rattle.std.proofs.Common.{◌∙◌, sym, ap}
use Rattle.std.specs.Prelude.{nat_eq}
use Rattle.std.specs.Ordering.{is_eq}
use Rattle.std.specs.Cmp.{unsigned_ties}
use Rattle.std.specs.Cmp.Lexicographic.{lists_ties}
use Rattle.mp_table.specs.Table.{rank_cmp}
use Rattle.mp_table.proofs.RankLaws.{ranks_cmp}
use Rattle.mp_cond.proofs.ranked_atoms.same_ranks.Goals as goal

pub returns-else-as_multisets : goal.returns-else-as_multisets
returns-else-as_multisets c =
    let rs = c.args.ranks.now in
    let ss = c.args.others.now in
    rw c.if-as_multisets.false (c.eq.ensures ∙ lists_ties {E = λ r s. nat_eq r.0 s.0} rank_cmp
    (λ r s. unsigned_ties r.0 s.0) rs ss
    ∙ ap is_eq (sym (ranks_cmp c.args.table.now c.requires.table.ascending rs ss c.requires.ranks c.requires.others)))
