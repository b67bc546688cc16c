use Rattle.std.proofs.Common.{◌∙◌, sym}
use Rattle.mp_subst.proofs.BoundLaws.{same_multiset-ranks}
use Rattle.mp_subst.proofs.joining.same_rank_multiset.Goals as goal

pub returns : goal.returns
returns c = c.same_items.ensures
    ∙ sym (same_multiset-ranks c.args.table.now c.len.ensures.valid c.args.ranks.now c.args.others.now c.requires.ranks
    c.requires.others)
