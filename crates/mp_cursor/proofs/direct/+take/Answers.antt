use Rattle.mp_term.specs.View.{tree}
use Rattle.mp_pattern.specs.View.{pattern_tree}
use Rattle.mp_subst.specs.View.{subst_of}
use Rattle.mp_cursor.proofs.DirectLaws.{all_taken-empty}
use Rattle.mp_cursor.proofs.direct.+take.Goals as goal

pub take_each-returns-in-empty : goal.take_each-returns-in-empty
take_each-returns-in-empty t c =
    all_taken-empty c.args.sig.now pattern_tree c.args.children.now tree c.args.args.now (subst_of c.args.subst.now)
    c.is_empty.result c.in-empty.len_below c.is_empty.ensures
