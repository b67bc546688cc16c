use Rattle.std.proofs.Common.{sym, ◌∙◌, subst}
use Rattle.mp_pattern.specs.View.{pattern_tree}
use Rattle.mp_search.specs.Numbers.{IsNumberAt}
use Rattle.mp_search.specs.Shares.{IsUsed}
use Rattle.mp_search.proofs.ShareLaws.{is_use-number}
use Rattle.mp_search.proofs.shares.is_use.Goals as goal

pub returns-in-Some-number_at : goal.returns-in-Some-number_at
returns-in-Some-number_at c o n =
    let q = c.args.query.now in
    let p = pattern_tree c.args.child.now in
    is_use-number q p o c.in-Some.var c.in-Some-number_at.other (sym c.is_optional.ensures ∙ c.if-is_optional.false)
    (subst (IsUsed q o) c.in-Some.is n) (subst (IsNumberAt q p) c.in-Some-number_at.is c.number_at.ensures)
