use Rattle.std.proofs.Common.{sym, ◌∙◌}
use Rattle.mp_search.proofs.OpenLaws.{left-sorted}
use Rattle.mp_search.proofs.look.are_short.Goals as goal

pub mark_rivals-requires-clause-ascending : goal.mark_rivals-requires-clause-ascending
mark_rivals-requires-clause-ascending c =
    left-sorted c.args.query.now c.args.site.now c.requires.query c.requires.site
    (sym c.is_comm_above.ensures ∙ c.if-not-is_comm_above.false)

pub returns : goal.returns
returns c = λ h. (c.mark_rivals.new.marks, c.are_lacking.ensures h)
