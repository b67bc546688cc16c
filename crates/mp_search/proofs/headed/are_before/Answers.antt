use Rattle.std.proofs.Common.{subst, sym, ◌∙◌, arith, IfSome}
use Rattle.std.specs.declared.cmp.Ordering.TheVariants.{Less, Equal, Greater}
use Rattle.mp_table.specs.Table.{HasRank}
use Rattle.mp_search.proofs.PlacesLaws.{args_before-first}
use Rattle.mp_search.proofs.headed.are_before.Goals as goal

pub returns-in-Less : goal.returns-in-Less
returns-in-Less c =
    args_before-first c.args.table.now c.requires.table c.args.past c.args.group.now.count c.args.group.now.first
    c.in-Some.first (record { 0 = 0 }) c.args.args.now Less
    (subst (λ o. IfSome o (HasRank c.args.table.now)) c.in-Some.is c.requires.first) c.requires.args c.in-Some.is
    (omega (arith, c.if-args-group.false)) c.in-len1-up.len_at_least (sym c.cmp.ensures ∙ c.in-Less.is)

pub returns-in-Equal : goal.returns-in-Equal
returns-in-Equal c =
    args_before-first c.args.table.now c.requires.table c.args.past c.args.group.now.count c.args.group.now.first
    c.in-Some.first (record { 0 = 0 }) c.args.args.now Equal
    (subst (λ o. IfSome o (HasRank c.args.table.now)) c.in-Some.is c.requires.first) c.requires.args c.in-Some.is
    (omega (arith, c.if-args-group.false)) c.in-len1-up.len_at_least (sym c.cmp.ensures ∙ c.in-Equal.is)

pub returns-in-Greater : goal.returns-in-Greater
returns-in-Greater c =
    args_before-first c.args.table.now c.requires.table c.args.past c.args.group.now.count c.args.group.now.first
    c.in-Some.first (record { 0 = 0 }) c.args.args.now Greater
    (subst (λ o. IfSome o (HasRank c.args.table.now)) c.in-Some.is c.requires.first) c.requires.args c.in-Some.is
    (omega (arith, c.if-args-group.false)) c.in-len1-up.len_at_least (sym c.cmp.ensures ∙ c.in-Greater.is)
