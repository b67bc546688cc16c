use Rattle.std.proofs.Common.{◌+◌, map, drop, arith, ap}
use Rattle.std.proofs.lemmas.Result.{err_from_is_err_and}
use Rattle.mp_term.proofs.ListLaws.{drop-item}
use Rattle.mp_parser.specs.View.{spot_of}
use Rattle.mp_build.specs.Checks.{symbol_faults}
use Rattle.mp_build.proofs.BuiltLists.{built-next, fails-next}
use Rattle.mp_build.proofs.declaration.new_members.Goals as goal

pub returns-in_err-name : goal.returns-in_err-name
returns-in_err-name c =
    let p = err_from_is_err_and c.from_residual.result c.from_residual.ensures.1 in
    let here = drop-item c.args.members.now c.loop-member.member-index c.member-item.result
    (omega arith) c.member-item.is in
    rw (p.1, p.2)
    (fails-next (symbol_faults c.args.sig.now) (λ m. m.text) c.in_err-name.field-0.0 c.loop-member.names _ _ _ _
    (ap (map spot_of) here) c.loop-member.invariant c.in_err-name.ensures)

pub loop-member-preserved : goal.loop-member-preserved
loop-member-preserved c =
    let here = drop-item c.args.members.now c.loop-member.member-index c.member-item.result
    (omega arith) c.member-item.is in
    built-next (symbol_faults c.args.sig.now) (λ m. m.text) c.loop-member.names _ (spot_of c.member-item.result)
    (map spot_of (drop (c.loop-member.member-index + 1) c.args.members.now)) _ _ _
    (ap (map spot_of) here) c.loop-member.invariant c.in_ok-name.ensures.0 c.in_ok-name.ensures.1
    c.in_ok-push.ensures.ok
