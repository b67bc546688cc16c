use Rattle.std.proofs.Common.{[], arith, sym}
use Rattle.mp_print.proofs.KeptTextLaws.{IsWithin-behind_comma}
use Rattle.mp_print.proofs.rank_printer.put_first.Goals as goal
use Rattle.mp_io.proofs.WritingLaws.{Puts-nothing}

pub overflow_add-result : goal.overflow_add-result
overflow_add-result g c =
    let kept = c.in-Some.ensures c.args.sig.now c.requires in
    omega (arith, (IsWithin-behind_comma c.args.base.now.texts.now _ c.in-Some.part kept.0 kept.1).0.ordered)

pub returns-in-Some-clause-within : goal.returns-in-Some-clause-within
returns-in-Some-clause-within g c =
    let kept = c.in-Some.ensures c.args.sig.now c.requires in
    (IsWithin-behind_comma c.args.base.now.texts.now _ c.in-Some.part kept.0 kept.1).0

pub returns-in-Some-clause-puts : goal.returns-in-Some-clause-puts
returns-in-Some-clause-puts g c =
    let kept = c.in-Some.ensures c.args.sig.now c.requires in
    record {
      front = [];
      split = sym (IsWithin-behind_comma c.args.base.now.texts.now _ c.in-Some.part kept.0 kept.1).1;
      put = Puts-nothing g.K.Sink c.args.out.now;
    }
