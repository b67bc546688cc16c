use Rattle.std.proofs.Common.{◌≡◌, arith}
use Rattle.mp_net.specs.View.{mark_of}
use Rattle.mp_net.specs.Net as net
use Rattle.mp_net.specs.Items.{tables}
use Rattle.std.specs.Prelude.{[], slice_get}
use Rattle.mp_net.proofs.ItemLaws.{first-held, first-none}
use Rattle.mp_net.proofs.item.first.Goals as goal

pub returns-in-None : goal.returns-in-None
returns-in-None c =
    let z : c.args.item.free ≡ 0 = grind (arith, c.if-item-ne0.false) in
    first-none c.args.item.rule c.args.item.free c.args.item.at (net.held_or []
    (slice_get (tables c.args.marks.now) c.args.item.rule)) z c.in-None.ensures.is

pub returns-in-Some : goal.returns-in-Some
returns-in-Some c =
    let z : c.args.item.free ≡ 0 = grind (arith, c.if-item-ne0.false) in
    first-held c.args.item.rule c.args.item.free c.args.item.at (mark_of c.in-Some.mark)
    (net.held_or [] (slice_get (tables c.args.marks.now) c.args.item.rule)) z c.in-Some.ensures.is
