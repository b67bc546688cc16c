use Rattle.std.proofs.Common.{◌∙◌, ap, inl, inr, length, arith}
use Rattle.std.specs.Prelude.{Some}
use Rattle.mp_many.proofs.CodeLaws.{IsDown, IsOver, link-set}
use Rattle.mp_many.proofs.states.link_state.Goals as goal
use Rattle.mp_many.proofs.states.link_state.Goals.{then-own-len, else-own-len, then-more, else-more}

pub returns : goal.returns
returns c =
    let is = c.args.states.now in
    let down : IsDown c.args.own (length is) c.if-own-len.down = elim c.if-own-len.branch [
      | then-own-len w ↦ inl (omega (arith, w.if-own-len.true, c.len.ensures), w.down-is)
      | else-own-len w ↦ inr (omega (arith, w.if-own-len.false, c.len.ensures), w.down-is)
    ] in
    let over : IsOver c.args.more (length is) c.if-more.over = elim c.if-more.branch [
      | then-more w ↦ inl (w.if-more.true, w.over-is ∙ ap Some c.in_ok-behind.ensures)
      | else-more w ↦ inr (w.if-more.false, w.over-is)
    ] in
    link-set is c.args.own c.args.more c.link.new.self c.if-own-len.down c.if-more.over c.requires c.link.ensures down
    over
