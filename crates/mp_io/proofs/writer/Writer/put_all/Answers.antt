use Rattle.std.proofs.Common.{◌≡◌, ℕ, ◌+◌, ◌<◌, List, ◌++◌, [], length, take, get_or, ap, sym, subst, ◌∙◌}
use Rattle.std.specs.Borrow.{Bor}
use Rattle.std.proofs.lemmas.List.{flat_map_more, take_more, take_all}
use Rattle.mp_io.specs.Devices.{Text}
use Rattle.mp_io.specs.Printing.{joined}
use Rattle.mp_io.specs.Writing.{Puts}
use Rattle.mp_io.proofs.WritingLaws.{Puts-nothing, Puts-then}
use Rattle.mp_io.proofs.writer.Writer.put_all.Goals as goal

-- the parts up to the next one
joined-take : (parts : List (Bor Text)) (i : ℕ) (d : Bor Text) → i < length parts
    → joined (take i parts) ++ (get_or parts i d).now ≡ joined (take (i + 1) parts)
joined-take parts i d h = flat_map_more (λ (part : Bor Text). part.now) [] (take i parts) (get_or parts i d)
    ∙ ap joined (sym (take_more parts i d h))

pub loop-part-init : goal.loop-part-init
loop-part-init g c = Puts-nothing g.K.Sink c.args.self.now

pub loop-part-preserved : goal.loop-part-preserved
loop-part-preserved g c =
    let none : Bor Text = record { ref_ptr = (0, 0); now = [] } in
    subst (Puts g.K.Sink c.args.self.now c.put.new.self)
    (joined-take c.args.parts.now c.loop-part.part-index none c.loop-part-test.true)
    (Puts-then g.K.Sink c.args.self.now c.loop-part.self c.put.new.self _ _ c.loop-part.invariant c.put.ensures)

pub returns : goal.returns
returns g c = subst (λ parts. Puts g.K.Sink c.args.self.now c.loop-part.self (joined parts))
    (take_all c.loop-part.part-index c.args.parts.now c.loop-part-test.false) c.loop-part.invariant
