use Rattle.std.proofs.Common.{◌∙◌, ap, subst}
use Rattle.mp_io.specs.Writing.{Puts}
use Rattle.mp_print.specs.Printing.{subst_text}
use Rattle.mp_subst.specs.Trail.{subst_in}
use Rattle.mp_cursor.proofs.CursorLaws.{sig-same, subst-is}
use Rattle.mp_cursor.proofs.cursor.Cursor.put_subst.Goals as goal

pub returns : goal.returns
returns g c = λ i e.
    let d = c.self.inside in
    let l = c.args.self.now in
    subst (Puts g.K.Sink c.args.out.now c.put_trail.new.out)
    (ap (λ s. subst_text s (subst_in d.matched.table.now d.matched.plan.now.variables d.parts.trail))
    (sig-same d l c.self.view_is c.self.invariant)
    ∙ ap (subst_text l.sig) (subst-is d l c.self.view_is c.self.invariant i e)) c.put_trail.ensures
