use Rattle.mp_cursor.proofs.CursorLaws.{binding-is}
use Rattle.mp_cursor.proofs.cursor.Cursor.binding.Goals as goal

pub returns : goal.returns
returns c = λ i e. binding-is c.self.inside c.args.self.now c.self.view_is c.self.invariant i e c.args.var
    c.binding.result c.binding.ensures.value
