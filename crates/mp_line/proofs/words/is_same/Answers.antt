use Rattle.std.proofs.Common.{sym, ◌∙◌}
use Rattle.std.proofs.lemmas.Slice.Eq.{bytes_eq-Decides}
use Rattle.mp_line.proofs.words.is_same.Goals as goal

pub returns : goal.returns
returns c =
    let decides = bytes_eq-Decides c.args.a.now c.args.b.now in
    ((λ e. decides.0 (sym c.same_bytes.ensures ∙ e)), λ e. c.same_bytes.ensures ∙ decides.1 e)
