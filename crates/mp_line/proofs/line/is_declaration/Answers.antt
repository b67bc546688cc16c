use Rattle.std.proofs.Common.{sym, ◌∙◌}
use Rattle.std.specs.Prelude.{ℕ, List}
use Rattle.std.specs.Borrow.{Bor}
use Rattle.mp_line.proofs.LineLaws.{declared-tells}
use Rattle.mp_line.proofs.line.is_declaration.Goals as goal

pub returns : goal.returns
returns c =
    let tells = declared-tells (λ (m : Bor (List ℕ)). m.now) c.args.word.now c.args.text.now c.between.result
    c.between.ensures in
    ((λ h. tells.0 (sym c.is_some.ensures ∙ h)), (λ d. c.is_some.ensures ∙ tells.1 d))
