use Rattle.std.proofs.Common.{◌≡◌, true, false}
use Rattle.std.specs.Prelude.{codes}
use Rattle.mp_line.proofs.LineLaws.{stop-rest}
use Rattle.mp_line.proofs.line.is_stop.Goals as goal

pub returns-in-Some : goal.returns-in-Some
returns-in-Some c =
    let tells = stop-rest c.args.text.now c.args.own c.in-Some.rest.now c.in-Some.ensures.is in
    ((λ h. tells.0 (c.is_same.ensures.0 h)), (λ t. c.is_same.ensures.1 (tells.1 t)))

pub returns-in-None : goal.returns-in-None
returns-in-None c =
    ((λ h. (let wrong : false ≡ true = h in cc)), (λ t. absurd (c.in-None.ensures (codes "stop") t)))
