use Rattle.std.proofs.Common.{sym, ap, ◌∙◌, arith}
use Rattle.mp_vm.specs.Looks.{place_of}
use Rattle.mp_vm.proofs.PlaceLaws.{place_of-none}
use Rattle.mp_vm.proofs.look.place_of_name.Goals as goal

pub returns-in-Some-clause-place : goal.returns-in-Some-clause-place
returns-in-Some-clause-place c = c.place_of_number.ensures.place ∙ ap place_of c.in-Some.ensures.is.text

pub returns-in-None-clause-place : goal.returns-in-None-clause-place
returns-in-None-clause-place c =
    sym (place_of-none c.args.name.now (λ n l e. c.in-None.ensures n (record { short = omega (arith, l); text = e })))
