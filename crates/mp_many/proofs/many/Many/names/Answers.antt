use Rattle.std.proofs.Common.{◌≡◌, ◌<◌, length, ap, subst, sym, arith}
use Rattle.std.specs.Prelude.{IfSome, slice_get}
use Rattle.std.proofs.lemmas.List.{length-map}
use Rattle.std.proofs.lemmas.Option.{get_or_from_slice_get}
use Rattle.mp_pattern.specs.Admission.{Rule}
use Rattle.mp_pattern.specs.Variables.{variables}
use Rattle.mp_many.proofs.RuleNameLaws.{variables-at}
use Rattle.mp_many.proofs.many.Many.names.Goals as goal

pub get-requires : goal.get-requires
get-requires c =
    let m = c.self.inside in
    omega (
      arith,
      c.requires,
      ap length c.self.invariant.names,
      length-map m.rules.now (λ (r : Rule). variables r.pattern),
      ap (λ v. length v.rules) c.self.view_is,
    )

pub returns-clause-names : goal.returns-clause-names
returns-clause-names c =
    let m = c.self.inside in
    let within : c.args.rule < length m.rules.now =
    omega (arith, c.requires, ap (λ v. length v.rules) c.self.view_is) in
    let held = sym (get_or_from_slice_get m.names c.args.rule c.get.result.now c.get.result.now c.get.ensures) in
    subst (λ v. IfSome (slice_get v.rules c.args.rule) (λ r. c.get.result.now ≡ variables r.pattern)) c.self.view_is
    (variables-at m.rules.now m.names c.args.rule c.get.result.now within c.self.invariant.names held)
