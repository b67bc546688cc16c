use Rattle.std.proofs.Common.{◌≡◌, List, [], map, length, subst, ap, ◌∙◌}
use Rattle.std.specs.Prelude.{IfOk}
use Rattle.std.specs.Str.{bytes_eq}
use Rattle.mp_pattern.specs.Firsts.{firsts_after}
use Rattle.mp_build.specs.Scope.{Variable, names_of}
use Rattle.mp_build.specs.ScopeView.{variable_of}
use Rattle.mp_build.proofs.checks.variable_count.Goals as goal

pub returns : goal.returns
returns c =
    let Q : List Variable → Type 0 = λ vs.
    IfOk c.name_count.result (λ n. n ≡ length (firsts_after bytes_eq [] (names_of vs))) in
    subst Q (ap (map variable_of) c.deref.ensures.value ∙ c.in_ok-variables.ensures) c.name_count.ensures
