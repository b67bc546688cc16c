use Rattle.std.proofs.Common.{◌≡◌, ◌&&◌, drop, map}
use Rattle.std.specs.Prelude.{nat_le}
use Rattle.mp_term.specs.Signature.{Sig}
use Rattle.mp_pattern.specs.Extent.{Extent, templates_extent}
use Rattle.mp_parser.specs.Syntax.{trees}
use Rattle.mp_parser.specs.View.{expr_tree}
use Rattle.mp_build.specs.Build.{templates_of}
use Rattle.mp_build.specs.Scope.{extent_in}
use Rattle.mp_build.specs.ScopeView.{variable_of}
use Rattle.mp_build.proofs.given.allows_given.Given as goal

-- what is missing is missing for the arguments behind
abbrev pub invariant-loop-arg : goal.invariant-loop-arg
invariant-loop-arg l = (sig : Sig)
    → (let vs = map variable_of l.variables in
    let rest : Extent =
    templates_extent (extent_in vs) (templates_of sig (trees (map expr_tree (drop l.arg-index l.args)))) in
    let all : Extent = templates_extent (extent_in vs) (templates_of sig (trees (map expr_tree l.args))) in
    (nat_le l.missing rest.least ≡ nat_le l.decl.least all.least)
    × ((l.are_few && nat_le rest.least l.missing) ≡ nat_le all.least l.decl.least)
    × ((l.fixed && rest.fixed) ≡ all.fixed))
