use Rattle.std.proofs.Common.{ap, sym, ◌∙◌}
use Rattle.std.specs.Option.{is_some}
use Rattle.mp_term.proofs.SignatureLaws.{is_some-option_map}
use Rattle.mp_pattern.specs.View.{pattern_tree}
use Rattle.mp_subst.specs.Bound.{bound_of}
use Rattle.mp_search.proofs.OneWayLaws.{told-bound}
use Rattle.mp_search.proofs.PartLaws.{stands-first}
use Rattle.mp_search.proofs.told.has_value.Goals as goal

pub number_at-requires-clause-child : goal.number_at-requires-clause-child
number_at-requires-clause-child c =
    stands-first c.args.query.now c.args.node (pattern_tree c.args.child.now) c.requires.child

pub returns-in-Some : goal.returns-in-Some
returns-in-Some c = λ h.
    told-bound c.args.query.now (pattern_tree c.args.child.now) c.in-Some.var c.args.trail.now c.in-Some.ensures
    c.requires.wild (ap is_some (sym c.binding.ensures.value)
    ∙ is_some-option_map bound_of c.binding.result ∙ sym c.is_some.ensures ∙ h)
