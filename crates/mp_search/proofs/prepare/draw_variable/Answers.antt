use Rattle.std.proofs.Common.{ap, sym, ◌∙◌}
use Rattle.std.specs.Prelude.{option_map}
use Rattle.mp_pattern.specs.View.{pattern_tree}
use Rattle.mp_subst.specs.Bound.{bound_of, IsBoundIn}
use Rattle.mp_subst.proofs.TrailLaws.{last_value-all}
use Rattle.mp_search.proofs.PoolLaws.{no-value}
use Rattle.mp_search.proofs.SubstLaws.{has-value}
use Rattle.mp_search.specs.Reading.{subst_of}
use Rattle.mp_search.proofs.prepare.draw_variable.Goals as goal

pub draw_bound-requires-clause-bound : goal.draw_bound-requires-clause-bound
draw_bound-requires-clause-bound c =
    last_value-all (IsBoundIn c.args.query.now.table.now) c.args.trail.now.stack c.args.var (bound_of c.in-Some.bound)
    c.requires.trail.values (sym c.binding.ensures.value ∙ ap (option_map bound_of) c.in-Some.is)

pub returns-in-None-clause-made : goal.returns-in-None-clause-made
returns-in-None-clause-made c = c.draw_open.ensures.made

pub draw_open-requires-clause-var : goal.draw_open-requires-clause-var
draw_open-requires-clause-var c =
    let q = c.args.query.now in
    let p = pattern_tree c.args.site.now.child.now in
    c.free_number.ensures q (subst_of q c.args.trail.now) c.requires.number
    (no-value q p c.args.var c.args.trail.now c.requires.number
    (sym c.binding.ensures.value ∙ ap (option_map bound_of) c.in-None.is))

pub returns-in-Some-clause-made : goal.returns-in-Some-clause-made
returns-in-Some-clause-made c =
    c.draw_bound.ensures.made (subst_of c.args.query.now c.args.trail.now)
    (has-value c.args.query.now (pattern_tree c.args.site.now.child.now) c.args.var c.args.trail.now
    (bound_of c.in-Some.bound) c.requires.number (sym c.binding.ensures.value ∙ ap (option_map bound_of) c.in-Some.is))
