use Rattle.std.proofs.Common.{ap, sym, ◌∙◌, subst}
use Rattle.std.specs.Prelude.{Some, option_map}
use Rattle.mp_pattern.specs.View.{pattern_tree}
use Rattle.mp_subst.specs.Bound.{bound_of, IsBoundIn}
use Rattle.mp_subst.proofs.TrailLaws.{last_value-all}
use Rattle.mp_search.specs.Frames.{above}
use Rattle.mp_search.specs.Numbers.{IsNumberAt}
use Rattle.mp_search.proofs.ShareLaws.{length-none, length-some}
use Rattle.mp_search.proofs.shares.length_known.Goals as goal

pub contributed_length-requires : goal.contributed_length-requires
contributed_length-requires c =
    last_value-all (IsBoundIn c.args.query.now.table.now) c.args.trail.now.stack c.in_ok-var.var
    (bound_of c.in-Some.bound)
    c.requires.trail.values (sym c.binding.ensures.value ∙ ap (option_map bound_of) c.in-Some.is)

pub returns-in-None : goal.returns-in-None
returns-in-None c =
    let q = c.args.query.now in
    let p = pattern_tree c.args.child.now in
    length-none q c.args.trail.now q.sig.now (above c.args.under) p c.in_ok-var.var
    (subst (IsNumberAt q p) c.in_ok-var.was c.number_at.ensures)
    (sym c.binding.ensures.value ∙ ap (option_map bound_of) c.in-None.is)

pub returns-in-Some : goal.returns-in-Some
returns-in-Some c =
    let q = c.args.query.now in
    let p = pattern_tree c.args.child.now in
    ap Some c.contributed_length.ensures
    ∙ length-some q c.args.trail.now q.sig.now (above c.args.under) p c.in_ok-var.var (bound_of c.in-Some.bound)
    (subst (IsNumberAt q p) c.in_ok-var.was c.number_at.ensures)
    (sym c.binding.ensures.value ∙ ap (option_map bound_of) c.in-Some.is)
